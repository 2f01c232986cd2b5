-- The texts and codes of the rows that refuse a line. Replies look at a request's name and id alone.
use Prim.Native.Nat.{ℕ, ◌-◌}
use mathlib.Core.Path.{◌≡◌, refl, ap, ◌∙◌}
use mathlib.Core.Bool.{Bool, true, false, cond, ◌||◌}
use mathlib.Core.List.{List, [], ◌∷◌}
use lib.Dec.{eqb}
use Rattle.output.specs.Text.{text}
use Rattle.output.specs.Output.{Output}
use Rattle.texts.specs.Table.{word_of}
use Rattle.message.specs.Message.{Message, message}
use Rattle.message.specs.Delivery.{to, Sent}
use Rattle.message.proofs.DeliveryLaws.{as_sent}
use Rattle.machine.specs.Messages.{log_entry, refusal_text, refusal_code, refusal_reply}
use Rattle.request.specs.Effects.{code_place}
use Rattle.replies.specs.Asking.{asking}

-- the texts of the rows, and the codes
abbrev texts : List ℕ
texts = text "Not a message.|Unexpected reply.|Unknown request.|Wrong number of arguments.|Unknown sensor.|Unknown strategy.|Strategy not for this type.|Bad parameter.|Shortest exceeds longest.|Sensor named twice.|Unknown level.|Unknown request."

abbrev codes : List ℕ
codes = text "invalid|fail"

text_of : (n : ℕ) → word_of texts (n - 12) ≡ refusal_text n
unfolding word_of refusal_text
text_of n = refl

code_word : (n : ℕ) → word_of codes (code_place n) ≡ refusal_code n
unfolding word_of
code_word n = go (eqb n 16 || (eqb n 18 || eqb n 23))
  where
    go : (b : Bool) → word_of codes (cond b 1 0) ≡ cond b (text "fail") (text "invalid")
    go true = refl
    go false = refl

module _ {p q : Output} {c : ℕ} where
  -- an entry with the text of its row, by its number
  pub entered : (clock n : ℕ) {l : ℕ} {why : List ℕ} → l ≡ n → why ≡ word_of texts (l - 12) → Sent p (to c (log_entry 2 clock (text "katcp") why) ∷ []) q
      → Sent p (to c (log_entry 2 clock (text "katcp") (refusal_text n)) ∷ []) q
  entered clock n d e h = rw (e ∙ (ap (λ k. word_of texts (k - 12)) d ∙ text_of n)) at h

module _ {p q : Output} {c : ℕ} {name : List ℕ} {id : ℕ} where
  -- a reply with the code and the text of its row
  pub refused_with_lem : {code why : List ℕ} {k l : ℕ} (n : ℕ) → k ≡ code_place n → code ≡ word_of codes k → l ≡ n → why ≡ word_of texts (l - 12)
      → Sent p (to c (message 33 name id (code ∷ why ∷ [])) ∷ []) q → Sent p (to c (refusal_reply (asking name id) n) ∷ []) q
  refused_with_lem n f d g e h = rw (d ∙ ap (word_of codes) f ∙ code_word n, e ∙ (ap (λ k. word_of texts (k - 12)) g ∙ text_of n)) at h

  -- a request by its name and its id
  pub refused_for : (m : Message) (n : ℕ) → name ≡ m.name → id ≡ m.id → Sent p (to c (refusal_reply (asking name id) n) ∷ []) q → Sent p (to c (refusal_reply m n) ∷ []) q
  refused_for m n e f h = as_sent h (rw (e, f))
