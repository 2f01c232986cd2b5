-- What a line that was read gives: the parts of its message.
use Prim.Native.Nat.{ℕ, ◌≤◌}
use mathlib.Core.Path.{◌≡◌, refl, ap, sym, ◌∙◌}
use mathlib.Core.Bool.{Bool, true, false, cond, ◌&&◌}
use mathlib.Core.List.{List}
use native.Mathlib.Omega.{arith}
use lib.ListN.{length, take, drop}
use borrow.Author.Tests.{leb-true}
use Rattle.message.specs.Message.{Message}
use Rattle.line.specs.declared.Header.{Header}
use Rattle.line.specs.Line.{malformed, message, parse, line_size, all_valid, behind, read_head, word}
use Rattle.line.specs.Argument as lines
use Rattle.line.specs.Answer.{header}
use Rattle.line.proofs.Carried.{Carries, carried}
use Rattle.machine.specs.Requests.{argument}
use Rattle.machine.proofs.TestLaws.{and_true}
use Rattle.request.specs.Reading.{message_in, message_of, IsRead}

read_short : (line : List ℕ) (m : Message) → parse line ≡ message m → length line ≤ 2048
unfolding parse
read_short line m e = go (line_size line && all_valid (behind line)) refl e
  where
    go : (t : Bool) → (line_size line && all_valid (behind line)) ≡ t → cond t (read_head (word line) (behind line)) malformed ≡ message m → length line ≤ 2048
    go true q e = leb-true (length line) 2048 (and_true (line_size line) (all_valid (behind line)) q).0
    go false q e = absurd (let z : ◌≡◌ {A = ℕ} 0 1 = cc in omega arith)

module _ (line : List ℕ) (head : Header) (h : IsRead line head) where
  abbrev own : Message
  own = (carried line head h).0

  has : Carries line own
  has = (carried line head h).1

  numbers : head ≡ header own
  numbers = (carried line head h).2

  own_is : message_of line ≡ own
  unfolding message_of
  own_is = ap message_in has.reads

  pub message_is : parse line ≡ message (message_of line)
  message_is = has.reads ∙ ap message (sym own_is)

  pub kind_is : head.kind ≡ (message_of line).kind
  kind_is = ap (λ (x : Header). x.kind) numbers ∙ ap (λ (m : Message). m.kind) (sym own_is)

  pub id_is : head.id ≡ (message_of line).id
  id_is = ap (λ (x : Header). x.id) numbers ∙ ap (λ (m : Message). m.id) (sym own_is)

  pub count_is : head.count ≡ length (message_of line).args
  count_is = ap (λ (x : Header). x.count) numbers ∙ ap (λ (m : Message). length m.args) (sym own_is)

  pub name_is : take head.name (drop 1 line) ≡ (message_of line).name
  name_is = ap (λ (x : Header). take x.name (drop 1 line)) numbers ∙ (has.name ∙ ap (λ (m : Message). m.name) (sym own_is))

  pub argument_is : (k : ℕ) → lines.argument line k ≡ argument (message_of line) k
  argument_is k = has.arg k ∙ ap (λ (m : Message). argument m k) (sym own_is)

  pub short : length line ≤ 2048
  short = read_short line own has.reads
