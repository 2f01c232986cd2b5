-- What deliveries come to: to clients below 8, each message sound, and so many bytes in all.
use Prim.Native.Nat.{ℕ, ◌+◌, ◌*◌, ◌≤◌, ◌<◌}
use native.Mathlib.Nat.{le_trans, mul-le-mul_right}
use native.Mathlib.Omega.{arith}
use mathlib.Core.Path.{◌≡◌, ap, ◌∙◌}
use mathlib.Core.Bool.{Bool, true, false}
use mathlib.Core.List.{List, [], ◌∷◌, ◌++◌}
use lib.ListN.{length, length-append, length-map}
use Rattle.output.specs.Text.{text}
use Rattle.output.specs.Number.{decimal}
use Rattle.output.proofs.LengthLaws.{length-decimal}
use Rattle.message.specs.Message.{Message, write, line}
use Rattle.message.specs.Delivery.{Delivery, to, header, deliveries}
use Rattle.message.proofs.MessageLaws.{line_end}
use Rattle.line.proofs.ParsedHead.{Head}
use Rattle.machine.specs.Places.{one_if, Each}
use Rattle.machine.specs.Messages.{to_where, all_to, count_reply, counted_answer}
use Rattle.machine.proofs.PlacesLaws.{each_append, each_gather, each_one, each_weaker, each_map, gather-length}
use Rattle.machine.proofs.LineLengths.{Sound, sound_reply}

-- a delivery to one of the eight clients, of a message of at most so many bytes
pub record Served (most : ℕ) (d : Delivery) : Type 0 where
  pub client_below : d.client < 8
  pub sound : Sound most d.message

pub served : {most c : ℕ} {m : Message} → c < 8 → Sound most m → Served most (to c m)
served h k = record { client_below = h; sound = k }

pub length-line : (m : Message) → length (line m) ≡ length (write m) + 1
length-line m = ap length (line_end m) ∙ length-append (write m) (10 ∷ [])

deliveries_most : (most : ℕ) (ds : List Delivery) → Each (Served most) ds → length (deliveries ds) ≤ length ds * (most + 4)
unfolding deliveries
deliveries_most most [] h = omega arith
deliveries_most most (d ∷ ds) h =
    omega (
      arith,
      length-append (header d.client (length (line d.message)) ++ line d.message) (deliveries ds),
      length-line d.message,
      h.0.sound.length_most,
      deliveries_most most ds h.1,
    )

-- more bytes allowed
sound_more : (most more : ℕ) → most ≤ more → (m : Message) → Sound most m → Sound more m
sound_more most more h m k = record { head = k.head; length_most = le_trans k.length_most h }

pub served_more : (most more : ℕ) → most ≤ more → (ds : List Delivery) → Each (Served most) ds → Each (Served more) ds
served_more most more h = each_weaker (Served most) (Served more) (λ d k. record { client_below = k.client_below; sound = sound_more most more h d.message k.sound })

-- what a call may send
pub record Sendable (ds : List Delivery) : Type 0 where
  pub size : length (deliveries ds) ≤ 65536
  pub all_served : Each (Served 2048) ds

-- at most n deliveries of messages of at most so many bytes
pub sendable : (n most : ℕ) (ds : List Delivery) → n * (most + 4) ≤ 65536 → most ≤ 2048 → length ds ≤ n → Each (Served most) ds → Sendable ds
sendable n most ds h k l e = record {
  size = le_trans (deliveries_most most ds e) (le_trans (mul-le-mul_right (most + 4) l) h);
  all_served = served_more most 2048 k ds e;
}

pub nothing_sent : Sendable []
nothing_sent = sendable 0 0 [] (omega arith) (omega arith) (omega arith) tt

pub one_sent : (d : Delivery) → Served 1300 d → Sendable (d ∷ [])
one_sent d h = sendable 1 1300 (d ∷ []) (omega arith) (omega arith) (omega arith) (h, tt)

-- To several clients.

pub one-length : {A : Type 0} (b : Bool) (x : A) → length (one_if b x) ≤ 1
one-length true x = omega arith
one-length false x = omega arith

pub where_length : (is : ℕ → Bool) (m : Message) → length (to_where is m) ≤ 8
unfolding to_where
where_length is m = gather-length (λ c. one_if (is c) (to c m)) 1 8 (λ c. one-length (is c) (to c m))

pub served_where : (most : ℕ) (is : ℕ → Bool) (m : Message) → Sound most m → Each (Served most) (to_where is m)
unfolding to_where
served_where most is m k = each_gather (Served most) (λ c. one_if (is c) (to c m)) 8 (λ c h. each_one (Served most) (is c) (to c m) (λ e. served h k))

-- Informs and the reply that counts them.

served_all : (most c : ℕ) → c < 8 → (ms : List Message) → Each (Sound most) ms → Each (Served most) (all_to c ms)
served_all most c h ms k = each_map (Served most) (to c) ms (each_weaker (Sound most) (λ m. Served most (to c m)) (λ m. served h) ms k)

sound_count : (m : Message) (n : ℕ) → Head m → n ≤ 32 → Sound 1300 (count_reply m n)
sound_count m n r h = sound_reply 1300 m (text "ok" ∷ decimal n ∷ []) r (omega (arith, length-decimal 1 n (omega arith) (omega arith)))

pub counted_sent : (c : ℕ) (m : Message) (informs : List Message) → c < 8 → Head m → length informs ≤ 32 → Each (Sound 1300) informs → Sendable (counted_answer c m informs)
unfolding counted_answer
counted_sent c m informs h r l k =
    sendable 33 1300 (all_to c informs ++ (to c (count_reply m (length informs)) ∷ [])) (omega arith) (omega arith)
    (omega (arith, length-append (all_to c informs) (to c (count_reply m (length informs)) ∷ []), length-map informs (to c)))
    (each_append (Served 1300) (all_to c informs) _ (served_all 1300 c h informs k) (served h (sound_count m (length informs) r l), tt))
