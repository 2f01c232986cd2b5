-- Laws of deliveries: the line on the part after its header, deliveries one after another, and all of them where they fit.
use Prim.Native.Nat.{ℕ, ◌+◌, ◌-◌, ◌/◌, ◌%◌, ◌≤◌, ◌<◌, min}
use native.Mathlib.Nat.{eq-zero-or-pos, zero-add}
use native.Mathlib.Omega.{arith}
use mathlib.Core.Logic.{⊎_elim}
use mathlib.Core.Path.{◌≡◌, refl, ap, sym, ◌∙◌}
use mathlib.Core.List.{List, [], ◌∷◌, ◌++◌, append_assoc, append-nil}
use lib.ListN.{length, take, drop, length-append, length-drop, drop_of_length-le}
use lib.Seq.{take_all, take-length, drop-length, take-append-le, take-take, drop_at, length-take-le}
use Rattle.output.specs.Output.{Output, output, put_all, Wrote, laid}
use Rattle.output.proofs.OutputLaws.{put_all-append, same, put_fits, put_at, put_end, put_full, put_within, shift, put_shift}
use Rattle.message.specs.Message.{Message, line}
use Rattle.message.specs.Delivery.{Delivery, Packet, to, packet, header, deliveries, sent, deliver, deliver_all, Sent}

-- A delivery: the line on the part after the first three bytes, then those three. Here they fit ..
module _ (xs : List ℕ) (at n p : ℕ) (hdr l part out : List ℕ) (three : length hdr ≡ 3) where
  fits : at + 3 ≤ length xs → Wrote (output (drop (at + 3) xs) 0) l (output part n) → Wrote (output (take (at + 3) xs ++ part) at) hdr (output out p)
      → output out (p + n) ≡ put_all (output xs at) (hdr ++ l)
  fits h e f =
      let room : at + length hdr ≤ length xs = omega arith in
      let wide : length (take (at + 3) xs) ≡ at + 3 = length-take-le (at + 3) xs h in
      let room' : at + length hdr ≤ length (take (at + 3) xs ++ part) = rw (length-append, wide) (omega arith) in
      let front : take at (take (at + 3) xs ++ part) ≡ take at xs = take-append-le at (take (at + 3) xs) part (omega arith) ∙ take-take at (at + 3) xs (omega arith) in
      let back : drop (at + length hdr) (take (at + 3) xs ++ part) ≡ part = drop_at (take (at + 3) xs) part (at + length hdr) (omega arith) in
      let q : output out p ≡ output (take at xs ++ (hdr ++ part)) (at + length hdr) = f.is ∙ put_fits hdr (take (at + 3) xs ++ part) at room' ∙ rw (front, back) in
      let o : out ≡ take at xs ++ (hdr ++ part) = ap (λ (x : Output). x.bytes) q in
      let w : p ≡ at + length hdr = ap (λ (x : Output). x.at) q in
      let la : length (take at xs ++ hdr) ≡ at + 3 = rw (length-append, length-take-le at xs (omega arith)) (omega arith) in
      let z : length (take at xs ++ hdr) + 0 ≡ at + 3 = omega arith in
      let head : put_all (output xs at) hdr ≡ shift (take at xs ++ hdr) (output (drop (at + 3) xs) 0) = put_fits hdr xs at room ∙ rw (three, append_assoc, z) in
      let body : put_all (shift (take at xs ++ hdr) (output (drop (at + 3) xs) 0)) l ≡ shift (take at xs ++ hdr) (output part n) =
      put_shift l (take at xs ++ hdr) (drop (at + 3) xs) 0 ∙ ap (shift (take at xs ++ hdr)) (sym e.is) in
      let end : p + n ≡ length (take at xs ++ hdr) + n = omega arith in
      rw (put_all-append, head, body, o, end, append_assoc)

  -- .. and here not
  short : length xs < at + 3 → Wrote (output (drop (length xs) xs) 0) l (output part n) → Wrote (output (take (length xs) xs ++ part) at) hdr (output out p)
      → output out (p + n) ≡ put_all (output xs at) (hdr ++ l)
  short h e f =
      let none : output part n ≡ output [] 0 = e.is ∙ rw (drop-length xs, put_full l []) in
      let b : part ≡ [] = ap (λ (x : Output). x.bytes) none in
      let z : n ≡ 0 = ap (λ (x : Output). x.at) none in
      let q : output out p ≡ put_all (output xs at) hdr = f.is ∙ rw (b, append-nil, take-length xs) in
      let w : p ≡ length xs = ap (λ (x : Output). x.at) q ∙ put_end hdr xs at (omega arith) (omega arith) in
      let m : length out ≡ length xs = same {p = output xs at} {bs = hdr} (record { is = q }) in
      let y : p + n ≡ length out = omega arith in
      let v : p ≡ length out = omega arith in
      rw (put_all-append, ← q, y, v, put_full l out)

-- q is p with one delivery on it
pub record Delivered (p : Output) (client : ℕ) (l : List ℕ) (q : Output) : Type 0 where
  pub is : q ≡ deliver p (record { client = client; bytes = l })

-- the part after the header is lent to the line's writer, and the header is put before it
pub delivered : (xs : List ℕ) (at client n p : ℕ) (l part out : List ℕ) (start : ℕ) → start ≡ min (at + 3) (length xs)
    → Wrote (output (take (length xs - start) (drop start xs)) 0) l (output part n)
    → Wrote (output (take start xs ++ (part ++ drop (length xs - start) (drop start xs))) at) (header client n) (output out p)
    → Delivered (output xs at) client l (output out (p + n))
delivered xs at client n p l part out start s e f =
    let k : length (drop start xs) ≤ length xs - start = rw length-drop (omega arith) in
    let all : take (length xs - start) (drop start xs) ≡ drop start xs = take_all (length xs - start) (drop start xs) k in
    let none : drop (length xs - start) (drop start xs) ≡ [] = drop_of_length-le (drop start xs) k in
    let e' : Wrote (output (drop start xs) 0) l (output part n) = rw all at e in
    let f' : Wrote (output (take start xs ++ part) at) (header client n) (output out p) = rw (none, append-nil part) at f in
    let c : n ≡ sent (output xs at) l = ap (λ (x : Output). x.at) e'.is ∙ put_at l (drop start xs) 0 (omega arith) ∙ rw length-drop (omega arith) in
    let base : output out (p + n) ≡ put_all (output xs at) (header client n ++ l) =
    ⊎_elim
    (λ z. let t : start ≡ at + 3 = omega arith in fits xs at n p (header client n) l part out refl (omega arith) (rw t at e') (rw t at f'))
    (λ z. let t : start ≡ length xs = omega arith in short xs at n p (header client n) l part out refl (omega arith) (rw t at e') (rw t at f'))
    (eq-zero-or-pos (at + 3 - length xs)) in
    record { is = base ∙ ap (λ (m : ℕ). put_all (output xs at) (header client m ++ l)) c }

-- one delivery as a list of one
pub one : {p q : Output} {client : ℕ} {m : Message} → Delivered p client (line m) q → Sent p (to client m ∷ []) q
one e = record { is = e.is }

-- a delivery ends within the output
pub within : {p q : Output} {d : Delivery} → Sent p (d ∷ []) q → q.at ≤ length p.bytes
within {p} {q} {d} e =
    let l = line d.message in
    rw e.is (put_within d.client ((sent p l / 256 % 256) ∷ (sent p l % 256) ∷ l) p)

deliver_all-append : (ds es : List Delivery) (p : Output) → deliver_all p (ds ++ es) ≡ deliver_all (deliver_all p ds) es
deliver_all-append [] es p = refl
deliver_all-append (d ∷ ds) es p = deliver_all-append ds es (deliver p (packet d))

-- deliveries and then others
pub and : {p q r : Output} {ds es : List Delivery} → Sent p ds q → Sent q es r → Sent p (ds ++ es) r
and {p} {q} {r} {ds} {es} e f = record { is = f.is ∙ ap (λ (x : Output). deliver_all x es) e.is ∙ sym (deliver_all-append ds es p) }

-- none
pub none_sent : {p : Output} → Sent p [] p
none_sent = record { is = refl }

-- the same deliveries by another name
pub as_sent : {p q : Output} {ds es : List Delivery} → Sent p ds q → ds ≡ es → Sent p es q
as_sent {p} e f = record { is = e.is ∙ ap (deliver_all p) f }

deliver_fits : (p : Output) (d : Packet) → p.at + (3 + length d.bytes) ≤ length p.bytes → deliver p d ≡ put_all p (header d.client (length d.bytes) ++ d.bytes)
deliver_fits p d h = let e : sent p d.bytes ≡ length d.bytes = omega arith in rw e

-- where all the deliveries fit, their bytes stand on the output, whole
pub deliver_all_fits : (ds : List Delivery) (xs : List ℕ) (at : ℕ) → at + length (deliveries ds) ≤ length xs → deliver_all (output xs at) ds ≡ put_all (output xs at) (deliveries ds)
unfolding deliveries
deliver_all_fits [] xs at h = refl
deliver_all_fits (d ∷ ds) xs at h =
    let l = line d.message in
    let b = header d.client (length l) ++ l in
    let total = length-append b (deliveries ds) in
    let room : at + length b ≤ length xs = omega arith in
    let ys = take at xs ++ (b ++ drop (at + length b) xs) in
    let w : put_all (output xs at) b ≡ output ys (at + length b) = put_fits b xs at room in
    let m : length ys ≡ length xs = same {p = output xs at} {bs = b} (record { is = sym w }) in
    let rest : at + length b + length (deliveries ds) ≤ length ys = omega arith in
    ap (λ (x : Output). deliver_all x ds) (deliver_fits (output xs at) (packet d) (omega arith) ∙ w)
    ∙ deliver_all_fits ds ys (at + length b) rest
    ∙ ap (λ (x : Output). put_all x (deliveries ds)) (sym w)
    ∙ sym (put_all-append b (deliveries ds) (output xs at))

-- an output after a call: the count, the deliveries' bytes from the start, and past them what was there
pub at_start : {xs out : List ℕ} {r : ℕ} {ds : List Delivery} → Sent (output xs 0) ds (output out r) → length (deliveries ds) ≤ length xs
    → (r ≡ length (deliveries ds)) × (out ≡ laid (deliveries ds) xs)
at_start {xs} {out} {r} {ds} e h =
    let w = e.is ∙ deliver_all_fits ds xs 0 (omega arith) ∙ put_fits (deliveries ds) xs 0 (omega arith) in
    (ap (λ (x : Output). x.at) w ∙ zero-add (length (deliveries ds)), ap (λ (x : Output). x.bytes) w ∙ rw zero-add)

length-deliver_all : (ds : List Delivery) (p : Output) → length (deliver_all p ds).bytes ≡ length p.bytes
length-deliver_all [] p = refl
length-deliver_all (d ∷ ds) p =
    length-deliver_all ds (deliver p (packet d)) ∙ same {p = p} {bs = header d.client (sent p (line d.message)) ++ line d.message} (record { is = refl })

-- deliveries keep the output's length
pub kept : {p q : Output} {ds : List Delivery} → Sent p ds q → length q.bytes ≡ length p.bytes
kept {p} {q} {ds} e = ap (λ (x : Output). length x.bytes) e.is ∙ length-deliver_all ds p
