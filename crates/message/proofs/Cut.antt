-- Cutting deliveries out of bytes is the inverse of packing them.
use Prim.Native.Nat.{ℕ, zero, suc, ◌+◌, ◌*◌, ◌/◌, ◌%◌, ◌<◌, ◌≤◌}
use native.Mathlib.Omega.{arith}
use mathlib.Core.Path.{◌≡◌, refl, ap, sym, ◌∙◌}
use mathlib.Core.List.{List, [], ◌∷◌, map}
use lib.ListN.{length, length-append}
use lib.Seq.{take-append_seam, drop-append_seam}
use Rattle.message.specs.Delivery.{Delivery, Packet, packet, packed, deliveries, cut_in, cut, Short}

cut_in_lem : (k : ℕ) (ps : List Packet) → length ps ≤ k → Short ps → cut_in k (packed ps) ≡ ps
cut_in_lem zero [] n h = refl
cut_in_lem zero (p ∷ ps) n h = absurd (omega arith)
cut_in_lem (suc k) [] n h = refl
cut_in_lem (suc k) (p ∷ ps) n h =
    let s : length p.bytes < 65536 = h.0 in
    let e : length p.bytes / 256 % 256 * 256 + length p.bytes % 256 ≡ length p.bytes = omega arith in
    rw (e, take-append_seam p.bytes (packed ps), drop-append_seam p.bytes (packed ps), cut_in_lem k ps (omega arith) h.1)

-- there are no more packets than bytes
packets_few : (ps : List Packet) → length ps ≤ length (packed ps)
packets_few [] = omega arith
packets_few (p ∷ ps) = let i = packets_few ps in let l = length-append p.bytes (packed ps) in omega arith

pub cut_packed : (ps : List Packet) → Short ps → cut (packed ps) ≡ ps
unfolding cut
cut_packed ps h = cut_in_lem (length (packed ps)) ps (packets_few ps) h

-- equal bytes are equal packets
pub packed_apart : (ps qs : List Packet) → Short ps → Short qs → packed ps ≡ packed qs → ps ≡ qs
packed_apart ps qs h k e = sym (cut_packed ps h) ∙ ap cut e ∙ cut_packed qs k

-- the lines of deliveries are cut out of their bytes again
pub cut_deliveries : (ds : List Delivery) → Short (map packet ds) → cut (deliveries ds) ≡ map packet ds
unfolding deliveries
cut_deliveries ds h = cut_packed (map packet ds) h
