-- Deliveries: what a call gives to its clients (document 01, "Machine": "Output: deliveries of client (1 byte), line length (16 bits),
-- line, its byte 10 counted").
use Rattle.std.specs.Prelude.{ℕ, zero, suc, ◌+◌, ◌-◌, ◌*◌, ◌/◌, ◌%◌, ◌<◌, min, ◌≡◌, List, [], ◌∷◌, ◌++◌, map, length, take, drop}
use Rattle.output.specs.Output.{Output, put_all}
use Rattle.message.specs.Message.{Message, line}

-- a message to a client
pub record Delivery : Type 0 where
  pub client : ℕ
  pub message : Message

-- a delivery by its parts
abbrev pub to : ℕ → Message → Delivery
to c m = record { client = c; message = m }

-- a line that a client is given, its byte 10 counted
pub record Packet : Type 0 where
  pub client : ℕ
  pub bytes : List ℕ

-- the line of a delivery
abbrev pub packet : Delivery → Packet
packet d = record { client = d.client; bytes = line d.message }

-- the three bytes before a line of n bytes
abbrev pub header : ℕ → ℕ → List ℕ
header client n = client ∷ (n / 256 % 256) ∷ (n % 256) ∷ []

-- lines one after another, each behind its client and its length
abbrev pub packed : List Packet → List ℕ
packed [] = []
packed (p ∷ ps) = (header p.client (length p.bytes) ++ p.bytes) ++ packed ps

-- the bytes of deliveries
unfoldable pub deliveries : List Delivery → List ℕ
deliveries ds = packed (map packet ds)

-- how many bytes of a line go on an output after the three before it
abbrev pub sent : Output → List ℕ → ℕ
sent p l = min (length l) (length p.bytes - (p.at + 3))

-- a delivery on an output; where it does not fit, the length is that of what was sent
abbrev pub deliver : Output → Packet → Output
deliver p d = put_all p (header d.client (sent p d.bytes) ++ d.bytes)

-- deliveries on an output, one after another
abbrev pub deliver_all : Output → List Delivery → Output
deliver_all p [] = p
deliver_all p (d ∷ ds) = deliver_all (deliver p (packet d)) ds

-- q is p with the deliveries ds on it
pub record Sent (p : Output) (ds : List Delivery) (q : Output) : Type 0 where
  pub is : q ≡ deliver_all p ds

-- the packets in bytes, k at most
abbrev pub cut_in : ℕ → List ℕ → List Packet
cut_in zero bs = []
cut_in (suc k) [] = []
cut_in (suc k) (c ∷ []) = []
cut_in (suc k) (c ∷ h ∷ []) = []
cut_in (suc k) (c ∷ h ∷ l ∷ bs) = record { client = c; bytes = take (h * 256 + l) bs } ∷ cut_in k (drop (h * 256 + l) bs)

-- the deliveries cut out of the bytes again
unfoldable pub cut : List ℕ → List Packet
cut bs = cut_in (length bs) bs

-- a line's length is written in 16 bits
abbrev pub Short : List Packet → Type 0
Short [] = Unit
Short (p ∷ ps) = (length p.bytes < 65536) × Short ps
