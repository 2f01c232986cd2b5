-- Each message that the machine sends is sound: a report of at most 200 bytes, any other of at most 1,300.
use Prim.Native.Nat.{ℕ, ◌-◌, ◌≤◌}
use native.Mathlib.Omega.{arith}
use mathlib.Core.Path.{◌≡◌, refl}
use mathlib.Core.Bool.{Bool, true, false, cond, ◌||◌}
use mathlib.Core.List.{List, [], ◌∷◌}
use lib.Dec.{eqb, leb, ltb}
use lib.ListN.{length, get_or-eq_default, length-append}
use borrow.Author.Tests.{leb-true, ltb-true, ltb-false}
use Rattle.output.specs.Text.{text, is_digit}
use Rattle.output.specs.Number.{time}
use Rattle.output.proofs.LengthLaws.{length-time}
use Rattle.message.specs.Message.{Message, arg, args_text}
use Rattle.line.specs.Line.{letter, title_byte}
use Rattle.line.proofs.ParsedHead.{Head}
use Rattle.value.specs.declared.Sample.{Sample}
use Rattle.value.specs.Status.{status_text}
use Rattle.machine.specs.declared.Sensor.{Sensor}
use Rattle.machine.specs.declared.Sheet.{Sheet}
use Rattle.machine.specs.declared.State.{State}
use Rattle.machine.specs.declared.Strategy.{Strategy}
use Rattle.machine.specs.Places.{all_below}
use Rattle.machine.specs.Sheet.{single, sensor_of, name_of, description_of, units_of, api_of, build_of}
use Rattle.machine.specs.State.{stored_of, present}
use Rattle.machine.specs.Range.{sample_ok}
use Rattle.machine.specs.Messages
use Rattle.machine.proofs.PlacesLaws.{below_at}
use Rattle.machine.proofs.SheetLaws.{SensorRules}
use Rattle.machine.proofs.LineLengths.{text_short, args_most, arg_most, args_most_lem, Sound, sound_inform, sound_answer, sound_reply}
use Rattle.machine.proofs.ValueLengths.{sample_short, type_args_most}

-- Words of a table.

-- n words by number, and one for all other numbers
words_short : (word : ℕ → List ℕ) (k n : ℕ) → all_below (λ i. leb (length (word i)) k) n ≡ true → ((i : ℕ) → n ≤ i → length (word i) ≤ k) → (i : ℕ) → length (word i) ≤ k
words_short word k n h e i = go (ltb i n) refl
  where
    go : (b : Bool) → ltb i n ≡ b → length (word i) ≤ k
    go true l = leb-true (length (word i)) k (below_at (λ i. leb (length (word i)) k) n i h (ltb-true i n l))
    go false l = e i (ltb-false i n l)

status_short : (s : ℕ) → length (status_text s) ≤ 11
unfolding status_text all_below
status_short = words_short status_text 11 6 refl (λ s h. rw get_or-eq_default (omega arith))

level_short : (l : ℕ) → length (Messages.level_text l) ≤ 5
unfolding Messages.level_text all_below
level_short = words_short Messages.level_text 5 7 refl (λ l h. rw get_or-eq_default (omega arith))

type_short : (t : ℕ) → length (Messages.type_text t) ≤ 9
unfolding Messages.type_text all_below
type_short = words_short Messages.type_text 9 5 refl (λ t h. rw get_or-eq_default (omega arith))

strategy_short : (k : ℕ) → length (Messages.strategy_text k) ≤ 17
unfolding Messages.strategy_text all_below
strategy_short = words_short Messages.strategy_text 17 6 refl (λ k h. rw get_or-eq_default (omega arith))

refusal_short : (n : ℕ) → length (Messages.refusal_text n) ≤ 27
unfolding Messages.refusal_text all_below
refusal_short = words_short Messages.refusal_text 27 23 refl (λ n h. let q : 11 ≤ n - 12 = omega arith in rw get_or-eq_default (omega arith))

code_short : (n : ℕ) → length (Messages.refusal_code n) ≤ 7
code_short n = go (eqb n 16 || (eqb n 18 || eqb n 23))
  where
    go : (b : Bool) → length (cond b (text "fail") (text "invalid")) ≤ 7
    go true = omega arith
    go false = omega arith

-- Connecting and leaving.

pub protocol_most : (profile : ℕ) → args_most (Messages.protocol_args profile) ≤ 165
protocol_most profile = go (single profile)
  where
    go : (b : Bool) → args_most (text "katcp-protocol" ∷ cond b (text "5.1-IB") (text "5.1-MIB") ∷ []) ≤ 165
    go true = omega arith
    go false = omega arith

pub sound_protocol : (profile : ℕ) → Sound 1300 (Messages.version_connect (Messages.protocol_args profile))
unfolding title_byte letter is_digit
sound_protocol profile = sound_inform 1300 0 (text "version-connect") (Messages.protocol_args profile) refl refl (omega arith) (omega (arith, protocol_most profile))

pub sound_device : (sheet : Sheet) → length (api_of sheet) ≤ 32 → length (build_of sheet) ≤ 32 → Sound 1300 (Messages.version_connect (Messages.device_args sheet))
unfolding title_byte letter is_digit
sound_device sheet h k = sound_inform 1300 0 (text "version-connect") (Messages.device_args sheet) refl refl (omega arith) (omega arith)

pub sound_newcomer : (address : List ℕ) → length address ≤ 48 → Sound 1300 (Messages.client_connected address)
unfolding title_byte letter is_digit
sound_newcomer address h = sound_inform 1300 0 (text "client-connected") (address ∷ []) refl refl (omega arith) (omega arith)

pub sound_disconnect : (why : List ℕ) → length why ≤ 80 → Sound 1300 (Messages.disconnect why)
unfolding title_byte letter
sound_disconnect why h = sound_inform 1300 0 (text "disconnect") (why ∷ []) refl refl (omega arith) (omega arith)

-- Log entries.

pub sound_entry : (level clock : ℕ) (logger said : List ℕ) → clock ≤ 9999999999999 → length logger ≤ 32 → length said ≤ 256 → Sound 1300 (Messages.log_entry level clock logger said)
unfolding title_byte letter
sound_entry level clock logger said h k l =
    sound_inform 1300 0 (text "log") (Messages.level_text level ∷ time clock ∷ logger ∷ said ∷ []) refl refl (omega arith)
    (omega (arith, level_short level, length-time clock h))

-- Values.

values_most : (t : ℕ) (n : Sensor) (x : Sample) → t ≤ 9999999999999 → SensorRules n → sample_ok n x ≡ true → args_most (Messages.value_args t n x) ≤ 169
values_most t n x h r k =
    omega (arith, length-time t h, text_short r.name_is, status_short (Messages.status_for n x), sample_short n r x k)

pub sound_report : (clock : ℕ) (n : Sensor) (x : Sample) → clock ≤ 9999999999999 → SensorRules n → sample_ok n x ≡ true → Sound 200 (Messages.report clock n x)
unfolding Messages.report title_byte letter is_digit
sound_report clock n x h r k =
    sound_inform 200 0 (text "sensor-status") (Messages.value_args clock n x) refl refl (omega arith) (omega (arith, values_most clock n x h r k))

-- Informs of a request, each with its id.

module _ (id : ℕ) (i : id ≤ 2147483647) where
  pub sound_client : (address : List ℕ) → length address ≤ 48 → Sound 1300 (Messages.client_inform id address)
  unfolding title_byte letter is_digit
  sound_client address h = sound_inform 1300 id (text "client-list") (address ∷ []) refl refl i (omega arith)

  pub sound_help : (name : List ℕ) → length name ≤ 15 → Sound 1300 (Messages.help_inform id name)
  unfolding title_byte letter
  sound_help name h = sound_inform 1300 id (text "help") (name ∷ name ∷ []) refl refl i (omega arith)

  pub sound_version : (args : List (List ℕ)) → args_most args ≤ 165 → Sound 1300 (Messages.version_inform id args)
  unfolding title_byte letter is_digit
  sound_version args h = sound_inform 1300 id (text "version-list") args refl refl i (omega arith)

  pub sound_sensor : (n : Sensor) → SensorRules n → Sound 1300 (Messages.sensor_inform id n)
  unfolding Messages.sensor_inform title_byte letter is_digit
  sound_sensor n r =
      sound_inform 1300 id (text "sensor-list") (name_of n ∷ description_of n ∷ units_of n ∷ Messages.type_text n.kind ∷ Messages.type_args n) refl refl i
      (omega (
        arith,
        text_short r.name_is,
        text_short r.description_is,
        text_short r.units_is,
        type_short n.kind,
        type_args_most n r,
      ))

  pub sound_value : (s : State) (sheet : Sheet) (j : ℕ) → (stored_of s j).time ≤ 9999999999999 → SensorRules (sensor_of sheet j) → sample_ok (sensor_of sheet j) (present s j) ≡ true
      → Sound 1300 (Messages.value_inform id s sheet j)
  unfolding Messages.value_inform title_byte letter is_digit
  sound_value s sheet j h r k =
      sound_inform 1300 id (text "sensor-value") (Messages.value_args (stored_of s j).time (sensor_of sheet j) (present s j)) refl refl i
      (omega (arith, values_most (stored_of s j).time (sensor_of sheet j) (present s j) h r k))

-- Replies to a message that was read.

module _ (m : Message) (r : Head m) where
  pub sound_ok : Sound 1300 (Messages.ok_reply m [])
  sound_ok = sound_reply 1300 m (text "ok" ∷ []) r (omega arith)

  pub sound_level : (l : ℕ) → Sound 1300 (Messages.ok_reply m (Messages.level_text l ∷ []))
  sound_level l = sound_reply 1300 m (text "ok" ∷ Messages.level_text l ∷ []) r (omega (arith, level_short l))

  pub sound_refusal : (n : ℕ) → Sound 1300 (Messages.refusal_reply m n)
  sound_refusal n = sound_reply 1300 m (Messages.refusal_code n ∷ Messages.refusal_text n ∷ []) r (omega (arith, code_short n, refusal_short n))

  -- the names are too many for the bound of other arguments
  pub sound_sampling : (names : List ℕ) (n : Sensor) (st : Strategy) → length (arg names) ≤ 1058 → args_most (Messages.parameter_texts n st) ≤ 93
      → Sound 1300 (Messages.sampling_reply m names n st)
  unfolding Messages.sampling_reply
  sound_sampling names n st h k =
      let rest = Messages.strategy_text (Messages.strategy_kind st) ∷ Messages.parameter_texts n st in
      sound_answer 1300 m (text "ok" ∷ names ∷ rest) r
      (omega (
        arith,
        length-append (arg (text "ok")) (args_text (names ∷ rest) []),
        length-append (arg names) (args_text rest []),
        arg_most (text "ok"),
        args_most_lem rest,
        strategy_short (Messages.strategy_kind st),
        h,
        k,
      ))

-- the entry for a line that is no request
pub sound_refusal_entry : (clock n : ℕ) → clock ≤ 9999999999999 → Sound 1300 (Messages.refusal_entry clock n)
sound_refusal_entry clock n h = sound_entry 2 clock (text "katcp") (Messages.refusal_text n) h (omega arith) (omega (arith, refusal_short n))
