-- Document 02, (a), "Several names in one query", by the names themselves. "`sensor-value` and `sensor-list` take a comma list as `sensor-sampling` does."
use Rattle.std.specs.Prelude.{ℕ, ◌≤◌, ◌<◌, ◌≡◌, Bool, true, false, cond, ◌||◌, List, [], ◌∷◌, ◌++◌, map, length}
use Prim.Native.Char.{code}
use Rattle.output.specs.Text.{same}
use Rattle.message.specs.Message.{Message}
use Rattle.message.specs.Delivery.{to}
use Rattle.machine.specs.declared.Sheet.{Sheet}
use Rattle.machine.specs.declared.State.{State}
use Rattle.machine.specs.declared.Request.{Request}
use Rattle.machine.specs.declared.Request.TheVariants.{SensorList, SensorSampling, SensorValue}
use Rattle.machine.specs.Places.{any, has, Each}
use Rattle.machine.specs.Sheet.{sensor_of, place_of, not_on_sheet}
use Rattle.machine.specs.State.{connected}
use Rattle.machine.specs.Range.{in_range}
use Rattle.machine.specs.Messages.{sensor_inform, value_inform, count_reply, refusal_reply, all_to}
use Rattle.machine.specs.Requests.{Asks, asked, split}
use Rattle.machine.specs.Declined.{Line, call_of}
use Rattle.machine.specs.Machine.{Effect, step}

-- names with a comma between each two
abbrev pub comma_list : List ℕ → List (List ℕ) → List ℕ
comma_list name [] = name
comma_list name (next ∷ names) = name ++ (code "," ∷ comma_list next names)

-- "one name is unknown"
abbrev pub unknown_name : Sheet → List ℕ → Bool
unknown_name sheet name = not_on_sheet sheet (place_of sheet name)

-- "or stands twice"
abbrev pub named_twice : List (List ℕ) → Bool
named_twice [] = false
named_twice (name ∷ names) = any (same name) names || named_twice names

-- "no inform is sent and 16 or 21 answers": the reply alone, and the state as it was
abbrev pub reply_alone : State → ℕ → Message → ℕ → Effect
reply_alone s c m n = record { number = n; sent = to c (refusal_reply m n) ∷ []; next = s }

-- "the reply counts them": informs, then `ok` and how many they are, and the state as it was
abbrev pub informed : State → ℕ → Message → List Message → Effect
informed s c m informs = record { number = 0; sent = all_to c informs ++ (to c (count_reply m (length informs)) ∷ []); next = s }

-- what client c's request m for some names comes to, by the inform on a name: "Informs follow the list's order and the reply counts them. If one name is
-- unknown or stands twice, no inform is sent and 16 or 21 answers, with 16 first."
abbrev pub names_answered : State → ℕ → Message → (List ℕ → Message) → List (List ℕ) → Effect
names_answered s c m inform names =
    cond (any (unknown_name s.sheet) names) (reply_alone s c m 16)
    (cond (named_twice names) (reply_alone s c m 21)
    (informed s c m (map inform names)))

-- "A single name behaves as before": 16, or its inform and `ok 1`
abbrev pub name_answered : State → ℕ → Message → (List ℕ → Message) → List ℕ → Effect
name_answered s c m inform name = cond (unknown_name s.sheet name) (reply_alone s c m 16) (informed s c m (inform name ∷ []))

-- the informs of the two requests on the sensor of a name, with the request's id
abbrev pub sensor_on : State → Message → List ℕ → Message
sensor_on s m name = sensor_inform m.id (sensor_of s.sheet (place_of s.sheet name))

abbrev pub value_on : State → Message → List ℕ → Message
value_on s m name = value_inform m.id s s.sheet (place_of s.sheet name)

-- client c's line asks a request, and no row before 15 declines it
pub record Received (s : State) (c : ℕ) (line lent : List ℕ) (r : Request) (m : Message) : Type 0 where
  pub in_range_lem : in_range s ≡ true
  pub room : 65536 ≤ length lent
  pub running : s.halted ≡ false
  pub client : c < 8
  pub there : connected s c ≡ true
  pub asks : asked line ≡ Asks r m

-- a request with a comma list, by its inform on a name
abbrev pub AnswersNames : Request → (State → Message → List ℕ → Message) → Type 0
AnswersNames r inform = (s : State) (c : ℕ) (line lent : List ℕ) (m : Message) → Received s c line lent r m → (list : List ℕ) → m.args ≡ list ∷ []
    → step s (call_of (Line c line) lent) ≡ names_answered s c m (inform s m) (split list)

-- a request with a single name: what holds no comma
abbrev pub AnswersName : Request → (State → Message → List ℕ → Message) → Type 0
AnswersName r inform = (s : State) (c : ℕ) (line lent : List ℕ) (m : Message) → Received s c line lent r m → (name : List ℕ) → m.args ≡ name ∷ []
    → has (code ",") name ≡ false → step s (call_of (Line c line) lent) ≡ name_answered s c m (inform s m) name

-- "as `sensor-sampling` does": a list with a name that is unknown or stands twice is declined alike there, whatever stands behind it
pub record DeclinesAlike (s : State) (c : ℕ) (line lent : List ℕ) (m : Message) (names : List (List ℕ)) : Type 0 where
  pub unknown : any (unknown_name s.sheet) names ≡ true → step s (call_of (Line c line) lent) ≡ reply_alone s c m 16
  pub named_twice_lem : any (unknown_name s.sheet) names ≡ false → named_twice names ≡ true → step s (call_of (Line c line) lent) ≡ reply_alone s c m 21

-- `cut`: the names of an argument are what stands between its commas, empty ones too, so the rest is said of these
pub record SeveralNames : Type 0 where
  pub cut : (name : List ℕ) (names : List (List ℕ)) → Each (λ t. has (code ",") t ≡ false) (name ∷ names) → split (comma_list name names) ≡ name ∷ names
  pub sensor_list : AnswersNames SensorList sensor_on
  pub sensor_value : AnswersNames SensorValue value_on
  pub sensor_list_of_one : AnswersName SensorList sensor_on
  pub sensor_value_of_one : AnswersName SensorValue value_on
  pub sensor_sampling : (s : State) (c : ℕ) (line lent : List ℕ) (m : Message) → Received s c line lent SensorSampling m → (list : List ℕ) (more : List (List ℕ))
      → m.args ≡ list ∷ more → DeclinesAlike s c line lent m (split list)
