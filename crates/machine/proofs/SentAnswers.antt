-- What a request that is not declined sends may be sent.
use Prim.Native.Nat.{ℕ, ◌≤◌, ◌<◌}
use native.Mathlib.Nat.{le_trans}
use native.Mathlib.Omega.{arith}
use mathlib.Core.Path.{◌≡◌, refl, sym, ◌∙◌, subst}
use Rattle.std.specs.Prelude.{Some}
use mathlib.Core.Bool.{Bool, true, false, cond, not, ◌&&◌}
use mathlib.Core.List.{List, [], ◌∷◌, map}
use lib.Dec.{eqb, ltb}
use lib.ListN.{length, get_or, length-map}
use borrow.Author.Tests.{ltb-false}
use Rattle.output.specs.Text.{text, same}
use Rattle.output.proofs.TextLaws.{same_true}
use Rattle.message.specs.Message.{Message}
use Rattle.message.specs.Delivery.{to}
use Rattle.line.proofs.ParsedHead.{Head}
use Rattle.machine.specs.declared.Sheet.{Sheet}
use Rattle.machine.specs.declared.State.{State}
use Rattle.machine.specs.declared.Strategy.{Strategy}
use Rattle.machine.specs.declared.Request.{Request}
use Rattle.machine.specs.declared.Request.TheVariants.{ClientList, Halt, Help, LogLevel, Restart, SensorList, SensorSampling, SensorValue, VersionList, Watchdog}
use Rattle.machine.specs.Places.{one_if, any, twice, Each}
use Rattle.machine.specs.Sheet.{sensor_of, not_on_sheet, graphic, text_ok, titles_ok, titles_none, api_of, build_of}
use Rattle.machine.specs.State.{client_of, connected, address_of, pair_of, present}
use Rattle.machine.specs.Range.{client_ok, is_none, is_blank}
use Rattle.machine.specs.Messages
use Rattle.machine.specs.Report.{Work}
use Rattle.machine.specs.Requests.{Row, requests, request_in, request_named, argument, asked_places, hidden, shown_rows, help_names, listed, first_of, strategy_asked, level_asked, sampled_sends, addresses, sampling, answer}
use Rattle.machine.specs.Declined.{sensors_declined, help_declined, sampling_declined, arguments_declined}
use Rattle.machine.proofs.TestLaws.{and_true, or_true, cond_true, cond_cases}
use Rattle.machine.proofs.PlacesLaws.{each_only, only-length, each_gather, each_one, each_weaker, each_any_false, each_map, gather-length}
use Rattle.machine.proofs.SheetLaws.{text_out, Sensors, places_passed, places_below}
use Rattle.machine.proofs.RangeLaws.{InRange, stored_is, sensors_of}
use Rattle.machine.proofs.SamplingLaws.{listed_known, listed_below, setting_suits, first_listed}
use Rattle.machine.proofs.PairRange.{held_suits}
use Rattle.machine.proofs.LineLengths.{text_short, args_most, Sound}
use Rattle.machine.proofs.NamesLength.{places_most, names_most}
use Rattle.machine.proofs.ParameterLengths.{held_most}
use Rattle.machine.proofs.DeliveryLengths.{Served, served, served_more, Sendable, sendable, one_sent, one-length, where_length, served_where, counted_sent}
use Rattle.machine.proofs.SentSizes.{protocol_most, sound_disconnect, sound_report, sound_client, sound_help, sound_version, sound_sensor, sound_value, sound_ok, sound_level, sound_sampling}

-- What the state holds.

titles_within : (least most : ℕ) (sheet : Sheet) → most ≤ 32
    → (text_ok least most graphic sheet.api_len sheet.api && text_ok least most graphic sheet.build_len sheet.build) ≡ true
    → (length (api_of sheet) ≤ 32) × (length (build_of sheet) ≤ 32)
titles_within least most sheet l h =
    let q = and_true (text_ok least most graphic sheet.api_len sheet.api) (text_ok least most graphic sheet.build_len sheet.build) h in (
      le_trans (text_short (text_out least most graphic sheet.api_len sheet.api q.0)) l,
      le_trans (text_short (text_out least most graphic sheet.build_len sheet.build q.1)) l,
    )

module _ (s : State) (g : InRange s) where
  -- the sheet's texts
  pub titles_short : (length (api_of s.sheet) ≤ 32) × (length (build_of s.sheet) ≤ 32)
  unfolding titles_ok titles_none is_blank
  titles_short = or_true _ (titles_ok s.sheet) (is_blank s) g.titles_in (titles_within 1 32 s.sheet (omega arith))
      (λ h. titles_within 0 0 s.sheet (omega arith) (and_true (titles_none s.sheet) _ h).0)

  address_short : (c : ℕ) → c < 8 → connected s c ≡ true → length (address_of (client_of s c)) ≤ 48
  unfolding client_ok
  address_short c h k = text_short (text_out 1 48 graphic (client_of s c).address_len (client_of s c).address there)
    where
      there : text_ok 1 48 graphic (client_of s c).address_len (client_of s c).address ≡ true
      there = sym (cond_true (connected s c) (text_ok 1 48 graphic (client_of s c).address_len (client_of s c).address) (text_ok 0 0 graphic (client_of s c).address_len (client_of s c).address) k) ∙ g.client_in c h

  report_sound : (j : ℕ) → j < s.sheet.count → Sound 200 (Messages.report_of s.sheet s j)
  report_sound j h = sound_report s.clock (sensor_of s.sheet j) (present s j) g.clock_in_lem ((sensors_of s g).sensor_is j h)
      (stored_is s g j h (le_trans h (sensors_of s g).count_most)).0

  addresses_short : (length (addresses s) ≤ 8) × Each (λ a. length a ≤ 48) (addresses s)
  unfolding addresses
  addresses_short = (
    gather-length (λ c. one_if (connected s c) (address_of (client_of s c))) 1 8 (λ c. one-length (connected s c) (address_of (client_of s c))),
    each_gather (λ a. length a ≤ 48) (λ c. one_if (connected s c) (address_of (client_of s c))) 8
        (λ c h. each_one (λ a. length a ≤ 48) (connected s c) (address_of (client_of s c)) (address_short c h)),
  )

-- Requests.

-- the names of the requests
rows_short : Each (λ (r : Row). ltb 15 (length r.name) ≡ false) requests
unfolding any
rows_short = each_any_false (λ (r : Row). ltb 15 (length r.name)) requests refl

named_short : (rows : List Row) → Each (λ (r : Row). ltb 15 (length r.name) ≡ false) rows → (profile : ℕ) (name : List ℕ) → help_declined profile (request_in rows name) ≡ 0 → length name ≤ 15
named_short [] h profile name e = absurd (omega arith)
named_short (r ∷ rows) h profile name e = go (same r.name name) refl e (named_short rows h.1 profile name)
  where
    go : (b : Bool) → same r.name name ≡ b → help_declined profile (cond b (Some r.request) (request_in rows name)) ≡ 0 → (help_declined profile (request_in rows name) ≡ 0 → length name ≤ 15) → length name ≤ 15
    go true q e ih = subst (λ t. length t ≤ 15) (same_true r.name name q) (ltb-false 15 (length r.name) h.0)
    go false q e ih = ih e

helped_short : (sheet : Sheet) (m : Message) → arguments_declined sheet Help m ≡ 0 → (length (help_names sheet.profile m) ≤ 32) × Each (λ a. length a ≤ 15) (help_names sheet.profile m)
unfolding arguments_declined help_names request_named
helped_short sheet m h = go (eqb (length m.args) 0) h
  where
    shown : (rows : List Row) → Each (λ (r : Row). ltb 15 (length r.name) ≡ false) rows → Each (λ a. length a ≤ 15) (map (λ (r : Row). r.name) rows)
    shown rows h = each_map (λ a. length a ≤ 15) (λ (r : Row). r.name) rows
        (each_weaker (λ (r : Row). ltb 15 (length r.name) ≡ false) (λ (r : Row). length r.name ≤ 15) (λ r. ltb-false 15 (length r.name)) rows h)

    go : (b : Bool) → cond b 0 (help_declined sheet.profile (request_named (argument m 0))) ≡ 0
        → (length (cond b (map (λ (r : Row). r.name) (shown_rows sheet.profile)) (argument m 0 ∷ [])) ≤ 32) × Each (λ a. length a ≤ 15) (cond b (map (λ (r : Row). r.name) (shown_rows sheet.profile)) (argument m 0 ∷ []))
    go true e = (
      omega (arith, length-map (shown_rows sheet.profile) (λ (r : Row). r.name), only-length (λ (r : Row). not (hidden sheet.profile r.request)) requests),
      shown (shown_rows sheet.profile) (each_only _ (λ (r : Row). not (hidden sheet.profile r.request)) requests rows_short),
    )
    go false e = (omega arith, (named_short requests rows_short sheet.profile (argument m 0) e, tt))

-- the sensors that are told of
places_short : (sheet : Sheet) → Sensors sheet → (m : Message) → sensors_declined sheet m ≡ 0 → (length (asked_places sheet m) ≤ 32) × Each (λ j. j < sheet.count) (asked_places sheet m)
places_short sheet r m h =
    let a = places_passed sheet (asked_places sheet m) 0 h in
    (places_most sheet r (asked_places sheet m) a.0 a.1.0, places_below sheet (asked_places sheet m) a.0)

module _ (s : State) (g : InRange s) (c : ℕ) (hc : c < 8) (m : Message) (r : Head m) where
  ending_sent : (why : List ℕ) → length why ≤ 80 → Sendable (to c (Messages.ok_reply m []) ∷ Messages.to_all s (Messages.disconnect why))
  ending_sent why h =
      let farewell = Messages.disconnect why in
      sendable 9 1300 (to c (Messages.ok_reply m []) ∷ Messages.to_all s farewell) (omega arith) (omega arith) (omega (arith, where_length (connected s) farewell))
      (served hc (sound_ok m r), served_where 1300 (connected s) farewell (sound_disconnect why h))

  module _ (known : any (not_on_sheet s.sheet) (listed s.sheet m) ≡ false) (once : twice (listed s.sheet m) ≡ false) where
    abbrev js : List ℕ
    js = listed s.sheet m

    reply_served : (st : Strategy) → args_most (Messages.parameter_texts (first_of s.sheet js) st) ≤ 93 → Served 1300 (to c (Messages.sampling_reply m (argument m 0) (first_of s.sheet js) st))
    reply_served st h = served hc (sound_sampling m r (argument m 0) (first_of s.sheet js) st (names_most s.sheet (sensors_of s g) m known once) h)

    query_sent : get_or js 0 0 < s.sheet.count → Sendable (to c (Messages.sampling_reply m (argument m 0) (first_of s.sheet js) (pair_of s c (get_or js 0 0)).strategy) ∷ [])
    query_sent first = one_sent _ (reply_served (pair_of s c (get_or js 0 0)).strategy
        (held_most (first_of s.sheet js) (pair_of s c (get_or js 0 0)).strategy (held_suits s g c (get_or js 0 0) hc first)))

    reports_served : Each (Served 1300) (map (λ j. to c (Messages.report_of s.sheet s j)) js)
    reports_served = served_more 200 1300 (omega arith) (map (λ j. to c (Messages.report_of s.sheet s j)) js)
        (each_map (Served 200) (λ j. to c (Messages.report_of s.sheet s j)) js
        (each_weaker (λ j. j < s.sheet.count) (λ j. Served 200 (to c (Messages.report_of s.sheet s j))) (λ j h. served hc (report_sound s g j h)) js
        (places_below s.sheet js known)))

    set-sent : (st : Strategy) → args_most (Messages.parameter_texts (first_of s.sheet js) st) ≤ 93 → Sendable (sampled_sends s.sheet s c m js st)
    unfolding sampled_sends
    set-sent st h = go (is_none st)
      where
        go : (b : Bool) → Sendable (to c (Messages.sampling_reply m (argument m 0) (first_of s.sheet js) st) ∷ cond b [] (map (λ j. to c (Messages.report_of s.sheet s j)) js))
        go true = one_sent _ (reply_served st h)
        go false = sendable 33 1300 _ (omega arith) (omega arith)
            (omega (arith, length-map js (λ j. to c (Messages.report_of s.sheet s j)), places_most s.sheet (sensors_of s g) (listed s.sheet m) known once)) (reply_served st h, reports_served)

  sampling_sent : sampling_declined s.sheet m ≡ 0 → Sendable (sampling s.sheet s c m).sent
  unfolding sampling
  sampling_sent h =
      let a = listed_known s.sheet m h in
      let first = first_listed s.sheet m in
      cond_cases (λ (w : Work). Sendable w.sent) (eqb (length m.args) 1) _ _
      (λ q. query_sent a.0 a.1 (listed_below s.sheet m h (get_or (listed s.sheet m) 0 0) first))
      (λ q. set-sent a.0 a.1 (strategy_asked s.sheet m)
      (held_most (first_of s.sheet (listed s.sheet m)) (strategy_asked s.sheet m) (setting_suits s.sheet (sensors_of s g) m h q (get_or (listed s.sheet m) 0 0) first)))

  -- an inform for each of some things
  informs_sent : {A : Type 0} (f : A → Message) (P : A → Type 0) (xs : List A) → length xs ≤ 32 → Each P xs → ((x : A) → P x → Sound 1300 (f x)) → Sendable (Messages.counted_answer c m (map f xs))
  informs_sent f P xs h k sound =
      counted_sent c m (map f xs) hc r (omega (arith, length-map xs f, h)) (each_map (Sound 1300) f xs (each_weaker P (λ x. Sound 1300 (f x)) sound xs k))

  sensor_list_sent : sensors_declined s.sheet m ≡ 0 → Sendable (Messages.counted_answer c m (map (λ j. Messages.sensor_inform m.id (sensor_of s.sheet j)) (asked_places s.sheet m)))
  sensor_list_sent h =
      let q = places_short s.sheet (sensors_of s g) m h in
      informs_sent (λ j. Messages.sensor_inform m.id (sensor_of s.sheet j)) (λ j. j < s.sheet.count) (asked_places s.sheet m) q.0 q.1
      (λ j l. sound_sensor m.id r.id (sensor_of s.sheet j) ((sensors_of s g).sensor_is j l))

  sensor_value_sent : sensors_declined s.sheet m ≡ 0 → Sendable (Messages.counted_answer c m (map (Messages.value_inform m.id s s.sheet) (asked_places s.sheet m)))
  sensor_value_sent h =
      let q = places_short s.sheet (sensors_of s g) m h in
      informs_sent (Messages.value_inform m.id s s.sheet) (λ j. j < s.sheet.count) (asked_places s.sheet m) q.0 q.1
      (λ j l. let x = stored_is s g j l (le_trans l (sensors_of s g).count_most) in
      sound_value m.id r.id s s.sheet j (le_trans x.1 g.clock_in_lem) ((sensors_of s g).sensor_is j l) x.0)

  versions_sent : Sendable (Messages.counted_answer c m (map (Messages.version_inform m.id) (Messages.protocol_args s.sheet.profile ∷ Messages.device_args s.sheet ∷ [])))
  versions_sent =
      let q = titles_short s g in
      informs_sent (Messages.version_inform m.id) (λ args. args_most args ≤ 165) (Messages.protocol_args s.sheet.profile ∷ Messages.device_args s.sheet ∷ []) (omega arith)
      (protocol_most s.sheet.profile, (omega (arith, q.0, q.1), tt)) (sound_version m.id r.id)

  pub answer_sent : (q : Request) → arguments_declined s.sheet q m ≡ 0 → Sendable (answer s.sheet s c q m).sent
  unfolding arguments_declined answer
  answer_sent ClientList h =
      let q = addresses_short s g in
      informs_sent (Messages.client_inform m.id) (λ a. length a ≤ 48) (addresses s) (omega (arith, q.0)) q.1 (sound_client m.id r.id)
  answer_sent Halt h = ending_sent (text "Device halting.") (omega arith)
  answer_sent Help h =
      let q = helped_short s.sheet m h in
      informs_sent (Messages.help_inform m.id) (λ a. length a ≤ 15) (help_names s.sheet.profile m) q.0 q.1 (sound_help m.id r.id)
  answer_sent LogLevel h = one_sent _ (served hc (sound_level m r (level_asked s m)))
  answer_sent Restart h = ending_sent (text "Device restarting.") (omega arith)
  answer_sent SensorList h = sensor_list_sent h
  answer_sent SensorSampling h = sampling_sent h
  answer_sent SensorValue h = sensor_value_sent h
  answer_sent VersionList h = versions_sent
  answer_sent Watchdog h = one_sent _ (served hc (sound_ok m r))
