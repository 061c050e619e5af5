-- Settings that were read: their scales fit the axes, and their curves are near the lines.
use Rattle.cell_config.proofs.Names.{◌≡◌, ◌≤◌, ℕ, nat_le, ℤ, pos, negsuc, ◌-ℤ◌, ◌≤ℤ◌, Bool, true, false, cond, List, [], ◌∷◌, length, map, codes, Option, Some, None, Result, Ok, Err, inl, inr, refl, subst, arith, ints, nat_tests, int_lt, filter_map, list_all, ok_or, is_utf8, Data, Members, as_integer, as_table, get_member, parse_document, ModelState, Scale, IsCurve, Pair, ends_of, is_curve, curve_of_pass, Turn, IsAxisScale, arm_end, rotation_end, turn_end, gripper_end, AreCalibrated, IsCurveOf}
use Rattle.cell_config.proofs.Names.{is_known, IsAxisEnd, Section, Settings, axis_scale, byte_limit, curve_of, curve_within, default_section, is_measured, measured_of, number_within, pair_of, pairs_at, pairs_in, raw_at, raw_within, schedule_at, section_at, section_by, section_of, sections_at, settings_in, settings_of, start_at, tol_at, wide_enough, ◌>>=◌, demand, of_kind, optional, ConfigFault, Long, Range, Text, Unknown}
use Rattle.std.specs.Int.Signed.{lt_z_no}
use Rattle.std.proofs.lemmas.Float.{T_from_false}
use Rattle.cell_config.proofs.AxisScales.{IsRaw, IsTol, axis_made, default_raw}

-- ---- steps that were taken

module _ {A B : Type 0} where
  both_taken : (r : Result A ConfigFault) (f : A → Result B ConfigFault) (y : B) → (r >>= f) ≡ Ok y → (x : A) × ((r ≡ Ok x) × (f x ≡ Ok y))
  both_taken (Ok x) f y h = (x, (refl, h))
  both_taken (Err fault) f y h = absurd (cc)

  of_kind_taken : (o : Option A) (read : A → Result B ConfigFault) (y : B) → of_kind o read ≡ Ok y → (x : A) × (read x ≡ Ok y)
  of_kind_taken (Some x) read y h = (x, h)
  of_kind_taken None read y h = absurd (cc)

  -- what holds of the default and of what is read holds at the key
  at_key_taken : (P : B → Type 0) (o : Option Data) (kind : Data → Option A) (default : B) (read : A → Result B ConfigFault) (y : B) → P default → ((x : A) → read x ≡ Ok y → P y)
      → optional o default (λ value. of_kind (kind value) read) ≡ Ok y → P y
  at_key_taken P None kind default read y one other h = let same : default ≡ y = cc in subst P same one
  at_key_taken P (Some value) kind default read y one other h = let k = of_kind_taken (kind value) read y h in other k.0 k.1

chosen : {A : Type 0} → (b : Bool) (x y : A) (fault : ConfigFault) → cond b (Ok x) (Err fault) ≡ Ok y → (b ≡ true) × (x ≡ y)
chosen true x y fault h = (refl, cc)
chosen false x y fault h = absurd (cc)

unless_chosen : {A : Type 0} → (b : Bool) (x y : A) (fault : ConfigFault) → cond b (Err fault) (Ok x) ≡ Ok y → (b ≡ false) × (x ≡ y)
unless_chosen true x y fault h = absurd (cc)
unless_chosen false x y fault h = (refl, cc)

-- ---- scales

number_fits : (least most : ℕ) (z : ℤ) (n : ℕ) → number_within least most z ≡ Ok n → (least ≤ n) × (n ≤ most)
number_fits least most (pos k) n h = (grind (arith, nat_tests), grind (arith, nat_tests))
number_fits least most (negsuc k) n h = absurd (cc)

wide_raw : (end : ℤ) (low high : ℕ) (raw : ℕ × ℕ) → high ≤ 65535 → wide_enough end low high ≡ Ok raw → IsRaw end raw
wide_raw end low high raw fits h =
    let is = unless_chosen (int_lt (pos high -ℤ pos low) end) (low, high) raw Range h in
    let wide : end ≤ℤ (pos high -ℤ pos low) = lt_z_no (T_from_false (int_lt (pos high -ℤ pos low) end) is.0) in
    subst (IsRaw end) is.1 (record { fits = omega arith; wide = wide })

pair_raw : (end : ℤ) (pair : ℤ × ℤ) (raw : ℕ × ℕ) → raw_within end pair ≡ Ok raw → IsRaw end raw
pair_raw end (first, last) raw h =
    let one = both_taken (number_within 0 65535 first) (λ low. number_within 0 65535 last >>= (λ high. wide_enough end low high)) raw h in
    let two = both_taken (number_within 0 65535 last) (λ high. wide_enough end one.0 high) raw one.1.1 in
    wide_raw end one.0 two.0 raw (number_fits 0 65535 last two.0 two.1.0).1 two.1.1

raw_taken : (end : ℤ) (ms : Members) (raw : ℕ × ℕ) → IsAxisEnd end → raw_at end ms ≡ Ok raw → IsRaw end raw
raw_taken end ms raw k h = at_key_taken (IsRaw end) (get_member (codes "raw") ms) pair_of (0, 4000) (raw_within end) raw (default_raw end k) (λ pair is. pair_raw end pair raw is) h

tol_taken : (ms : Members) (tol : ℕ) → tol_at ms ≡ Ok tol → IsTol tol
tol_taken ms tol h = at_key_taken IsTol (get_member (codes "tol") ms) as_integer 5 (number_within 1 10) tol (omega arith, omega arith) (λ z is. number_fits 1 10 z tol is) h

-- ---- sections

record IsSection (end : ℤ) (section : Section) : Type 0 where
  pub axis : IsAxisScale end section.0
  pub curve : IsCurveOf section.0 section.1

measured_curve : (s : Scale) (values : List Data) (pairs : List Pair) → curve_within s values ≡ Ok pairs → IsCurve s pairs
measured_curve s values pairs h = by_fit (list_all is_measured values) h
  where
    by_fit : (b : Bool) → cond b (curve_of s (filter_map measured_of values)) (Err Range) ≡ Ok pairs → IsCurve s pairs
    by_fit true k =
        let is = chosen (is_curve s (filter_map measured_of values)) (filter_map measured_of values) pairs Range k in
        subst (IsCurve s) is.1 (curve_of_pass s (filter_map measured_of values) is.0)
    by_fit false k = absurd (cc)

pairs_taken : (s : Scale) (ms : Members) (pairs : List Pair) → pairs_at s ms ≡ Ok pairs → IsCurveOf s pairs
pairs_taken s ms pairs h =
    at_key_taken (IsCurveOf s) (get_member (codes "points") ms) pairs_in (ends_of s) (curve_within s) pairs (inl refl) (λ values is. inr (measured_curve s values pairs is)) h

section_made : (end : ℤ) (s : Scale) (ms : Members) (section : Section) → IsAxisScale end s → section_by s ms ≡ Ok section → IsSection end section
section_made end s ms section axis h =
    let k = both_taken (pairs_at s ms) (λ pairs. Ok (s, pairs)) section h in
    let same : (s, k.0) ≡ section = cc in
    subst (IsSection end) same (record { axis = axis; curve = pairs_taken s ms k.0 k.1.0 })

section_within : (end : ℤ) (ms : Members) (section : Section) → IsAxisEnd end → section_of end ms ≡ Ok section → IsSection end section
section_within end ms section k h =
    let raw = both_taken (raw_at end ms) (λ raw. tol_at ms >>= (λ tol. section_by (axis_scale end raw tol) ms)) section h in
    let tol = both_taken (tol_at ms) (λ tol. section_by (axis_scale end raw.0 tol) ms) section raw.1.1 in
    section_made end (axis_scale end raw.0 tol.0) ms section
    (axis_made end raw.0 tol.0 k (raw_taken end ms raw.0 k raw.1.0) (tol_taken ms tol.0 tol.1.0)) tol.1.1

default_taken : (end : ℤ) → IsAxisEnd end → IsSection end (default_section end)
default_taken end k =
    let axis = axis_made end (0, 4000) 5 k (default_raw end k) (omega arith, omega arith) in
    record { axis = axis; curve = inl refl }

section_taken : (key : List ℕ) (end : ℤ) (ms : Members) (section : Section) → IsAxisEnd end → section_at key end ms ≡ Ok section → IsSection end section
section_taken key end ms section k h =
    at_key_taken (IsSection end) (get_member key ms) as_table (default_section end) (section_of end) section (default_taken end k) (λ inner is. section_within end inner section k is) h

-- ---- settings, by the five sections

abbrev settings_by : ModelState → List Turn → List Section → Settings
settings_by start turns sections = record { start = start; schedule = turns; points = map (λ (section : Section). section.0) sections; curves = map (λ (section : Section). section.1) sections }

sections_taken : (start : ModelState) (turns : List Turn) (ms : Members) (sections : List Section) → sections_at ms ≡ Ok sections → AreCalibrated (settings_by start turns sections)
sections_taken start turns ms sections h =
    let one = both_taken (section_at (codes "arm1") arm_end ms) (λ arm1. section_at (codes "arm2") arm_end ms >>= (λ arm2. section_at (codes "rotation") rotation_end ms >>= (λ rotation. section_at (codes "turn") turn_end ms >>= (λ turn. section_at (codes "gripper") gripper_end ms >>= (λ gripper. Ok (arm1 ∷ arm2 ∷ rotation ∷ turn ∷ gripper ∷ [])))))) sections h in
    let two = both_taken (section_at (codes "arm2") arm_end ms) (λ arm2. section_at (codes "rotation") rotation_end ms >>= (λ rotation. section_at (codes "turn") turn_end ms >>= (λ turn. section_at (codes "gripper") gripper_end ms >>= (λ gripper. Ok (one.0 ∷ arm2 ∷ rotation ∷ turn ∷ gripper ∷ []))))) sections one.1.1 in
    let three = both_taken (section_at (codes "rotation") rotation_end ms) (λ rotation. section_at (codes "turn") turn_end ms >>= (λ turn. section_at (codes "gripper") gripper_end ms >>= (λ gripper. Ok (one.0 ∷ two.0 ∷ rotation ∷ turn ∷ gripper ∷ [])))) sections two.1.1 in
    let four = both_taken (section_at (codes "turn") turn_end ms) (λ turn. section_at (codes "gripper") gripper_end ms >>= (λ gripper. Ok (one.0 ∷ two.0 ∷ three.0 ∷ turn ∷ gripper ∷ []))) sections three.1.1 in
    let five = both_taken (section_at (codes "gripper") gripper_end ms) (λ gripper. Ok (one.0 ∷ two.0 ∷ three.0 ∷ four.0 ∷ gripper ∷ [])) sections four.1.1 in
    let first = section_taken (codes "arm1") arm_end ms one.0 (omega (arith, ints), omega (arith, ints)) one.1.0 in
    let second = section_taken (codes "arm2") arm_end ms two.0 (omega (arith, ints), omega (arith, ints)) two.1.0 in
    let third = section_taken (codes "rotation") rotation_end ms three.0 (omega (arith, ints), omega (arith, ints)) three.1.0 in
    let fourth = section_taken (codes "turn") turn_end ms four.0 (omega (arith, ints), omega (arith, ints)) four.1.0 in
    let fifth = section_taken (codes "gripper") gripper_end ms five.0 (omega (arith, ints), omega (arith, ints)) five.1.0 in
    let same : one.0 ∷ two.0 ∷ three.0 ∷ four.0 ∷ five.0 ∷ [] ≡ sections = cc in
    subst (λ them. AreCalibrated (settings_by start turns them)) {x = one.0 ∷ two.0 ∷ three.0 ∷ four.0 ∷ five.0 ∷ []} same (record {
      points = (
        record { arm1 = one.0.0; arm2 = two.0.0; rotation = three.0.0; turn = four.0.0; gripper = five.0.0 },
        refl {a = one.0.0 ∷ two.0.0 ∷ three.0.0 ∷ four.0.0 ∷ five.0.0 ∷ []},
        record { arm1 = first.axis; arm2 = second.axis; rotation = third.axis; turn = fourth.axis; gripper = fifth.axis },
      );
      curves = (first.curve, (second.curve, (third.curve, (fourth.curve, (fifth.curve, tt)))));
    })

table_taken : (ms : Members) (settings : Settings) → settings_in ms ≡ Ok settings → AreCalibrated settings
table_taken ms settings h =
    let known = both_taken (demand (is_known ms) Unknown) (λ _. start_at ms >>= (λ start. schedule_at ms >>= (λ turns. sections_at ms >>= (λ sections. Ok (settings_by start turns sections))))) settings h in
    let start = both_taken (start_at ms) (λ start. schedule_at ms >>= (λ turns. sections_at ms >>= (λ sections. Ok (settings_by start turns sections)))) settings known.1.1 in
    let turns = both_taken (schedule_at ms) (λ turns. sections_at ms >>= (λ sections. Ok (settings_by start.0 turns sections))) settings start.1.1 in
    let sections = both_taken (sections_at ms) (λ sections. Ok (settings_by start.0 turns.0 sections)) settings turns.1.1 in
    let same : settings_by start.0 turns.0 sections.0 ≡ settings = cc in
    subst AreCalibrated {x = settings_by start.0 turns.0 sections.0} same (sections_taken start.0 turns.0 ms sections.0 sections.1.0)

pub calibrated : (bytes : List ℕ) (settings : Settings) → settings_of bytes ≡ Ok settings → AreCalibrated settings
unfolding settings_of
calibrated bytes settings h =
    let short = both_taken (demand (nat_le (length bytes) byte_limit) Long) (λ _. demand (is_utf8 bytes) Text >>= (λ _. ok_or (parse_document bytes) Text >>= settings_in)) settings h in
    let text = both_taken (demand (is_utf8 bytes) Text) (λ _. ok_or (parse_document bytes) Text >>= settings_in) settings short.1.1 in
    let table = both_taken (ok_or (parse_document bytes) Text) settings_in settings text.1.1 in
    table_taken table.0 settings table.1.1
