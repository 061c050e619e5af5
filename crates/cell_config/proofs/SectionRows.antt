-- What may be said of the example sections.
use Rattle.cell_config.proofs.Names.{◌≡◌, ◌≤◌, ◌<◌, ℕ, pos, true, false, List, [], ◌∷◌, Option, Some, None, Result, Ok, Err, refl, sym, arith, Scale, Pair, IsCurve, is_curve, passes_as_curve, curve_of_pass, HasCurveFault, ConfigFault, Range, axis_scale, arm_end, IsFirstRefusal}
use Rattle.cell_sensors.proofs.lemmas.CurveTestLemmas.{rises_at}
use Rattle.cell_sensors.specs.declared.curve.CurveFault.{CurveFault}
use Rattle.cell_sensors.specs.declared.curve.CurveFault.TheVariants.{Count, Ends, Order, OffLine}
use Rattle.cell_config.specs.declared.fault.ConfigFault.TheVariants.{Kind}
use Rattle.cell_config.specs.RefusedSections.{IsFirstKey}
use Rattle.cell_config.specs.declared.refused_sections.SectionFault.{SectionFault}
use Rattle.cell_config.specs.declared.refused_sections.SectionFault.TheVariants.{NoTable, Raw, Tol, Points}
use Rattle.cell_config.specs.declared.refused_sections.SectionKey.{SectionKey}
use Rattle.cell_config.specs.declared.refused_sections.SectionKey.TheVariants.{Arm1, Arm2, Rotation, Turn, Gripper}
use Rattle.cell_config.specs.SectionExamples.{line, raw_and_tol, tol_and_points, points_alone, points_no_array, arm2_after_turn, arm1_after_arm2, PairsExamples, SectionExamples, SectionsAreMet}

-- ---- the pairs of a curve

no_curve : (pairs : List Pair) → is_curve line pairs ≡ false → IsCurve line pairs → ⊥
no_curve pairs fails curve = let yes : is_curve line pairs ≡ true = passes_as_curve line pairs curve in cc

abbrev pairs_ends : List Pair
pairs_ends = (0, pos 0) ∷ (3999, pos 1000) ∷ []

last_differs : ◌≡◌ {A = ℕ} 3999 4000 → ⊥
last_differs e = omega arith

ends : (given : Option CurveFault) → HasCurveFault line pairs_ends given → given ≡ Some Ends
ends None k = absurd (no_curve pairs_ends refl k)
ends (Some Count) k = absurd (k (record { least = omega arith; most = omega arith }))
ends (Some Ends) k = refl
ends (Some Order) k = absurd (last_differs k.1.last)
ends (Some OffLine) k = absurd (last_differs k.1.last)

abbrev pairs_order : List Pair
pairs_order = (0, pos 0) ∷ (0, pos 0) ∷ (4000, pos 1000) ∷ []

order : (given : Option CurveFault) → HasCurveFault line pairs_order given → given ≡ Some Order
order None k = absurd (no_curve pairs_order refl k)
order (Some Count) k = absurd (k (record { least = omega arith; most = omega arith }))
order (Some Ends) k = absurd (k.1 (record { first = refl; last = refl }))
order (Some Order) k = refl
order (Some OffLine) k = let lie : 0 < 0 = k.2 0 (omega arith) in absurd (omega arith)

abbrev pairs_off : List Pair
pairs_off = (0, pos 0) ∷ (4000, pos 1001) ∷ []

off_line : (given : Option CurveFault) → HasCurveFault line pairs_off given → given ≡ Some OffLine
off_line None k = absurd (no_curve pairs_off refl k)
off_line (Some Count) k = absurd (k (record { least = omega arith; most = omega arith }))
off_line (Some Ends) k = absurd (k.1 (record { first = refl; last = refl }))
off_line (Some Order) k = absurd (k.2 (λ i l. rises_at pairs_off i refl l))
off_line (Some OffLine) k = refl

abbrev pairs_line : List Pair
pairs_line = (0, pos 0) ∷ (4000, pos 1000) ∷ []

on_line : (given : Option CurveFault) → HasCurveFault line pairs_line given → given ≡ None
on_line None k = refl
on_line (Some Count) k = absurd (k (curve_of_pass line pairs_line refl).number)
on_line (Some Ends) k = absurd (k.1 (curve_of_pass line pairs_line refl).ends)
on_line (Some Order) k = absurd (k.2 (curve_of_pass line pairs_line refl).rising)
on_line (Some OffLine) k = absurd (k.3 (curve_of_pass line pairs_line refl).near)

abbrev pairs_one : List Pair
pairs_one = (0, pos 0) ∷ []

alone : (given : Option CurveFault) → HasCurveFault line pairs_one given → given ≡ Some Count
alone None k = absurd (no_curve pairs_one refl k)
alone (Some Count) k = refl
alone (Some Ends) k = let lie : 2 ≤ 1 = k.0.least in absurd (omega arith)
alone (Some Order) k = let lie : 2 ≤ 1 = k.0.least in absurd (omega arith)
alone (Some OffLine) k = let lie : 2 ≤ 1 = k.0.least in absurd (omega arith)

pairs : PairsExamples
pairs = record {
  most_unfit = λ given k. (let short : 32 ≤ 32 = omega arith in k.unfit short refl);
  many_unfit = λ given k. (let long : 32 < 33 = omega arith in k.many long);
  twice_as_many_unfit = λ given k. (let long : 32 < 64 = omega arith in k.many long);
  twice_as_many_fit = λ given k. (let long : 32 < 64 = omega arith in k.many long);
  one = λ given k. alone given (k.fits refl);
  ends = λ given k. ends given (k.fits refl);
  order = λ given k. order given (k.fits refl);
  off_line = λ given k. off_line given (k.fits refl);
  line = λ given k. on_line given (k.fits refl);
}

-- ---- the keys of a section

abbrev default : Result (ℕ × ℕ) ConfigFault
default = Ok (0, 4000)

abbrev out_of_range : {A : Type 0} → Result A ConfigFault
out_of_range = Err Range

raw_then_tol : (given : SectionFault) → IsFirstKey arm_end raw_and_tol given → given ≡ Raw Range
raw_then_tol NoTable k = absurd k
raw_then_tol (Raw f) k = let e : out_of_range ≡ Err f = k in cc
raw_then_tol (Tol f) k = let lie : false ≡ true = k.0 in cc
raw_then_tol (Points f l c) k = let lie : out_of_range ≡ Ok k.0 = k.2 in cc

tol_then_points : (given : SectionFault) → IsFirstKey arm_end tol_and_points given → given ≡ Tol Range
tol_then_points NoTable k = absurd k
tol_then_points (Raw f) k = let lie : default ≡ Err f = k in cc
tol_then_points (Tol f) k = let e : out_of_range ≡ Err f = k.1 in cc
tol_then_points (Points f l c) k = let lie : out_of_range ≡ Ok k.1 = k.3 in cc

abbrev five : Result ℕ ConfigFault
five = Ok 5

same_line : (raw : ℕ × ℕ) (tol : ℕ) (l : Scale) → default ≡ Ok raw → five ≡ Ok tol → l ≡ axis_scale arm_end raw tol → l ≡ line
same_line raw tol l a b e =
    let r : (0, 4000) ≡ raw = cc in
    let t : 5 ≡ tol = cc in
    rw (e, sym r, sym t) refl

-- no pairs at all have one fault, whatever the line
none_said : (l : Scale) (given : Option CurveFault) → HasCurveFault l [] given → given ≡ Some Count
none_said l None k = let lie : 2 ≤ 0 = k.number.least in absurd (omega arith)
none_said l (Some Count) k = refl
none_said l (Some Ends) k = let lie : 2 ≤ 0 = k.0.least in absurd (omega arith)
none_said l (Some Order) k = let lie : 2 ≤ 0 = k.0.least in absurd (omega arith)
none_said l (Some OffLine) k = let lie : 2 ≤ 0 = k.0.least in absurd (omega arith)

no_points : (given : SectionFault) → IsFirstKey arm_end points_alone given → given ≡ Points Range line (Some Count)
no_points NoTable k = absurd k
no_points (Raw f) k = let lie : default ≡ Err f = k in cc
no_points (Tol f) k = let lie : five ≡ Err f = k.1 in cc
no_points (Points f l c) k =
    let a : l ≡ line = same_line k.0 k.1 l k.2 k.3 k.4 in
    let b : out_of_range ≡ Err f = k.5 in
    let d : c ≡ Some Count = none_said l c (k.6.fits refl) in
    cc

abbrev other_kind : {A : Type 0} → Result A ConfigFault
other_kind = Err Kind

no_array : (given : SectionFault) → IsFirstKey arm_end points_no_array given → given ≡ Points Kind line None
no_array NoTable k = absurd k
no_array (Raw f) k = let lie : default ≡ Err f = k in cc
no_array (Tol f) k = let lie : five ≡ Err f = k.1 in cc
no_array (Points f l c) k =
    let a : l ≡ line = same_line k.0 k.1 l k.2 k.3 k.4 in
    let b : other_kind ≡ Err f = k.5 in
    let d : c ≡ None = k.6 in
    cc

sections : SectionExamples
sections = record {
  raw_then_tol = raw_then_tol;
  tol_then_points = tol_then_points;
  points_alone = no_points;
  points_no_array = no_array;
}

-- ---- the sections

abbrev is_arm2 : Option SectionKey
is_arm2 = Some Arm2

second : (key : SectionKey) (given : SectionFault) → IsFirstRefusal arm2_after_turn key given → (key ≡ Arm2) × (given ≡ Tol Range)
second Arm2 NoTable first = absurd first.why.first
second Arm2 (Raw f) first = let lie : default ≡ Err f = first.why.first in cc
second Arm2 (Tol f) first = let e : out_of_range ≡ Err f = first.why.first.1 in (refl, cc)
second Arm2 (Points f l c) first = let lie : out_of_range ≡ Ok first.why.first.1 = first.why.first.3 in cc
second Arm1 given first = let lie : is_arm2 ≡ Some Arm1 = first.section in cc
second Rotation given first = let lie : is_arm2 ≡ Some Rotation = first.section in cc
second Turn given first = let lie : is_arm2 ≡ Some Turn = first.section in cc
second Gripper given first = let lie : is_arm2 ≡ Some Gripper = first.section in cc

abbrev is_arm1 : Option SectionKey
is_arm1 = Some Arm1

no_table : (key : SectionKey) (given : SectionFault) → IsFirstRefusal arm1_after_arm2 key given → (key ≡ Arm1) × (given ≡ NoTable)
no_table Arm1 given first = (refl, first.why.first)
no_table Arm2 given first = let lie : is_arm1 ≡ Some Arm2 = first.section in cc
no_table Rotation given first = let lie : is_arm1 ≡ Some Rotation = first.section in cc
no_table Turn given first = let lie : is_arm1 ≡ Some Turn = first.section in cc
no_table Gripper given first = let lie : is_arm1 ≡ Some Gripper = first.section in cc

pub sections_are_met : SectionsAreMet
sections_are_met = record {
  pairs = pairs;
  sections = sections;
  tables = record { arm2_after_turn = second; arm1_after_arm2 = no_table };
}
