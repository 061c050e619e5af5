use Rattle.std.proofs.Common.{◌≡◌, Bool, true, false, None, ◌&&◌, nat_eq, List, [], ◌∷◌, All, length, refl, arith}
use Rattle.std.proofs.lemmas.Bool.{eqb-true}
use Rattle.std.specs.Cmp.{first_so, second_so}
use Rattle.std.proofs.lemmas.List.Elements.{All-nil, All-cons, All-head, All-tail}
use Rattle.plan_types.specs.declared.table.PlanPose.{PlanPose}
use Rattle.plan_types.specs.Bytes.{IsForTenZones}
use Rattle.plan_types.specs.Examples.{pose, press_poses, lift_poses}
use Rattle.plan_types.specs.ByteExamples.{pose_of_width}
use Rattle.plan_types.specs.Readings.{unlike_table}
use Rattle.plan_types.proofs.byte_laws.bytes_are_right.Goals as goal

abbrev are_whole : List PlanPose → Bool
are_whole [] = true
are_whole (p ∷ ps) = nat_eq (length p.gives) 10 && are_whole ps

whole_rows : (ps : List PlanPose) → are_whole ps ≡ true → All IsForTenZones ps
whole_rows [] e = All-nil IsForTenZones
whole_rows (p ∷ ps) e =
    All-cons IsForTenZones p ps (eqb-true (length p.gives) 10 (first_so (nat_eq (length p.gives) 10) (are_whole ps) e))
    (whole_rows ps (second_so (nat_eq (length p.gives) 10) (are_whole ps) e))

-- so the second of two poses has a row for ten zones
second_whole : (p q : PlanPose) → All IsForTenZones (p ∷ q ∷ []) → length q.gives ≡ 10
second_whole p q whole = All-head IsForTenZones q [] (All-tail IsForTenZones p (q ∷ []) whole)

pub returns : goal.returns
returns c = record {
  press = refl;
  lift = refl;
  outward_alone = refl;
  inward_alone = refl;
  press_rows = whole_rows press_poses refl;
  lift_rows = whole_rows lift_poses refl;
  unlike = refl;
  ten_zones = refl;
  short_row = λ law. let e : 9 ≡ 10 = second_whole (pose 0 false None None) (pose_of_width 9) law in absurd (omega arith);
  long_row = λ law. let e : 11 ≡ 10 = second_whole (pose 0 false None None) (pose_of_width 11) law in absurd (omega arith);
  first_empty = λ law. let e : 0 ≡ 10 = All-head IsForTenZones (pose_of_width 0) (pose 0 false None None ∷ []) law in absurd (omega arith);
  middle_empty = λ law. let e : 0 ≡ 10 = All-head IsForTenZones (pose_of_width 0) (pose 0 false None None ∷ []) (All-tail IsForTenZones (pose 0 false None None) (pose_of_width 0 ∷ pose 0 false None None ∷ []) law) in absurd (omega arith);
  unlike_rows = whole_rows unlike_table.poses refl;
  no_poses = All-nil IsForTenZones;
  nothing = refl;
  places_alone = refl;
  ends = refl;
  pose_alone = refl;
}
