-- Forty zones, each on a word of its own.
use Rattle.std.proofs.Common.{◌≡◌, ℕ, ◌+◌, ◌-◌, ◌<◌, ◌%◌, Bool, true, ◌&&◌, not, nat_eq, nat_lt, nat_le, List, [], ◌∷◌, length, filter, get_or, Some, None, refl, sym, subst, ap, ◌∙◌, arith, ltb-true, if◌then◌else◌}
use Rattle.std.specs.List.{range_with_len}
use Rattle.std.proofs.lemmas.Bool.{leb-true, eqb-true, eqb-false, and_parts}
use Rattle.std.proofs.lemmas.List.FromFn.{get_or-map-range_with_len}
use Rattle.plan_types.specs.declared.posture.Posture.{Posture}
use Rattle.plan_types.specs.declared.posture.Posture.TheVariants.{OpenIn}
use Rattle.plan_types.specs.declared.table.PlanPose.{PlanPose}
use Rattle.plan_types.specs.Examples.{pose_at}
use Rattle.plan_types.specs.Table.{PlanTable, zone_count, pose_count, place_count, host_of, guest_of, machine_of, zone_row, pose_row, keeper_of, posture_of, space_of, word_width, no_pose}
use Rattle.plan_types.specs.Plan.{leads, is_alike}
use Rattle.plan_words.specs.Group.{Group}
use Rattle.plan_words.specs.Groups.{IsLargePlan, label_of, label_for, labels_of, zones_of, looks_at, touches, group_of, table_of, Fits}
use Rattle.plan_words.specs.CutLeast.{all_cut, forty_zones, FortyZones}
use Rattle.plan_words.specs.CutTable.{cut_at, all_places}
use Rattle.plan_words.proofs.Pairs.{each, alike_self}
use Rattle.plan_words.proofs.Grouping.{is_laid_out}
use Rattle.plan_words.proofs.Known.{label_in, grouped, group_is}
use Rattle.plan_words.proofs.CutRows.{one_zone, not_true}
use Rattle.plan_words.proofs.CutTables.{is_cut_at, cut_is_large}

-- ---- it is a large plan

pose_is : (p : ℕ) → p < 40 → pose_row forty_zones p ≡ pose_at ((p + 1) % 30) p OpenIn
pose_is p l = get_or-map-range_with_len (λ z. pose_at ((z + 1) % 30) z OpenIn) 0 40 p p no_pose l (omega arith)

host_is : (z : ℕ) → z < 40 → host_of forty_zones z ≡ (z + 1) % 30
host_is z l = eqb-true _ _ (each (λ x. nat_eq (host_of forty_zones x) ((x + 1) % 30)) 40 refl z l)

pose_of_host : (p z : ℕ) (q : Posture) → p < 40 → posture_of forty_zones p z ≡ Some q → (z < 40) × (host_of forty_zones z ≡ machine_of forty_zones p)
pose_of_host p z q l e =
    let same : z ≡ p = one_zone p (9 - p) z OpenIn q (sym (ap (λ (r : PlanPose). get_or r.gives z None) (pose_is p l)) ∙ e) in
    (subst (λ x. x < 40) (sym same) l, ap (host_of forty_zones) same ∙ (host_is p l ∙ sym (ap (λ (r : PlanPose). r.machine) (pose_is p l))))

forty_large : IsLargePlan forty_zones
forty_large = record {
  keeper_is_machine = λ p l. ltb-true _ _ (each (λ x. nat_lt (keeper_of forty_zones x) 30) 41 refl p l);
  host_is_machine = λ z l. ltb-true _ _ (each (λ x. nat_lt (host_of forty_zones x) 30) 40 refl z l);
  guest_is_machine = λ z l. ltb-true _ _ (each (λ x. nat_lt (guest_of forty_zones x) 30) 40 refl z l);
  host_is_not_guest = λ z l. eqb-false _ _ (not_true _ (each (λ x. not (nat_eq (host_of forty_zones x) (guest_of forty_zones x))) 40 refl z l));
  inward_to_host = λ z l. each (λ x. leads forty_zones (guest_of forty_zones x) (host_of forty_zones x) (zone_row forty_zones x).inward) 40 refl z l;
  outward_to_guest = λ z l. each (λ x. leads forty_zones (host_of forty_zones x) (guest_of forty_zones x) (zone_row forty_zones x).outward) 40 refl z l;
  pose_of_machine = λ p l. ltb-true _ _ (each (λ x. nat_lt (machine_of forty_zones x) 30) 40 refl p l);
  pose_of_host = pose_of_host;
  one_host_a_space = λ z l. ap (host_of forty_zones) (alone z l);
  guests_differ = λ y z l m same. absurd (let n : y < 40 = omega (arith, l, m) in let own = sym (alone y n) ∙ (same ∙ alone z m) in omega (arith, own, l));
  space_moves_whole = λ p z l m. ap (λ x. is_alike (posture_of forty_zones p x) (posture_of forty_zones p z)) (alone z m) ∙ alike_self (posture_of forty_zones p z);
}
  where
    alone : (z : ℕ) → z < 40 → space_of forty_zones z ≡ z
    alone z l = eqb-true _ _ (each (λ x. nat_eq (space_of forty_zones x) x) 40 refl z l)

-- ---- its groups, by labels that are known

labels : labels_of (all_cut forty_zones) ≡ range_with_len 0 40
labels = refl

one_each : ℕ → Group
one_each n = grouped (all_cut forty_zones) (range_with_len 0 40) (λ l. nat_eq l n)

fits_test : ℕ → Bool
fits_test n = nat_le (length (one_each n).zones) 10 && (nat_le (length (one_each n).poses) 64 && (nat_le (length (one_each n).places) 16 && nat_le (word_width (table_of (all_cut forty_zones) (one_each n))) 64))

all_fit : (n : ℕ) → n < 41 → fits_test n ≡ true
unfolding fits_test one_each grouped label_in
all_fit n l = each fits_test 41 refl n l

fits : (n : ℕ) → n < 41 → Fits (all_cut forty_zones) (group_of (all_cut forty_zones) n)
unfolding fits_test one_each
fits n l =
    let e = all_fit n l in
    let a = and_parts (nat_le (length (one_each n).zones) 10) (nat_le (length (one_each n).poses) 64 && (nat_le (length (one_each n).places) 16 && nat_le (word_width (table_of (all_cut forty_zones) (one_each n))) 64)) e in
    let b = and_parts (nat_le (length (one_each n).poses) 64) (nat_le (length (one_each n).places) 16 && nat_le (word_width (table_of (all_cut forty_zones) (one_each n))) 64) a.1 in
    let c = and_parts (nat_le (length (one_each n).places) 16) (nat_le (word_width (table_of (all_cut forty_zones) (one_each n))) 64) b.1 in
    let found : Fits (all_cut forty_zones) (one_each n) = record { machines = omega arith; zones = leb-true _ _ a.0; poses = leb-true _ _ b.0; places = leb-true _ _ c.0; width = leb-true _ _ c.1 } in
    subst (Fits (all_cut forty_zones)) (sym (group_is (all_cut forty_zones) (range_with_len 0 40) (λ l. nat_eq l n) labels)) found

large : IsLargePlan (all_cut forty_zones)
large = cut_is_large (cut_at forty_zones all_places) (is_cut_at forty_zones all_places forty_large) forty_large

width_test : ℕ → Bool
width_test n = nat_eq (word_width (table_of (all_cut forty_zones) (one_each n))) 27

all_wide : (n : ℕ) → n < 40 → width_test n ≡ true
unfolding width_test one_each grouped label_in
all_wide n l = each width_test 40 refl n l

width : (n : ℕ) → n < 40 → word_width (table_of (all_cut forty_zones) (group_of (all_cut forty_zones) n)) ≡ 27
unfolding width_test one_each
width n l = ap (λ g. word_width (table_of (all_cut forty_zones) g)) (group_is (all_cut forty_zones) (range_with_len 0 40) (λ l. nat_eq l n) labels) ∙ eqb-true _ _ (all_wide n l)

pub forty : FortyZones
forty = record {
  whole_labels = refl;
  labels = labels;
  large = forty_large;
  no_plan = λ p. let h = p.zones_at_most in absurd (omega (arith, h));
  laid_out = is_laid_out (all_cut forty_zones) large fits;
  width = width;
}
