-- A sound state of the cell is sound by its plan.
use Rattle.std.proofs.Common.{◌≡◌, ◌≢◌, ℕ, zero, suc, ◌+◌, ◌<◌, ◌≤◌, Bool, true, false, ◌&&◌, ◌||◌, not, get_or, replicate, Option, Some, None, is_none, refl, sym, ap, ap₂, ◌∙◌, subst, arith}
use Rattle.std.specs.Prelude.{option_map}
use Rattle.std.proofs.lemmas.Bool.{eqb-true}
use Rattle.cell_types.specs.declared.machine.Machine.{Machine}
use Rattle.cell_types.specs.declared.zone.Zone.{Zone}
use Rattle.cell_types.specs.declared.zone.Zone.TheVariants.{Z1, Z2, Z3, Z4, Z5, Z6}
use Rattle.cell_types.specs.declared.zone.Transfer.{Transfer}
use Rattle.cell_types.specs.declared.place.Place.{Place}
use Rattle.cell_types.specs.declared.place.Place.TheVariants.{FeedEntry, FeedEnd, Table, Arm1, PressIn, PressOut, Arm2, DepEntry, DepEnd, Crane}
use Rattle.cell_types.specs.declared.posture.Posture.{Posture}
use Rattle.cell_types.specs.declared.posture.Posture.TheVariants.{Moving}
use Rattle.cell_types.specs.Same.{same_zone}
use Rattle.cell_types.specs.Tables.{host_of, guest_of, transfer_of}
use Rattle.cell_rules.specs.ModelState.{ModelState, zone_at, is_full}
use Rattle.cell_rules.specs.Sound as cell
use Rattle.cell_rules.proofs.lemmas.Tables.{all_zones, all_places, all_postures, from_zones, from_places, from_postures, and_left, and_right}
use Rattle.cell_rules.proofs.lemmas.Puts.{each_zone, each_place}
use Rattle.plan_types.specs.declared.posture.Posture.TheVariants.{Moving as IsMoving}
use Rattle.plan_types.specs.Same.{same_posture as plan_same_posture}
use Rattle.plan_types.specs.Table as table
use Rattle.plan_types.specs.Below.{sum_below}
use Rattle.plan_rules.specs.State.{zone_at as plan_zone_at, is_full as plan_is_full, one_if, leads_to, is_coming, coming, plates_for}
use Rattle.plan_rules.specs.Sound as plan
use Rattle.plan_rules.proofs.lemmas.Puts.{nat_eq-apart}
use Rattle.plan_cell.specs.Numbers.{machine_number, zone_number, place_number, plan_posture}
use Rattle.plan_cell.specs.CellPlan.{cell_table}
use Rattle.plan_cell.specs.Mapping.{plan_zone, plan_state}
use Rattle.plan_cell.specs.Laws.{SoundByPlan}
use Rattle.plan_cell.proofs.Alone.{first, enters_alone}
use Rattle.plan_cell.proofs.Names.{same_postures, opens_alike, owned_alike, host_is, guest_is, zone_is, full_is, way_is, plan_transfer}

-- ---- the zones

host_owns : (o : Option Machine) (z : Zone) → plan.is_owned_by (option_map machine_number o) (table.host_of cell_table (zone_number z)) ≡ cell.is_owned_by o (host_of z)
host_owns o z = ap (plan.is_owned_by (option_map machine_number o)) (host_is z) ∙ owned_alike o (host_of z)

guest_owns : (o : Option Machine) (z : Zone) → plan.is_owned_by (option_map machine_number o) (table.guest_of cell_table (zone_number z)) ≡ cell.is_owned_by o (guest_of z)
guest_owns o z = ap (plan.is_owned_by (option_map machine_number o)) (guest_is z) ∙ owned_alike o (guest_of z)

received_alike : (o : Option Machine) (row : Option Transfer) → plan.is_received_by (option_map machine_number o) (option_map plan_transfer row) ≡ cell.is_received_by o row
received_alike o None = refl
received_alike o (Some row) = owned_alike o row.receiver

-- who owns a zone of the cell enters its space
entrant : (s : ModelState) (o : Option Machine) (z : Zone) → (is_none o || cell.is_owned_by o (host_of z) || cell.is_owned_by o (guest_of z)) ≡ true
    → plan.is_entrant cell_table (zone_number z) (option_map machine_number o) ≡ true
entrant s None z e = refl
entrant s (Some m) z e = enters_alone s m z ∙ ap₂ (λ a b. a || b) (host_owns (Some m) z) (guest_owns (Some m) z) ∙ e

weaker : (f a b : Bool) → cell.implies f (a && b) ≡ true → plan.implies f a ≡ true
weaker true a b e = and_left a b e
weaker false a b e = refl

lawful : (s : ModelState) → cell.IsSound s → (z : Zone) → plan.IsLawfulZone cell_table (zone_number z) (plan_zone (zone_at s z))
lawful s k z =
    let v = zone_at s z in
    let row = transfer_of z v.posture in
    record {
      owner_is_party = entrant s v.owner z (k.owner_is_party z);
      flag_has_transfer = ap (plan.implies v.flag) (ap (plan.is_received_by (option_map machine_number v.owner)) (way_is z v.posture) ∙ received_alike v.owner row)
          ∙ weaker v.flag (cell.is_received_by v.owner row) (not (cell.is_onto_full s.full row)) (k.flag_has_transfer z);
      guest_only_while_open = ap₂ plan.implies (guest_owns v.owner z) (opens_alike v.posture) ∙ k.guest_only_while_open z;
      moving_belongs_to_host = ap₂ plan.implies (same_postures v.posture Moving) (host_owns v.owner z) ∙ k.moving_belongs_to_host z;
    }

zone_with : (y : ℕ) → y < 6 → (z : Zone) × (zone_number z ≡ y)
zone_with zero l = (Z1, refl)
zone_with (suc zero) l = (Z2, refl)
zone_with (suc (suc zero)) l = (Z3, refl)
zone_with (suc (suc (suc zero))) l = (Z4, refl)
zone_with (suc (suc (suc (suc zero)))) l = (Z5, refl)
zone_with (suc (suc (suc (suc (suc zero))))) l = (Z6, refl)
zone_with (suc (suc (suc (suc (suc (suc y)))))) l = absurd (omega arith)

zones_are_lawful : (s : ModelState) → cell.IsSound s → (y : ℕ) → y < 6 → plan.IsLawfulZone cell_table y (plan_zone_at (plan_state s) y)
zones_are_lawful s k y l =
    let found = zone_with y l in
    let here = subst (plan.IsLawfulZone cell_table (zone_number found.0)) (sym (zone_is s found.0)) (lawful s k found.0) in
    subst (λ x. plan.IsLawfulZone cell_table x (plan_zone_at (plan_state s) x)) found.1 here

of_space : (s : ModelState) (y : ℕ) → plan.IsOfSpace cell_table (plan_state s) y
of_space s y = record {
  owner = ap (λ x. (plan_zone_at (plan_state s) x).owner) (sym (first y));
  motion = ap (λ x. plan_same_posture (plan_zone_at (plan_state s) x).posture IsMoving) (sym (first y));
}

-- ---- the places

-- the zone through which a plate comes to a place; of three places none does
abbrev source : Place → Zone
source Table = Z1
source Arm1 = Z2
source PressIn = Z3
source Arm2 = Z3
source DepEntry = Z4
source Crane = Z5
source FeedEntry = Z6
source FeedEnd = Z1
source PressOut = Z3
source DepEnd = Z5

abbrev source_test : Place → Zone → Posture → Bool
source_test d x q = same_zone x (source d) || not (leads_to (table.transfer_of cell_table (zone_number x) (plan_posture q)) (place_number d))

sources : all_places (λ d. all_zones (λ x. all_postures (λ q. source_test d x q))) ≡ true
sources = refl

from_source : (d : Place) (x : Zone) (q : Posture) → source_test d x q ≡ true
from_source d x q =
    from_postures (λ q. source_test d x q) (from_zones (λ x. all_postures (λ q. source_test d x q)) (from_places (λ d. all_zones (λ x. all_postures (λ q. source_test d x q))) sources d) x) q

not_from : (a b : Bool) → (a || not b) ≡ true → a ≡ false → b ≡ false
not_from true b e f = cc
not_from false true e f = cc
not_from false false e f = refl

and_none : (a b : Bool) → b ≡ false → (a && b) ≡ false
and_none true b e = e
and_none false b e = refl

comes_from : (s : ModelState) (d : Place) (x : Zone) → same_zone x (source d) ≡ false → is_coming cell_table (plan_zone_at (plan_state s) (zone_number x)) (place_number d) (zone_number x) ≡ false
comes_from s d x e =
    ap (λ v. is_coming cell_table v (place_number d) (zone_number x)) (zone_is s x)
    ∙ and_none (zone_at s x).flag (leads_to (table.transfer_of cell_table (zone_number x) (plan_posture (zone_at s x).posture)) (place_number d))
    (not_from (same_zone x (source d)) (leads_to (table.transfer_of cell_table (zone_number x) (plan_posture (zone_at s x).posture)) (place_number d)) (from_source d x (zone_at s x).posture) e)

-- a sum of which one zone alone has a part
abbrev Alone : (ℕ → ℕ) → Zone → Type 0
Alone f z = ((x : Zone) → same_zone x z ≡ false → f (zone_number x) ≡ 0) → sum_below f 6 ≡ f (zone_number z)

alone : (f : ℕ → ℕ) (z : Zone) → Alone f z
alone f = each_zone (Alone f)
    (λ k. let b = k Z2 refl in let c = k Z3 refl in let d = k Z4 refl in let e = k Z5 refl in let g = k Z6 refl in omega (arith, b, c, d, e, g))
    (λ k. let a = k Z1 refl in let c = k Z3 refl in let d = k Z4 refl in let e = k Z5 refl in let g = k Z6 refl in omega (arith, a, c, d, e, g))
    (λ k. let a = k Z1 refl in let b = k Z2 refl in let d = k Z4 refl in let e = k Z5 refl in let g = k Z6 refl in omega (arith, a, b, d, e, g))
    (λ k. let a = k Z1 refl in let b = k Z2 refl in let c = k Z3 refl in let e = k Z5 refl in let g = k Z6 refl in omega (arith, a, b, c, e, g))
    (λ k. let a = k Z1 refl in let b = k Z2 refl in let c = k Z3 refl in let d = k Z4 refl in let g = k Z6 refl in omega (arith, a, b, c, d, g))
    (λ k. let a = k Z1 refl in let b = k Z2 refl in let c = k Z3 refl in let d = k Z4 refl in let e = k Z5 refl in omega (arith, a, b, c, d, e))

not_not : (b : Bool) → not b ≡ true → b ≡ false
not_not true e = cc
not_not false e = refl

implied : (a b : Bool) → cell.implies a b ≡ true → a ≡ true → b ≡ true
implied true b e f = e
implied false b e f = cc

-- a plate is on its way to an empty place alone
onto_empty : (s : ModelState) (d : Place) (o : Option Transfer) (received : Bool) → (received && not (cell.is_onto_full s.full o)) ≡ true → leads_to (option_map plan_transfer o) (place_number d) ≡ true → plan_is_full (plan_state s) (place_number d) ≡ false
onto_empty s d None received e leads = cc
onto_empty s d (Some row) received e leads =
    let same : place_number row.to ≡ place_number d = eqb-true _ _ leads in
    let empty : is_full s row.to ≡ false = not_not (is_full s row.to) (and_right received (not (is_full s row.to)) e) in
    ap (plan_is_full (plan_state s)) (sym same) ∙ full_is s row.to ∙ empty

empty_if_coming : (s : ModelState) → cell.IsSound s → (d : Place) (z : Zone) → is_coming cell_table (plan_zone (zone_at s z)) (place_number d) (zone_number z) ≡ true → plan_is_full (plan_state s) (place_number d) ≡ false
empty_if_coming s k d z e =
    let v = zone_at s z in
    let row = transfer_of z v.posture in
    let there = table.transfer_of cell_table (zone_number z) (plan_posture v.posture) in
    let flag : v.flag ≡ true = and_left v.flag (leads_to there (place_number d)) e in
    let leads : leads_to (option_map plan_transfer row) (place_number d) ≡ true = ap (λ o. leads_to o (place_number d)) (sym (way_is z v.posture)) ∙ and_right v.flag (leads_to there (place_number d)) e in
    let received = cell.is_received_by v.owner row in
    onto_empty s d row received (implied v.flag (received && not (cell.is_onto_full s.full row)) (k.flag_has_transfer z) flag) leads

one_of_two : (a b : Bool) → (b ≡ true → a ≡ false) → one_if a + one_if b ≤ 1
one_of_two true true k = let e = k refl in cc
one_of_two true false k = omega arith
one_of_two false true k = omega arith
one_of_two false false k = omega arith

one_at : (s : ModelState) → cell.IsSound s → (d : Place) → plates_for cell_table (plan_state s) (place_number d) ≤ 1
one_at s k d =
    let p = place_number d in
    let z = source d in
    let S = plan_state s in
    let comes : ℕ → Bool = λ y. is_coming cell_table (plan_zone_at S y) p y in
    let all : coming cell_table S p ≡ one_if (comes (zone_number z)) = alone (λ y. one_if (comes y)) z (λ x e. ap one_if (comes_from s d x e)) in
    let here : comes (zone_number z) ≡ is_coming cell_table (plan_zone (zone_at s z)) p (zone_number z) = ap (λ v. is_coming cell_table v p (zone_number z)) (zone_is s z) in
    let one = one_of_two (plan_is_full S p) (comes (zone_number z)) (λ e. empty_if_coming s k d z (sym here ∙ e)) in
    omega (arith, all, one)

-- ---- past the places
small : (d : Place) → place_number d < 10
small = each_place (λ d. place_number d < 10) (omega arith) (omega arith) (omega arith) (omega arith) (omega arith) (omega arith) (omega arith) (omega arith) (omega arith) (omega arith)

leads_nowhere : (o : Option Transfer) (p : ℕ) → 10 ≤ p → leads_to (option_map plan_transfer o) p ≡ false
leads_nowhere None p past = refl
leads_nowhere (Some row) p past = let low = small row.to in let ne : place_number row.to ≢ p = omega arith in nat_eq-apart (place_number row.to) p ne

nothing_past : (s : ModelState) (p : ℕ) → 10 ≤ p → (x : Zone) → one_if (is_coming cell_table (plan_zone_at (plan_state s) (zone_number x)) p (zone_number x)) ≡ 0
nothing_past s p past x =
    ap one_if (ap (λ v. is_coming cell_table v p (zone_number x)) (zone_is s x)
    ∙ and_none (zone_at s x).flag (leads_to (table.transfer_of cell_table (zone_number x) (plan_posture (zone_at s x).posture)) p)
    (ap (λ o. leads_to o p) (way_is x (zone_at s x).posture) ∙ leads_nowhere (transfer_of x (zone_at s x).posture) p past))

none_past : (s : ModelState) (p : ℕ) → 10 ≤ p → coming cell_table (plan_state s) p ≡ 0
none_past s p past =
    let none = nothing_past s p past in
    alone (λ y. one_if (is_coming cell_table (plan_zone_at (plan_state s) y) p y)) Z1 (λ x e. none x) ∙ none Z1

no_plate : (n i : ℕ) → get_or (replicate n false) i false ≡ false
no_plate zero i = refl
no_plate (suc n) zero = refl
no_plate (suc n) (suc i) = no_plate n i

abbrev OnePlate : ModelState → ℕ → Type 0
OnePlate s p = plates_for cell_table (plan_state s) p ≤ 1

one_plate : (s : ModelState) → cell.IsSound s → (p : ℕ) → OnePlate s p
one_plate s k zero = one_at s k FeedEntry
one_plate s k (suc zero) = one_at s k FeedEnd
one_plate s k (suc (suc zero)) = one_at s k Table
one_plate s k (suc (suc (suc zero))) = one_at s k Arm1
one_plate s k (suc (suc (suc (suc zero)))) = one_at s k PressIn
one_plate s k (suc (suc (suc (suc (suc zero))))) = one_at s k PressOut
one_plate s k (suc (suc (suc (suc (suc (suc zero)))))) = one_at s k Arm2
one_plate s k (suc (suc (suc (suc (suc (suc (suc zero))))))) = one_at s k DepEntry
one_plate s k (suc (suc (suc (suc (suc (suc (suc (suc zero)))))))) = one_at s k DepEnd
one_plate s k (suc (suc (suc (suc (suc (suc (suc (suc (suc zero))))))))) = one_at s k Crane
one_plate s k (suc (suc (suc (suc (suc (suc (suc (suc (suc (suc i)))))))))) =
    let none = none_past s (suc (suc (suc (suc (suc (suc (suc (suc (suc (suc i)))))))))) (omega arith) in
    let empty : one_if (get_or (replicate 6 false) i false) ≡ 0 = ap one_if (no_plate 6 i) in
    omega (arith, none, empty)

pub sound_by_plan : SoundByPlan
sound_by_plan s k = record {
  stamp_in_range = k.stamp_in_range;
  has_ten_zones = refl;
  has_sixteen_places = refl;
  zone_is_lawful = zones_are_lawful s k;
  zone_is_of_space = λ y l. of_space s y;
  one_plate_a_space = λ y z ly lz same fy fz. sym (first y) ∙ same ∙ first z;
  one_plate_a_place = one_plate s k;
}
