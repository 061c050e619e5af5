-- Each zone of the cell's plan is a space by itself.
use Rattle.std.proofs.Common.{◌≡◌, ℕ, zero, suc, ◌<◌, ◌||◌, nat_eq, refl, ap, ◌∙◌, arith}
use Rattle.cell_types.specs.declared.machine.Machine.{Machine}
use Rattle.cell_types.specs.declared.zone.Zone.{Zone}
use Rattle.cell_rules.specs.ModelState.{ModelState, zone_at}
use Rattle.cell_rules.proofs.lemmas.Puts.{each_zone}
use Rattle.plan_types.specs.Table.{host_of, guest_of, enters, space_of}
use Rattle.plan_types.proofs.lemmas.Spaces.{first_alone}
use Rattle.plan_rules.specs.declared.state.ZoneState.{ZoneState as PlanZoneState}
use Rattle.plan_rules.specs.declared.state.State.{State as PlanState}
use Rattle.plan_rules.specs.State.{space_has_plate}
use Rattle.plan_rules.specs.PlainLaws.{IsPlain, PlainSpaces}
use Rattle.plan_rules.proofs.lemmas.Plain.{plain_plans_stay}
use Rattle.plan_cell.specs.Numbers.{machine_number, zone_number}
use Rattle.plan_cell.specs.CellPlan.{cell_table}
use Rattle.plan_cell.specs.Mapping.{plan_state}
use Rattle.plan_cell.proofs.Names.{zone_is}

plain : IsPlain cell_table
plain zero = refl
plain (suc zero) = refl
plain (suc (suc zero)) = refl
plain (suc (suc (suc zero))) = refl
plain (suc (suc (suc (suc zero)))) = refl
plain (suc (suc (suc (suc (suc zero))))) = refl
plain (suc (suc (suc (suc (suc (suc z)))))) = refl

pub alone : (s : PlanState) (y : ℕ) → PlainSpaces cell_table s y
alone s y = plain_plans_stay cell_table s y plain

pub first : (y : ℕ) → space_of cell_table y ≡ y
first y = first_alone cell_table y (plain y)

pub inside : (z : Zone) → zone_number z < 6
inside = each_zone (λ z. zone_number z < 6) (omega arith) (omega arith) (omega arith) (omega arith) (omega arith) (omega arith)

pub ten : (z : Zone) → zone_number z < 10
ten z = let few = inside z in omega (arith, few)

-- a plate is in the space of a zone if it is in the zone
pub laden_alike : (s : ModelState) (z : Zone) → space_has_plate cell_table (plan_state s) (zone_number z) ≡ (zone_at s z).flag
laden_alike s z = (alone (plan_state s) (zone_number z)).plate (inside z) ∙ ap (λ (v : PlanZoneState). v.flag) (zone_is s z)

-- and who enters it is its host or its guest
pub enters_alone : (s : ModelState) (m : Machine) (z : Zone)
    → enters cell_table (machine_number m) (zone_number z) ≡ (nat_eq (machine_number m) (host_of cell_table (zone_number z)) || nat_eq (machine_number m) (guest_of cell_table (zone_number z)))
enters_alone s m z = (alone (plan_state s) (zone_number z)).enter (machine_number m) (inside z)
