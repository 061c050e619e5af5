use Rattle.std.proofs.Common.{◌≡◌, [], Some, None, refl, sym, ◌∙◌}
use Rattle.plan_types.specs.declared.posture.Posture.TheVariants.{Moving, OpenOut}
use Rattle.plan_types.specs.declared.fault.PlanFault.{PlanFault}
use Rattle.plan_types.specs.Table.{PlanTable, plan_table}
use Rattle.plan_types.specs.Faults.{plan_fault}
use Rattle.plan_types.specs.Examples.{IsNoPlan, press_table, lift_table, large_table, eight_posed, roads_table, rack_table, lathe_table, plant_table, gated_table, open_press_table, through_table}
use Rattle.plan_types.proofs.lemmas.Checked.{is_plan, no_fault_of_plan}
use Rattle.plan_types.proofs.examples.examples_are_plans.Goals as goal

pub returns-clause-plans : goal.returns-clause-plans
returns-clause-plans c = record {
  press = is_plan press_table refl;
  lift = is_plan lift_table refl;
  large = is_plan large_table refl;
  open_press = is_plan open_press_table refl;
  through = is_plan through_table refl;
  one_machine = is_plan (plan_table 1 [] [] []) refl;
  nothing = is_plan (plan_table 0 [] [] []) refl;
  eight_move = is_plan (eight_posed Moving) refl;
  eight_open = is_plan (eight_posed OpenOut) refl;
  roads = is_plan roads_table refl;
  rack = is_plan rack_table refl;
  lathe = is_plan lathe_table refl;
  plant = is_plan plant_table refl;
  ten_gates = is_plan (gated_table 10 3) refl;
}

no_plan : (t : PlanTable) (fault : PlanFault) → plan_fault t ≡ Some fault → IsNoPlan t fault
no_plan t fault found = (found, λ plan. let e : Some fault ≡ None = sym found ∙ no_fault_of_plan t plan in cc)

pub returns-clause-no_plans : goal.returns-clause-no_plans
returns-clause-no_plans c = record {
  machines = no_plan _ _ refl;
  many_machines = no_plan _ _ refl;
  zones = no_plan _ _ refl;
  poses = no_plan _ _ refl;
  places = no_plan _ _ refl;
  zones_wide = no_plan _ _ refl;
  wide = no_plan _ _ refl;
  keeper = no_plan _ _ refl;
  keeper_of_none = no_plan _ _ refl;
  host = no_plan _ _ refl;
  guest = no_plan _ _ refl;
  same = no_plan _ _ refl;
  inward_from = no_plan _ _ refl;
  inward_to = no_plan _ _ refl;
  outward_from = no_plan _ _ refl;
  outward_to = no_plan _ _ refl;
  machine = no_plan _ _ refl;
  of_guest = no_plan _ _ refl;
  of_stranger = no_plan _ _ refl;
  not_there = no_plan _ _ refl;
  far = no_plan _ _ refl;
}
