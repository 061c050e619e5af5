use Rattle.std.proofs.Common.{refl, replicate, false}
use Rattle.plan_types.specs.Examples.{press_table, lift_table}
use Rattle.plan_rules.specs.State.{start_state}
use Rattle.plan_rules.specs.History.{after}
use Rattle.plan_rules.specs.Examples.{press_start, full_press, loading, unloading, stopping, standing, wearing, last_change, lift_start, lifting, doors_table, doors_start, moving_one_door, opening_one_door, opening_beside_a_guest, presses_table, opening_two_presses, gates_table, gates_start, passing_both_gates}
use Rattle.plan_rules.proofs.Literal.{legal_by}
use Rattle.plan_rules.proofs.examples.examples_are_legal.Goals as goal

pub returns : goal.returns
returns c = record {
  press_loads = legal_by press_table press_start loading refl;
  press_unloads = legal_by press_table (after press_table press_start loading) unloading refl;
  press_stops = legal_by press_table (start_state (replicate 16 false) 7) stopping refl;
  press_stands = legal_by press_table press_start standing refl;
  last_change_is_done = legal_by press_table (start_state (replicate 16 false) 1048574) last_change refl;
  press_wears = legal_by press_table full_press wearing refl;
  lift_lifts = legal_by lift_table lift_start lifting refl;
  doors_are_a_plan = refl;
  one_door_moves = legal_by doors_table doors_start moving_one_door refl;
  one_door_opens = legal_by doors_table doors_start opening_one_door refl;
  door_opens_beside_a_guest = legal_by doors_table doors_start opening_beside_a_guest refl;
  presses_are_a_plan = refl;
  presses_open = legal_by presses_table press_start opening_two_presses refl;
  gates_are_a_plan = refl;
  both_gates_pass = legal_by gates_table gates_start passing_both_gates refl;
}
