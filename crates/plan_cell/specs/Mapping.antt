-- A state of the cell as a state of its plan: the same zones, places, stamp and stop.
use Rattle.std.specs.Prelude.{false, ◌∷◌, replicate, option_map}
use Rattle.cell_types.specs.declared.zone.Zone.TheVariants.{Z1, Z2, Z3, Z4, Z5, Z6}
use Rattle.cell_types.specs.declared.place.Place.TheVariants.{FeedEntry, FeedEnd, Table, Arm1, PressIn, PressOut, Arm2}
use Rattle.cell_types.specs.declared.place.Place.TheVariants.{DepEntry, DepEnd, Crane}
use Rattle.cell_rules.specs.declared.zones.ZoneState.{ZoneState}
use Rattle.cell_rules.specs.ModelState.{ModelState, zone_at, is_full}
use Rattle.plan_rules.specs.declared.state.ZoneState.{ZoneState as PlanZoneState}
use Rattle.plan_rules.specs.declared.state.State.{State as PlanState}
use Rattle.plan_rules.specs.State.{free_zone}
use Rattle.plan_cell.specs.Numbers.{machine_number, plan_posture}

abbrev pub plan_zone : ZoneState → PlanZoneState
plan_zone v = record {
  owner = option_map machine_number v.owner;
  flag = v.flag;
  posture = plan_posture v.posture;
}

abbrev pub plan_state : ModelState → PlanState
plan_state s = record {
  zones =
      plan_zone (zone_at s Z1) ∷ plan_zone (zone_at s Z2) ∷ plan_zone (zone_at s Z3) ∷ plan_zone (zone_at s Z4)
      ∷ plan_zone (zone_at s Z5) ∷ plan_zone (zone_at s Z6) ∷ replicate 4 free_zone;
  full =
      is_full s FeedEntry ∷ is_full s FeedEnd ∷ is_full s Table ∷ is_full s Arm1 ∷ is_full s PressIn
      ∷ is_full s PressOut ∷ is_full s Arm2 ∷ is_full s DepEntry ∷ is_full s DepEnd ∷ is_full s Crane
      ∷ replicate 6 false;
  stamp = s.stamp;
  stopped = s.stopped;
}
