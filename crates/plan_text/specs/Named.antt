-- A plan with names.
use Rattle.std.specs.Prelude.{List}
use Rattle.plan_types.specs.Table.{PlanTable}
use Rattle.plan_text.specs.Names.{Text}

-- a plan, with the names of its machines, zones, places and poses, of each kind by their numbers, and of each zone the
-- name of its space
pub record Named : Type 0 where
  pub plan : PlanTable
  pub machines : List Text
  pub zones : List Text
  pub spaces : List Text
  pub places : List Text
  pub poses : List Text

abbrev pub named_in : PlanTable → List Text → List Text → List Text → List Text → List Text → Named
named_in plan machines zones spaces places poses = record {
  plan = plan;
  machines = machines;
  zones = zones;
  spaces = spaces;
  places = places;
  poses = poses;
}

-- a plan in which each space has the name of its zone
abbrev pub named : PlanTable → List Text → List Text → List Text → List Text → Named
named plan machines zones places poses = named_in plan machines zones zones places poses
