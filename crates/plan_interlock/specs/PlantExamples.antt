-- A plant of three machines on two words, written out: a loader at a press, and at a shelf.
use Rattle.std.specs.Prelude.{false, [], ◌∷◌, Some, None}
use Rattle.plan_types.specs.declared.posture.Posture.TheVariants.{OpenIn}
use Rattle.plan_types.specs.Table.{PlanTable, plan_table}
use Rattle.plan_types.specs.Examples.{press_table, zone, pose}

-- on word 0 the loader, machine 0, and the press, machine 1
abbrev pub press_word : PlanTable
press_word = record press_table { machines = 3 }

-- on word 1 the loader again, which enters the shelf, a zone of machine 2, while it is open
abbrev pub shelf_word : PlanTable
shelf_word = plan_table 3 (zone 2 0 None None ∷ []) (pose 2 false (Some OpenIn) None ∷ []) []
