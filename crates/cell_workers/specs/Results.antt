-- What is left of the machines of a cell after a run by six workers.
use Rattle.cell_parts.specs.declared.plant.PlantState.{PlantState}
use Rattle.cell_parts.specs.declared.parts.feed.FeedPart.{FeedPart}
use Rattle.cell_parts.specs.declared.parts.table.TablePart.{TablePart}
use Rattle.cell_parts.specs.declared.parts.robot.RobotPart.{RobotPart}
use Rattle.cell_parts.specs.declared.parts.press.PressPart.{PressPart}
use Rattle.cell_parts.specs.declared.parts.deposit.DepositPart.{DepositPart}
use Rattle.cell_parts.specs.declared.parts.crane.CranePart.{CranePart}
use Rattle.cell_threads.specs.declared.worker_result.UnitOutput.{UnitOutput}
use Rattle.cell_threads.specs.declared.six_of.SixOf.{SixOf}

-- what is left of the machines of a cell
abbrev pub CellOutputs : Type 0
CellOutputs =
    SixOf (UnitOutput FeedPart) (UnitOutput TablePart) (UnitOutput RobotPart)
    (UnitOutput PressPart) (UnitOutput DepositPart) (UnitOutput CranePart)

abbrev pub parts_in : CellOutputs → PlantState
parts_in each =
    record {
      feed = each.feed.part.belt;
      table = each.table.part.plant;
      robot = each.robot.part.plant;
      press = each.press.part;
      deposit = each.deposit.part.belt;
      crane = each.crane.part.plant;
    }
