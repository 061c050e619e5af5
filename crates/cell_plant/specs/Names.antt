-- The names of this crate that other crates' definitions and proofs use, in one place.
pub use Rattle.cell_plant.specs.CellStates.{CellState, SideOf, Sides, cell_at_start, plant_of, side_in}
pub use Rattle.cell_plant.specs.CellStates.{sides_at_start, statuses_in}
pub use Rattle.cell_plant.specs.Cells.{TellsRun, cell_gauges, cell_scales, five_gauges, points_of, sides_of}
pub use Rattle.cell_plant.specs.Errands.{errand_of}
pub use Rattle.cell_plant.specs.FrameExamples.{has_claimed, starts}
pub use Rattle.cell_plant.specs.Frames.{IsShown, SeesBeginning, SeesRun, frame_of, frames_after, frames_of}
pub use Rattle.cell_plant.specs.GaugeLaws.{GiveOne, GivesOne, HadMemory, SayTheSame}
pub use Rattle.cell_plant.specs.Machines.{ActOf, CellGauges, PartOf, ProgressOf, SenseOf, any_near, on_curves, rig_of}
pub use Rattle.cell_plant.specs.Machines.{robot_gauges, steps_by, steps_of}
pub use Rattle.cell_plant.specs.Moments.{IsRecordSoFar, RunMoment, StepsOn, first_moment, state_at}
pub use Rattle.cell_plant.specs.RecordExamples.{IsOfLiteralRun, IsOfOneStop, counts_of}
pub use Rattle.cell_plant.specs.Records.{IsRecordOf, NoneRefused, counts_in, events_in, is_told, is_turn_of}
pub use Rattle.cell_plant.specs.Records.{positions_in}
pub use Rattle.cell_plant.specs.Resting.{IsAtRest}
pub use Rattle.cell_plant.specs.RunExamples.{asks, at_entered, at_first, at_last, at_press_stopped, opening, schedule}
pub use Rattle.cell_plant.specs.RunExamples.{steps, turn_of}
pub use Rattle.cell_plant.specs.Runs.{IsRun, IsRunBy, LeadsBy, LeadsIfBy, Step, TakesTurn, TakesTurnBy}
pub use Rattle.cell_plant.specs.Runs.{end_of, goes_on}
pub use Rattle.cell_plant.specs.Safety.{IsSafeRun, IsSafeState, IsSafelySet}
pub use Rattle.cell_plant.specs.Simulations.{given_by}
pub use Rattle.cell_plant.specs.Watch.{watch_noting, watch_rig, watch_steps}
pub use Rattle.cell_plant.specs.WatchLaws.{AreRefusedAsWorn, IsRefusedAsWorn}
