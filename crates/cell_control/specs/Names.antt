-- The names of this crate that other crates' definitions and proofs use, in one place.
pub use Rattle.cell_control.specs.Demands.{HoldsIn}
pub use Rattle.cell_control.specs.Faults.{fault_of}
pub use Rattle.cell_control.specs.Rigs.{Rig}
pub use Rattle.cell_control.specs.Row.{row_that_asks, row_that_drives, waits_on, with_waits}
pub use Rattle.cell_control.specs.Rows.{AskRow, CheckRow, DriveRow, InquiryRow, NoOtherAnswers, UntilFree, UntilOpen}
pub use Rattle.cell_control.specs.Rows.{is_inquiry}
pub use Rattle.cell_control.specs.Steps.{InStepAfter, IsReached, Steps, after_answer, is_while_stopped, program_of}
pub use Rattle.cell_control.specs.Steps.{step_after_reply, waits_out, with_senses}
pub use Rattle.cell_control.specs.TurnRows.{Says, stops_with}
pub use Rattle.cell_control.specs.Turns.{Performed, PerformsCall, PerformsSensed, Turned, Turns, answered, at_rest}
pub use Rattle.cell_control.specs.Turns.{turned}
