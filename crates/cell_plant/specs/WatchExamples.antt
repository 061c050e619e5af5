-- The rows of the watch's program, by examples.
use Rattle.std.specs.Prelude.{◌≡◌, true, false, [], Ok}
use Rattle.cell_rules.specs.Types.{Watch, Stop, Resume}
use Rattle.cell_rules.specs.ModelState.{ModelState}
use Rattle.cell_control.specs.Rows.{AskRow, CheckRow, NoOtherAnswers}
use Rattle.cell_plant.specs.declared.watch.WatchProgress.{WatchProgress}
use Rattle.cell_plant.specs.Watch.{watch_steps}

abbrev pub stopped : WatchProgress
stopped = record { has_stopped = true }

abbrev pub running : WatchProgress
running = record { has_stopped = false }

-- it begins with a stop, resumes after it, and stops again; it waits for nothing
pub record WatchRowsAreMet : Type 0 where
  pub whose : watch_steps.machine ≡ Watch
  pub starts : (s : ModelState) → watch_steps.start s ≡ running
  pub stops : AskRow watch_steps running Stop [] stopped
  pub resumes : AskRow watch_steps stopped Resume [] running
  pub checks : CheckRow watch_steps tt (Ok tt)
  pub no_other_answers : NoOtherAnswers watch_steps
