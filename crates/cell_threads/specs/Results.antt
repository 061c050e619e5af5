-- What six workers gave back, by machine.
use Rattle.std.specs.Prelude.{◌≡◌, List, [], Option, Some}
use Rattle.cell_rules.specs.Types.{Machine, Feed, Table, Robot, Press, Deposit, Crane, Watch, Event, Entry}
use Rattle.cell_interlock.specs.Views.{PassView}
use Rattle.cell_interlock.specs.declared.pass.Passes.{Passes}
use Rattle.cell_threads.specs.declared.worker_result.WorkerResult.{WorkerResult}
use Rattle.cell_threads.specs.declared.six_of.SixOf.{SixOf}

-- what six workers gave back
abbrev pub SixResults : Type 0 → Type 0 → Type 0 → Type 0 → Type 0 → Type 0 → Type 0
SixResults A B C D E F =
    SixOf (WorkerResult A) (WorkerResult B) (WorkerResult C) (WorkerResult D) (WorkerResult E) (WorkerResult F)

-- none is missing, and these are the six
pub record AreAllThere {A B C D E F : Type 0} (each : SixOf (Option A) (Option B) (Option C) (Option D)
    (Option E) (Option F)) (six : SixOf A B C D E F) : Type 0 where
  pub feed : each.feed ≡ Some six.feed
  pub table : each.table ≡ Some six.table
  pub robot : each.robot ≡ Some six.robot
  pub press : each.press ≡ Some six.press
  pub deposit : each.deposit ≡ Some six.deposit
  pub crane : each.crane ≡ Some six.crane

module _ {A B C D E F : Type 0} where
  -- the journals; the watch's is empty
  abbrev pub journal_in : SixResults A B C D E F → Machine → List Entry
  journal_in results Feed = results.feed.journal.items
  journal_in results Table = results.table.journal.items
  journal_in results Robot = results.robot.journal.items
  journal_in results Press = results.press.journal.items
  journal_in results Deposit = results.deposit.journal.items
  journal_in results Crane = results.crane.journal.items
  journal_in results Watch = []

  -- what each pass has seen; the watch's has seen nothing
  abbrev pub seen_in : SixResults A B C D E F → Machine → List Event
  seen_in results Feed = results.feed.pass.seen
  seen_in results Table = results.table.pass.seen
  seen_in results Robot = results.robot.pass.seen
  seen_in results Press = results.press.pass.seen
  seen_in results Deposit = results.deposit.pass.seen
  seen_in results Crane = results.crane.pass.seen
  seen_in results Watch = []

  -- the passes, with the watch's
  abbrev pub passes_in : SixResults A B C D E F → PassView → Passes
  passes_in results watch =
      record {
        feed = results.feed.pass;
        table = results.table.pass;
        robot = results.robot.pass;
        press = results.press.pass;
        deposit = results.deposit.pass;
        crane = results.crane.pass;
        watch = watch;
      }

  -- what else each gave
  abbrev pub outputs_in : SixResults A B C D E F → SixOf A B C D E F
  outputs_in results =
      record {
        feed = results.feed.output;
        table = results.table.output;
        robot = results.robot.output;
        press = results.press.output;
        deposit = results.deposit.output;
        crane = results.crane.output;
      }
