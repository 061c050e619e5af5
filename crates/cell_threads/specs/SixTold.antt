-- What a record says of any six workers, whatever the tries, the turns and the gate: machine by machine.
use Rattle.std.specs.Prelude.{◌≡◌, ℕ}
use Rattle.cell_rules.specs.Types.{Machine, Feed, Table, Robot, Press, Deposit, Crane, Watch, journal_of}
use Rattle.cell_rules.specs.Names.{IsLegal, ModelState, after, noted, own_events}
use Rattle.cell_interlock.specs.Fresh.{fresh_pass}
use Rattle.cell_threads.specs.Promises.{GivesOf}
use Rattle.cell_threads.specs.Results.{outputs_in, seen_in}
use Rattle.cell_threads.specs.Six.{TellsSix}
use Rattle.cell_threads.specs.Watching.{TellsWatched, WatchesOf, seen_with}
use Rattle.cell_threads.specs.Workers.{GateOf, IsGivenBack}
use Rattle.cell_threads.specs.declared.six.SixRecord.{SixRecord}
use Rattle.cell_threads.specs.declared.six_of.SixOf.{SixOf}

module _ {W1 W2 W3 W4 W5 W6 A B C D E F : Type 0} (gives1 : GivesOf W1 A) (gives2 : GivesOf W2 B)
    (gives3 : GivesOf W3 C) (gives4 : GivesOf W4 D) (gives5 : GivesOf W5 E) (gives6 : GivesOf W6 F)
    (gate : Machine → GateOf) where
  -- each gave back what it promises, by its machine's fresh pass, these tries, its gate and these turns; the record has
  -- what they gave, and tells one legal history
  pub record SixAreTold (workers : SixOf W1 W2 W3 W4 W5 W6) (opening : ModelState) (tries limit : ℕ)
      (r : SixRecord A B C D E F)
      (k : TellsSix gives1 gives2 gives3 gives4 gives5 gives6 workers opening tries limit gate r) : Type 0 where
    pub feed : gives1 workers.feed (fresh_pass k.interlock Feed) tries (gate Feed) limit k.results.feed
    pub table : gives2 workers.table (fresh_pass k.interlock Table) tries (gate Table) limit k.results.table
    pub robot : gives3 workers.robot (fresh_pass k.interlock Robot) tries (gate Robot) limit k.results.robot
    pub press : gives4 workers.press (fresh_pass k.interlock Press) tries (gate Press) limit k.results.press
    pub deposit : gives5 workers.deposit (fresh_pass k.interlock Deposit) tries (gate Deposit) limit
        k.results.deposit
    pub crane : gives6 workers.crane (fresh_pass k.interlock Crane) tries (gate Crane) limit k.results.crane
    pub feed_left : r.outputs.feed ≡ k.results.feed.output
    pub table_left : r.outputs.table ≡ k.results.table.output
    pub robot_left : r.outputs.robot ≡ k.results.robot.output
    pub press_left : r.outputs.press ≡ k.results.press.output
    pub deposit_left : r.outputs.deposit ≡ k.results.deposit.output
    pub crane_left : r.outputs.crane ≡ k.results.crane.output
    pub opened : k.interlock.opening ≡ opening
    pub start : r.start ≡ opening
    pub legal : IsLegal opening k.history
    pub end : r.end ≡ after opening k.history
    pub own : (m : Machine) → own_events k.history m ≡ own_events (seen_in k.results m) m
    pub journals : (m : Machine) → journal_of r.journals m ≡ noted opening (seen_in k.results m) m
    pub press_gave_back : IsGivenBack (fresh_pass k.interlock Press) k.results.press.pass k.results.press.journal.items

  abbrev pub AnySixAreTold : Type 0
  AnySixAreTold =
      (workers : SixOf W1 W2 W3 W4 W5 W6) (opening : ModelState) (tries limit : ℕ) (r : SixRecord A B C D E F)
      (k : TellsSix gives1 gives2 gives3 gives4 gives5 gives6 workers opening tries limit gate r)
      → SixAreTold workers opening tries limit r k

  -- the same with a watch, which watched by its own fresh pass, with these tries
  module _ {H : Type 0} (watches : WatchesOf H) where
    pub record WatchedAreTold (workers : SixOf W1 W2 W3 W4 W5 W6) (watch : H) (opening : ModelState) (tries limit : ℕ)
        (r : SixRecord A B C D E F) (later : H)
        (k : TellsWatched gives1 gives2 gives3 gives4 gives5 gives6 watches workers watch opening tries limit gate r
        later) : Type 0 where
      pub feed : gives1 workers.feed (fresh_pass k.interlock Feed) tries (gate Feed) limit k.results.feed
      pub table : gives2 workers.table (fresh_pass k.interlock Table) tries (gate Table) limit k.results.table
      pub robot : gives3 workers.robot (fresh_pass k.interlock Robot) tries (gate Robot) limit k.results.robot
      pub press : gives4 workers.press (fresh_pass k.interlock Press) tries (gate Press) limit k.results.press
      pub deposit : gives5 workers.deposit (fresh_pass k.interlock Deposit) tries (gate Deposit) limit
          k.results.deposit
      pub crane : gives6 workers.crane (fresh_pass k.interlock Crane) tries (gate Crane) limit k.results.crane
      pub watched : watches watch (fresh_pass k.interlock Watch) tries k.watched.pass later
      pub watch_gave_back : IsGivenBack (fresh_pass k.interlock Watch) k.watched.pass k.watched.journal.items
      pub left : r.outputs ≡ outputs_in k.results
      pub opened : k.interlock.opening ≡ opening
      pub start : r.start ≡ opening
      pub legal : IsLegal opening k.history
      pub end : r.end ≡ after opening k.history
      pub own : (m : Machine) → own_events k.history m ≡ own_events (seen_with k.results k.watched.pass m) m
      pub journals : (m : Machine)
          → journal_of r.journals m ≡ noted opening (seen_with k.results k.watched.pass m) m

    abbrev pub AnyWatchedAreTold : Type 0
    AnyWatchedAreTold =
        (workers : SixOf W1 W2 W3 W4 W5 W6) (watch : H) (opening : ModelState) (tries limit : ℕ)
        (r : SixRecord A B C D E F) (later : H)
        (k : TellsWatched gives1 gives2 gives3 gives4 gives5 gives6 watches workers watch opening tries limit gate r
        later)
        → WatchedAreTold workers watch opening tries limit r later k
