-- Six workers over one interlock after another: each opens where the one before it ended, but for the stamp.
use Rattle.std.specs.Prelude.{◌≡◌, ◌≤◌, ◌<◌, ℕ, Result, Ok, ◌⊎◌}
use Rattle.cell_rules.specs.Types.{Machine, Feed, Table, Robot, Press, Deposit, Crane}
use Rattle.cell_rules.specs.Names.{ModelState, after, restamped, IsSameFor}
use Rattle.cell_interlock.specs.Views.{PassView}
use Rattle.cell_notes.specs.declared.status.Status.{Status}
use Rattle.cell_notes.specs.declared.status.Status.TheVariants.{Fine}
use Rattle.cell_threads.specs.Workers.{GateOf, ComesBy}
use Rattle.cell_threads.specs.Promises.{GivesOf}
use Rattle.cell_threads.specs.Six.{AreReadyAt}
use Rattle.cell_threads.specs.Watching.{TellsWatched, WatchesOf}
use Rattle.cell_threads.specs.declared.six_of.SixOf.{SixOf}
use Rattle.cell_threads.specs.declared.six.SixRecord.{SixRecord}
use Rattle.cell_renewal.specs.declared.rounds.Round.{Round}
use Rattle.cell_renewal.specs.declared.rounds.Leave.{Leave}
use Rattle.cell_renewal.specs.declared.renewed.RoundEnd.{RoundEnd}
use Rattle.cell_renewal.specs.declared.renewed.RoundEnd.TheVariants.{GoesOn, Ends}

-- the next interlock opens with the end of the one before; a stamp that has passed the mark begins again at 0
abbrev pub OpensAfter : ℕ → ModelState → ModelState → Type 0
OpensAfter mark end next = ((mark < end.stamp) × (next ≡ restamped end 0)) ⊎ ((end.stamp ≤ mark) × (next ≡ end))

-- a worker has left its pass's machine, with the state after what its pass has seen
pub record Leaves (machine : Machine) (left : ModelState) (got kept : PassView) : Type 0 where
  pub own : machine ≡ got.machine
  pub state : left ≡ after kept.opening kept.seen

-- what a worker left is this machine's, which may go on where an interlock opens with this state
pub record MayGoOn (m machine : Machine) (left opening : ModelState) : Type 0 where
  pub own : machine ≡ m
  pub same : IsSameFor machine left opening

-- a worker that goes on with what was left where an interlock opens
abbrev pub GoesOnBy : Type 0 → Type 0 → Type 1
GoesOnBy A W = A → ModelState → W → Type 0

module _ {A B C D E F : Type 0} where
  -- so may each of the six
  pub record MayAllGoOn (of1 : A → Machine) (of2 : B → Machine) (of3 : C → Machine) (of4 : D → Machine)
      (of5 : E → Machine) (of6 : F → Machine)
      (left1 : A → ModelState) (left2 : B → ModelState) (left3 : C → ModelState) (left4 : D → ModelState)
      (left5 : E → ModelState) (left6 : F → ModelState)
      (each : SixOf A B C D E F) (opening : ModelState) : Type 0 where
    pub feed : MayGoOn Feed (of1 each.feed) (left1 each.feed) opening
    pub table : MayGoOn Table (of2 each.table) (left2 each.table) opening
    pub robot : MayGoOn Robot (of3 each.robot) (left3 each.robot) opening
    pub press : MayGoOn Press (of4 each.press) (left4 each.press) opening
    pub deposit : MayGoOn Deposit (of5 each.deposit) (left5 each.deposit) opening
    pub crane : MayGoOn Crane (of6 each.crane) (left6 each.crane) opening

  -- each worker ended fine
  pub record AreAllFine (how1 : A → Status) (how2 : B → Status) (how3 : C → Status) (how4 : D → Status)
      (how5 : E → Status) (how6 : F → Status) (each : SixOf A B C D E F) : Type 0 where
    pub feed : how1 each.feed ≡ Fine
    pub table : how2 each.table ≡ Fine
    pub robot : how3 each.robot ≡ Fine
    pub press : how4 each.press ≡ Fine
    pub deposit : how5 each.deposit ≡ Fine
    pub crane : how6 each.crane ≡ Fine

  -- each goes on by a new worker
  pub record GoAllOn {W1 W2 W3 W4 W5 W6 : Type 0} (goes1 : GoesOnBy A W1) (goes2 : GoesOnBy B W2)
      (goes3 : GoesOnBy C W3) (goes4 : GoesOnBy D W4) (goes5 : GoesOnBy E W5) (goes6 : GoesOnBy F W6)
      (each : SixOf A B C D E F) (opening : ModelState) (workers : SixOf W1 W2 W3 W4 W5 W6) : Type 0 where
    pub feed : goes1 each.feed opening workers.feed
    pub table : goes2 each.table opening workers.table
    pub robot : goes3 each.robot opening workers.robot
    pub press : goes4 each.press opening workers.press
    pub deposit : goes5 each.deposit opening workers.deposit
    pub crane : goes6 each.crane opening workers.crane

-- What comes after a round. If all six ended fine, each goes on with what it left, and may begin: the next interlock
-- opens where the one before it ended, but for the stamp. The watch goes on as it is.
module _ {W1 W2 W3 W4 W5 W6 A B C D E F H : Type 0} (ready1 : W1 → PassView → Type 0)
    (ready2 : W2 → PassView → Type 0) (ready3 : W3 → PassView → Type 0) (ready4 : W4 → PassView → Type 0)
    (ready5 : W5 → PassView → Type 0) (ready6 : W6 → PassView → Type 0)
    (how1 : A → Status) (how2 : B → Status) (how3 : C → Status) (how4 : D → Status) (how5 : E → Status)
    (how6 : F → Status)
    (goes1 : GoesOnBy A W1) (goes2 : GoesOnBy B W2) (goes3 : GoesOnBy C W3) (goes4 : GoesOnBy D W4)
    (goes5 : GoesOnBy E W5) (goes6 : GoesOnBy F W6) (mark : ℕ) where
  pub record GoOnAfter (left : Leave A B C D E F H) (workers : SixOf W1 W2 W3 W4 W5 W6) (watch : H)
      (opening : ModelState) : Type 0 where
    pub fine : AreAllFine how1 how2 how3 how4 how5 how6 left.outputs
    pub opens : OpensAfter mark left.end opening
    pub goes_on : GoAllOn goes1 goes2 goes3 goes4 goes5 goes6 left.outputs opening workers
    pub watch_is : watch ≡ left.watch
    pub ready : AreReadyAt ready1 ready2 ready3 ready4 ready5 ready6 opening workers

  abbrev pub IsTurnedOver : Leave A B C D E F H → RoundEnd W1 W2 W3 W4 W5 W6 A B C D E F H → Type 0
  IsTurnedOver left (GoesOn workers watch opening) = GoOnAfter left workers watch opening
  IsTurnedOver left (Ends last) = (last ≡ left) × (¬ AreAllFine how1 how2 how3 how4 how5 how6 left.outputs)

-- between two rounds: the workers, the watch, the state that the next interlock opens with, and the caller's sink
pub record RoundMoment (W1 W2 W3 W4 W5 W6 H S : Type 0) : Type 0 where
  pub workers : SixOf W1 W2 W3 W4 W5 W6
  pub watch : H
  pub opening : ModelState
  pub sink : S

-- what a round of six workers and a watch noted, without what its workers left
abbrev pub round_in : {A B C D E F : Type 0} → SixRecord A B C D E F → Round
round_in r = record { start = r.start; journals = r.journals; end = r.end }

-- what it left, without its journals
abbrev pub leave_of : {A B C D E F H : Type 0} → SixRecord A B C D E F → H → Leave A B C D E F H
leave_of r watch = record { end = r.end; outputs = r.outputs; watch = watch }

module _ {W1 W2 W3 W4 W5 W6 A B C D E F H S Fault : Type 0} (gives1 : GivesOf W1 A) (gives2 : GivesOf W2 B)
    (gives3 : GivesOf W3 C) (gives4 : GivesOf W4 D) (gives5 : GivesOf W5 E) (gives6 : GivesOf W6 F)
    (watches : WatchesOf H) (takes : S → Round → Result (Unit {0}) Fault → S → Type 0) (tries limit : ℕ)
    (gate : Machine → GateOf) where
  -- A round is over: its record is that of six workers and the watch over one interlock, and the sink has taken what
  -- it noted.
  pub record EndsRound (before : RoundMoment W1 W2 W3 W4 W5 W6 H S) (left : Leave A B C D E F H) (sink : S)
      : Type 0 where
    pub six : SixRecord A B C D E F
    pub told : TellsWatched gives1 gives2 gives3 gives4 gives5 gives6 watches before.workers before.watch
        before.opening tries limit gate six left.watch
    pub taken : takes before.sink (round_in six) (Ok tt) sink
    pub is : left ≡ leave_of six left.watch

  -- whatever the six workers and the watch note in their next round, the sink may take it
  abbrev pub MayTakeNext : (S → Round → Type 0) → RoundMoment W1 W2 W3 W4 W5 W6 H S → Type 0
  MayTakeNext may_take now = (six : SixRecord A B C D E F) (watch : H)
      → TellsWatched gives1 gives2 gives3 gives4 gives5 gives6 watches now.workers now.watch now.opening tries limit
      gate six watch
      → may_take now.sink (round_in six)

  module _ (how1 : A → Status) (how2 : B → Status) (how3 : C → Status) (how4 : D → Status) (how5 : E → Status)
      (how6 : F → Status)
      (goes1 : GoesOnBy A W1) (goes2 : GoesOnBy B W2) (goes3 : GoesOnBy C W3) (goes4 : GoesOnBy D W4)
      (goes5 : GoesOnBy E W5) (goes6 : GoesOnBy F W6) (mark : ℕ) where
    -- From one round to the next: all six ended fine, and each goes on with what it left. The next interlock opens
    -- where the one before it ended, but for the stamp. The watch goes on as it is.
    pub record TakesRound (before now : RoundMoment W1 W2 W3 W4 W5 W6 H S) : Type 0 where
      pub left : Leave A B C D E F H
      pub ends : EndsRound before left now.sink
      pub fine : AreAllFine how1 how2 how3 how4 how5 how6 left.outputs
      pub opens : OpensAfter mark left.end now.opening
      pub goes_on : GoAllOn goes1 goes2 goes3 goes4 goes5 goes6 left.outputs now.opening now.workers
      pub watch_is : now.watch ≡ left.watch

    -- After any rounds that the sink has taken, one after another, it may take the next one.
    abbrev pub MayTakeEach : (S → Round → Type 0) → RoundMoment W1 W2 W3 W4 W5 W6 H S → Type 0
    MayTakeEach may_take first = (now : RoundMoment W1 W2 W3 W4 W5 W6 H S) → ComesBy TakesRound first now
        → MayTakeNext may_take now

    -- Rounds, one after another. In the last one a worker didn't end fine, and this is what the six and the watch left.
    pub record RunsRenewed (first : RoundMoment W1 W2 W3 W4 W5 W6 H S) (left : Leave A B C D E F H) (sink : S)
        : Type 0 where
      pub last : RoundMoment W1 W2 W3 W4 W5 W6 H S
      pub come : ComesBy TakesRound first last
      pub ends : EndsRound last left sink
      pub not_all_fine : ¬ AreAllFine how1 how2 how3 how4 how5 how6 left.outputs
