-- Rounds of six workers that give back any status, with a watch and a sink that count: what isn't such a round.
use Rattle.std.specs.Prelude.{◌≡◌, ◌≢◌, ◌+◌, ◌<◌, ◌≤◌, ℕ, true, false, Result, ⊤}
use Rattle.cell_types.specs.Same.{same_machine}
use Rattle.cell_rules.specs.Types.{Machine, Feed, Table, Robot, Press, Deposit, Crane, Watch}
use Rattle.cell_rules.specs.Names.{ModelState}
use Rattle.cell_interlock.specs.Views.{InterlockView, PassView}
use Rattle.cell_notes.specs.declared.status.Status.{Status}
use Rattle.cell_notes.specs.declared.status.Status.TheVariants.{Fine, Worn}
use Rattle.cell_threads.specs.Promises.{GivesOf}
use Rattle.cell_threads.specs.Watching.{WatchesOf}
use Rattle.cell_threads.specs.Workers.{GateOf}
use Rattle.cell_threads.specs.declared.six.SixRecord.{SixRecord}
use Rattle.cell_renewal.specs.Renewing.{EndsRound, GoesOnBy, IsTurnedOver, RoundMoment, RunsRenewed, TakesRound}
use Rattle.cell_renewal.specs.Renewing.{leave_of, round_in}
use Rattle.cell_renewal.specs.RenewalExamples.{six}
use Rattle.cell_threads.specs.declared.six_of.SixOf.{SixOf}
use Rattle.cell_renewal.specs.declared.renewed.RoundEnd.{RoundEnd}
use Rattle.cell_renewal.specs.declared.renewed.RoundEnd.TheVariants.{GoesOn, Ends}
use Rattle.cell_renewal.specs.declared.rounds.Leave.{Leave}
use Rattle.cell_renewal.specs.declared.rounds.Round.{Round}

-- a worker gives back any status, and goes on however it ended; so any status is how it ended
abbrev pub gives : GivesOf (Unit {0}) Status
gives worker pass tries gate limit result = ⊤

abbrev pub goes : GoesOnBy Status (Unit {0})
goes status opening worker = ⊤

abbrev pub how : Status → Status
how status = status

-- the watch counts its rounds, and so does the sink; the gate may answer anything
abbrev pub watches : WatchesOf ℕ
watches watch got tries kept later = later ≡ watch + 1

-- a watch that notes how many exchanges a call may lose; and one that has another machine's pass
abbrev pub tells_tries : WatchesOf ℕ
tells_tries watch got tries kept later = later ≡ tries

abbrev pub by_another_pass : WatchesOf ℕ
by_another_pass watch got tries kept later = got.machine ≢ Watch

abbrev pub takes : ℕ → Round → Result (Unit {0}) (Unit {0}) → ℕ → Type 0
takes before round result later = later ≡ before + 1

abbrev pub gate : Machine → GateOf
gate machine turn answer = ⊤

abbrev pub Counting : Type 0
Counting = RoundMoment (Unit {0}) (Unit {0}) (Unit {0}) (Unit {0}) (Unit {0}) (Unit {0}) ℕ ℕ

abbrev pub Left : Type 0
Left = Leave Status Status Status Status Status Status ℕ

abbrev pub SixEnds : Type 0
SixEnds = SixOf Status Status Status Status Status Status

abbrev pub Nothings : Type 0
Nothings = SixOf (Unit {0}) (Unit {0}) (Unit {0}) (Unit {0}) (Unit {0}) (Unit {0})

abbrev pub After : Type 0
After =
    RoundEnd (Unit {0}) (Unit {0}) (Unit {0}) (Unit {0}) (Unit {0}) (Unit {0}) Status Status Status Status Status Status
    ℕ

abbrev pub SixEnded : Type 0
SixEnded = SixRecord Status Status Status Status Status Status

-- a round is over; one leads to the next; rounds, one after another
abbrev pub IsOver : Counting → Left → ℕ → Type 0
IsOver before left sink = EndsRound gives gives gives gives gives gives watches takes 9 9 gate before left sink

abbrev pub LeadsOn : Counting → Counting → Type 0
LeadsOn before now =
    TakesRound gives gives gives gives gives gives watches takes 9 9 gate how how how how how how goes goes goes goes
    goes goes 9 before now

abbrev pub AreRounds : Counting → Left → ℕ → Type 0
AreRounds first left sink =
    RunsRenewed gives gives gives gives gives gives watches takes 9 9 gate how how how how how how goes goes goes goes
    goes goes 9 first left sink

-- a round is over, whichever the watch is
abbrev pub IsOverBy : WatchesOf ℕ → Counting → Left → ℕ → Type 0
IsOverBy watches_so before left sink =
    EndsRound gives gives gives gives gives gives watches_so takes 7 9 gate before left sink

-- likewise, whatever the worker of each machine gives back
abbrev pub IsOverOf : (Machine → GivesOf (Unit {0}) Status) → Counting → Left → ℕ → Type 0
IsOverOf of before left sink =
    EndsRound (of Feed) (of Table) (of Robot) (of Press) (of Deposit) (of Crane) watches takes 7 9 gate before left sink

-- workers that end so; that are told of other tries, or of another limit; that have another machine's pass
abbrev pub ends_as : SixEnds → Machine → GivesOf (Unit {0}) Status
ends_as each Feed worker pass tries gate limit result = result.output ≡ each.feed
ends_as each Table worker pass tries gate limit result = result.output ≡ each.table
ends_as each Robot worker pass tries gate limit result = result.output ≡ each.robot
ends_as each Press worker pass tries gate limit result = result.output ≡ each.press
ends_as each Deposit worker pass tries gate limit result = result.output ≡ each.deposit
ends_as each Crane worker pass tries gate limit result = result.output ≡ each.crane
ends_as each Watch worker pass tries gate limit result = ⊤

abbrev pub told_otherwise : Machine → Machine → GivesOf (Unit {0}) Status
told_otherwise m k worker pass tries gate limit result =
    same_machine k m ≡ true → ¬ ((pass.machine ≡ m) × (tries ≡ 7) × (limit ≡ 9))

-- one round leads to the next, by how a status counts, and by whether each machine may go on
abbrev pub LeadsOnBy : (Status → Status) → (Machine → GoesOnBy Status (Unit {0})) → Counting → Counting → Type 0
LeadsOnBy how_so by before now =
    TakesRound gives gives gives gives gives gives watches takes 9 9 gate how_so how_so how_so how_so how_so how_so
    (by Feed) (by Table) (by Robot) (by Press) (by Deposit) (by Crane) 9 before now

-- one machine may not go on
abbrev pub all_but : Machine → Machine → GoesOnBy Status (Unit {0})
all_but m k status opening worker = same_machine k m ≡ false

-- what comes after a round, by whether each machine may go on, and whether it is ready
abbrev pub Over : (Machine → GoesOnBy Status (Unit {0})) → (Machine → Unit {0} → PassView → Type 0) → Left → After
    → Type 0
Over by ready left after =
    IsTurnedOver (ready Feed) (ready Table) (ready Robot) (ready Press) (ready Deposit) (ready Crane)
    how how how how how how (by Feed) (by Table) (by Robot) (by Press) (by Deposit) (by Crane) 9 left after

abbrev pub each_goes : Machine → GoesOnBy Status (Unit {0})
each_goes m = goes

abbrev pub each_ready : Machine → Unit {0} → PassView → Type 0
each_ready m worker pass = ⊤

abbrev pub all_ready_but : Machine → Machine → Unit {0} → PassView → Type 0
all_ready_but m k worker pass = same_machine k m ≡ false

pub record TurnoverIsTold : Type 0 where
  pub ends : (left : Left) → left.outputs.crane ≡ Worn → Over each_goes each_ready left (Ends left)
  pub all_fine : (left : Left) → left.outputs ≡ six Fine Fine Fine Fine Fine Fine
      → ¬ Over each_goes each_ready left (Ends left)
  pub left_otherwise : (left last : Left) → last ≢ left → ¬ Over each_goes each_ready left (Ends last)
  pub one_is_worn : (left : Left) (workers : Nothings) (watch : ℕ) (opening : ModelState)
      → left.outputs.press ≡ Worn → ¬ Over each_goes each_ready left (GoesOn workers watch opening)
  pub another_watch : (left : Left) (workers : Nothings) (watch : ℕ) (opening : ModelState) → watch ≢ left.watch
      → ¬ Over each_goes each_ready left (GoesOn workers watch opening)
  pub stamp_past_the_mark : (left : Left) (workers : Nothings) (watch : ℕ) (opening : ModelState)
      → 9 < opening.stamp → ¬ Over each_goes each_ready left (GoesOn workers watch opening)
  pub one_stays : (m : Machine) → m ≢ Watch → (left : Left) (workers : Nothings) (watch : ℕ) (opening : ModelState)
      → ¬ Over (all_but m) each_ready left (GoesOn workers watch opening)
  pub one_is_not_ready : (m : Machine) → m ≢ Watch
      → (left : Left) (workers : Nothings) (watch : ℕ) (opening : ModelState) (i : InterlockView)
      → i.opening ≡ opening → ¬ Over each_goes (all_ready_but m) left (GoesOn workers watch opening)

pub record RoundsAreTold : Type 0 where
  -- the watch is told the tries of a call, and has its own pass; so is each worker, and so it has
  pub watch_tries : (before : Counting) (left : Left) (sink : ℕ) → IsOverBy tells_tries before left sink
      → left.watch ≡ 7
  pub watch_pass : (before : Counting) (left : Left) (sink : ℕ) → ¬ IsOverBy by_another_pass before left sink
  pub one_told_otherwise : (m : Machine) → m ≢ Watch → (before : Counting) (left : Left) (sink : ℕ)
      → ¬ IsOverOf (told_otherwise m) before left sink
  -- what is left is what each gave back
  pub given : (each : SixEnds) (before : Counting) (left : Left) (sink : ℕ) → IsOverOf (ends_as each) before left sink
      → left.outputs ≡ each
  -- no next round if one isn't fine, or may not go on; it opens with a stamp up to the mark
  pub not_fine : (before now : Counting) → ¬ LeadsOnBy (λ status. Worn) each_goes before now
  pub stays : (m : Machine) → m ≢ Watch → (before now : Counting) → ¬ LeadsOnBy how (all_but m) before now
  pub low_stamp : (before now : Counting) → LeadsOn before now → now.opening.stamp ≤ 9
  -- however many rounds: the watch and the sink have counted
  pub counted : (first : Counting) (left : Left) (sink : ℕ) → AreRounds first left sink
      → (first.watch < left.watch) × (first.sink < sink)
  pub turnover : TurnoverIsTold
  -- the sink hasn't taken what a round noted; the watch hasn't watched
  pub not_taken : (before : Counting) (left : Left) (sink : ℕ) → sink ≢ before.sink + 1 → ¬ IsOver before left sink
  pub not_watched : (before : Counting) (left : Left) (sink : ℕ) → left.watch ≢ before.watch + 1
      → ¬ IsOver before left sink
  -- the next round begins with another watch, or another sink
  pub another_watch : (before now : Counting) → now.watch ≢ before.watch + 1 → ¬ LeadsOn before now
  pub another_sink : (before now : Counting) → now.sink ≢ before.sink + 1 → ¬ LeadsOn before now
  -- all six ended fine, and no further round follows
  pub all_fine : (first : Counting) (left : Left) (sink : ℕ) → left.outputs ≡ six Fine Fine Fine Fine Fine Fine
      → ¬ AreRounds first left sink
  -- a round has the start, the journals and the end of its record; what is left has its end and what the six left
  pub start : (r : SixEnded) → (round_in r).start ≡ r.start
  pub journals : (r : SixEnded) → (round_in r).journals ≡ r.journals
  pub end : (r : SixEnded) → (round_in r).end ≡ r.end
  pub left_end : (r : SixEnded) (watch : ℕ) → (leave_of r watch).end ≡ r.end
  pub outputs : (r : SixEnded) (watch : ℕ) → (leave_of r watch).outputs ≡ r.outputs
