-- Literal examples of what six workers and a watch leave: whose field is whose, what a record tells and what it
-- doesn't, how a worker may end, and the texts of the faults of runs.
use Rattle.std.specs.Prelude.{◌≡◌, ◌≢◌, ◌+◌, ℕ, Bool, true, false, ⊤, List, [], ◌∷◌, Option, Some, None, nat_lt}
use Rattle.cell_types.specs.Same.{same_machine}
use Rattle.cell_rules.specs.Types.{Machine, Feed, Table, Robot, Press, Deposit, Crane, Watch, Event, Entry, Call}
use Rattle.cell_rules.specs.Names.{ModelState, after, noted, start_state, empty}
use Rattle.cell_interlock.specs.Views.{PassView, InterlockView}
use Rattle.cell_interlock.specs.declared.pass.Passes.{Passes}
use Rattle.cell_control.specs.declared.fault.CtlFault.{CtlFault}
use Rattle.cell_control.specs.declared.fault.CtlFault.TheVariants as cause
use Rattle.cell_notes.specs.declared.status.Status.{Status}
use Rattle.cell_notes.specs.declared.status.Status.TheVariants.{Fine, GateLimit, Worn, Memory}
use Rattle.cell_threads.specs.Faults.{run_fault_text}
use Rattle.cell_threads.specs.Laws.{HasAtMost, HasStatusBy, answers_in, gate_by, entry_with, shown}
use Rattle.cell_threads.specs.Paces.{HasHad, HaveHad, first_paces}
use Rattle.cell_threads.specs.Promises.{AreStartedInTurn, GivesOf, six_of}
use Rattle.cell_threads.specs.Results.{AreAllThere, SixResults, journal_in, outputs_in, passes_in, seen_in}
use Rattle.cell_threads.specs.Six.{TellsSix, six_fresh}
use Rattle.cell_threads.specs.Watching.{TellsWatched, WatchesOf, journal_with, seen_with}
use Rattle.cell_threads.specs.Workers.{AreTaken, Ends, GateOf, IsGivenBack, last_of}
use Rattle.cell_threads.specs.declared.fault.RunFault.TheVariants.{Tries, Memory as NoMemory, Spawn}
use Rattle.cell_threads.specs.declared.paced.Pace.TheVariants.{Had, Ended}
use Rattle.cell_threads.specs.declared.six.SixRecord.{SixRecord}
use Rattle.cell_threads.specs.declared.six_of.SixOf.{SixOf}

abbrev pub six : {X : Type 0} → X → X → X → X → X → X → SixOf X X X X X X
six a b c d e f = record { feed = a; table = b; robot = c; press = d; deposit = e; crane = f }

abbrev pub SixNumbers : Type 0
SixNumbers = SixOf ℕ ℕ ℕ ℕ ℕ ℕ

abbrev pub Left : Type 0
Left = SixResults ℕ ℕ ℕ ℕ ℕ ℕ

abbrev pub SixDone : Type 0
SixDone = SixRecord ℕ ℕ ℕ ℕ ℕ ℕ

-- the words, letter by letter
pub record FaultTexts : Type 0 where
  pub tries : run_fault_text Tries ≡ 116 ∷ 114 ∷ 105 ∷ 101 ∷ 115 ∷ []
  pub memory : run_fault_text NoMemory ≡ 109 ∷ 101 ∷ 109 ∷ 111 ∷ 114 ∷ 121 ∷ []
  pub spawn : run_fault_text Spawn ≡ 115 ∷ 112 ∷ 97 ∷ 119 ∷ 110 ∷ []

-- each machine has its own
pub record FieldsAreOwn (r : Left) (p : Passes) (i : InterlockView) (pass : PassView) (journal : List Entry)
    : Type 0 where
  pub journal_of_table : journal_in r Table ≡ r.table.journal.items
  pub journal_of_crane : journal_in r Crane ≡ r.crane.journal.items
  pub journals_with_the_watch : journal_with r journal Watch ≡ journal
  pub journal_of_robot : journal_with r journal Robot ≡ r.robot.journal.items
  pub no_journal_of_the_watch : journal_in r Watch ≡ []
  pub seen_by_feed : seen_in r Feed ≡ r.feed.pass.seen
  pub seen_by_deposit : seen_in r Deposit ≡ r.deposit.pass.seen
  pub seen_by_press : seen_with r pass Press ≡ r.press.pass.seen
  pub seen_by_the_watch : seen_with r pass Watch ≡ pass.seen
  pub nothing_seen_by_the_watch : seen_in r Watch ≡ []
  pub six_outputs : outputs_in r
      ≡ six r.feed.output r.table.output r.robot.output r.press.output r.deposit.output r.crane.output
  pub seven_passes : passes_in r pass ≡ record {
    feed = r.feed.pass;
    table = r.table.pass;
    robot = r.robot.pass;
    press = r.press.pass;
    deposit = r.deposit.pass;
    crane = r.crane.pass;
    watch = pass;
  }
  pub six_passes : six_of p ≡ six p.feed p.table p.robot p.press p.deposit p.crane
  pub fresh_robot : (six_fresh i).robot.machine ≡ Robot
  pub fresh_crane : (six_fresh i).crane.machine ≡ Crane
  pub fresh_opening : (six_fresh i).deposit.opening ≡ i.opening

-- six workers that give back these numbers; and some of which that of one machine was told otherwise
abbrev pub gives_number : SixNumbers → Machine → GivesOf (Unit {0}) ℕ
gives_number each Feed worker pass tries gate limit result = result.output ≡ each.feed
gives_number each Table worker pass tries gate limit result = result.output ≡ each.table
gives_number each Robot worker pass tries gate limit result = result.output ≡ each.robot
gives_number each Press worker pass tries gate limit result = result.output ≡ each.press
gives_number each Deposit worker pass tries gate limit result = result.output ≡ each.deposit
gives_number each Crane worker pass tries gate limit result = result.output ≡ each.crane
gives_number each Watch worker pass tries gate limit result = ⊤

abbrev pub told_otherwise : Machine → Machine → GivesOf (Unit {0}) ℕ
told_otherwise m k worker pass tries gate limit result =
    same_machine k m ≡ true → ¬ ((pass.machine ≡ m) × (tries ≡ 7) × (limit ≡ 9))

abbrev pub any_gate : Machine → GateOf
any_gate m turn answer = ⊤

abbrev pub nothings : SixOf (Unit {0}) (Unit {0}) (Unit {0}) (Unit {0}) (Unit {0}) (Unit {0})
nothings = six tt tt tt tt tt tt

abbrev pub TellsOf : (Machine → GivesOf (Unit {0}) ℕ) → ModelState → SixDone → Type 0
TellsOf of opening r =
    TellsSix (of Feed) (of Table) (of Robot) (of Press) (of Deposit) (of Crane) nothings opening 7 9 any_gate r

abbrev pub WatchedOf : (Machine → GivesOf (Unit {0}) ℕ) → WatchesOf ℕ → ModelState → SixDone → ℕ → Type 0
WatchedOf of watches opening r later =
    TellsWatched (of Feed) (of Table) (of Robot) (of Press) (of Deposit) (of Crane) watches nothings 4 opening 7 9
    any_gate r later

-- a watch that notes its own number, and the tries
abbrev pub sums : WatchesOf ℕ
sums watch got tries kept later = later ≡ watch + tries

pub record RecordsAreTold : Type 0 where
  pub six_numbers : (each : SixNumbers) (opening : ModelState) (r : SixDone)
      → TellsOf (gives_number each) opening r → r.outputs ≡ each
  pub one_told_otherwise : (m : Machine) → m ≢ Watch → (opening : ModelState) (r : SixDone)
      → ¬ TellsOf (told_otherwise m) opening r
  pub starts_there : (opening : ModelState) (r : SixDone) → TellsOf (gives_number (six 1 2 3 4 5 6)) opening r
      → r.start ≡ opening
  pub ends_after : (opening : ModelState) (r : SixDone) (k : TellsOf (gives_number (six 1 2 3 4 5 6)) opening r)
      → r.end ≡ after opening k.history
  pub six_numbers_watched : (each : SixNumbers) (opening : ModelState) (r : SixDone) (later : ℕ)
      → WatchedOf (gives_number each) sums opening r later → r.outputs ≡ each
  pub one_told_otherwise_watched : (m : Machine) → m ≢ Watch → (opening : ModelState) (r : SixDone) (later : ℕ)
      → ¬ WatchedOf (told_otherwise m) sums opening r later
  pub watch_tries : (opening : ModelState) (r : SixDone) (later : ℕ)
      → WatchedOf (gives_number (six 1 2 3 4 5 6)) sums opening r later → later ≡ 11
  pub another_journal : (got kept : PassView) (journal : List Entry)
      → journal ≢ noted got.opening kept.seen got.machine → ¬ IsGivenBack got kept journal
  pub another_pass : (got kept : PassView) (journal : List Entry) → kept.machine ≢ got.machine
      → ¬ IsGivenBack got kept journal

abbrev pub NextIs : ℕ → ℕ → Type 0
NextIs before now = now ≡ before + 1

-- a gate that lets the turns 0, 1 and 2 begin
abbrev pub three : ℕ → Bool
three turn = nat_lt turn 3

pub record EndsAreTold : Type 0 where
  pub all_turns : Ends (gate_by three) 5 None 5 Fine
  pub not_all_turns : ¬ Ends (gate_by three) 5 None 4 Fine
  pub kept_out : Ends (gate_by three) 5 None 3 GateLimit
  pub let_in : ¬ Ends (gate_by three) 5 None 2 GateLimit
  pub none_left : ¬ Ends (gate_by three) 3 None 3 GateLimit
  pub worn : Ends (gate_by three) 5 (Some cause.Worn) 2 Worn
  pub fine_though_worn : ¬ Ends (gate_by three) 5 (Some cause.Worn) 5 Fine
  pub too_many : ¬ Ends (gate_by three) 5 (Some cause.Worn) 6 Worn
  pub no_memory : HasStatusBy (Some cause.Memory) Memory
  pub worn_without_memory : ¬ HasStatusBy (Some cause.Memory) Worn
  pub running_and_worn : ¬ HasStatusBy None Worn
  pub last : last_of {A = ℕ} 3 (4 ∷ 9 ∷ []) ≡ 9
  pub first : last_of {A = ℕ} 3 [] ≡ 3
  pub taken : AreTaken NextIs 3 (4 ∷ 5 ∷ 6 ∷ [])
  pub one_left_out : ¬ AreTaken NextIs 3 (4 ∷ 6 ∷ [])
  pub answers : answers_in (record { turns = 9; done = 1; read = 20; refused = 300; busy = 4000 }) ≡ 4321
  pub one_entry : (c : Call) → HasAtMost (Some c) (entry_with c shown ∷ [])
  pub two_entries : (c : Call) → ¬ HasAtMost (Some c) (entry_with c shown ∷ entry_with c shown ∷ [])
  pub entry_of_no_call : (c : Call) → ¬ HasAtMost None (entry_with c shown ∷ [])
  -- paces: as many turns as all have had; the watch has none to take
  pub robot_first : first_paces.robot ≡ Had 0
  pub watch_ended : first_paces.watch ≡ Ended
  pub had : HasHad 3 (Had 3)
  pub not_had : ¬ HasHad 4 (Had 3)
  pub ended : HasHad 4 Ended
  pub before_any : HaveHad 0 first_paces
  pub not_one : ¬ HaveHad 1 first_paces

-- workers are started one after another, and none is missing
abbrev pub MaybeSix : Type 0
MaybeSix = SixOf (Option ℕ) (Option ℕ) (Option ℕ) (Option ℕ) (Option ℕ) (Option ℕ)

abbrev pub InTurn : MaybeSix → Type 0
InTurn started = AreStartedInTurn started

abbrev pub AllThere : MaybeSix → SixNumbers → Type 0
AllThere each all = AreAllThere each all

pub record StartsAreTold : Type 0 where
  pub two_started : InTurn (six (Some 1) (Some 2) None None None None)
  pub table_after_none : ¬ InTurn (six None (Some 2) (Some 3) (Some 4) (Some 5) (Some 6))
  pub robot_after_none : ¬ InTurn (six (Some 1) None (Some 3) (Some 4) (Some 5) (Some 6))
  pub press_after_none : ¬ InTurn (six (Some 1) (Some 2) None (Some 4) (Some 5) (Some 6))
  pub deposit_after_none : ¬ InTurn (six (Some 1) (Some 2) (Some 3) None (Some 5) (Some 6))
  pub crane_after_none : ¬ InTurn (six (Some 1) (Some 2) (Some 3) (Some 4) None (Some 6))
  pub all_there : AllThere (six (Some 1) (Some 2) (Some 3) (Some 4) (Some 5) (Some 6)) (six 1 2 3 4 5 6)
  pub no_crane : ¬ AllThere (six (Some 1) (Some 2) (Some 3) (Some 4) (Some 5) None) (six 1 2 3 4 5 6)
  pub another_table : ¬ AllThere (six (Some 1) (Some 3) (Some 3) (Some 4) (Some 5) (Some 6)) (six 1 2 3 4 5 6)

pub record TeamsAreTold : Type 0 where
  pub texts : FaultTexts
  pub fields : (r : Left) (p : Passes) (i : InterlockView) (pass : PassView) (journal : List Entry)
      → FieldsAreOwn r p i pass journal
  pub records : RecordsAreTold
  pub ends : EndsAreTold
  pub starts : StartsAreTold
