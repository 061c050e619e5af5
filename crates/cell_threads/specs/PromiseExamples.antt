-- Which workers are ready, and what the promise of one that was started says, in literal numbers.
use Rattle.std.specs.declared.thread.PromisedHandle.{PromisedHandle}
use Rattle.std.specs.Prelude.{◌≡◌, ◌≢◌, ℕ, true, false, Some, None}
use Rattle.cell_types.specs.Same.{same_machine}
use Rattle.cell_rules.specs.Types.{Machine, Feed, Table, Robot, Press, Deposit, Crane, Watch}
use Rattle.cell_rules.specs.Names.{ModelState}
use Rattle.cell_interlock.specs.Views.{PassView, InterlockView}
use Rattle.cell_threads.specs.Promises.{ArePromised, AreReady, HandleOf, HasKept, HasPromised, IsKept, IsPromised}
use Rattle.cell_threads.specs.Promises.{GivesOf, SixPasses}
use Rattle.cell_threads.specs.Six.{AreReadyAt, six_fresh}
use Rattle.cell_threads.specs.TeamExamples.{SixNumbers, six}
use Rattle.cell_threads.specs.Workers.{GateOf, IsGivenBack}
use Rattle.cell_threads.specs.declared.six_of.SixOf.{SixOf}
use Rattle.cell_threads.specs.declared.start.WorkerPromise.{WorkerPromise}
use Rattle.cell_threads.specs.declared.worker_result.WorkerResult.{WorkerResult}

-- a worker with this number is ready by its machine's pass; and any worker but that of one machine
abbrev pub own : Machine → ℕ → ℕ → PassView → Type 0
own m number worker pass = (pass.machine ≡ m) × (worker ≡ number)

abbrev pub any_but : Machine → Machine → ℕ → PassView → Type 0
any_but m k worker pass = same_machine k m ≡ false

abbrev pub OwnReady : SixNumbers → SixPasses → Type 0
OwnReady workers passes =
    AreReady (own Feed 1) (own Table 2) (own Robot 3) (own Press 4) (own Deposit 5) (own Crane 6) workers passes

abbrev pub AnyReadyBut : Machine → SixNumbers → SixPasses → Type 0
AnyReadyBut m workers passes =
    AreReady (any_but m Feed) (any_but m Table) (any_but m Robot) (any_but m Press) (any_but m Deposit)
    (any_but m Crane) workers passes

pub record ReadyIsTold : Type 0 where
  pub each : (i : InterlockView) → OwnReady (six 1 2 3 4 5 6) (six_fresh i)
  pub one_is_not : (m : Machine) → m ≢ Watch → (workers : SixNumbers) (passes : SixPasses)
      → ¬ AnyReadyBut m workers passes
  pub each_at : (opening : ModelState)
      → AreReadyAt (own Feed 1) (own Table 2) (own Robot 3) (own Press 4) (own Deposit 5) (own Crane 6) opening
      (six 1 2 3 4 5 6)
  pub one_is_not_at : (m : Machine) → m ≢ Watch → (i : InterlockView) (workers : SixNumbers)
      → ¬ AreReadyAt (any_but m Feed) (any_but m Table) (any_but m Robot) (any_but m Press) (any_but m Deposit)
      (any_but m Crane) i.opening workers

-- a promise of a worker with a number, by a gate with a number
abbrev pub Promise : Type 0
Promise = WorkerPromise ℕ ℕ

abbrev pub Handle : Type 0
Handle = HandleOf ℕ ℕ ℕ

-- a worker gives back its number; a gate is asked by its number and the machine
abbrev pub gives_itself : GivesOf ℕ ℕ
gives_itself worker pass tries gate limit result =
    (result.output ≡ worker) × ((turn : ℕ) → gate turn true → turn ≡ limit)

abbrev pub asked : ℕ → Machine → GateOf
asked gate m turn answer = (m ≡ Press) × (turn ≡ gate)

pub record PromisesAreTold : Type 0 where
  pub promised : (i : InterlockView) (gate turns worker : ℕ) (pass : PassView) (p : Promise)
      → IsPromised i gate turns pass worker p
      → (p.interlock.value ≡ i) × (p.pass.value ≡ pass) × (p.worker.value ≡ worker) × (p.gate.value ≡ gate)
      × (p.turns ≡ turns)
  pub not_started : (i : InterlockView) (gate turns worker : ℕ) (pass : PassView)
      → HasPromised {B = ℕ} i gate turns pass worker None
  pub started : (i : InterlockView) (gate turns worker : ℕ) (pass : PassView)
      (h : PromisedHandle (WorkerResult ℕ) Promise) → HasPromised i gate turns pass worker (Some h)
      → IsPromised i gate turns pass worker h.promise
  pub each : (i : InterlockView) (gate turns : ℕ) (passes : SixPasses) (workers : SixNumbers)
      (handles : SixOf Handle Handle Handle Handle Handle Handle) → ArePromised i gate turns passes workers handles
      → HasPromised i gate turns passes.feed workers.feed handles.feed
      × HasPromised i gate turns passes.table workers.table handles.table
      × HasPromised i gate turns passes.robot workers.robot handles.robot
      × HasPromised i gate turns passes.press workers.press handles.press
      × HasPromised i gate turns passes.deposit workers.deposit handles.deposit
      × HasPromised i gate turns passes.crane workers.crane handles.crane
  pub kept : (p : Promise) (back : WorkerResult ℕ) → IsKept gives_itself asked p back
      → IsGivenBack p.pass.value back.pass back.journal.items × (back.output ≡ p.worker.value)
  pub by_its_gate : (p : Promise) (back : WorkerResult ℕ) → IsKept gives_itself asked p back
      → p.pass.value.machine ≡ Press → p.gate.value ≡ p.turns
  pub none_kept : (back : WorkerResult ℕ) → ¬ HasKept gives_itself asked None back
  pub kept_of_started : (h : PromisedHandle (WorkerResult ℕ) Promise) (back : WorkerResult ℕ)
      → HasKept gives_itself asked (Some h) back → back.output ≡ h.promise.worker.value
