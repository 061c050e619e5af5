-- What the six workers require when they start, and what they promise to give back.
use Rattle.std.specs.declared.thread.PromisedHandle.{PromisedHandle}
use Rattle.std.specs.Prelude.{◌≡◌, ℕ, Option, Some, None, IfSome}
use Rattle.cell_rules.specs.Types.{Machine, Feed, Table, Robot, Press, Deposit, Crane}
use Rattle.cell_interlock.specs.Views.{PassView, InterlockView}
use Rattle.cell_interlock.specs.Fresh.{IsFresh}
use Rattle.cell_interlock.specs.declared.pass.Passes.{Passes}
use Rattle.cell_threads.specs.Workers.{GateOf, IsGivenBack}
use Rattle.cell_threads.specs.declared.start.WorkerPromise.{WorkerPromise}
use Rattle.cell_threads.specs.declared.six_of.SixOf.{SixOf}
use Rattle.cell_threads.specs.Results.{SixResults}
use Rattle.cell_threads.specs.declared.worker_result.WorkerResult.{WorkerResult}

-- what a worker gives back that worked by a pass; given are the tries of a call, its gate, and the greatest number of
-- turns
abbrev pub GivesOf : Type 0 → Type 0 → Type 1
GivesOf W B = W → PassView → ℕ → GateOf → ℕ → WorkerResult B → Type 0

-- the passes of the six: `SixPasses`, since antt has no name for an alias
abbrev pub SixPasses : Type 0
SixPasses = SixOf PassView PassView PassView PassView PassView PassView

-- the passes of the six, without the watch's
abbrev pub six_of : Passes → SixPasses
six_of p =
    record {
      feed = p.feed;
      table = p.table;
      robot = p.robot;
      press = p.press;
      deposit = p.deposit;
      crane = p.crane;
    }

-- each is a fresh pass of its machine
pub record AreAllFresh (i : InterlockView) (passes : SixPasses) : Type 0 where
  pub feed : IsFresh i Feed passes.feed
  pub table : IsFresh i Table passes.table
  pub robot : IsFresh i Robot passes.robot
  pub press : IsFresh i Press passes.press
  pub deposit : IsFresh i Deposit passes.deposit
  pub crane : IsFresh i Crane passes.crane

-- each worker's progress follows from what its pass has seen
pub record AreReady {W1 W2 W3 W4 W5 W6 : Type 0} (ready1 : W1 → PassView → Type 0) (ready2 : W2 → PassView → Type 0)
    (ready3 : W3 → PassView → Type 0) (ready4 : W4 → PassView → Type 0) (ready5 : W5 → PassView → Type 0)
    (ready6 : W6 → PassView → Type 0) (workers : SixOf W1 W2 W3 W4 W5 W6) (passes : SixPasses) : Type 0 where
  pub feed : ready1 workers.feed passes.feed
  pub table : ready2 workers.table passes.table
  pub robot : ready3 workers.robot passes.robot
  pub press : ready4 workers.press passes.press
  pub deposit : ready5 workers.deposit passes.deposit
  pub crane : ready6 workers.crane passes.crane

-- a worker gives back its pass and its journal, and what it promises
abbrev pub GivesBack : {W B : Type 0} → GivesOf W B → GivesOf W B
GivesBack gives worker pass tries gate turns result =
    IsGivenBack pass result.pass result.journal.items × gives worker pass tries gate turns result

-- each worker keeps its own promise
pub record GiveBack {W1 W2 W3 W4 W5 W6 A B C D E F : Type 0} (gives1 : GivesOf W1 A) (gives2 : GivesOf W2 B)
    (gives3 : GivesOf W3 C) (gives4 : GivesOf W4 D) (gives5 : GivesOf W5 E) (gives6 : GivesOf W6 F)
    (workers : SixOf W1 W2 W3 W4 W5 W6) (passes : SixPasses) (tries : ℕ) (gate : Machine → GateOf) (turns : ℕ)
    (results : SixResults A B C D E F) : Type 0 where
  pub feed : GivesBack gives1 workers.feed passes.feed tries (gate passes.feed.machine) turns results.feed
  pub table : GivesBack gives2 workers.table passes.table tries (gate passes.table.machine) turns results.table
  pub robot : GivesBack gives3 workers.robot passes.robot tries (gate passes.robot.machine) turns results.robot
  pub press : GivesBack gives4 workers.press passes.press tries (gate passes.press.machine) turns results.press
  pub deposit : GivesBack gives5 workers.deposit passes.deposit tries
      (gate passes.deposit.machine) turns results.deposit
  pub crane : GivesBack gives6 workers.crane passes.crane tries (gate passes.crane.machine) turns results.crane

-- workers are started one after another; after the first that couldn't be started, none is
pub record AreStartedInTurn {A B C D E F : Type 0} (started : SixOf (Option A) (Option B) (Option C) (Option D)
    (Option E) (Option F)) : Type 0 where
  pub table : started.feed ≡ None → started.table ≡ None
  pub robot : started.table ≡ None → started.robot ≡ None
  pub press : started.robot ≡ None → started.press ≡ None
  pub deposit : started.press ≡ None → started.deposit ≡ None
  pub crane : started.deposit ≡ None → started.crane ≡ None

-- a promise by this worker, with this pass
pub record IsPromised {W G : Type 0} (interlock : InterlockView) (gate : G) (turns : ℕ) (pass : PassView) (worker : W)
    (p : WorkerPromise W G) : Type 0 where
  pub over : p.interlock.value ≡ interlock
  pub by_pass : p.pass.value ≡ pass
  pub of_worker : p.worker.value ≡ worker
  pub by_gate : p.gate.value ≡ gate
  pub limit : p.turns ≡ turns

-- what was given back keeps the promise
abbrev pub IsKept : {W G B : Type 0} → GivesOf W B → (G → Machine → GateOf) → WorkerPromise W G → WorkerResult B
    → Type 0
IsKept gives may_answer p back =
    GivesBack gives p.worker.value p.pass.value p.interlock.value.tries
    (may_answer p.gate.value p.pass.value.machine) p.turns back

-- the six handles; a worker that wasn't started has none
abbrev pub HandleOf : Type 0 → Type 0 → Type 0 → Type 0
HandleOf W G B = Option (PromisedHandle (WorkerResult B) (WorkerPromise W G))

abbrev pub SixHandles : Type 0 → Type 0 → Type 0 → Type 0 → Type 0 → Type 0 → Type 0 → Type 0 → Type 0 → Type 0
    → Type 0 → Type 0 → Type 0 → Type 0
SixHandles W1 W2 W3 W4 W5 W6 A B C D E F G =
    SixOf (HandleOf W1 G A) (HandleOf W2 G B) (HandleOf W3 G C) (HandleOf W4 G D) (HandleOf W5 G E)
    (HandleOf W6 G F)

-- each worker that was started has its promise
abbrev pub HasPromised : {W G B : Type 0} → InterlockView → G → ℕ → PassView → W → HandleOf W G B → Type 0
HasPromised interlock gate turns pass worker handle =
    IfSome handle (λ h. IsPromised interlock gate turns pass worker h.promise)

pub record ArePromised {W1 W2 W3 W4 W5 W6 A B C D E F G : Type 0} (interlock : InterlockView) (gate : G) (turns : ℕ)
    (passes : SixPasses) (workers : SixOf W1 W2 W3 W4 W5 W6)
    (started : SixHandles W1 W2 W3 W4 W5 W6 A B C D E F G) : Type 0 where
  pub feed : HasPromised interlock gate turns passes.feed workers.feed started.feed
  pub table : HasPromised interlock gate turns passes.table workers.table started.table
  pub robot : HasPromised interlock gate turns passes.robot workers.robot started.robot
  pub press : HasPromised interlock gate turns passes.press workers.press started.press
  pub deposit : HasPromised interlock gate turns passes.deposit workers.deposit started.deposit
  pub crane : HasPromised interlock gate turns passes.crane workers.crane started.crane

-- each was started, and what it gave back keeps its promise
abbrev pub HasKept : {W G B : Type 0} → GivesOf W B → (G → Machine → GateOf) → HandleOf W G B → WorkerResult B → Type 0
HasKept {W = W} {G = G} {B = B} gives may_answer handle back =
    (h : PromisedHandle (WorkerResult B) (WorkerPromise W G)) × (handle ≡ Some h)
    × IsKept gives may_answer h.promise back

pub record AreKept {W1 W2 W3 W4 W5 W6 A B C D E F G : Type 0} (gives1 : GivesOf W1 A) (gives2 : GivesOf W2 B)
    (gives3 : GivesOf W3 C) (gives4 : GivesOf W4 D) (gives5 : GivesOf W5 E) (gives6 : GivesOf W6 F)
    (may_answer : G → Machine → GateOf) (started : SixHandles W1 W2 W3 W4 W5 W6 A B C D E F G)
    (results : SixResults A B C D E F) : Type 0 where
  pub feed : HasKept gives1 may_answer started.feed results.feed
  pub table : HasKept gives2 may_answer started.table results.table
  pub robot : HasKept gives3 may_answer started.robot results.robot
  pub press : HasKept gives4 may_answer started.press results.press
  pub deposit : HasKept gives5 may_answer started.deposit results.deposit
  pub crane : HasKept gives6 may_answer started.crane results.crane
