-- Ready workers and their promises: the examples.
use Rattle.std.proofs.Common.{◌≡◌, ◌≢◌, ℕ, refl, ◌∙◌, Some, ap}
use Rattle.std.specs.declared.thread.PromisedHandle.{PromisedHandle}
use Rattle.cell_rules.specs.Types.{Machine, Feed, Table, Robot, Press, Deposit, Crane, Watch}
use Rattle.cell_interlock.specs.Views.{InterlockView}
use Rattle.cell_threads.specs.Promises.{SixPasses}
use Rattle.cell_threads.specs.Six.{six_fresh}
use Rattle.cell_threads.specs.TeamExamples.{SixNumbers, six}
use Rattle.cell_threads.specs.PromiseExamples.{AnyReadyBut, OwnReady, Promise, PromisesAreTold, ReadyIsTold}
use Rattle.cell_threads.specs.declared.worker_result.WorkerResult.{WorkerResult}

each_ready : (i : InterlockView) → OwnReady (six 1 2 3 4 5 6) (six_fresh i)
each_ready i = record {
  feed = (refl, refl);
  table = (refl, refl);
  robot = (refl, refl);
  press = (refl, refl);
  deposit = (refl, refl);
  crane = (refl, refl);
}

one_is_not : (m : Machine) → m ≢ Watch → (workers : SixNumbers) (passes : SixPasses) → AnyReadyBut m workers passes → ⊥
one_is_not Feed other workers passes k = let lie = k.feed in cc
one_is_not Table other workers passes k = let lie = k.table in cc
one_is_not Robot other workers passes k = let lie = k.robot in cc
one_is_not Press other workers passes k = let lie = k.press in cc
one_is_not Deposit other workers passes k = let lie = k.deposit in cc
one_is_not Crane other workers passes k = let lie = k.crane in cc
one_is_not Watch other workers passes k = other refl

pub ready : ReadyIsTold
ready = record {
  each = each_ready;
  one_is_not = one_is_not;
  each_at = λ opening i opens. each_ready i;
  one_is_not_at = λ m other i workers k. one_is_not m other workers (six_fresh i) (k i refl);
}

-- the handle of a worker that was started is its own
kept_by : (h g : PromisedHandle (WorkerResult ℕ) Promise) (back : WorkerResult ℕ) → Some h ≡ Some g → back.output ≡ g.promise.worker.value → back.output ≡ h.promise.worker.value
kept_by h g back e k = let same : g ≡ h = cc in k ∙ ap (λ x. x.promise.worker.value) same

pub promises : PromisesAreTold
promises = record {
  promised = λ i gate turns worker pass p k. (k.over, k.by_pass, k.of_worker, k.by_gate, k.limit);
  not_started = λ i gate turns worker pass. tt;
  started = λ i gate turns worker pass h k. k;
  each = λ i gate turns passes workers handles k. (k.feed, k.table, k.robot, k.press, k.deposit, k.crane);
  kept = λ p back k. (k.0, k.1.0);
  by_its_gate = λ p back k press. k.1.1 p.gate.value (press, refl);
  none_kept = λ back k. let lie = k.1 in cc;
  kept_of_started = λ h back k. kept_by h k.0 back k.1 k.2.1.0;
}

pub ruleset promise_rows = (ready, promises)
