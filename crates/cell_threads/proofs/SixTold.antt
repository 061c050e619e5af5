-- What a record says of any six workers.
use Rattle.std.proofs.Common.{◌≡◌, ℕ, ap, subst, sym}
use Rattle.cell_rules.specs.Types.{Machine}
use Rattle.cell_interlock.specs.Views.{PassView}
use Rattle.cell_threads.specs.Promises.{GivesOf}
use Rattle.cell_threads.specs.Workers.{GateOf}
use Rattle.cell_threads.specs.SixTold.{AnySixAreTold, AnyWatchedAreTold}
use Rattle.cell_threads.specs.Watching.{WatchesOf}
use Rattle.cell_threads.specs.declared.worker_result.WorkerResult.{WorkerResult}

-- a worker was given the tries of its interlock
by_tries : {W A : Type 0} (gives : GivesOf W A) (worker : W) (pass : PassView) (own tries : ℕ) (gate : GateOf) (limit : ℕ) (result : WorkerResult A)
    → own ≡ tries → gives worker pass own gate limit result → gives worker pass tries gate limit result
by_tries gives worker pass own tries gate limit result e k = subst (λ n. gives worker pass n gate limit result) e k

module _ {W1 W2 W3 W4 W5 W6 A B C D E F : Type 0} (gives1 : GivesOf W1 A) (gives2 : GivesOf W2 B) (gives3 : GivesOf W3 C) (gives4 : GivesOf W4 D) (gives5 : GivesOf W5 E) (gives6 : GivesOf W6 F)
    (gate : Machine → GateOf) where
  pub six-told : AnySixAreTold gives1 gives2 gives3 gives4 gives5 gives6 gate
  six-told workers opening tries limit r k = record {
    feed = by_tries gives1 workers.feed _ k.interlock.tries tries _ limit k.results.feed k.losing k.given.feed.1;
    table = by_tries gives2 workers.table _ k.interlock.tries tries _ limit k.results.table k.losing k.given.table.1;
    robot = by_tries gives3 workers.robot _ k.interlock.tries tries _ limit k.results.robot k.losing k.given.robot.1;
    press = by_tries gives4 workers.press _ k.interlock.tries tries _ limit k.results.press k.losing k.given.press.1;
    deposit = by_tries gives5 workers.deposit _ k.interlock.tries tries _ limit k.results.deposit k.losing k.given.deposit.1;
    crane = by_tries gives6 workers.crane _ k.interlock.tries tries _ limit k.results.crane k.losing k.given.crane.1;
    feed_left = ap (λ o. o.feed) k.outputs;
    table_left = ap (λ o. o.table) k.outputs;
    robot_left = ap (λ o. o.robot) k.outputs;
    press_left = ap (λ o. o.press) k.outputs;
    deposit_left = ap (λ o. o.deposit) k.outputs;
    crane_left = ap (λ o. o.crane) k.outputs;
    opened = k.opened;
    start = k.start;
    legal = k.audited.legal;
    end = k.end;
    own = λ m. (k.seen m).own;
    journals = k.journals;
    press_gave_back = k.given.press.0;
  }

  watched_by : {H : Type 0} (watches : WatchesOf H) (watch : H) (pass : PassView) (own tries : ℕ) (kept : PassView) (left later : H) → own ≡ tries → later ≡ left → watches watch pass own kept left → watches watch pass tries kept later
  watched_by watches watch pass own tries kept left later e is k =
      subst (λ x. watches watch pass tries kept x) (sym is) (subst (λ n. watches watch pass n kept left) e k)

  pub watched-told : {H : Type 0} (watches : WatchesOf H) → AnyWatchedAreTold gives1 gives2 gives3 gives4 gives5 gives6 gate watches
  watched-told watches workers watch opening tries limit r later k = record {
    feed = by_tries gives1 workers.feed _ k.interlock.tries tries _ limit k.results.feed k.losing k.given.feed.1;
    table = by_tries gives2 workers.table _ k.interlock.tries tries _ limit k.results.table k.losing k.given.table.1;
    robot = by_tries gives3 workers.robot _ k.interlock.tries tries _ limit k.results.robot k.losing k.given.robot.1;
    press = by_tries gives4 workers.press _ k.interlock.tries tries _ limit k.results.press k.losing k.given.press.1;
    deposit = by_tries gives5 workers.deposit _ k.interlock.tries tries _ limit k.results.deposit k.losing k.given.deposit.1;
    crane = by_tries gives6 workers.crane _ k.interlock.tries tries _ limit k.results.crane k.losing k.given.crane.1;
    watched = watched_by watches watch _ k.interlock.tries tries k.watched.pass k.watched.output later k.losing k.watch_is k.watched_so.does;
    watch_gave_back = k.watched_so.given;
    left = k.outputs;
    opened = k.opened;
    start = k.start;
    legal = k.audited.legal;
    end = k.end;
    own = λ m. (k.seen m).own;
    journals = k.journals;
  }
