-- The record of what six workers and their watch gave back, whichever they are.
use Rattle.cell_threads.proofs.Names.{◌≡◌, ℕ, Some, refl, sym, ap, subst, ◌∙◌, map, Machine, Feed, Table, Robot, Press, Deposit, Crane, Watch, journal_of, ModelState, noted, event_by, Waits, IsAudited, PassView, InterlockView, Passes, ArePassesOf, IsEnd, pass_in, GateOf, AreAllFresh, GiveBack, GivesOf, SixPasses, six_of}
use Rattle.cell_interlock.specs.Fresh.{AreFresh, fresh_pass}
use Rattle.cell_threads.specs.Results.{SixResults, outputs_in, passes_in, seen_in}
use Rattle.cell_threads.specs.Six.{TellsSix, six_fresh}
use Rattle.cell_threads.specs.Watching.{HasWatched, HaveWorked, TellsWatched, WatchesOf, journal_with, seen_with}
use Rattle.cell_threads.specs.declared.six_of.SixOf.{SixOf}
use Rattle.cell_threads.specs.declared.six.SixRecord.{SixRecord}
use Rattle.cell_threads.specs.declared.worker_result.WorkerResult.{WorkerResult}

-- six fresh passes are those of the interlock
pub fresh_six : (i : InterlockView) (passes : SixPasses) → AreAllFresh i passes → passes ≡ six_fresh i
fresh_six i passes k = λ x. record { feed = k.feed x; table = k.table x; robot = k.robot x; press = k.press x; deposit = k.deposit x; crane = k.crane x }

-- the passes of a new interlock are six fresh ones, and the watch's
pub all_fresh : (i : InterlockView) (passes : Passes) → AreFresh i passes → AreAllFresh i (six_of passes)
all_fresh i passes all = record { feed = all.feed; table = all.table; robot = all.robot; press = all.press; deposit = all.deposit; crane = all.crane }

-- six workers that have worked by the interlock's passes have worked by six fresh ones, and the watch by its own
pub worked_by_fresh : {W1 W2 W3 W4 W5 W6 A B C D E F H : Type 0} → (gives1 : GivesOf W1 A) (gives2 : GivesOf W2 B) (gives3 : GivesOf W3 C) (gives4 : GivesOf W4 D) (gives5 : GivesOf W5 E) (gives6 : GivesOf W6 F) (watches : WatchesOf H)
    (workers : SixOf W1 W2 W3 W4 W5 W6) (watch : H) (i : InterlockView) (passes : Passes) (six : SixPasses) (pass : PassView) (limit : ℕ) (gate : Machine → GateOf) (results : SixResults A B C D E F) (watched : WorkerResult H)
    → AreFresh i passes → six ≡ six_of passes → pass ≡ passes.watch
    → HaveWorked gives1 gives2 gives3 gives4 gives5 gives6 watches workers watch six pass i.tries gate limit results watched
    → HaveWorked gives1 gives2 gives3 gives4 gives5 gives6 watches workers watch (six_fresh i) (fresh_pass i Watch) i.tries gate limit results watched
worked_by_fresh gives1 gives2 gives3 gives4 gives5 gives6 watches workers watch i passes six pass limit gate results watched fresh e f k =
    subst (λ (q : PassView). HaveWorked gives1 gives2 gives3 gives4 gives5 gives6 watches workers watch (six_fresh i) q i.tries gate limit results watched) (f ∙ fresh.watch)
    (subst (λ (q : SixPasses). HaveWorked gives1 gives2 gives3 gives4 gives5 gives6 watches workers watch q pass i.tries gate limit results watched) (e ∙ fresh_six i _ (all_fresh i passes fresh)) k)

module _ {W1 W2 W3 W4 W5 W6 A B C D E F H : Type 0} (gives1 : GivesOf W1 A) (gives2 : GivesOf W2 B) (gives3 : GivesOf W3 C) (gives4 : GivesOf W4 D) (gives5 : GivesOf W5 E) (gives6 : GivesOf W6 F) (watches : WatchesOf H)
    (workers : SixOf W1 W2 W3 W4 W5 W6) (watch : H) (i : InterlockView) (limit : ℕ) (gate : Machine → GateOf) (results : SixResults A B C D E F)
    (given : GiveBack gives1 gives2 gives3 gives4 gives5 gives6 workers (six_fresh i) i.tries gate limit results)
    (watched : WorkerResult H) (watched_so : HasWatched watches i.tries watch (fresh_pass i Watch) watched) where
  -- the passes that came back are the interlock's
  pub own_passes : ArePassesOf i (passes_in results watched.pass)
  own_passes =
      record {
        feed = record { table = given.feed.0.same.table; machine = given.feed.0.same.machine };
        table = record { table = given.table.0.same.table; machine = given.table.0.same.machine };
        robot = record { table = given.robot.0.same.table; machine = given.robot.0.same.machine };
        press = record { table = given.press.0.same.table; machine = given.press.0.same.machine };
        deposit = record { table = given.deposit.0.same.table; machine = given.deposit.0.same.machine };
        crane = record { table = given.crane.0.same.table; machine = given.crane.0.same.machine };
        watch = record { table = watched_so.given.same.table; machine = watched_so.given.same.machine };
      }

  journal_is : (m : Machine) → journal_with results watched.journal.items m ≡ noted i.opening (seen_with results watched.pass m) m
  journal_is Feed = given.feed.0.journal_is
  journal_is Table = given.table.0.journal_is
  journal_is Robot = given.robot.0.journal_is
  journal_is Press = given.press.0.journal_is
  journal_is Deposit = given.deposit.0.journal_is
  journal_is Crane = given.crane.0.journal_is
  journal_is Watch = watched_so.given.journal_is

  seen_back : (m : Machine) → seen_with results watched.pass m ≡ (pass_in (passes_in results watched.pass) m).seen
  seen_back Feed = refl
  seen_back Table = refl
  seen_back Robot = refl
  seen_back Press = refl
  seen_back Deposit = refl
  seen_back Crane = refl
  seen_back Watch = refl

  -- the record, with the end of the interlock
  module _ (r : SixRecord A B C D E F) (closed : IsEnd i.opening (passes_in results watched.pass) r.end) (journals : (m : Machine) → journal_of r.journals m ≡ journal_with results watched.journal.items m) where
    noted_by : (m : Machine) → noted i.opening (pass_in (passes_in results watched.pass) m).seen m ≡ journal_of r.journals m
    noted_by m = sym (journals m ∙ journal_is m ∙ ap (λ h. noted i.opening h m) (seen_back m))

    audited : IsAudited i.opening (journal_of r.journals) (Some r.end) closed.history
    audited =
        let k = closed.audited in
        record { legal = k.legal; own = λ m. k.own m ∙ ap (map (event_by m)) (noted_by m); noted = λ m. k.noted m ∙ noted_by m; ends = k.ends }

    told : r.start ≡ i.opening → r.outputs ≡ outputs_in results → TellsWatched gives1 gives2 gives3 gives4 gives5 gives6 watches workers watch i.opening i.tries limit gate r watched.output
    told start outputs =
        record {
          interlock = i;
          opened = refl;
          losing = refl;
          results = results;
          given = given;
          outputs = outputs;
          watched = watched;
          watched_so = watched_so;
          watch_is = refl;
          history = closed.history;
          lawful = closed.lawful;
          seen = λ m. subst (λ h. Waits m h closed.history) (sym (seen_back m)) (closed.passes m).seen;
          start = start;
          journals = λ m. journals m ∙ journal_is m;
          audited = audited;
          end = closed.reached;
        }

    pub tells_watched : (opening : ModelState) (tries : ℕ) → i.opening ≡ opening → i.tries ≡ tries → r.start ≡ opening → r.outputs ≡ outputs_in results
        → TellsWatched gives1 gives2 gives3 gives4 gives5 gives6 watches workers watch opening tries limit gate r watched.output
    tells_watched opening tries opened losing start outputs =
        subst (λ n. TellsWatched gives1 gives2 gives3 gives4 gives5 gives6 watches workers watch opening n limit gate r watched.output) losing
        (subst (λ s. TellsWatched gives1 gives2 gives3 gives4 gives5 gives6 watches workers watch s i.tries limit gate r watched.output) opened (told (start ∙ sym opened) outputs))

-- a watch that does nothing: the record is of the six alone
module _ {W1 W2 W3 W4 W5 W6 A B C D E F H : Type 0} (gives1 : GivesOf W1 A) (gives2 : GivesOf W2 B) (gives3 : GivesOf W3 C) (gives4 : GivesOf W4 D) (gives5 : GivesOf W5 E) (gives6 : GivesOf W6 F)
    (workers : SixOf W1 W2 W3 W4 W5 W6) (watch : H) (opening : ModelState) (tries limit : ℕ) (gate : Machine → GateOf) (r : SixRecord A B C D E F) (watch_after : H)
    (k : TellsWatched gives1 gives2 gives3 gives4 gives5 gives6 (λ _ got _ kept _. kept ≡ got) workers watch opening tries limit gate r watch_after) where
  seen_alone : (m : Machine) → seen_with k.results k.watched.pass m ≡ seen_in k.results m
  seen_alone Feed = refl
  seen_alone Table = refl
  seen_alone Robot = refl
  seen_alone Press = refl
  seen_alone Deposit = refl
  seen_alone Crane = refl
  seen_alone Watch = ap (λ (v : PassView). v.seen) k.watched_so.does

  pub tells_six : TellsSix gives1 gives2 gives3 gives4 gives5 gives6 workers opening tries limit gate r
  tells_six =
      record {
        interlock = k.interlock;
        opened = k.opened;
        losing = k.losing;
        results = k.results;
        given = k.given;
        outputs = k.outputs;
        history = k.history;
        lawful = k.lawful;
        seen = λ m. subst (λ h. Waits m h k.history) (seen_alone m) (k.seen m);
        start = k.start;
        journals = λ m. k.journals m ∙ ap (λ h. noted opening h m) (seen_alone m);
        audited = k.audited;
        end = k.end;
      }
