-- The watch of six workers, and what a record says of seven: of the six, and of the watch.
use Rattle.std.specs.Prelude.{◌≡◌, ℕ, List, Some}
use Rattle.cell_rules.specs.Types.{Machine, Watch, Event, Entry}
use Rattle.cell_rules.specs.Types.{journal_of}
use Rattle.cell_rules.specs.Names.{ModelState, after, noted, Waits, LawfulThroughout, IsAudited}
use Rattle.cell_interlock.specs.Views.{PassView, InterlockView}
use Rattle.cell_interlock.specs.Fresh.{IsFresh, fresh_pass}
use Rattle.cell_threads.specs.Workers.{GateOf, IsGivenBack}
use Rattle.cell_threads.specs.Promises.{AreAllFresh, AreReady, GiveBack, GivesOf, SixPasses}
use Rattle.cell_threads.specs.Results.{SixResults, journal_in, outputs_in, seen_in}
use Rattle.cell_threads.specs.Six.{six_fresh}
use Rattle.cell_threads.specs.declared.six_of.SixOf.{SixOf}
use Rattle.cell_threads.specs.declared.six.SixRecord.{SixRecord}
use Rattle.cell_threads.specs.declared.worker_result.WorkerResult.{WorkerResult}

-- what a watch does: the watch and its pass before, the tries of a call, its pass and the watch afterwards
abbrev pub WatchesOf : Type 0 → Type 1
WatchesOf H = H → PassView → ℕ → PassView → H → Type 0

-- a watch that began by this pass has given it back, with its journal and itself
pub record HasWatched {H : Type 0} (watches : WatchesOf H) (tries : ℕ) (watch : H) (got : PassView)
    (back : WorkerResult H) : Type 0 where
  pub given : IsGivenBack got back.pass back.journal.items
  pub does : watches watch got tries back.pass back.output

-- what the six and the watch need to begin over an interlock: each has a fresh pass of its machine, and the six are
-- ready
pub record MayBegin {W1 W2 W3 W4 W5 W6 : Type 0} (ready1 : W1 → PassView → Type 0) (ready2 : W2 → PassView → Type 0)
    (ready3 : W3 → PassView → Type 0) (ready4 : W4 → PassView → Type 0) (ready5 : W5 → PassView → Type 0)
    (ready6 : W6 → PassView → Type 0) (i : InterlockView) (workers : SixOf W1 W2 W3 W4 W5 W6) (passes : SixPasses)
    (pass : PassView) : Type 0 where
  pub fresh : AreAllFresh i passes
  pub ready : AreReady ready1 ready2 ready3 ready4 ready5 ready6 workers passes
  pub fresh_watch : IsFresh i Watch pass

-- the six have kept their promises, and the watch has watched
pub record HaveWorked {W1 W2 W3 W4 W5 W6 A B C D E F H : Type 0} (gives1 : GivesOf W1 A) (gives2 : GivesOf W2 B)
    (gives3 : GivesOf W3 C) (gives4 : GivesOf W4 D) (gives5 : GivesOf W5 E) (gives6 : GivesOf W6 F)
    (watches : WatchesOf H) (workers : SixOf W1 W2 W3 W4 W5 W6) (watch : H) (passes : SixPasses) (pass : PassView)
    (tries : ℕ) (gate : Machine → GateOf) (turns : ℕ) (results : SixResults A B C D E F) (watched : WorkerResult H)
    : Type 0 where
  pub given : GiveBack gives1 gives2 gives3 gives4 gives5 gives6 workers passes tries gate turns results
  pub watched_so : HasWatched watches tries watch pass watched

module _ {A B C D E F : Type 0} where
  -- the journals of the seven, and what each pass has seen
  abbrev pub journal_with : SixResults A B C D E F → List Entry → Machine → List Entry
  journal_with results watch Watch = watch
  journal_with results watch m = journal_in results m

  abbrev pub seen_with : SixResults A B C D E F → PassView → Machine → List Event
  seen_with results watch Watch = watch.seen
  seen_with results watch m = seen_in results m

-- A record is of six workers and a watch over one interlock. Each began with its machine's fresh pass and gave back
-- what it promises. There is one history, lawful throughout: each has seen a prefix of it, with all events of its
-- machine; the journals are those of this history, and the end is the state after it.
pub record TellsWatched {W1 W2 W3 W4 W5 W6 A B C D E F H : Type 0} (gives1 : GivesOf W1 A) (gives2 : GivesOf W2 B)
    (gives3 : GivesOf W3 C) (gives4 : GivesOf W4 D) (gives5 : GivesOf W5 E) (gives6 : GivesOf W6 F)
    (watches : WatchesOf H)
    (workers : SixOf W1 W2 W3 W4 W5 W6) (watch : H) (opening : ModelState) (tries limit : ℕ)
    (gate : Machine → GateOf)
    (r : SixRecord A B C D E F) (watch_after : H) : Type 0 where
  pub interlock : InterlockView
  pub opened : interlock.opening ≡ opening
  pub losing : interlock.tries ≡ tries
  pub results : SixResults A B C D E F
  pub given : GiveBack gives1 gives2 gives3 gives4 gives5 gives6 workers
      (six_fresh interlock) interlock.tries gate limit results
  pub outputs : r.outputs ≡ outputs_in results
  pub watched : WorkerResult H
  pub watched_so : HasWatched watches interlock.tries watch (fresh_pass interlock Watch) watched
  pub watch_is : watch_after ≡ watched.output
  pub history : List Event
  pub lawful : LawfulThroughout opening history
  pub seen : (m : Machine) → Waits m (seen_with results watched.pass m) history
  pub start : r.start ≡ opening
  pub journals : (m : Machine) → journal_of r.journals m ≡ noted opening (seen_with results watched.pass m) m
  pub audited : IsAudited opening (journal_of r.journals) (Some r.end) history
  pub end : r.end ≡ after opening history
