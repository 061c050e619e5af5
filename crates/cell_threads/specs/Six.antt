-- What a record says of six workers over one interlock, whichever they are.
use Rattle.std.specs.Prelude.{◌≡◌, ℕ, List, Some}
use Rattle.cell_rules.specs.Types.{Machine, Feed, Table, Robot, Press, Deposit, Crane, Event, journal_of}
use Rattle.cell_rules.specs.Names.{ModelState, after, noted, Waits, LawfulThroughout, IsAudited}
use Rattle.cell_interlock.specs.Views.{PassView, InterlockView}
use Rattle.cell_interlock.specs.Fresh.{fresh_pass}
use Rattle.cell_threads.specs.Workers.{GateOf}
use Rattle.cell_threads.specs.Promises.{AreReady, GiveBack, GivesOf, SixPasses}
use Rattle.cell_threads.specs.Results.{SixResults, outputs_in, seen_in}
use Rattle.cell_threads.specs.declared.six_of.SixOf.{SixOf}
use Rattle.cell_threads.specs.declared.six.SixRecord.{SixRecord}

-- the six passes of a new interlock
abbrev pub six_fresh : InterlockView → SixPasses
six_fresh i =
    record {
      feed = fresh_pass i Feed;
      table = fresh_pass i Table;
      robot = fresh_pass i Robot;
      press = fresh_pass i Press;
      deposit = fresh_pass i Deposit;
      crane = fresh_pass i Crane;
    }

-- each may begin by its machine's pass of a new interlock, whichever interlock opens with this state
abbrev pub AreReadyAt : {W1 W2 W3 W4 W5 W6 : Type 0} → (W1 → PassView → Type 0) → (W2 → PassView → Type 0)
    → (W3 → PassView → Type 0) → (W4 → PassView → Type 0) → (W5 → PassView → Type 0) → (W6 → PassView → Type 0)
    → ModelState → SixOf W1 W2 W3 W4 W5 W6 → Type 0
AreReadyAt ready1 ready2 ready3 ready4 ready5 ready6 opening workers =
    (i : InterlockView) → i.opening ≡ opening → AreReady ready1 ready2 ready3 ready4 ready5 ready6 workers (six_fresh i)

-- A record is of six workers, one for each machine, over one interlock. Each began with its machine's fresh pass and
-- gave back what it promises. There is one history, lawful throughout: each has seen a prefix of it, with all events of
-- its machine; the journals are those of this history, and the end is the state after it.
pub record TellsSix {W1 W2 W3 W4 W5 W6 A B C D E F : Type 0} (gives1 : GivesOf W1 A) (gives2 : GivesOf W2 B)
    (gives3 : GivesOf W3 C) (gives4 : GivesOf W4 D) (gives5 : GivesOf W5 E) (gives6 : GivesOf W6 F)
    (workers : SixOf W1 W2 W3 W4 W5 W6) (opening : ModelState) (tries limit : ℕ) (gate : Machine → GateOf)
    (r : SixRecord A B C D E F) : Type 0 where
  pub interlock : InterlockView
  pub opened : interlock.opening ≡ opening
  pub losing : interlock.tries ≡ tries
  pub results : SixResults A B C D E F
  pub given : GiveBack gives1 gives2 gives3 gives4 gives5 gives6 workers
      (six_fresh interlock) interlock.tries gate limit results
  pub outputs : r.outputs ≡ outputs_in results
  pub history : List Event
  pub lawful : LawfulThroughout opening history
  pub seen : (m : Machine) → Waits m (seen_in results m) history
  pub start : r.start ≡ opening
  pub journals : (m : Machine) → journal_of r.journals m ≡ noted opening (seen_in results m) m
  pub audited : IsAudited opening (journal_of r.journals) (Some r.end) history
  pub end : r.end ≡ after opening history
