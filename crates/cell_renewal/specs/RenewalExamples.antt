-- When the stamp begins again, when a mark leaves room, how many calls a watch makes, who goes on: by literal examples.
use Rattle.std.specs.Prelude.{◌≡◌, ◌≢◌, ℕ, false, [], ◌∷◌, None, Some}
use Rattle.cell_rules.specs.Types.{Machine, Watch, Stop, Done}
use Rattle.cell_rules.specs.Names.{ModelState, empty, event, start_state}
use Rattle.cell_interlock.specs.Views.{PassView}
use Rattle.cell_control.specs.Wiring.{Unwiring}
use Rattle.cell_notes.specs.declared.status.Status.{Status}
use Rattle.cell_notes.specs.declared.status.Status.TheVariants.{Fine, Worn}
use Rattle.cell_threads.specs.Watching.{WatchesOf}
use Rattle.cell_threads.specs.declared.six_of.SixOf.{SixOf}
use Rattle.cell_renewal.specs.Going.{GoesOnFrom}
use Rattle.cell_renewal.specs.Renewing.{AreAllFine, GoAllOn, Leaves, OpensAfter}
use Rattle.cell_renewal.specs.RenewedRecords.{LeavesRoom, MakesAtMost}

-- a state with this stamp
abbrev pub at_stamp : ℕ → ModelState
at_stamp stamp = start_state empty stamp

-- a watch that stops the cell once
abbrev pub stops_once : WatchesOf (Unit {0})
stops_once watch got tries kept later = kept.seen ≡ event Watch Stop Done ∷ []

abbrev pub six : {X : Type 0} → X → X → X → X → X → X → SixOf X X X X X X
six a b c d e f = record { feed = a; table = b; robot = c; press = d; deposit = e; crane = f }

-- statuses of six workers
abbrev pub AllFine : SixOf Status Status Status Status Status Status → Type 0
AllFine each = AreAllFine (λ s. s) (λ s. s) (λ s. s) (λ s. s) (λ s. s) (λ s. s) each

-- numbers, each of which goes on as itself
abbrev pub same_number : ℕ → ModelState → ℕ → Type 0
same_number left opening now = now ≡ left

abbrev pub AllGoOn : SixOf ℕ ℕ ℕ ℕ ℕ ℕ → SixOf ℕ ℕ ℕ ℕ ℕ ℕ → Type 0
AllGoOn each now =
    GoAllOn same_number same_number same_number same_number same_number same_number each (at_stamp 0) now

pub record RenewalIsTold : Type 0 where
  -- a stamp at the mark goes on, one past it begins again at 0
  pub goes_on : OpensAfter 9 (at_stamp 9) (at_stamp 9)
  pub begins_again : OpensAfter 9 (at_stamp 10) (at_stamp 0)
  pub not_yet : ¬ OpensAfter 9 (at_stamp 9) (at_stamp 0)
  pub too_late : ¬ OpensAfter 9 (at_stamp 10) (at_stamp 10)
  -- six machines have 8,095 turns each, the watch four calls; a fifth is one too many
  pub room : LeavesRoom 1000000 8095 4
  pub no_room : ¬ LeavesRoom 1000000 8095 5
  pub calls : MakesAtMost stops_once 1
  pub one_call_more : (got kept : PassView) → got.seen ≡ [] → kept.seen ≡ event Watch Stop Done ∷ []
      → ¬ MakesAtMost stops_once 0
  -- each of the six has to be fine, and to go on
  pub fine : AllFine (six Fine Fine Fine Fine Fine Fine)
  pub feed : ¬ AllFine (six Worn Fine Fine Fine Fine Fine)
  pub table : ¬ AllFine (six Fine Worn Fine Fine Fine Fine)
  pub robot : ¬ AllFine (six Fine Fine Worn Fine Fine Fine)
  pub press : ¬ AllFine (six Fine Fine Fine Worn Fine Fine)
  pub deposit : ¬ AllFine (six Fine Fine Fine Fine Worn Fine)
  pub crane : ¬ AllFine (six Fine Fine Fine Fine Fine Worn)
  pub all_go_on : AllGoOn (six 1 2 3 4 5 6) (six 1 2 3 4 5 6)
  pub feed_stays : ¬ AllGoOn (six 1 2 3 4 5 6) (six 0 2 3 4 5 6)
  pub table_stays : ¬ AllGoOn (six 1 2 3 4 5 6) (six 1 0 3 4 5 6)
  pub robot_stays : ¬ AllGoOn (six 1 2 3 4 5 6) (six 1 2 0 4 5 6)
  pub press_stays : ¬ AllGoOn (six 1 2 3 4 5 6) (six 1 2 3 0 5 6)
  pub deposit_stays : ¬ AllGoOn (six 1 2 3 4 5 6) (six 1 2 3 4 0 6)
  pub crane_stays : ¬ AllGoOn (six 1 2 3 4 5 6) (six 1 2 3 4 5 0)
  -- a machine goes on as it was left, with its own devices, where the interlock opens
  pub same : (m : Unwiring ℕ ℕ)
      → GoesOnFrom {D = ℕ} m 1 (at_stamp 0) (record { machine = m; opening = at_stamp 0; devices = 1 })
  pub another_machine : (m n : Unwiring ℕ ℕ) → n ≢ m
      → ¬ GoesOnFrom {D = ℕ} m 1 (at_stamp 0) (record { machine = n; opening = at_stamp 0; devices = 1 })
  pub other_devices : (m : Unwiring ℕ ℕ)
      → ¬ GoesOnFrom {D = ℕ} m 1 (at_stamp 0) (record { machine = m; opening = at_stamp 0; devices = 2 })
  pub elsewhere : (m : Unwiring ℕ ℕ)
      → ¬ GoesOnFrom {D = ℕ} m 1 (at_stamp 0) (record { machine = m; opening = at_stamp 9; devices = 1 })
  -- a worker leaves its own machine, and the state after what its pass has seen
  pub own_machine : (m : Machine) (s : ModelState) (got kept : PassView) → m ≢ got.machine → ¬ Leaves m s got kept
  pub old_state : (got kept : PassView) → kept.opening ≡ at_stamp 0 → kept.seen ≡ event Watch Stop Done ∷ []
      → ¬ Leaves got.machine (at_stamp 0) got kept
