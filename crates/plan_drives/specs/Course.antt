-- How far a machine has come in its program by a history.
use Rattle.std.specs.Prelude.{◌≡◌, ℕ, zero, suc, ◌+◌, ◌≤◌, Bool, ◌&&◌, nat_eq, List, [], ◌∷◌, ◌++◌, take, drop, All}
use Rattle.std.specs.Prelude.{slice_get, Some, IsTrue, ◌⊎◌}
use Rattle.plan_types.specs.declared.call.Call.{Call}
use Rattle.plan_types.specs.declared.answer.Event.{Event}
use Rattle.plan_types.specs.Table.{PlanTable}
use Rattle.plan_rules.specs.declared.state.State.{State}
use Rattle.plan_rules.specs.Refusals.{owns}
use Rattle.plan_rules.specs.History.{after, is_done}
use Rattle.plan_rules.specs.Laws.{done}
use Rattle.plan_drives.specs.declared.line.Line.{Line}
use Rattle.plan_drives.specs.declared.line.Line.TheVariants.{Do, Await, Run}
use Rattle.plan_drives.specs.Program.{Runs}
use Rattle.plan_drives.specs.InStep.{IsInStep}

abbrev pub is_done_by : ℕ → Event → Bool
is_done_by m e = nat_eq e.machine m && is_done e

-- a machine stays where it is in its program: none of its calls is done. It may be refused, and may inquire
abbrev pub Stays : List Event → ℕ → Type 0
Stays history m = All (λ e. ¬ IsTrue (is_done_by m e)) history

-- the first call of a machine that is done in a history is this one
pub record DoesNext (history : List Event) (m : ℕ) (c : Call) : Type 0 where
  pub before : List Event
  pub since : List Event
  pub split : history ≡ before ++ done m c ∷ since
  pub stays : Stays before m

-- before any call of a machine is done there is a moment at which it owns a zone
pub record ComesToOwn (t : PlanTable) (s : State) (history : List Event) (m z : ℕ) : Type 0 where
  pub before : List Event
  pub since : List Event
  pub split : history ≡ before ++ since
  pub stays : Stays before m
  pub owned : IsTrue (owns (after t s before) m z)

-- by a history a machine goes through lines: their calls are done in order, and no others of it; it goes past each
-- await at a moment at which it owns the zone
abbrev pub GoesThrough : PlanTable → State → List Event → ℕ → List Line → Type 0
GoesThrough t s history m [] = Stays history m
GoesThrough t s history m (Do c ∷ lines) =
    (x : DoesNext history m c) × GoesThrough t (after t s (x.before ++ done m c ∷ [])) x.since m lines
GoesThrough t s history m (Await z ∷ lines) =
    (x : ComesToOwn t s history m z) × GoesThrough t (after t s x.before) x.since m lines
GoesThrough t s history m (Run motors ∷ lines) = GoesThrough t s history m lines

-- a machine is at a line of its program in a round: from some moment on it has gone through the lines before. What was
-- earlier, as other rounds, doesn't matter
pub record IsInRound (t : PlanTable) (s : State) (history : List Event) (m : ℕ) (program : List Line) (k : ℕ)
    : Type 0 where
  pub before : List Event
  pub round : List Event
  pub split : history ≡ before ++ round
  pub goes : GoesThrough t (after t s before) round m (take k program)

-- a machine has gone on from a line at which it was in step with the opening: it has gone through the lines between
pub record HasGoneOn (t : PlanTable) (s : State) (history : List Event) (m : ℕ) (program : List Line) (k : ℕ)
    : Type 0 where
  pub from : ℕ
  pub in_step : IsInStep t s m program from
  pub not_past : from ≤ k
  pub goes : GoesThrough t s history m (drop from (take k program))

-- a machine is at a line of its program: in a round, or from where it was in step with the opening
abbrev pub IsAt : PlanTable → State → List Event → ℕ → List Line → ℕ → Type 0
IsAt t s history m program k = IsInRound t s history m program k ⊎ HasGoneOn t s history m program k

-- a program again and again
abbrev pub rounds_of : ℕ → List Line → List Line
rounds_of zero program = []
rounds_of (suc n) program = program ++ rounds_of n program

-- a machine has come to a line by its program from the opening on: it has gone through whole rounds, and then through
-- the lines before
pub record HasCome (t : PlanTable) (s : State) (history : List Event) (m : ℕ) (program : List Line) (k : ℕ)
    : Type 0 where
  pub rounds : ℕ
  pub goes : GoesThrough t s history m (rounds_of rounds program ++ take k program)

-- from the opening on a machine has come from a line of its program to another: it has gone through whole rounds and
-- then the lines before, but for those before the one where it was
pub record HasComeFrom (t : PlanTable) (s : State) (history : List Event) (m : ℕ) (program : List Line) (from k : ℕ)
    : Type 0 where
  pub rounds : ℕ
  pub lines : List Line
  pub between : rounds_of rounds program ++ take k program ≡ take from program ++ lines
  pub goes : GoesThrough t s history m lines

-- a machine is at a line of its program that runs a motor
pub record IsRunning (t : PlanTable) (s : State) (history : List Event) (m : ℕ) (program : List Line) (i : ℕ)
    : Type 0 where
  pub line : ℕ
  pub at : IsAt t s history m program line
  pub runs : Runs program line i

-- How a machine goes on, by what says that it is at a line: at any moment a round may begin; it stays at its line
-- while none of its calls is done; and it comes to the next line once its call is done, while it owns the zone that it
-- awaits, or after it has run its motors.
pub record CoursesGoOn (At : List Event → ℕ → Type 0) (t : PlanTable) (s : State) (h : List Event) (m : ℕ)
    (program : List Line) : Type 0 where
  pub begins : At h 0
  pub stays : (k : ℕ) (more : List Event) → At h k → Stays more m → At (h ++ more) k
  pub does : (k : ℕ) (c : Call) → At h k → slice_get program k ≡ Some (Do c) → At (h ++ done m c ∷ []) (k + 1)
  pub awaits : (k z : ℕ) → At h k → slice_get program k ≡ Some (Await z) → IsTrue (owns (after t s h) m z)
      → At h (k + 1)
  pub runs : (k motors : ℕ) → At h k → slice_get program k ≡ Some (Run motors) → At h (k + 1)
