-- Histories: lists of events, the oldest first. Each definition over a history takes the plan and the opening, the
-- state that the history begins with.
use Rattle.std.specs.Prelude.{◌≡◌, ℕ, ◌+◌, Bool, true, false, ◌&&◌, not, nat_eq, ◌⊎◌, List, [], ◌∷◌, ◌++◌, filter}
use Rattle.std.specs.Prelude.{count_by}
use Rattle.std.specs.Prelude.{All, unwrap_or, if◌then◌else◌, IsTrue, ⊤}
use Rattle.plan_types.specs.declared.posture.Posture.{Posture}
use Rattle.plan_types.specs.declared.posture.Posture.TheVariants.{Moving}
use Rattle.plan_types.specs.declared.call.Call.{Call}
use Rattle.plan_types.specs.declared.call.Call.TheVariants.{Claim, Give, Yield, Release, SetPose, Stop, Resume}
use Rattle.plan_types.specs.declared.call.Call.TheVariants.{Advance}
use Rattle.plan_types.specs.declared.answer.Answer.{Answer}
use Rattle.plan_types.specs.declared.answer.Answer.TheVariants.{Done, Shown, Refused}
use Rattle.plan_types.specs.declared.answer.Event.{Event}
use Rattle.plan_types.specs.Table.{PlanTable, is_party, posture_of, same_space}
use Rattle.plan_rules.specs.declared.state.State.{State}
use Rattle.plan_rules.specs.State.{posture_at, is_full, one_if}
use Rattle.plan_rules.specs.Refusals.{owns}
use Rattle.plan_rules.specs.Reply.{reply, next, other_party}

-- the state after a history
abbrev pub after : PlanTable → State → List Event → State
after t s [] = s
after t s (e ∷ history) = after t (next t s e.machine e.call) history

-- every event has the answer that `reply` gives in the state before it
abbrev pub IsLegal : PlanTable → State → List Event → Type 0
IsLegal t s [] = ⊤
IsLegal t s (e ∷ history) =
    (e.answer ≡ reply t s e.machine e.call) × IsLegal t (next t s e.machine e.call) history

-- a machine's events, in order
abbrev pub own_events : List Event → ℕ → List Event
own_events history m = filter (λ e. nat_eq e.machine m) history

abbrev pub is_done_answer : Answer → Bool
is_done_answer Done = true
is_done_answer (Shown _ _ _) = false
is_done_answer (Refused _) = false

abbrev pub is_done : Event → Bool
is_done e = is_done_answer e.answer

-- how many Done events a history has
abbrev pub done_count : List Event → ℕ
done_count history = count_by is_done history

-- a Done advance fills its place, which had no plate before, or empties it
abbrev pub fills : State → Call → Bool
fills s (Advance p) = not (is_full s p)
fills s _ = false

abbrev pub empties : State → Call → Bool
empties s (Advance p) = is_full s p
empties s _ = false

-- how many plates have come from outside, and how many have gone there: the Done advances that fill, and that empty
abbrev pub come : PlanTable → State → List Event → ℕ
come t s [] = 0
come t s (e ∷ history) =
    one_if (is_done e && fills s e.call) + come t (next t s e.machine e.call) history

abbrev pub gone : PlanTable → State → List Event → ℕ
gone t s [] = 0
gone t s (e ∷ history) =
    one_if (is_done e && empties s e.call) + gone t (next t s e.machine e.call) history

-- a machine gains a zone by its own claim of a zone of this space, or by a handover from that zone's other party
abbrev pub gains : PlanTable → ℕ → Call → ℕ → ℕ → Bool
gains t n (Claim y) m z = same_space t y z && nat_eq n m
gains t n (Give y) m z = same_space t y z && (is_party t n y && nat_eq (other_party t n y) m)
gains t n (Yield y) m z = same_space t y z && (is_party t n y && nat_eq (other_party t n y) m)
gains t n _ m z = false

-- it loses a zone by its own handover or release of a zone of this space
abbrev pub loses : PlanTable → ℕ → Call → ℕ → ℕ → Bool
loses t n (Give y) m z = same_space t y z && nat_eq n m
loses t n (Yield y) m z = same_space t y z && nat_eq n m
loses t n (Release y) m z = same_space t y z && nat_eq n m
loses t n _ m z = false

abbrev pub is_gain : PlanTable → Event → ℕ → ℕ → Bool
is_gain t e m z = is_done e && gains t e.machine e.call m z

abbrev pub is_loss : PlanTable → Event → ℕ → ℕ → Bool
is_loss t e m z = is_done e && loses t e.machine e.call m z

abbrev pub IsGain : PlanTable → Event → ℕ → ℕ → Type 0
IsGain t e m z = IsTrue (is_gain t e m z)

abbrev pub IsLoss : PlanTable → Event → ℕ → ℕ → Type 0
IsLoss t e m z = IsTrue (is_loss t e m z)

-- no event of a history is a loss
abbrev pub LosesNothing : PlanTable → List Event → ℕ → ℕ → Type 0
LosesNothing t history m z = All (λ e. ¬ IsLoss t e m z) history

-- a history in which a machine gains a zone, and doesn't lose it after that
pub record GainsAndKeeps (t : PlanTable) (history : List Event) (m z : ℕ) : Type 0 where
  pub before : List Event
  pub gain : Event
  pub since : List Event
  pub split : history ≡ before ++ gain ∷ since
  pub gained : IsGain t gain m z
  pub kept : LosesNothing t since m z

-- a machine holds a zone after a history: it owned it in the opening and hasn't lost it, or has gained it and not lost
-- it since
abbrev pub Holds : PlanTable → State → List Event → ℕ → ℕ → Type 0
Holds t s history m z = (IsTrue (owns s m z) × LosesNothing t history m z) ⊎ GainsAndKeeps t history m z

-- which calls stop and resume
abbrev pub stops : Call → Bool
stops Stop = true
stops _ = false

abbrev pub resumes : Call → Bool
resumes Resume = true
resumes _ = false

abbrev pub is_stop : Event → Bool
is_stop e = is_done e && stops e.call

abbrev pub is_resume : Event → Bool
is_resume e = is_done e && resumes e.call

abbrev pub NeverResumes : List Event → Type 0
NeverResumes history = All (λ e. ¬ IsTrue (is_resume e)) history

-- a history with a Done stop, and no Done resume after it
pub record StopsAndStays (history : List Event) : Type 0 where
  pub before : List Event
  pub stop : Event
  pub since : List Event
  pub split : history ≡ before ++ stop ∷ since
  pub stopped : IsTrue (is_stop stop)
  pub kept : NeverResumes since

-- the plant is stopped after a history: the opening is stopped or a Done stop comes, with no Done resume after it
abbrev pub IsStopped : State → List Event → Type 0
IsStopped s history = (IsTrue s.stopped × NeverResumes history) ⊎ StopsAndStays history

-- the posture that one Done event leaves
abbrev pub posture_given : PlanTable → Call → ℕ → Posture → Posture
posture_given t (SetPose p) z now = unwrap_or (posture_of t p z) now
posture_given t _ z now = now

abbrev pub posture_since : PlanTable → Posture → List Event → ℕ → Posture
posture_since t now [] z = now
posture_since t now (e ∷ history) z =
    posture_since t (if is_done e then posture_given t e.call z now else now) history z

-- the posture that a zone's host gave it by its last pose; at first the opening's
abbrev pub posture_by_events : PlanTable → State → List Event → ℕ → Posture
posture_by_events t s history z = posture_since t (posture_at s z) history z

-- a zone moves, by the events
abbrev pub Moves : PlanTable → State → List Event → ℕ → Type 0
Moves t s history z = posture_by_events t s history z ≡ Moving
