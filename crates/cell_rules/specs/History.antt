-- Histories: lists of events, the oldest first. Each definition over a history takes the opening, the state that it
-- begins with.
use Rattle.std.specs.Prelude.{◌≡◌, ℕ, ◌+◌, ℤ, pos, ◌-ℤ◌, Bool, true, false, ◌&&◌, not, ◌⊎◌, List, [], ◌∷◌, ◌++◌, filter}
use Rattle.std.specs.Prelude.{count_by, All, unwrap_or, if◌then◌else◌, Option, Some, None, option_map, IsTrue, ⊤}
use Rattle.std.specs.Option.{option_or}
use Rattle.cell_rules.specs.Types.{Place, Transfer, Machine, Zone, Z3, Call, Claim, Give, Yield, Take, Release}
use Rattle.cell_rules.specs.Types.{SetPose, Advance, Stop, Resume, Answer, Done, Shown, Refused, Event, same_machine}
use Rattle.cell_rules.specs.Types.{same_zone, same_place, Posture, Closed, Moving, OpenIn, OpenOut, posture_of}
use Rattle.cell_rules.specs.Types.{transfer_of, own_move_of}
use Rattle.cell_rules.specs.ModelState.{ModelState, zone_at, is_full, one_if}
use Rattle.cell_rules.specs.Sound.{is_party}
use Rattle.cell_rules.specs.Refusals.{owns, posture_at}
use Rattle.cell_rules.specs.Reply.{reply, next, other_party, is_belt_of}

-- the state after a history
abbrev pub after : ModelState → List Event → ModelState
after s [] = s
after s (e ∷ history) = after (next s e.machine e.call) history

-- every event has the answer that `reply` gives in the state before it
abbrev pub IsLegal : ModelState → List Event → Type 0
IsLegal s [] = ⊤
IsLegal s (e ∷ history) = (e.answer ≡ reply s e.machine e.call) × IsLegal (next s e.machine e.call) history

-- a machine's events, in order
abbrev pub own_events : List Event → Machine → List Event
own_events history m = filter (λ e. same_machine e.machine m) history

abbrev pub is_done_answer : Answer → Bool
is_done_answer Done = true
is_done_answer (Shown _ _ _) = false
is_done_answer (Refused _) = false

abbrev pub is_done : Event → Bool
is_done e = is_done_answer e.answer

-- how many Done events a history has, and how many of them are of machines other than one
abbrev pub done_count : List Event → ℕ
done_count history = count_by is_done history

abbrev pub changes_by_others : List Event → Machine → ℕ
changes_by_others history m = count_by (λ e. is_done e && not (same_machine e.machine m)) history

-- a machine gains a zone by its own claim, or by a handover from the zone's other party
abbrev pub gains : Machine → Call → Machine → Zone → Bool
gains n (Claim y) m z = same_zone y z && same_machine n m
gains n (Give y) m z = same_zone y z && (is_party n y && same_machine (other_party n y) m)
gains n (Yield y) m z = same_zone y z && (is_party n y && same_machine (other_party n y) m)
gains n _ m z = false

-- it loses a zone by its own handover or release
abbrev pub loses : Machine → Call → Machine → Zone → Bool
loses n (Give y) m z = same_zone y z && same_machine n m
loses n (Yield y) m z = same_zone y z && same_machine n m
loses n (Release y) m z = same_zone y z && same_machine n m
loses n _ m z = false

abbrev pub is_gain : Event → Machine → Zone → Bool
is_gain e m z = is_done e && gains e.machine e.call m z

abbrev pub is_loss : Event → Machine → Zone → Bool
is_loss e m z = is_done e && loses e.machine e.call m z

abbrev pub IsGain : Event → Machine → Zone → Type 0
IsGain e m z = IsTrue (is_gain e m z)

abbrev pub IsLoss : Event → Machine → Zone → Type 0
IsLoss e m z = IsTrue (is_loss e m z)

-- no event of a history is a loss
abbrev pub LosesNothing : List Event → Machine → Zone → Type 0
LosesNothing history m z = All (λ e. ¬ IsLoss e m z) history

-- a history in which a machine gains a zone, and doesn't lose it after that
pub record GainsAndKeeps (history : List Event) (m : Machine) (z : Zone) : Type 0 where
  pub before : List Event
  pub gain : Event
  pub since : List Event
  pub split : history ≡ before ++ gain ∷ since
  pub gained : IsGain gain m z
  pub kept : LosesNothing since m z

-- a machine holds a zone after a history: it owned it in the opening and hasn't lost it, or has gained it and not lost
-- it since
abbrev pub Holds : ModelState → List Event → Machine → Zone → Type 0
Holds s history m z = (IsTrue (owns s m z) × LosesNothing history m z) ⊎ GainsAndKeeps history m z

-- which calls stop and resume
abbrev pub stops : Call → Bool
stops Stop = true
stops _ = false

abbrev pub resumes : Call → Bool
resumes Resume = true
resumes _ = false

abbrev pub is_stop : Event → Bool
is_stop e = is_done e && stops e.call

abbrev pub is_resume : Event → Bool
is_resume e = is_done e && resumes e.call

abbrev pub NeverResumes : List Event → Type 0
NeverResumes history = All (λ e. ¬ IsTrue (is_resume e)) history

-- a history with a Done stop, and no Done resume after it
pub record StopsAndStays (history : List Event) : Type 0 where
  pub before : List Event
  pub stop : Event
  pub since : List Event
  pub split : history ≡ before ++ stop ∷ since
  pub stopped : IsTrue (is_stop stop)
  pub kept : NeverResumes since

-- the cell is stopped after a history: the opening is stopped or a Done stop comes, with no Done resume after it
abbrev pub IsStopped : ModelState → List Event → Type 0
IsStopped s history = (IsTrue s.stopped × NeverResumes history) ⊎ StopsAndStays history

-- the posture that one Done event leaves
abbrev pub posture_given : Machine → Call → Zone → Posture → Posture
posture_given n (SetPose p) z now = unwrap_or (posture_of n p z) now
posture_given n Advance z now = if is_belt_of n z then Closed else now
posture_given n _ z now = now

abbrev pub posture_since : Posture → List Event → Zone → Posture
posture_since now [] z = now
posture_since now (e ∷ history) z =
    posture_since (if is_done e then posture_given e.machine e.call z now else now) history z

-- the posture that a zone's host gave it by its last pose; Closed if the host, a belt, has advanced since; at first the
-- opening's
abbrev pub posture_by_events : ModelState → List Event → Zone → Posture
posture_by_events s history z = posture_since (posture_at s z) history z

-- the place that a machine's give empties in a zone, and the one that its take fills: a machine has at most one row
-- there
abbrev pub giving_of : Machine → Option Transfer → Option Place
giving_of n None = None
giving_of n (Some row) = if same_machine row.giver n then Some row.from else None

abbrev pub taking_of : Machine → Option Transfer → Option Place
taking_of n None = None
taking_of n (Some row) = if same_machine row.receiver n then Some row.to else None

abbrev pub given_place : Machine → Zone → Option Place
given_place n z = option_or (giving_of n (transfer_of z OpenIn)) (giving_of n (transfer_of z OpenOut))

abbrev pub taken_place : Machine → Zone → Option Place
taken_place n z = option_or (taking_of n (transfer_of z OpenIn)) (taking_of n (transfer_of z OpenOut))

abbrev pub is_place : Option Place → Place → Bool
is_place None p = false
is_place (Some q) p = same_place q p

-- the places that a call empties and fills
abbrev pub empties : Machine → Call → Place → Bool
empties n (Give z) p = is_place (given_place n z) p
empties n Advance p = is_place (option_map (λ way. way.0) (own_move_of n)) p
empties n _ p = false

abbrev pub fills : Machine → Call → Place → Bool
fills n (Take z) p = is_place (taken_place n z) p
fills n Advance p = is_place (option_map (λ way. way.1) (own_move_of n)) p
fills n _ p = false

abbrev pub is_filled_by : Place → Event → Bool
is_filled_by p e = is_done e && fills e.machine e.call p

abbrev pub is_emptied_by : Place → Event → Bool
is_emptied_by p e = is_done e && empties e.machine e.call p

-- how many plates a place has by the events: 1 if it was full in the opening, plus what fills it, minus what empties it
abbrev pub plates_at : ModelState → List Event → Place → ℤ
plates_at s history p =
    pos (one_if (is_full s p) + count_by (is_filled_by p) history) -ℤ pos (count_by (is_emptied_by p) history)

-- a call gives a plate into a zone, or takes one from it
abbrev pub gives : Call → Zone → Bool
gives (Give y) z = same_zone y z
gives _ z = false

abbrev pub takes : Call → Zone → Bool
takes (Take y) z = same_zone y z
takes _ z = false

abbrev pub is_given_into : Zone → Event → Bool
is_given_into z e = is_done e && gives e.call z

abbrev pub is_taken_from : Zone → Event → Bool
is_taken_from z e = is_done e && takes e.call z

-- how many plates are in a zone by the events: 1 if its flag was set in the opening, plus the gives, minus the takes
abbrev pub plates_in_transfer : ModelState → List Event → Zone → ℤ
plates_in_transfer s history z =
    pos (one_if (zone_at s z).flag + count_by (is_given_into z) history) -ℤ pos (count_by (is_taken_from z) history)

-- a zone moves, by the events
abbrev pub Moves : ModelState → List Event → Zone → Type 0
Moves s history z = posture_by_events s history z ≡ Moving

-- the press moves while its interior, z3, does: in the pose travelling
abbrev pub PressMoves : ModelState → List Event → Type 0
PressMoves s history = Moves s history Z3
