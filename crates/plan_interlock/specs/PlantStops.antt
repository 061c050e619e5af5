-- The watch's stop reaches each word of a plant, and so does its resumption.
use Rattle.std.specs.Prelude.{◌≡◌, ℕ, ◌<◌, true, false, List, [], ◌∷◌, ◌++◌, All, Option, Some, length}
use Rattle.std.specs.Prelude.{slice_get, slice_index_or}
use Rattle.plan_types.specs.declared.call.Call.{Call}
use Rattle.plan_types.specs.declared.call.Call.TheVariants.{Stop, Resume}
use Rattle.plan_types.specs.declared.answer.Refusal.TheVariants.{Worn, Stopped, NotStopped}
use Rattle.plan_types.specs.declared.answer.Answer.{Answer}
use Rattle.plan_types.specs.declared.answer.Answer.TheVariants.{Done, Refused}
use Rattle.plan_types.specs.declared.answer.Event.{Event}
use Rattle.plan_types.specs.Table.{PlanTable, watch}
use Rattle.plan_rules.specs.declared.state.State.{State}
use Rattle.plan_rules.specs.History.{after}
use Rattle.word_interlock.specs.declared.reply.Reply.{Reply}
use Rattle.word_interlock.specs.declared.reply.Reply.TheVariants.{Settled, Busy}
use Rattle.plan_interlock.specs.Book.{plan_of}
use Rattle.plan_interlock.specs.Plant.{WordView, RightView, PlantPassView, IsOfPlant}
use Rattle.plan_interlock.specs.PlantCalls.{AskedOnEach}

-- what the answer to a stop says of the state that the call found, and of the one that it left; the watch gets no other
-- answer
abbrev pub StopSays : Answer → State → State → Type 0
StopSays Done found left = (found.stopped ≡ false) × (left.stopped ≡ true)
StopSays (Refused Stopped) found left = (found.stopped ≡ true) × (left ≡ found)
StopSays (Refused Worn) found left = (found.stopped ≡ false) × (left ≡ found)
StopSays _ found left = ⊥

abbrev pub ResumeSays : Answer → State → State → Type 0
ResumeSays Done found left = (found.stopped ≡ true) × (left.stopped ≡ false)
ResumeSays (Refused NotStopped) found left = (found.stopped ≡ false) × (left ≡ found)
ResumeSays (Refused Worn) found left = (found.stopped ≡ true) × (left ≡ found)
ResumeSays _ found left = ⊥

-- the watch's call is the last that a right has seen; this holds of the states before and after it
pub record CameLast (t : PlanTable) (call : Call) (a : Answer) (w : RightView) (holds : State → State → Type 0)
    : Type 0 where
  pub earlier : List Event
  pub last : w.seen ≡ earlier ++ record { machine = watch; call = call; answer = a } ∷ []
  pub states : holds (after t w.opening earlier) (after t w.opening w.seen)

-- what the reply to a stop tells of its word. Where it is Busy, the word runs, by all that has been seen there
abbrev pub StopTells : Reply Answer → PlanTable → RightView → Type 0
StopTells (Settled a stamp) t w = CameLast t Stop a w (StopSays a)
StopTells (Busy lost stamp) t w = (after t w.opening w.seen).stopped ≡ false

abbrev pub ResumeTells : Reply Answer → PlanTable → RightView → Type 0
ResumeTells (Settled a stamp) t w = CameLast t Resume a w (ResumeSays a)
ResumeTells (Busy lost stamp) t w = (after t w.opening w.seen).stopped ≡ true

-- the watch's pass of a plant
pub record IsWatchsPass (words : List WordView) (pass : PlantPassView) : Type 0 where
  pub plant : IsOfPlant words pass
  pub own : All (λ v. v.actor ≡ watch) pass.rights

-- each word has a reply at its number, which tells this of it
abbrev pub ReachesEachWord : Call → (Reply Answer → PlanTable → RightView → Type 0) → Type 0
ReachesEachWord call tells =
    (words : List WordView) (before now : PlantPassView) (replies : List (Option (Reply Answer)))
    → IsWatchsPass words before → AskedOnEach call words before now replies
    → (n : ℕ) (i : WordView) (w : RightView) → n < length words
    → (reply : Reply Answer) × (slice_get replies n ≡ Some (Some reply))
    × tells reply (plan_of (slice_index_or words n i).rules) (slice_index_or now.rights n w)

-- whatever the words, and whatever was seen before on each
pub record StopsReachEachWord : Type 0 where
  pub stop : ReachesEachWord Stop StopTells
  pub resume : ReachesEachWord Resume ResumeTells
