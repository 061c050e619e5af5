-- What the cell and its plan have in common.
use Rattle.std.specs.Prelude.{◌≡◌, ◌≢◌, ◌↔◌, ℕ, Bool, false, ◌&&◌, not, ◌⊎◌, Some, None, option_map, IsTrue}
use Rattle.cell_types.specs.declared.machine.Machine.{Machine}
use Rattle.cell_types.specs.declared.machine.Machine.TheVariants.{Feed, Press, Deposit}
use Rattle.cell_types.specs.declared.zone.Zone.{Zone}
use Rattle.cell_types.specs.declared.zone.Zone.TheVariants.{Z1, Z6}
use Rattle.cell_types.specs.declared.place.Place.TheVariants.{FeedEnd, PressOut, DepEnd}
use Rattle.cell_types.specs.declared.posture.Posture.TheVariants.{Moving}
use Rattle.cell_types.specs.declared.pose.Pose.TheVariants.{Middle, Running}
use Rattle.cell_types.specs.declared.call.Call.{Call}
use Rattle.cell_types.specs.declared.call.Call.TheVariants.{Yield, Release, SetPose, Advance, Inquire}
use Rattle.cell_types.specs.declared.answer.Refusal.{Refusal}
use Rattle.cell_types.specs.declared.answer.Refusal.TheVariants.{PlaceFull, InUse}
use Rattle.cell_types.specs.declared.answer.Answer.{Answer}
use Rattle.cell_types.specs.declared.answer.Answer.TheVariants.{Done, Refused}
use Rattle.cell_types.specs.Same.{same_posture}
use Rattle.cell_rules.specs.ModelState.{ModelState, zone_at, is_full}
use Rattle.cell_rules.specs.Sound.{IsSound}
use Rattle.cell_rules.specs.Refusals.{owns}
use Rattle.cell_rules.specs.Reply.{reply, next}
use Rattle.plan_types.specs.declared.call.Call.{Call as PlanCall}
use Rattle.plan_types.specs.declared.answer.Answer.{Answer as PlanAnswer}
use Rattle.plan_types.specs.declared.answer.Answer.TheVariants.{Done as PlanDone, Shown}
use Rattle.plan_rules.specs.declared.state.State.{State as PlanState}
use Rattle.plan_rules.specs.Sound.{IsSound as IsSoundByPlan}
use Rattle.plan_rules.specs.Reply.{reply as plan_reply, next as plan_next}
use Rattle.plan_cell.specs.Numbers.{machine_number, plan_posture, plan_call}
use Rattle.plan_cell.specs.CellPlan.{cell_table}
use Rattle.plan_cell.specs.Mapping.{plan_state}

-- a call that the cell answers Done is Done by the plan, and leaves the same state: so the cell only refuses more. It
-- holds of every state, sound or not.
abbrev pub DoneBy : (PlanState → ℕ → PlanCall → PlanAnswer) → (PlanState → ℕ → PlanCall → PlanState) → ModelState
    → Machine → Call → PlanCall → Type 0
DoneBy answers after s m c d =
    (answers (plan_state s) (machine_number m) d ≡ PlanDone)
    × (after (plan_state s) (machine_number m) d ≡ plan_state (next s m c))

abbrev pub DoesMore : (PlanState → ℕ → PlanCall → PlanAnswer) → (PlanState → ℕ → PlanCall → PlanState) → Type 0
DoesMore answers after =
    (s : ModelState) (m : Machine) (c : Call) (d : PlanCall) → plan_call m c ≡ Some d → reply s m c ≡ Done
    → DoneBy answers after s m c d

abbrev pub CellRefusesMore : Type 0
CellRefusesMore = DoesMore (plan_reply cell_table) (plan_next cell_table)

-- feed's belt runs with a plate at its end
abbrev pub feed_holds_back : ModelState → Bool
feed_holds_back s = same_posture (zone_at s Z6).posture Moving && is_full s FeedEnd

-- the rules that the cell has and its plan hasn't: feed doesn't leave z1 while its belt holds a plate back; no belt
-- runs with a plate at its end, but feed's may while feed owns z1; the press has room for one plate, so with a forged
-- one it doesn't open for loading
abbrev pub is_own_rule : ModelState → Machine → Call → Refusal → Bool
is_own_rule s Feed (Yield Z1) InUse = feed_holds_back s
is_own_rule s Feed (Release Z1) InUse = feed_holds_back s
is_own_rule s Feed (SetPose Running) PlaceFull = is_full s FeedEnd && not (owns s Feed Z1)
is_own_rule s Deposit (SetPose Running) PlaceFull = is_full s DepEnd
is_own_rule s Press (SetPose Middle) PlaceFull = is_full s PressOut
is_own_rule s m c r = false

pub record RefusedByOwnRule (s : ModelState) (m : Machine) (c : Call) : Type 0 where
  pub refusal : Refusal
  pub answer : reply s m c ≡ Refused refusal
  pub rule : IsTrue (is_own_rule s m c refusal)

-- a call that the plan does the cell does too, or refuses by one of these rules
abbrev pub DoesNoMore : (PlanState → ℕ → PlanCall → PlanAnswer) → Type 0
DoesNoMore answers =
    (s : ModelState) (m : Machine) (c : Call) (d : PlanCall) → plan_call m c ≡ Some d
    → answers (plan_state s) (machine_number m) d ≡ PlanDone → (reply s m c ≡ Done) ⊎ RefusedByOwnRule s m c

abbrev pub RefusesByItsOwnRules : Type 0
RefusesByItsOwnRules = DoesNoMore (plan_reply cell_table)

-- and where one of these rules holds, the cell doesn't do the call
abbrev pub RefuseBy : (ModelState → Machine → Call → Answer) → Type 0
RefuseBy answers =
    (s : ModelState) (m : Machine) (c : Call) (r : Refusal) → IsTrue (is_own_rule s m c r) → answers s m c ≢ Done

abbrev pub OwnRulesRefuse : Type 0
OwnRulesRefuse = RefuseBy reply

-- each call is a call by the plan, but Advance
abbrev pub AdvanceAloneIsMissing : Type 0
AdvanceAloneIsMissing = (m : Machine) (c : Call) → (plan_call m c ≡ None) ↔ (c ≡ Advance)

-- an inquiry by the plan shows the zone as the cell has it
abbrev pub shown_in : ModelState → Zone → PlanAnswer
shown_in s z =
    Shown (option_map machine_number (zone_at s z).owner) (zone_at s z).flag (plan_posture (zone_at s z).posture)

abbrev pub AreAlikeBy : (PlanState → ℕ → PlanCall → PlanAnswer) → Type 0
AreAlikeBy answers =
    (s : ModelState) (m : Machine) (z : Zone) (d : PlanCall) → plan_call m (Inquire z) ≡ Some d
    → answers (plan_state s) (machine_number m) d ≡ shown_in s z

abbrev pub InquiriesAreAlike : Type 0
InquiriesAreAlike = AreAlikeBy (plan_reply cell_table)

-- a sound state of the cell is sound by the plan
abbrev pub SoundByPlan : Type 0
SoundByPlan = (s : ModelState) → IsSound s → IsSoundByPlan cell_table (plan_state s)
