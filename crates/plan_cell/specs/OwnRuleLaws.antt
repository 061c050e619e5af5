-- The rules that the cell has and its plan hasn't, said again without a test: there are these, and no others.
use Rattle.std.specs.Prelude.{◌≡◌, ◌↔◌, ◌⊎◌, true, false, Some, IsTrue}
use Rattle.cell_types.specs.declared.machine.Machine.{Machine}
use Rattle.cell_types.specs.declared.machine.Machine.TheVariants.{Feed, Press, Deposit}
use Rattle.cell_types.specs.declared.zone.Zone.TheVariants.{Z1, Z6}
use Rattle.cell_types.specs.declared.place.Place.TheVariants.{FeedEnd, PressOut, DepEnd}
use Rattle.cell_types.specs.declared.posture.Posture.TheVariants.{Moving}
use Rattle.cell_types.specs.declared.pose.Pose.TheVariants.{Middle, Running}
use Rattle.cell_types.specs.declared.call.Call.{Call}
use Rattle.cell_types.specs.declared.call.Call.TheVariants.{Yield, Release, SetPose}
use Rattle.cell_types.specs.declared.answer.Refusal.{Refusal}
use Rattle.cell_types.specs.declared.answer.Refusal.TheVariants.{PlaceFull, InUse}
use Rattle.cell_types.specs.declared.answer.Answer.TheVariants.{Done, Refused}
use Rattle.cell_rules.specs.ModelState.{ModelState, zone_at, is_full}
use Rattle.cell_rules.specs.Refusals.{owns}
use Rattle.cell_rules.specs.Reply.{reply}
use Rattle.plan_types.specs.declared.call.Call.{Call as PlanCall}
use Rattle.plan_types.specs.declared.answer.Answer.TheVariants.{Done as PlanDone}
use Rattle.plan_rules.specs.Reply.{reply as plan_reply}
use Rattle.plan_cell.specs.Numbers.{machine_number, plan_call}
use Rattle.plan_cell.specs.CellPlan.{cell_table}
use Rattle.plan_cell.specs.Mapping.{plan_state}
use Rattle.plan_cell.specs.Laws.{is_own_rule}

-- feed doesn't leave z1 while its belt runs with a plate at its end
pub record FeedStays (s : ModelState) (m : Machine) (c : Call) (r : Refusal) : Type 0 where
  pub machine : m ≡ Feed
  pub call : (c ≡ Yield Z1) ⊎ (c ≡ Release Z1)
  pub refusal : r ≡ InUse
  pub runs : (zone_at s Z6).posture ≡ Moving
  pub plate : is_full s FeedEnd ≡ true

-- feed's belt doesn't start with a plate at its end, unless feed owns z1
pub record FeedStands (s : ModelState) (m : Machine) (c : Call) (r : Refusal) : Type 0 where
  pub machine : m ≡ Feed
  pub call : c ≡ SetPose Running
  pub refusal : r ≡ PlaceFull
  pub plate : is_full s FeedEnd ≡ true
  pub not_owner : owns s Feed Z1 ≡ false

-- the deposit belt doesn't start with a plate at its end
pub record DepositStands (s : ModelState) (m : Machine) (c : Call) (r : Refusal) : Type 0 where
  pub machine : m ≡ Deposit
  pub call : c ≡ SetPose Running
  pub refusal : r ≡ PlaceFull
  pub plate : is_full s DepEnd ≡ true

-- the press doesn't open for loading with a forged plate in it
pub record PressStays (s : ModelState) (m : Machine) (c : Call) (r : Refusal) : Type 0 where
  pub machine : m ≡ Press
  pub call : c ≡ SetPose Middle
  pub refusal : r ≡ PlaceFull
  pub plate : is_full s PressOut ≡ true

abbrev pub IsOwnRule : ModelState → Machine → Call → Refusal → Type 0
IsOwnRule s m c r =
    (FeedStays s m c r ⊎ FeedStands s m c r) ⊎ (DepositStands s m c r ⊎ PressStays s m c r)

pub record OwnRulesAreThese : Type 0 where
  pub test : (s : ModelState) (m : Machine) (c : Call) (r : Refusal) → IsTrue (is_own_rule s m c r) ↔ IsOwnRule s m c r
  -- what the plan does the cell does too, or refuses by one of these rules
  pub refused : (s : ModelState) (m : Machine) (c : Call) (d : PlanCall) → plan_call m c ≡ Some d
      → plan_reply cell_table (plan_state s) (machine_number m) d ≡ PlanDone
      → (reply s m c ≡ Done) ⊎ ((r : Refusal) × (reply s m c ≡ Refused r) × IsOwnRule s m c r)
