-- What each law of the cell and its plan says of the cell's plan: of any state and any call, and of literal states,
-- stopped and with the last stamp.
use Rattle.std.specs.Prelude.{◌≡◌, ◌≢◌, Bool, true, false, Some, None, IsTrue}
use Rattle.cell_types.specs.declared.machine.Machine.{Machine}
use Rattle.cell_types.specs.declared.machine.Machine.TheVariants.{Feed, Table, Press, Crane, Watch}
use Rattle.cell_types.specs.declared.zone.Zone.TheVariants.{Z1, Z3, Z6}
use Rattle.cell_types.specs.declared.place.Place.TheVariants.{FeedEnd, PressOut}
use Rattle.cell_types.specs.declared.posture.Posture.TheVariants.{Moving, OpenIn}
use Rattle.cell_types.specs.declared.pose.Pose.{Pose}
use Rattle.cell_types.specs.declared.pose.Pose.TheVariants.{Middle}
use Rattle.cell_types.specs.declared.call.Call.{Call}
use Rattle.cell_types.specs.declared.call.Call.TheVariants.{Claim, Yield, Release, SetPose, Advance, Stop, Resume}
use Rattle.cell_types.specs.declared.answer.Refusal.{Refusal}
use Rattle.cell_types.specs.declared.answer.Refusal.TheVariants.{InUse, Stopped, Worn}
use Rattle.cell_types.specs.declared.answer.Answer.TheVariants.{Done, Refused}
use Rattle.cell_rules.specs.ZoneMap.{free_zone, everywhere}
use Rattle.cell_rules.specs.PlaceSet.{PlaceSet, empty, insert_place}
use Rattle.cell_rules.specs.ModelState.{ModelState, model_state, zone_at, is_full}
use Rattle.cell_rules.specs.Sound.{IsSound}
use Rattle.cell_rules.specs.Reply.{reply, next}
use Rattle.plan_types.specs.declared.posture.Posture.TheVariants.{Closed as IsClosed}
use Rattle.plan_types.specs.declared.call.Call.{Call as PlanCall}
use Rattle.plan_types.specs.declared.call.Call.TheVariants.{SetPose as DoSetPose, Inquire as DoInquire}
use Rattle.plan_types.specs.declared.call.Call.TheVariants.{Stop as DoStop, Resume as DoResume}
use Rattle.plan_types.specs.declared.answer.Answer.{Answer as PlanAnswer}
use Rattle.plan_types.specs.declared.answer.Answer.TheVariants.{Done as PlanDone, Shown}
use Rattle.plan_rules.specs.Sound.{IsSound as IsSoundByPlan}
use Rattle.plan_rules.specs.Reply.{reply as plan_reply, next as plan_next}
use Rattle.plan_cell.specs.Numbers.{machine_number, plan_call}
use Rattle.plan_cell.specs.CellPlan.{cell_table}
use Rattle.plan_cell.specs.Mapping.{plan_state}
use Rattle.plan_cell.specs.Laws.{DoneBy, CellRefusesMore, RefusesByItsOwnRules, OwnRulesRefuse, is_own_rule, shown_in}
use Rattle.plan_cell.specs.Laws.{AdvanceAloneIsMissing, InquiriesAreAlike, SoundByPlan}
use Rattle.plan_cell.specs.OwnRuleLaws.{OwnRulesAreThese}
use Rattle.plan_cell.specs.LawExamples.{held_in, cell_at, stopped_cell, DoneCalls, UndoneCalls, OwnRefusals}

-- all zones are free, at the last stamp
abbrev pub worn_cell : PlaceSet → Bool → ModelState
worn_cell full stopped = model_state (everywhere free_zone) full 1048575 stopped

-- the crane is in z6, and the cell is stopped
abbrev pub crane_in : ModelState
crane_in = cell_at Z6 (held_in Crane OpenIn) empty true

abbrev pub by_plan : ModelState → Machine → PlanCall → PlanAnswer
by_plan s m d = plan_reply cell_table (plan_state s) (machine_number m) d

-- of any call in any state
pub record AnyCallTells (s : ModelState) (m : Machine) (c : Call) (d : PlanCall) (is : plan_call m c ≡ Some d)
    : Type 0 where
  pub refused : CellRefusesMore → by_plan s m d ≢ PlanDone → reply s m c ≢ Done
  pub left : CellRefusesMore → reply s m c ≡ Done
      → plan_next cell_table (plan_state s) (machine_number m) d ≡ plan_state (next s m c)
  pub undone : RefusesByItsOwnRules → (r : Refusal) → reply s m c ≡ Refused r → is_own_rule s m c r ≡ false
      → by_plan s m d ≢ PlanDone
  -- no rule of the cell's own answers so
  pub stopped : RefusesByItsOwnRules → reply s m c ≡ Refused Stopped → by_plan s m d ≢ PlanDone
  pub worn : RefusesByItsOwnRules → reply s m c ≡ Refused Worn → by_plan s m d ≢ PlanDone
  -- the crane has no rule of its own
  pub crane : OwnRulesAreThese → m ≡ Crane → by_plan s m d ≡ PlanDone → reply s m c ≡ Done
  pub has_call : AdvanceAloneIsMissing → c ≢ Advance
  pub held_back : OwnRulesAreThese → IsTrue (is_own_rule s m c InUse) → (zone_at s Z6).posture ≡ Moving

-- of any state, whoever asks
pub record AnyStateTells (s : ModelState) (m : Machine) : Type 0 where
  pub own : OwnRulesRefuse → OwnRefusals reply s
  pub press_stays : OwnRulesAreThese → by_plan s Press (DoSetPose 4) ≡ PlanDone → reply s Press (SetPose Middle) ≢ Done
      → is_full s PressOut ≡ true
  pub feed_stays : OwnRulesAreThese → (zone_at s Z6).posture ≡ Moving → is_full s FeedEnd ≡ true
      → IsTrue (is_own_rule s Feed (Yield Z1) InUse)
  pub inquiry : InquiriesAreAlike → by_plan s m (DoInquire 2) ≡ shown_in s Z3
  pub advance : AdvanceAloneIsMissing → plan_call m Advance ≡ None
  pub pose : (p : Pose) → AdvanceAloneIsMissing → plan_call m (SetPose p) ≢ None
  pub missing : (c : Call) → AdvanceAloneIsMissing → plan_call m c ≡ None → c ≡ Advance

-- of literal states, stopped and at the last stamp
pub record LiteralStatesTell : Type 0 where
  pub done : CellRefusesMore → DoneCalls (plan_reply cell_table) (plan_next cell_table)
  pub undone : RefusesByItsOwnRules → UndoneCalls (plan_reply cell_table)
  pub resumes : CellRefusesMore
      → DoneBy (plan_reply cell_table) (plan_next cell_table) stopped_cell Watch Resume DoResume
  pub claims : CellRefusesMore → reply stopped_cell Table (Claim Z1) ≢ Done
  pub leaves : RefusesByItsOwnRules → reply crane_in Crane (Release Z6) ≡ Done
  pub rules : OwnRulesAreThese → reply crane_in Crane (Release Z6) ≡ Done
  pub worn_stop : CellRefusesMore → reply (worn_cell empty false) Watch Stop ≢ Done
  pub worn_resume : CellRefusesMore → reply (worn_cell empty true) Watch Resume ≢ Done
  pub no_stop : RefusesByItsOwnRules → by_plan (worn_cell empty false) Watch DoStop ≢ PlanDone
  pub press : OwnRulesRefuse → reply (worn_cell (insert_place empty PressOut) true) Press (SetPose Middle) ≢ Done
  pub shown : InquiriesAreAlike → by_plan stopped_cell Table (DoInquire 0) ≡ Shown None false IsClosed
  pub worn_shown : InquiriesAreAlike → by_plan (worn_cell empty true) Watch (DoInquire 5) ≡ Shown None false IsClosed
  pub sound : SoundByPlan → IsSound (worn_cell empty true)
      → IsSoundByPlan cell_table (plan_state (worn_cell empty true))

pub record LawRows : Type 0 where
  pub calls : (s : ModelState) (m : Machine) (c : Call) (d : PlanCall) (is : plan_call m c ≡ Some d)
      → AnyCallTells s m c d is
  pub states : (s : ModelState) (m : Machine) → AnyStateTells s m
  pub literal : LiteralStatesTell
