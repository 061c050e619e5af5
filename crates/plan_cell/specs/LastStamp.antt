-- What the laws of refusals say of the cell's plan, of any state with the last stamp: what would be done, were stamps
-- left, is refused as Worn. Machine 3 is the press, which hosts zone 2; 2 is the robot, its guest; 30 is the watch.
-- Pose 3 of the press moves zone 2.
use Rattle.std.specs.Prelude.{◌≡◌, ◌≢◌, ℕ, true, false, Some, None}
use Rattle.plan_types.specs.declared.posture.Posture.TheVariants.{Closed, OpenIn}
use Rattle.plan_types.specs.declared.call.Call.{Call}
use Rattle.plan_types.specs.declared.call.Call.TheVariants.{Claim, Give, Yield, Take, Release, SetPose, Inquire, Stop}
use Rattle.plan_types.specs.declared.call.Call.TheVariants.{Resume}
use Rattle.plan_types.specs.declared.answer.Refusal.TheVariants.{NotParty, Stopped, NoPose, Worn}
use Rattle.plan_types.specs.declared.answer.Answer.{Answer}
use Rattle.plan_types.specs.declared.answer.Answer.TheVariants.{Refused}
use Rattle.plan_rules.specs.declared.state.State.{State}
use Rattle.plan_rules.specs.State.{zone_at, owner_of, posture_at, is_full, plates_for}
use Rattle.plan_rules.specs.Reply.{reply}
use Rattle.plan_rules.specs.RefusedLaws.{CallsAreRefusedExactly}
use Rattle.plan_rules.specs.PoseLaws.{PosesAreRefusedExactly}
use Rattle.plan_cell.specs.CellPlan.{cell_table}

abbrev pub answer : State → ℕ → Call → Answer
answer s m c = reply cell_table s m c

-- a machine owns zone 2, and no plate is in it
abbrev pub OwnsEmpty : State → ℕ → Type 0
OwnsEmpty s m = (owner_of s 2 ≡ Some m) × ((zone_at s 2).flag ≡ false)

-- the robot may give a plate to the press
abbrev pub HasRoom : State → Type 0
HasRoom s = (posture_at s 2 ≡ OpenIn) × (is_full s 3 ≡ true) × (plates_for cell_table s 4 ≡ 0)

pub record LastStampTells (s : State) (last : s.stamp ≡ 1048575) : Type 0 where
  pub claim : CallsAreRefusedExactly → s.stopped ≡ false → owner_of s 2 ≡ None → answer s 3 (Claim 2) ≡ Refused Worn
  pub guest : CallsAreRefusedExactly → s.stopped ≡ false → owner_of s 2 ≡ None → posture_at s 2 ≡ OpenIn
      → answer s 2 (Claim 2) ≡ Refused Worn
  pub give : CallsAreRefusedExactly → s.stopped ≡ false → OwnsEmpty s 2 → HasRoom s
      → answer s 2 (Give 2) ≡ Refused Worn
  pub yield : CallsAreRefusedExactly → OwnsEmpty s 3 → posture_at s 2 ≡ OpenIn → answer s 3 (Yield 2) ≡ Refused Worn
  pub take : CallsAreRefusedExactly → owner_of s 2 ≡ Some 3 → (zone_at s 2).flag ≡ true
      → answer s 3 (Take 2) ≡ Refused Worn
  pub release : CallsAreRefusedExactly → OwnsEmpty s 3 → posture_at s 2 ≡ Closed → answer s 3 (Release 2) ≡ Refused Worn
  pub stop : CallsAreRefusedExactly → s.stopped ≡ false → answer s 30 Stop ≡ Refused Worn
  pub resume : CallsAreRefusedExactly → s.stopped ≡ true → answer s 30 Resume ≡ Refused Worn
  pub pose : PosesAreRefusedExactly → s.stopped ≡ false → OwnsEmpty s 3 → answer s 3 (SetPose 3) ≡ Refused Worn
  -- inquiries need no stamp; and other refusals come first
  pub inquire : (m : ℕ) → CallsAreRefusedExactly → answer s m (Inquire 2) ≢ Refused Worn
  pub no_zone : (m : ℕ) → CallsAreRefusedExactly → answer s m (Inquire 6) ≡ Refused NotParty
  pub stopped_claim : CallsAreRefusedExactly → s.stopped ≡ true → answer s 3 (Claim 2) ≡ Refused Stopped
  pub stopped_pose : PosesAreRefusedExactly → s.stopped ≡ true → answer s 3 (SetPose 3) ≡ Refused Stopped
  pub no_pose : (m : ℕ) → PosesAreRefusedExactly → m ≢ 3 → answer s m (SetPose 3) ≡ Refused NoPose
