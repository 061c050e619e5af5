-- Laws of what a document may say, by the rules of plans.
use Rattle.std.specs.Prelude.{◌≡◌, ◌≢◌, ◌<◌, ◌⊎◌, ℕ, Bool, Some, true, false, [], ◌∷◌, None, IsTrue}
use Rattle.plan_types.specs.declared.call.Call.{Call}
use Rattle.plan_types.specs.declared.call.Call.TheVariants.{Claim, Give, Yield, Take, Release, SetPose, Inquire, Stop}
use Rattle.plan_types.specs.declared.call.Call.TheVariants.{Resume, Advance}
use Rattle.plan_types.specs.declared.answer.Answer.TheVariants.{Done, Refused}
use Rattle.plan_types.specs.declared.answer.Refusal.TheVariants.{NotParty, NoPose}
use Rattle.plan_types.specs.declared.posture.Posture.{Posture}
use Rattle.plan_types.specs.declared.table.Transfer.{Transfer}
use Rattle.plan_types.specs.Table.{PlanTable, guest_of, host_of, machine_of, plan_table, pose_count, transfer_of}
use Rattle.plan_types.specs.Table.{zone_count}
use Rattle.plan_types.specs.Examples.{press_poses, way, zone}
use Rattle.plan_rules.specs.declared.state.State.{State}
use Rattle.plan_rules.specs.DoneLaws.{KeepsEnd}
use Rattle.plan_rules.specs.Reply.{reply}
use Rattle.plan_rules.specs.Sound.{IsSound}
use Rattle.plan_document.specs.Saying.{may_be_done}

-- a call that is refused as a line of a program is done in no sound state
abbrev pub RefusedLinesAreNeverDone : Type 0
RefusedLinesAreNeverDone =
    (t : PlanTable) (m : ℕ) (c : Call) → may_be_done t m c ≡ false → (s : State) → IsSound t s → reply t s m c ≢ Done

-- the calls that a line may make
abbrev pub is_line : Call → Bool
is_line (Inquire _) = false
is_line Stop = false
is_line Resume = false
is_line _ = true

-- a call that is accepted as a line is its machine's: no sound state refuses it for another reason than its own
abbrev pub AcceptedLinesAreTheirs : Type 0
AcceptedLinesAreTheirs =
    (t : PlanTable) (m : ℕ) (c : Call) → IsTrue (is_line c) → may_be_done t m c ≡ true → (s : State) → IsSound t s
    → (reply t s m c ≢ Refused NotParty) × (reply t s m c ≢ Refused NoPose)

-- a machine gives through a zone, or takes, if it is the giver, or the receiver, of a plate in some posture of the zone
abbrev pub GivesThrough : PlanTable → ℕ → ℕ → Type 0
GivesThrough t m z = (q : Posture) × (way : Transfer) × (transfer_of t z q ≡ Some way) × (way.giver ≡ m)

abbrev pub TakesThrough : PlanTable → ℕ → ℕ → Type 0
TakesThrough t m z = (q : Posture) × (way : Transfer) × (transfer_of t z q ≡ Some way) × (way.receiver ≡ m)

-- a machine has a zone of the plan, as its host or as its guest
abbrev pub HasZone : PlanTable → ℕ → ℕ → Type 0
HasZone t m z = (z < zone_count t) × ((host_of t z ≡ m) ⊎ (guest_of t z ≡ m))

-- what is so of a line that is accepted, and what is enough for it
pub record LinesHaveReasons (t : PlanTable) (m : ℕ) : Type 0 where
  pub claims : (z : ℕ) → may_be_done t m (Claim z) ≡ true → HasZone t m z
  pub yields : (z : ℕ) → may_be_done t m (Yield z) ≡ true → HasZone t m z
  pub releases : (z : ℕ) → may_be_done t m (Release z) ≡ true → HasZone t m z
  pub gives : (z : ℕ) → may_be_done t m (Give z) ≡ true → GivesThrough t m z
  pub takes : (z : ℕ) → may_be_done t m (Take z) ≡ true → TakesThrough t m z
  pub advances : (p : ℕ) → may_be_done t m (Advance p) ≡ true → KeepsEnd t m p
  pub may_advance : (p : ℕ) → KeepsEnd t m p → may_be_done t m (Advance p) ≡ true
  pub poses : (p : ℕ) → may_be_done t m (SetPose p) ≡ true → (p < pose_count t) × (machine_of t p ≡ m)
  pub may_claim : (z : ℕ) → HasZone t m z → may_be_done t m (Claim z) ≡ true
  pub may_yield : (z : ℕ) → HasZone t m z → may_be_done t m (Yield z) ≡ true
  pub may_release : (z : ℕ) → HasZone t m z → may_be_done t m (Release z) ≡ true
  pub may_give : (z : ℕ) → GivesThrough t m z → may_be_done t m (Give z) ≡ true
  pub may_take : (z : ℕ) → TakesThrough t m z → may_be_done t m (Take z) ≡ true
  pub may_pose : (p : ℕ) → p < pose_count t → machine_of t p ≡ m → may_be_done t m (SetPose p) ≡ true
  pub may_inquire : (z : ℕ) → may_be_done t m (Inquire z) ≡ true
  pub may_stop : may_be_done t m Stop ≡ true
  pub may_resume : may_be_done t m Resume ≡ true

abbrev pub AcceptedLinesHaveReasons : Type 0
AcceptedLinesHaveReasons = (t : PlanTable) (m : ℕ) → LinesHaveReasons t m

-- a loader (0) that gives plates to a press (1), or takes them from it, and a bystander (2)
abbrev pub loaded : PlanTable
loaded = plan_table 3 (zone 1 0 (way 0 1) None ∷ []) press_poses (0 ∷ 1 ∷ [])

abbrev pub unloaded : PlanTable
unloaded = plan_table 3 (zone 1 0 None (way 1 0) ∷ []) press_poses (0 ∷ 1 ∷ [])

-- which lines of the three are accepted
pub record LinesAreJudged : Type 0 where
  pub guest_gives : may_be_done loaded 0 (Give 0) ≡ true
  pub host_takes : may_be_done loaded 1 (Take 0) ≡ true
  pub guest_takes_nothing : may_be_done loaded 0 (Take 0) ≡ false
  pub host_gives_nothing : may_be_done loaded 1 (Give 0) ≡ false
  pub host_gives : may_be_done unloaded 1 (Give 0) ≡ true
  pub guest_takes : may_be_done unloaded 0 (Take 0) ≡ true
  pub host_takes_nothing : may_be_done unloaded 1 (Take 0) ≡ false
  pub guest_gives_nothing : may_be_done unloaded 0 (Give 0) ≡ false
  pub guest_claims : may_be_done loaded 0 (Claim 0) ≡ true
  pub host_yields : may_be_done loaded 1 (Yield 0) ≡ true
  pub bystander_claims : may_be_done loaded 2 (Claim 0) ≡ false
  pub bystander_yields : may_be_done loaded 2 (Yield 0) ≡ false
  pub bystander_releases : may_be_done loaded 2 (Release 0) ≡ false
  pub no_zone : may_be_done loaded 1 (Claim 1) ≡ false
  pub own_pose : may_be_done loaded 1 (SetPose 3) ≡ true
  pub others_pose : may_be_done loaded 0 (SetPose 3) ≡ false
  pub no_pose : may_be_done loaded 1 (SetPose 4) ≡ false
