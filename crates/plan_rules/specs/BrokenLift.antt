-- The laws can be broken at another zone than the first, too: the upper zone of a lift that is stopped, with a plate in
-- the zone.
use Rattle.std.specs.Prelude.{ℕ, Bool, true, false, [], ◌∷◌, Some}
use Rattle.plan_types.specs.declared.posture.Posture.TheVariants.{Closed, Moving, OpenIn, OpenOut}
use Rattle.plan_types.specs.declared.call.Call.TheVariants.{Claim, Give, Yield, Take, Release, SetPose}
use Rattle.plan_types.specs.Examples.{lift_table}
use Rattle.plan_rules.specs.declared.state.ZoneState.{ZoneState}
use Rattle.plan_rules.specs.declared.state.State.{State}
use Rattle.plan_rules.specs.Laws.{done, OneHolder, MoverIsHost, GuestOnlyWhileOpen, PlatesAreKept, StampCountsChanges}
use Rattle.plan_rules.specs.Laws.{RightLasts, PostureByEvents, StaysSound, PosesFit, HandoverByHolder}
use Rattle.plan_rules.specs.Laws.{StoppedUntilResumed}
use Rattle.plan_rules.specs.OrderExamples.{interior, with_stop}
use Rattle.plan_rules.specs.StateExamples.{lift_state, lower, upper}

-- the lift is stopped: its upper zone, and whether the lift has a plate
abbrev pub halted : ZoneState → Bool → State
halted zone lift = with_stop (lift_state lower zone lift true 9)

-- a plate comes to the lift, whose zone this machine owns
abbrev pub inward : ℕ → ZoneState
inward owner = interior (Some owner) OpenIn true

pub record LiftBroken : Type 0 where
  pub party : ¬ OneHolder lift_table (halted (interior (Some 1) OpenOut true) true) []
  pub owner : ¬ OneHolder lift_table (halted (inward 0) true) (done 2 (Claim 1) ∷ [])
  pub moves : ¬ MoverIsHost lift_table (halted (interior (Some 2) Moving true) true) []
  pub changes : ¬ MoverIsHost lift_table (halted (interior (Some 2) Moving true) true) (done 2 (SetPose 2) ∷ [])
  pub guest : ¬ GuestOnlyWhileOpen lift_table (halted (interior (Some 2) Closed true) true) []
  pub plates : ¬ PlatesAreKept lift_table (halted (inward 0) true) (done 0 (Take 1) ∷ [])
  pub stamp : ¬ StampCountsChanges lift_table (halted upper true) (done 0 (Claim 1) ∷ [])
  pub by_events : ¬ PostureByEvents lift_table (halted upper true) (done 0 (SetPose 1) ∷ [])
  pub sound : ¬ StaysSound lift_table (halted (interior (Some 1) OpenOut true) true) []
  pub right_to_zone : ¬ RightLasts lift_table (halted (inward 0) true) (done 2 (Claim 1) ∷ []) (done 0 (Take 1) ∷ [])
  pub right_to_place : ¬ RightLasts lift_table (halted (inward 2) false) [] (done 2 (Take 1) ∷ [])
  pub right_to_posture : ¬ RightLasts lift_table (halted upper true) [] (done 2 (SetPose 1) ∷ [])
  pub own_pose : ¬ PosesFit lift_table (halted upper true) (done 2 (SetPose 2) ∷ [])
  pub no_jump : ¬ PosesFit lift_table (halted (inward 0) true) (done 0 (SetPose 2) ∷ [])
  pub all_held : ¬ PosesFit lift_table (halted upper true) (done 0 (SetPose 0) ∷ [])
  pub all_clear : ¬ PosesFit lift_table (halted (inward 0) true) (done 0 (SetPose 0) ∷ [])
  pub opens_onto_empty : ¬ PosesFit lift_table (halted upper true) (done 0 (SetPose 4) ∷ [])
  pub give : ¬ HandoverByHolder lift_table (halted upper true) (done 0 (Give 1) ∷ [])
  pub yield : ¬ HandoverByHolder lift_table (halted upper true) (done 0 (Yield 1) ∷ [])
  pub take : ¬ HandoverByHolder lift_table (halted upper true) (done 0 (Take 1) ∷ [])
  pub release : ¬ HandoverByHolder lift_table (halted upper true) (done 0 (Release 1) ∷ [])
  pub barred_give : ¬ StoppedUntilResumed lift_table (halted upper true) (done 2 (Give 1) ∷ [])
  pub barred_pose : ¬ StoppedUntilResumed lift_table (halted upper true) (done 0 (SetPose 0) ∷ [])
  pub stands : ¬ StoppedUntilResumed lift_table (halted upper true) (done 0 (SetPose 0) ∷ [])
