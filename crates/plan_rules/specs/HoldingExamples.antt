-- Who holds a zone after literal events, and after which the plant is stopped.
use Rattle.std.specs.Prelude.{ℕ, List, [], ◌∷◌}
use Rattle.plan_types.specs.declared.posture.Posture.TheVariants.{Closed, Moving}
use Rattle.plan_types.specs.declared.call.Call.TheVariants.{Claim, Give, Yield, Release, SetPose, Stop, Resume}
use Rattle.plan_types.specs.declared.answer.Refusal.TheVariants.{NotParty, Held, Shut}
use Rattle.plan_types.specs.declared.answer.Event.{Event}
use Rattle.plan_types.specs.Table.{watch}
use Rattle.plan_types.specs.Examples.{press_table, lift_table}
use Rattle.plan_rules.specs.declared.state.State.{State}
use Rattle.plan_rules.specs.History.{Holds, IsStopped}
use Rattle.plan_rules.specs.Examples.{did, refused, lift_start, lifting}
use Rattle.plan_rules.specs.OrderExamples.{free, open_outward, with_stop}

-- a machine holds the interior of the press
abbrev pub HoldsPress : State → List Event → ℕ → Type 0
HoldsPress s h m = Holds press_table s h m 0

pub record ZonesHeld : Type 0 where
  pub at_first : HoldsPress open_outward [] 1
  pub not_at_first : ¬ HoldsPress free [] 1
  pub claimed : HoldsPress free (did 1 (Claim 0) ∷ []) 1
  pub refused_claim : ¬ HoldsPress free (refused 0 (Claim 0) (Shut Closed) ∷ []) 0
  pub claimed_between : HoldsPress free
      (refused 0 (Claim 0) (Shut Closed) ∷ did 1 (Claim 0) ∷ refused 0 (Claim 0) (Held 1) ∷ []) 1
  pub yielded : HoldsPress open_outward (did 1 (Yield 0) ∷ []) 0
  pub lost_by_yield : ¬ HoldsPress open_outward (did 1 (Yield 0) ∷ []) 1
  pub given : HoldsPress open_outward (did 1 (Give 0) ∷ []) 0
  pub lost_by_give : ¬ HoldsPress open_outward (did 1 (Give 0) ∷ []) 1
  pub lost_by_release : ¬ HoldsPress open_outward (did 1 (Release 0) ∷ []) 1
  pub refused_release : HoldsPress open_outward (did 1 (SetPose 3) ∷ refused 1 (Release 0) (Shut Moving) ∷ []) 1
  pub claimed_again : HoldsPress open_outward (did 1 (Release 0) ∷ did 1 (Claim 0) ∷ []) 1
  pub lost_again : ¬ HoldsPress open_outward
      (did 1 (Release 0) ∷ did 0 (Claim 0) ∷ did 0 (Release 0) ∷ []) 0
  pub lift : Holds lift_table lift_start lifting 0 1
  pub upper_floor : ¬ Holds lift_table lift_start lifting 2 1

pub record PlantStopped : Type 0 where
  pub at_first : IsStopped (with_stop free) []
  pub not_at_first : ¬ IsStopped free []
  pub stopped : IsStopped free (did watch Stop ∷ [])
  pub resumed : ¬ IsStopped free (did watch Stop ∷ did watch Resume ∷ [])
  pub again : IsStopped free (did watch Stop ∷ did watch Resume ∷ did watch Stop ∷ [])
  pub refused_resume : IsStopped free (did watch Stop ∷ refused 1 Resume NotParty ∷ [])
  pub refused_stop : ¬ IsStopped free (refused 1 Stop NotParty ∷ [])
  pub resumed_at_first : ¬ IsStopped (with_stop free) (did watch Resume ∷ did 1 (Claim 0) ∷ [])
  pub others_go_on : IsStopped (with_stop open_outward) (did 1 (Yield 0) ∷ did 0 (Release 0) ∷ [])

pub record HoldingIsMet : Type 0 where
  pub zones : ZonesHeld
  pub stops : PlantStopped
