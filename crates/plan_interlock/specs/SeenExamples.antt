-- What no pass sees, and what doesn't last, of two machines at a press.
use Rattle.std.specs.Prelude.{[], ◌∷◌}
use Rattle.plan_types.specs.declared.call.Call.TheVariants.{Claim, SetPose}
use Rattle.plan_types.specs.Examples.{press_table}
use Rattle.plan_rules.specs.Laws.{done}
use Rattle.plan_rules.specs.OrderExamples.{free}
use Rattle.plan_interlock.specs.Laws.{SeesLaws, Lasts}

pub record SeenExamples : Type 0 where
  -- the loader claims a zone that is shut to it
  pub laws : ¬ SeesLaws press_table free (done 0 (Claim 0) ∷ [])
  -- what was seen isn't lost, and a machine makes none of the calls before its own
  pub is : ¬ Lasts press_table free 1 (done 1 (Claim 0) ∷ []) []
  pub foreign : ¬ Lasts press_table free 1 [] (done 1 (Claim 0) ∷ [])
  -- the loader moves the press
  pub right : ¬ Lasts press_table free 2 [] (done 0 (SetPose 3) ∷ [])
