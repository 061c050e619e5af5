-- Of which answers `plan explore` ends with status 1, one by one.
use Rattle.std.specs.Prelude.{◌≡◌, true, false, [], ◌∷◌, codes}
use Rattle.graph_progress.specs.declared.answer.Reason.{Reason}
use Rattle.plan_types.specs.Table.{PlanTable}
use Rattle.plan_liveness.specs.declared.answer.FairOrder.{FairOrder}
use Rattle.plan_liveness.specs.declared.answer.Liveness.{Liveness}
use Rattle.plan_liveness.specs.declared.answer.Liveness.TheVariants.{Silent, Always, IfOne, IfAll, IfTwo}
use Rattle.plan_liveness.specs.declared.answer.Liveness.TheVariants.{Starves, Unknown}
use Rattle.plan_liveness.specs.declared.answer.Progress.{Progress}
use Rattle.plan_liveness.specs.declared.answer.Progress.TheVariants as progress
use Rattle.plan_text.specs.Named.{Named, named}
use Rattle.plan_app.specs.Starving.{any_starves}
use Rattle.plan_app.specs.WordExamples.{relay, three, within}

-- of a plan whose machines are a lift and a cart, with two places
abbrev pub with_places : PlanTable → Named
with_places plan = named plan (codes "lift" ∷ codes "cart" ∷ []) [] (codes "shelf" ∷ codes "bed" ∷ []) []

-- plates that move for ever
abbrev pub moving : Progress
moving = progress.Within (within 6 0)

-- a machine that goes on in each fair order
abbrev pub going : Liveness
going = Always (within 7 0)

pub record StarvingIsKnown : Type 0 where
  -- all go on: status 0
  pub all_go_on : (t : PlanTable) → any_starves (with_places t) (going ∷ going ∷ []) moving ≡ false
  -- so it is where a machine asks nothing, or it isn't known of one
  pub silent : (t : PlanTable) → any_starves (with_places t) (Silent ∷ going ∷ []) moving ≡ false
  pub unknown : (t : PlanTable) (reason : Reason)
      → any_starves (with_places t) (going ∷ Unknown reason ∷ []) (progress.Unknown reason) ≡ false
  -- the first or the last machine starves in a fair order that is shown, whatever would help it: status 1
  pub if_it : (t : PlanTable) (order : FairOrder)
      → any_starves (with_places t) (IfOne 0 (within 3 3) order ∷ going ∷ []) moving ≡ true
  pub if_other : (t : PlanTable) (order : FairOrder)
      → any_starves (with_places t) (going ∷ IfOne 0 (within 3 1) order ∷ []) moving ≡ true
  pub if_all : (t : PlanTable) (order : FairOrder)
      → any_starves (with_places t) (going ∷ IfAll (within 12 0) order ∷ []) moving ≡ true
  pub if_two : (t : PlanTable) (order : FairOrder)
      → any_starves (with_places t) (going ∷ IfTwo (relay 0 1) order ∷ []) moving ≡ true
  pub starves : (t : PlanTable) (order : FairOrder)
      → any_starves (with_places t) (going ∷ Starves order ∷ []) moving ≡ true
  -- also where it isn't known of another one
  pub beside_unknown : (t : PlanTable) (reason : Reason) (order : FairOrder)
      → any_starves (with_places t) (Unknown reason ∷ Starves order ∷ []) (progress.Unknown reason) ≡ true
  -- machines go on, and plates may rest
  pub rest : (t : PlanTable) (order : FairOrder)
      → any_starves (with_places t) (going ∷ going ∷ []) (progress.Starves order) ≡ true
  -- a plan without places has no plates, so none rests
  pub no_places : (t : PlanTable) (order : FairOrder)
      → any_starves (three t) (going ∷ going ∷ going ∷ []) (progress.Starves order) ≡ false
