use Rattle.std.proofs.Common.{◌≡◌, List, [], ◌∷◌, ◌++◌, refl, sym, subst, arith}
use Rattle.plan_types.specs.declared.posture.Posture.TheVariants.{Closed, Moving}
use Rattle.plan_types.specs.declared.call.Call.TheVariants.{Claim}
use Rattle.plan_types.specs.declared.answer.Event.{Event}
use Rattle.plan_types.specs.Examples.{press_table}
use Rattle.plan_rules.specs.History.{own_events}
use Rattle.plan_rules.specs.Laws.{done, RightLasts}
use Rattle.plan_rules.specs.OrderExamples.{free}
use Rattle.plan_interlock.proofs.laws.seen_examples_are_right.Goals as goal

pub returns : goal.returns
returns c = record {
  laws = λ seen. let e : 7 ≡ 8 = (seen.laws (done 0 (Claim 0) ∷ []) [] refl).stamp_counts_changes in absurd (omega arith);
  is = λ lasts. let e : ◌≡◌ {A = List Event} [] ((done 1 (Claim 0) ∷ []) ++ lasts.more) = lasts.is in cc;
  foreign = λ lasts. let e : done 1 (Claim 0) ∷ [] ≡ [] = subst (λ (h : List Event). own_events h 1 ≡ []) (sym lasts.is) lasts.foreign in cc;
  right = λ lasts. let e : Moving ≡ Closed = (subst (λ (h : List Event). RightLasts press_table free [] h) (sym lasts.is) lasts.right).posture 0 (omega arith) refl in cc;
}
