use Rattle.std.proofs.Common.{◌∙◌, ◌+◌, ◌∷◌, [], ap, sym, subst, length, length-append}
use Rattle.plan_app.specs.OnWords.{IsKeptBy}
use Rattle.plan_app.proofs.Keeping.{all_pushed}
use Rattle.plan_app.proofs.on_words.keepers_below.Goals as goal

pub loop-hazard-preserved : goal.loop-hazard-preserved
loop-hazard-preserved c = (
  ap length c.in_ok-push.ensures.items ∙ length-append c.loop-hazard.keepers.items (c.keeper_of.result ∷ []) ∙ ap (λ n. n + 1) c.loop-hazard.invariant.0,
  all_pushed (IsKeptBy c.args.plans.now) c.loop-hazard.keepers.items c.push.new.self.items c.keeper_of.result c.loop-hazard.invariant.1
      (subst (λ k. IsKeptBy c.args.plans.now k c.keeper_of.result) (sym c.loop-hazard.invariant.0) c.keeper_of.ensures)
      c.in_ok-push.ensures.items,
)
