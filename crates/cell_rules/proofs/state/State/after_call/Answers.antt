use Rattle.cell_rules.proofs.Names.{IsSound, ModelState, subst, ap}
use Rattle.cell_rules.proofs.lemmas.Soundness.{changed_stays}
use Rattle.cell_rules.proofs.state.State.after_call.Goals as goal

pub invariant_of-result : goal.invariant_of-result
invariant_of-result c =
    changed_stays c.args.self.now c.args.machine c.args.call _ _ _ _ (subst IsSound c.self.view_is c.self.invariant) c.requires c.zones_after.ensures c.places_after.ensures (ap (λ (s : ModelState). s.stamp) c.self.view_is) c.stopped_after.ensures
