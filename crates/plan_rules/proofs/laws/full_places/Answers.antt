use Rattle.std.proofs.Common.{ltb-true}
use Rattle.std.proofs.lemmas.Bool.{lt-ltb}
use Rattle.plan_rules.proofs.FullPlaces.{filled_by, counts_plate}
use Rattle.plan_rules.proofs.laws.full_places.Goals as goal

pub returns : goal.returns
returns c = record {
  plates = λ t s p. (filled_by t s p, counts_plate t s p);
  refused = λ t s p. (λ e. filled_by t s p (ltb-true _ _ e), λ has. lt-ltb _ _ (counts_plate t s p has));
  cause = λ t s p. (λ e. filled_by t s p (ltb-true _ _ e), λ has. lt-ltb _ _ (counts_plate t s p has));
}
