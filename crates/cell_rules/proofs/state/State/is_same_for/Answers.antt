use Rattle.cell_rules.proofs.lemmas.Restamps.{same_if_places, not_same}
use Rattle.cell_rules.proofs.state.State.is_same_for.Goals as goal

pub returns-then-has_same_zones : goal.returns-then-has_same_zones
returns-then-has_same_zones c = same_if_places _ _ _ _ _ c.has_same_zones.ensures c.has_same_places.ensures c.if-has_same_zones.true

pub returns-else-has_same_zones : goal.returns-else-has_same_zones
returns-else-has_same_zones c = not_same _ _ _ _ c.has_same_zones.ensures c.if-has_same_zones.false
