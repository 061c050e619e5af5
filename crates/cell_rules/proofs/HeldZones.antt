-- Who holds a zone by the events, computed event by event.
use Rattle.cell_rules.proofs.Names.{Bool, ◌&&◌, ◌||◌, not, List, [], ◌∷◌, Machine, Zone, Event, ModelState, owns, is_gain, is_loss}

-- whether a machine holds a zone after a history: it held it before, or gained it, and hasn't lost it since
abbrev pub holds_since : Bool → List Event → Machine → Zone → Bool
holds_since held [] m z = held
holds_since held (e ∷ history) m z = holds_since (is_gain e m z || (held && not (is_loss e m z))) history m z

abbrev pub holds : ModelState → List Event → Machine → Zone → Bool
holds s history m z = holds_since (owns s m z) history m z
