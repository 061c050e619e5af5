use Rattle.std.proofs.Common.{◌≡◌, map, take}
use Rattle.toml.specs.View.{view}
use Rattle.plan_document.specs.Reading.{written}
use Rattle.plan_document.proofs.values.texts_in.Given as goal

abbrev pub invariant-values : goal.invariant-values
invariant-values l = map view (take l.i l.values) ≡ map written l.texts.items
