use Rattle.std.proofs.Common.{◌∙◌, ap, map, sym, take_all}
use Rattle.toml.specs.View.{view}
use Rattle.plan_document.proofs.values.texts_in.Goals as goal

pub returns : goal.returns
returns c = sym (ap (map view) (take_all c.values.i c.args.values.now c.values-test.false)) ∙ c.values.invariant
