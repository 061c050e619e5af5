use Rattle.std.proofs.Common.{◌∙◌, ap, sym}
use Rattle.toml.specs.Data.{string}
use Rattle.toml.specs.View.{view}
use Rattle.plan_document.proofs.Written.{string_is}
use Rattle.plan_document.proofs.values.both_of.Goals as goal

pub returns : goal.returns
returns c = record {
  first = string_is (view c.args.first.now) c.in-Some.first.now (sym c.in-Some.ensures) ∙ ap string (sym c.in_ok-first.ensures);
  second = string_is (view c.args.second.now) c.in-Some-as_str.second.now (sym c.in-Some-as_str.ensures) ∙ ap string (sym c.in_ok-second.ensures);
}
