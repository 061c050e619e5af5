use Rattle.std.proofs.Common.{◌≡◌, None, rules, sym, subst, string_bytes}
use Rattle.plan_text.specs.Names.{number_in}
use Rattle.plan_document.specs.Names.{AreDistinct}
use Rattle.plan_document.proofs.Distinct.{distinct_more}
use Rattle.plan_document.proofs.tables.add_identifier.Goals as goal

pub returns-clause-distinct : goal.returns-clause-distinct
returns-clause-distinct c =
    let other : number_in c.args.names.now (string_bytes c.args.name) ≡ None = search rules in
    λ all. subst AreDistinct (sym c.in_ok-push.ensures) (distinct_more c.args.names.now (string_bytes c.args.name) other all)
