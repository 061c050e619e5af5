use Rattle.std.proofs.Common.{◌≡◌, ◌∙◌, ◌++◌, ◌∷◌, [], ap, subst, sym}
use Rattle.plan_document.specs.Names.{AreDistinct}
use Rattle.plan_document.proofs.Distinct.{distinct_more}
use Rattle.plan_document.proofs.tables.push_name.Goals as goal

pub returns-clause-distinct : goal.returns-clause-distinct
returns-clause-distinct c =
    let pushed : c.push.new.self ≡ c.args.names.now ++ c.args.name.now ∷ [] = c.in_ok-push.ensures ∙ ap (λ text. c.args.names.now ++ text ∷ []) c.in_ok-name.ensures in
    λ new all. subst AreDistinct (sym pushed) (distinct_more c.args.names.now c.args.name.now new all)
