use Rattle.std.proofs.Common.{◌≡◌, ◌∙◌, ◌++◌, ◌∷◌, [], ap, map, sym, subst, string_bytes}
use Rattle.std.proofs.lemmas.List.{map_push}
use Rattle.plan_document.specs.Names.{AreDistinct}
use Rattle.plan_document.proofs.Distinct.{distinct_more, new_among}
use Rattle.plan_document.proofs.sensors.add_identifier.Goals as goal

pub returns-clause-distinct : goal.returns-clause-distinct
returns-clause-distinct c =
    let taken = c.args.taken.now.items in
    let name = string_bytes c.args.name in
    let other =
    new_among taken c.deref.result.now name c.as_str.result.now c.is_among.result c.deref.ensures.value
    c.as_str.ensures.value c.is_among.ensures c.if-is_among.false in
    let pushed : map string_bytes c.push.new.self.items ≡ map string_bytes taken ++ name ∷ [] =
    ap (map string_bytes) c.in_ok-push.ensures.items ∙ map_push string_bytes taken c.args.name in
    λ all. subst AreDistinct (sym pushed) (distinct_more (map string_bytes taken) name other all)
