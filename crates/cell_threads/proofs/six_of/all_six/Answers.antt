use Rattle.std.proofs.Common.{◌≡◌, ◌∙◌, sym, ap, Option, Some, None}
use Rattle.std.specs.Option.{option_zip}
use Rattle.cell_threads.proofs.six_of.all_six.Goals as goal

-- if there is a pair, there are both parts of it
both : {A B : Type 0} → (a : Option A) (b : Option B) (x : A) (y : B) → option_zip a b ≡ Some (x, y) → (a ≡ Some x) × (b ≡ Some y)
both None b x y e = cc
both (Some a) None x y e = cc
both {A = A} {B = B} (Some a) (Some b) x y e = let same : (a, b) ≡ (x, y) = cc in (ap (λ (p : A × B). Some p.0) same, ap (λ (p : A × B). Some p.1) same)

pub returns : goal.returns
returns g c =
    let all = both c.zip.result c.zip-arms.result _ _ (sym c.zip-2.ensures ∙ c.in_ok-feed.was) in
    let first = both c.zip-belts.result c.zip-tables.result _ _ (sym c.zip.ensures ∙ all.0) in
    let belts = both c.args.each.feed c.args.each.deposit _ _ (sym c.zip-belts.ensures ∙ first.0) in
    let tables = both c.args.each.table c.args.each.press _ _ (sym c.zip-tables.ensures ∙ first.1) in
    let arms = both c.args.each.robot c.args.each.crane _ _ (sym c.zip-arms.ensures ∙ all.1) in
    record { feed = belts.0; table = tables.0; robot = arms.0; press = tables.1; deposit = belts.1; crane = arms.1 }
