use Rattle.std.proofs.Common.{◌≡◌, ◌++◌, Option, OnOk, string_bytes, sym, subst}
use Rattle.explore_app.specs.declared.bound.Bound.{Bound}
use Rattle.explore_app.specs.Starving.{weak_line}
use Rattle.explore_app.proofs.starve.push_weak_line.Goals as goal

pub returns-in-Some : goal.returns-in-Some
unfolding weak_line
returns-in-Some c =
    subst (λ (b : Option Bound). OnOk c.push_within.result (string_bytes c.push_within.new.text ≡ string_bytes c.args.text.now ++ weak_line b)) (sym c.in-Some.is) c.push_within.ensures

pub returns-in-None : goal.returns-in-None
unfolding weak_line
returns-in-None c =
    subst (λ (b : Option Bound). OnOk c.push_text.result (string_bytes c.push_text.new.text ≡ string_bytes c.args.text.now ++ weak_line b)) (sym c.in-None.is) c.push_text.ensures
