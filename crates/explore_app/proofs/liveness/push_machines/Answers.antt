use Rattle.std.proofs.Common.{◌≡◌, ◌++◌, OnOk, string_bytes, sym, subst}
use Rattle.explore_app.specs.declared.liveness.Liveness.{Liveness}
use Rattle.explore_app.specs.Liveness.{machines_line}
use Rattle.explore_app.proofs.liveness.push_machines.Goals as goal

pub returns-in-Within : goal.returns-in-Within
unfolding machines_line
returns-in-Within c =
    subst (λ (l : Liveness). OnOk c.push_within.result (string_bytes c.push_within.new.text ≡ string_bytes c.args.text.now ++ machines_line l)) (sym c.in-Within.is) c.push_within.ensures

pub returns-in-Starves : goal.returns-in-Starves
unfolding machines_line
returns-in-Starves c =
    subst (λ (l : Liveness). OnOk c.push_text.result (string_bytes c.push_text.new.text ≡ string_bytes c.args.text.now ++ machines_line l)) (sym c.in-Starves.is) c.push_text.ensures

pub returns-in-Unknown : goal.returns-in-Unknown
unfolding machines_line
returns-in-Unknown c =
    subst (λ (l : Liveness). OnOk c.push_text-in-Unknown.result (string_bytes c.push_text-in-Unknown.new.text ≡ string_bytes c.args.text.now ++ machines_line l)) (sym c.in-Unknown.is) c.push_text-in-Unknown.ensures
