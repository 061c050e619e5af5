use Rattle.std.proofs.Common.{◌≡◌, arith}
use Rattle.std.proofs.lemmas.Grind.{common_steps}
use Rattle.explore_app.proofs.schedule.is_same_answer.Goals as goal

pub returns-in-Refused-Refused : goal.returns-in-Refused-Refused
returns-in-Refused-Refused c =
    let same = c.is_same_refusal.ensures in
    (λ yes. let e : c.in-Refused-Refused.a ≡ c.in-Refused-Refused.b = same.0 yes in cc, λ e. same.1 (cc))

pub returns-in_default : goal.returns-in_default
returns-in_default c = grind (arith, common_steps)
