use Rattle.std.proofs.Common.{◌≡◌, ◌≢◌, ◌∙◌, true, false, not, sym, ap, subst}
use Rattle.std.proofs.lemmas.Bool.{eq-eqb}
use Rattle.plan_rules.proofs.lemmas.Puts.{nat_eq-apart}
use Rattle.plan_c.proofs.Resuming.{by_number, numbered}
use Rattle.plan_c.proofs.resume.is_stop.Goals as goal

apart : false ≡ true → ⊥
apart e = cc

pub returns-then-number-le15 : goal.returns-then-number-le15
returns-then-number-le15 c =
    let n = c.args.number in (
      λ other. by_number n c.if-number-le15.true (λ e. apart (sym (ap not (eq-eqb n 11 e)) ∙ other)),
      λ stop. ap not (nat_eq-apart n 11 (subst (λ k. k ≢ 11) (sym stop.1) (numbered stop.0).1)),
    )
