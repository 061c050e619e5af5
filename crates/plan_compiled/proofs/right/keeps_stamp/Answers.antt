use Rattle.std.proofs.Common.{sym, ap, ◌∙◌, arith}
use Rattle.plan_compiled.specs.declared.part.Part.{Part}
use Rattle.plan_compiled.proofs.Words.{within_width}
use Rattle.plan_compiled.proofs.right.keeps_stamp.Goals as goal

pub returns-then-own-eq0 : goal.returns-then-own-eq0
returns-then-own-eq0 c = λ e. record {
  kept = ap (λ (p : Part). p.keep) (sym c.of_field-own.ensures) ∙ c.if-own-eq0.true.0;
  unset = ap (λ (p : Part). p.set) (sym c.of_field-own.ensures) ∙ c.if-own-eq0.true.1;
  within = within_width c.args.part.now.set c.width.result _ c.width.ensures.width (omega arith) e;
}
