use Rattle.std.proofs.Common.{sym, ap, ◌∙◌, arith}
use Rattle.plan_compiled.specs.declared.part.Part.{Part}
use Rattle.plan_compiled.proofs.Words.{within_width}
use Rattle.plan_compiled.proofs.covering.looks_at_fields.Goals as goal

pub returns-then-own-eq0 : goal.returns-then-own-eq0
returns-then-own-eq0 c = λ e. record {
  mask = ap (λ (p : Part). p.mask) (sym c.of_field-own.ensures) ∙ c.if-own-ne0.false;
  wanted = ap (λ (p : Part). p.wanted) (sym c.of_field-own.ensures) ∙ c.if-own-eq0.true;
  within = within_width c.args.part.now.wanted c.width.result _ c.width.ensures.width (omega arith) e;
}
