use Rattle.std.proofs.Common.{◌∙◌, ◌≢◌, arith, length-set, get_or-set_other, below_more}
use Rattle.std.proofs.lemmas.Grind.{get_or-set_at}
use Rattle.cell_config.proofs.schedules.ascii_turns.Goals as goal

pub loop-code-preserved : goal.loop-code-preserved
loop-code-preserved c = record {
  codes = length-set c.loop-code.turns _ _ ∙ c.loop-code.invariant.codes;
  turns =
      below_more _ _
      (λ k h. let other : k ≢ c.from.result = omega arith in rw get_or-set_other (c.loop-code.invariant.turns k h))
      (get_or-set_at c.loop-code.turns c.from.result c.loop-code.code _ _ (omega arith) (omega arith) ∙ c.turn_of.ensures);
}
