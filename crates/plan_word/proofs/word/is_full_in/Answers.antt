use Rattle.std.proofs.Common.{◌∙◌, arith, rules}
use Rattle.plan_word.proofs.Seen.{place_in}
use Rattle.plan_word.proofs.word.is_full_in.Goals as goal

pub returns-then-place-place_count-clause-bit : goal.returns-then-place-place_count-clause-bit
returns-then-place-place_count-clause-bit c = search rules

pub returns-then-place-place_count-clause-state : goal.returns-then-place-place_count-clause-state
returns-then-place-place_count-clause-state c =
    returns-then-place-place_count-clause-bit c ∙ place_in c.args.plan.now c.args.word c.args.place (omega (arith, c.place_count.ensures.count, c.place_count.ensures.few))

pub returns-else-place-place_count-clause-bit : goal.returns-else-place-place_count-clause-bit
returns-else-place-place_count-clause-bit c = search rules

pub returns-else-place-place_count-clause-state : goal.returns-else-place-place_count-clause-state
returns-else-place-place_count-clause-state c =
    returns-else-place-place_count-clause-bit c ∙ place_in c.args.plan.now c.args.word c.args.place (omega (arith, c.place_count.ensures.count, c.place_count.ensures.few))
