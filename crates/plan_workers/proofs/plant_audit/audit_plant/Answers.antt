use Rattle.std.proofs.Common.{map, arith}
use Rattle.plan_workers.proofs.PlantExplaining.{all_explained, first_unexplained, one_more_explained}
use Rattle.plan_workers.proofs.plant_audit.audit_plant.Goals as goal

pub returns-in-Err-clause-refused : goal.returns-in-Err-clause-refused
returns-in-Err-clause-refused c = λ other.
    first_unexplained c.args.words.now (map (λ history. history.items) c.loop-word.histories.items) c.loop-word.word c.index-words-word.result (omega (arith, c.loop-word-test.true)) c.loop-word.invariant c.index-words-word.is (c.in-Err.ensures.refused other)

pub loop-word-preserved : goal.loop-word-preserved
loop-word-preserved c =
    let found = c.in-Ok.ensures.found in
    one_more_explained c.args.words.now (map (λ history. history.items) c.loop-word.histories.items) (map (λ history. history.items) c.audit_into.new.histories.items) c.loop-word.word c.index-words-word.result found.0 (omega (arith, c.loop-word-test.true)) c.loop-word.invariant c.index-words-word.is found.1 found.2 found.3

pub returns-clause-ok : goal.returns-clause-ok
returns-clause-ok c =
    all_explained c.args.words.now (map (λ history. history.items) c.loop-word.histories.items) c.loop-word.word (omega (arith, c.loop-word-test.false, c.loop-word.auto.word-end)) c.loop-word.invariant
