use Rattle.std.proofs.Common.{◌∙◌, sym, arith, get_or, ne_eqb, eq-eqb}
use Rattle.plan_document.proofs.LineWords.{word_more, word_stops, word_ends}
use Rattle.plan_document.proofs.naming.first_word.Goals as goal
use Rattle.plan_document.proofs.naming.first_word.Goals.{then-bytes-test+else-text-end-ne32, else-bytes-test}

pub bytes-preserved : goal.bytes-preserved
bytes-preserved c = (omega arith, word_more c.args.text.now c.bytes.end (omega arith) (ne_eqb (get_or c.args.text.now c.bytes.end 0) 32 c.if-text-end-ne32.true) ∙ c.bytes.invariant.1)

pub returns : goal.returns
returns c = elim c.bytes-test.branch [
  | then-bytes-test+else-text-end-ne32 w ↦ sym (word_stops c.args.text.now c.bytes.end (omega arith) (eq-eqb (get_or c.args.text.now c.bytes.end 0) 32 w.if-text-end-ne32.false)) ∙ c.bytes.invariant.1
  | else-bytes-test w ↦ sym (word_ends c.args.text.now c.bytes.end (omega arith)) ∙ c.bytes.invariant.1
]
