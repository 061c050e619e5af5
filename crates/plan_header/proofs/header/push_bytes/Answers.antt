use Rattle.plan_header.specs.Headers as spec
use Rattle.plan_header.proofs.lemmas.Lines.{one_more}
use Rattle.plan_header.proofs.header.push_bytes.Goals as goal

pub bytes-preserved : goal.bytes-preserved
bytes-preserved c = one_more (spec.byte_word c.args.bytes.now) _ _ _ c.bytes.at c.bytes.invariant c.in_ok-push_byte.ensures
