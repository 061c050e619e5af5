use Rattle.std.proofs.Common.{arith}
use Rattle.plan_picture.specs.Elements.{escaped_byte}
use Rattle.plan_picture.proofs.lemmas.Bytes.{one_byte_more}
use Rattle.plan_picture.proofs.elements.push_escaped_bytes.Goals as goal

pub bytes-preserved : goal.bytes-preserved
bytes-preserved c =
    one_byte_more escaped_byte _ _ _ c.args.bytes.now c.bytes.at (omega arith) c.bytes.invariant c.in_ok-push_escaped_at.ensures
