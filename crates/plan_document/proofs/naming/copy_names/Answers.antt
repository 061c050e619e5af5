use Rattle.std.proofs.Common.{◌∙◌, arith}
use Rattle.plan_document.proofs.Parted.{names_more}
use Rattle.plan_document.proofs.naming.copy_names.Goals as goal

pub names-preserved : goal.names-preserved
names-preserved c = c.in_ok-push_name_at.ensures ∙ names_more c.args.names.now c.names.copies c.names.number (omega arith) c.names.invariant
