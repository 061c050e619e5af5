use Rattle.std.proofs.lemmas.Option.{IfSome_then}
use Rattle.plan_document.specs.Reading.{IsPlanIn}
use Rattle.plan_document.proofs.Written.{read_whole}
use Rattle.plan_document.proofs.reading.read_plan.Goals as goal

pub returns-in-Ok-clause-plan : goal.returns-in-Ok-clause-plan
returns-in-Ok-clause-plan g c =
    IfSome_then (g.R.Read.remaining c.args.reader.now) c.in-Ok.ensures.bytes
    (λ read is. read_whole c.plan_of.result IsPlanIn c.in-Ok.bytes.items read is (rw c.as_slice.ensures.value at c.plan_of.ensures.short) (rw c.as_slice.ensures.value at c.plan_of.ensures.plan))
