use Rattle.plan_app.specs.Input.{byte_limit}
use Rattle.plan_app.proofs.Failures.{long_if}
use Rattle.plan_app.proofs.Inputs.{ok_more, whole_if}
use Rattle.plan_app.proofs.serve.read_input.Goals as goal

pub returns-clause-whole : goal.returns-clause-whole
returns-clause-whole g c =
    ok_more c.read_up_to.result _ _ c.read_up_to.ensures.bytes
    (λ v known few. whole_if byte_limit v.items (g.R.Read.remaining c.args.reader.now) known few)

pub returns-clause-long : goal.returns-clause-long
returns-clause-long g c =
    ok_more c.read_up_to.result _ _ c.read_up_to.ensures.bytes
    (λ v known many. long_if byte_limit v.items (g.R.Read.remaining c.args.reader.now) known many)
