use Rattle.plan_document.proofs.Stepping.{program_made}
use Rattle.plan_document.proofs.programs.program_in.Goals as goal

pub returns : goal.returns
returns c =
    program_made c.args.motors (λ known. known.now) (λ steps. steps.items) c.args.named.now c.args.machine c.args.row.now c.zones.result.now c.in_ok-sensors.sensors c.deref.result.now c.steps_in.result c.zones.ensures c.in_ok-sensors.ensures.names c.in_ok-sensors.ensures.sensors c.deref.ensures.value c.steps_in.ensures
