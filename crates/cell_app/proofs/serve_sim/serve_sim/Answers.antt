use Rattle.cell_app.proofs.SimLemmas.{config_refused, sim_well, sim_failed}
use Rattle.cell_app.proofs.serve_sim.serve_sim.Goals as goal

pub returns-in-Err-clause-failed : goal.returns-in-Err-clause-failed
returns-in-Err-clause-failed g c = λ e. config_refused c.reports_are_one.ensures.report _ _ _ c.in-Err.fault c.in-Err.ensures.says (rw c.text.ensures at c.fail.ensures.line)

pub returns-in-Ok-simulate_configured-clause-well : goal.returns-in-Ok-simulate_configured-clause-well
returns-in-Ok-simulate_configured-clause-well g c =
    let k = c.in-Ok-simulate_configured.ensures.run in
    λ e. sim_well c.reports_are_one.ensures.report _ _ _ c.in-Ok.config c.in-Ok-simulate_configured.run' k.0 c.in-Ok.ensures.says k.1 k.2 (rw e at c.report.ensures.told)

pub returns-in-Ok-simulate_configured-clause-failed : goal.returns-in-Ok-simulate_configured-clause-failed
returns-in-Ok-simulate_configured-clause-failed g c =
    let k = c.in-Ok-simulate_configured.ensures.run in
    λ e. sim_failed c.reports_are_one.ensures.report _ _ _ c.in-Ok.config c.in-Ok-simulate_configured.run' k.0 c.in-Ok.ensures.says k.1 k.2 (rw e at c.report.ensures.told)
