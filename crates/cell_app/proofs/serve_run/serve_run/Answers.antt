use Rattle.std.proofs.Common.{Err, ap}
use Rattle.cell_app.proofs.RunLemmas.{run_config_refused, run_refused, run_well, run_failed}
use Rattle.cell_app.proofs.serve_run.serve_run.Goals as goal

pub returns-in-Err-clause-failed : goal.returns-in-Err-clause-failed
returns-in-Err-clause-failed g c = λ e. run_config_refused _ _ _ _ _ c.in-Err.fault c.in-Err.ensures.says (rw c.text.ensures at c.fail.ensures.line)

pub returns-in-Ok-run_configured-clause-well : goal.returns-in-Ok-run_configured-clause-well
returns-in-Ok-run_configured-clause-well g c =
    let k = c.in-Ok-run_configured.ensures.work in
    λ e. run_well _ _ _ _ _ c.in-Ok.config c.in-Ok-run_configured.run' k.0 c.in-Ok.ensures.says k.1 k.2 (rw e at c.report.ensures.told)

pub returns-in-Ok-run_configured-clause-failed : goal.returns-in-Ok-run_configured-clause-failed
returns-in-Ok-run_configured-clause-failed g c =
    let k = c.in-Ok-run_configured.ensures.work in
    λ e. run_failed _ _ _ _ _ c.in-Ok.config c.in-Ok-run_configured.run' k.0 c.in-Ok.ensures.says k.1 k.2 (rw e at c.report.ensures.told)

pub returns-clause-failed : goal.returns-clause-failed
returns-clause-failed g c = λ e. run_refused _ _ _ _ _ c.in-Err-run_configured.fault (λ same. c.in-Err-run_configured.ensures.tries (ap (λ f. Err f) same)) (rw c.text-in-Err-run_configured.ensures at c.fail-in-Err-run_configured.ensures.line)
