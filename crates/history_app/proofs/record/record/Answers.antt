use Rattle.std.proofs.Common.{Err, ap}
use Rattle.history_app.proofs.WriteLemmas.{config_refused, recorded_failed, recorded_well, run_refused, some_history}
use Rattle.history_app.proofs.record.record.Goals as goal

pub write_history-requires : goal.write_history-requires
write_history-requires g c =
    let k = c.in-Ok-run_configured.ensures.work in
    record { history = some_history k.0 _ c.in-Ok.config.start c.args.tries c.args.turns c.in-Ok-run_configured.run' k.2 }

pub returns-in-Err-clause-failed : goal.returns-in-Err-clause-failed
returns-in-Err-clause-failed g c = λ e. config_refused _ _ _ _ _ c.in-Err.fault c.in-Err.ensures.says (rw c.text.ensures at c.fail.ensures.line)

pub returns-in-Ok-run_configured-clause-well : goal.returns-in-Ok-run_configured-clause-well
returns-in-Ok-run_configured-clause-well g c =
    let k = c.in-Ok-run_configured.ensures.work in
    λ e. recorded_well _ _ _ _ c.in-Ok.config c.in-Ok-run_configured.run' k.0 k.1 c.in-Ok.ensures.start k.2 _ c.in-Ok.ensures.says (rw e at c.write_history.ensures.told)

pub returns-in-Ok-run_configured-clause-failed : goal.returns-in-Ok-run_configured-clause-failed
returns-in-Ok-run_configured-clause-failed g c =
    let k = c.in-Ok-run_configured.ensures.work in
    λ e. recorded_failed _ _ _ _ c.in-Ok.config c.in-Ok-run_configured.run' k.0 k.1 c.in-Ok.ensures.start k.2 _ c.in-Ok.ensures.says (rw e at c.write_history.ensures.told)

pub returns-clause-failed : goal.returns-clause-failed
returns-clause-failed g c = λ e. run_refused _ _ _ _ _ c.in-Err-run_configured.fault (λ same. c.in-Err-run_configured.ensures.tries (ap (λ f. Err f) same)) (rw c.text-in-Err-run_configured.ensures at c.fail-in-Err-run_configured.ensures.line)
