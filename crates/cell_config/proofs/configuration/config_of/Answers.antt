use Rattle.cell_config.proofs.Names.{◌∙◌, sym, arith, false≢true}
use Rattle.cell_config.proofs.SettingsLemmas.{settings_of-long, settings_of-no_text, settings_of-table}
use Rattle.cell_config.proofs.configuration.config_of.Goals as goal

pub returns-then-bytes-gt-MAX_BYTES-clause-says : goal.returns-then-bytes-gt-MAX_BYTES-clause-says
returns-then-bytes-gt-MAX_BYTES-clause-says c = λ _. settings_of-long c.args.bytes.now (omega arith)

pub returns-in-Ok-clause-says : goal.returns-in-Ok-clause-says
returns-in-Ok-clause-says c =
    let same = settings_of-table c.args.bytes.now _ (omega arith) c.in-Ok.ensures.ok.0 c.in-Ok.ensures.ok.1 in
    rw same c.config_in.ensures.says

pub returns-in-Err-2-clause-says : goal.returns-in-Err-2-clause-says
returns-in-Err-2-clause-says c =
    λ _. settings_of-no_text c.args.bytes.now (omega arith) (c.in-Err.ensures.refused (λ memory. false≢true (sym c.if-is_memory.false ∙ c.is_memory.ensures.1 memory)))
