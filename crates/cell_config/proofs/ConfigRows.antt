-- What the example configurations say.
use Rattle.cell_config.proofs.Names.{rules, chars, is_utf8, settings_of}
use Rattle.toml.proofs.OnLiterals.{toml_on_literals}
use Rattle.cell_config.specs.ConfigExamples.{ConfigsAreMet}

pub configs_are_met : ConfigsAreMet
unfolding toml_on_literals chars is_utf8 settings_of
configs_are_met = search rules
