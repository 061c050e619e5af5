use Rattle.cell_config.proofs.Names.{◌∙◌, ap, settings_of}
use Rattle.std.proofs.lemmas.Option.{IfSome_then}
use Rattle.cell_config.proofs.SettingsLemmas.{says_from, settings_of-prefix}
use Rattle.cell_config.proofs.configuration.read_config.Goals as goal

pub returns-clause-says : goal.returns-clause-says
returns-clause-says g c =
    let bytes = c.in-Ok.bytes.items in
    let answer = c.config_of.result in
    IfSome_then (g.R.Read.remaining c.args.reader.now) c.in-Ok.ensures.bytes
    (λ read is. says_from read (settings_of bytes) answer (ap settings_of is ∙ settings_of-prefix read) (rw c.as_slice.ensures.value at c.config_of.ensures.says))
