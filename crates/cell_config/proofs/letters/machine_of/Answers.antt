use Rattle.cell_config.proofs.Names.{◌∙◌, sym, rules, tests, YieldsList-from_slice, YieldsList-from_copied, is_letter_of}
use Rattle.std.proofs.lemmas.Iterator.Adapters.{option_map_id}
use Rattle.std.proofs.lemmas.Iterator.Search.{find_from_yields_List}
use Rattle.cell_rules.specs.Types.{all_machines}
use Rattle.cell_config.proofs.letters.machine_of.Goals as goal

pub returns : goal.returns
returns c =
    sym (option_map_id c.find.result)
    ∙ find_from_yields_List (λ machine. is_letter_of c.args.busy machine c.args.byte) _ _ c.find.result c.find.ensures.ran (YieldsList-from_copied (YieldsList-from_slice all_machines cc)) (λ x b q k. search (rules, tests))
