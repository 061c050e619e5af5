use Rattle.std.proofs.Common.{◌∙◌, sym, rules, tests}
use Rattle.std.specs.Str.{bytes_eq}
use Rattle.std.proofs.lemmas.Iterator.{YieldsList-from_slice}
use Rattle.std.proofs.lemmas.Iterator.Adapters.{option_map_id}
use Rattle.std.proofs.lemmas.Iterator.Consumers.{YieldsList-from_copied}
use Rattle.std.proofs.lemmas.Iterator.Search.{find_from_yields_List}
use Rattle.cell_types.proofs.words.find_by_word.Goals as goal

pub returns : goal.returns
returns c c' =
    sym (option_map_id c'.find.result)
    ∙ find_from_yields_List (λ value. bytes_eq (c.T.Worded.word_of value) c'.args.word.now) _ _ c'.find.result c'.find.ensures.ran (YieldsList-from_copied (YieldsList-from_slice c'.args.all.now cc)) (λ x b q k. search (rules, tests))
