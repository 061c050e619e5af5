-- What `plan header --words` prints of a plant: the header of each word's plan, with the word's number in its names.
use Rattle.std.specs.Prelude.{ℕ, [], ◌++◌, codes, flat_map, length, List, Option, None, Some, slice_get}
use Rattle.std.specs.Fmt.{decimal}
use Rattle.std.specs.List.{range_with_len}
use Rattle.plan_text.specs.Names.{Text}
use Rattle.plan_document.specs.declared.resolving.ProgrammedPlan.{ProgrammedPlan}
use Rattle.plan_header.specs.Numbered.{numbered}
use Rattle.plan_header.specs.Printed.{header_of}
use Rattle.plan_header.specs.declared.plants.TheConstants.{HEAD}

-- how many words there are
abbrev pub head : ℕ → Text
head count = HEAD.now ++ (decimal count ++ codes "\n")

-- the header of a word's plan
abbrev pub word_header : ProgrammedPlan → ℕ → Text
word_header plan word = codes "\n" ++ numbered word (header_of plan)

abbrev pub header_if : Option ProgrammedPlan → ℕ → Text
header_if None word = []
header_if (Some plan) word = word_header plan word

abbrev pub header_on : List ProgrammedPlan → ℕ → Text
header_on plans word = header_if (slice_get plans word) word

unfoldable pub plant_header_text : List ProgrammedPlan → Text
plant_header_text plans = head (length plans) ++ flat_map (header_on plans) (range_with_len 0 (length plans))
