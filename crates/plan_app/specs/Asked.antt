-- The plan that is asked for: that of a document, or that of one word of the plant in it.
use Rattle.std.specs.Prelude.{◌≡◌, ℕ, ◌-◌, ◌≤◌, ◌++◌, nat_eq, codes, length, slice_get, Option, Some, None}
use Rattle.std.specs.Prelude.{⊤, if◌then◌else◌}
use Rattle.std.specs.Fmt.{decimal}
use Rattle.plan_text.specs.Names.{Text}
use Rattle.plan_document.specs.Plants.{IsPlantIn}
use Rattle.plan_document.specs.Reading.{IsPlanIn}
use Rattle.plan_document.specs.declared.plants.ProgrammedPlant.{ProgrammedPlant}
use Rattle.plan_document.specs.declared.resolving.ProgrammedPlan.{ProgrammedPlan}
use Rattle.plan_app.specs.declared.asking.NoPlan.{NoPlan}
use Rattle.plan_app.specs.declared.asking.NoPlan.TheVariants.{OfDocument, OfWord}

-- the plan of the word with a number, of the plant that these bytes say
pub record IsPlanOnWord (number : ℕ) (document : Text) (plan : ProgrammedPlan) : Type 0 where
  pub plant : ProgrammedPlant
  pub says : IsPlantIn document plant
  pub there : slice_get plant.plans.items number ≡ Some plan

-- of no word it is the plan that they say
abbrev pub IsAsked : Option ℕ → Text → ProgrammedPlan → Type 0
IsAsked None document plan = IsPlanIn document plan
IsAsked (Some number) document plan = IsPlanOnWord number document plan

-- the plant that these bytes say has this many words, and none with this number
pub record HasNoWord (number count : ℕ) (document : Text) : Type 0 where
  pub plant : ProgrammedPlant
  pub says : IsPlantIn document plant
  pub words : length plant.plans.items ≡ count
  pub past : count ≤ number

-- so there is no plan; what a document's own fault is stands in its line
abbrev pub IsNoPlan : Option ℕ → Text → NoPlan → Type 0
IsNoPlan word document (OfDocument fault) = ⊤
IsNoPlan word document (OfWord number count) = (word ≡ Some number) × HasNoWord number count document

-- ---- in words

-- which words there are
abbrev pub words_there : ℕ → Text
words_there count = if nat_eq count 1 then codes "word 0 alone" else codes "words 0 to " ++ decimal (count - 1)

abbrev pub no_word_text : ℕ → ℕ → Text
no_word_text number count = codes "plan has no word " ++ (decimal number ++ (codes ": it has " ++ words_there count))
