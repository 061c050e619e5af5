-- What names are good for: each is one word of a line of a program, and one field of a record of a script.
use Rattle.std.specs.Prelude.{ℕ, Bool, ◌||◌, not, nat_eq, List, IsTrue}
use Rattle.std.specs.List.{list_all}
use Rattle.plan_text.specs.Names.{Text}
use Rattle.plan_text.specs.Named.{Named}
use Rattle.plan_document.specs.declared.document.Document.{Document}
use Rattle.plan_document.specs.Saying.{IsNamedPlanOf}

-- a blank, a quote, a comma, or an end of a line
abbrev pub parts_words : ℕ → Bool
parts_words byte =
    nat_eq byte 32 || (nat_eq byte 34 || (nat_eq byte 44 || (nat_eq byte 10 || nat_eq byte 13)))

abbrev pub is_one_word : Text → Bool
is_one_word text = list_all (λ byte. not (parts_words byte)) text

abbrev pub AreWords : List Text → Type 0
AreWords names = IsTrue (list_all is_one_word names)

pub record NamesAreWords (n : Named) : Type 0 where
  pub machines : AreWords n.machines
  pub zones : AreWords n.zones
  pub places : AreWords n.places
  pub poses : AreWords n.poses

-- so it is in the plan of each document
abbrev pub NamedPlansHaveWords : Type 0
NamedPlansHaveWords = (d : Document) (n : Named) → IsNamedPlanOf d n → NamesAreWords n
