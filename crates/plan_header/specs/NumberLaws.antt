-- Which names have the number of a plant's word, for all texts, and that no two words define one name.
use Rattle.std.specs.Prelude.{◌≡◌, ◌≢◌, ◌<◌, ℕ, Bool, true, ◌++◌, codes, nat_eq, not}
use Rattle.std.specs.Fmt.{decimal}
use Rattle.std.specs.List.{All, list_all}
use Rattle.plan_text.specs.Names.{Text, is_name}
use Rattle.plan_document.specs.Saying.{words_in}
use Rattle.plan_header.specs.HeaderLaws.{stands}
use Rattle.plan_header.specs.Numbered.{numbered}
use Rattle.plan_header.specs.Words.{capitals}

abbrev pub has_no_blank : Text → Bool
has_no_blank text = list_all (λ byte. not (nat_eq byte 32)) text

-- a name of the header, which begins with the prefix of a word
abbrev pub with_prefix : ℕ → Text → Text
with_prefix number name = codes "PLAN" ++ (decimal number ++ (codes "_" ++ name))

-- a word of a text begins with none of the prefixes of a header without a number
pub record HasNoPrefix (word : Text) : Type 0 where
  pub name : (rest : Text) → word ≢ codes "PLAN_" ++ rest
  pub after_bracket : (rest : Text) → word ≢ codes "(PLAN_" ++ rest
  pub type_name : (rest : Text) → word ≢ codes "plan_" ++ rest

-- the words of a text, one after another: each that begins with such a prefix has the number in it, each other stays
pub record NamesAreNumbered (number : ℕ) : Type 0 where
  pub name : (name : Text) → has_no_blank name ≡ true
      → numbered number (codes "PLAN_" ++ name) ≡ with_prefix number name
  pub after_bracket : (name : Text) → has_no_blank name ≡ true
      → numbered number (codes "(PLAN_" ++ name) ≡ codes "(" ++ with_prefix number name
  pub type_name : (name : Text) → has_no_blank name ≡ true
      → numbered number (codes "plan_" ++ name) ≡ codes "plan" ++ (decimal number ++ (codes "_" ++ name))
  pub other : (word : Text) → has_no_blank word ≡ true → HasNoPrefix word → numbered number word ≡ word
  pub next : (word rest : Text) → has_no_blank word ≡ true
      → numbered number (word ++ (codes " " ++ rest)) ≡ numbered number word ++ (codes " " ++ numbered number rest)

-- the names of plans have no blanks
abbrev pub NamesHaveNoBlank : Type 0
NamesHaveNoBlank = (name : Text) → is_name name ≡ true → has_no_blank (capitals name) ≡ true

-- a line that defines a name defines it with the word's prefix, and what stands for it has the number too
abbrev pub LinesAreNumbered : Type 0
LinesAreNumbered =
    (number : ℕ) (name meaning : Text) → has_no_blank (capitals name) ≡ true
    → numbered number (stands name meaning)
    ≡ codes "#define " ++ (with_prefix number (capitals name) ++ (codes " " ++ numbered number (meaning ++ codes "\n")))

-- two lines that define a name on different words define different names
abbrev pub WordsShareNoName : Type 0
WordsShareNoName =
    (j k : ℕ) (first second : Text) → j < 16 → k < 16 → j ≢ k → with_prefix j first ≢ with_prefix k second

-- and in what is printed for a word nothing is left that begins with a prefix of a header without a number
abbrev pub NoneIsLeft : Type 0
NoneIsLeft = (number : ℕ) (text : Text) → number < 16 → All HasNoPrefix (words_in (numbered number text))
