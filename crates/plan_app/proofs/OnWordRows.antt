-- The examples of `word_lines_are_met`, and the law `words_tell`.
use Rattle.std.proofs.Common.{◌≡◌, ◌<◌, ℕ, zero, suc, true, false, List, [], ◌∷◌, length, slice_get, Option, Some, None, is_some, refl, sym, subst, arith}
use Rattle.std.specs.Fmt.{digits}
use Rattle.std.specs.List.{list_all}
use Rattle.plan_document.specs.declared.resolving.ProgrammedPlan.{ProgrammedPlan}
use Rattle.plan_text.specs.Names.{Text}
use Rattle.plan_app.specs.OnWords.{IsKeptBy, PermitsBoth, TellsWords, hazard_count, words_text}
use Rattle.plan_app.specs.OnWordExamples.{IsKeptOnAWord, WordLines, WordsTell}
use Rattle.plan_app.specs.declared.on_words.Keeper.{Keeper}

pub word-lines : WordLines
unfolding digits words_text
word-lines = record {
  one = refl;
  four = refl;
  of_lift = refl;
  of_gates = refl;
  no_plan = refl;
  zone = refl;
  place = refl;
  poses = refl;
  none = refl;
  not_looked_at = refl;
  whole = λ first second one two titles. rw (one, two, titles) refl;
}

-- if all are there, so is each
each_there : (keepers : List (Option Keeper)) (hazard : ℕ) → list_all is_some keepers ≡ true → hazard < length keepers
    → (keeper : Keeper) × (slice_get keepers hazard ≡ Some (Some keeper))
each_there [] hazard all few = absurd (omega (arith, few))
each_there (None ∷ keepers) hazard all few = absurd (cc)
each_there (Some keeper ∷ keepers) zero all few = (keeper, refl)
each_there (Some keeper ∷ keepers) (suc hazard) all few = each_there keepers hazard all (omega (arith, few))

-- else one isn't
one_missing : (keepers : List (Option Keeper)) → list_all is_some keepers ≡ false
    → (hazard : ℕ) × (hazard < length keepers) × (slice_get keepers hazard ≡ Some None)
one_missing [] all = absurd (cc)
one_missing (None ∷ keepers) all = (zero, omega arith, refl)
one_missing (Some keeper ∷ keepers) all =
    let (hazard, few, is) = one_missing keepers all in
    (suc hazard, omega (arith, few), is)

kept : (plans : List ProgrammedPlan) (text : Text) → TellsWords plans true text → (hazard : ℕ) → hazard < hazard_count plans → IsKeptOnAWord plans hazard
kept plans text tells hazard few =
    let within : hazard < length tells.keepers = subst (λ n. hazard < n) (sym tells.are.count) few in
    let (keeper, is) = each_there tells.keepers hazard tells.right within in
    let by : IsKeptBy plans hazard (Some keeper) = tells.are.each hazard (Some keeper) is in
    record { word = keeper.word; plan = by.plan; there = by.there; never = by.shown.never by.keeps }

unkept : (plans : List ProgrammedPlan) (text : Text) → TellsWords plans false text
    → (hazard : ℕ) × (hazard < hazard_count plans) × ((word : ℕ) → word < length plans → PermitsBoth plans hazard word)
unkept plans text tells =
    let (hazard, few, is) = one_missing tells.keepers tells.right in
    let by : IsKeptBy plans hazard None = tells.are.each hazard None is in
    (hazard, subst (λ n. hazard < n) tells.are.count few, by)

pub words-tell : WordsTell
words-tell = record { kept = kept; unkept = unkept }
