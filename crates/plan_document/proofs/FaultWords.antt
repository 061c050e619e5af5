-- The refusals that a line names, one word after another.
use Rattle.std.proofs.Common.{◌≡◌, ◌∙◌, ◌<◌, ◌++◌, ◌∷◌, [], ℕ, Bool, true, false, ◌&&◌, ◌||◌, List, length, append_assoc, Some, None, is_some, refl, sym, ap, subst, arith}
use Rattle.std.proofs.lemmas.Bool.{false_from_ne_true}
use Rattle.std.proofs.lemmas.List.Folds.{list_all-append, list_any-append, list_any_at}
use Rattle.std.proofs.lemmas.Slice.Eq.{bytes_eq-Decides}
use Rattle.std.specs.Bool.{then_some}
use Rattle.std.specs.List.{list_any}
use Rattle.std.specs.Str.{bytes_eq}
use Rattle.plan_types.proofs.lemmas.Below.{first_below_all}
use Rattle.plan_controller.specs.declared.faults.Faults.{Faults}
use Rattle.plan_controller.specs.declared.faults.Mendable.{Mendable}
use Rattle.plan_controller.specs.declared.faults.Mendable.TheVariants.{Held, Shut, NotOwner, PlateInZone, NoPlate}
use Rattle.plan_controller.specs.declared.faults.Mendable.TheVariants.{PlaceFull, WrongWay, Stopped}
use Rattle.plan_controller.specs.Faults.{all_mendable, has, no_faults, with_one}
use Rattle.plan_controller.proofs.lemmas.Kinds.{by_all}
use Rattle.plan_text.specs.Names.{Text, name_in, number_if, number_in}
use Rattle.plan_document.specs.Refusals.{AreFaults, fault_of, fault_word}
use Rattle.plan_document.specs.Saying.{words_in}
use Rattle.plan_document.proofs.Distinct.{distinct_more}
use Rattle.plan_document.proofs.Running.{LacksBlank, last_word, words_more}
use Rattle.plan_document.proofs.Written.{first_passes}

-- the word of a refusal that is read of it
pub word_of_fault : (word : Text) (fault : Mendable) → fault_of word ≡ Some fault → word ≡ fault_word fault
word_of_fault word fault e =
    (bytes_eq-Decides word (fault_word fault)).0 (first_passes (λ (f : Mendable). bytes_eq word (fault_word f)) all_mendable fault e)

-- one more has its word
grown : (f : Faults) (kind other : Mendable) → has (with_one f kind) other ≡ (bytes_eq (fault_word kind) (fault_word other) || has f other)
grown f Held other = by_all (has (with_one f Held)) (λ k. bytes_eq (fault_word Held) (fault_word k) || has f k) refl other
grown f Shut other = by_all (has (with_one f Shut)) (λ k. bytes_eq (fault_word Shut) (fault_word k) || has f k) refl other
grown f NotOwner other = by_all (has (with_one f NotOwner)) (λ k. bytes_eq (fault_word NotOwner) (fault_word k) || has f k) refl other
grown f PlateInZone other = by_all (has (with_one f PlateInZone)) (λ k. bytes_eq (fault_word PlateInZone) (fault_word k) || has f k) refl other
grown f NoPlate other = by_all (has (with_one f NoPlate)) (λ k. bytes_eq (fault_word NoPlate) (fault_word k) || has f k) refl other
grown f PlaceFull other = by_all (has (with_one f PlaceFull)) (λ k. bytes_eq (fault_word PlaceFull) (fault_word k) || has f k) refl other
grown f WrongWay other = by_all (has (with_one f WrongWay)) (λ k. bytes_eq (fault_word WrongWay) (fault_word k) || has f k) refl other
grown f Stopped other = by_all (has (with_one f Stopped)) (λ k. bytes_eq (fault_word Stopped) (fault_word k) || has f k) refl other

none_had : (kind : Mendable) → has no_faults kind ≡ false
none_had kind = by_all (has no_faults) (λ k. false) refl kind

pub no_words : AreFaults [] no_faults
no_words = record { known = refl; named = none_had; once = λ number l. absurd (omega (arith, l)) }

-- a word that is none of these has no number among them
not_among : (words : List Text) (word : Text) → list_any (λ other. bytes_eq other word) words ≡ false → number_in words word ≡ None
not_among words word none = first_below_all (number_if words word) (length words) each
  where
    apart : (k : ℕ) → k < length words → bytes_eq (name_in words k) word ≡ false
    apart k l =
        false_from_ne_true _ (λ same. let lie : false ≡ true = sym none ∙ list_any_at (λ other. bytes_eq other word) words k [] l same in absurd (cc))

    each : (k : ℕ) → k < length words → number_if words word k ≡ None
    each k l = ap (λ same. then_some same k) (apart k l)

swap : (a b : Bool) → (a || b) ≡ (b || (a || false))
swap true true = refl
swap true false = refl
swap false true = refl
swap false false = refl

-- one word more
pub one_word_more : (words : List Text) (faults : Faults) (word : Text) (kind : Mendable) → fault_of word ≡ Some kind → has faults kind ≡ false → AreFaults words faults
    → AreFaults (words ++ word ∷ []) (with_one faults kind)
one_word_more words faults word kind is new before = record {
  known =
      list_all-append known words (word ∷ []) ∙ ap (λ b. b && (known word && true)) before.known ∙ ap (λ o. is_some o && true) is;
  named = λ other.
      grown faults kind other
      ∙ ap (λ w. bytes_eq w (fault_word other) || has faults other) (sym same)
      ∙ swap (bytes_eq word (fault_word other)) (has faults other)
      ∙ ap (λ b. b || (bytes_eq word (fault_word other) || false)) (before.named other)
      ∙ sym (list_any-append (λ w. bytes_eq w (fault_word other)) words (word ∷ []));
  once =
      distinct_more words word
      (not_among words word (ap (λ w. list_any (λ other. bytes_eq other w) words) same ∙ sym (before.named kind) ∙ new))
      before.once;
}
  where
    known : Text → Bool
    known w = is_some (fault_of w)

    same : word ≡ fault_word kind
    same = word_of_fault word kind is

-- ---- up to the rest of a text

pub record AreNamedUpTo (text rest : Text) (faults : Faults) : Type 0 where
  pub words : List Text
  pub split : words_in text ≡ words ++ words_in rest
  pub are : AreFaults words faults

pub none_named : (text : Text) → AreNamedUpTo text text no_faults
none_named text = record { words = []; split = refl; are = no_words }

-- what a word adds
abbrev pub IsAdded : Text → Faults → Faults → Type 0
IsAdded word faults all = (kind : Mendable) × (fault_of word ≡ Some kind) × (has faults kind ≡ false) × (all ≡ with_one faults kind)

pub word_named : (text rest word more : Text) (faults all : Faults) → IsAdded word faults all → rest ≡ word ++ 32 ∷ more → LacksBlank word → AreNamedUpTo text rest faults → AreNamedUpTo text more all
word_named text rest word more faults all one cut lacks before = record {
  words = before.words ++ word ∷ [];
  split =
      before.split
      ∙ ap (λ ws. before.words ++ ws) (words_more rest word more cut lacks)
      ∙ sym (append_assoc before.words (word ∷ []) (words_in more));
  are = subst (AreFaults (before.words ++ word ∷ [])) (sym one.3) (one_word_more before.words faults word one.0 one.1 one.2 before.are);
}

pub all_named : (text rest : Text) (faults all : Faults) → IsAdded rest faults all → LacksBlank rest → AreNamedUpTo text rest faults → AreFaults (words_in text) all
all_named text rest faults all one lacks before =
    let whole : words_in text ≡ before.words ++ rest ∷ [] = before.split ∙ ap (λ ws. before.words ++ ws) (last_word rest lacks) in
    subst (λ ws. AreFaults ws all) (sym whole) (subst (AreFaults (before.words ++ rest ∷ [])) (sym one.3) (one_word_more before.words faults rest one.0 one.1 one.2 before.are))
