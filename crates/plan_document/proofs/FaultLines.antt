-- The faults that a line names.
use Rattle.std.proofs.Common.{◌≡◌, ◌≢◌, ◌↔◌, ◌∙◌, ◌<◌, ◌++◌, ◌∷◌, [], Bool, true, false, List, codes, length, Option, Some, None, is_some, inl, inr, refl, sym, ap, subst, arith}
use Rattle.std.proofs.lemmas.Slice.Eq.{bytes_eq-Decides}
use Rattle.std.specs.List.{list_all}
use Rattle.std.specs.Str.{bytes_eq}
use Rattle.plan_controller.specs.declared.faults.Faults.{Faults}
use Rattle.plan_controller.specs.declared.faults.Mendable.{Mendable}
use Rattle.plan_controller.specs.Faults.{has, no_faults}
use Rattle.plan_controller.proofs.lemmas.Kinds.{by_all}
use Rattle.plan_text.specs.Names.{Text, is_name}
use Rattle.plan_document.specs.Refusals.{AreFaults, fault_of, fault_word}
use Rattle.plan_document.specs.Saying.{HasFaults, words_in}
use Rattle.plan_document.specs.TableLaws.{IsWordOf, NamesFaults}
use Rattle.plan_document.proofs.FaultWords.{word_of_fault}
use Rattle.plan_document.proofs.NameWords.{both}
use Rattle.plan_document.proofs.Worded.{any_by, some_at, some_words, stands_word, word_stands}

spelled : (fault : Mendable) → is_name (fault_word fault) ≡ true
spelled fault = by_all (λ f. is_name (fault_word f)) (λ f. true) refl fault

none_had : (fault : Mendable) → has no_faults fault ≡ false
none_had fault = by_all (has no_faults) (λ f. false) refl fault

-- the first of some words names a fault
named_first : (words : List Text) (faults : Faults) → 0 < length words → AreFaults words faults → (fault : Mendable) × (has faults fault ≡ true)
named_first [] faults some are = absurd (omega (arith, some))
named_first (word ∷ words) faults some are = by (fault_of word) refl
  where
    known : is_some (fault_of word) ≡ true
    known = (both (is_some (fault_of word)) (list_all (λ w. is_some (fault_of w)) words) are.known).0

    by : (o : Option Mendable) → fault_of word ≡ o → (fault : Mendable) × (has faults fault ≡ true)
    by None e = absurd (let lie : false ≡ true = sym (ap (λ o. is_some o) e) ∙ known in cc)
    by (Some fault) e =
        let same : bytes_eq word (fault_word fault) ≡ true = (bytes_eq-Decides word (fault_word fault)).1 (word_of_fault word fault e) in
        (fault, are.named fault ∙ rw same refl)

some_faults : (text : Text) (faults : Faults) → AreFaults (words_in text) faults → faults ≢ no_faults
some_faults text faults are none =
    let one = named_first (words_in text) faults (some_words text) are in
    let lie : false ≡ true = sym (none_had one.0) ∙ ap (λ f. has f one.0) (sym none) ∙ one.1 in
    absurd (cc)

-- those that stand there as words
stand : (text : Text) (faults : Faults) (fault : Mendable) → AreFaults (words_in text) faults → (has faults fault ≡ true) ↔ IsWordOf text (fault_word fault)
stand text faults fault are = (there, back)
  where
    test : Text → Bool
    test word = bytes_eq word (fault_word fault)

    there : has faults fault ≡ true → IsWordOf text (fault_word fault)
    there has_it =
        let f = some_at test (words_in text) (sym (are.named fault) ∙ has_it) in
        subst (IsWordOf text) ((bytes_eq-Decides f.1 (fault_word fault)).0 f.3) (word_stands text f.1 f.0 f.2)

    back : IsWordOf text (fault_word fault) → has faults fault ≡ true
    back word =
        let at = stands_word text (fault_word fault) (spelled fault) word in
        are.named fault ∙ any_by test (words_in text) at.0 (fault_word fault) at.1 ((bytes_eq-Decides (fault_word fault) (fault_word fault)).1 refl)

pub names_faults : (line ask call : Text) (faults : Faults) → ask ≡ call → HasFaults line ask faults → NamesFaults line call faults
names_faults line ask call faults same (inl one) = record {
  none = λ none. one.0 ∙ same;
  some = λ some. absurd (some one.1);
}
names_faults line ask call faults same (inr one) = record {
  none = λ none. absurd (some_faults one.0 faults one.2 none);
  some = λ some. (one.0, one.1 ∙ ap (λ t. t ++ codes " or stop on " ++ one.0) same, λ fault. stand one.0 faults fault one.2);
}
