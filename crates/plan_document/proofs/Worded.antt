-- The words of a text, and which motors are named by them.
use Rattle.std.proofs.Common.{◌≡◌, ◌↔◌, ◌∙◌, ◌<◌, ◌+◌, ◌++◌, ◌∷◌, [], ℕ, Bool, true, false, ◌||◌, ◌&&◌, nat_eq, nat_le, List, codes, length, refl, sym, ap, subst, append_assoc, Option, Some, None, is_some, slice_get, slice_index, arith, eq-eqb}
use Rattle.std.proofs.lemmas.Bool.{eqb-true}
use Rattle.std.proofs.lemmas.Grind.{flat_map-append}
use Rattle.std.proofs.lemmas.List.Folds.{list_any-append}
use Rattle.std.proofs.lemmas.List.Splits.{length-slice_split, slice_split-cons_no, slice_split-cons_yes}
use Rattle.std.proofs.lemmas.Slice.Eq.{bytes_eq-Decides}
use Rattle.std.specs.Char.{is_ascii_lowercase}
use Rattle.std.specs.List.{flat_map, list_all, list_any, onto_first}
use Rattle.std.specs.Option.{option_and_then, option_eq}
use Rattle.std.specs.Bool.{then_some}
use Rattle.std.specs.Str.{bytes_eq}
use Rattle.plan_drives.specs.Program.{has_bit}
use Rattle.plan_text.specs.Names.{Text, is_name, is_name_byte, name_in, number_in}
use Rattle.plan_document.specs.declared.motors.NamedMotors.{NamedMotors}
use Rattle.plan_document.specs.Names.{AreDistinct}
use Rattle.plan_document.specs.PlanLaws.{StandsAt}
use Rattle.plan_document.specs.Saying.{AreMotorsIn, is_driven_by, own_motor, words_in}
use Rattle.plan_document.specs.TableLaws.{IsWordOf}
use Rattle.plan_document.proofs.NameWords.{both, is-other}
use Rattle.plan_document.proofs.Standing.{all_at, begins, later, name_of, number_below, passed, same_number}
use Rattle.plan_document.proofs.StepLines.{some_motor}

abbrev blank : ℕ → Bool
blank byte = nat_eq byte 32

-- ---- words side by side

onto_more : (x : ℕ) (ws vs : List Text) → 0 < length ws → onto_first x (ws ++ vs) ≡ onto_first x ws ++ vs
onto_more x [] vs l = absurd (omega (arith, l))
onto_more x (w ∷ ws) vs l = refl

pub some_words : (text : Text) → 0 < length (words_in text)
some_words text = omega (arith, length-slice_split blank text)

parts : (a b : Text) → words_in (a ++ 32 ∷ b) ≡ words_in a ++ words_in b
parts [] b = slice_split-cons_yes blank 32 b refl
parts (x ∷ a) b = by (parts a b) (blank x) refl
  where
    by : words_in (a ++ 32 ∷ b) ≡ words_in a ++ words_in b → (c : Bool) → blank x ≡ c → words_in (x ∷ (a ++ 32 ∷ b)) ≡ words_in (x ∷ a) ++ words_in b
    by rest true e = slice_split-cons_yes blank x (a ++ 32 ∷ b) e ∙ ap (λ ws. [] ∷ ws) rest ∙ ap (λ ws. ws ++ words_in b) (sym (slice_split-cons_yes blank x a e))
    by rest false e =
        slice_split-cons_no blank x (a ++ 32 ∷ b) e ∙ ap (onto_first x) rest ∙ onto_more x (words_in a) (words_in b) (some_words a)
        ∙ ap (λ ws. ws ++ words_in b) (sym (slice_split-cons_no blank x a e))

one_word : (name : Text) → list_all is_name_byte name ≡ true → words_in name ≡ name ∷ []
one_word [] e = refl
one_word (x ∷ xs) e =
    let f = both (is_name_byte x) (list_all is_name_byte xs) e in
    slice_split-cons_no blank x xs (is-other x 32 refl f.0) ∙ ap (onto_first x) (one_word xs f.1)

-- ---- from a word to where it stands in the text

abbrev spaced : List Text → Text
spaced words = flat_map (λ w. w ++ codes " ") words

abbrev lead : List Text → Text
lead words = flat_map (λ w. 32 ∷ w) words

onto_spaced : (x : ℕ) (ws : List Text) → 0 < length ws → spaced (onto_first x ws) ≡ x ∷ spaced ws
onto_spaced x [] l = absurd (omega (arith, l))
onto_spaced x (w ∷ ws) l = refl

spaced_is : (text : Text) → text ++ codes " " ≡ spaced (words_in text)
spaced_is [] = refl
spaced_is (x ∷ xs) = by (spaced_is xs) (blank x) refl
  where
    by : xs ++ codes " " ≡ spaced (words_in xs) → (c : Bool) → blank x ≡ c → x ∷ (xs ++ codes " ") ≡ spaced (words_in (x ∷ xs))
    by rest true e = ap (λ t. x ∷ t) rest ∙ ap (λ y. y ∷ spaced (words_in xs)) (eqb-true x 32 e) ∙ ap spaced (sym (slice_split-cons_yes blank x xs e))
    by rest false e = ap (λ t. x ∷ t) rest ∙ sym (onto_spaced x (words_in xs) (some_words xs)) ∙ ap spaced (sym (slice_split-cons_no blank x xs e))

lead_is : (words : List Text) → 32 ∷ spaced words ≡ lead words ++ codes " "
lead_is [] = refl
lead_is (w ∷ words) =
    ap (λ t. 32 ∷ t) (append_assoc w (codes " ") (spaced words)) ∙ ap (λ t. (32 ∷ w) ++ t) (lead_is words) ∙ sym (append_assoc (32 ∷ w) (lead words) (codes " "))

pub word_stands : (text word : Text) (i : ℕ) → StandsAt (words_in text) i word → IsWordOf text word
word_stands text word i here = (
  lead here.before,
  spaced here.after,
  ap (λ t. 32 ∷ t) (spaced_is text ∙ ap spaced here.is ∙ flat_map-append (λ w. w ++ codes " ") here.before (word ∷ here.after))
      ∙ ap (λ t. t ++ ((word ++ codes " ") ++ spaced here.after)) (lead_is here.before)
      ∙ sym (append_assoc (lead here.before ++ codes " ") (word ++ codes " ") (spaced here.after))
      ∙ ap (λ t. t ++ spaced here.after) (sym (append_assoc (lead here.before ++ codes " ") word (codes " "))),
)

-- ---- from where it stands to a word

pub some_at : {A : Type 0} (test : A → Bool) (xs : List A) → list_any test xs ≡ true → (i : ℕ) × (x : A) × StandsAt xs i x × (test x ≡ true)
some_at test [] e = absurd (let f = e in cc)
some_at {A} test (x ∷ xs) e = by (some_at test xs) (test x) refl
  where
    by : (list_any test xs ≡ true → (i : ℕ) × (y : A) × StandsAt xs i y × (test y ≡ true)) → (b : Bool) → test x ≡ b → (i : ℕ) × (y : A) × StandsAt (x ∷ xs) i y × (test y ≡ true)
    by others true is = (0, x, begins x xs, is)
    by others false is = let f = others (sym (ap (λ b. b || list_any test xs) is) ∙ e) in (f.0 + 1, f.1, later x xs f.0 f.1 f.2, f.3)

pub any_by : {A : Type 0} (test : A → Bool) (xs : List A) (i : ℕ) (x : A) → StandsAt xs i x → test x ≡ true → list_any test xs ≡ true
any_by test xs i x here is =
    ap (list_any test) here.is ∙ list_any-append test here.before (x ∷ here.after) ∙ ap (λ b. list_any test here.before || (b || list_any test here.after)) is ∙ or_true (list_any test here.before)
  where
    or_true : (a : Bool) → (a || true) ≡ true
    or_true true = refl
    or_true false = refl

-- what stands in a text as a word is one of its words
pub stands_word : (text name : Text) → is_name name ≡ true → IsWordOf text name → (i : ℕ) × StandsAt (words_in text) i name
stands_word text name named w =
    let test : Text → Bool = λ word. bytes_eq word name in
    let around : list_any test (words_in (codes " " ++ text ++ codes " ")) ≡ (list_any test (words_in text) || false) = (
    ap (list_any test) (parts (codes " " ++ text) [] ∙ ap (λ ws. ws ++ ([] ∷ [])) (parts [] text))
    ∙ list_any-append test ([] ∷ words_in text) ([] ∷ [])
    ∙ ap (λ b. (b || list_any test (words_in text)) || (b || false)) none_empty) in
    let inside : list_any test (words_in (w.0 ++ codes " " ++ name ++ codes " " ++ w.1)) ≡ true = (
    ap (λ t. list_any test (words_in t)) (append_assoc (w.0 ++ codes " " ++ name) (codes " ") w.1)
    ∙ ap (list_any test) (parts (w.0 ++ codes " " ++ name) w.1 ∙ ap (λ t. words_in t ++ words_in w.1) (append_assoc w.0 (codes " ") name) ∙ ap (λ ws. ws ++ words_in w.1) (parts w.0 name ∙ ap (λ ws. words_in w.0 ++ ws) (one_word name bytes)))
    ∙ ap (list_any test) (append_assoc (words_in w.0) (name ∷ []) (words_in w.1))
    ∙ any_by test (words_in w.0 ++ name ∷ words_in w.1) (length (words_in w.0)) name (record { before = words_in w.0; after = words_in w.1; is = refl; count = refl }) same) in
    let found = some_at test (words_in text) (no_more (list_any test (words_in text)) (sym around ∙ ap (λ t. list_any test (words_in t)) w.2 ∙ inside)) in
    (found.0, subst (StandsAt (words_in text) found.0) {x = found.1} ((bytes_eq-Decides found.1 name).0 found.3) found.2)
  where
    bytes : list_all is_name_byte name ≡ true
    bytes = (both (is_ascii_lowercase (slice_index name 0) && nat_le (length name) 32) (list_all is_name_byte name) named).1

    same : bytes_eq name name ≡ true
    same = (bytes_eq-Decides name name).1 refl

    no_more : (b : Bool) → (b || false) ≡ true → b ≡ true
    no_more true e = refl
    no_more false e = e

    empty_is_none : is_name [] ≡ true → ⊥
    empty_is_none e = cc

    none_empty : bytes_eq [] name ≡ false
    none_empty = by (bytes_eq [] name) refl
      where
        by : (b : Bool) → bytes_eq [] name ≡ b → bytes_eq [] name ≡ false
        by false e = e
        by true e = absurd (empty_is_none (ap is_name ((bytes_eq-Decides [] name).0 e) ∙ named))

-- ---- motors

-- a motor that is found by a name has this number
own_number_is : (m : NamedMotors) (machine : ℕ) (name : Text) (motor : ℕ) → own_motor m machine name ≡ Some motor → number_in m.names name ≡ Some motor
own_number_is m machine name motor is = by (number_in m.names name) refl
  where
    by : (o : Option ℕ) → number_in m.names name ≡ o → number_in m.names name ≡ Some motor
    by None e = let f = sym (ap (option_and_then (λ k. then_some (is_driven_by machine (slice_get m.motors.items k)) k)) e) ∙ is in absurd (cc)
    by (Some k) e =
        let f = sym (ap (option_and_then (λ k. then_some (is_driven_by machine (slice_get m.motors.items k)) k)) e) ∙ is in
        e ∙ ap (λ j. Some j) (passed (is_driven_by machine (slice_get m.motors.items k)) k motor f).1

-- those that a text names have a bit, and no others
pub named_bits : (m : NamedMotors) (machine : ℕ) (names : Text) (motors motor : ℕ) → (motor < length m.names → is_name (name_in m.names motor) ≡ true) → AreDistinct m.names → AreMotorsIn m machine names motors
    → (has_bit motors motor ≡ true) ↔ ((motor < length m.names) × IsWordOf names (name_in m.names motor))
named_bits m machine names motors motor spelled distinct are = (there, back)
  where
    test : Text → Bool
    test name = option_eq nat_eq (own_motor m machine name) (Some motor)

    there : has_bit motors motor ≡ true → (motor < length m.names) × IsWordOf names (name_in m.names motor)
    there on =
        let f = some_at test (words_in names) (sym (are.bits motor) ∙ on) in
        let number = own_number_is m machine f.1 motor (some_motor (own_motor m machine f.1) motor f.3) in
        (number_below m.names f.1 motor number, subst (IsWordOf names) (sym (name_of m.names f.1 motor number)) (word_stands names f.1 f.0 f.2))

    back : (motor < length m.names) × IsWordOf names (name_in m.names motor) → has_bit motors motor ≡ true
    back f =
        let name = name_in m.names motor in
        let at = stands_word names name (spelled f.0) f.1 in
        let known = all_at (λ word. is_some (own_motor m machine word)) (words_in names) at.0 name are.known at.1 in
        are.bits motor ∙ any_by test (words_in names) at.0 name at.1 (own_is f.0 (own_motor m machine name) refl known)
      where
        own_is : motor < length m.names → (o : Option ℕ) → own_motor m machine (name_in m.names motor) ≡ o → is_some (own_motor m machine (name_in m.names motor)) ≡ true → test (name_in m.names motor) ≡ true
        own_is l None e some = absurd (let g = sym (ap (λ x. is_some x) e) ∙ some in cc)
        own_is l (Some k) e some =
            let number = own_number_is m machine (name_in m.names motor) k e in
            let same : k ≡ motor = same_number k motor (sym number ∙ distinct motor l) in
            ap (λ o. option_eq nat_eq o (Some motor)) e ∙ ap (λ j. nat_eq j motor) same ∙ eq-eqb motor motor refl
