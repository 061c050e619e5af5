-- All letters of a schedule are read, all keys and all numbers.
use Rattle.cell_config.proofs.Names.{◌≡◌, ◌∙◌, ◌∷◌, ◌&&◌, [], ℕ, Bool, true, false, List, length, chars, inl, inr, filter_map, list_all, cons_option, Option, Some, None, is_some, Result, Ok, Err, refl, sym, ap, le-leb, lt-leb, nat_le, nat_lt, option_map, ConfigFault, Letter, Range, Turn, is_letter, is_letter_of, machine_of, turn, turn_of}
use Rattle.cell_config.proofs.Tests.{both_hold}
use Rattle.cell_config.proofs.Turns.{turn_found}
use Rattle.std.proofs.lemmas.Bool.{cases_Bool}
use Rattle.std.proofs.lemmas.Slice.Eq.{bytes_eq-Decides}
use Rattle.std.specs.Char.{is_ascii_uppercase}
use Rattle.std.specs.Prelude.{find}
use Rattle.cell_rules.specs.Types.{Machine, all_machines}
use Rattle.cell_config.specs.ConfigLaws.{NumbersAreWithin, SchedulesAreRead, letters_of}
use Rattle.cell_config.specs.Letters.{letter_word}

first_passes : {X : Type 0} (test : X → Bool) (xs : List X) (x : X) → find test xs ≡ Some x → test x ≡ true
first_passes test [] x e = absurd (cc)
first_passes test (y ∷ ys) x e = elim (cases_Bool (test y)) [
  | inl holds ↦ passed holds
  | inr fails ↦ first_passes test ys x (rw fails at e)
]
  where
    passed : test y ≡ true → test x ≡ true
    passed holds =
        let found : Some y ≡ Some x = rw holds at e in
        let same : y ≡ x = cc in
        ap test (sym same) ∙ holds

-- the letter of the turn that a letter has is that letter
letter_told : (letter : ℕ) (t : Turn) → turn_of letter ≡ Some t → letter_word t.busy t.machine ≡ letter ∷ []
letter_told letter t e = by (machine_of busy letter) refl
  where
    busy : Bool
    busy = is_ascii_uppercase letter

    by : (o : Option Machine) → machine_of busy letter ≡ o → letter_word t.busy t.machine ≡ letter ∷ []
    by None is = let h : None ≡ Some t = sym (ap (option_map (turn busy)) is) ∙ turn_found busy letter refl ∙ e in absurd (cc)
    by (Some m) is =
        let h : Some (turn busy m) ≡ Some t = sym (ap (option_map (turn busy)) is) ∙ turn_found busy letter refl ∙ e in
        let same : turn busy m ≡ t = cc in
        ap (λ (x : Turn). letter_word x.busy x.machine) (sym same)
        ∙ (bytes_eq-Decides (letter_word busy m) (letter ∷ [])).0 (first_passes (λ machine. is_letter_of busy machine letter) all_machines m is)

all_told : (letters : List ℕ) → list_all is_letter letters ≡ true → letters_of (filter_map turn_of letters) ≡ letters
all_told [] all = refl
all_told (letter ∷ more) all =
    by (turn_of letter) refl (all_told more (both_hold (is_letter letter) (list_all is_letter more) all).1)
  where
    by : (o : Option Turn) → turn_of letter ≡ o → letters_of (filter_map turn_of more) ≡ more → letters_of (filter_map turn_of (letter ∷ more)) ≡ letter ∷ more
    by None is rest =
        let lie : false ≡ true = sym (ap (λ (o : Option Turn). is_some o) is) ∙ (both_hold (is_letter letter) (list_all is_letter more) all).0 in
        absurd (cc)
    by (Some t) is rest =
        ap (λ (o : Option Turn). letters_of (cons_option o (filter_map turn_of more))) is
        ∙ rw (letter_told letter t is, rest) refl

abbrev Answer : Type 0
Answer = Result (List Turn) ConfigFault

pub schedules_are_read : SchedulesAreRead
schedules_are_read text turns e =
    by (nat_lt 1000000 (length (chars text))) refl (list_all is_letter (chars text)) refl
  where
    by : (long : Bool) → nat_lt 1000000 (length (chars text)) ≡ long → (all : Bool) → list_all is_letter (chars text) ≡ all → letters_of turns ≡ chars text
    by true is all are = let lie : ◌≡◌ {A = Answer} (Err Range) (Ok turns) = rw is at e in absurd (cc)
    by false is false are = let lie : ◌≡◌ {A = Answer} (Err Letter) (Ok turns) = rw (is, are) at e in absurd (cc)
    by false is true are =
        let h : ◌≡◌ {A = Answer} (Ok (filter_map turn_of (chars text))) (Ok turns) = rw (is, are) at e in
        let same : filter_map turn_of (chars text) ≡ turns = cc in
        ap letters_of (sym same) ∙ all_told (chars text) are

and_false : (b : Bool) → (b && false) ≡ false
and_false true = refl
and_false false = refl

pub numbers_are_within : (least most n : ℕ) → NumbersAreWithin least most n
numbers_are_within least most n = record {
  within = λ low high. rw (le-leb least n low, le-leb n most high) refl;
  below = λ low. rw (lt-leb least n low) refl;
  above = λ high. rw (lt-leb n most high, and_false (nat_le least n)) refl;
  negative = refl;
}
