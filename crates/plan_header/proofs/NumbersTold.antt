-- The laws of names with numbers.
use Rattle.std.proofs.Common.{◌≡◌, ◌≢◌, ◌∙◌, ◌<◌, ◌^◌, ◌++◌, ◌∷◌, [], ℕ, Bool, true, false, not, nat_eq, List, codes, get_or, refl, sym, ap, arith, ne_eqb, drop}
use Rattle.std.proofs.lemmas.Bool.{and_from, and_parts, eqb-true, false_from_ne_true}
use Rattle.std.proofs.lemmas.Bool.Decides.{Decides-eqb, nat_tests}
use Rattle.std.proofs.lemmas.Fmt.{decimal_injective, decimal_is_IsNumeral}
use Rattle.std.proofs.lemmas.List.Elements.{All-cons}
use Rattle.std.proofs.lemmas.List.Splits.{slice_split_at}
use Rattle.std.proofs.lemmas.List.Sums.{AllPass-from_list_all}
use Rattle.std.proofs.lemmas.Slice.Eq.{starts_is}
use Rattle.std.proofs.lemmas.Str.Parse.{digit_from_value}
use Rattle.std.specs.Char.{to_ascii_uppercase}
use Rattle.std.specs.Fmt.{decimal}
use Rattle.std.specs.List.{list_all, All, slice_split}
use Rattle.std.specs.Str.Parse.{AllDigits}
use Rattle.plan_text.specs.Names.{Text, is_name_byte}
use Rattle.plan_header.specs.Words.{capitals}
use Rattle.plan_header.specs.Numbered.{begins, numbered, numbered_word}
use Rattle.plan_header.specs.NumberLaws.{HasNoPrefix, LinesAreNumbered, NamesAreNumbered, NamesHaveNoBlank, WordsShareNoName, has_no_blank, with_prefix}
use Rattle.plan_header.proofs.Numbering.{LacksBlank, numbered_last, numbered_more}

unblank : (b : Bool) → not b ≡ true → b ≡ false
unblank true e = absurd (cc)
unblank false e = refl

pub lacking : (text : Text) → has_no_blank text ≡ true → LacksBlank text
lacking text h = λ k d within. unblank _ (AllPass-from_list_all (λ byte. not (nat_eq byte 32)) text h k d within)

begins_not : (word start : Text) → ((rest : Text) → word ≢ start ++ rest) → begins word start ≡ false
begins_not word start none =
    false_from_ne_true (begins word start) (λ is. none _ ((starts_is Decides-eqb word start (begins word start) refl).0 is))

others : (number : ℕ) (word : Text) → HasNoPrefix word → numbered_word number word ≡ word
others number word none =
    rw (begins_not word (codes "PLAN_") none.name, begins_not word (codes "(PLAN_") none.after_bracket, begins_not word (codes "plan_") none.type_name)
    refl

next_word : (number : ℕ) (word rest : Text) → has_no_blank word ≡ true
    → numbered number (word ++ (codes " " ++ rest)) ≡ numbered number word ++ (codes " " ++ numbered number rest)
next_word number word rest h =
    numbered_more number (word ++ (codes " " ++ rest)) word rest refl (lacking word h)
    ∙ ap (λ l. l ++ (codes " " ++ numbered number rest)) (sym (numbered_last number word (lacking word h)))

named : (number : ℕ) (name : Text) → has_no_blank name ≡ true → numbered number (codes "PLAN_" ++ name) ≡ with_prefix number name
named number name h = numbered_last number (codes "PLAN_" ++ name) (lacking (codes "PLAN_" ++ name) h)

pub lines-numbered : LinesAreNumbered
lines-numbered number name meaning h =
    next_word number (codes "#define") (codes "PLAN_" ++ (capitals name ++ (codes " " ++ (meaning ++ codes "\n")))) refl
    ∙ ap (λ l. codes "#define " ++ l)
    (next_word number (codes "PLAN_" ++ capitals name) (meaning ++ codes "\n") h
    ∙ ap (λ l. l ++ (codes " " ++ numbered number (meaning ++ codes "\n"))) (named number (capitals name) h))

pub names-numbered : (number : ℕ) → NamesAreNumbered number
names-numbered number = record {
  name = named number;
  after_bracket = λ name h. numbered_last number (codes "(PLAN_" ++ name) (lacking (codes "(PLAN_" ++ name) h);
  type_name = λ name h. numbered_last number (codes "plan_" ++ name) (lacking (codes "plan_" ++ name) h);
  other = λ word h none. numbered_last number word (lacking word h) ∙ others number word none;
  next = next_word number;
}

-- ---- different numbers

digits_alone : (digits : List ℕ) → AllDigits 10 digits → All (λ byte. nat_eq byte 95 ≡ false) digits
digits_alone [] are = λ k d within. absurd (omega (arith, within))
digits_alone (digit ∷ digits) are =
    All-cons (λ byte. nat_eq byte 95 ≡ false) digit digits (ne_eqb digit 95 (λ e. omega (arith, digit_from_value digit are.0, e)))
    (digits_alone digits are.1)

cut_at : (number : ℕ) (name : Text) → number < 16
    → get_or (slice_split (λ byte. nat_eq byte 95) (decimal number ++ (codes "_" ++ name))) 0 [] ≡ decimal number
cut_at number name small =
    let few : number < 2 ^ 64 = omega (arith, small) in
    ap (λ parts. get_or parts 0 [])
    (slice_split_at (λ byte. nat_eq byte 95) (decimal number) 95 name
    (digits_alone (decimal number) (decimal_is_IsNumeral number few).0.1) refl)

pub share-no-name : WordsShareNoName
share-no-name j k first second j_few k_few differ e =
    let j_small : j < 2 ^ 64 = omega (arith, j_few) in
    let k_small : k < 2 ^ 64 = omega (arith, k_few) in
    let later : decimal j ++ (codes "_" ++ first) ≡ decimal k ++ (codes "_" ++ second) = ap (drop 4) e in
    differ
    (decimal_injective j k j_small k_small
    (sym (cut_at j first j_few) ∙ ap (λ t. get_or (slice_split (λ byte. nat_eq byte 95) t) 0 []) later ∙ cut_at k second k_few))

-- ---- names of plans

upper_blank : (byte : ℕ) → to_ascii_uppercase byte ≡ 32 → byte ≡ 32
upper_blank byte e = grind (arith, nat_tests, e)

-- a letter, a digit or an underscore is no blank, also as a capital
never_blank : (byte : ℕ) → is_name_byte byte ≡ true → not (nat_eq (to_ascii_uppercase byte) 32) ≡ true
never_blank byte h =
    ap not
    (false_from_ne_true (nat_eq (to_ascii_uppercase byte) 32)
    (λ is.
    let same : byte ≡ 32 = upper_blank byte (eqb-true (to_ascii_uppercase byte) 32 is) in
    let lie : true ≡ false = sym h ∙ ap is_name_byte same in
    absurd (cc)))

capital_names : (name : Text) → list_all is_name_byte name ≡ true → has_no_blank (capitals name) ≡ true
capital_names [] h = refl
capital_names (byte ∷ name) h =
    let parts = and_parts (is_name_byte byte) (list_all is_name_byte name) h in
    and_from _ _ (never_blank byte parts.0) (capital_names name parts.1)

pub names-have-no-blank : NamesHaveNoBlank
names-have-no-blank name h = capital_names name (and_parts _ (list_all is_name_byte name) h).1
