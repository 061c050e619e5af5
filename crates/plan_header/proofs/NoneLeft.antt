-- No word of a numbered text begins with a prefix without a number.
use Rattle.std.proofs.Common.{◌≡◌, ◌≢◌, ◌∙◌, ◌<◌, ◌^◌, ◌++◌, ◌∷◌, [], ℕ, zero, suc, Bool, true, false, cond, nat_eq, List, codes, drop, get_or, length, map, refl, sym, ap, subst, arith, ne_eqb, if◌then◌else◌}
use Rattle.std.proofs.lemmas.Bool.Decides.{Decides-eqb}
use Rattle.std.proofs.lemmas.Fmt.{decimal_is_IsNumeral}
use Rattle.std.proofs.lemmas.List.{append-nil, get_or_append_left}
use Rattle.std.proofs.lemmas.List.Elements.{All-append, All-cons, All-head, All-map, All-nil, All-tail}
use Rattle.std.proofs.lemmas.List.Splits.{slice_split_at, slice_split_none}
use Rattle.std.proofs.lemmas.Slice.Eq.{starts_is}
use Rattle.std.proofs.lemmas.Str.Parse.{digit_at, digit_from_value}
use Rattle.std.specs.Fmt.{decimal}
use Rattle.std.specs.List.{All, join_by, onto_first}
use Rattle.std.specs.Str.Parse.{AllDigits}
use Rattle.plan_text.specs.Names.{Text}
use Rattle.plan_document.specs.Saying.{words_in}
use Rattle.plan_header.specs.Numbered.{begins, numbered_word, put_after}
use Rattle.plan_header.specs.NumberLaws.{HasNoPrefix, NoneIsLeft}
use Rattle.plan_header.proofs.NumbersTold.{lacking}
use Rattle.plan_header.proofs.Numbering.{LacksBlank, joined, some_words}

abbrev IsPlain : ℕ → Type 0
IsPlain byte = nat_eq byte 32 ≡ false

-- ---- words without blanks

words_plain : (text : Text) → All LacksBlank (words_in text)
words_plain [] = All-cons LacksBlank [] [] (All-nil IsPlain) (All-nil LacksBlank)
words_plain (byte ∷ text) = by (nat_eq byte 32) refl (words_in text) (words_plain text)
  where
    by : (blank : Bool) → nat_eq byte 32 ≡ blank → (words : List Text) → All LacksBlank words
        → All LacksBlank (cond blank ([] ∷ words) (onto_first byte words))
    by true e words plain = All-cons LacksBlank [] words (All-nil IsPlain) plain
    by false e [] plain = All-cons LacksBlank (byte ∷ []) [] (All-cons IsPlain byte [] e (All-nil IsPlain)) (All-nil LacksBlank)
    by false e (word ∷ words) plain =
        All-cons LacksBlank (byte ∷ word) words (All-cons IsPlain byte word e (All-head LacksBlank word words plain))
        (All-tail LacksBlank word words plain)

words_joined : (f : Text → Text) (words : List Text) → 0 < length words → All (λ word. LacksBlank (f word)) words
    → words_in (join_by f (codes " ") words) ≡ map f words
words_joined f [] some plain = absurd (omega (arith, some))
words_joined f (word ∷ []) some plain =
    ap words_in (append-nil (f word))
    ∙ slice_split_none (λ byte. nat_eq byte 32) (f word) (All-head (λ w. LacksBlank (f w)) word [] plain)
words_joined f (word ∷ next ∷ words) some plain =
    ap (λ l. words_in (f word ++ l)) (joined f (codes " ") (next ∷ words) (omega arith))
    ∙ slice_split_at (λ byte. nat_eq byte 32) (f word) 32 (join_by f (codes " ") (next ∷ words))
    (All-head (λ w. LacksBlank (f w)) word (next ∷ words) plain) refl
    ∙ ap (λ l. f word ∷ l)
    (words_joined f (next ∷ words) (omega arith) (All-tail (λ w. LacksBlank (f w)) word (next ∷ words) plain))

-- ---- one word

digits_plain : (digits : List ℕ) → AllDigits 10 digits → All IsPlain digits
digits_plain [] are = All-nil IsPlain
digits_plain (digit ∷ digits) are =
    All-cons IsPlain digit digits (ne_eqb digit 32 (λ e. omega (arith, digit_from_value digit are.0, e)))
    (digits_plain digits are.1)

dropped_plain : (n : ℕ) (text : Text) → LacksBlank text → LacksBlank (drop n text)
dropped_plain zero text plain = plain
dropped_plain (suc n) [] plain = plain
dropped_plain (suc n) (byte ∷ text) plain = dropped_plain n text (All-tail IsPlain byte text plain)

begins_else : (word start : Text) → begins word start ≡ false → (rest : Text) → word ≢ start ++ rest
begins_else word start other rest e =
    let yes : begins word start ≡ true = (starts_is Decides-eqb word start (begins word start) refl).1 rest e in
    absurd (cc)

module _ (number : ℕ) (small : number < 16) (word : Text) where
  few : number < 2 ^ 64
  few = omega (arith, small)

  put_plain : (start : Text) → LacksBlank start → LacksBlank word → LacksBlank (put_after start number word)
  put_plain start free plain =
      All-append IsPlain start (decimal number ++ drop (length start) word) free
      (All-append IsPlain (decimal number) (drop (length start) word)
      (digits_plain (decimal number) (decimal_is_IsNumeral number few).0.1) (dropped_plain (length start) word plain))

  word_plain : LacksBlank word → LacksBlank (numbered_word number word)
  word_plain plain = by (begins word (codes "PLAN_")) (begins word (codes "(PLAN_")) (begins word (codes "plan_"))
    where
      by : (a b c : Bool) → LacksBlank
          (if a then put_after (codes "PLAN") number word
          else if b then put_after (codes "(PLAN") number word
          else if c then put_after (codes "plan") number word
          else word)
      by true b c = put_plain (codes "PLAN") (lacking (codes "PLAN") refl) plain
      by false true c = put_plain (codes "(PLAN") (lacking (codes "(PLAN") refl) plain
      by false false true = put_plain (codes "plan") (lacking (codes "plan") refl) plain
      by false false false = plain

  -- after the start of a name comes a digit, and no underscore
  not_next : (rest later : Text) → decimal number ++ rest ≡ codes "_" ++ later → ⊥
  not_next rest later e =
      let some : 0 < length (decimal number) = (decimal_is_IsNumeral number few).0.0 in
      let digit = digit_at (decimal number) 0 (decimal_is_IsNumeral number few).0.1 some in
      let first : get_or (decimal number ++ rest) 0 0 ≡ 95 = ap (λ l. get_or l 0 0) e in
      omega (arith, digit, first, get_or_append_left (decimal number) rest 0 0 some)

  apart : (k : ℕ) (one other : Text) → get_or one k 0 ≢ get_or other k 0 → one ≢ other
  apart k one other differ e = differ (ap (λ l. get_or l k 0) e)

  no_prefix : HasNoPrefix (numbered_word number word)
  no_prefix = by (begins word (codes "PLAN_")) refl (begins word (codes "(PLAN_")) refl (begins word (codes "plan_")) refl
    where
      by : (a : Bool) → begins word (codes "PLAN_") ≡ a → (b : Bool) → begins word (codes "(PLAN_") ≡ b
          → (c : Bool) → begins word (codes "plan_") ≡ c → HasNoPrefix
          (if a then put_after (codes "PLAN") number word
          else if b then put_after (codes "(PLAN") number word
          else if c then put_after (codes "plan") number word
          else word)
      by true is b ib c ic = record {
        name = λ rest e. not_next (drop 4 word) rest (ap (drop 4) e);
        after_bracket = λ rest. apart 0 _ _ (λ e. omega (arith, e));
        type_name = λ rest. apart 0 _ _ (λ e. omega (arith, e));
      }
      by false is true ib c ic = record {
        name = λ rest. apart 0 _ _ (λ e. omega (arith, e));
        after_bracket = λ rest e. not_next (drop 5 word) rest (ap (drop 5) e);
        type_name = λ rest. apart 0 _ _ (λ e. omega (arith, e));
      }
      by false is false ib true ic = record {
        name = λ rest. apart 0 _ _ (λ e. omega (arith, e));
        after_bracket = λ rest. apart 0 _ _ (λ e. omega (arith, e));
        type_name = λ rest e. not_next (drop 4 word) rest (ap (drop 4) e);
      }
      by false is false ib false ic = record {
        name = begins_else word (codes "PLAN_") is;
        after_bracket = begins_else word (codes "(PLAN_") ib;
        type_name = begins_else word (codes "plan_") ic;
      }

pub none-left : NoneIsLeft
none-left number text small =
    let words = words_in text in
    let plain : All (λ word. LacksBlank (numbered_word number word)) words =
    λ k d within. word_plain number small (get_or words k d) (words_plain text k d within) in
    subst (All HasNoPrefix) (sym (words_joined (numbered_word number) words (some_words text) plain))
    (All-map HasNoPrefix (numbered_word number) words (λ k d within. no_prefix number small (get_or words k d)))
