-- The laws of `scripts_are_found`.
use Rattle.std.proofs.Common.{◌≡◌, ℕ, zero, suc, ◌<◌, ◌≤◌, ◌-◌, ◌==◌, ◌&&◌, ◌||◌, Bool, true, false, not}
use Rattle.std.proofs.Common.{List, [], ◌∷◌, ◌++◌, codes, length, take, drop, get_or, Option, Some, None, inl, inr, refl, sym, ap, ◌∙◌, arith}
use Rattle.std.proofs.Common.{append-nil, append_assoc, add-one, min}
use Rattle.std.specs.Prelude.{nat_eq, unwrap_or}
use Rattle.std.specs.Option.{option_or}
use Rattle.std.specs.List.{starts_with}
use Rattle.std.specs.Bool.{then_some}
use Rattle.std.proofs.Math.Nat.{min-eq_left}
use Rattle.std.proofs.Math.Seq.{drop-append_seam, drop-cons, get_or-append_seam, take-append_seam, take-length}
use Rattle.std.proofs.lemmas.Bool.{and_from, eqb-true, false_from_ne_true, ne_eqb}
use Rattle.std.proofs.lemmas.Bool.Decides.{Decides-eqb}
use Rattle.std.proofs.lemmas.List.{drop-append-le, get_or_append_left, length-append, take-append-drop}
use Rattle.std.proofs.lemmas.Slice.Eq.{starts_is}
use Rattle.plan_types.specs.Below.{first_below}
use Rattle.plan_types.proofs.lemmas.Below.{below_next, first_below_all}
use Rattle.plan_app.specs.Input.{begin_at, document_in, is_begin, plan_length}
use Rattle.plan_app.specs.InputLaws.{NoBegin, ScriptsAreFound, with_script}

-- ---- the first line that begins so

-- the first number with a value
found : {A : Type 0} (f : ℕ → Option A) (k : ℕ) (x : A) → f k ≡ Some x → ((i : ℕ) → i < k → f i ≡ None) → (n : ℕ) → k < n
    → first_below f n ≡ Some x
found f k x is none zero l = absurd (omega (arith, l))
found f k x is none (suc n) l =
    elim (below_next k n l) [
      | inl h ↦ ap (λ o. option_or o (f n)) (found f k x is none n h)
      | inr h ↦ rw (first_below_all f n (λ i j. none i (omega (arith, j, h))), ← h) is
    ]

no_value : (bytes : List ℕ) (at : ℕ) → is_begin bytes at ≡ false → begin_at bytes at ≡ None
no_value bytes at unbegun = ap (λ is. then_some is at) unbegun

pub long : (bytes : List ℕ) (k : ℕ) → k < length bytes → is_begin bytes k ≡ true → ((i : ℕ) → i < k → is_begin bytes i ≡ false)
    → plan_length bytes ≡ k
long bytes k l here unbegun =
    let first : first_below (begin_at bytes) (length bytes) ≡ Some k =
    found (begin_at bytes) k k (ap (λ is. then_some is k) here) (λ i j. no_value bytes i (unbegun i j)) (length bytes) l in
    ap (λ o. min (unwrap_or o (length bytes)) (length bytes)) first ∙ min-eq_left (omega (arith, l))

whole : (bytes : List ℕ) → ((i : ℕ) → i < length bytes → is_begin bytes i ≡ false) → plan_length bytes ≡ length bytes
whole bytes unbegun =
    let none : first_below (begin_at bytes) (length bytes) ≡ None =
    first_below_all (begin_at bytes) (length bytes) (λ i j. no_value bytes i (unbegun i j)) in
    ap (λ o. min (unwrap_or o (length bytes)) (length bytes)) none ∙ min-eq_left (omega arith)

-- ---- where none begins

minus : (m : ℕ) → suc m - 1 ≡ m
minus m = omega arith

not_first : (m : ℕ) → (suc m == 0) ≡ false
not_first m = ne_eqb (suc m) 0 (λ e. omega (arith, e))

-- a line begins after a line feed
after_feed : (bytes : List ℕ) (m : ℕ) → is_begin bytes (suc m)
    ≡ ((get_or bytes m 0 == 10) && starts_with nat_eq (drop (suc m) bytes) (codes "start,"))
after_feed bytes m =
    ap (λ first. (first || get_or bytes (suc m - 1) 0 == 10)
    && starts_with nat_eq (drop (suc m) bytes) (codes "start,")) (not_first m)
    ∙ ap (λ k. (get_or bytes k 0 == 10) && starts_with nat_eq (drop (suc m) bytes) (codes "start,")) (minus m)

both : (x y : Bool) → (x && y) ≡ true → (x ≡ true) × (y ≡ true)
both true y e = (refl, e)
both false y e = cc

begins : (bytes : List ℕ) → starts_with nat_eq bytes (codes "start,") ≡ true
    → (more : List ℕ) × (codes "start," ++ more ≡ bytes)
begins bytes here =
    (drop 6 bytes, sym ((starts_is Decides-eqb bytes (codes "start,") _ refl).0 here))

-- what comes after a text doesn't complete these bytes
abbrev Apart : List ℕ → Type 0
Apart after = (text more : List ℕ) → codes "start," ++ more ≡ text ++ after
    → (rest : List ℕ) × (text ≡ codes "start," ++ rest)

nothing_completes : Apart []
nothing_completes text more e = (more, sym (e ∙ append-nil text))

-- none of the bytes is a line feed
abbrev feedless : List ℕ → Bool
feedless [] = true
feedless (c ∷ cs) = not (c == 10) && feedless cs

within : (word text more after : List ℕ) → feedless word ≡ true → word ++ more ≡ text ++ 10 ∷ after
    → (rest : List ℕ) × (text ≡ word ++ rest)
within [] text more after f e = (text, refl)
within (c ∷ cs) [] more after f e = cc
within (c ∷ cs) (a ∷ text) more after f e =
    let same : a ≡ c = cc in
    let tails : cs ++ more ≡ text ++ 10 ∷ after = cc in
    let h = within cs text more after (both (not (c == 10)) (feedless cs) f).1 tails in
    (h.0, ap (λ b. b ∷ text) same ∙ ap (λ t. c ∷ t) h.1)

feed_parts : (after : List ℕ) → Apart (codes "\n" ++ after)
feed_parts after text more e = within (codes "start,") text more after refl e

-- no line of the document begins so, its end included
none_begins : (document after : List ℕ) → Apart after → NoBegin document → (at : ℕ) → at ≤ length document
    → is_begin (document ++ after) at ≡ true → ⊥
none_begins document after apart unbegun zero l here =
    let h = begins (document ++ after) here in
    let it = apart document h.0 h.1 in
    unbegun [] it.0 (ap (λ d. codes "\n" ++ d) it.1)
none_begins document after apart unbegun (suc m) l here =
    let bytes : List ℕ = document ++ after in
    let parts = both (get_or bytes m 0 == 10) (starts_with nat_eq (drop (suc m) bytes) (codes "start,"))
    (sym (after_feed bytes m) ∙ here) in
    let feed : get_or document m 0 ≡ 10 =
    sym (get_or_append_left document after 0 m (omega (arith, l))) ∙ eqb-true (get_or bytes m 0) 10 parts.0 in
    let h = begins (drop (suc m) bytes) parts.1 in
    let it = apart (drop (suc m) document) h.0 (h.1 ∙ drop-append-le (suc m) document after l) in
    let tail : drop m document ≡ codes "\nstart," ++ it.0 =
    drop-cons document m 0 (omega (arith, l)) ∙ (ap (λ c. c ∷ drop (suc m) document) feed ∙ ap (λ d. 10 ∷ d) it.1) in
    let all : document ≡ take m document ++ (codes "\nstart," ++ it.0) =
    sym (take-append-drop m document) ∙ ap (λ d. take m document ++ d) tail in
    unbegun (codes "\n" ++ take m document) it.0 (ap (λ d. codes "\n" ++ d) all)

not_within : (document after : List ℕ) → NoBegin document → (at : ℕ) → at < suc (length document)
    → is_begin (with_script document after) at ≡ false
not_within document after unbegun at l =
    false_from_ne_true (is_begin (with_script document after) at)
    (none_begins document (codes "\nstart," ++ after) (feed_parts (codes "start," ++ after)) unbegun at (omega (arith, l)))

not_alone : (document : List ℕ) → NoBegin document → (at : ℕ) → at < length document → is_begin document at ≡ false
not_alone document unbegun at l =
    false_from_ne_true (is_begin document at)
    (λ here. none_begins document [] nothing_completes unbegun at (omega (arith, l))
    (ap (λ d. is_begin d at) (append-nil document) ∙ here))

-- ---- where the script begins

-- both parts, and the line feed with the first of them
parts : (document after : List ℕ)
    → with_script document after ≡ (document ++ codes "\n") ++ (codes "start," ++ after)
parts document after = sym (append_assoc document (codes "\n") (codes "start," ++ after))

length_with_feed : (document : List ℕ) → length (document ++ codes "\n") ≡ suc (length document)
length_with_feed document = length-append document (codes "\n") ∙ add-one (length document)

rest_is : (document after : List ℕ) → drop (suc (length document)) (with_script document after) ≡ codes "start," ++ after
rest_is document after =
    ap (λ k. drop k (with_script document after)) (sym (length_with_feed document))
    ∙ (ap (drop (length (document ++ codes "\n"))) (parts document after)
    ∙ drop-append_seam (document ++ codes "\n") (codes "start," ++ after))

starts : (after : List ℕ) → starts_with nat_eq (codes "start," ++ after) (codes "start,") ≡ true
starts after = refl

begin_there : (document after : List ℕ) → is_begin (with_script document after) (suc (length document)) ≡ true
begin_there document after =
    after_feed (with_script document after) (length document)
    ∙ and_from (get_or (with_script document after) (length document) 0 == 10)
    (starts_with nat_eq (drop (suc (length document)) (with_script document after)) (codes "start,"))
    (ap (λ c. c == 10) (get_or-append_seam document 10 (codes "start," ++ after) 0))
    (ap (λ d. starts_with nat_eq d (codes "start,")) (rest_is document after) ∙ starts after)

enough : (document after : List ℕ) → suc (length document) < length (with_script document after)
enough document after =
    omega (arith, length-append document (codes "\nstart," ++ after), length-append (codes "\nstart,") after)

length_is : (document after : List ℕ) → NoBegin document
    → plan_length (with_script document after) ≡ suc (length document)
length_is document after unbegun =
    long (with_script document after) (suc (length document)) (enough document after) (begin_there document after)
    (not_within document after unbegun)

plan_is : (document after : List ℕ) → NoBegin document
    → document_in (with_script document after) ≡ document ++ codes "\n"
plan_is document after unbegun =
    ap (λ k. take k (with_script document after)) (length_is document after unbegun ∙ sym (length_with_feed document))
    ∙ (ap (take (length (document ++ codes "\n"))) (parts document after)
    ∙ take-append_seam (document ++ codes "\n") (codes "start," ++ after))

at_once : (after : List ℕ) → plan_length (codes "start," ++ after) ≡ 0
at_once after =
    long (codes "start," ++ after) 0 (omega (arith, length-append (codes "start,") after)) refl (λ i l. absurd (omega (arith, l)))

pub scripts-found : ScriptsAreFound
scripts-found = record {
  many = λ document after unbegun. length_is document after unbegun ∙ sym (add-one (length document));
  plan = plan_is;
  script = λ document after unbegun.
      ap (λ k. drop k (with_script document after)) (length_is document after unbegun) ∙ rest_is document after;
  no_script = λ document unbegun.
      ap (λ k. take k document) (whole document (not_alone document unbegun)) ∙ take-length document;
  no_plan = λ after. ap (λ k. drop k (codes "start," ++ after)) (at_once after);
}
