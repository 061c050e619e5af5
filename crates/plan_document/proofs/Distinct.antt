-- Names that are distinct: each is found at its own number.
use Rattle.std.proofs.Common.{◌≡◌, ◌∙◌, ◌<◌, ◌++◌, ◌∷◌, [], ℕ, zero, suc, List, Bool, true, false, ◌||◌, length, map, refl, ap, sym, arith, inl, inr}
use Rattle.std.proofs.Common.{Option, Some, None, add-one, string_bytes}
use Rattle.std.specs.Prelude.{String}
use Rattle.std.specs.declared.alloc.Global.{Global}
use Rattle.std.proofs.lemmas.Bool.{cases_lt, false_from_ne_true}
use Rattle.std.proofs.lemmas.List.Folds.{list_any_at}
use Rattle.std.proofs.lemmas.List.{get_or_append_left, get_or_push, length_push}
use Rattle.std.proofs.lemmas.Slice.Eq.{bytes_eq-Decides}
use Rattle.std.specs.Bool.{then_some}
use Rattle.std.specs.List.{list_any}
use Rattle.std.specs.Option.{option_or}
use Rattle.std.specs.Str.{bytes_eq}
use Rattle.plan_types.specs.Below.{first_below}
use Rattle.plan_types.proofs.lemmas.Below.{first_below_all}
use Rattle.plan_text.specs.Names.{Text, name_in, number_if, number_in}
use Rattle.plan_document.specs.Names.{AreDistinct}

first_below_same : (f g : ℕ → Option ℕ) (n : ℕ) → ((k : ℕ) → k < n → f k ≡ g k) → first_below f n ≡ first_below g n
first_below_same f g zero same = refl
first_below_same f g (suc n) same =
    rw (first_below_same f g n (λ k l. same k (omega arith)), same n (omega arith)) refl

-- an added name leaves those before it in their places
before_push : (names : List Text) (name : Text) (k : ℕ) → k < length names → name_in (names ++ name ∷ []) k ≡ name_in names k
before_push names name k l = get_or_append_left names (name ∷ []) [] k l

at_push : (names : List Text) (name : Text) → name_in (names ++ name ∷ []) (length names) ≡ name
at_push names name = get_or_push names name [] (length names) refl

number_push : (names : List Text) (name wanted : Text) → number_in (names ++ name ∷ []) wanted ≡ option_or (number_in names wanted) (then_some (bytes_eq name wanted) (length names))
number_push names name wanted =
    ap (first_below (number_if (names ++ name ∷ []) wanted)) (length_push names name ∙ add-one (length names))
    ∙ ap (λ o. option_or o (number_if (names ++ name ∷ []) wanted (length names)))
    (first_below_same (number_if (names ++ name ∷ []) wanted) (number_if names wanted) (length names)
    (λ k l. ap (λ (w : Text). then_some (bytes_eq w wanted) k) (before_push names name k l)))
    ∙ ap (λ (w : Text). option_or (number_in names wanted) (then_some (bytes_eq w wanted) (length names))) (at_push names name)

same_bytes : (name : Text) → bytes_eq name name ≡ true
same_bytes name = (bytes_eq-Decides name name).1 refl

-- a name that is none of these texts has no number among them
pub any_mapped : {A B : Type 0} (f : A → B) (test : B → Bool) (xs : List A) → list_any test (map f xs) ≡ list_any (λ x. test (f x)) xs
any_mapped f test [] = refl
any_mapped f test (x ∷ xs) = ap (λ b. test (f x) || b) (any_mapped f test xs)

not_among : (texts : List (String Global)) (name : Text) → list_any (λ text. bytes_eq (string_bytes text) name) texts ≡ false
    → number_in (map string_bytes texts) name ≡ None
not_among texts name none = first_below_all (number_if names name) (length names) each
  where
    names : List Text
    names = map string_bytes texts

    other : (k : ℕ) → k < length names → bytes_eq (name_in names k) name ≡ false
    other k l =
        false_from_ne_true _
        (λ same. let lie : false ≡ true = sym none ∙ sym (any_mapped string_bytes (λ text. bytes_eq text name) texts) ∙ list_any_at (λ text. bytes_eq text name) names k [] l same in absurd (cc))

    each : (k : ℕ) → k < length names → number_if names name k ≡ None
    each k l = ap (λ same. then_some same k) (other k l)

pub new_among : (texts others : List (String Global)) (name word : Text) (among : Bool) → others ≡ texts → word ≡ name → among ≡ list_any (λ text. bytes_eq (string_bytes text) word) others → among ≡ false
    → number_in (map string_bytes texts) name ≡ None
new_among texts others name word among same read is none =
    not_among texts name
    (ap (λ t. list_any (λ text. bytes_eq (string_bytes text) name) t) (sym same) ∙ ap (λ w. list_any (λ text. bytes_eq (string_bytes text) w) others) (sym read) ∙ sym is ∙ none)

-- a new name that no name before it is
pub distinct_more : (names : List Text) (name : Text) → number_in names name ≡ None → AreDistinct names → AreDistinct (names ++ name ∷ [])
distinct_more names name new all k l =
    elim (cases_lt k (length names)) [
      | inl h ↦ rw (before_push names name k h) (number_push names name (name_in names k) ∙ rw (all k h) refl)
      | inr h ↦ last (omega (arith, length_push names name))
    ]
  where
    last : k ≡ length names → number_in (names ++ name ∷ []) (name_in (names ++ name ∷ []) k) ≡ Some k
    last e =
        rw (e, at_push names name) (number_push names name name ∙ rw (new, same_bytes name) refl)
