-- Which places are named, one name after another.
use Rattle.std.proofs.Common.{◌≡◌, ◌≢◌, ◌∙◌, ◌+◌, ◌<◌, ◌∷◌, [], ℕ, Bool, true, false, ◌||◌, List, length, take, get_or, set, refl, sym, ap, inl, inr, eq-eqb, ne_eqb, string_bytes, IsTrue}
use Rattle.std.proofs.Common.{Some, get_or-set_same, get_or-set_other}
use Rattle.std.proofs.lemmas.Bool.{cases_eq}
use Rattle.std.proofs.lemmas.List.Folds.{list_all-append, list_any_more}
use Rattle.std.specs.List.{list_all}
use Rattle.std.specs.Prelude.{String}
use Rattle.std.specs.declared.alloc.Global.{Global}
use Rattle.plan_text.specs.Names.{Text, number_in}
use Rattle.plan_document.specs.Motors.{is_known, is_listed, is_named}
use Rattle.plan_document.proofs.Growing.{row_more}

or_true : (b : Bool) → (b || true) ≡ true
or_true true = refl
or_true false = refl

or_false : (b : Bool) → (b || false) ≡ b
or_false true = refl
or_false false = refl

-- one more name marks its place
pub listed_more : (places : List Text) (names : List (String Global)) (i : ℕ) (name : String Global) (named : ℕ) (listed : List Bool) → i < length names → name ≡ get_or names i name
    → number_in places (string_bytes name) ≡ Some named → named < length listed
    → ((place : ℕ) → place < 16 → get_or listed place false ≡ is_listed places (take i names) place)
    → (place : ℕ) → place < 16 → get_or (set listed named true) place false ≡ is_listed places (take (i + 1) names) place
listed_more places names i name named listed within is about room before place small =
    elim (cases_eq place named) [
      | inl same ↦ here same
      | inr apart ↦ elsewhere apart
    ]
  where
    more : is_listed places (take (i + 1) names) place ≡ (is_listed places (take i names) place || is_named places place name)
    more =
        list_any_more (is_named places place) names i name within
        ∙ ap (λ (n : String Global). is_listed places (take i names) place || is_named places place n) (sym is)

    own : is_named places named name ≡ true
    own = rw (about, eq-eqb named named refl) refl

    other : place ≢ named → is_named places place name ≡ false
    other apart = rw (about, ne_eqb named place (λ e. apart (sym e))) refl

    here : place ≡ named → get_or (set listed named true) place false ≡ is_listed places (take (i + 1) names) place
    here same =
        rw same (get_or-set_same listed named true false room)
        ∙ sym (more ∙ ap (λ b. is_listed places (take i names) place || b) (rw same own) ∙ or_true (is_listed places (take i names) place))

    elsewhere : place ≢ named → get_or (set listed named true) place false ≡ is_listed places (take (i + 1) names) place
    elsewhere apart =
        get_or-set_other listed named place true false apart
        ∙ before place small
        ∙ sym (more ∙ ap (λ b. is_listed places (take i names) place || b) (other apart) ∙ or_false (is_listed places (take i names) place))

-- and is one of a place
pub known_more : (places : List Text) (names : List (String Global)) (i : ℕ) (name : String Global) (named : ℕ) → i < length names → name ≡ get_or names i name
    → number_in places (string_bytes name) ≡ Some named
    → IsTrue (list_all (is_known places) (take i names)) → IsTrue (list_all (is_known places) (take (i + 1) names))
known_more places names i name named within is about all =
    ap (list_all (is_known places)) (row_more names i name within is)
    ∙ list_all-append (is_known places) (take i names) (name ∷ [])
    ∙ rw (all, about) refl
