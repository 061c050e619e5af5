-- What rows say of a zone, one row after another.
use Rattle.std.proofs.Common.{◌≡◌, ◌≢◌, ◌∙◌, ◌+◌, ◌<◌, ◌++◌, ◌∷◌, [], ℕ, List, length, take, get_or, set, refl, sym, ap, inl, inr, append-nil, eq-eqb, ne_eqb, string_bytes, IsTrue}
use Rattle.std.proofs.Common.{Option, Some, None, filter_map, get_or-set_same, get_or-set_other}
use Rattle.std.proofs.lemmas.Bool.{cases_eq}
use Rattle.std.proofs.lemmas.List.Elements.{filter_map-append}
use Rattle.std.proofs.lemmas.List.Folds.{list_all-append}
use Rattle.std.specs.List.{cons_option, last_or, list_all}
use Rattle.plan_text.specs.Names.{Text, number_in}
use Rattle.plan_document.specs.Postures.{given, given_by, gives_zone}
use Rattle.plan_document.specs.declared.document.PostureRow.{PostureRow}
use Rattle.plan_document.proofs.Growing.{row_more}

last_push : {X : Type 0} (o : Option X) (xs : List X) (x : X) → last_or o (xs ++ x ∷ []) ≡ Some x
last_push o [] x = refl
last_push o (y ∷ ys) x = last_push (Some y) ys x

given_push : {X : Type 0} (meaning : Text → Option X) (zones : List Text) (rows : List PostureRow) (row : PostureRow) (zone : ℕ) (posture : Option X) → given_by meaning zones zone row ≡ posture → given meaning zones (rows ++ row ∷ []) zone ≡ last_or None (filter_map (given_by meaning zones zone) rows ++ cons_option posture [])
given_push {X = X} meaning zones rows row zone posture is =
    ap (last_or None)
    (filter_map-append (given_by meaning zones zone) rows (row ∷ []) ∙ ap (λ (o : Option X). filter_map (given_by meaning zones zone) rows ++ cons_option o []) is)

pub given_here : {X : Type 0} (meaning : Text → Option X) (zones : List Text) (rows : List PostureRow) (row : PostureRow) (zone : ℕ) (posture : X) → given_by meaning zones zone row ≡ Some posture → given meaning zones (rows ++ row ∷ []) zone ≡ Some posture
given_here meaning zones rows row zone posture is =
    given_push meaning zones rows row zone (Some posture) is ∙ last_push None (filter_map (given_by meaning zones zone) rows) posture

given_elsewhere : {X : Type 0} (meaning : Text → Option X) (zones : List Text) (rows : List PostureRow) (row : PostureRow) (zone : ℕ) → given_by meaning zones zone row ≡ None → given meaning zones (rows ++ row ∷ []) zone ≡ given meaning zones rows zone
given_elsewhere meaning zones rows row zone is =
    given_push meaning zones rows row zone None is ∙ ap (last_or None) (append-nil (filter_map (given_by meaning zones zone) rows))

-- a row gives its posture to its own zone alone
by_own : {X : Type 0} (meaning : Text → Option X) (zones : List Text) (row : PostureRow) (zone : ℕ) (posture : X) → number_in zones (string_bytes row.zone) ≡ Some zone → meaning (string_bytes row.posture) ≡ Some posture → given_by meaning zones zone row ≡ Some posture
by_own meaning zones row zone posture named word = rw (named, eq-eqb zone zone refl, word) refl

by_other : {X : Type 0} (meaning : Text → Option X) (zones : List Text) (row : PostureRow) (zone named : ℕ) → number_in zones (string_bytes row.zone) ≡ Some named → named ≢ zone → given_by meaning zones zone row ≡ None
by_other meaning zones row zone named is apart = rw (is, ne_eqb named zone apart) refl

-- one more row sets the posture of its zone
pub given_more : {X : Type 0} (bound : ℕ) (meaning : Text → Option X) (zones : List Text) (rows : List PostureRow) (i : ℕ) (row : PostureRow) (named : ℕ) (posture : X) (gives : List (Option X)) → i < length rows → row ≡ get_or rows i row
    → number_in zones (string_bytes row.zone) ≡ Some named → meaning (string_bytes row.posture) ≡ Some posture → named < length gives
    → ((zone : ℕ) → zone < bound → get_or gives zone None ≡ given meaning zones (take i rows) zone)
    → (zone : ℕ) → zone < bound → get_or (set gives named (Some posture)) zone None ≡ given meaning zones (take (i + 1) rows) zone
given_more bound meaning zones rows i row named posture gives within is about word room before zone small =
    elim (cases_eq zone named) [
      | inl same ↦ here same
      | inr apart ↦ elsewhere apart
    ]
  where
    more : given meaning zones (take (i + 1) rows) zone ≡ given meaning zones (take i rows ++ row ∷ []) zone
    more = ap (λ rs. given meaning zones rs zone) (row_more rows i row within is)

    here : zone ≡ named → get_or (set gives named (Some posture)) zone None ≡ given meaning zones (take (i + 1) rows) zone
    here same =
        rw same (get_or-set_same gives named (Some posture) None room)
        ∙ sym (more ∙ given_here meaning zones (take i rows) row zone posture (rw same (by_own meaning zones row named posture about word)))

    elsewhere : zone ≢ named → get_or (set gives named (Some posture)) zone None ≡ given meaning zones (take (i + 1) rows) zone
    elsewhere apart =
        get_or-set_other gives named zone (Some posture) None apart
        ∙ before zone small
        ∙ sym (more ∙ given_elsewhere meaning zones (take i rows) row zone (by_other meaning zones row zone named about (λ e. apart (sym e))))

-- and is a row that gives something
pub known_more : {X : Type 0} (meaning : Text → Option X) (zones : List Text) (rows : List PostureRow) (i : ℕ) (row : PostureRow) (named : ℕ) (posture : X) → i < length rows → row ≡ get_or rows i row
    → number_in zones (string_bytes row.zone) ≡ Some named → meaning (string_bytes row.posture) ≡ Some posture
    → IsTrue (list_all (gives_zone meaning zones) (take i rows)) → IsTrue (list_all (gives_zone meaning zones) (take (i + 1) rows))
known_more meaning zones rows i row named posture within is about word all =
    ap (list_all (gives_zone meaning zones)) (row_more rows i row within is)
    ∙ list_all-append (gives_zone meaning zones) (take i rows) (row ∷ [])
    ∙ rw (all, about, word) refl
