-- A row of guards is tested part by part.
use Rattle.cell_word.proofs.Names.{◌≡◌, ℕ, Option, Some, None, Result, Ok, Err, List, [], ◌∷◌, ◌++◌, refl, ap, ◌∙◌, sym, take, append-nil, option_or, IsErrAnd, first_refusal, unless, checked, Guard}
use Rattle.std.proofs.Common.{drop}
use Rattle.std.proofs.lemmas.List.{take-append-drop}
use Rattle.cell_types.specs.declared.answer.Refusal.{Refusal}
use Rattle.cell_word.proofs.Windows.{first-append}

-- the result of two parts
unfoldable pub then : {A : Type 0} → Result (Unit {0}) Refusal → Result A Refusal → Result A Refusal
then (Ok u) y = y
then (Err r) y = Err r

pub go : {A : Type 0} {x : Result (Unit {0}) Refusal} {y : Result A Refusal} → x ≡ Ok tt → then x y ≡ y
unfolding then
go {y = y} e = ap (λ x. then x y) e

pub stop : {A : Type 0} {x : Result (Unit {0}) Refusal} {r : Refusal} → x ≡ Err r → (y : Result A Refusal) → then x y ≡ Err r
unfolding then
stop e y = ap (λ x. then x y) e

either : {A : Type 0} (a b : Option Refusal) (p : A) → unless (option_or a b) p ≡ then (unless a tt) (unless b p)
unfolding then
either None b p = refl
either (Some r) b p = refl

pub in_parts : {A : Type 0} (w : ℕ) (a b : List Guard) (p : A) → unless (first_refusal w (a ++ b)) p ≡ then (checked w a) (unless (first_refusal w b) p)
in_parts w a b p = ap (λ o. unless o p) (first-append w a b) ∙ either (first_refusal w a) (first_refusal w b) p

-- a refusal is handed on
refused : {A : Type 0} (x : Result A Refusal) (r : Refusal) → IsErrAnd x (λ y. y ≡ r) → x ≡ Err r
refused (Ok a) r k = absurd k
refused (Err y) r k = ap Err k

-- the row that the parts make and one last part, and its result
abbrev pub joined : List (List Guard) → List Guard → List Guard
joined [] last = last
joined (part ∷ parts) last = part ++ joined parts last

abbrev pub in_turn : {A : Type 0} → ℕ → List (List Guard) → Result A Refusal → Result A Refusal
in_turn w [] last = last
in_turn w (part ∷ parts) last = then (checked w part) (in_turn w parts last)

pub record InTurn {A : Type 0} (w : ℕ) (parts : List (List Guard)) (last row : Result A Refusal) : Type 0 where
  pub is : row ≡ in_turn w parts last

before : {A : Type 0} (w : ℕ) (parts : List (List Guard)) (last : List Guard) (p : A) → unless (first_refusal w (joined parts last)) p ≡ in_turn w parts (unless (first_refusal w last) p)
before w [] last p = refl
before w (part ∷ parts) last p = in_parts w part (joined parts last) p ∙ ap (then (checked w part)) (before w parts last p)

pub by_parts : {A : Type 0} (w : ℕ) (parts : List (List Guard)) (p : A) → InTurn w parts (Ok p) (unless (first_refusal w (joined parts [])) p)
by_parts w parts p = record { is = before w parts [] p }

-- a row by how many guards each of its parts has, but for the last part
abbrev pub split : List ℕ → List Guard → List (List Guard)
split [] row = row ∷ []
split (n ∷ ns) row = take n row ∷ split ns (drop n row)

whole : (ns : List ℕ) (row : List Guard) → joined (split ns row) [] ≡ row
whole [] row = append-nil row
whole (n ∷ ns) row = ap (λ rest. take n row ++ rest) (whole ns (drop n row)) ∙ take-append-drop n row

pub by_counts : {A : Type 0} (w : ℕ) (ns : List ℕ) (row : List Guard) (p : A) → InTurn w (split ns row) (Ok p) (unless (first_refusal w row) p)
by_counts w ns row p = record { is = ap (λ row. unless (first_refusal w row) p) (sym (whole ns row)) ∙ before w (split ns row) [] p }

pub by_parts_to : (w : ℕ) (parts : List (List Guard)) (last : List Guard) → InTurn w parts (checked w last) (checked w (joined parts last))
by_parts_to w parts last = record { is = before w parts last tt }

-- a part that passes leads to the next part, and one that refuses ends the row; a refusal is handed on
pub past : {A : Type 0} {w : ℕ} {part : List Guard} {parts : List (List Guard)} {last row : Result A Refusal} {q : Result (Unit {0}) Refusal} → InTurn w (part ∷ parts) last row → q ≡ checked w part → q ≡ Ok tt → InTurn w parts last row
past k e passes = record { is = k.is ∙ go (sym e ∙ passes) }

pub refused_by : {A : Type 0} {w : ℕ} {part : List Guard} {parts : List (List Guard)} {last row x : Result A Refusal} {q : Result (Unit {0}) Refusal} {r : Refusal} → InTurn w (part ∷ parts) last row → q ≡ checked w part → q ≡ Err r → IsErrAnd x (λ y. y ≡ r) → x ≡ row
refused_by {x = x} {r = r} k e stops is = refused x r is ∙ sym (k.is ∙ stop (sym e ∙ stops) _)

pub ends : {A : Type 0} {w : ℕ} {last row x : Result A Refusal} → InTurn w [] last row → x ≡ last → x ≡ row
ends k e = e ∙ sym k.is

-- the result of one guard, by the name of the guard
pub asked : (w : ℕ) {q : Result (Unit {0}) Refusal} {g h : Guard} → q ≡ checked w (g ∷ []) → g ≡ h → q ≡ checked w (h ∷ [])
asked w e f = e ∙ ap (λ (g : Guard). checked w (g ∷ [])) f

-- what a row's result shows
pub was_refused : {A : Type 0} (o : Option Refusal) (p : A) (r : Refusal) → unless o p ≡ Err r → o ≡ Some r
was_refused None p r e = cc
was_refused (Some x) p r e = cc

pub was_passed : {A : Type 0} (o : Option Refusal) (p q : A) → unless o p ≡ Ok q → (o ≡ None) × (p ≡ q)
was_passed None p q e = (refl, cc)
was_passed (Some x) p q e = cc
