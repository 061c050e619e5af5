-- What single bytes of a pose's row tell.
use Rattle.std.proofs.Common.{◌≡◌, ℕ, zero, suc, ◌+◌, Bool, true, false, not, ◌&&◌, ◌||◌, nat_eq, ◌-◌, List, [], ◌∷◌, length}
use Rattle.std.proofs.Common.{take, drop, get_or, map, Option, Some, None, if◌then◌else◌, refl, sym, ap, ap₂, ◌∙◌, subst, arith}
use Rattle.std.proofs.lemmas.Bool.{eqb-true}
use Rattle.std.proofs.lemmas.List.{take_rest}
use Rattle.std.specs.List.{list_any}
use Rattle.plan_types.specs.declared.posture.Posture.{Posture}
use Rattle.plan_types.specs.declared.posture.Posture.TheVariants.{Closed, Moving, OpenIn, OpenOut}
use Rattle.plan_types.specs.Kept.{posture_told, pose_told}
use Rattle.plan_types.specs.Table.{is_moving}

told_at : (row : List ℕ) (k : ℕ) → get_or (map posture_told row) k None ≡ posture_told (get_or row k 0)
told_at [] k = refl
told_at (n ∷ row) zero = refl
told_at (n ∷ row) (suc k) = told_at row k

after_two : (row : List ℕ) (k : ℕ) → get_or (drop 2 row) k 0 ≡ get_or row (suc (suc k)) 0
after_two [] k = refl
after_two (a ∷ []) k = refl
after_two (a ∷ b ∷ row) k = refl

pub posture_in : (row : List ℕ) (k : ℕ) → get_or (pose_told row).gives k None ≡ posture_told (get_or row (2 + k) 0)
posture_in row k =
    let two : suc (suc k) ≡ 2 + k = omega arith in
    told_at (drop 2 row) k ∙ ap posture_told (after_two row k ∙ ap (λ n. get_or row n 0) two)

abbrev by_flags : Bool → Bool → Bool → Bool → Option Posture
by_flags a b c d =
    if a then None else if b then Some Closed else if c then Some Moving else if d then Some OpenIn else Some OpenOut

third_moves : (a b c d : Bool) → is_moving (by_flags a b c d) ≡ (not a && not b && c)
third_moves true b c d = refl
third_moves false true c d = refl
third_moves false false true d = refl
third_moves false false false true = refl
third_moves false false false false = refl

none_of : (a b : Bool) → (a && b && false) ≡ false
none_of true true = refl
none_of true false = refl
none_of false b = refl

third_alone : (n : ℕ) (c : Bool) → nat_eq n 2 ≡ c → (not (nat_eq n 0) && not (nat_eq n 1) && c) ≡ c
third_alone n true e = subst (λ m. (not (nat_eq m 0) && not (nat_eq m 1) && true) ≡ true) (sym (eqb-true n 2 e)) refl
third_alone n false e = none_of (not (nat_eq n 0)) (not (nat_eq n 1))

moves_by_two : (n : ℕ) → is_moving (posture_told n) ≡ nat_eq n 2
moves_by_two n = third_moves (nat_eq n 0) (nat_eq n 1) (nat_eq n 2) (nat_eq n 3) ∙ third_alone n (nat_eq n 2) refl

any_told : (row : List ℕ) → list_any is_moving (map posture_told row) ≡ list_any (λ n. nat_eq n 2) row
any_told [] = refl
any_told (n ∷ row) = ap₂ (λ a b. a || b) (moves_by_two n) (any_told row)

pub any_moving : (row : List ℕ) → length row ≡ 12
    → list_any (λ n. nat_eq n 2) (take 10 (drop 2 row)) ≡ list_any is_moving (pose_told row).gives
any_moving row long =
    let rest : 10 ≡ length row - 2 = omega (arith, long) in
    ap (λ k. list_any (λ n. nat_eq n 2) (take k (drop 2 row))) rest
    ∙ ap (list_any (λ n. nat_eq n 2)) (take_rest row 2) ∙ sym (any_told (drop 2 row))
