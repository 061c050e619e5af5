-- Facts that are decided by computing. `so` and `not_so` turn a computed answer into a proof.
use Rattle.cell_plant.proofs.Names.{◌≡◌, ◌≢◌, ℕ, ◌==◌, ℤ, ◌≤ℤ◌, ◌<ℤ◌, Bool, true, false, ◌⊎◌, inl, inr, refl, sym, subst, T, Decides-eqb, Decides-int_eq, le_z, lt_z, le_z_yes, lt_z_yes, int_eq, Posture, Closed, same_posture, one_posture, Motor, Off, Plus, Minus}
use Rattle.std.specs.Prelude.{◌↔◌}

abbrev pub is_yes : {A : Type 0} → Dec A → Bool
is_yes (yes a) = true
is_yes (no n) = false

pub so : {A : Type 0} (d : Dec A) → is_yes d ≡ true → A
so (yes a) e = a
so (no n) e = cc

pub not_so : {A : Type 0} (d : Dec A) → is_yes d ≡ false → ¬ A
not_so (yes a) e = cc
not_so (no n) e = n

-- the empty fact
abbrev pub surely : Dec (Unit {0})
surely = yes tt

-- facts made of others
abbrev pub like : {A B : Type 0} → (A → B) → (B → A) → Dec A → Dec B
like f g (yes a) = yes (f a)
like f g (no n) = no (λ b. n (g b))

abbrev pub both : {A B : Type 0} → Dec A → Dec B → Dec (A × B)
both (yes a) (yes b) = yes (a, b)
both (yes a) (no n) = no (λ k. n k.1)
both (no n) d = no (λ k. n k.0)

abbrev pub all_three : {A B C : Type 0} → Dec A → Dec B → Dec C → Dec (A × B × C)
all_three a b c = like (λ k. (k.0, k.1.0, k.1.1)) (λ k. (k.0, (k.1, k.2))) (both a (both b c))

pub neither : {A B : Type 0} → ¬ A → ¬ B → ¬ (A ⊎ B)
neither not_a not_b (inl a) = not_a a
neither not_a not_b (inr b) = not_b b

abbrev pub either : {A B : Type 0} → Dec A → Dec B → Dec (A ⊎ B)
either (yes a) d = yes (inl a)
either (no n) (yes b) = yes (inr b)
either (no n) (no m) = no (neither n m)

abbrev pub denied : {A : Type 0} → Dec A → Dec (¬ A)
denied (yes a) = no (λ n. n a)
denied (no n) = yes n

abbrev pub given : {A B : Type 0} → Dec A → Dec B → Dec (A → B)
given d (yes b) = yes (λ a. b)
given (yes a) (no n) = no (λ k. n (k a))
given (no n) (no m) = yes (λ a. absurd (n a))

abbrev pub same_truth : {A B : Type 0} → Dec A → Dec B → Dec (A ↔ B)
same_truth a b = both (given a b) (given b a)

-- tests of values
abbrev pub tested : (t : Bool) → Dec (T t)
tested true = yes tt
tested false = no (λ n. n)

abbrev pub at_most : (a b : ℤ) → Dec (a ≤ℤ b)
at_most a b = like (λ t. le_z_yes t) (λ k. k.le) (tested (le_z a b))

abbrev pub less : (a b : ℤ) → Dec (a <ℤ b)
less a b = like (λ t. lt_z_yes t) (λ k. k.lt) (tested (lt_z a b))

pub false_true : false ≢ true
false_true e = cc

pub true_false : true ≢ false
true_false e = cc

abbrev pub is_true : (b : Bool) → Dec (b ≡ true)
is_true true = yes refl
is_true false = no false_true

abbrev pub is_false : (b : Bool) → Dec (b ≡ false)
is_false false = yes refl
is_false true = no true_false

abbrev pub equals : (a b : ℤ) → Dec (a ≡ b)
equals a b = like (Decides-int_eq a b).0 (Decides-int_eq a b).1 (is_true (int_eq a b))

abbrev pub same_number : (a b : ℕ) → Dec (a ≡ b)
same_number a b = like (Decides-eqb a b).0 (Decides-eqb a b).1 (is_true (a == b))

same_itself : (q : Posture) → same_posture q q ≡ true
same_itself Closed = refl
same_itself _ = refl

pub same_if : (q r : Posture) → q ≡ r → same_posture q r ≡ true
same_if q r e = subst (λ x. same_posture q x ≡ true) e (same_itself q)

abbrev pub in_posture : (q r : Posture) → Dec (q ≡ r)
in_posture q r = like (one_posture q r) (same_if q r) (is_true (same_posture q r))

pub plus_off : Plus ≢ Off
plus_off e = cc

pub minus_off : Minus ≢ Off
minus_off e = cc

pub minus_plus : Minus ≢ Plus
minus_plus e = cc

abbrev pub is_off : (m : Motor) → Dec (m ≡ Off)
is_off Off = yes refl
is_off Plus = no plus_off
is_off Minus = no minus_off

abbrev pub is_plus : (m : Motor) → Dec (m ≡ Plus)
is_plus Plus = yes refl
is_plus Off = no (λ e. plus_off (sym e))
is_plus Minus = no minus_plus

abbrev pub is_minus : (m : Motor) → Dec (m ≡ Minus)
is_minus Minus = yes refl
is_minus Off = no (λ e. minus_off (sym e))
is_minus Plus = no (λ e. minus_plus (sym e))
