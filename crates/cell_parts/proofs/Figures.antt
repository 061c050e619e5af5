-- Equivalent conditions, part by part: comparisons of integers and of natural numbers, motors, plates.
use Rattle.std.proofs.Common.{◌≡◌, ◌≢◌, ◌↔◌, ℕ, ◌+◌, ◌≤◌, pos, ◌≤ℤ◌, ◌<ℤ◌, Option, Some, None, option_map, ◌⊎◌, inl, inr, IsSome, refl, arith}
use Rattle.std.proofs.lemmas.Int.{ints, by_lt_z}
use Rattle.cell_devices.specs.declared.motor.Motor.{Motor}
use Rattle.cell_devices.specs.declared.motor.Motor.TheVariants.{Off, Plus, Minus}
use Rattle.cell_parts.specs.Examples.{FromTo, IsDriven}
use Rattle.cell_parts.proofs.Contrasts.{neither, plus_on, minus_on, off_plus, off_minus}

pub same : {A : Type 0} → A ↔ A
same = (λ a. a, λ a. a)

pub always : {A B : Type 0} → A → B → A ↔ B
always a b = (λ x. b, λ x. a)

pub never : {A B : Type 0} → ¬ A → ¬ B → A ↔ B
never no_a no_b = (λ a. absurd (no_a a), λ b. absurd (no_b b))

pub both : {A B C D : Type 0} → (A ↔ C) → (B ↔ D) → (A × B) ↔ (C × D)
both f g = (λ k. (f.0 k.0, g.0 k.1), λ k. (f.1 k.0, g.1 k.1))

pub all_three : {A B C D E F : Type 0} → (A ↔ D) → (B ↔ E) → (C ↔ F) → (A × B × C) ↔ (D × E × F)
all_three f g h = (λ k. (f.0 k.0, g.0 k.1, h.0 k.2), λ k. (f.1 k.0, g.1 k.1, h.1 k.2))

pub either : {A B C D : Type 0} → (A ↔ C) → (B ↔ D) → (A ⊎ B) ↔ (C ⊎ D)
either f g = (λ k. elim k [ inl a ↦ inl (f.0 a) | inr b ↦ inr (g.0 b) ], λ k. elim k [ inl c ↦ inl (f.1 c) | inr d ↦ inr (g.1 d) ])

pub denied : {A B : Type 0} → (A ↔ B) → (¬ A) ↔ (¬ B)
denied f = (λ k b. k (f.1 b), λ k a. k (f.0 a))

pub given : {A B C D : Type 0} → (A ↔ C) → (B ↔ D) → (A → B) ↔ (C → D)
given f g = (λ k c. g.0 (k (f.1 c)), λ k a. g.1 (k (f.0 a)))

-- one of two alternatives is impossible
pub only_first : {A B R : Type 0} → (A ↔ B) → ¬ R → (A ⊎ R) ↔ B
only_first f never_other = (λ k. elim k [ inl a ↦ f.0 a | inr r ↦ absurd (never_other r) ], λ b. inl (f.1 b))

pub only_second : {A B L : Type 0} → ¬ L → (A ↔ B) → (L ⊎ A) ↔ B
only_second never_other f = (λ k. elim k [ inl l ↦ absurd (never_other l) | inr a ↦ f.0 a ], λ b. inr (f.1 b))

-- a demand whose condition holds
pub due : {A B C : Type 0} → A → (B ↔ C) → (A → B) ↔ C
due a f = (λ demand. f.0 (demand a), λ c x. f.1 c)

-- ---- numbers

pub order : (a b : ℕ) → (pos a ≤ℤ pos b) ↔ (a ≤ b)
order a b = (λ k. omega (arith, ints), λ k. omega (arith, ints))

pub past : (last n : ℕ) → (pos last <ℤ pos n) ↔ (last + 1 ≤ n)
past last n = (λ k. omega (arith, ints), λ k. omega (arith, ints))

pub below : (n last : ℕ) → (pos n <ℤ pos (last + 1)) ↔ (n ≤ last)
below n last = (λ k. omega (arith, ints), λ k. omega (arith, ints))

pub equal : (a b : ℕ) → (pos a ≡ pos b) ↔ (a ≡ b)
equal a b = (λ k. omega (arith, ints), λ k. omega (arith, ints))

pub clash : {X : Type 0} (n last : ℕ) → n ≤ last → last + 1 ≤ n → X
clash n last low high = absurd (omega arith)

pub beyond : (last n : ℕ) → (¬ (pos n ≤ℤ pos last)) ↔ (last + 1 ≤ n)
beyond last n = (λ k. by_lt_z (pos last) (pos n) (λ high. (past last n).0 high) (λ low. absurd (k low)), λ high low. clash n last ((order n last).0 low) high)

pub not_past : (last n : ℕ) → (¬ (pos last <ℤ pos n)) ↔ (n ≤ last)
not_past last n = (λ k. by_lt_z (pos last) (pos n) (λ high. absurd (k high)) (λ low. (order n last).0 low), λ low high. clash n last low ((past last n).0 high))

pub inside : (first last n : ℕ) → ((pos first ≤ℤ pos n) × (pos n ≤ℤ pos last)) ↔ FromTo first last n
inside first last n = both (order first n) (order n last)

-- ---- motors and plates

pub driven : (motor : Motor) → (motor ≢ Off) ↔ IsDriven motor
driven Off = (λ on. absurd (on refl), λ way. absurd (neither off_plus off_minus way))
driven Plus = always plus_on (inl refl)
driven Minus = always minus_on (inr refl)

pub some : (plate : Option ℕ) → IsSome (option_map (λ p. pos p) plate) ↔ IsSome plate
some None = same
some (Some p) = same
