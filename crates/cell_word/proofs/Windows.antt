-- A row of guards sees only the bits of a word under its masks.
use Rattle.cell_word.proofs.Names.{◌≡◌, inl, inr, ℕ, zero, suc, ◌+◌, ◌-◌, ◌*◌, ◌/◌, ◌%◌, ◌^◌, ◌<◌, min, max, Bool, true, false, ◌&&◌, cond, nat_eq, Option, Some, option_map, List, [], ◌∷◌, ◌++◌, refl, sym, ap, ap₂, ◌∙◌, subst, arith, eqb-true, eq-eqb, ne_eqb, bit_and, bit_or, cases_lt, eqb-false, bit_at, option_or, find, list_all, mul_comm, mul-sub, and_assoc, and_le_r, and_mask, and_mod, and_shr, mod-eq_of_lt, or_mod, or_shr, mod_below, pow-add, pow_pos, shr-shr, shl-shr, and_high, bit_at_and, bit_at_or}
use Rattle.cell_word.proofs.Names.{same_from_bits, and_left, and_right, bits_of, stands, field_is, first_refusal, Pattern, Guard}
use Rattle.cell_types.specs.declared.answer.Refusal.{Refusal}

-- ---- rows in parts
step : (t : Bool) (g : Guard) (x y : Option Guard) (o : Option Refusal) → option_map (λ (g : Guard). g.refusal) x ≡ option_or (option_map (λ (g : Guard). g.refusal) y) o
    → option_map (λ (g : Guard). g.refusal) (cond t (Some g) x) ≡ option_or (option_map (λ (g : Guard). g.refusal) (cond t (Some g) y)) o
step true g x y o e = refl
step false g x y o e = e

pub first-append : (w : ℕ) (a b : List Guard) → first_refusal w (a ++ b) ≡ option_or (first_refusal w a) (first_refusal w b)
first-append w [] b = refl
first-append w (g ∷ gs) b = step (stands w g.pattern) g (find (λ g. stands w g.pattern) (gs ++ b)) (find (λ g. stands w g.pattern) gs) (first_refusal w b) (first-append w gs b)

-- ---- windows
abbrev pub is_within : ℕ → Guard → Bool
is_within window g = nat_eq (bit_and window g.pattern.mask) g.pattern.mask

abbrev pub all_within : ℕ → List Guard → Bool
all_within window row = list_all (is_within window) row

pub stands-window : (w window : ℕ) (p : Pattern) → nat_eq (bit_and window p.mask) p.mask ≡ true → stands w p ≡ stands (bit_and w window) p
stands-window w window p inside =
    let same : bit_and window p.mask ≡ p.mask = eqb-true (bit_and window p.mask) p.mask inside in
    ap (λ n. nat_eq n p.wanted) (ap (bit_and w) (sym same) ∙ sym (and_assoc p.mask w window))

pub next : (t u : Bool) (g : Guard) (x y : Option Guard) → t ≡ u → option_map (λ (g : Guard). g.refusal) x ≡ option_map (λ (g : Guard). g.refusal) y
    → option_map (λ (g : Guard). g.refusal) (cond t (Some g) x) ≡ option_map (λ (g : Guard). g.refusal) (cond u (Some g) y)
next true true g x y e r = refl
next false false g x y e r = r
next _ _ g x y e r = cc

pub first-window : (w window : ℕ) (row : List Guard) → all_within window row ≡ true → first_refusal w row ≡ first_refusal (bit_and w window) row
first-window w window [] inside = refl
first-window w window (g ∷ gs) inside =
    let rest = first-window w window gs (and_right (is_within window g) (all_within window gs) inside) in
    let here = stands-window w window g.pattern (and_left (is_within window g) (all_within window gs) inside) in
    next (stands w g.pattern) (stands (bit_and w window) g.pattern) g (find (λ g. stands w g.pattern) gs) (find (λ g. stands (bit_and w window) g.pattern) gs) here rest

pub and_zero : (w : ℕ) → bit_and w 0 ≡ 0
and_zero w = omega (arith, and_le_r w 0)

-- guards that look at no bits
pub blind : (w : ℕ) (row : List Guard) → all_within 0 row ≡ true → first_refusal w row ≡ first_refusal 0 row
blind w row inside = first-window w 0 row inside ∙ ap (λ n. first_refusal n row) (and_zero w)

-- ---- what windows show
spread : (a b c : ℕ) → min a (max b c) ≡ max (min a b) (min a c)
spread a b c = omega arith

pub and_or : (w a b : ℕ) → bit_and w (bit_or a b) ≡ bit_or (bit_and w a) (bit_and w b)
and_or w a b =
    same_from_bits (bit_and w (bit_or a b)) (bit_or (bit_and w a) (bit_and w b))
    (λ i.
    bit_at_and w (bit_or a b) i
    ∙ ap (min (bit_at w i)) (bit_at_or a b i)
    ∙ spread (bit_at w i) (bit_at a i) (bit_at b i)
    ∙ sym (ap (λ n. max (min (bit_at w i) (bit_at a i)) n) (bit_at_and w b i))
    ∙ sym (ap (λ n. max n (bit_at (bit_and w b) i)) (bit_at_and w a i))
    ∙ sym (bit_at_or (bit_and w a) (bit_and w b) i))

mask_ends : (lowest width : ℕ) → (2 ^ width - 1) * 2 ^ lowest ≡ 2 ^ (width + lowest) - 2 ^ lowest
mask_ends lowest width =
    let ends : 2 ^ (width + lowest) ≡ 2 ^ width * 2 ^ lowest = pow-add 2 width lowest in
    let turned : 2 ^ width * 2 ^ lowest ≡ 2 ^ lowest * 2 ^ width = mul_comm (2 ^ width) (2 ^ lowest) in
    mul_comm (2 ^ width - 1) (2 ^ lowest) ∙ mul-sub (2 ^ lowest) (2 ^ width) 1 ∙ omega arith

-- a window on a field shows its value
pub field_shown : (w lowest width : ℕ) → bit_and w ((2 ^ width - 1) * 2 ^ lowest) ≡ bits_of w lowest width * 2 ^ lowest
field_shown w lowest width = ap (bit_and w) (mask_ends lowest width) ∙ and_high w width lowest

-- a field of two words at once
pub bits_of-or : (a b k n : ℕ) → bits_of (bit_or a b) k n ≡ bit_or (bits_of a k n) (bits_of b k n)
bits_of-or a b k n = ap (λ m. m % 2 ^ n) (or_shr a b k) ∙ or_mod (a / 2 ^ k) (b / 2 ^ k) n

pub bits_of-and : (a b k n : ℕ) → bits_of (bit_and a b) k n ≡ bit_and (bits_of a k n) (bits_of b k n)
bits_of-and a b k n = ap (λ m. m % 2 ^ n) (and_shr a b k) ∙ and_mod (a / 2 ^ k) (b / 2 ^ k) n

-- a field that a window has whole
pub same_field : (w n k width : ℕ) → bits_of n k width ≡ 2 ^ width - 1 → bits_of (bit_and w n) k width ≡ bits_of w k width
same_field w n k width e =
    bits_of-and w n k width ∙ ap (bit_and (bits_of w k width)) e ∙ and_mask (bits_of w k width) width ∙ mod-eq_of_lt (mod_below (w / 2 ^ k) (2 ^ width) (pow_pos width))

five : (a : ℕ) → a % 32 ≡ a % 4 + 4 * (a / 4 % 2) + 8 * (a / 8 % 4)
five a = omega arith

pub five_bits : (w k : ℕ) → bits_of w k 5 ≡ bits_of w k 2 + 4 * bits_of w (k + 2) 1 + 8 * bits_of w (k + 3) 2
five_bits w k = rw (← shr-shr w k 2) (rw (← shr-shr w k 3) (five (w / 2 ^ k)))

-- ---- a word that is shifted down
same_test : (a b c d : ℕ) → (a ≡ b → c ≡ d) → (c ≡ d → a ≡ b) → (t : Bool) → nat_eq a b ≡ t → nat_eq c d ≡ t
same_test a b c d there back true e = eq-eqb c d (there (eqb-true a b e))
same_test a b c d there back false e = ne_eqb c d (λ h. eqb-false a b e (back h))

scaled : (n v k : ℕ) → nat_eq (n * 2 ^ k) (v * 2 ^ k) ≡ nat_eq n v
scaled n v k =
    same_test n v (n * 2 ^ k) (v * 2 ^ k) (ap (λ x. x * 2 ^ k)) (λ e. sym (shl-shr n k) ∙ ap (λ x. x / 2 ^ k) e ∙ shl-shr v k) (nat_eq n v) refl

pub field_test : (w lowest width v : ℕ) → stands w (field_is lowest width v) ≡ nat_eq (bits_of w lowest width) v
field_test w lowest width v = ap (λ n. nat_eq n (v * 2 ^ lowest)) (field_shown w lowest width) ∙ scaled (bits_of w lowest width) v lowest

-- a pattern on a field matches a word shifted down exactly if the pattern shifted up matches the word
pub moved_down : (w k lowest width v : ℕ) → stands (w / 2 ^ k) (field_is lowest width v) ≡ stands w (field_is (k + lowest) width v)
moved_down w k lowest width v =
    field_test (w / 2 ^ k) lowest width v
    ∙ ap (λ n. nat_eq (n % 2 ^ width) v) (shr-shr w k lowest)
    ∙ sym (field_test w (k + lowest) width v)

pub lowest_field : (w k width v : ℕ) → nat_eq (bit_and (w / 2 ^ k) (2 ^ width - 1)) v ≡ stands w (field_is k width v)
lowest_field w k width v = ap (λ n. nat_eq n v) (and_mask (w / 2 ^ k) width) ∙ sym (field_test w k width v)

-- ---- tests of the numbers below a bound
abbrev pub all_below : ℕ → (ℕ → Bool) → Bool
all_below zero P = true
all_below (suc n) P = P n && all_below n P

pub from_below : (n : ℕ) (P : ℕ → Bool) → all_below n P ≡ true → (c : ℕ) → c < n → P c ≡ true
from_below zero P e c h = absurd (omega arith)
from_below (suc n) P e c h =
    elim (cases_lt c n) as (λ _. P c ≡ true) [
      | inl less ↦ from_below n P (and_right (P n) (all_below n P) e) c less
      | inr same ↦ let is : n ≡ c = omega arith in subst (λ k. P k ≡ true) is (and_left (P n) (all_below n P) e)
    ]

pub five_fit : (w k : ℕ) → bits_of w k 5 < 32
five_fit w k = mod_below (w / 2 ^ k) 32 (omega arith)

-- ---- tests of all values of some fields, each by its lowest bit and its width
abbrev pub all_values : List (ℕ × ℕ) → (ℕ → Bool) → ℕ → Bool
all_values [] P v = P v
all_values (f ∷ fs) P v = all_below (2 ^ f.1) (λ n. all_values fs P (bit_or v (n * 2 ^ f.0)))

abbrev pub window_on : List (ℕ × ℕ) → ℕ → ℕ
window_on [] n = n
window_on (f ∷ fs) n = window_on fs (bit_or n ((2 ^ f.1 - 1) * 2 ^ f.0))

pub from_values : (fs : List (ℕ × ℕ)) (P : ℕ → Bool) (w n v : ℕ) → bit_and w n ≡ v → all_values fs P v ≡ true → P (bit_and w (window_on fs n)) ≡ true
from_values [] P w n v e test = ap P e ∙ test
from_values (f ∷ fs) P w n v e test =
    let value = bits_of w f.0 f.1 in
    from_values fs P w (bit_or n ((2 ^ f.1 - 1) * 2 ^ f.0)) (bit_or v (value * 2 ^ f.0)) (and_or w n ((2 ^ f.1 - 1) * 2 ^ f.0) ∙ ap₂ bit_or e (field_shown w f.0 f.1))
    (from_below (2 ^ f.1) (λ n. all_values fs P (bit_or v (n * 2 ^ f.0))) test value (mod_below (w / 2 ^ f.0) (2 ^ f.1) (pow_pos f.1)))
