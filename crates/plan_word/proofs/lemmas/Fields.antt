-- Numbers side by side in a word: where each ends, below which power of two they stay, and that each reads back.
use Rattle.std.proofs.Common.{◌≡◌, ℕ, zero, suc, ◌+◌, ◌*◌, ◌/◌, ◌%◌, ◌<◌, ◌≤◌, ◌^◌, inl, inr, sym, ap, ◌∙◌, subst, arith}
use Rattle.std.proofs.Math.Nat.{add-mul, mul_assoc, mul_comm}
use Rattle.std.proofs.lemmas.Nat.{pow-add, mul-add-lt, shr_high, mod_low}
use Rattle.plan_types.specs.Below.{sum_below}
use Rattle.plan_types.proofs.lemmas.Below.{below_next}

-- a number ends where a later one begins, or before it
pub ends_before : (width : ℕ → ℕ) (i n : ℕ) → i < n → sum_below width i + width i ≤ sum_below width n
ends_before width i zero l = absurd (omega arith)
ends_before width i (suc n) l =
    elim (below_next i n l) [
      | inl k ↦ let rest = ends_before width i n k in omega (arith, rest)
      | inr e ↦ let same : sum_below width i + width i ≡ sum_below width n + width n = ap (λ j. sum_below width j + width j) e in omega (arith, same)
    ]

-- the number at i begins at the bit that `start` says
abbrev pub row : (ℕ → ℕ) → (ℕ → ℕ) → ℕ → ℕ
row value start n = sum_below (λ i. value i * 2 ^ start i) n

arranged : (s w t v : ℕ) → v * t + s * (t * w) ≡ (s * w + v) * t
arranged s w t v =
    let over : (s * w + v) * t ≡ s * w * t + v * t = add-mul (s * w) v t in
    let assoc : s * w * t ≡ s * (w * t) = mul_assoc s w t in
    let turned : s * (t * w) ≡ s * (w * t) = ap (λ n. s * n) (mul_comm t w) in
    omega arith

-- a number above lower bits keeps the sum below the next number
pub next_bound : (low v start width : ℕ) → low < 2 ^ start → v < 2 ^ width → low + v * 2 ^ start < 2 ^ (start + width)
next_bound low v start width below fits =
    let power : 2 ^ (start + width) ≡ 2 ^ start * 2 ^ width = pow-add 2 start width in
    let lower : v * 2 ^ start + low < 2 ^ start * 2 ^ width = mul-add-lt v (2 ^ start) low (2 ^ width) fits below in
    rw power (omega (arith, lower))

pub row_below : (value start width : ℕ → ℕ) (low n : ℕ) → ((i : ℕ) → start (suc i) ≡ start i + width i) → ((i : ℕ) → i < n → value i < 2 ^ width i) → low < 2 ^ start 0
    → low + row value start n < 2 ^ start n
row_below value start width low zero steps fits below = omega (arith, below)
row_below value start width low (suc n) steps fits below =
    let rest = row_below value start width low n steps (λ i l. fits i (omega arith)) below in
    let more = next_bound (low + row value start n) (value n) (start n) (width n) rest (fits n (omega arith)) in
    subst (λ k. low + (row value start n + value n * 2 ^ start n) < 2 ^ k) (sym (steps n)) (omega (arith, more))

-- a number reads back from between lower bits and upper ones
pub back : (start width low v upper : ℕ) → low < 2 ^ start → v < 2 ^ width → (low + (upper * 2 ^ width + v) * 2 ^ start) / 2 ^ start % 2 ^ width ≡ v
back start width low v upper below fits =
    let high : ((upper * 2 ^ width + v) * 2 ^ start + low) / 2 ^ start ≡ upper * 2 ^ width + v = shr_high (upper * 2 ^ width + v) start low below in
    let turned : low + (upper * 2 ^ width + v) * 2 ^ start ≡ (upper * 2 ^ width + v) * 2 ^ start + low = omega arith in
    rw turned (rw high (mod_low upper width v fits))

-- the last number of a row, taken as the lowest of what is above the others
lifted : (low r v upper start next w : ℕ) → next ≡ start + w → low + (r + v * 2 ^ start) + upper * 2 ^ next ≡ low + r + (upper * 2 ^ w + v) * 2 ^ start
lifted low r v upper start next w e =
    let power : upper * 2 ^ next ≡ upper * (2 ^ start * 2 ^ w) = ap (λ k. upper * k) (ap (λ k. 2 ^ k) e ∙ pow-add 2 start w) in
    let moved = arranged upper (2 ^ w) (2 ^ start) v in
    omega (arith, power, moved)

pub row_back : (value start width : ℕ → ℕ) (low upper n i : ℕ) → i < n → ((i : ℕ) → start (suc i) ≡ start i + width i) → ((i : ℕ) → i < n → value i < 2 ^ width i) → low < 2 ^ start 0
    → (low + row value start n + upper * 2 ^ start n) / 2 ^ start i % 2 ^ width i ≡ value i
row_back value start width low upper zero i l steps fits below = absurd (omega arith)
row_back value start width low upper (suc n) i l steps fits below =
    let w = width n in
    let under = row_below value start width low n steps (λ j m. fits j (omega arith)) below in
    let whole = lifted low (row value start n) (value n) upper (start n) (start (suc n)) w (steps n) in
    ap (λ x. x / 2 ^ start i % 2 ^ width i) whole
    ∙ elim (below_next i n l) [
      | inl k ↦ row_back value start width low (upper * 2 ^ w + value n) n i k steps (λ j m. fits j (omega arith)) below
      | inr e ↦ ap (λ j. (low + row value start n + (upper * 2 ^ w + value n) * 2 ^ start n) / 2 ^ start j % 2 ^ width j) e
          ∙ back (start n) w (low + row value start n) (value n) upper under (fits n (omega arith))
          ∙ sym (ap value e)
    ]

-- a row of bits above a base
pub row_above : (value : ℕ → ℕ) (base n : ℕ) → row value (λ p. base + p) n ≡ row value (λ p. p) n * 2 ^ base
row_above value base zero = omega arith
row_above value base (suc n) =
    let rest = row_above value base n in
    let power : value n * 2 ^ (base + n) ≡ value n * (2 ^ base * 2 ^ n) = ap (λ k. value n * k) (pow-add 2 base n) in
    let over = add-mul (row value (λ p. p) n) (value n * 2 ^ n) (2 ^ base) in
    let assoc : value n * 2 ^ n * 2 ^ base ≡ value n * (2 ^ n * 2 ^ base) = mul_assoc (value n) (2 ^ n) (2 ^ base) in
    let turned : value n * (2 ^ n * 2 ^ base) ≡ value n * (2 ^ base * 2 ^ n) = ap (λ k. value n * k) (mul_comm (2 ^ n) (2 ^ base)) in
    omega (arith, rest, power, over, assoc, turned)
