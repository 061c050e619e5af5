use Rattle.std.proofs.Common.{◌≡◌, ℕ, refl, zero, suc, ◌+◌, ◌*◌, ◌/◌, ◌%◌, ◌<◌, ◌^◌, inl, inr, Bool, true, false, length, sym, ap, ◌∙◌, subst, arith}
use Rattle.std.proofs.lemmas.Nat.{shr_high}
use Rattle.std.proofs.lemmas.Nat.Bits.{bit_at_cat_low}
use Rattle.plan_types.specs.Below.{sum_below}
use Rattle.plan_types.proofs.lemmas.Below.{below_next}
use Rattle.plan_rules.specs.State.{one_if}
use Rattle.plan_motors.proofs.lemmas.Masking.{flag_fits, next_bound}
use Rattle.plan_motors.specs.Mask.{allows, mask_at}
use Rattle.plan_motors.proofs.mask.permitted_motors.Goals as goal

abbrev bits : (ℕ → Bool) → ℕ → ℕ
bits test n = sum_below (λ i. one_if (test i) * 2 ^ i) n

bits_fit : (test : ℕ → Bool) (n : ℕ) → bits test n < 2 ^ n
bits_fit test zero = omega arith
bits_fit test (suc n) =
    let end : n + 1 ≡ suc n = omega arith in
    subst (λ k. bits test (suc n) < 2 ^ k) end (next_bound (bits test n) (one_if (test n)) n 1 (bits_fit test n) (flag_fits (test n)))

one_bit : (b : Bool) → one_if b % 2 ≡ one_if b
one_bit true = refl
one_bit false = refl

bit_of : (test : ℕ → Bool) (n k : ℕ) → k < n → bits test n / 2 ^ k % 2 ≡ one_if (test k)
bit_of test zero k l = absurd (omega arith)
bit_of test (suc n) k l =
    let v = one_if (test n) in
    let turned : bits test (suc n) ≡ v * 2 ^ n + bits test n = omega arith in
    ap (λ x. x / 2 ^ k % 2) turned
    ∙ elim (below_next k n l) [
      | inl m ↦ bit_at_cat_low v n (bits test n) k m ∙ bit_of test n k m
      | inr e ↦ ap (λ j. (v * 2 ^ n + bits test n) / 2 ^ j % 2) e
          ∙ ap (λ x. x % 2) (shr_high v n (bits test n) (bits_fit test n))
          ∙ one_bit (test n) ∙ ap (λ j. one_if (test j)) (sym e)
    ]

bit_back : (test : ℕ → Bool) (n k x : ℕ) → x ≡ bits test n → k < n → x / 2 ^ k % 2 ≡ one_if (test k)
bit_back test n k x e l = ap (λ y. y / 2 ^ k % 2) e ∙ bit_of test n k l

pub returns-clause-bits : goal.returns-clause-bits
returns-clause-bits c =
    let end : c.loop-number.number ≡ length c.args.several.now = omega arith in
    let all = subst (λ n. c.loop-number.permitted ≡ sum_below (λ k. one_if (allows (mask_at c.args.several.now k) c.args.word) * 2 ^ k) n) end c.loop-number.invariant.bits in
    λ k l. bit_back (λ k. allows (mask_at c.args.several.now k) c.args.word) (length c.args.several.now) k c.loop-number.permitted all l

pub returns-clause-above : goal.returns-clause-above
returns-clause-above c =
    let end : c.loop-number.number ≡ length c.args.several.now = omega arith in
    subst (λ n. c.loop-number.permitted < 2 ^ n) end c.loop-number.invariant.below
