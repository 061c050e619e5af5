use Rattle.std.proofs.Common.{◌≡◌, ◌∙◌, ℕ, ◌+◌, ◌*◌, ◌^◌, ◌/◌, ◌%◌, ◌<◌, ◌≤◌, Bool, true, false, ◌&&◌, nat_eq, nat_lt, refl, ap, arith}
use Rattle.std.proofs.lemmas.Bool.{le-ltb, lt-ltb}
use Rattle.std.proofs.lemmas.Nat.{div-mul-add, mod-mul-add}
use Rattle.plan_controller.specs.Steps.{shows}
use Rattle.plan_controller.proofs.laws.sensors_have_bits.Goals as goal

-- the bit of a sensor, with those below it and those past it
bit_is : (i low high bit : ℕ) → bit < 2 → low < 2 ^ i → ((high * 2 + bit) * 2 ^ i + low) / 2 ^ i % 2 ≡ bit
bit_is i low high bit small below =
    ap (λ q. q % 2) (div-mul-add (high * 2 + bit) (2 ^ i) low below) ∙ mod-mul-add high 2 bit small

shown : (i low high : ℕ) → i < 32 → low < 2 ^ i → shows ((high * 2 + 1) * 2 ^ i + low) i ≡ true
shown i low high l below =
    ap (λ b. b && nat_eq (((high * 2 + 1) * 2 ^ i + low) / 2 ^ i % 2) 1) (lt-ltb i 32 l)
    ∙ ap (λ n. nat_eq n 1) (bit_is i low high 1 (omega arith) below)

never : (b : Bool) → (b && false) ≡ false
never true = refl
never false = refl

not_shown : (i low high : ℕ) → low < 2 ^ i → shows (high * 2 * 2 ^ i + low) i ≡ false
not_shown i low high below =
    let same : high * 2 ≡ high * 2 + 0 = omega arith in
    ap (λ n. shows (n * 2 ^ i + low) i) same
    ∙ (ap (λ n. nat_lt i 32 && nat_eq n 1) (bit_is i low high 0 (omega arith) below) ∙ never (nat_lt i 32))

past_last : (i sensors : ℕ) → 32 ≤ i → shows sensors i ≡ false
past_last i sensors past = ap (λ b. b && nat_eq (sensors / 2 ^ i % 2) 1) (le-ltb i 32 past)

pub returns : goal.returns
returns _ = λ i low high. record {
  shown = shown i low high;
  not_shown = not_shown i low high;
  past_last = λ sensors past. past_last i sensors past;
}
