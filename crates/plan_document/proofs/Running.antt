-- Motors that a line runs, one word after another.
use Rattle.std.proofs.Common.{◌≡◌, ◌≢◌, ◌∙◌, ◌<◌, ◌++◌, ◌∷◌, [], ℕ, ◌*◌, ◌/◌, ◌%◌, ◌^◌, Bool, true, false, ◌&&◌, ◌||◌, nat_eq, nat_lt, length, get_or, Option, Some, is_some, refl, sym, ap, inl, inr, eq-eqb, ne_eqb, arith, max}
use Rattle.std.proofs.lemmas.Bool.{cases_eq, lt-ltb}
use Rattle.std.proofs.lemmas.List.Elements.{All-from_get_or}
use Rattle.std.proofs.lemmas.List.Splits.{slice_split_at, slice_split_none}
use Rattle.std.proofs.lemmas.Nat.{one_shl}
use Rattle.std.proofs.lemmas.Nat.Bits.{bit_at-lt, bit_at-pow_other, bit_at-pow_same, bit_at-zero, bit_at_or}
use Rattle.std.specs.Int.{bit_at}
use Rattle.std.specs.Int.Bits.{bit_or}
use Rattle.std.specs.List.{All, list_all, list_any}
use Rattle.std.specs.Option.{option_eq}
use Rattle.plan_drives.specs.Program.{has_bit}
use Rattle.plan_text.specs.Names.{Text}
use Rattle.plan_document.specs.Saying.{words_in}

-- ---- bits

or_true : (a : Bool) → (a || true) ≡ true
or_true true = refl
or_true false = refl

or_false : (a : Bool) → (a || false) ≡ a
or_false true = refl
or_false false = refl

or_assoc : (a b c : Bool) → ((a || b) || c) ≡ (a || (b || c))
or_assoc true b c = refl
or_assoc false b c = refl

pub no_bit : (i : ℕ) → has_bit 0 i ≡ false
no_bit i = by (nat_lt i 64)
  where
    by : (b : Bool) → (b && nat_eq (0 / 2 ^ i % 2) 1) ≡ false
    by true = ap (λ n. nat_eq n 1) (bit_at-zero i)
    by false = refl

-- one more bit
bit_more : (bits k i : ℕ) → k < 64 → has_bit (bit_or bits (1 * 2 ^ k % 2 ^ 64)) i ≡ (has_bit bits i || nat_eq k i)
bit_more bits k i within =
    elim (cases_eq i k) [
      | inl same ↦ here same
      | inr apart ↦ elsewhere apart
    ]
  where
    set : (j : ℕ) → bit_or bits (1 * 2 ^ k % 2 ^ 64) / 2 ^ j % 2 ≡ max (bit_at bits j) (bit_at (2 ^ k) j)
    set j = ap (λ n. bit_at (bit_or bits n) j) (one_shl k 64 within) ∙ bit_at_or bits (2 ^ k) j

    here : i ≡ k → has_bit (bit_or bits (1 * 2 ^ k % 2 ^ 64)) i ≡ (has_bit bits i || nat_eq k i)
    here same =
        let one : bit_or bits (1 * 2 ^ k % 2 ^ 64) / 2 ^ k % 2 ≡ 1 = omega (arith, set k, bit_at-pow_same k, bit_at-lt bits k) in
        let on : has_bit (bit_or bits (1 * 2 ^ k % 2 ^ 64)) k ≡ true = rw (lt-ltb k 64 within, one) refl in
        rw same (on ∙ sym (ap (λ b. has_bit bits k || b) (eq-eqb k k refl) ∙ or_true (has_bit bits k)))

    elsewhere : i ≢ k → has_bit (bit_or bits (1 * 2 ^ k % 2 ^ 64)) i ≡ (has_bit bits i || nat_eq k i)
    elsewhere apart =
        let kept : bit_or bits (1 * 2 ^ k % 2 ^ 64) / 2 ^ i % 2 ≡ bits / 2 ^ i % 2 = omega (arith, set i, bit_at-pow_other k i apart) in
        ap (λ n. nat_lt i 64 && nat_eq n 1) kept
        ∙ sym (ap (λ b. has_bit bits i || b) (ne_eqb k i (λ e. apart (sym e))) ∙ or_false (has_bit bits i))

-- ---- words

-- no byte of a word is a blank
abbrev pub LacksBlank : Text → Type 0
LacksBlank word = (i : ℕ) → i < length word → get_or word i 0 ≢ 32

plain : (word : Text) → LacksBlank word → All (λ byte. nat_eq byte 32 ≡ false) word
plain word lacks =
    All-from_get_or (λ byte. nat_eq byte 32 ≡ false) word 0 (λ i within. ne_eqb (get_or word i 0) 32 (lacks i within))

pub words_more : (rest word more : Text) → rest ≡ word ++ 32 ∷ more → LacksBlank word → words_in rest ≡ word ∷ words_in more
words_more rest word more is lacks = ap words_in is ∙ slice_split_at (λ byte. nat_eq byte 32) word 32 more (plain word lacks) refl

pub last_word : (rest : Text) → LacksBlank rest → words_in rest ≡ rest ∷ []
last_word rest lacks = slice_split_none (λ byte. nat_eq byte 32) rest (plain rest lacks)

-- ---- motors

-- the motors of the words up to the rest have a bit
pub record IsReadUpTo (own : Text → Option ℕ) (names rest : Text) (motors : ℕ) : Type 0 where
  pub known : list_all (λ name. is_some (own name)) (words_in names) ≡ list_all (λ name. is_some (own name)) (words_in rest)
  pub bits : (motor : ℕ) → list_any (λ name. option_eq nat_eq (own name) (Some motor)) (words_in names)
      ≡ (has_bit motors motor || list_any (λ name. option_eq nat_eq (own name) (Some motor)) (words_in rest))

pub none_read : (own : Text → Option ℕ) (names : Text) → IsReadUpTo own names names 0
none_read own names = record {
  known = refl;
  bits = λ motor. sym (ap (λ b. b || list_any (λ name. option_eq nat_eq (own name) (Some motor)) (words_in names)) (no_bit motor));
}

pub read_more : (own : Text → Option ℕ) (names rest name more : Text) (motors k : ℕ) → own name ≡ Some k → k < 64 → rest ≡ name ++ 32 ∷ more → LacksBlank name
    → IsReadUpTo own names rest motors → IsReadUpTo own names more (bit_or motors (1 * 2 ^ k % 2 ^ 64))
read_more own names rest name more motors k is within cut lacks before = record {
  known = before.known ∙ ap (list_all (λ word. is_some (own word))) (words_more rest name more cut lacks) ∙ rw is refl;
  bits = λ motor.
      let numbered : Text → Bool = λ word. option_eq nat_eq (own word) (Some motor) in
      before.bits motor
      ∙ ap (λ words. has_bit motors motor || list_any numbered words) (words_more rest name more cut lacks)
      ∙ ap (λ o. has_bit motors motor || (option_eq nat_eq o (Some motor) || list_any numbered (words_in more))) is
      ∙ sym (or_assoc (has_bit motors motor) (nat_eq k motor) (list_any numbered (words_in more)))
      ∙ sym (ap (λ b. b || list_any numbered (words_in more)) (bit_more motors k motor within));
}

pub all_read : (own : Text → Option ℕ) (names rest : Text) (motors k : ℕ) → own rest ≡ Some k → k < 64 → LacksBlank rest → IsReadUpTo own names rest motors
    → (list_all (λ name. is_some (own name)) (words_in names) ≡ true)
    × ((motor : ℕ) → has_bit (bit_or motors (1 * 2 ^ k % 2 ^ 64)) motor ≡ list_any (λ name. option_eq nat_eq (own name) (Some motor)) (words_in names))
all_read own names rest motors k is within lacks before = (
  before.known ∙ ap (list_all (λ word. is_some (own word))) (last_word rest lacks) ∙ rw is refl,
  λ motor.
      let numbered : Text → Bool = λ word. option_eq nat_eq (own word) (Some motor) in
      bit_more motors k motor within
      ∙ sym
      (before.bits motor
      ∙ ap (λ words. has_bit motors motor || list_any numbered words) (last_word rest lacks)
      ∙ ap (λ o. has_bit motors motor || (option_eq nat_eq o (Some motor) || false)) is
      ∙ ap (λ b. has_bit motors motor || b) (or_false (nat_eq k motor))),
)
