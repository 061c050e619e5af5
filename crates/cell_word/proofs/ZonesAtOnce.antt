-- The zones of a word without plates in zones, all tested at once.
use Rattle.cell_word.proofs.Names.{◌≡◌, ◌↔◌, ℕ, ◌+◌, ◌/◌, ◌%◌, ◌^◌, min, max, Bool, true, false, ◌&&◌, not, nat_eq, List, map, refl, sym, ap, ap₂, ◌∙◌, arith, eqb-true, eq-eqb, bit_and, bit_or, bit_xor, bit_at, list_all, add_comm, shr-shr, xor_shr, bit_at_and, bit_at_or, bit_at_xor, Zone, Z3, PressIn, PressOut, OpenIn, same_posture, zone_at, is_full}
use Rattle.cell_word.proofs.Names.{implies, implied, all_zones, from_zones, all_pass, zone_bit, bits_of, is_bit_set, state_told, stands, flag_is, place_is, zone_codes, is_lawful_zone, is_lawful_press}
use Rattle.cell_types.specs.Everything.{all_zones as every_zone}
use Rattle.cell_word.proofs.SameAnswer.{same_bool, one_bool}
use Rattle.cell_word.proofs.Windows.{and_zero, field_test, same_field, all_below, from_below, five_fit, from_values}
use Rattle.cell_word.proofs.StateWordsHold.{clear_law, press_law}

-- ---- the lowest bits of all zones
abbrev pub lowest_bits : ℕ
lowest_bits = 34636833

abbrev lowest_fields : List (ℕ × ℕ)
lowest_fields = map (λ z. (zone_bit z, 1)) every_zone

abbrev are_clear : ℕ → Bool
are_clear n = all_zones (λ z. nat_eq (bits_of n (zone_bit z) 1) 0)

abbrev once_test : ℕ → Bool
once_test v = same_bool (nat_eq v 0) (are_clear v)

once : (n : ℕ) → nat_eq (bit_and n lowest_bits) 0 ≡ are_clear n
once n =
    let v = bit_and n lowest_bits in
    let same : (z : Zone) → bits_of v (zone_bit z) 1 ≡ bits_of n (zone_bit z) 1 = λ z. same_field n lowest_bits (zone_bit z) 1 (eqb-true (bits_of lowest_bits (zone_bit z) 1) 1 (from_zones (λ z. nat_eq (bits_of lowest_bits (zone_bit z) 1) 1) refl z)) in
    one_bool (nat_eq v 0) (are_clear v) (from_values lowest_fields once_test n 0 0 (and_zero n) refl) ∙ (λ i. all_zones (λ z. nat_eq (same z i) 0))

-- ---- the flags
down : (w k j : ℕ) → w / 2 ^ j / 2 ^ k ≡ w / 2 ^ k / 2 ^ j
down w k j = shr-shr w j k ∙ ap (λ i. w / 2 ^ i) (add_comm j k) ∙ sym (shr-shr w k j)

flag_shown : (w : ℕ) (z : Zone) → bits_of (w / 2 ^ 2) (zone_bit z) 1 ≡ bits_of w (zone_bit z + 2) 1
flag_shown w z = ap (λ n. n % 2) (down w (zone_bit z) 2 ∙ shr-shr w (zone_bit z) 2)

flag_clear : (w : ℕ) (z : Zone) → stands w (flag_is z false) ≡ nat_eq (bits_of (w / 2 ^ 2) (zone_bit z) 1) 0
flag_clear w z = field_test w (zone_bit z + 2) 1 0 ∙ ap (λ n. nat_eq n 0) (sym (flag_shown w z))

pub clear_at_once : (w : ℕ) → nat_eq (bit_and (w / 4) lowest_bits) 0 ≡ true ↔ ((z : Zone) → stands w (flag_is z false) ≡ true)
clear_at_once w = (
  λ e z. flag_clear w z ∙ from_zones (λ z. nat_eq (bits_of (w / 2 ^ 2) (zone_bit z) 1) 0) (sym (once (w / 2 ^ 2)) ∙ e) z,
  λ h. once (w / 2 ^ 2) ∙ all_pass (λ z. nat_eq (bits_of (w / 2 ^ 2) (zone_bit z) 1) 0) (λ z. sym (flag_clear w z) ∙ h z) every_zone,
)

-- ---- the codes
abbrev turned_bits : ℕ
turned_bits = 597215025

abbrev one_way_bits : ℕ
one_way_bits = 34635809

abbrev pub spoilt : ℕ → ℕ
spoilt w =
    bit_or
    (bit_or (bit_and w (w / 2)) (bit_and (bit_xor w turned_bits / 16) (bit_or (w / 2) (bit_and (w / 8) (bit_xor w turned_bits)))))
    (bit_and (bit_and (w / 16) (bit_xor w turned_bits / 8)) one_way_bits)

-- the same bit, by the code of a zone whose lowest bit is the k-th
abbrev turned_at : ℕ → ℕ → ℕ → ℕ
turned_at k c j = (bit_at c j + bit_at (turned_bits / 2 ^ k) j) % 2

abbrev spoilt_at : ℕ → ℕ → ℕ
spoilt_at k c =
    max
    (max (min (bit_at c 0) (bit_at c 1)) (min (turned_at k c 4) (max (bit_at c 1) (min (bit_at c 3) (turned_at k c 0)))))
    (min (min (bit_at c 4) (turned_at k c 3)) (bit_at one_way_bits k))

low : (a : ℕ) → (bit_at a 0 ≡ bit_at (a % 32) 0) × (bit_at a 1 ≡ bit_at (a % 32) 1) × (bit_at a 2 ≡ bit_at (a % 32) 2) × (bit_at a 3 ≡ bit_at (a % 32) 3) × (bit_at a 4 ≡ bit_at (a % 32) 4)
low a = (omega arith, omega arith, omega arith, omega arith, omega arith)

bit_down : (n k j : ℕ) → bit_at (n / 2 ^ j) k ≡ bit_at (n / 2 ^ k) j
bit_down n k j = ap (λ m. m % 2) (down n k j)

bit_here : (n k : ℕ) → bit_at n k ≡ bit_at (n / 2 ^ k) 0
bit_here n k = omega arith

turned_down : (w k j : ℕ) → bit_at (bit_xor w turned_bits / 2 ^ k) j ≡ (bit_at (w / 2 ^ k) j + bit_at (turned_bits / 2 ^ k) j) % 2
turned_down w k j = ap (λ n. bit_at n j) (xor_shr w turned_bits k) ∙ bit_at_xor (w / 2 ^ k) (turned_bits / 2 ^ k) j

spoilt_seen : (w k : ℕ) → bits_of (spoilt w) k 1 ≡ spoilt_at k (bits_of w k 5)
spoilt_seen w k =
    let t = bit_xor w turned_bits in
    let a = w / 2 ^ k in
    let bits = low a in
    let t_at = λ (j : ℕ). turned_down w k j in
    let owner : bit_at w k ≡ bit_at (a % 32) 0 = bit_here w k ∙ bits.0 in
    let guest : bit_at (w / 2 ^ 1) k ≡ bit_at (a % 32) 1 = bit_down w k 1 ∙ bits.1 in
    let moving : bit_at (w / 2 ^ 3) k ≡ bit_at (a % 32) 3 = bit_down w k 3 ∙ bits.3 in
    let opened : bit_at (w / 2 ^ 4) k ≡ bit_at (a % 32) 4 = bit_down w k 4 ∙ bits.4 in
    let t0 : bit_at t k ≡ turned_at k (a % 32) 0 = bit_here t k ∙ turned_down w k 0 ∙ ap (λ n. (n + bit_at (turned_bits / 2 ^ k) 0) % 2) bits.0 in
    let t3 : bit_at (t / 2 ^ 3) k ≡ turned_at k (a % 32) 3 = bit_down t k 3 ∙ turned_down w k 3 ∙ ap (λ n. (n + bit_at (turned_bits / 2 ^ k) 3) % 2) bits.3 in
    let t4 : bit_at (t / 2 ^ 4) k ≡ turned_at k (a % 32) 4 = bit_down t k 4 ∙ turned_down w k 4 ∙ ap (λ n. (n + bit_at (turned_bits / 2 ^ k) 4) % 2) bits.4 in
    let moves : bit_at (bit_and (w / 8) t) k ≡ min (bit_at (a % 32) 3) (turned_at k (a % 32) 0) = bit_at_and (w / 8) t k ∙ ap₂ min moving t0 in
    let blamed : bit_at (bit_or (w / 2) (bit_and (w / 8) t)) k ≡ max (bit_at (a % 32) 1) (min (bit_at (a % 32) 3) (turned_at k (a % 32) 0)) =
    bit_at_or (w / 2) (bit_and (w / 8) t) k ∙ ap₂ max guest moves in
    let shut = bit_at_and (t / 16) (bit_or (w / 2) (bit_and (w / 8) t)) k ∙ ap₂ min t4 blamed in
    let by_both = bit_at_and w (w / 2) k ∙ ap₂ min owner guest in
    let way = bit_at_and (bit_and (w / 16) (t / 8)) one_way_bits k ∙ ap (λ n. min n (bit_at one_way_bits k)) (bit_at_and (w / 16) (t / 8) k ∙ ap₂ min opened t3) in
    bit_at_or _ _ k ∙ ap₂ max (bit_at_or _ _ k ∙ ap₂ max by_both shut) way

abbrev free_test : Zone → ℕ → Bool
free_test z c = implies (nat_eq (bit_at c 2) 0) (same_bool (nat_eq (spoilt_at (zone_bit z) c) 0) (is_bit_set (zone_codes z) c))

abbrev IsClear : ℕ → Type 0
IsClear w = (z : Zone) → stands w (flag_is z false) ≡ true

no_flag : (w : ℕ) → IsClear w → (z : Zone) → bit_at (bits_of w (zone_bit z) 5) 2 ≡ 0
no_flag w clear z = sym (low (w / 2 ^ zone_bit z)).2 ∙ sym (bit_down w (zone_bit z) 2) ∙ eqb-true _ 0 (sym (flag_clear w z) ∙ clear z)

by_code : (w : ℕ) → IsClear w → (z : Zone) → nat_eq (bits_of (spoilt w) (zone_bit z) 1) 0 ≡ is_bit_set (zone_codes z) (bits_of w (zone_bit z) 5)
by_code w clear z =
    let c = bits_of w (zone_bit z) 5 in
    let same = same_bool (nat_eq (spoilt_at (zone_bit z) c) 0) (is_bit_set (zone_codes z) c) in
    ap (λ n. nat_eq n 0) (spoilt_seen w (zone_bit z))
    ∙ one_bool (nat_eq (spoilt_at (zone_bit z) c) 0) (is_bit_set (zone_codes z) c)
    (implied (nat_eq (bit_at c 2) 0) same (from_below 32 (free_test z) (from_zones (λ z. all_below 32 (free_test z)) refl z) c (five_fit w (zone_bit z))) (eq-eqb _ 0 (no_flag w clear z)))

pub codes_at_once : (w : ℕ) → IsClear w → nat_eq (bit_and (spoilt w) lowest_bits) 0 ≡ list_all (is_lawful_zone w) every_zone
codes_at_once w clear =
    let same : (z : Zone) → nat_eq (bits_of (spoilt w) (zone_bit z) 1) 0 ≡ is_lawful_zone w z = λ z. by_code w clear z ∙ sym (clear_law w z (no_flag w clear z)) in
    once (spoilt w) ∙ (λ i. all_zones (λ z. same z i))

-- ---- the press without a forged plate
one_at_most : (a b : Bool) → (not (a && false) && implies b (not false)) ≡ true
one_at_most true true = refl
one_at_most _ true = refl
one_at_most _ _ = refl

pub press_without_forged : (w : ℕ) → stands w (place_is PressOut true) ≡ false → is_lawful_press w ≡ true
press_without_forged w e =
    let t = state_told w in
    let empty : is_full t PressOut ≡ false = sym (field_test w 35 1 1) ∙ e in
    let inward = same_posture (zone_at t Z3).posture OpenIn in
    press_law w ∙ ap (λ full. not (is_full t PressIn && full) && implies inward (not full)) empty ∙ one_at_most (is_full t PressIn) inward
