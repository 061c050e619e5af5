-- A word is a sound state's exactly if the masks say so.
use Rattle.cell_word.proofs.Names.{◌≡◌, ℕ, zero, suc, ◌+◌, ◌*◌, ◌/◌, ◌%◌, ◌^◌, ◌<◌, ◌≤◌, Bool, ◌&&◌, true, not, nat_eq, Option, Some, None, List, [], ◌∷◌, ◌++◌, refl, sym, ap, ◌∙◌, arith, eqb-true, eq-eqb, bit_and, bit_at, list_all, and_parts, shr-shr, mod_below, Zone, Z1, Z3, Transfer, Place, FeedEntry, PressIn, PressOut, Posture, OpenIn, OpenOut, transfer_of, same_posture, ModelState, zone_at, is_full, one_if, IsSound}
use Rattle.cell_word.proofs.Names.{implies, has_lawful_owner, is_lawful_plate, is_onto_full, is_open_to_guest, moves_by_host, is_of_some_pose, has_one_plate, is_sound, sound_by_test, ZoneState, and_right, and_both, implied, zones, postures, holds2, from_zones, all_pass, zone_bit, place_bit, mark_bit, packed, bits_of, is_bit_set, owner_of_code, posture_of_code, zone_in_word, state_told, stands, both, posture_is, place_is, field_is, zone_codes, onto_full, is_lawful_zone, is_lawful_press, is_state_word, Pattern}
use Rattle.cell_types.specs.Everything.{all_zones as every_zone}
use Rattle.cell_rules.specs.SoundTest.{is_lawful_at}
use Rattle.cell_rules.proofs.lemmas.SoundnessTest.{test_of_sound}
use Rattle.std.proofs.lemmas.Bool.{le-leb}
use Rattle.cell_word.proofs.lemmas.RoundTrip.{told_back, laid_out}
use Rattle.cell_word.proofs.SameAnswer.{same_bool, one_bool}
use Rattle.cell_word.proofs.Windows.{and_zero, stands-window, field_shown, same_field, all_values, window_on, from_values}
use Rattle.cell_word.proofs.Seen.{zone_code, zone_five}
use Rattle.cell_word.proofs.Writing.{is_word_of}

-- ---- the state that a word encodes, zone by zone and place by place
abbrev zone_of_code : Zone → ℕ → ZoneState
zone_of_code z c = record { owner = owner_of_code z (c % 4); flag = nat_eq (c / 4 % 2) 1; posture = posture_of_code (c / 8 % 4) }

low_bits : (a : ℕ) → (a % 4 ≡ a % 32 % 4) × (a / 4 % 2 ≡ a % 32 / 4 % 2) × (a / 8 % 4 ≡ a % 32 / 8 % 4)
low_bits a = (omega arith, omega arith, omega arith)

told_by_code : (w : ℕ) (z : Zone) → zone_in_word w z ≡ zone_of_code z (bits_of w (zone_bit z) 5)
told_by_code w z =
    let k = zone_bit z in
    let bits = low_bits (w / 2 ^ k) in
    let flag : bits_of w (k + 2) 1 ≡ bits_of w k 5 / 4 % 2 = ap (λ n. n % 2) (sym (shr-shr w k 2)) ∙ bits.1 in
    let posture : bits_of w (k + 3) 2 ≡ bits_of w k 5 / 8 % 4 = ap (λ n. n % 4) (sym (shr-shr w k 3)) ∙ bits.2 in
    λ i. record { owner = owner_of_code z (bits.0 i); flag = nat_eq (flag i) 1; posture = posture_of_code (posture i) }

zone_of_state : (w : ℕ) (z : Zone) → zone_at (state_told w) z ≡ zone_in_word w z
zone_of_state w Z1 = refl
zone_of_state w _ = refl

zone_is : (w : ℕ) (z : Zone) → zone_at (state_told w) z ≡ zone_of_code z (bits_of w (zone_bit z) 5)
zone_is w z = zone_of_state w z ∙ told_by_code w z

full_of_state : (w : ℕ) (p : Place) → is_full (state_told w) p ≡ is_bit_set w (place_bit p)
full_of_state w FeedEntry = refl
full_of_state w _ = refl

one_bit : (n : ℕ) → n < 2 → n ≡ one_if (nat_eq n 1)
one_bit zero h = refl
one_bit (suc zero) h = refl
one_bit (suc (suc n)) h = absurd (omega arith)

place_is_told : (w : ℕ) (p : Place) → bits_of w (place_bit p) 1 ≡ one_if (is_full (state_told w) p)
place_is_told w p = one_bit (bits_of w (place_bit p) 1) (mod_below (w / 2 ^ place_bit p) 2 (omega arith)) ∙ ap one_if (sym (full_of_state w p))

mark_is_told : (w : ℕ) → bits_of w mark_bit 1 ≡ one_if (state_told w).stopped
mark_is_told w = one_bit (bits_of w mark_bit 1) (mod_below (w / 2 ^ mark_bit) 2 (omega arith))

-- ---- what a window on some fields leaves of them
told_zone : (w n : ℕ) (z : Zone) → bits_of n (zone_bit z) 5 ≡ 31 → zone_at (state_told (bit_and w n)) z ≡ zone_at (state_told w) z
told_zone w n z e = zone_is (bit_and w n) z ∙ ap (zone_of_code z) (same_field w n (zone_bit z) 5 e) ∙ sym (zone_is w z)

told_place : (w n : ℕ) (p : Place) → bits_of n (place_bit p) 1 ≡ 1 → is_full (state_told (bit_and w n)) p ≡ is_full (state_told w) p
told_place w n p e = full_of_state (bit_and w n) p ∙ ap (λ b. nat_eq b 1) (same_field w n (place_bit p) 1 e) ∙ sym (full_of_state w p)

abbrev covers : ℕ → Option Transfer → Bool
covers n None = true
covers n (Some row) = nat_eq (bits_of n (place_bit row.to) 1) 1

told_onto : (w n : ℕ) (row : Option Transfer) → covers n row ≡ true → is_onto_full (state_told (bit_and w n)).full row ≡ is_onto_full (state_told w).full row
told_onto w n None e = refl
told_onto w n (Some row) e = told_place w n row.to (eqb-true (bits_of n (place_bit row.to) 1) 1 e)

-- ---- a zone, by its five bits and the places where its plates go
abbrev end_of : Option Transfer → List (ℕ × ℕ)
end_of None = []
end_of (Some row) = (place_bit row.to, 1) ∷ []

abbrev span : Zone → List (ℕ × ℕ)
span z = (zone_bit z, 5) ∷ (end_of (transfer_of z OpenIn) ++ end_of (transfer_of z OpenOut))

abbrev is_covered : ℕ → Pattern → Bool
is_covered n p = nat_eq (bit_and n p.mask) p.mask

abbrev onto : Zone → Posture → Pattern
onto z q = onto_full z q (transfer_of z q)

abbrev window : Zone → ℕ
window z = window_on (span z) 0

record Seen (w : ℕ) (z : Zone) (v : ℕ) : Type 0 where
  code : bits_of v (zone_bit z) 5 ≡ bits_of w (zone_bit z) 5
  zone : zone_at (state_told v) z ≡ zone_at (state_told w) z
  ends : (q : Posture) → is_onto_full (state_told v).full (transfer_of z q) ≡ is_onto_full (state_told w).full (transfer_of z q)
  lawful : is_lawful_zone w z ≡ is_lawful_zone v z

seen : (w : ℕ) (z : Zone) → Seen w z (bit_and w (window z))
seen w z =
    let n = window z in
    let five = eqb-true (bits_of n (zone_bit z) 5) 31 (from_zones (λ z. nat_eq (bits_of (window z) (zone_bit z) 5) 31) refl z) in
    let code = same_field w n (zone_bit z) 5 five in
    let inward = stands-window w n (onto z OpenIn) (from_zones (λ z. is_covered (window z) (onto z OpenIn)) refl z) in
    let outward = stands-window w n (onto z OpenOut) (from_zones (λ z. is_covered (window z) (onto z OpenOut)) refl z) in
    record {
      code = code;
      zone = told_zone w n z five;
      ends = λ q. told_onto w n (transfer_of z q) (holds2 zones postures (λ z q. covers (window z) (transfer_of z q)) refl z q);
      lawful = λ i. is_bit_set (zone_codes z) (sym code i) && not (inward i) && not (outward i);
    }

-- it has a code, and the zone that it encodes is lawful
abbrev fits : Bool → Zone → ZoneState → ℕ → Bool
fits full z v code = nat_eq (zone_code z v) code && (has_lawful_owner z v && is_lawful_plate full z v && is_open_to_guest z v && moves_by_host z v && is_of_some_pose z v.posture)

abbrev zone_test : Zone → ℕ → Bool
zone_test z v = let t = state_told v in same_bool (is_lawful_zone v z) (nat_eq (zone_code z (zone_at t z)) (bits_of v (zone_bit z) 5) && is_lawful_at t.full z (zone_at t z))

zone_law : (w : ℕ) (z : Zone) → let t = state_told w in is_lawful_zone w z ≡ (nat_eq (zone_code z (zone_at t z)) (bits_of w (zone_bit z) 5) && is_lawful_at t.full z (zone_at t z))
zone_law w z =
    let s = seen w z in
    let v = bit_and w (window z) in
    s.lawful
    ∙ one_bool (is_lawful_zone v z) _ (from_values (span z) (zone_test z) w 0 0 (and_zero w) (from_zones (λ z. all_values (span z) (zone_test z) 0) refl z))
    ∙ (λ i. fits (is_onto_full (state_told v).full (transfer_of z (s.zone i).posture)) z (s.zone i) (s.code i))
    ∙ ap (λ full. fits full z (zone_at (state_told w) z) (bits_of w (zone_bit z) 5)) (s.ends (zone_at (state_told w) z).posture)

-- a zone without a plate is lawful if it has a code
abbrev clear_test : Zone → ℕ → Bool
clear_test z v = let c = bits_of v (zone_bit z) 5 in implies (nat_eq (bit_at c 2) 0) (same_bool (is_lawful_zone v z) (is_bit_set (zone_codes z) c))

pub clear_law : (w : ℕ) (z : Zone) → bit_at (bits_of w (zone_bit z) 5) 2 ≡ 0 → is_lawful_zone w z ≡ is_bit_set (zone_codes z) (bits_of w (zone_bit z) 5)
clear_law w z e =
    let s = seen w z in
    let v = bit_and w (window z) in
    let c = bits_of v (zone_bit z) 5 in
    s.lawful
    ∙ one_bool (is_lawful_zone v z) (is_bit_set (zone_codes z) c)
    (implied (nat_eq (bit_at c 2) 0) (same_bool (is_lawful_zone v z) (is_bit_set (zone_codes z) c))
    (from_values (span z) (clear_test z) w 0 0 (and_zero w) (from_zones (λ z. all_values (span z) (clear_test z) 0) refl z)) (eq-eqb (bit_at c 2) 0 (ap (λ c. bit_at c 2) s.code ∙ e)))
    ∙ ap (is_bit_set (zone_codes z)) s.code

-- ---- the press
abbrev press_span : List (ℕ × ℕ)
press_span = (zone_bit Z3, 5) ∷ (place_bit PressIn, 1) ∷ (place_bit PressOut, 1) ∷ []

abbrev press_test : ℕ → Bool
press_test v = same_bool (is_lawful_press v) (has_one_plate (state_told v).full (zone_at (state_told v) Z3))

pub press_law : (w : ℕ) → is_lawful_press w ≡ has_one_plate (state_told w).full (zone_at (state_told w) Z3)
press_law w =
    let n = window_on press_span 0 in
    let v = bit_and w n in
    let two = stands-window w n (both (place_is PressIn true) (place_is PressOut true)) refl in
    let forged = stands-window w n (both (posture_is Z3 OpenIn) (place_is PressOut true)) refl in
    let start = told_place w n PressIn refl in
    let end = told_place w n PressOut refl in
    let zone = told_zone w n Z3 refl in
    (λ i. not (two i) && not (forged i))
    ∙ one_bool (is_lawful_press v) (has_one_plate (state_told v).full (zone_at (state_told v) Z3)) (from_values press_span press_test w 0 0 (and_zero w) refl)
    ∙ (λ i. not (start i && end i) && implies (same_posture (zone i).posture OpenIn) (not (end i)))

-- ---- both ways
in_range : (w : ℕ) → w / 2 ^ 40 % 2 ^ 20 ≤ 1048575
in_range w = omega arith

top_clear : (w : ℕ) → w < 2 ^ 64 → stands w (field_is 61 3 0) ≡ true → w < 2 ^ 61
top_clear w fits e =
    let none : bits_of w 61 3 * 2 ^ 61 ≡ 0 = sym (field_shown w 61 3) ∙ eqb-true (bit_and w 16140901064495857664) 0 e in
    omega arith

clear_top : (w : ℕ) → w < 2 ^ 61 → stands w (field_is 61 3 0) ≡ true
clear_top w small =
    let none : bits_of w 61 3 * 2 ^ 61 ≡ 0 = omega arith in
    eq-eqb (bit_and w 16140901064495857664) 0 (field_shown w 61 3 ∙ none)

pub sound_by_masks : (w : ℕ) → w < 2 ^ 64 → is_state_word w ≡ true → IsSound (state_told w) × (packed (state_told w) ≡ w)
sound_by_masks w fits e =
    let t = state_told w in
    let top = stands w (field_is 61 3 0) in
    let lawful = list_all (is_lawful_zone w) every_zone in
    let parts = and_parts (top && lawful) (is_lawful_press w) e in
    let front = and_parts top lawful parts.0 in
    let zone = λ (z : Zone). and_parts (nat_eq (zone_code z (zone_at t z)) (bits_of w (zone_bit z) 5)) (is_lawful_at t.full z (zone_at t z)) (sym (zone_law w z) ∙ from_zones (is_lawful_zone w) front.1 z) in
    let same : w ≡ packed t = is_word_of w t (top_clear w fits front.0) (λ z. sym (eqb-true (zone_code z (zone_at t z)) (bits_of w (zone_bit z) 5) (zone z).0)) (place_is_told w) refl (mark_is_told w) in
    let all_lawful = all_pass (λ z. is_lawful_at t.full z (zone_at t z)) (λ z. (zone z).1) every_zone in
    (sound_by_test t (and_both _ _ (and_both _ _ (le-leb (bits_of w 40 20) 1048575 (in_range w)) all_lawful) (sym (press_law w) ∙ parts.1)), sym same)

pub masks_of_sound : (s : ModelState) → IsSound s → is_state_word (packed s) ≡ true
masks_of_sound s h =
    let w = packed s in
    let t = state_told w in
    let told : t ≡ s = told_back s h in
    let test : is_sound t ≡ true = ap is_sound told ∙ test_of_sound s h in
    let parts = and_parts _ (has_one_plate t.full (zone_at t Z3)) test in
    let lawful = λ (z : Zone). is_lawful_at t.full z (zone_at t z) in
    let code : (z : Zone) → zone_code z (zone_at t z) ≡ bits_of w (zone_bit z) 5 = λ z. ap (λ t. zone_code z (zone_at t z)) told ∙ sym (zone_five s h z) in
    let zone : (z : Zone) → is_lawful_zone w z ≡ true = λ z. zone_law w z ∙ and_both _ (lawful z) (eq-eqb _ _ (code z)) (from_zones lawful (and_right _ (list_all lawful every_zone) parts.0) z) in
    and_both _ _ (and_both _ _ (clear_top w (laid_out s h).bound) (all_pass (is_lawful_zone w) zone every_zone)) (press_law w ∙ parts.1)
