-- A word into which a pattern is written: its fields, and the state that it encodes.
use Rattle.cell_word.proofs.Names.{◌≡◌, ℕ, ◌+◌, ◌-◌, ◌*◌, ◌/◌, ◌%◌, ◌^◌, ◌<◌, List, [], ◌∷◌, sym, ap, ap₂, ◌∙◌, subst, arith, mod-eq_of_lt, bit_and, bit_or, All, div-eq_of_lt, pow-add, shr-shr, div-add-mod', and-not, and_comm, and_mask, or_comm, or_lt, mod_below, All-head, All-tail, Zone, Z1, Place, FeedEntry}
use Rattle.cell_word.proofs.Names.{ModelState, zone_at, is_full, one_if, ZoneState, Field, field, word_of, zone_bit, place_bit, stamp_bit, mark_bit, owner_code, posture_code, zone_fields, fields_of, packed, bits_of, SideBySide, ReadsBack, IsOffStamp, with_written}
use Rattle.cell_word.proofs.Fields.{word-cons, arranged}
use Rattle.cell_word.proofs.lemmas.RoundTrip.{ZoneRead, owner_fits, flag_fits, posture_fits, all_fields, all_three, side_by_side}
use Rattle.cell_word.proofs.Windows.{bits_of-and, bits_of-or}
use Rattle.cell_word.proofs.Seen.{zone_code, five_read}

-- ---- a number is the word of the fields that read back from it
upper_part : (start end x : ℕ) (fs : List Field) → SideBySide start end fs → All (ReadsBack x) fs → x < 2 ^ end → x / 2 ^ start * 2 ^ start ≡ word_of fs
upper_part start end x [] side reads below =
    let small : x < 2 ^ start = subst (λ n. x < 2 ^ n) (sym side) below in
    ap (λ n. n * 2 ^ start) (div-eq_of_lt small) ∙ omega arith
upper_part start end x (f ∷ fs) side reads below =
    let width = f.width in
    let above = x / 2 ^ (start + width) in
    let value : bits_of x start width ≡ f.value = ap (λ n. bits_of x n width) (sym side.0) ∙ All-head (ReadsBack x) f fs reads in
    let split : x / 2 ^ start ≡ above * 2 ^ width + f.value =
    sym (div-add-mod' (x / 2 ^ start) (2 ^ width)) ∙ ap₂ (λ a b. a * 2 ^ width + b) (shr-shr x start width) value in
    let rest : above * 2 ^ (start + width) ≡ word_of fs = upper_part (start + width) end x fs side.1 (All-tail (ReadsBack x) f fs reads) below in
    ap (λ n. n * 2 ^ start) split
    ∙ sym (arranged above (2 ^ width) (2 ^ start) f.value)
    ∙ ap (λ n. f.value * 2 ^ start + above * n) (sym (pow-add 2 start width))
    ∙ ap (λ n. f.value * 2 ^ start + n) rest
    ∙ sym (word-cons start f fs side.0)

-- the five bits of a zone determine its three fields
codes_of : (a o f q : ℕ) → o < 4 → f < 2 → q < 4 → a % 32 ≡ o + 4 * f + 8 * q → (a % 4 ≡ o) × (a / 4 % 2 ≡ f) × (a / 8 % 4 ≡ q)
codes_of a o f q ho hf hq e = (omega arith, omega arith, omega arith)

zone_told_by : (x : ℕ) (z : Zone) (v : ZoneState) → bits_of x (zone_bit z) 5 ≡ zone_code z v → ZoneRead x z v
zone_told_by x z v e =
    let codes = codes_of (x / 2 ^ zone_bit z) (owner_code z v.owner) (one_if v.flag) (posture_code v.posture) (owner_fits z v.owner) (flag_fits v.flag) (posture_fits v.posture) e in
    record {
      owner = codes.0;
      flag = ap (λ n. n % 2) (sym (shr-shr x (zone_bit z) 2)) ∙ codes.1;
      posture = ap (λ n. n % 4) (sym (shr-shr x (zone_bit z) 3)) ∙ codes.2;
    }

zone_reads : (x : ℕ) (z : Zone) (v : ZoneState) → ZoneRead x z v → All (ReadsBack x) (zone_fields z v)
zone_reads x z v r =
    all_three (ReadsBack x) (field (zone_bit z) 2 (owner_code z v.owner)) (field (zone_bit z + 2) 1 (one_if v.flag)) (field (zone_bit z + 3) 2 (posture_code v.posture)) r.owner r.flag r.posture

-- a number below 2 to the 61 with the zones, places, stamp and mark of a state is its word
pub is_word_of : (x : ℕ) (s : ModelState) → x < 2 ^ 61 → ((z : Zone) → bits_of x (zone_bit z) 5 ≡ zone_code z (zone_at s z)) → ((p : Place) → bits_of x (place_bit p) 1 ≡ one_if (is_full s p))
    → bits_of x stamp_bit 20 ≡ s.stamp → bits_of x mark_bit 1 ≡ one_if s.stopped → x ≡ packed s
unfolding packed
is_word_of x s below zone place stamp mark =
    let reads : All (ReadsBack x) (fields_of s) = all_fields (ReadsBack x) s (λ z. zone_reads x z (zone_at s z) (zone_told_by x z (zone_at s z) (zone z))) place stamp mark in
    let whole : x / 2 ^ 0 * 2 ^ 0 ≡ word_of (fields_of s) = upper_part 0 61 x (fields_of s) (side_by_side s) reads below in
    let same : x ≡ x / 2 ^ 0 * 2 ^ 0 = omega arith in
    same ∙ whole

-- ---- the fields of a word into which bits are written
abbrev pub complement : ℕ → ℕ
complement mask = 2 ^ 64 - 1 - mask

-- to clear bits is to keep the others
pub cleared : (w mask : ℕ) → w < 2 ^ 64 → mask < 2 ^ 64 → w - bit_and w mask ≡ bit_and w (complement mask)
cleared w mask small within =
    let parts : bit_and (complement mask) w + bit_and mask w ≡ w = and-not 64 mask w within small in
    let kept : bit_and (complement mask) w ≡ bit_and w (complement mask) = and_comm (complement mask) w in
    let gone : bit_and mask w ≡ bit_and w mask = and_comm mask w in
    omega arith

-- the bits of a word after some are kept and some are set
abbrev pub rewritten : ℕ → ℕ → ℕ → ℕ
rewritten v keep set = bit_or (bit_and v keep) set

unchanged : (v n : ℕ) → v < 2 ^ n → rewritten v (2 ^ n - 1) 0 ≡ v
unchanged v n small = or_comm (bit_and v (2 ^ n - 1)) 0 ∙ and_mask v n ∙ mod-eq_of_lt small

pub field_written : (w mask set k n : ℕ) → w < 2 ^ 64 → mask < 2 ^ 64 → bits_of (with_written w mask set) k n ≡ rewritten (bits_of w k n) (bits_of (complement mask) k n) (bits_of set k n)
field_written w mask set k n small within =
    ap (λ m. bits_of (bit_or m set) k n) (cleared w mask small within)
    ∙ bits_of-or (bit_and w (complement mask)) set k n
    ∙ ap (λ m. bit_or m (bits_of set k n)) (bits_of-and w (complement mask) k n)

-- one added at bit 40 leaves the bits below
zone_below : (y : ℕ) (z : Zone) → bits_of (y + 2 ^ 40) (zone_bit z) 5 ≡ bits_of y (zone_bit z) 5
zone_below y Z1 = omega arith
zone_below y _ = omega arith

place_below : (y : ℕ) (p : Place) → bits_of (y + 2 ^ 40) (place_bit p) 1 ≡ bits_of y (place_bit p) 1
place_below y FeedEntry = omega arith
place_below y _ = omega arith

-- it adds one to the stamp, and the mark stays, since the stamp isn't the last one
stamp_up : (y n : ℕ) → y < 2 ^ 61 → bits_of y 40 20 ≡ n → n < 1048575 → (bits_of (y + 2 ^ 40) 40 20 ≡ n + 1) × (y + 2 ^ 40 < 2 ^ 61) × (bits_of (y + 2 ^ 40) 60 1 ≡ bits_of y 60 1)
stamp_up y n below e small = (omega arith, omega arith, omega arith)

-- the word of the next state, from the fields of the word into which bits are written
pub written_word : (w mask set : ℕ) (s : ModelState) (n : ℕ) → w < 2 ^ 61 → IsOffStamp mask → IsOffStamp set → bits_of w stamp_bit 20 ≡ n → n < 1048575 → s.stamp ≡ n + 1
    → ((z : Zone) → ZoneRead (with_written w mask set) z (zone_at s z)) → ((p : Place) → bits_of (with_written w mask set) (place_bit p) 1 ≡ one_if (is_full s p)) → bits_of (with_written w mask set) mark_bit 1 ≡ one_if s.stopped
    → packed s ≡ with_written w mask set + 2 ^ 40
written_word w mask set s n below mask_off set_off stamp small next zone place mark =
    let y = with_written w mask set in
    let small_word : w < 2 ^ 64 = omega arith in
    let small_mask : mask < 2 ^ 64 = omega (arith, mask_off.0) in
    let low : y < 2 ^ 61 = or_lt 61 (w - bit_and w mask) set (omega arith) set_off.0 in
    let kept : bits_of (complement mask) 40 20 ≡ 2 ^ 20 - 1 = omega (arith, mask_off.0, mask_off.1) in
    let stays : bits_of y 40 20 ≡ n =
    field_written w mask set 40 20 small_word small_mask
    ∙ ap₂ (rewritten (bits_of w 40 20)) kept set_off.1
    ∙ unchanged (bits_of w 40 20) 20 (mod_below (w / 2 ^ 40) (2 ^ 20) (omega arith))
    ∙ stamp in
    let up = stamp_up y n low stays small in
    sym (is_word_of (y + 2 ^ 40) s up.1 (λ z. zone_below y z ∙ five_read y z (zone_at s z) (zone z)) (λ p. place_below y p ∙ place p) (up.0 ∙ sym next) (up.2 ∙ mark))
