-- What the word of a sound state shows through windows on its zones, its places, its stamp and its mark.
use Rattle.cell_word.proofs.Names.{◌≡◌, ℕ, ◌+◌, ◌*◌, ◌^◌, Bool, true, false, ◌&&◌, refl, ap, ◌∙◌, bit_and, Zone, Place, transfer_of, ModelState, zone_at, is_full, one_if, IsSound, implies, has_lawful_owner, is_lawful_plate, is_received_by, is_onto_full, is_open_to_guest, moves_by_host, is_of_some_pose, ZoneState, and_both, zone_bit, place_bit, stamp_bit, mark_bit, owner_code, posture_code, packed, bits_of}
use Rattle.cell_word.proofs.lemmas.RoundTrip.{ZoneRead, zone_fields_read, place_field_read, stamp_read, mark_read}
use Rattle.cell_word.proofs.Windows.{field_shown, five_bits}

-- the five bits of a zone
abbrev pub zone_code : Zone → ZoneState → ℕ
zone_code z v = owner_code z v.owner + 4 * one_if v.flag + 8 * posture_code v.posture

abbrev pub zone_window : Zone → ℕ
zone_window z = 31 * 2 ^ zone_bit z

abbrev pub zone_word : Zone → ZoneState → ℕ
zone_word z v = zone_code z v * 2 ^ zone_bit z

abbrev pub place_window : Place → ℕ
place_window p = 1 * 2 ^ place_bit p

abbrev pub place_word : Place → Bool → ℕ
place_word p b = one_if b * 2 ^ place_bit p

abbrev pub stamp_window : ℕ
stamp_window = 1048575 * 2 ^ stamp_bit

abbrev pub mark_window : ℕ
mark_window = 1 * 2 ^ mark_bit

abbrev pub mark_word : Bool → ℕ
mark_word b = one_if b * 2 ^ mark_bit

pub five_read : (w : ℕ) (z : Zone) (v : ZoneState) → ZoneRead w z v → bits_of w (zone_bit z) 5 ≡ zone_code z v
five_read w z v r = five_bits w (zone_bit z) ∙ (λ i. r.owner i + 4 * r.flag i + 8 * r.posture i)

pub zone_five : (s : ModelState) → IsSound s → (z : Zone) → bits_of (packed s) (zone_bit z) 5 ≡ zone_code z (zone_at s z)
zone_five s sound z = five_read (packed s) z (zone_at s z) (zone_fields_read s sound z)

pub zone_shown : (s : ModelState) → IsSound s → (z : Zone) → bit_and (packed s) (zone_window z) ≡ zone_word z (zone_at s z)
zone_shown s sound z = field_shown (packed s) (zone_bit z) 5 ∙ ap (λ n. n * 2 ^ zone_bit z) (zone_five s sound z)

pub place_shown : (s : ModelState) → IsSound s → (p : Place) → bit_and (packed s) (place_window p) ≡ place_word p (is_full s p)
place_shown s sound p = field_shown (packed s) (place_bit p) 1 ∙ ap (λ n. n * 2 ^ place_bit p) (place_field_read s sound p)

pub stamp_shown : (s : ModelState) → IsSound s → bit_and (packed s) stamp_window ≡ s.stamp * 2 ^ stamp_bit
stamp_shown s sound = field_shown (packed s) stamp_bit 20 ∙ ap (λ n. n * 2 ^ stamp_bit) (stamp_read s sound)

pub mark_shown : (s : ModelState) → IsSound s → bit_and (packed s) mark_window ≡ mark_word s.stopped
mark_shown s sound = field_shown (packed s) mark_bit 1 ∙ ap (λ n. n * 2 ^ mark_bit) (mark_read s sound)

-- ---- what a sound state has at a zone, whatever is at its places
abbrev pub is_lawful : Zone → ZoneState → Bool
is_lawful z v = has_lawful_owner z v && is_lawful_plate false z v && is_open_to_guest z v && moves_by_host z v && is_of_some_pose z v.posture

flagless : (f r : Bool) → implies f (r && false) ≡ true → implies f (r && true) ≡ true
flagless false r e = refl
flagless true true e = cc
flagless true _ e = cc

emptier : (b : Bool) (z : Zone) (v : ZoneState) → is_lawful_plate b z v ≡ true → is_lawful_plate false z v ≡ true
emptier false z v e = e
emptier true z v e = flagless v.flag (is_received_by v.owner (transfer_of z v.posture)) e

pub lawful_at : (s : ModelState) → IsSound s → (z : Zone) → is_lawful z (zone_at s z) ≡ true
lawful_at s h z =
    let v = zone_at s z in
    let plate : is_lawful_plate false z v ≡ true = emptier (is_onto_full s.full (transfer_of z v.posture)) z v (h.flag_has_transfer z) in
    and_both _ _ (and_both _ _ (and_both _ _ (and_both _ _ (h.owner_is_party z) plate) (h.guest_only_while_open z)) (h.moving_belongs_to_host z)) (h.posture_of_some_pose z)
