-- What a Done call writes is what it changes: each field of the next state holds what the call writes into that field.
use Rattle.cell_word.proofs.Names.{◌≡◌, ℕ, ◌+◌, ◌^◌, ◌<◌, Bool, true, false, cond, ◌&&◌, not, nat_eq, Option, Some, None, is_some, unwrap_or, refl, sym, ap, ap₂, ◌∙◌, arith, eqb-true, if◌then◌else◌, and_parts, Machine, Feed, Watch, Zone, Z1, Transfer, Place, Posture, Closed, Call, Claim, Give, Yield, Take, Release, SetPose, Advance, Inquire, Stop, Resume, Done, transfer_of, posture_of, own_move_of, same_machine, same_zone, same_place, one_machine, PlaceSet, has, ModelState, zone_at, is_full, one_if}
use Rattle.cell_word.proofs.Names.{IsSound, implies, is_party, reply, changed, next, next_by, emptied, filled, worked, is_belt_of, and_left, and_right, implied, all_bools, from_bools, all_zones, from_zones, from_places, all_postures, machines, zones, postures, holds2, holds3, has-put, none_or, fresh, claim_done, give_done, yield_done, take_done, release_done, stop_done, resume_done, done_none, take_finds, zone_bit, place_bit, mark_bit, owner_code, posture_code, packed, bits_of, with_written, written, received_by, row_received, Pattern}
use Rattle.cell_rules.specs.Names.{other_party, stopped_after}
use Rattle.cell_rules.specs.Refusals
use Rattle.cell_rules.proofs.lemmas.Tables.{all_places, all_owners, from_owners, from_postures}
use Rattle.cell_word.specs.Guards as guards
use Rattle.cell_word.proofs.lemmas.RoundTrip.{ZoneRead, laid_out, zone_fields_read, place_field_read, stamp_read, mark_read}
use Rattle.cell_word.proofs.SameAnswer.{same_row, one_row}
use Rattle.cell_word.proofs.Possible.{calls, written_off}
use Rattle.cell_word.proofs.Writing.{complement, rewritten, field_written, written_word}

-- ---- the fields of the next state, each by what it was
abbrev owner_by : Machine → Call → Zone → Option Machine → Option Machine
owner_by m (Claim y) z o = cond (same_zone y z) (Some m) o
owner_by m (Give y) z o = cond (same_zone y z) (Some (other_party m y)) o
owner_by m (Yield y) z o = cond (same_zone y z) (Some (other_party m y)) o
owner_by m (Release y) z o = cond (same_zone y z) None o
owner_by m _ z o = o

abbrev flag_by : Machine → Call → Zone → Bool → Bool
flag_by m (Give y) z f = cond (same_zone y z) true f
flag_by m (Take y) z f = cond (same_zone y z) false f
flag_by m _ z f = f

abbrev posture_by : Machine → Call → Zone → Posture → Posture
posture_by m (SetPose p) z q = unwrap_or (posture_of m p z) q
posture_by m Advance z q = cond (is_belt_of m z) Closed q
posture_by m _ z q = q

abbrev emptied_at : Option Transfer → Place → Bool → Bool
emptied_at None at b = b
emptied_at (Some row) at b = cond (same_place row.from at) false b

abbrev filled_at : Option Transfer → Place → Bool → Bool
filled_at None at b = b
filled_at (Some row) at b = cond (same_place row.to at) true b

abbrev worked_at : Option (Place × Place) → Place → Bool → Bool
worked_at None at b = b
worked_at (Some way) at b = cond (same_place way.1 at) true (cond (same_place way.0 at) false b)

abbrev place_by : Machine → Call → Place → Bool → Bool
place_by m (Give z) at b = emptied_at (guards.row_given m z) at b
place_by m (Take z) at b = filled_at (row_received m z) at b
place_by m Advance at b = worked_at (own_move_of m) at b
place_by m _ at b = b

abbrev stopped_by : Call → Bool → Bool
stopped_by Stop b = true
stopped_by Resume b = false
stopped_by _ b = b

abbrev Becomes : ModelState → Machine → Call → Zone → Type 0
Becomes s m c z =
    ((zone_at (changed s m c) z).owner ≡ owner_by m c z (zone_at s z).owner)
    × ((zone_at (changed s m c) z).flag ≡ flag_by m c z (zone_at s z).flag)
    × ((zone_at (changed s m c) z).posture ≡ posture_by m c z (zone_at s z).posture)

work_becomes : (s : ModelState) (m : Machine) (z : Zone) → Becomes s m Advance z
work_becomes s Feed Z1 = (refl, refl, refl)
work_becomes s _ Z1 = (refl, refl, refl)
work_becomes s _ _ = (refl, refl, refl)

becomes : (s : ModelState) (m : Machine) (c : Call) (z : Zone) → Becomes s m c z
becomes s m Advance z = work_becomes s m z
becomes s m (Claim Z1) Z1 = (refl, refl, refl)
becomes s m (Give Z1) Z1 = (refl, refl, refl)
becomes s m (Yield Z1) Z1 = (refl, refl, refl)
becomes s m (Take Z1) Z1 = (refl, refl, refl)
becomes s m (Release Z1) Z1 = (refl, refl, refl)
becomes s m _ Z1 = (refl, refl, refl)
becomes s m _ _ = (refl, refl, refl)

emptied_has : (full : PlaceSet) (row : Option Transfer) (at : Place) → has (emptied full row) at ≡ emptied_at row at (has full at)
emptied_has full None at = refl
emptied_has full (Some row) at = has-put full false row.from at

filled_has : (full : PlaceSet) (row : Option Transfer) (at : Place) → has (filled full row) at ≡ filled_at row at (has full at)
filled_has full None at = refl
filled_has full (Some row) at = has-put full true row.to at

worked_has : (full : PlaceSet) (way : Option (Place × Place)) (at : Place) → has (worked full way) at ≡ worked_at way at (has full at)
worked_has full None at = refl
worked_has full (Some way) at = has-put _ true way.1 at ∙ ap (cond (same_place way.1 at) true) (has-put full false way.0 at)

stopped_is : (s : ModelState) (c : Call) → stopped_after s c ≡ stopped_by c s.stopped
stopped_is s Stop = refl
stopped_is s _ = refl

-- if a machine may give or receive in a posture, the row is the only one in which it does
abbrev once_test : (Machine → Option Transfer → Option Transfer) → (Machine → Zone → Option Transfer) → Machine → Zone → Posture → Bool
once_test by row m z q = implies (is_some (by m (transfer_of z q))) (same_row (by m (transfer_of z q)) (row m z))

once : (by : Machine → Option Transfer → Option Transfer) (row : Machine → Zone → Option Transfer) → machines.all (λ m. zones.all (λ z. postures.all (once_test by row m z))) ≡ true
    → (m : Machine) (z : Zone) (q : Posture) → is_some (by m (transfer_of z q)) ≡ true → by m (transfer_of z q) ≡ row m z
once by row table m z q some = one_row _ _ (implied (is_some (by m (transfer_of z q))) (same_row (by m (transfer_of z q)) (row m z)) (holds3 machines zones postures (once_test by row) table m z q) some)

-- ---- what a Done call finds
abbrev may : Machine → Call → Bool
may m (Claim z) = is_party m z
may m (Give z) = is_some (guards.row_given m z)
may m (Yield z) = is_party m z
may m (Take z) = is_some (row_received m z)
may m (Release z) = is_party m z
may m (Inquire z) = false
may m Stop = same_machine m Watch
may m Resume = same_machine m Watch
may m _ = true

record Found (s : ModelState) (m : Machine) (c : Call) : Type 0 where
  allowed : may m c ≡ true
  unworn : s.stamp < 1048575
  places : (at : Place) → is_full (changed s m c) at ≡ place_by m c at (is_full s at)

give_found : (s : ModelState) (m : Machine) (z : Zone) → Refusals.give_refusal s m z ≡ None → Found s m (Give z)
give_found s m z e =
    let done = give_done s m z e in
    let gift = Refusals.transfer_given s m z in
    let some : is_some gift ≡ true = and_right (not (zone_at s z).flag) (is_some gift) (and_right _ _ (and_right (is_party m z) _ done.0)) in
    let same : gift ≡ guards.row_given m z = once Refusals.given_by guards.row_given refl m z (zone_at s z).posture some in
    record { allowed = ap is_some (sym same) ∙ some; unworn = done.2; places = λ at. emptied_has s.full gift at ∙ ap (λ row. emptied_at row at (is_full s at)) same }

take_found : (s : ModelState) → IsSound s → (m : Machine) (z : Zone) → Refusals.take_refusal s m z ≡ None → Found s m (Take z)
take_found s sound m z e =
    let done = take_done s m z e in
    let found = take_finds s m z sound e in
    let row = transfer_of z (zone_at s z).posture in
    let here : m ≡ found.row.receiver = one_machine m found.row.receiver found.receiver in
    let turned : same_machine found.row.receiver m ≡ true = ap₂ same_machine (sym here) here ∙ found.receiver in
    let mine : received_by m row ≡ row = ap (received_by m) found.way ∙ ap (λ b. if b then Some found.row else None) turned ∙ sym found.way in
    let some : is_some (received_by m row) ≡ true = ap is_some (mine ∙ found.way) in
    let same : row ≡ row_received m z = sym mine ∙ once received_by row_received refl m z (zone_at s z).posture some in
    record { allowed = ap is_some (sym same ∙ found.way); unworn = done.1; places = λ at. filled_has s.full row at ∙ ap (λ row. filled_at row at (is_full s at)) same }

found : (s : ModelState) → IsSound s → (m : Machine) (c : Call) → reply s m c ≡ Done → Found s m c
found s sound m (Claim z) e = let done = claim_done s m z (done_none (Refusals.claim_refusal s m z) e) in record { allowed = and_left (is_party m z) _ done.0; unworn = done.1; places = λ at. refl }
found s sound m (Give z) e = give_found s m z (done_none (Refusals.give_refusal s m z) e)
found s sound m (Yield z) e = let done = yield_done s m z (done_none (Refusals.yield_refusal s m z) e) in record { allowed = and_left (is_party m z) _ done.0; unworn = done.1; places = λ at. refl }
found s sound m (Take z) e = take_found s sound m z (done_none (Refusals.take_refusal s m z) e)
found s sound m (Release z) e = let done = release_done s m z (done_none (Refusals.release_refusal s m z) e) in record { allowed = and_left (is_party m z) _ done.0; unworn = done.1; places = λ at. refl }
found s sound m (SetPose p) e = record { allowed = refl; unworn = fresh s (none_or _ (Refusals.worn s) (done_none (Refusals.pose_refusal s m p) e)).1; places = λ at. refl }
found s sound m Advance e = record { allowed = refl; unworn = fresh s (none_or _ (Refusals.worn s) (done_none (Refusals.advance_refusal s m) e)).1; places = worked_has s.full (own_move_of m) }
found s sound m (Inquire z) e = absurd (cc)
found s sound m Stop e = let done = stop_done s m (done_none (Refusals.stop_refusal s m) e) in record { allowed = done.0; unworn = done.2; places = λ at. refl }
found s sound m Resume e = let done = resume_done s m (done_none (Refusals.resume_refusal s m) e) in record { allowed = done.0; unworn = done.2; places = λ at. refl }

-- ---- what a call writes, tested at all values of each field
abbrev becomes_in : Pattern → ℕ → ℕ → ℕ → ℕ → Bool
becomes_in p lowest width before after = nat_eq (rewritten before (bits_of (complement p.mask) lowest width) (bits_of p.wanted lowest width)) after

abbrev owner_test : Machine → Call → Zone → Option Machine → Bool
owner_test m c z o = becomes_in (written m c) (zone_bit z) 2 (owner_code z o) (owner_code z (owner_by m c z o))

abbrev flag_test : Machine → Call → Zone → Bool → Bool
flag_test m c z f = becomes_in (written m c) (zone_bit z + 2) 1 (one_if f) (one_if (flag_by m c z f))

abbrev posture_test : Machine → Call → Zone → Posture → Bool
posture_test m c z q = becomes_in (written m c) (zone_bit z + 3) 2 (posture_code q) (posture_code (posture_by m c z q))

abbrev zone_test : Machine → Call → Zone → Bool
zone_test m c z = all_owners (owner_test m c z) && (all_bools (flag_test m c z) && all_postures (posture_test m c z))

abbrev place_test : Machine → Call → Place → Bool → Bool
place_test m c at b = becomes_in (written m c) (place_bit at) 1 (one_if b) (one_if (place_by m c at b))

abbrev mark_test : Machine → Call → Bool → Bool
mark_test m c b = becomes_in (written m c) mark_bit 1 (one_if b) (one_if (stopped_by c b))

abbrev call_test : Machine → Call → Bool
call_test m c = implies (may m c) (all_zones (zone_test m c) && (all_places (λ at. all_bools (place_test m c at)) && all_bools (mark_test m c)))

into : (w : ℕ) (p : Pattern) → w < 2 ^ 61 → p.mask < 2 ^ 61 → (lowest width before after : ℕ) → bits_of w lowest width ≡ before → becomes_in p lowest width before after ≡ true → bits_of (with_written w p.mask p.wanted) lowest width ≡ after
into w p small within lowest width before after is e =
    field_written w p.mask p.wanted lowest width (omega arith) (omega arith)
    ∙ ap (λ v. rewritten v (bits_of (complement p.mask) lowest width) (bits_of p.wanted lowest width)) is
    ∙ eqb-true (rewritten before (bits_of (complement p.mask) lowest width) (bits_of p.wanted lowest width)) after e

zone_into : (s : ModelState) → IsSound s → (m : Machine) (c : Call) (z : Zone) → zone_test m c z ≡ true → ZoneRead (with_written (packed s) (written m c).mask (written m c).wanted) z (zone_at (changed s m c) z)
zone_into s sound m c z e =
    let v = zone_at s z in
    let was = zone_fields_read s sound z in
    let is = becomes s m c z in
    let tests = and_parts (all_owners (owner_test m c z)) (all_bools (flag_test m c z) && all_postures (posture_test m c z)) e in
    let rest = and_parts (all_bools (flag_test m c z)) (all_postures (posture_test m c z)) tests.1 in
    let at = into (packed s) (written m c) (laid_out s sound).bound (written_off m c).0.0 in
    record {
      owner = at (zone_bit z) 2 (owner_code z v.owner) (owner_code z (owner_by m c z v.owner)) was.owner (from_owners (owner_test m c z) tests.0 v.owner) ∙ ap (owner_code z) (sym is.0);
      flag = at (zone_bit z + 2) 1 (one_if v.flag) (one_if (flag_by m c z v.flag)) was.flag (from_bools (flag_test m c z) rest.0 v.flag) ∙ ap one_if (sym is.1);
      posture = at (zone_bit z + 3) 2 (posture_code v.posture) (posture_code (posture_by m c z v.posture)) was.posture (from_postures (posture_test m c z) rest.1 v.posture) ∙ ap posture_code (sym is.2);
    }

pub done_written : (s : ModelState) → IsSound s → (m : Machine) (c : Call) → reply s m c ≡ Done → packed (next s m c) ≡ with_written (packed s) (written m c).mask (written m c).wanted + 2 ^ 40
done_written s sound m c e =
    let p = written m c in
    let done = found s sound m c e in
    let off = written_off m c in
    let bound = (laid_out s sound).bound in
    let all_at = λ (at : Place). all_bools (place_test m c at) in
    let tests = and_parts (all_zones (zone_test m c)) (all_places all_at && all_bools (mark_test m c)) (implied (may m c) _ (holds2 machines calls call_test refl m c) done.allowed) in
    let rest = and_parts (all_places all_at) (all_bools (mark_test m c)) tests.1 in
    let at = into (packed s) p bound off.0.0 in
    ap (λ a. packed (next_by a s m c)) e
    ∙ written_word (packed s) p.mask p.wanted (changed s m c) s.stamp bound off.0 off.1 (stamp_read s sound) done.unworn refl
    (λ z. zone_into s sound m c z (from_zones (zone_test m c) tests.0 z))
    (λ q. at (place_bit q) 1 (one_if (is_full s q)) (one_if (place_by m c q (is_full s q))) (place_field_read s sound q) (from_bools (place_test m c q) (from_places all_at rest.0 q) (is_full s q)) ∙ ap one_if (sym (done.places q)))
    (at mark_bit 1 (one_if s.stopped) (one_if (stopped_by c s.stopped)) (mark_read s sound) (from_bools (mark_test m c) rest.1 s.stopped) ∙ ap one_if (sym (stopped_is s c)))
