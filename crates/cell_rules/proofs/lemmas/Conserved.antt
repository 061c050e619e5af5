-- The number of plates never changes, and the events determine where they are.
use Rattle.cell_rules.proofs.Names.{◌≡◌, ℕ, ◌+◌, pos, ◌-ℤ◌, Bool, true, false, List, refl, sym, ap, ◌∙◌, arith, ints, Machine, Zone, Z1, Z2, Z3, Z4, Z5, Z6, Place, FeedEntry, Call, Claim, Give, Yield, Take, Release, Advance, Inquire, Done, Event, ZoneMap, zone_in, put_zone, map_zones, PlaceSet, has, put_place, ModelState, zone_at, size_of, plates_of, one_if, IsSound, give_refusal, take_refusal, advance_refusal, reply, changed, emptied}
use Rattle.cell_rules.proofs.Names.{filled, worked, halted, is_belt_of, IsLegal, PlatesAreKept, ZoneState, flags_of}
use Rattle.cell_rules.proofs.lemmas.SoundAfterCalls.{claimed, yielded, released}
use Rattle.cell_rules.proofs.lemmas.Plates.{given, taken}
use Rattle.cell_rules.proofs.lemmas.Transfers.{give_finds, take_finds, advance_finds}
use Rattle.cell_rules.proofs.lemmas.CountedPlates.{Balanced, counted, places-counted, room-left}
use Rattle.cell_rules.proofs.lemmas.Flags.{halted-flag, flags-counted}
use Rattle.cell_rules.proofs.lemmas.Soundness.{done_none}

size-put : (full : PlaceSet) (b : Bool) (p : Place) → size_of (put_place full p b) + one_if (has full p) ≡ size_of full + one_if b
size-put full b FeedEntry = omega arith
size-put full b _ = omega arith

flags-put : (m : ZoneMap) (v : ZoneState) (z : Zone) → flags_of (put_zone m z v) + one_if (zone_in m z).flag ≡ flags_of m + one_if v.flag
flags-put m v Z1 = omega arith
flags-put m v _ = omega arith

flags-halted : (s : ModelState) (n : Machine) → flags_of (map_zones (halted n) s.zones) ≡ flags_of s.zones
flags-halted s n =
    let same = λ (z : Zone). ap one_if (halted-flag (is_belt_of n z) (zone_at s z)) in
    omega (arith, same Z1, same Z2, same Z3, same Z4, same Z5, same Z6)

-- one plate less after a full place is emptied, one more after an empty one is filled, and the same number after a
-- plate goes from place to place
size-emptied : (full : PlaceSet) (p : Place) → has full p ≡ true → size_of (put_place full p false) + 1 ≡ size_of full
size-emptied full p there = omega (arith, size-put full false p, ap one_if there)

size-filled : (full : PlaceSet) (p : Place) → has full p ≡ false → size_of (put_place full p true) ≡ size_of full + 1
size-filled full p room = omega (arith, size-put full true p, ap one_if room)

size-worked : (full : PlaceSet) (way : Place × Place) → has full way.0 ≡ true → has full way.1 ≡ false → size_of (put_place (put_place full way.0 false) way.1 true) ≡ size_of full
size-worked full way there room = size-filled (put_place full way.0 false) way.1 (room-left full way.0 way.1 room) ∙ size-emptied full way.0 there

plates-changed : (s : ModelState) (n : Machine) (c : Call) → IsSound s → reply s n c ≡ Done → plates_of (changed s n c) ≡ plates_of s
plates-changed s n (Claim y) h e = omega (arith, flags-put s.zones (claimed (zone_at s y) n y) y)
plates-changed s n (Give y) h e =
    let found = give_finds s n y (done_none (give_refusal s n y) e) in
    let way = ap (λ t. size_of (emptied s.full t)) found.way in
    omega (arith, way, size-emptied s.full found.row.from found.there, flags-put s.zones (given (zone_at s y) n y) y, ap one_if found.clear)
plates-changed s n (Yield y) h e = omega (arith, flags-put s.zones (yielded (zone_at s y) n y) y)
plates-changed s n (Take y) h e =
    let found = take_finds s n y h (done_none (take_refusal s n y) e) in
    let way = ap (λ t. size_of (filled s.full t)) found.way in
    omega (arith, way, size-filled s.full found.row.to found.room, flags-put s.zones (taken (zone_at s y) n y) y, ap one_if found.set)
plates-changed s n (Release y) h e = omega (arith, flags-put s.zones (released (zone_at s y) n y) y)
plates-changed s n Advance h e =
    let found = advance_finds s n (done_none (advance_refusal s n) e) in
    let way = ap (λ w. size_of (worked s.full w)) found.work in
    omega (arith, way, flags-halted s n, size-worked s.full found.way found.there found.room)
plates-changed s n (Inquire y) h e = cc
plates-changed s n _ h e = refl

abbrev never : Machine → Call → Bool
never n c = false

balanced : (s : ModelState) (n : Machine) (c : Call) → IsSound s → reply s n c ≡ Done → Balanced plates_of never never s n c
balanced s n c h e = ap (λ k. k + 0) (sym (plates-changed s n c h e))

difference : (a b c : ℕ) → a ≡ c + b → pos a -ℤ pos b ≡ pos c
difference a b c e = omega (arith, ints)

pub plates-kept : (s : ModelState) (h : List Event) → IsSound s → IsLegal s h → PlatesAreKept s h
plates-kept s h k l = record {
  at_place = λ p. difference _ _ _ (places-counted s h p k l);
  in_transfer = λ z. difference _ _ _ (flags-counted s h z k l);
  total = let same = counted plates_of never never balanced s h k l in omega (arith, same);
}
