-- What a Done give, take or advance finds: the way of the plate, its start full or its end empty.
use Rattle.cell_rules.proofs.Names.{◌≡◌, Bool, true, false, ◌&&◌, not, Option, Some, None, is_some, refl, subst, Machine, Zone, Transfer, Place, NoPlate, PlaceFull, PlateInZone, transfer_of, same_machine, own_move_of, ModelState, zone_at, is_full, IsSound, is_party, is_owned_by, is_received_by, is_onto_full}
use Rattle.cell_rules.specs.Refusals
use Rattle.cell_rules.proofs.lemmas.Tables.{implied, and_left, and_right}
use Rattle.cell_rules.proofs.lemmas.DoneCalls.{none_then, none_then_not, some_unless, none_at, give_conditions, take_done, advance_conditions, advance_done}
use Rattle.cell_rules.proofs.lemmas.Holders.{owner_is}

-- ---- a give: the zone is clear and the plate at its start
pub record Gives (s : ModelState) (m : Machine) (z : Zone) : Type 0 where
  pub row : Transfer
  pub way : Refusals.transfer_given s m z ≡ Some row
  pub there : is_full s row.from ≡ true
  pub clear : (zone_at s z).flag ≡ false

gives_by : (s : ModelState) (m : Machine) (z : Zone) (row : Option Transfer) → Refusals.transfer_given s m z ≡ row → is_some row ≡ true → Refusals.nothing_to_give s row ≡ None → (zone_at s z).flag ≡ false → Gives s m z
gives_by s m z None way some there clear = cc
gives_by s m z (Some row) way some there clear = record { row = row; way = way; there = none_then_not (is_full s row.from) NoPlate there; clear = clear }

pub give_finds : (s : ModelState) (m : Machine) (z : Zone) → Refusals.give_refusal s m z ≡ None → Gives s m z
give_finds s m z e =
    let row = Refusals.transfer_given s m z in
    let none = none_at (give_conditions s m z) e in
    gives_by s m z row refl (some_unless row (none 4)) (none 5) (none_then (zone_at s z).flag (PlateInZone z) (none 3))

-- ---- a take: the plate is in the zone, the caller receives it and its end is empty
pub record Takes (s : ModelState) (m : Machine) (z : Zone) : Type 0 where
  pub row : Transfer
  pub way : transfer_of z (Refusals.posture_at s z) ≡ Some row
  pub receiver : same_machine m row.receiver ≡ true
  pub room : is_full s row.to ≡ false
  pub set : (zone_at s z).flag ≡ true

was_not : (b : Bool) → not b ≡ true → b ≡ false
was_not true e = cc
was_not false e = refl

takes_by : (s : ModelState) (m : Machine) (z : Zone) (row : Option Transfer) → transfer_of z (Refusals.posture_at s z) ≡ row → (is_received_by (Some m) row && not (is_onto_full s.full row)) ≡ true → (zone_at s z).flag ≡ true → Takes s m z
takes_by s m z None way e set = cc
takes_by s m z (Some row) way e set =
    let mine = same_machine m row.receiver in
    let full = is_full s row.to in
    record { row = row; way = way; receiver = and_left mine (not full) e; room = was_not full (and_right mine (not full) e); set = set }

pub take_finds : (s : ModelState) (m : Machine) (z : Zone) → IsSound s → Refusals.take_refusal s m z ≡ None → Takes s m z
take_finds s m z h e =
    let v = zone_at s z in
    let row = transfer_of z v.posture in
    let mine = and_right (is_party m z) (is_owned_by v.owner m && v.flag) (take_done s m z e).0 in
    let set = and_right (is_owned_by v.owner m) v.flag mine in
    let Room : Option Machine → Type 0 = λ o. (is_received_by o row && not (is_onto_full s.full row)) ≡ true in
    takes_by s m z row refl
    (subst Room (owner_is v.owner m (and_left (is_owned_by v.owner m) v.flag mine)) (implied v.flag (is_received_by v.owner row && not (is_onto_full s.full row)) (h.flag_has_transfer z) set)) set

-- ---- an advance: the plate is at its start and the end is empty
pub record Works (s : ModelState) (m : Machine) : Type 0 where
  pub way : Place × Place
  pub work : own_move_of m ≡ Some way
  pub there : is_full s way.0 ≡ true
  pub room : is_full s way.1 ≡ false

works_by : (s : ModelState) (m : Machine) (way : Option (Place × Place)) → own_move_of m ≡ way → is_some way ≡ true → Refusals.nothing_to_work s way ≡ None → Refusals.no_room_for_work s way ≡ None → Works s m
works_by s m None work some there room = cc
works_by s m (Some way) work some there room = record { way = way; work = work; there = none_then_not (is_full s way.0) NoPlate there; room = none_then (is_full s way.1) PlaceFull room }

pub advance_finds : (s : ModelState) (m : Machine) → Refusals.advance_refusal s m ≡ None → Works s m
advance_finds s m e = let none = none_at (advance_conditions s m) e in works_by s m (own_move_of m) refl (advance_done s m e).0 (none 3) (none 4)
