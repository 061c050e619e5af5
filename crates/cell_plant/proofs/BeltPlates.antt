-- A plate is on a belt if and only if its place is full: the entry's and the end's.
use Rattle.cell_plant.proofs.Names.{◌≡◌, ℤ, Bool, true, false, IsSome, IsTrue, ◌↔◌, Option, Some, None, refl, sym, ap, ◌∙◌, subst, if◌then◌else◌, Machine, Zone, Posture, Place, Call, Give, Take, Advance, Done, transfer_of, same_machine, keeper_of, own_move_of, ModelState, has, is_full, IsSound, posture_at, given_by, emptied, filled, advance_refusal, reply, next, changed}
use Rattle.cell_plant.proofs.Names.{has_no_work, press_unowned, not_at_work, nothing_to_work, no_room_for_work, worn, ◌or◌, none_or, none_then_not, done_none, full-foreign, set_belt, Belt, plate_if, moved_plate, moved_belt}
use Rattle.cell_parts.specs.Plant.{advanced, loaded_belt, unloaded_belt}

abbrev pub StandsIf : Option ℤ → Bool → Type 0
StandsIf plate full = IsSome plate ↔ IsTrue full

pub record PlatesStand (z : ModelState) (first last : Place) (b : Belt) : Type 0 where
  pub entry : StandsIf b.entry (is_full z first)
  pub end : StandsIf b.last (is_full z last)

-- at the start
pub plate_stands : (full : Bool) (at : ℤ) → StandsIf (plate_if full at) full
plate_stands true at = (λ h. refl, λ h. refl)
plate_stands false at = (λ h. cc, λ h. cc)

-- if a place stays as it is, and while others act
pub as_full : (plate : Option ℤ) (x y : Bool) → x ≡ y → StandsIf plate y → StandsIf plate x
as_full plate x y e k = subst (StandsIf plate) (sym e) k

pub plates_foreign : (z : ModelState) (n : Machine) (c : Call) (first last : Place) (b : Belt) → IsSound z → same_machine n (keeper_of first) ≡ false → same_machine n (keeper_of last) ≡ false → PlatesStand z first last b → PlatesStand (next z n c) first last b
plates_foreign z n c first last b sound f l k = record { entry = as_full b.entry _ _ (full-foreign z n c first sound f) k.entry; end = as_full b.last _ _ (full-foreign z n c last sound l) k.end }

-- as the belt is commanded to run or to stop, and as it runs
pub plates_set : (z : ModelState) (first last : Place) (b : Belt) (runs : Bool) → PlatesStand z first last b → PlatesStand z first last (set_belt b runs)
plates_set z first last b runs k = record { entry = k.entry; end = k.end }

carried : (plate : Option ℤ) (full : Bool) → StandsIf plate full → StandsIf (moved_plate plate) full
carried (Some at) full k = k
carried _ full k = k

carried_by : (runs : Bool) (z : ModelState) (first last : Place) (b : Belt) → PlatesStand z first last b → PlatesStand z first last (if runs then record { entry = moved_plate b.entry; last = moved_plate b.last; runs = b.runs } else b)
carried_by true z first last b k = record { entry = carried b.entry _ k.entry; end = carried b.last _ k.end }
carried_by false z first last b k = k

pub plates_moved : (z : ModelState) (first last : Place) (b : Belt) → PlatesStand z first last b → PlatesStand z first last (moved_belt b)
plates_moved z first last b k = carried_by b.runs z first last b k

runs_by : (t : Bool) (b : Belt) → (if t then record { entry = moved_plate b.entry; last = moved_plate b.last; runs = b.runs } else b).runs ≡ b.runs
runs_by true b = refl
runs_by _ b = refl

pub still_runs : (b : Belt) → (moved_belt b).runs ≡ b.runs
still_runs b = runs_by b.runs b

-- an advance that is done had a plate to move
plate_worked : (z : ModelState) (m : Machine) (from to : Place) → reply z m Advance ≡ Done → own_move_of m ≡ Some (from, to) → is_full z from ≡ true
plate_worked z m from to e way =
    let way' = own_move_of m in
    let r3 = has_no_work m or press_unowned z m or not_at_work z m in
    let r4 = r3 or nothing_to_work z way' in
    let r5 = r4 or no_room_for_work z way' in
    let h5 = none_or r5 (worn z) (done_none (advance_refusal z m) e) in
    let h4 = none_or r4 (no_room_for_work z way') h5.0 in
    none_then_not _ _ (subst (λ w. nothing_to_work z w ≡ None) way (none_or r3 (nothing_to_work z way') h4.0).1)

-- after it takes a plate, moves it on or gives it
module _ (z : ModelState) (m : Machine) (first last : Place) (b : Belt) (k : PlatesStand z first last b) where
  pub taken : (y : Zone) (q : Posture) → posture_at z y ≡ q → (has (filled z.full (transfer_of y q)) first ≡ true) × (has (filled z.full (transfer_of y q)) last ≡ is_full z last) → PlatesStand (changed z m (Take y)) first last (set_belt (loaded_belt b) false)
  taken y q opens on =
      let at = ap (λ r. filled z.full (transfer_of y r)) opens in
      record { entry = (λ h. ap (λ full. has full first) at ∙ on.0, λ h. refl); end = as_full b.last _ _ (ap (λ full. has full last) at ∙ on.1) k.end }

  pub moved_on : reply z m Advance ≡ Done → own_move_of m ≡ Some (first, last) → (is_full (changed z m Advance) first ≡ false) × (is_full (changed z m Advance) last ≡ true) → PlatesStand (changed z m Advance) first last (set_belt (advanced b) false)
  moved_on done way on = record { entry = (λ h. cc, λ h. let none = on.0 in cc); end = (λ h. on.1, λ h. k.entry.1 (plate_worked z m first last done way)) }

  pub given : (y : Zone) (q : Posture) → posture_at z y ≡ q → (has (emptied z.full (given_by m (transfer_of y q))) first ≡ is_full z first) × (has (emptied z.full (given_by m (transfer_of y q))) last ≡ false) → PlatesStand (changed z m (Give y)) first last (set_belt (unloaded_belt b) false)
  given y q opens on =
      let at = ap (λ r. emptied z.full (given_by m (transfer_of y r))) opens in
      record { entry = as_full b.entry _ _ (ap (λ full. has full first) at ∙ on.0) k.entry; end = (λ h. cc, λ h. let none = ap (λ full. has full last) at ∙ on.1 in cc) }
