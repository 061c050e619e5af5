-- The plates of a sound state on the ring.
use Rattle.cell_ring.proofs.Names.{◌≡◌, ℕ, ◌+◌, Bool, true, false, ◌&&◌, not, is_some, Option, Some, None, refl, subst, arith, IsTrue, count_by, eqb-true, nat_eq, Machine, Transfer, Zone, Z1, Z2, Z3, Z4, Z5, Z6, Posture, OpenIn, OpenOut, transfer_of, same_posture, one_posture, ModelState, zone_at, posture_at, plates_of, one_if, IsSound, implies, is_received_by, is_onto_full, implied, and_left, and_right, holds3, zones, postures}
use Rattle.cell_ring.proofs.Names.{bools}
use Rattle.cell_ring.specs.Lap.{Position, FeedEntry, FeedEnd, BeltToTable, Table, TableToArm, Arm1, ArmToPress, PressIn, PressOut, PressToArm, Arm2, ArmToBelt, DepEntry, DepEnd, BeltToCrane, Crane, CraneToBelt, lap, next_position, all_positions, is_take}
use Rattle.cell_ring.specs.Plates.{has_plate, is_on_way, PlatesAreOnRing}
use Rattle.cell_ring.proofs.Sums.{bit}

not_full : (b : Bool) → not b ≡ true → b ≡ false
not_full true e = cc
not_full false e = refl

-- a plate in a zone: the row of its posture, and the place where it goes
pub on_way : (s : ModelState) (z : Zone) (q : Posture) → IsSound s → is_on_way s z q ≡ true → (posture_at s z ≡ q) × (is_onto_full s.full (transfer_of z q) ≡ false)
on_way s z q h e =
    let v = zone_at s z in
    let flag = and_left v.flag (same_posture v.posture q) e in
    let posture = one_posture v.posture q (and_right v.flag (same_posture v.posture q) e) in
    let received = is_received_by v.owner (transfer_of z v.posture) in
    let onto = is_onto_full s.full (transfer_of z v.posture) in
    let room = not_full onto (and_right received (not onto) (implied v.flag (received && not onto) (h.flag_has_transfer z) flag)) in
    (posture, subst (λ r. is_onto_full s.full (transfer_of z r) ≡ false) posture room)

room : (s : ModelState) → IsSound s → (p : Position) → IsTrue (is_take (lap p).call) → IsTrue (has_plate s p) → has_plate s (next_position p) ≡ false
room s h BeltToTable t e = (on_way s Z1 OpenIn h e).1
room s h TableToArm t e = (on_way s Z2 OpenOut h e).1
room s h ArmToPress t e = (on_way s Z3 OpenIn h e).1
room s h PressToArm t e = (on_way s Z3 OpenOut h e).1
room s h ArmToBelt t e = (on_way s Z4 OpenIn h e).1
room s h BeltToCrane t e = (on_way s Z5 OpenOut h e).1
room s h CraneToBelt t e = (on_way s Z6 OpenIn h e).1
room s h _ t e = cc

-- the positions in a zone have its plate
abbrev ways : Zone → Posture → Bool → ℕ
ways Z1 q f = one_if (f && same_posture q OpenIn)
ways Z2 q f = one_if (f && same_posture q OpenOut)
ways Z3 q f = one_if (f && same_posture q OpenIn) + one_if (f && same_posture q OpenOut)
ways Z4 q f = one_if (f && same_posture q OpenIn)
ways Z5 q f = one_if (f && same_posture q OpenOut)
ways Z6 q f = one_if (f && same_posture q OpenIn)

has_row : (o : Option Machine) (row : Option Transfer) → is_received_by o row ≡ true → is_some row ≡ true
has_row o None e = cc
has_row o (Some row) e = refl

abbrev ways_test : Zone → Posture → Bool → Bool
ways_test z q f = implies (implies f (is_some (transfer_of z q))) (nat_eq (one_if f) (ways z q f))

way_of_plate : (s : ModelState) → IsSound s → (z : Zone) → one_if (zone_at s z).flag ≡ ways z (posture_at s z) (zone_at s z).flag
way_of_plate s h z =
    let v = zone_at s z in
    let row = transfer_of z v.posture in
    let received = is_received_by v.owner row in
    let At : Bool → Type 0 = λ b. implies b (received && not (is_onto_full s.full row)) ≡ true → implies b (is_some row) ≡ true in
    let some : implies v.flag (is_some row) ≡ true = elim v.flag as At [
      | true ↦ λ e. has_row v.owner row (and_left received (not (is_onto_full s.full row)) e)
      | false ↦ λ e. refl
    ] (h.flag_has_transfer z) in
    eqb-true _ _ (implied (implies v.flag (is_some row)) (nat_eq (one_if v.flag) (ways z v.posture v.flag)) (holds3 zones postures bools ways_test refl z v.posture v.flag) some)

counted : (s : ModelState) → IsSound s → count_by (has_plate s) all_positions ≡ plates_of s
counted s h =
    let way = way_of_plate s h in
    let b = λ (p : Position). bit (has_plate s p) in
    omega (arith, way Z1, way Z2, way Z3, way Z4, way Z5, way Z6, b FeedEntry, b FeedEnd, b BeltToTable, b Table, b TableToArm, b Arm1, b ArmToPress, b PressIn, b PressOut, b PressToArm, b Arm2, b ArmToBelt, b DepEntry, b DepEnd, b BeltToCrane, b Crane, b CraneToBelt)

pub on_ring : (s : ModelState) → IsSound s → PlatesAreOnRing s
on_ring s h = record { counted = counted s h; room = room s h }
