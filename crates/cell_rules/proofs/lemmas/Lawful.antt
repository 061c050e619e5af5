-- What soundness says of one zone, as one test.
use Rattle.cell_rules.proofs.Names.{◌≡◌, ◌≤◌, Bool, true, false, ◌&&◌, not, is_none, Option, Some, None, refl, sym, ap, ◌∙◌, beq, Machine, Zone, Z3, PressIn, PressOut, Posture, Closed, Moving, OpenIn, OpenOut, transfer_of, same_posture, PlaceSet, has, ModelState, zone_at, IsSound, host_of, one_machine, is_owned_by, implies, has_lawful_owner, is_onto_full, is_lawful_plate, is_open_to_guest, moves_by_host, is_of_some_pose, ZoneState}
use Rattle.cell_rules.proofs.lemmas.Puts.{each_zone}
use Rattle.cell_rules.proofs.lemmas.Tables.{and_both, zones, postures, holds2}

-- each host opens a zone only inward or only outward, but the press does both: the postures that poses give, without
-- the poses
abbrev pub can_be_in : Zone → Posture → Bool
can_be_in z Closed = true
can_be_in z Moving = true
can_be_in z OpenIn = not (is_none (transfer_of z OpenIn))
can_be_in z OpenOut = not (is_none (transfer_of z OpenOut))

pub beq_same : (a b : Bool) → beq a b ≡ true → a ≡ b
beq_same true true e = refl
beq_same false false e = refl
beq_same _ _ e = cc

pub of_some_pose : (z : Zone) (q : Posture) → is_of_some_pose z q ≡ can_be_in z q
of_some_pose z q = beq_same _ _ (holds2 zones postures (λ z q. beq (is_of_some_pose z q) (can_be_in z q)) refl z q)

abbrev pub press_suits : Bool → Bool → Zone → Posture → Bool
press_suits in_full out_full Z3 q = not (in_full && out_full) && implies (same_posture q OpenIn) (not out_full)
press_suits in_full out_full _ q = true

abbrev pub press_is_lawful : Bool → Bool → Zone → ZoneState → Bool
press_is_lawful in_full out_full z v = press_suits in_full out_full z v.posture

-- first whether the place where the zone's plate would go is full, then whether the press's two places are
abbrev pub is_lawful : Bool → Bool → Bool → Zone → ZoneState → Bool
is_lawful onto in_full out_full z v =
    has_lawful_owner z v && (is_lawful_plate onto z v && (is_open_to_guest z v && (moves_by_host z v && (can_be_in z v.posture && press_is_lawful in_full out_full z v))))

abbrev pub lawful_in : PlaceSet → Zone → ZoneState → Bool
lawful_in full z v = is_lawful (is_onto_full full (transfer_of z v.posture)) (has full PressIn) (has full PressOut) z v

and_six : (a b c d e f : Bool) → a ≡ true → b ≡ true → c ≡ true → d ≡ true → e ≡ true → f ≡ true → (a && (b && (c && (d && (e && f))))) ≡ true
and_six a b c d e f ha hb hc hd he hf = and_both a _ ha (and_both b _ hb (and_both c _ hc (and_both d _ hd (and_both e f he hf))))

six : (a b c d e f : Bool) → (a && (b && (c && (d && (e && f))))) ≡ true → (a ≡ true) × (b ≡ true) × (c ≡ true) × (d ≡ true) × (e ≡ true) × (f ≡ true)
six true true true true true true h = (refl, refl, refl, refl, refl, refl)
six _ _ _ _ _ _ h = cc

pub record Parts (onto in_full out_full : Bool) (z : Zone) (v : ZoneState) : Type 0 where
  pub owner : has_lawful_owner z v ≡ true
  pub plate : is_lawful_plate onto z v ≡ true
  pub guest : is_open_to_guest z v ≡ true
  pub host : moves_by_host z v ≡ true
  pub posture : can_be_in z v.posture ≡ true
  pub press : press_is_lawful in_full out_full z v ≡ true

pub parts_of : (onto in_full out_full : Bool) (z : Zone) (v : ZoneState) → is_lawful onto in_full out_full z v ≡ true → Parts onto in_full out_full z v
parts_of onto in_full out_full z v h =
    let parts = six (has_lawful_owner z v) (is_lawful_plate onto z v) (is_open_to_guest z v) (moves_by_host z v) (can_be_in z v.posture) (press_is_lawful in_full out_full z v) h in
    record { owner = parts.0; plate = parts.1; guest = parts.2; host = parts.3; posture = parts.4; press = parts.5 }

pub lawful_of : (onto in_full out_full : Bool) (z : Zone) (v : ZoneState) → Parts onto in_full out_full z v → is_lawful onto in_full out_full z v ≡ true
lawful_of onto in_full out_full z v p =
    and_six (has_lawful_owner z v) (is_lawful_plate onto z v) (is_open_to_guest z v) (moves_by_host z v) (can_be_in z v.posture) (press_is_lawful in_full out_full z v) p.owner p.plate p.guest p.host p.posture p.press

pub owner_is : (o : Option Machine) (m : Machine) → is_owned_by o m ≡ true → o ≡ Some m
owner_is None m e = cc
owner_is (Some n) m e = ap (λ x. Some x) (one_machine n m e)

-- a zone that its host owns, with no plate in it
abbrev pub of_host : Zone → Posture → ZoneState
of_host z q = record { owner = Some (host_of z); flag = false; posture = q }

pub put_by_host : (v : ZoneState) (z : Zone) (q : Posture) → is_owned_by v.owner (host_of z) ≡ true → v.flag ≡ false → record v { posture = q } ≡ of_host z q
put_by_host v z q o f = let own : v.owner ≡ Some (host_of z) = owner_is v.owner (host_of z) o in λ i. record { owner = own i; flag = f i; posture = q }

pub lawful_from : (s : ModelState) → IsSound s → (z : Zone) → lawful_in s.full z (zone_at s z) ≡ true
lawful_from s h =
    let At : Zone → Type 0 = λ z. press_is_lawful (has s.full PressIn) (has s.full PressOut) z (zone_at s z) ≡ true in
    let press : (z : Zone) → At z = each_zone At refl refl h.press_holds_one_plate refl refl refl in
    λ z. and_six _ _ _ _ _ _ (h.owner_is_party z) (h.flag_has_transfer z) (h.guest_only_while_open z) (h.moving_belongs_to_host z) (sym (of_some_pose z (zone_at s z).posture) ∙ h.posture_of_some_pose z) (press z)

pub sound_from : (s : ModelState) → s.stamp ≤ 1048575 → ((z : Zone) → lawful_in s.full z (zone_at s z) ≡ true) → IsSound s
sound_from s small h =
    let parts = λ (z : Zone). six _ _ _ _ _ _ (h z) in
    record {
      stamp_in_range = small;
      owner_is_party = λ z. (parts z).0;
      flag_has_transfer = λ z. (parts z).1;
      guest_only_while_open = λ z. (parts z).2;
      moving_belongs_to_host = λ z. (parts z).3;
      posture_of_some_pose = λ z. of_some_pose z (zone_at s z).posture ∙ (parts z).4;
      press_holds_one_plate = (parts Z3).5;
    }
