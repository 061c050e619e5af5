-- A call that is Done keeps a sound state sound.
use Rattle.cell_rules.proofs.Names.{◌≡◌, Bool, true, ◌&&◌, Option, Some, None, refl, Machine, Zone, Claim, Yield, Release, PressIn, PressOut, transfer_of, PlaceSet, has, ModelState, zone_at, IsSound, implies, is_onto_full, claim_refusal, yield_refusal, release_refusal, changed, other_party, has_lawful_owner, is_lawful_plate, is_open_to_guest, moves_by_host, ZoneState}
use Rattle.cell_rules.proofs.lemmas.Tables.{all_bools, all_machines, all_zones, all_states, bools, machines, zones, states, holds4, implied, and_both, and_left, and_right}
use Rattle.cell_rules.proofs.lemmas.Puts.{zone_in-kept}
use Rattle.cell_rules.proofs.lemmas.Lawful.{lawful_in, Parts, parts_of, lawful_of, lawful_from, sound_from}
use Rattle.cell_rules.proofs.lemmas.DoneCalls.{may_claim, may_yield, may_release, claim_done, yield_done, release_done, one_more}

-- what soundness says of a zone's owner, plate and posture together
abbrev is_kept : Bool → Zone → ZoneState → Bool
is_kept onto z v = has_lawful_owner z v && (is_lawful_plate onto z v && (is_open_to_guest z v && moves_by_host z v))

is_kept_of : (onto i o : Bool) (z : Zone) (v : ZoneState) → Parts onto i o z v → is_kept onto z v ≡ true
is_kept_of onto i o z v p =
    and_both (has_lawful_owner z v) _ p.owner (and_both (is_lawful_plate onto z v) _ p.plate (and_both (is_open_to_guest z v) (moves_by_host z v) p.guest p.host))

-- another owner of a zone whose posture and plate stay
abbrev owned_by : Option Machine → ZoneState → ZoneState
owned_by owner v = record v { owner = owner }

abbrev keeps : (ZoneState → Machine → Zone → Bool) → (Machine → Zone → Option Machine) → Zone → ZoneState → Machine → Bool → Bool
keeps may owner z v m onto = implies (is_kept onto z v && may v m z) (is_kept onto z (owned_by (owner m z) v))

abbrev Keeps : (ZoneState → Machine → Zone → Bool) → (Machine → Zone → Option Machine) → Type 0
Keeps may owner = all_zones (λ z. all_states (λ v. all_machines (λ m. all_bools (keeps may owner z v m)))) ≡ true

abbrev pub claimed : ZoneState → Machine → Zone → ZoneState
claimed v m z = record v { owner = Some m }

abbrev pub yielded : ZoneState → Machine → Zone → ZoneState
yielded v m z = record v { owner = Some (other_party m z) }

abbrev pub released : ZoneState → Machine → Zone → ZoneState
released v m z = record v { owner = None }

-- the zone of the call is lawful after its change
here : (may : ZoneState → Machine → Zone → Bool) (owner : Machine → Zone → Option Machine) → Keeps may owner → (full : PlaceSet) (m : Machine) (z : Zone) (v : ZoneState) → lawful_in full z v ≡ true → may v m z ≡ true
    → lawful_in full z (owned_by (owner m z) v) ≡ true
here may owner table full m z v h k =
    let b = is_onto_full full (transfer_of z v.posture) in
    let i = has full PressIn in
    let o = has full PressOut in
    let w = owned_by (owner m z) v in
    let parts = parts_of b i o z v h in
    let after : is_kept b z w ≡ true = implied (is_kept b z v && may v m z) (is_kept b z w) (holds4 zones states machines bools (keeps may owner) table z v m b) (and_both (is_kept b z v) (may v m z) (is_kept_of b i o z v parts) k) in
    let more : (is_lawful_plate b z w && (is_open_to_guest z w && moves_by_host z w)) ≡ true = and_right (has_lawful_owner z w) (is_lawful_plate b z w && (is_open_to_guest z w && moves_by_host z w)) after in
    let last : (is_open_to_guest z w && moves_by_host z w) ≡ true = and_right (is_lawful_plate b z w) (is_open_to_guest z w && moves_by_host z w) more in
    lawful_of b i o z w (record {
      owner = and_left (has_lawful_owner z w) (is_lawful_plate b z w && (is_open_to_guest z w && moves_by_host z w)) after;
      plate = and_left (is_lawful_plate b z w) (is_open_to_guest z w && moves_by_host z w) more;
      guest = and_left (is_open_to_guest z w) (moves_by_host z w) last;
      host = and_right (is_open_to_guest z w) (moves_by_host z w) last;
      posture = parts.posture;
      press = parts.press;
    })

pub claim_keeps : (s : ModelState) (m : Machine) (z : Zone) → IsSound s → claim_refusal s m z ≡ None → IsSound (changed s m (Claim z))
claim_keeps s m z h e =
    let may = claim_done s m z e in
    sound_from (changed s m (Claim z)) (one_more s.stamp may.1) (zone_in-kept (λ y v. lawful_in s.full y v ≡ true) s.zones (claimed (zone_at s z) m z) (lawful_from s h) z
    (here may_claim (λ m z. Some m) refl s.full m z (zone_at s z) (lawful_from s h z) may.0))

pub yield_keeps : (s : ModelState) (m : Machine) (z : Zone) → IsSound s → yield_refusal s m z ≡ None → IsSound (changed s m (Yield z))
yield_keeps s m z h e =
    let may = yield_done s m z e in
    sound_from (changed s m (Yield z)) (one_more s.stamp may.1) (zone_in-kept (λ y v. lawful_in s.full y v ≡ true) s.zones (yielded (zone_at s z) m z) (lawful_from s h) z
    (here may_yield (λ m z. Some (other_party m z)) refl s.full m z (zone_at s z) (lawful_from s h z) may.0))

pub release_keeps : (s : ModelState) (m : Machine) (z : Zone) → IsSound s → release_refusal s m z ≡ None → IsSound (changed s m (Release z))
release_keeps s m z h e =
    let may = release_done s m z e in
    sound_from (changed s m (Release z)) (one_more s.stamp may.1) (zone_in-kept (λ y v. lawful_in s.full y v ≡ true) s.zones (released (zone_at s z) m z) (lawful_from s h) z
    (here may_release (λ m z. None) refl s.full m z (zone_at s z) (lawful_from s h z) may.0))
