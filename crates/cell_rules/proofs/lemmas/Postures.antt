-- The posture by the events is the one in the state after.
use Rattle.cell_rules.proofs.Names.{◌≡◌, Bool, true, false, List, [], ◌∷◌, refl, ap, ◌∙◌, if◌then◌else◌, Machine, Zone, Closed, Call, Claim, Give, Yield, Take, Release, SetPose, Advance, Event, zone_in, put_zone, ModelState, zone_at, posture_at, next, changed, posed, halted, is_belt_of, after, IsLegal, posture_given, posture_since, posture_by_events, ZoneState}
use Rattle.cell_rules.proofs.lemmas.Puts.{zone_in-map, zone_in-kept}
use Rattle.cell_rules.proofs.lemmas.SoundAfterCalls.{claimed, yielded, released}
use Rattle.cell_rules.proofs.lemmas.Plates.{given, taken}
use Rattle.cell_rules.proofs.lemmas.Soundness.{event_cases}

-- a zone is put with its own posture
put_kept : (s : ModelState) (y : Zone) (v : ZoneState) → v.posture ≡ posture_at s y → (z : Zone) → (zone_in (put_zone s.zones y v) z).posture ≡ posture_at s z
put_kept s y v e z = zone_in-kept (λ x u. u.posture ≡ posture_at s x) s.zones v (λ x. refl) y e z

posture-halted : (t : Bool) (v : ZoneState) → (if t then record v { posture = Closed } else v).posture ≡ (if t then Closed else v.posture)
posture-halted true v = refl
posture-halted false v = refl

pub posture-changed : (s : ModelState) (n : Machine) (c : Call) (z : Zone) → posture_at (changed s n c) z ≡ posture_given n c z (posture_at s z)
posture-changed s n (Claim y) z = put_kept s y (claimed (zone_at s y) n y) refl z
posture-changed s n (Give y) z = put_kept s y (given (zone_at s y) n y) refl z
posture-changed s n (Yield y) z = put_kept s y (yielded (zone_at s y) n y) refl z
posture-changed s n (Take y) z = put_kept s y (taken (zone_at s y) n y) refl z
posture-changed s n (Release y) z = put_kept s y (released (zone_at s y) n y) refl z
posture-changed s n (SetPose p) z = ap (λ (v : ZoneState). v.posture) (zone_in-map (posed n p) s.zones z)
posture-changed s n Advance z = ap (λ (v : ZoneState). v.posture) (zone_in-map (halted n) s.zones z) ∙ posture-halted (is_belt_of n z) (zone_at s z)
posture-changed s n _ z = refl

pub posture-after : (s : ModelState) (h : List Event) (z : Zone) → IsLegal s h → posture_at (after s h) z ≡ posture_by_events s h z
posture-after s [] z l = refl
posture-after s (e ∷ h) z l =
    let Given : Bool → ModelState → Type 0 = λ b t. posture_at t z ≡ (if b then posture_given e.machine e.call z (posture_at s z) else posture_at s z) in
    let here = event_cases Given s e l.0 (λ _. posture-changed s e.machine e.call z) refl in
    posture-after (next s e.machine e.call) h z l.1 ∙ ap (λ p. posture_since p h z) here
