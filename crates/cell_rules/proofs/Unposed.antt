-- The posture of a zone by the events stays while its host makes no event.
use Rattle.cell_rules.proofs.Names.{◌≡◌, Bool, true, false, Option, Some, None, List, [], ◌∷◌, ◌++◌, refl, ap, ◌∙◌, if◌then◌else◌, unwrap_or, false_from_ne_true, Machine, Zone, Posture, Closed, Call, SetPose, Advance, Event, host_of, posture_of, same_machine, ModelState, posture_at, is_belt_of, own_events, is_done, posture_given, posture_since, posture_by_events}
use Rattle.cell_rules.proofs.lemmas.Tables.{and_left}
use Rattle.cell_rules.proofs.lemmas.Lawful.{can_be_in}
use Rattle.cell_rules.proofs.lemmas.Moves.{suits, posture_suits}
use Rattle.cell_rules.proofs.lemmas.Holders.{same_machine-self}
use Rattle.cell_rules.proofs.lemmas.Lasting.{belt_host, own_head}

-- only a host's pose gives a zone a posture
unposed : (n : Machine) (z : Zone) (q : Option Posture) (now : Posture) → suits n z q ≡ true → same_machine n (host_of z) ≡ false → unwrap_or q now ≡ now
unposed n z None now suit apart = refl
unposed n z (Some r) now suit apart = let host = and_left (same_machine n (host_of z)) (can_be_in z r) suit in cc

-- and only its host's advance halts it
no_belt : (n : Machine) (z : Zone) → same_machine n (host_of z) ≡ false → is_belt_of n z ≡ false
no_belt n z apart = false_from_ne_true (is_belt_of n z) (λ belt. let same = ap (same_machine n) (belt_host n z belt) ∙ same_machine-self n in cc)

pub given_by_other : (n : Machine) (c : Call) (z : Zone) (now : Posture) → same_machine n (host_of z) ≡ false → posture_given n c z now ≡ now
given_by_other n (SetPose p) z now apart = unposed n z (posture_of n p z) now (posture_suits n p z) apart
given_by_other n Advance z now apart = ap (λ (b : Bool). if b then Closed else now) (no_belt n z apart)
given_by_other n _ z now apart = refl

same_either : (b : Bool) (p q : Posture) → p ≡ q → (if b then p else q) ≡ q
same_either true p q e = e
same_either false p q e = refl

posture_since-other : (now : Posture) (h : List Event) (z : Zone) → own_events h (host_of z) ≡ [] → posture_since now h z ≡ now
posture_since-other now [] z none = refl
posture_since-other now (e ∷ h) z none =
    let others = own_head (same_machine e.machine (host_of z)) e (own_events h (host_of z)) none in
    let here = same_either (is_done e) (posture_given e.machine e.call z now) now (given_by_other e.machine e.call z now others.0) in
    ap (λ p. posture_since p h z) here ∙ posture_since-other now h z others.1

posture_since-append : (now : Posture) (a b : List Event) (z : Zone) → posture_since now (a ++ b) z ≡ posture_since (posture_since now a z) b z
posture_since-append now [] b z = refl
posture_since-append now (e ∷ a) b z = posture_since-append (if is_done e then posture_given e.machine e.call z now else now) a b z

pub right_lasts_posture : (s : ModelState) (before more : List Event) (z : Zone) → own_events more (host_of z) ≡ [] → posture_by_events s (before ++ more) z ≡ posture_by_events s before z
right_lasts_posture s before more z none = posture_since-append (posture_at s z) before more z ∙ posture_since-other (posture_by_events s before z) more z none
