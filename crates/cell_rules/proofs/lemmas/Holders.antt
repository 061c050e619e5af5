-- A machine that holds a zone, by the test of each event, owns it in the state after.
use Rattle.cell_rules.proofs.Names.{◌≡◌, Bool, true, false, ◌&&◌, ◌||◌, not, Option, Some, None, is_none, List, [], ◌∷◌, refl, sym, ap, ◌∙◌, subst, if◌then◌else◌, and-true, and-false, Machine, Zone, Closed, Call, Claim, Give, Yield, Take, Release, SetPose, Advance, Inquire, Done, Event, same_machine, same_zone, zone_in, put_zone, ModelState, zone_at, is_owned_by, is_party, owns, owner_of, claim_refusal, give_refusal}
use Rattle.cell_rules.proofs.Names.{yield_refusal, take_refusal, release_refusal, reply, next, changed, other_party, posed, halted, is_belt_of, after, IsLegal, is_gain, is_loss, ZoneState, gains, loses}
use Rattle.cell_rules.proofs.lemmas.Tables.{and_left, and_right, from_machines}
use Rattle.cell_rules.proofs.lemmas.Puts.{each_zone, zone_in-map, zone_in-kept, put_cases}
use Rattle.cell_rules.proofs.lemmas.DoneCalls.{claim_done, give_done, yield_done, take_done, release_done}
pub use Rattle.cell_rules.proofs.lemmas.Lawful.{owner_is}
use Rattle.cell_rules.proofs.lemmas.SoundAfterCalls.{claimed, yielded, released}
use Rattle.cell_rules.proofs.lemmas.Plates.{given, taken}
use Rattle.cell_rules.proofs.lemmas.Soundness.{done_none, event_cases}
use Rattle.cell_rules.proofs.HeldZones.{holds_since, holds}

-- ---- the owner of a zone

-- what one machine owns another owns if the two are one
pub owned_as : (o : Option Machine) (n m : Machine) → is_owned_by o n ≡ true → is_owned_by o m ≡ same_machine n m
owned_as o n m e = ap (λ x. is_owned_by x m) (owner_is o n e)

unowned : (o : Option Machine) (m : Machine) → is_none o ≡ true → is_owned_by o m ≡ false
unowned None m e = refl
unowned (Some n) m e = cc

-- ---- who owned the zone of a call that is Done

second : (a b c : Bool) → (a && (b && c)) ≡ true → b ≡ true
second a b c e = and_left b c (and_right a (b && c) e)

pub claim_unowned : (s : ModelState) (n : Machine) (y : Zone) → reply s n (Claim y) ≡ Done → (m : Machine) → owns s m y ≡ false
claim_unowned s n y e m = unowned (owner_of s y) m (second _ _ _ (claim_done s n y (done_none (claim_refusal s n y) e)).0)

pub give_owned : (s : ModelState) (n : Machine) (y : Zone) → reply s n (Give y) ≡ Done → owns s n y ≡ true
give_owned s n y e = second _ _ _ (give_done s n y (done_none (give_refusal s n y) e)).0

-- only a party hands a zone over
give_by_party : (s : ModelState) (n : Machine) (y : Zone) → reply s n (Give y) ≡ Done → is_party n y ≡ true
give_by_party s n y e = and_left _ _ (give_done s n y (done_none (give_refusal s n y) e)).0

yield_by_party : (s : ModelState) (n : Machine) (y : Zone) → reply s n (Yield y) ≡ Done → is_party n y ≡ true
yield_by_party s n y e = and_left _ _ (yield_done s n y (done_none (yield_refusal s n y) e)).0

pub yield_owned : (s : ModelState) (n : Machine) (y : Zone) → reply s n (Yield y) ≡ Done → owns s n y ≡ true
yield_owned s n y e = second _ _ _ (yield_done s n y (done_none (yield_refusal s n y) e)).0

pub take_owned : (s : ModelState) (n : Machine) (y : Zone) → reply s n (Take y) ≡ Done → owns s n y ≡ true
take_owned s n y e = second _ _ _ (take_done s n y (done_none (take_refusal s n y) e)).0

pub release_owned : (s : ModelState) (n : Machine) (y : Zone) → reply s n (Release y) ≡ Done → owns s n y ≡ true
release_owned s n y e = second _ _ _ (release_done s n y (done_none (release_refusal s n y) e)).0

-- ---- who owns a zone after a call

-- the new owner gains, and the old one loses
handed : (gain own loss : Bool) → own ≡ loss → gain ≡ (gain || (own && not loss))
handed false true false e = cc
handed _ _ _ e = refl

elsewhere : (here gain loss own : Bool) → here ≡ false → own ≡ ((here && gain) || (own && not (here && loss)))
elsewhere true gain loss own e = cc
elsewhere false gain loss own e = sym (and-true own)

pub same_machine-self : (m : Machine) → same_machine m m ≡ true
same_machine-self = from_machines (λ m. same_machine m m) refl

pub same_zone-self : (z : Zone) → same_zone z z ≡ true
same_zone-self = each_zone (λ z. same_zone z z ≡ true) refl refl refl refl refl refl

owned-put : (s : ModelState) (y : Zone) (new : ZoneState) (m : Machine) (loss : Bool) → owns s m y ≡ loss
    → (z : Zone) → is_owned_by (zone_in (put_zone s.zones y new) z).owner m ≡ ((same_zone y z && is_owned_by new.owner m) || (owns s m z && not (same_zone y z && loss)))
owned-put s y new m loss e =
    let gain = is_owned_by new.owner m in
    let Here : Bool → Type 0 = λ here. gain ≡ ((here && gain) || (owns s m y && not (here && loss))) in
    put_cases (λ x v. is_owned_by v.owner m ≡ ((same_zone y x && gain) || (owns s m x && not (same_zone y x && loss)))) s.zones new y
    (subst Here (sym (same_zone-self y)) (handed gain (owns s m y) loss e))
    (λ x apart. elsewhere (same_zone y x) gain loss (owns s m x) apart)

owner-halted : (t : Bool) (v : ZoneState) → (if t then record v { posture = Closed } else v).owner ≡ v.owner
owner-halted true v = refl
owner-halted false v = refl

-- a party hands the zone over to the other party
from_party : (s : ModelState) (n : Machine) (y : Zone) (m : Machine) (z : Zone) → is_party n y ≡ true
    → ((same_zone y z && same_machine (other_party n y) m) || (owns s m z && not (same_zone y z && same_machine n m)))
    ≡ ((same_zone y z && (is_party n y && same_machine (other_party n y) m)) || (owns s m z && not (same_zone y z && same_machine n m)))
from_party s n y m z party = ap (λ b. (same_zone y z && (b && same_machine (other_party n y) m)) || (owns s m z && not (same_zone y z && same_machine n m))) (sym party)

owns-changed : (s : ModelState) (n : Machine) (c : Call) (m : Machine) (z : Zone) → reply s n c ≡ Done → owns (changed s n c) m z ≡ (gains n c m z || (owns s m z && not (loses n c m z)))
owns-changed s n (Claim y) m z e =
    owned-put s y (claimed (zone_at s y) n y) m false (claim_unowned s n y e m) z
    ∙ ap (λ l. (same_zone y z && same_machine n m) || (owns s m z && not l)) (and-false (same_zone y z))
owns-changed s n (Give y) m z e =
    owned-put s y (given (zone_at s y) n y) m (same_machine n m) (owned_as (owner_of s y) n m (give_owned s n y e)) z ∙ from_party s n y m z (give_by_party s n y e)
owns-changed s n (Yield y) m z e =
    owned-put s y (yielded (zone_at s y) n y) m (same_machine n m) (owned_as (owner_of s y) n m (yield_owned s n y e)) z ∙ from_party s n y m z (yield_by_party s n y e)
owns-changed s n (Take y) m z e =
    zone_in-kept (λ x v. is_owned_by v.owner m ≡ (owns s m x && true)) s.zones (taken (zone_at s y) n y) (λ x. sym (and-true (owns s m x))) y (sym (and-true (owns s m y))) z
owns-changed s n (Release y) m z e =
    let loss = same_machine n m in
    owned-put s y (released (zone_at s y) n y) m loss (owned_as (owner_of s y) n m (release_owned s n y e)) z
    ∙ ap (λ g. g || (owns s m z && not (same_zone y z && loss))) (and-false (same_zone y z))
owns-changed s n (SetPose p) m z e = ap (λ (v : ZoneState). is_owned_by v.owner m) (zone_in-map (posed n p) s.zones z) ∙ sym (and-true (owns s m z))
owns-changed s n Advance m z e =
    ap (λ (v : ZoneState). is_owned_by v.owner m) (zone_in-map (halted n) s.zones z) ∙ ap (λ o. is_owned_by o m) (owner-halted (is_belt_of n z) (zone_at s z)) ∙ sym (and-true (owns s m z))
owns-changed s n (Inquire y) m z e = cc
owns-changed s n _ m z e = sym (and-true (owns s m z))

owns-next : (s : ModelState) (e : Event) (m : Machine) (z : Zone) → e.answer ≡ reply s e.machine e.call
    → owns (next s e.machine e.call) m z ≡ (is_gain e m z || (owns s m z && not (is_loss e m z)))
owns-next s e m z l =
    event_cases (λ b t. owns t m z ≡ ((b && gains e.machine e.call m z) || (owns s m z && not (b && loses e.machine e.call m z)))) s e l (owns-changed s e.machine e.call m z) (sym (and-true (owns s m z)))

pub owns-after : (s : ModelState) (h : List Event) (m : Machine) (z : Zone) → IsLegal s h → owns (after s h) m z ≡ holds s h m z
owns-after s [] m z l = refl
owns-after s (e ∷ h) m z l =
    owns-after (next s e.machine e.call) h m z l.1 ∙ ap (λ b. holds_since b h m z) (owns-next s e m z l.0)
