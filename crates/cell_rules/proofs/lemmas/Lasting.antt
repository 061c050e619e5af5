-- What a machine holds lasts while the machine does nothing.
use Rattle.cell_rules.proofs.Names.{◌≡◌, Bool, true, false, ◌&&◌, not, cond, Option, Some, None, List, [], ◌∷◌, ◌++◌, refl, sym, ap, ◌∙◌, if◌then◌else◌, unwrap_or, false_from_ne_true, not-false, or_parts, Machine, Feed, Deposit, Zone, Posture, Closed, Moving, Call, Claim, Give, Yield, Take, Release, SetPose, Advance, Inquire, Done, Event, host_of, posture_of, same_machine, same_posture, one_machine, one_posture, zone_in, put_zone}
use Rattle.cell_rules.proofs.Names.{ModelState, zone_at, IsSound, is_owned_by, owns, owner_of, pose_refusal, advance_refusal, reply, next, changed, posed, halted, is_belt_of, after, IsLegal, Holds, own_events, ZoneState}
use Rattle.cell_rules.proofs.lemmas.Tables.{implied}
use Rattle.cell_rules.proofs.lemmas.Puts.{zone_in-map, put_cases}
use Rattle.cell_rules.proofs.lemmas.DoneCalls.{advance_done}
use Rattle.cell_rules.proofs.lemmas.SoundAfterCalls.{claimed, yielded, released}
use Rattle.cell_rules.proofs.lemmas.Plates.{given, taken}
use Rattle.cell_rules.proofs.lemmas.Moves.{belts_move, concerns_posture, pose_owned}
use Rattle.cell_rules.proofs.lemmas.Soundness.{next_keeps, next_cases, done_none}
use Rattle.cell_rules.proofs.lemmas.Histories.{after-append, legal-left, sound-after}
use Rattle.cell_rules.proofs.lemmas.Holders.{owned_as, claim_unowned, give_owned, yield_owned, take_owned, release_owned}
use Rattle.cell_rules.proofs.lemmas.HoldsLemmas.{holds_iff_owns}

-- ---- another machine's call leaves a zone that m owns

-- a zone that m doesn't own changes, and another is m's
put_other : (s : ModelState) (m : Machine) (y : Zone) (new : ZoneState) → owns s m y ≡ false → (z : Zone) → owns s m z ≡ true → zone_in (put_zone s.zones y new) z ≡ zone_at s z
put_other s m y new d = put_cases (λ x v. owns s m x ≡ true → v ≡ zone_at s x) s.zones new y (λ o. cc) (λ x apart o. refl)

-- two machines don't own one zone
owned_apart : (o : Option Machine) (n m : Machine) → is_owned_by o m ≡ true → same_machine n m ≡ false → is_owned_by o n ≡ false
owned_apart o n m e d = false_from_ne_true (is_owned_by o n) (λ own. let same = owned_as o n m own in cc)

unless_owned : (a b : Bool) → (a && not b) ≡ false → b ≡ false → a ≡ false
unless_owned a true e f = cc
unless_owned true false e f = e
unless_owned false false e f = refl

stays : (q : Option Posture) (now : Posture) → concerns_posture q now ≡ false → unwrap_or q now ≡ now
stays None now e = refl
stays (Some q) now e = one_posture q now (not-false _ (or_parts _ _ e).1)

pub belt_host : (n : Machine) (z : Zone) → is_belt_of n z ≡ true → host_of z ≡ n
belt_host Feed z e = one_machine (host_of z) Feed e
belt_host Deposit z e = one_machine (host_of z) Deposit e
belt_host _ z e = cc

halted_not : (t : Bool) (v : ZoneState) → t ≡ false → (if t then record v { posture = Closed } else v) ≡ v
halted_not true v e = cc
halted_not false v e = refl

zone_at-changed : (s : ModelState) (n : Machine) (c : Call) (m : Machine) (z : Zone) → IsSound s → same_machine n m ≡ false → owns s m z ≡ true → reply s n c ≡ Done → zone_at (changed s n c) z ≡ zone_at s z
zone_at-changed s n (Claim y) m z k d o e = put_other s m y (claimed (zone_at s y) n y) (claim_unowned s n y e m) z o
zone_at-changed s n (Give y) m z k d o e = put_other s m y (given (zone_at s y) n y) (owned_as (owner_of s y) n m (give_owned s n y e) ∙ d) z o
zone_at-changed s n (Yield y) m z k d o e = put_other s m y (yielded (zone_at s y) n y) (owned_as (owner_of s y) n m (yield_owned s n y e) ∙ d) z o
zone_at-changed s n (Take y) m z k d o e = put_other s m y (taken (zone_at s y) n y) (owned_as (owner_of s y) n m (take_owned s n y e) ∙ d) z o
zone_at-changed s n (Release y) m z k d o e = put_other s m y (released (zone_at s y) n y) (owned_as (owner_of s y) n m (release_owned s n y e) ∙ d) z o
zone_at-changed s n (SetPose p) m z k d o e =
    let v = zone_at s z in
    let q = posture_of n p z in
    let same = stays q v.posture (unless_owned (concerns_posture q v.posture) (owns s n z) (pose_owned s n p z (done_none (pose_refusal s n p) e)) (owned_apart v.owner n m o d)) in
    zone_in-map (posed n p) s.zones z ∙ ap (λ (x : Posture). record v { posture = x }) same
zone_at-changed s n Advance m z k d o e =
    let v = zone_at s z in
    let moves = belts_move s n (advance_done s n (done_none (advance_refusal s n) e)).2 z in
    let no_belt : is_belt_of n z ≡ false = false_from_ne_true (is_belt_of n z) (λ belt.
    let hosts : owns s (host_of z) z ≡ true = implied (same_posture v.posture Moving) (owns s (host_of z) z) (k.moving_belongs_to_host z) (implied (is_belt_of n z) (same_posture v.posture Moving) moves belt) in
    let own : owns s n z ≡ true = ap (λ x. owns s x z) (sym (belt_host n z belt)) ∙ hosts in
    let same : owns s m z ≡ same_machine n m = owned_as v.owner n m own in cc) in
    zone_in-map (halted n) s.zones z ∙ halted_not (is_belt_of n z) v no_belt
zone_at-changed s n (Inquire y) m z k d o e = cc
zone_at-changed s n _ m z k d o e = refl

zone_at-next : (s : ModelState) (n : Machine) (c : Call) (m : Machine) (z : Zone) → IsSound s → same_machine n m ≡ false → owns s m z ≡ true → zone_at (next s n c) z ≡ zone_at s z
zone_at-next s n c m z k d o = next_cases (λ b t. zone_at t z ≡ zone_at s z) s n c (reply s n c) (zone_at-changed s n c m z k d o) refl

-- ---- and so does a history without events of m

-- the first event of such a history isn't m's, nor is any later one
pub own_head : (t : Bool) (e : Event) (own : List Event) → cond t (e ∷ own) own ≡ [] → (t ≡ false) × (own ≡ [])
own_head true e own h = cc
own_head false e own h = (refl, h)

pub zone_at-after : (s : ModelState) (h : List Event) (m : Machine) (z : Zone) → IsSound s → own_events h m ≡ [] → owns s m z ≡ true → zone_at (after s h) z ≡ zone_at s z
zone_at-after s [] m z k none o = refl
zone_at-after s (e ∷ h) m z k none o =
    let others = own_head (same_machine e.machine m) e (own_events h m) none in
    let here = zone_at-next s e.machine e.call m z k others.0 o in
    let still : owns (next s e.machine e.call) m z ≡ true = ap (λ (v : ZoneState). is_owned_by v.owner m) here ∙ o in
    zone_at-after (next s e.machine e.call) h m z (next_keeps s e.machine e.call k) others.1 still ∙ here

pub right_lasts_zone : (s : ModelState) (before more : List Event) → IsSound s → IsLegal s (before ++ more)
    → (m : Machine) (z : Zone) → own_events more m ≡ [] → Holds s before m z → zone_at (after s (before ++ more)) z ≡ zone_at (after s before) z
right_lasts_zone s before more k l m z none held =
    let owned = (holds_iff_owns s before m z (legal-left s before more l)).0 held in
    ap (λ (x : ModelState). zone_at x z) (after-append s before more) ∙ zone_at-after (after s before) more m z (sound-after s before k) none owned

pub right_lasts_held : (s : ModelState) (before more : List Event) → IsSound s → IsLegal s (before ++ more)
    → (m : Machine) (z : Zone) → own_events more m ≡ [] → Holds s before m z → Holds s (before ++ more) m z
right_lasts_held s before more k l m z none held =
    let owned = (holds_iff_owns s before m z (legal-left s before more l)).0 held in
    let same = right_lasts_zone s before more k l m z none held in
    (holds_iff_owns s (before ++ more) m z l).1 (ap (λ (v : ZoneState). is_owned_by v.owner m) same ∙ owned)
