-- The flag of a zone counts its plates: at first, plus those given into it, minus those taken.
use Rattle.cell_rules.proofs.Names.{◌≡◌, ◌+◌, Bool, true, false, cond, List, refl, sym, ap, ◌∙◌, if◌then◌else◌, count_by, Machine, Zone, Closed, Call, Claim, Give, Yield, Take, Release, SetPose, Advance, Inquire, Done, Event, same_zone, zone_in, put_zone, ModelState, zone_at, one_if, IsSound, give_refusal, take_refusal, reply, posed, halted, is_belt_of, after, IsLegal, gives, takes, ZoneState, is_given_into, is_taken_from}
use Rattle.cell_rules.proofs.lemmas.Puts.{zone_in-map, put_cases}
use Rattle.cell_rules.proofs.lemmas.SoundAfterCalls.{claimed, yielded, released}
use Rattle.cell_rules.proofs.lemmas.Plates.{given, taken}
use Rattle.cell_rules.proofs.lemmas.Transfers.{give_finds, take_finds}
use Rattle.cell_rules.proofs.lemmas.CountedPlates.{Balanced, counted}
use Rattle.cell_rules.proofs.lemmas.Soundness.{done_none}
use Rattle.cell_rules.proofs.lemmas.Holders.{same_zone-self}

-- a call that touches no flag
put-keeps : (s : ModelState) (y z : Zone) (v : ZoneState) → v.flag ≡ (zone_at s y).flag → (zone_in (put_zone s.zones y v) z).flag ≡ (zone_at s z).flag
put-keeps s y z v same = put_cases (λ x u. u.flag ≡ (zone_at s x).flag) s.zones v y same (λ x apart. refl) z

pub halted-flag : (t : Bool) (v : ZoneState) → (if t then record v { posture = Closed } else v).flag ≡ v.flag
halted-flag true v = refl
halted-flag false v = refl

kept : (a b : Bool) → b ≡ a → one_if a + 0 ≡ one_if b + 0
kept a b e = ap (λ x. one_if x + 0) (sym e)

pub flag-changed : (z : Zone) (s : ModelState) (n : Machine) (c : Call) → IsSound s → reply s n c ≡ Done → Balanced (λ x. one_if (zone_at x z).flag) (λ m d. gives d z) (λ m d. takes d z) s n c
flag-changed z s n (Claim y) h e = kept _ _ (put-keeps s y z (claimed (zone_at s y) n y) refl)
flag-changed z s n (Give y) h e =
    let clear = (give_finds s n y (done_none (give_refusal s n y) e)).clear in
    put_cases (λ x u. one_if (zone_at s x).flag + cond (same_zone y x) 1 0 ≡ one_if u.flag + 0) s.zones (given (zone_at s y) n y) y
    (rw (clear, same_zone-self y)) (λ x apart. rw apart) z
flag-changed z s n (Yield y) h e = kept _ _ (put-keeps s y z (yielded (zone_at s y) n y) refl)
flag-changed z s n (Take y) h e =
    let set = (take_finds s n y h (done_none (take_refusal s n y) e)).set in
    put_cases (λ x u. one_if (zone_at s x).flag + 0 ≡ one_if u.flag + cond (same_zone y x) 1 0) s.zones (taken (zone_at s y) n y) y
    (rw (set, same_zone-self y)) (λ x apart. rw apart) z
flag-changed z s n (Release y) h e = kept _ _ (put-keeps s y z (released (zone_at s y) n y) refl)
flag-changed z s n (SetPose p) h e = kept _ _ (ap (λ (v : ZoneState). v.flag) (zone_in-map (posed n p) s.zones z))
flag-changed z s n Advance h e = kept _ _ (ap (λ (v : ZoneState). v.flag) (zone_in-map (halted n) s.zones z) ∙ halted-flag (is_belt_of n z) (zone_at s z))
flag-changed z s n (Inquire y) h e = cc
flag-changed z s n _ h e = refl

pub flags-counted : (s : ModelState) (h : List Event) (z : Zone) → IsSound s → IsLegal s h → one_if (zone_at s z).flag + count_by (is_given_into z) h ≡ one_if (zone_at (after s h) z).flag + count_by (is_taken_from z) h
flags-counted s h z k l = counted (λ x. one_if (zone_at x z).flag) (λ m d. gives d z) (λ m d. takes d z) (flag-changed z) s h k l
