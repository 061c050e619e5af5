-- What a machine may know of the plates in its zones; no other machine changes it, if none yields.
use Rattle.cell_team.proofs.Names.{◌≡◌, Bool, true, false, ◌||◌, not, is_none, if◌then◌else◌, Option, Some, None, List, refl, sym, ap, ◌∙◌, subst, Machine, Zone, Transfer, Posture, Closed, Call, Claim, Give, Yield, Take, Release, SetPose, Advance, Inquire, Stop, Resume, Answer, Done, Shown, Refused, host_of, guest_of, transfer_of, same_machine, ModelState, zone_at, IsSound, implies, is_owned_by, is_open, is_received_by, is_onto_full, owns, owner_of, posture_at, reply, next, next_by}
use Rattle.cell_team.proofs.Names.{changed, posed, halted, is_belt_of, implied, and_left, zone_in-map, put_cases, owner_is, owned_as, claim_unowned, take_owned}
use Rattle.cell_rules.specs.declared.zones.ZoneState.{ZoneState}
use Rattle.cell_rules.proofs.lemmas.SoundAfterCalls.{claimed, released}
use Rattle.cell_rules.proofs.lemmas.Plates.{given, taken}
use Rattle.cell_control.specs.declared.share.ZoneShare.{ZoneShare}
use Rattle.cell_control.proofs.lemmas.Facts.{handed}
use Rattle.cell_control.proofs.lemmas.SharedZones.{AreShared, AreFirm, are_shared_same, foreign_same}

-- a call hands over no empty zone
abbrev pub yields : Call → Bool
yields (Yield _) = true
yields _ = false

abbrev pub IsYieldless : ModelState → Machine → Call → Type 0
IsYieldless z n c = reply z n c ≡ Done → yields c ≡ false

-- a machine that owns a zone has a plate there
abbrev pub IsLent : Machine → ZoneState → Type 0
IsLent m v = is_owned_by v.owner m ≡ true → v.flag ≡ true

pub no_both : (b : Bool) (P : Type 0) → b ≡ true → b ≡ false → P
no_both true P e f = cc
no_both false P e f = cc

-- what a zone was lent for, it still is
abbrev Stays : Machine → ModelState → Zone → ZoneState → Type 0
Stays m z y v = IsLent m (zone_at z y) → IsLent m v

halted_lent : (m : Machine) (t : Bool) (v : ZoneState) → IsLent m v → IsLent m (if t then record v { posture = Closed } else v)
halted_lent m true v k = k
halted_lent m false v k = k

lent_done : (m n : Machine) (c : Call) (z : ModelState) (y : Zone) → same_machine n m ≡ false → yields c ≡ false → reply z n c ≡ Done → IsLent m (zone_at z y) → IsLent m (zone_at (changed z n c) y)
lent_done m n (Claim x) z y apart polite e k = put_cases (Stays m z) z.zones (claimed (zone_at z x) n x) x (λ was o. no_both (same_machine n m) _ o apart) (λ w other was. was) y k
lent_done m n (Give x) z y apart polite e k = put_cases (Stays m z) z.zones (given (zone_at z x) n x) x (λ was o. refl) (λ w other was. was) y k
lent_done m n (Yield x) z y apart polite e k = cc
lent_done m n (Take x) z y apart polite e k =
    put_cases (Stays m z) z.zones (taken (zone_at z x) n x) x (λ was o. no_both (is_owned_by (owner_of z x) m) _ o (owned_as (owner_of z x) n m (take_owned z n x e) ∙ apart)) (λ w other was. was) y k
lent_done m n (Release x) z y apart polite e k = put_cases (Stays m z) z.zones (released (zone_at z x) n x) x (λ was o. cc) (λ w other was. was) y k
lent_done m n (SetPose p) z y apart polite e k = subst (IsLent m) (sym (zone_in-map (posed n p) z.zones y)) k
lent_done m n Advance z y apart polite e k = subst (IsLent m) (sym (zone_in-map (halted n) z.zones y)) (halted_lent m (is_belt_of n y) (zone_at z y) k)
lent_done m n (Inquire x) z y apart polite e k = k
lent_done m n Stop z y apart polite e k = k
lent_done m n Resume z y apart polite e k = k

lent_by : (a : Answer) (m n : Machine) (c : Call) (z : ModelState) (y : Zone) → reply z n c ≡ a → same_machine n m ≡ false → IsYieldless z n c → IsLent m (zone_at z y) → IsLent m (zone_at (next_by a z n c) y)
lent_by Done m n c z y e apart polite k = lent_done m n c z y apart (polite e) e k
lent_by (Refused r) m n c z y e apart polite k = k
lent_by (Shown o f q) m n c z y e apart polite k = k

-- so it keeps what a machine's shares of its zones say
pub shared_foreign : (m n : Machine) (c : Call) (z : ModelState) (zones : List (Zone × ZoneShare)) → AreFirm m zones → same_machine n m ≡ false → IsSound z → IsYieldless z n c → AreShared m z zones → AreShared m (next z n c) zones
shared_foreign m n c z zones firm apart sound polite k =
    are_shared_same m z (next z n c) (foreign_same m n c z apart sound) (λ y lent. lent_by (reply z n c) m n c z y refl apart polite lent) zones firm k

-- ---- what soundness says of plates and owners

-- a machine that doesn't receive in a zone finds no plate there
pub clear_of : (z : ModelState) (m : Machine) (y : Zone) (q : Posture) → IsSound z → posture_at z y ≡ q → is_received_by (Some m) (transfer_of y q) ≡ false → owns z m y ≡ true → (zone_at z y).flag ≡ false
clear_of z m y q sound stands elsewhere own =
    let By : Bool → Type 0 = λ b. (zone_at z y).flag ≡ b → b ≡ false in
    let by : (b : Bool) → By b = λ b. elim b as By [
      | true ↦ λ e. no_both (is_received_by (Some m) (transfer_of y (posture_at z y))) _ (handed z y m sound (owner_is (owner_of z y) m own) e) (ap (λ x. is_received_by (Some m) (transfer_of y x)) stands ∙ elsewhere)
      | false ↦ λ e. refl
    ] in
    by (zone_at z y).flag refl

-- so if the zone is only lent to it, it doesn't own it
pub unowned : (z : ModelState) (m : Machine) (y : Zone) (q : Posture) → IsSound z → posture_at z y ≡ q → is_received_by (Some m) (transfer_of y q) ≡ false → IsLent m (zone_at z y) → owns z m y ≡ false
unowned z m y q sound stands elsewhere lent =
    let By : Bool → Type 0 = λ b. owns z m y ≡ b → b ≡ false in
    let by : (b : Bool) → By b = λ b. elim b as By [
      | true ↦ λ e. no_both (zone_at z y).flag _ (lent e) (clear_of z m y q sound stands elsewhere e)
      | false ↦ λ e. refl
    ] in
    by (owns z m y) refl

-- a zone that is Closed, and that its host doesn't own, is free
not_open : (a b : Bool) → implies a b ≡ true → b ≡ false → a ≡ false
not_open true b e f = cc
not_open false b e f = refl

none_owns : (a b c : Bool) → (a || b || c) ≡ true → b ≡ false → c ≡ false → a ≡ true
none_owns true b c e f g = refl
none_owns false b c e f g = cc

pub free_of : (z : ModelState) (y : Zone) → IsSound z → posture_at z y ≡ Closed → owns z (host_of y) y ≡ false → is_none (owner_of z y) ≡ true
free_of z y sound stands mine =
    let guest = not_open (is_owned_by (owner_of z y) (guest_of y)) (is_open (posture_at z y)) (sound.guest_only_while_open y) (ap is_open stands) in
    none_owns (is_none (owner_of z y)) (is_owned_by (owner_of z y) (host_of y)) (is_owned_by (owner_of z y) (guest_of y)) (sound.owner_is_party y) mine guest

-- a zone that nobody owns has no plate, so a claimed one has none
received : (o : Option Machine) (way : Option Transfer) → ((m : Machine) → is_owned_by o m ≡ false) → is_received_by o way ≡ false
received o None k = refl
received o (Some row) k = k row.receiver

pub claimed_clear : (z : ModelState) (m : Machine) (y : Zone) → IsSound z → reply z m (Claim y) ≡ Done → (zone_at z y).flag ≡ false
claimed_clear z m y sound d =
    let way = transfer_of y (posture_at z y) in
    let By : Bool → Type 0 = λ b. (zone_at z y).flag ≡ b → b ≡ false in
    let by : (b : Bool) → By b = λ b. elim b as By [
      | true ↦ λ e. no_both (is_received_by (owner_of z y) way) _ (and_left (is_received_by (owner_of z y) way) (not (is_onto_full z.full way)) (implied (zone_at z y).flag _ (sound.flag_has_transfer y) e)) (received (owner_of z y) way (claim_unowned z m y d))
      | false ↦ λ e. refl
    ] in
    by (zone_at z y).flag refl

-- a note of a place, by the plates at a step
pub noted_empty : (full noted : Bool) → full ≡ noted → not noted ≡ true → full ≡ false
noted_empty full true e f = cc
noted_empty full false e f = e

pub noted_full : (full noted : Bool) → full ≡ noted → noted ≡ true → full ≡ true
noted_full full noted e f = e ∙ f
