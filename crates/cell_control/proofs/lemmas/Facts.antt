-- What a step may know of the zones, and that no other machine changes it.
use Rattle.std.proofs.Common.{◌≡◌, Bool, true, false, ◌&&◌, not, Option, Some, List, [], ◌∷◌, refl, sym, ap, ◌∙◌}
use Rattle.std.specs.Prelude.{⊤}
use Rattle.cell_rules.specs.Types.{Machine, Zone, Posture, Call, Claim, Inquire, Done, Shown, Event, same_machine, host_of, guest_of, transfer_of}
use Rattle.cell_rules.specs.Names.{ModelState, zone_at, IsSound, is_owned_by, is_open, is_received_by, is_onto_full, is_of_some_pose, owns, posture_at, claim_refusal, reply, next, after, IsLegal, Holds, posture_by_events, IsSameFor}
use Rattle.cell_control.specs.Demands.{HoldsIn}
use Rattle.cell_rules.proofs.lemmas.Tables.{and_left, and_right, implied}
use Rattle.cell_rules.proofs.lemmas.DoneCalls.{claim_done}
use Rattle.cell_rules.proofs.lemmas.Soundness.{done_none}
use Rattle.cell_rules.proofs.lemmas.HoldsLemmas.{holds_iff_owns}
use Rattle.cell_rules.proofs.lemmas.Postures.{posture-after}
use Rattle.cell_rules.proofs.lemmas.OwnSide.{zone-foreign, posture-foreign}

-- the machine owns a zone; it is the zone's host, which has this posture; it owns a zone, which has this posture
pub data Fact : Type 0 where
  Owns : Zone → Fact
  Hosts : Zone → Posture → Fact
  Finds : Zone → Posture → Fact

abbrev pub IsSo : Machine → ModelState → Fact → Type 0
IsSo m z (Owns y) = owns z m y ≡ true
IsSo m z (Hosts y q) = (host_of y ≡ m) × (posture_at z y ≡ q)
IsSo m z (Finds y q) = (owns z m y ≡ true) × (posture_at z y ≡ q)

abbrev pub AreSo : Machine → ModelState → List Fact → Type 0
AreSo m z [] = ⊤
AreSo m z (f ∷ fs) = IsSo m z f × AreSo m z fs

-- other machines' calls change none of it
owned : (m n : Machine) (c : Call) (z : ModelState) (y : Zone) → same_machine n m ≡ false → IsSound z → owns z m y ≡ true → owns (next z n c) m y ≡ true
owned m n c z y apart sound o = ap (λ v. is_owned_by v.owner m) (zone-foreign z n m c y sound apart o) ∙ o

is_foreign : (m n : Machine) (c : Call) (z : ModelState) (f : Fact) → same_machine n m ≡ false → IsSound z → IsSo m z f → IsSo m (next z n c) f
is_foreign m n c z (Owns y) apart sound k = owned m n c z y apart sound k
is_foreign m n c z (Hosts y q) apart sound k = (k.0, posture-foreign z n c y (ap (λ x. same_machine n x) k.0 ∙ apart) ∙ k.1)
is_foreign m n c z (Finds y q) apart sound k = (owned m n c z y apart sound k.0, ap (λ v. v.posture) (zone-foreign z n m c y sound apart k.0) ∙ k.1)

pub are_foreign : (m n : Machine) (c : Call) (z : ModelState) (fs : List Fact) → same_machine n m ≡ false → IsSound z → AreSo m z fs → AreSo m (next z n c) fs
are_foreign m n c z [] apart sound k = k
are_foreign m n c z (f ∷ fs) apart sound k = (is_foreign m n c z f apart sound k.0, are_foreign m n c z fs apart sound k.1)

-- nor does a state that is the same for the machine
is_same : (m : Machine) (z w : ModelState) (f : Fact) → IsSameFor m z w → IsSo m z f → IsSo m w f
is_same m z w (Owns y) same k = ap (λ v. is_owned_by v.owner m) (same.owned y k) ∙ k
is_same m z w (Hosts y q) same k = (k.0, same.hosted y k.0 ∙ k.1)
is_same m z w (Finds y q) same k = (ap (λ v. is_owned_by v.owner m) (same.owned y k.0) ∙ k.0, ap (λ v. v.posture) (same.owned y k.0) ∙ k.1)

pub are_same : (m : Machine) (z w : ModelState) (fs : List Fact) → IsSameFor m z w → AreSo m z fs → AreSo m w fs
are_same m z w [] same k = k
are_same m z w (f ∷ fs) same k = (is_same m z w f same k.0, are_same m z w fs same k.1)

-- the state after a history, by its events
pub seen_held : (o : ModelState) (h : List Event) (m : Machine) (y : Zone) → IsLegal o h → owns (after o h) m y ≡ true → Holds o h m y
seen_held o h m y legal k = (holds_iff_owns o h m y legal).1 k

pub seen_in : (o : ModelState) (h : List Event) (y : Zone) (q : Posture) → IsLegal o h → posture_at (after o h) y ≡ q → posture_by_events o h y ≡ q
seen_in o h y q legal k = sym (posture-after o h y legal) ∙ k

pub found : (o : ModelState) (h : List Event) (m : Machine) (y : Zone) (q : Posture) → IsLegal o h → IsSo m (after o h) (Finds y q) → HoldsIn m o h (Some (y, q))
found o h m y q legal k = (seen_held o h m y legal k.0, seen_in o h y q legal k.1)

-- the zone is as an inquiry shows it
pub record Stands (z : ModelState) (y : Zone) (o : Option Machine) (f : Bool) (q : Posture) : Type 0 where
  pub owner : (zone_at z y).owner ≡ o
  pub flag : (zone_at z y).flag ≡ f
  pub posture : posture_at z y ≡ q

pub stands : (z : ModelState) (m : Machine) (y : Zone) (o : Option Machine) (f : Bool) (q : Posture) → reply z m (Inquire y) ≡ Shown o f q → Stands z y o f q
stands z m y o f q e = record { owner = cc; flag = cc; posture = cc }

-- a plate in a zone is for the zone's owner
pub handed : (z : ModelState) (y : Zone) (m : Machine) → IsSound z → (zone_at z y).owner ≡ Some m → (zone_at z y).flag ≡ true → is_received_by (Some m) (transfer_of y (posture_at z y)) ≡ true
handed z y m sound o f =
    let lawful = implied (zone_at z y).flag _ (sound.flag_has_transfer y) f in
    ap (λ x. is_received_by x (transfer_of y (posture_at z y))) (sym o) ∙ and_left (is_received_by (zone_at z y).owner (transfer_of y (posture_at z y))) (not (is_onto_full z.full (transfer_of y (posture_at z y)))) lawful

-- a guest enters a zone that is open
unless_not : (a b : Bool) → not (a && not b) ≡ true → a ≡ true → b ≡ true
unless_not true true e f = refl
unless_not true false e f = cc
unless_not false b e f = cc

pub entered : (z : ModelState) (y : Zone) (m : Machine) → reply z m (Claim y) ≡ Done → same_machine m (guest_of y) ≡ true → is_open (posture_at z y) ≡ true
entered z y m e g =
    let may = (claim_done z m y (done_none (claim_refusal z m y) e)).0 in
    unless_not (same_machine m (guest_of y)) (is_open (posture_at z y)) (and_right _ _ (and_right _ _ may)) g

-- its posture is one of the zone's
pub posed : (z : ModelState) (y : Zone) → IsSound z → is_of_some_pose y (posture_at z y) ≡ true
posed z y sound = sound.posture_of_some_pose y
