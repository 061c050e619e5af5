-- A zone stays lawful with each change that a call may make.
use Rattle.std.proofs.Common.{◌≡◌, ◌≢◌, ℕ, ◌<◌, Bool, true, false, ◌&&◌, ◌||◌, not, nat_eq, Option, Some, None, refl, sym, ap, ◌∙◌, if◌then◌else◌}
use Rattle.std.proofs.lemmas.Bool.{eqb-true}
use Rattle.plan_types.specs.declared.posture.Posture.{Posture}
use Rattle.plan_types.specs.declared.posture.Posture.TheVariants.{Closed, Moving, OpenIn, OpenOut}
use Rattle.plan_types.specs.declared.table.Way.{Way}
use Rattle.plan_types.specs.declared.table.Transfer.{Transfer}
use Rattle.plan_types.specs.Same.{same_posture}
use Rattle.plan_types.specs.Table.{PlanTable, zone_count, host_of, guest_of, transfer_of, transfer_by, zone_row, enters}
use Rattle.plan_rules.specs.declared.state.ZoneState.{ZoneState}
use Rattle.plan_rules.specs.Sound.{IsLawfulZone, is_entrant, implies, is_open, is_owned_by, is_received_by}
use Rattle.plan_rules.specs.Refusals.{given_by}
use Rattle.plan_rules.specs.Reply.{other_party}
use Rattle.plan_rules.proofs.lemmas.Puts.{nat_eq-self, nat_eq-apart}
use Rattle.plan_rules.proofs.lemmas.Spaces.{party_enters}

-- ---- truth values

pub both_true : (a b : Bool) → (a && b) ≡ true → (a ≡ true) × (b ≡ true)
both_true true b e = (refl, e)
both_true false b e = cc

pub implied : (a b : Bool) → implies a b ≡ true → a ≡ true → b ≡ true
implied true b e f = e
implied false b e f = cc

pub implies_any : (a b : Bool) → b ≡ true → implies a b ≡ true
implies_any true b e = e
implies_any false b e = refl

pub implies_none : (a b : Bool) → a ≡ false → implies a b ≡ true
implies_none a b e = rw e refl

pub not_implied : (a b : Bool) → implies a b ≡ true → b ≡ false → a ≡ false
not_implied true b e f = cc
not_implied false b e f = refl

pub implies_from : (a b : Bool) → (a && not b) ≡ false → implies a b ≡ true
implies_from true true e = refl
implies_from true false e = cc
implies_from false b e = refl

-- ---- owners and postures

pub owner_is : (o : Option ℕ) (m : ℕ) → is_owned_by o m ≡ true → o ≡ Some m
owner_is None m e = cc
owner_is (Some n) m e = ap (λ (x : ℕ). Some x) (eqb-true n m e)

unowned_receiver : (o : Option ℕ) (way : Option Transfer) → o ≡ None → is_received_by o way ≡ false
unowned_receiver o None e = refl
unowned_receiver o (Some way) e = rw e refl

pub open_not_moving : (q : Posture) → is_open q ≡ true → same_posture q Moving ≡ false
open_not_moving Closed e = cc
open_not_moving Moving e = cc
open_not_moving OpenIn e = refl
open_not_moving OpenOut e = refl

-- a free zone has no plate and doesn't move
pub free_is_clear : (t : PlanTable) (z : ℕ) (v : ZoneState) → IsLawfulZone t z v → v.owner ≡ None → v.flag ≡ false
free_is_clear t z v k e = not_implied v.flag (is_received_by v.owner (transfer_of t z v.posture)) k.flag_has_transfer (unowned_receiver v.owner (transfer_of t z v.posture) e)

pub free_is_still : (t : PlanTable) (z : ℕ) (v : ZoneState) → IsLawfulZone t z v → v.owner ≡ None → same_posture v.posture Moving ≡ false
free_is_still t z v k e = not_implied (same_posture v.posture Moving) (is_owned_by v.owner (host_of t z)) k.moving_belongs_to_host (rw e refl)

-- ---- each change

-- who enters a zone's space owns it; it doesn't move, is open if the owner is its guest, and a plate in it comes to the
-- owner
pub lawful_owned : (t : PlanTable) (z o : ℕ) (f : Bool) (q : Posture) → enters t o z ≡ true → implies f (is_received_by (Some o) (transfer_of t z q)) ≡ true
    → implies (nat_eq o (guest_of t z)) (is_open q) ≡ true → same_posture q Moving ≡ false → IsLawfulZone t z (record { owner = Some o; flag = f; posture = q })
lawful_owned t z o f q party plate opens still = record {
  owner_is_party = party;
  flag_has_transfer = plate;
  guest_only_while_open = opens;
  moving_belongs_to_host = implies_none (same_posture q Moving) _ still;
}

pub lawful_free : (t : PlanTable) (z : ℕ) (f : Bool) (q : Posture) → f ≡ false → same_posture q Moving ≡ false → IsLawfulZone t z (record { owner = None; flag = f; posture = q })
lawful_free t z f q clear still = record {
  owner_is_party = refl;
  flag_has_transfer = implies_none f _ clear;
  guest_only_while_open = refl;
  moving_belongs_to_host = implies_none (same_posture q Moving) _ still;
}

pub lawful_taken : (t : PlanTable) (z : ℕ) (v : ZoneState) → IsLawfulZone t z v → IsLawfulZone t z (record v { flag = false })
lawful_taken t z v k = record {
  owner_is_party = k.owner_is_party;
  flag_has_transfer = refl;
  guest_only_while_open = k.guest_only_while_open;
  moving_belongs_to_host = k.moving_belongs_to_host;
}

-- the host, which owns the zone, gives it a posture
pub lawful_posed : (t : PlanTable) (z : ℕ) (v : ZoneState) (q : Posture) → z < zone_count t → host_of t z ≢ guest_of t z → v.owner ≡ Some (host_of t z) → v.flag ≡ false
    → IsLawfulZone t z (record v { posture = q })
lawful_posed t z v q l two is clear = record {
  owner_is_party = ap (is_entrant t z) is ∙ party_enters t (host_of t z) z z l refl (rw (nat_eq-self (host_of t z)) refl);
  flag_has_transfer = implies_none v.flag _ clear;
  guest_only_while_open = implies_none _ _ (ap (λ o. is_owned_by o (guest_of t z)) is ∙ nat_eq-apart (host_of t z) (guest_of t z) two);
  moving_belongs_to_host = implies_any _ _ (ap (λ o. is_owned_by o (host_of t z)) is ∙ nat_eq-self (host_of t z));
}

-- ---- the other party

other_at : (b : Bool) (h g : ℕ) → (nat_eq (if b then g else h) h || nat_eq (if b then g else h) g) ≡ true
other_at true h g = rw (nat_eq-self g) (or_true (nat_eq g h))
  where
    or_true : (b : Bool) → (b || true) ≡ true
    or_true true = refl
    or_true false = refl
other_at false h g = rw (nat_eq-self h) refl

pub other_is_party : (t : PlanTable) (m z : ℕ) → (nat_eq (other_party t m z) (host_of t z) || nat_eq (other_party t m z) (guest_of t z)) ≡ true
other_is_party t m z = other_at (nat_eq m (host_of t z)) (host_of t z) (guest_of t z)

-- ---- the way of a plate that a machine gives

pub record Gives (t : PlanTable) (m z : ℕ) (q : Posture) (way : Transfer) : Type 0 where
  pub is : transfer_of t z q ≡ Some way
  pub giver : way.giver ≡ m
  pub receiver : way.receiver ≡ other_party t m z
  pub opens : is_open q ≡ true

pub some_is : (a b : Transfer) → Some a ≡ Some b → a ≡ b
some_is a b e = ap (λ (o : Option Transfer). elim o as (λ _. Transfer) [ None ↦ a | Some x ↦ x ]) e

if_some : (b : Bool) (x way : Transfer) → (if b then Some x else None) ≡ Some way → (b ≡ true) × (x ≡ way)
if_some true x way e = (refl, some_is x way e)
if_some false x way e = cc

given_way : (m g r : ℕ) (w : Option Way) (way : Transfer) → given_by m (transfer_by g r w) ≡ Some way → (transfer_by g r w ≡ Some way) × (way.giver ≡ g) × (nat_eq g m ≡ true) × (way.receiver ≡ r)
given_way m g r None way e = cc
given_way m g r (Some w) way e =
    let x : Transfer = record { giver = g; receiver = r; from = w.from; to = w.to } in
    let found = if_some (nat_eq g m) x way e in
    (ap (λ (y : Transfer). Some y) found.1, sym (ap (λ (y : Transfer). y.giver) found.1), found.0, sym (ap (λ (y : Transfer). y.receiver) found.1))

pub gives_way : (t : PlanTable) (m z : ℕ) (q : Posture) (way : Transfer) → host_of t z ≢ guest_of t z → given_by m (transfer_of t z q) ≡ Some way → Gives t m z q way
gives_way t m z Closed way two e = cc
gives_way t m z Moving way two e = cc
gives_way t m z OpenIn way two e =
    let found = given_way m (guest_of t z) (host_of t z) (zone_row t z).inward way e in
    let guest : guest_of t z ≡ m = eqb-true _ _ found.2 in
    let other : nat_eq m (host_of t z) ≡ false = nat_eq-apart m (host_of t z) (λ s. two (sym s ∙ sym guest)) in
    record { is = found.0; giver = found.1 ∙ guest; receiver = found.3 ∙ sym (ap (λ b. if b then guest_of t z else host_of t z) other); opens = refl }
gives_way t m z OpenOut way two e =
    let found = given_way m (host_of t z) (guest_of t z) (zone_row t z).outward way e in
    let host : host_of t z ≡ m = eqb-true _ _ found.2 in
    let same : nat_eq m (host_of t z) ≡ true = ap (λ x. nat_eq m x) host ∙ nat_eq-self m in
    record { is = found.0; giver = found.1 ∙ host; receiver = found.3 ∙ sym (ap (λ b. if b then guest_of t z else host_of t z) same); opens = refl }
