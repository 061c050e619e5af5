-- Whose an accepted line is.
use Rattle.std.proofs.Common.{◌≡◌, ◌≢◌, ◌∙◌, ◌<◌, ◌⊎◌, ℕ, Bool, true, false, ◌||◌, not, nat_eq, Option, Some, None, refl, sym, ap, inl, inr}
use Rattle.std.proofs.lemmas.Bool.{cases_lt, eq-eqb, eqb-true, lt-ltb}
use Rattle.std.proofs.lemmas.List.{get_or_past}
use Rattle.plan_types.specs.declared.table.Way.{Way}
use Rattle.plan_types.specs.declared.call.Call.{Call}
use Rattle.plan_types.specs.declared.call.Call.TheVariants.{Claim, Give, Yield, Take, Release, SetPose, Inquire, Stop, Resume, Advance}
use Rattle.plan_types.specs.declared.answer.Answer.TheVariants.{Refused}
use Rattle.plan_types.specs.declared.answer.Refusal.{Refusal}
use Rattle.plan_types.specs.declared.answer.Refusal.TheVariants.{NotParty, NoPose}
use Rattle.plan_types.specs.Table.{PlanTable, guest_of, has_end, host_of, is_party, no_zone, transfer_by, zone_count, zone_row}
use Rattle.plan_rules.specs.declared.state.State.{State}
use Rattle.plan_rules.specs.Causes.{is_cause}
use Rattle.plan_rules.specs.RefusalLaws.{RefusalsTell}
use Rattle.plan_rules.specs.Reply.{reply}
use Rattle.plan_rules.specs.Sound.{IsSound}
use Rattle.plan_document.specs.Laws.{is_line}
use Rattle.plan_document.specs.Saying.{gives_plates, is_from, is_to, may_be_done, takes_plates}

-- ---- parties

either : (a b : Bool) → (a || b) ≡ true → (a ≡ true) ⊎ (b ≡ true)
either true b e = inl refl
either false b e = inr e

from_giver : (m giver receiver : ℕ) (way : Option Way) → is_from m (transfer_by giver receiver way) ≡ true → giver ≡ m
from_giver m giver receiver None e = absurd (cc)
from_giver m giver receiver (Some w) e = eqb-true giver m e

to_receiver : (m giver receiver : ℕ) (way : Option Way) → is_to m (transfer_by giver receiver way) ≡ true → receiver ≡ m
to_receiver m giver receiver None e = absurd (cc)
to_receiver m giver receiver (Some w) e = eqb-true receiver m e

-- a machine that is host or guest of a zone of the plan is a party
pub host_is_party : (t : PlanTable) (m z : ℕ) → z < zone_count t → host_of t z ≡ m → is_party t m z ≡ true
host_is_party t m z l is = rw (lt-ltb z (zone_count t) l, eq-eqb m (host_of t z) (sym is)) refl

or_true : (a : Bool) → (a || true) ≡ true
or_true true = refl
or_true false = refl

pub guest_is_party : (t : PlanTable) (m z : ℕ) → z < zone_count t → guest_of t z ≡ m → is_party t m z ≡ true
guest_is_party t m z l is = rw (lt-ltb z (zone_count t) l, eq-eqb m (guest_of t z) (sym is), or_true (nat_eq m (host_of t z))) refl

-- a zone with plates is one of the plan
there : (t : PlanTable) (z : ℕ) (test : Option Way → Option Way → Bool) → test None None ≡ false → test (zone_row t z).inward (zone_row t z).outward ≡ true → z < zone_count t
there t z test none e =
    elim (cases_lt z (zone_count t)) [
      | inl l ↦ l
      | inr past ↦ absurd (missing (get_or_past t.zones z no_zone past))
    ]
  where
    missing : zone_row t z ≡ no_zone → ⊥
    missing is = let e2 : test None None ≡ true = sym (ap (λ r. test r.inward r.outward) is) ∙ e in cc

giver_is_party : (t : PlanTable) (m z : ℕ) → gives_plates t m z ≡ true → is_party t m z ≡ true
giver_is_party t m z e =
    let host = host_of t z in
    let guest = guest_of t z in
    let l = there t z (λ i o. is_from m (transfer_by guest host i) || is_from m (transfer_by host guest o)) refl e in
    elim (either (is_from m (transfer_by guest host (zone_row t z).inward)) _ e) [
      | inl i ↦ guest_is_party t m z l (from_giver m guest host (zone_row t z).inward i)
      | inr o ↦ host_is_party t m z l (from_giver m host guest (zone_row t z).outward o)
    ]

taker_is_party : (t : PlanTable) (m z : ℕ) → takes_plates t m z ≡ true → is_party t m z ≡ true
taker_is_party t m z e =
    let host = host_of t z in
    let guest = guest_of t z in
    let l = there t z (λ i o. is_to m (transfer_by guest host i) || is_to m (transfer_by host guest o)) refl e in
    elim (either (is_to m (transfer_by guest host (zone_row t z).inward)) _ e) [
      | inl i ↦ host_is_party t m z l (to_receiver m guest host (zone_row t z).inward i)
      | inr o ↦ guest_is_party t m z l (to_receiver m host guest (zone_row t z).outward o)
    ]

-- ---- causes

denied : (b : Bool) → b ≡ true → not b ≡ true → ⊥
denied true e n = cc
denied false e n = cc

-- a refusal whose cause is false isn't given
unless_cause : RefusalsTell → (t : PlanTable) (s : State) (m : ℕ) (c : Call) (r : Refusal) → IsSound t s → (is_cause t s m c r ≡ true → ⊥) → reply t s m c ≢ Refused r
unless_cause law t s m c r k none e = none (law.cause t s m c r k e)

impossible : false ≡ true → ⊥
impossible e = cc

pub are_theirs : RefusalsTell → (t : PlanTable) (m : ℕ) (c : Call) → is_line c ≡ true → may_be_done t m c ≡ true → (s : State) → IsSound t s
    → (reply t s m c ≢ Refused NotParty) × (reply t s m c ≢ Refused NoPose)
are_theirs law t m (Claim z) line may s k = (unless_cause law t s m (Claim z) NotParty k (denied (is_party t m z) may), unless_cause law t s m (Claim z) NoPose k impossible)
are_theirs law t m (Yield z) line may s k = (unless_cause law t s m (Yield z) NotParty k (denied (is_party t m z) may), unless_cause law t s m (Yield z) NoPose k impossible)
are_theirs law t m (Release z) line may s k = (unless_cause law t s m (Release z) NotParty k (denied (is_party t m z) may), unless_cause law t s m (Release z) NoPose k impossible)
are_theirs law t m (Give z) line may s k =
    (unless_cause law t s m (Give z) NotParty k (denied (is_party t m z) (giver_is_party t m z may)), unless_cause law t s m (Give z) NoPose k impossible)
are_theirs law t m (Take z) line may s k =
    (unless_cause law t s m (Take z) NotParty k (denied (is_party t m z) (taker_is_party t m z may)), unless_cause law t s m (Take z) NoPose k impossible)
are_theirs law t m (SetPose p) line may s k = (unless_cause law t s m (SetPose p) NotParty k impossible, unless_cause law t s m (SetPose p) NoPose k (denied _ may))
are_theirs law t m (Inquire z) line may s k = absurd (impossible line)
are_theirs law t m Stop line may s k = absurd (impossible line)
are_theirs law t m Resume line may s k = absurd (impossible line)
are_theirs law t m (Advance p) line may s k = (unless_cause law t s m (Advance p) NotParty k (denied (has_end t m p) may), unless_cause law t s m (Advance p) NoPose k impossible)
