-- A call that the cell does is done by its plan: claim, yield, release, stop, resume; and a take isn't refused.
use Rattle.std.proofs.Common.{◌≡◌, ℕ, ◌+◌, Bool, false, ◌&&◌, not, nat_eq, List, set, Option, Some, None, refl, sym, ap, ap₂, ◌∙◌}
use Rattle.std.specs.Prelude.{option_map}
use Rattle.std.specs.Bool.{then_some}
use Rattle.cell_types.specs.declared.machine.Machine.{Machine}
use Rattle.cell_types.specs.declared.machine.Machine.TheVariants.{Watch}
use Rattle.cell_types.specs.declared.zone.Zone.{Zone}
use Rattle.cell_types.specs.declared.posture.Posture.TheVariants.{Moving}
use Rattle.cell_types.specs.declared.call.Call.{Call}
use Rattle.cell_types.specs.declared.call.Call.TheVariants.{Claim, Yield, Release, Stop, Resume}
use Rattle.cell_types.specs.declared.answer.Refusal.{Refusal}
use Rattle.cell_types.specs.declared.answer.Answer.TheVariants.{Done}
use Rattle.cell_types.specs.Same.{same_machine, same_posture}
use Rattle.cell_types.specs.Tables.{guest_of}
use Rattle.cell_rules.specs.ZoneMap.{put_zone}
use Rattle.cell_rules.specs.ModelState.{ModelState, zone_at}
use Rattle.cell_rules.specs.Sound.{is_open}
use Rattle.cell_rules.specs.Refusals as cell
use Rattle.cell_rules.specs.Reply as cell_reply
use Rattle.cell_rules.proofs.lemmas.DoneCalls.{none_or, none_then}
use Rattle.plan_types.specs.declared.answer.Refusal.{Refusal as PlanRefusal}
use Rattle.plan_types.specs.declared.answer.Answer.TheVariants.{Done as PlanDone}
use Rattle.plan_types.specs.declared.call.Call.{Call as PlanCall}
use Rattle.plan_types.specs.declared.call.Call.TheVariants.{Claim as DoClaim, Yield as DoYield, Release as DoRelease, Stop as DoStop, Resume as DoResume}
use Rattle.plan_types.specs.declared.posture.Posture.TheVariants.{Moving as IsMoving}
use Rattle.plan_types.specs.Table as table
use Rattle.plan_types.specs.Same.{same_posture as plan_same_posture}
use Rattle.plan_rules.specs.declared.state.ZoneState.{ZoneState as PlanZoneState}
use Rattle.plan_rules.specs.declared.state.State.{State as PlanState}
use Rattle.plan_rules.specs.State.{zone_at as plan_zone_at}
use Rattle.plan_rules.specs.Sound.{is_open as plan_is_open, is_owned_by as plan_is_owned_by}
use Rattle.plan_rules.specs.Refusals as plan
use Rattle.plan_rules.specs.Reply as plan_reply
use Rattle.plan_cell.specs.Numbers.{machine_number, zone_number, plan_posture}
use Rattle.plan_cell.specs.CellPlan.{cell_table}
use Rattle.plan_cell.specs.Mapping.{plan_state}
use Rattle.plan_cell.proofs.Alone.{alone, ten, laden_alike}
use Rattle.plan_cell.proofs.Names.{same_numbers, same_postures, opens_alike, owned_alike, zone_is, guests_alike, party_alike, other_alike, zones_put}

-- ---- one condition

pub no_refusal : (a b : Option PlanRefusal) → a ≡ None → b ≡ None → plan.◌or◌ a b ≡ None
no_refusal a b e f = ap (λ x. plan.◌or◌ x b) e ∙ f

pub not_then : (b c : Bool) (r : PlanRefusal) (q : Refusal) → b ≡ c → then_some c q ≡ None → then_some b r ≡ None
not_then b c r q e h = ap (λ x. then_some x r) (e ∙ none_then c q h)

pub owns_alike : (s : ModelState) (m : Machine) (z : Zone) → plan.owns (plan_state s) (machine_number m) (zone_number z) ≡ cell.owns s m z
owns_alike s m z = ap (λ (v : PlanZoneState). plan_is_owned_by v.owner (machine_number m)) (zone_is s z) ∙ owned_alike (zone_at s z).owner m

pub flag_alike : (s : ModelState) (z : Zone) → (plan_zone_at (plan_state s) (zone_number z)).flag ≡ (zone_at s z).flag
flag_alike s z = ap (λ (v : PlanZoneState). v.flag) (zone_is s z)

pub posture_alike : (s : ModelState) (z : Zone) → (plan_zone_at (plan_state s) (zone_number z)).posture ≡ plan_posture (zone_at s z).posture
posture_alike s z = ap (λ (v : PlanZoneState). v.posture) (zone_is s z)

pub opens_at : (s : ModelState) (z : Zone) → plan_is_open (plan_zone_at (plan_state s) (zone_number z)).posture ≡ is_open (zone_at s z).posture
opens_at s z = ap plan_is_open (posture_alike s z) ∙ opens_alike (zone_at s z).posture

pub is_party : (m : Machine) (z : Zone) → cell.not_party m z ≡ None → plan.not_party cell_table (machine_number m) (zone_number z) ≡ None
is_party m z e = not_then _ _ _ _ (ap not (party_alike m z)) e

pub is_owner : (s : ModelState) (m : Machine) (z : Zone) → cell.not_owner s m z ≡ None → plan.not_owner (plan_state s) (machine_number m) (zone_number z) ≡ None
is_owner s m z e = not_then _ _ _ _ (ap not (owns_alike s m z)) e

pub is_clear : (s : ModelState) (z : Zone) → cell.plate_in_zone s z ≡ None → plan.plate_in_zone cell_table (plan_state s) (zone_number z) ≡ None
is_clear s z e = not_then _ _ _ _ (laden_alike s z) e

pub is_fresh : (s : ModelState) → cell.worn s ≡ None → plan.worn (plan_state s) ≡ None
is_fresh s e = not_then _ _ _ _ refl e

pub goes_on : (s : ModelState) → cell.while_stopped s ≡ None → plan.while_stopped (plan_state s) ≡ None
goes_on s e = not_then _ _ _ _ refl e

unheld_by : (o : Option Machine) (m : Machine) → cell.held_by o m ≡ None → plan.held_by (option_map machine_number o) (machine_number m) ≡ None
unheld_by None m e = refl
unheld_by (Some o) m e = not_then _ _ _ _ (ap not (same_numbers o m)) e

unheld : (s : ModelState) (m : Machine) (z : Zone) → cell.held s m z ≡ None → plan.held (plan_state s) (machine_number m) (zone_number z) ≡ None
unheld s m z e = ap (λ (v : PlanZoneState). plan.held_by v.owner (machine_number m)) (zone_is s z) ∙ unheld_by (zone_at s z).owner m e

-- ---- each call isn't refused

claim_free : (s : ModelState) (m : Machine) (z : Zone) → cell.claim_refusal s m z ≡ None → plan.claim_refusal cell_table (plan_state s) (machine_number m) (zone_number z) ≡ None
claim_free s m z e =
    let r1 = cell.not_party m z in
    let r2 = cell.◌or◌ r1 (cell.while_stopped s) in
    let r3 = cell.◌or◌ r2 (cell.already_mine s m z) in
    let r4 = cell.◌or◌ r3 (cell.held s m z) in
    let r5 = cell.◌or◌ r4 (cell.shut_to_guest s m z) in
    let h5 = none_or r5 (cell.worn s) e in
    let h4 = none_or r4 (cell.shut_to_guest s m z) h5.0 in
    let h3 = none_or r3 (cell.held s m z) h4.0 in
    let h2 = none_or r2 (cell.already_mine s m z) h3.0 in
    let h1 = none_or r1 (cell.while_stopped s) h2.0 in
    let shut : (nat_eq (machine_number m) (table.guest_of cell_table (zone_number z)) && not (plan_is_open (plan_zone_at (plan_state s) (zone_number z)).posture)) ≡ (same_machine m (guest_of z) && not (is_open (zone_at s z).posture)) =
    ap₂ (λ a b. a && not b) (guests_alike m z) (opens_at s z) in
    no_refusal _ _ (no_refusal _ _ (no_refusal _ _ (no_refusal _ _ (no_refusal _ _
    (is_party m z h1.0) (goes_on s h1.1)) (not_then _ _ _ _ (owns_alike s m z) h2.1)) (unheld s m z h3.1))
    (not_then _ _ _ _ shut h4.1)) (is_fresh s h5.1)

yield_free : (s : ModelState) (m : Machine) (z : Zone) → cell.yield_refusal s m z ≡ None → plan.yield_refusal cell_table (plan_state s) (machine_number m) (zone_number z) ≡ None
yield_free s m z e =
    let r1 = cell.not_party m z in
    let r2 = cell.◌or◌ r1 (cell.not_owner s m z) in
    let r3 = cell.◌or◌ r2 (cell.plate_in_zone s z) in
    let r4 = cell.◌or◌ r3 (cell.shut s z) in
    let r5 = cell.◌or◌ r4 (cell.in_use s m z) in
    let h5 = none_or r5 (cell.worn s) e in
    let h4 = none_or r4 (cell.in_use s m z) h5.0 in
    let h3 = none_or r3 (cell.shut s z) h4.0 in
    let h2 = none_or r2 (cell.plate_in_zone s z) h3.0 in
    let h1 = none_or r1 (cell.not_owner s m z) h2.0 in
    no_refusal _ _ (no_refusal _ _ (no_refusal _ _ (no_refusal _ _
    (is_party m z h1.0) (is_owner s m z h1.1)) (is_clear s z h2.1)) (not_then _ _ _ _ (ap not (opens_at s z)) h3.1)) (is_fresh s h5.1)

pub take_free : (s : ModelState) (m : Machine) (z : Zone) → cell.take_refusal s m z ≡ None → plan.take_refusal cell_table (plan_state s) (machine_number m) (zone_number z) ≡ None
take_free s m z e =
    let r1 = cell.not_party m z in
    let r2 = cell.◌or◌ r1 (cell.not_owner s m z) in
    let r3 = cell.◌or◌ r2 (cell.no_plate_in_zone s z) in
    let h3 = none_or r3 (cell.worn s) e in
    let h2 = none_or r2 (cell.no_plate_in_zone s z) h3.0 in
    let h1 = none_or r1 (cell.not_owner s m z) h2.0 in
    no_refusal _ _ (no_refusal _ _ (no_refusal _ _
    (is_party m z h1.0) (is_owner s m z h1.1)) (not_then _ _ _ _ (ap not (flag_alike s z)) h2.1)) (is_fresh s h3.1)

release_free : (s : ModelState) (m : Machine) (z : Zone) → cell.release_refusal s m z ≡ None → plan.release_refusal cell_table (plan_state s) (machine_number m) (zone_number z) ≡ None
release_free s m z e =
    let r1 = cell.not_party m z in
    let r2 = cell.◌or◌ r1 (cell.not_owner s m z) in
    let r3 = cell.◌or◌ r2 (cell.plate_in_zone s z) in
    let r4 = cell.◌or◌ r3 (cell.shut_while_moving s z) in
    let r5 = cell.◌or◌ r4 (cell.in_use s m z) in
    let h5 = none_or r5 (cell.worn s) e in
    let h4 = none_or r4 (cell.in_use s m z) h5.0 in
    let h3 = none_or r3 (cell.shut_while_moving s z) h4.0 in
    let h2 = none_or r2 (cell.plate_in_zone s z) h3.0 in
    let h1 = none_or r1 (cell.not_owner s m z) h2.0 in
    let moves : plan_same_posture (plan_zone_at (plan_state s) (zone_number z)).posture IsMoving ≡ same_posture (zone_at s z).posture Moving =
    ap (λ q. plan_same_posture q IsMoving) (posture_alike s z) ∙ same_postures (zone_at s z).posture Moving in
    no_refusal _ _ (no_refusal _ _ (no_refusal _ _ (no_refusal _ _
    (is_party m z h1.0) (is_owner s m z h1.1)) (is_clear s z h2.1)) (not_then _ _ _ _ moves h3.1)) (is_fresh s h5.1)

stop_free : (s : ModelState) (m : Machine) → cell.stop_refusal s m ≡ None → plan.stop_refusal (plan_state s) (machine_number m) ≡ None
stop_free s m e =
    let r1 = cell.not_watch m in
    let r2 = cell.◌or◌ r1 (cell.while_stopped s) in
    let h2 = none_or r2 (cell.worn s) e in
    let h1 = none_or r1 (cell.while_stopped s) h2.0 in
    no_refusal _ _ (no_refusal _ _ (not_then _ _ _ _ (ap not (same_numbers m Watch)) h1.0) (goes_on s h1.1)) (is_fresh s h2.1)

resume_free : (s : ModelState) (m : Machine) → cell.resume_refusal s m ≡ None → plan.resume_refusal (plan_state s) (machine_number m) ≡ None
resume_free s m e =
    let r1 = cell.not_watch m in
    let r2 = cell.◌or◌ r1 (cell.not_stopped s) in
    let h2 = none_or r2 (cell.worn s) e in
    let h1 = none_or r1 (cell.not_stopped s) h2.0 in
    no_refusal _ _ (no_refusal _ _ (not_then _ _ _ _ (ap not (same_numbers m Watch)) h1.0) (not_then _ _ _ _ refl h1.1)) (is_fresh s h2.1)

-- ---- the same answer, and the same state after it

abbrev pub Alike : ModelState → Machine → Call → PlanCall → Type 0
Alike s m c d =
    (plan_reply.reply cell_table (plan_state s) (machine_number m) d ≡ PlanDone)
    × (plan_reply.next cell_table (plan_state s) (machine_number m) d ≡ plan_state (cell_reply.next s m c))

pub alike_by : (s : ModelState) (m : Machine) (c : Call) (d : PlanCall) → plan_reply.refusal cell_table (plan_state s) (machine_number m) d ≡ None → plan_reply.accepted (plan_state s) d ≡ PlanDone
    → cell_reply.reply s m c ≡ Done → plan_reply.changed cell_table (plan_state s) (machine_number m) d ≡ plan_state (cell_reply.changed s m c) → Alike s m c d
alike_by s m c d none accepts done same =
    let t = cell_table in
    let S = plan_state s in
    let n = machine_number m in
    let e : plan_reply.reply t S n d ≡ PlanDone = ap (λ r. plan_reply.answer_by r (plan_reply.accepted S d)) none ∙ accepts in
    (e, ap (λ a. plan_reply.next_by a t S n d) e ∙ same ∙ sym (ap (λ a. plan_state (cell_reply.next_by a s m c)) done))

-- the state with other zones, one stamp later
abbrev with_zones : ModelState → List PlanZoneState → PlanState
with_zones s zones = record { zones = zones; full = (plan_state s).full; stamp = s.stamp + 1; stopped = s.stopped }

-- a zone of which only the owner changes
owner_put : (s : ModelState) (z : Zone) (o : Option Machine) (n : Option ℕ) → n ≡ option_map machine_number o
    → plan_reply.with_owner cell_table (plan_state s) (zone_number z) n false ≡ (plan_state (record s { zones = put_zone s.zones z (record (zone_at s z) { owner = o }) })).zones
owner_put s z o n e =
    (alone (plan_state s) (zone_number z)).owner n false (ten z) refl
    ∙ ap₂ (λ (v : PlanZoneState) (x : Option ℕ). set (plan_state s).zones (zone_number z) (record v { owner = x })) (zone_is s z) e
    ∙ zones_put s (record (zone_at s z) { owner = o }) z

pub claim_alike : (s : ModelState) (m : Machine) (z : Zone) → cell.claim_refusal s m z ≡ None → cell_reply.reply s m (Claim z) ≡ Done → Alike s m (Claim z) (DoClaim (zone_number z))
claim_alike s m z e done =
    alike_by s m (Claim z) (DoClaim (zone_number z)) (claim_free s m z e) refl done
    (ap (with_zones s) (owner_put s z (Some m) (Some (machine_number m)) refl))

pub yield_alike : (s : ModelState) (m : Machine) (z : Zone) → cell.yield_refusal s m z ≡ None → cell_reply.reply s m (Yield z) ≡ Done → Alike s m (Yield z) (DoYield (zone_number z))
yield_alike s m z e done =
    alike_by s m (Yield z) (DoYield (zone_number z)) (yield_free s m z e) refl done
    (ap (with_zones s) (owner_put s z (Some (cell_reply.other_party m z)) (Some (plan_reply.other_party cell_table (machine_number m) (zone_number z))) (ap (λ (x : ℕ). Some x) (other_alike m z))))

pub release_alike : (s : ModelState) (m : Machine) (z : Zone) → cell.release_refusal s m z ≡ None → cell_reply.reply s m (Release z) ≡ Done → Alike s m (Release z) (DoRelease (zone_number z))
release_alike s m z e done =
    alike_by s m (Release z) (DoRelease (zone_number z)) (release_free s m z e) refl done
    (ap (with_zones s) (owner_put s z None None refl))

pub stop_alike : (s : ModelState) (m : Machine) → cell.stop_refusal s m ≡ None → cell_reply.reply s m Stop ≡ Done → Alike s m Stop DoStop
stop_alike s m e done = alike_by s m Stop DoStop (stop_free s m e) refl done refl

pub resume_alike : (s : ModelState) (m : Machine) → cell.resume_refusal s m ≡ None → cell_reply.reply s m Resume ≡ Done → Alike s m Resume DoResume
resume_alike s m e done = alike_by s m Resume DoResume (resume_free s m e) refl done refl
