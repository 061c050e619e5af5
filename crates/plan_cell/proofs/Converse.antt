-- What the plan does, the cell does too, or refuses by a rule of its own.
use Rattle.std.proofs.Common.{◌≡◌, ℕ, ◌+◌, ◌<◌, ◌⊎◌, inl, inr, Bool, true, false, ◌&&◌, ◌||◌, not, nat_eq, nat_lt, Option, Some, None, refl, sym, ap, ap₂, ◌∙◌, subst, arith, ltb-true}
use Rattle.std.specs.Prelude.{option_map}
use Rattle.std.specs.Bool.{then_some}
use Rattle.cell_types.specs.declared.machine.Machine.{Machine}
use Rattle.cell_types.specs.declared.machine.Machine.TheVariants.{Feed, Table as TableMachine, Robot, Press, Deposit, Crane as CraneMachine, Watch}
use Rattle.cell_types.specs.declared.zone.Zone.{Zone}
use Rattle.cell_types.specs.declared.zone.Zone.TheVariants.{Z1, Z2, Z3, Z4, Z5, Z6}
use Rattle.cell_types.specs.declared.zone.Transfer.{Transfer}
use Rattle.cell_types.specs.declared.place.Place.TheVariants.{FeedEnd, PressIn, PressOut, DepEnd}
use Rattle.cell_types.specs.declared.posture.Posture.TheVariants.{Moving, OpenIn}
use Rattle.cell_types.specs.declared.pose.Pose.{Pose}
use Rattle.cell_types.specs.declared.pose.Pose.TheVariants.{Travelling, Middle, Low, Top, Running}
use Rattle.cell_types.specs.declared.call.Call.{Call}
use Rattle.cell_types.specs.declared.call.Call.TheVariants.{Yield, Release, SetPose}
use Rattle.cell_types.specs.declared.answer.Refusal.{Refusal}
use Rattle.cell_types.specs.declared.answer.Refusal.TheVariants.{PlaceFull, InUse, Jump}
use Rattle.cell_types.specs.declared.answer.Answer.TheVariants.{Done}
use Rattle.cell_types.specs.Same.{same_machine, same_posture, same_pose}
use Rattle.cell_types.specs.Tables.{host_of, guest_of, transfer_of}
use Rattle.cell_rules.specs.ModelState.{ModelState, zone_at, is_full}
use Rattle.cell_rules.specs.Sound.{is_open, is_onto_full}
use Rattle.cell_rules.specs.Refusals as cell
use Rattle.cell_rules.specs.Reply.{reply, done_unless}
use Rattle.cell_rules.proofs.lemmas.Tables.{and_both}
use Rattle.plan_types.specs.declared.answer.Refusal.{Refusal as PlanRefusal}
use Rattle.plan_types.specs.declared.answer.Answer.TheVariants.{Done as PlanDone, Shown as PlanShown}
use Rattle.plan_types.specs.declared.posture.Posture.{Posture as PlanPosture}
use Rattle.plan_types.specs.declared.posture.Posture.TheVariants.{Moving as IsMoving, OpenIn as IsOpenIn}
use Rattle.plan_types.specs.declared.table.PlanPose.{PlanPose}
use Rattle.plan_types.specs.declared.call.Call.{Call as PlanCall}
use Rattle.plan_types.specs.Same.{same_posture as plan_same_posture}
use Rattle.plan_types.specs.Table as table
use Rattle.plan_types.specs.Below.{any_below}
use Rattle.plan_types.proofs.lemmas.Below.{first_below_none}
use Rattle.plan_rules.specs.declared.state.ZoneState.{ZoneState as PlanZoneState}
use Rattle.plan_rules.specs.State.{zone_at as plan_zone_at, one_if, coming}
use Rattle.plan_rules.specs.Sound.{is_open as plan_is_open}
use Rattle.plan_rules.specs.Refusals as plan
use Rattle.plan_rules.specs.Reply as plan_reply
use Rattle.plan_rules.proofs.lemmas.Below.{any_below_none}
use Rattle.plan_rules.proofs.lemmas.DoneCalls.{none_or, none_then, none_then_not}
use Rattle.plan_rules.proofs.lemmas.Plates.{no_plates}
use Rattle.plan_rules.proofs.lemmas.Soundness.{done_none}
use Rattle.plan_cell.specs.Numbers.{machine_number, zone_number, place_number, pose_number}
use Rattle.plan_cell.specs.CellPlan.{cell_table}
use Rattle.plan_cell.specs.Mapping.{plan_state}
use Rattle.plan_cell.specs.Laws.{is_own_rule, RefusedByOwnRule}
use Rattle.plan_cell.proofs.Names.{same_numbers, same_postures, zone_is, full_is, there, hosted_alike, guests_alike, party_alike, way_is, plan_transfer, PoseRow, pose_known}
use Rattle.plan_cell.proofs.Alone.{laden_alike}
use Rattle.plan_cell.proofs.Alike.{owns_alike, flag_alike, posture_alike, opens_at}
use Rattle.plan_cell.proofs.Plates.{given_alike}
use Rattle.plan_cell.proofs.Posing.{concern_alike, opens_alike_at}
use Rattle.plan_cell.proofs.Refusing.{the_call}

-- ---- one condition

no_refusal : (a b : Option Refusal) → a ≡ None → b ≡ None → cell.◌or◌ a b ≡ None
no_refusal a b e f = ap (λ x. cell.◌or◌ x b) e ∙ f

-- a condition that is the plan's and the cell's
back : (b c : Bool) (r : PlanRefusal) (q : Refusal) → b ≡ c → then_some b r ≡ None → then_some c q ≡ None
back b c r q e h = ap (λ x. then_some x q) (sym e ∙ none_then b r h)

party : (s : ModelState) (m : Machine) (z : Zone) → plan.not_party cell_table (machine_number m) (zone_number z) ≡ None → cell.not_party m z ≡ None
party s m z e = back _ _ _ _ (ap not (party_alike m z)) e

owner : (s : ModelState) (m : Machine) (z : Zone) → plan.not_owner (plan_state s) (machine_number m) (zone_number z) ≡ None → cell.not_owner s m z ≡ None
owner s m z e = back _ _ _ _ (ap not (owns_alike s m z)) e

clear : (s : ModelState) (z : Zone) → plan.plate_in_zone cell_table (plan_state s) (zone_number z) ≡ None → cell.plate_in_zone s z ≡ None
clear s z e = back _ _ _ _ (laden_alike s z) e

fresh : (s : ModelState) → plan.worn (plan_state s) ≡ None → cell.worn s ≡ None
fresh s e = back _ _ _ _ refl e

goes_on : (s : ModelState) → plan.while_stopped (plan_state s) ≡ None → cell.while_stopped s ≡ None
goes_on s e = back _ _ _ _ refl e

unheld_by : (o : Option Machine) (m : Machine) → plan.held_by (option_map machine_number o) (machine_number m) ≡ None → cell.held_by o m ≡ None
unheld_by None m e = refl
unheld_by (Some o) m e = back _ _ _ _ (ap not (same_numbers o m)) e

unheld : (s : ModelState) (m : Machine) (z : Zone) → plan.held (plan_state s) (machine_number m) (zone_number z) ≡ None → cell.held s m z ≡ None
unheld s m z e = unheld_by (zone_at s z).owner m (sym (ap (λ (v : PlanZoneState). plan.held_by v.owner (machine_number m)) (zone_is s z)) ∙ e)

-- ---- claim, take, stop, resume

pub claims : (s : ModelState) (m : Machine) (z : Zone) → plan.claim_refusal cell_table (plan_state s) (machine_number m) (zone_number z) ≡ None → cell.claim_refusal s m z ≡ None
claims s m z e =
    let S = plan_state s in
    let n = machine_number m in
    let y = zone_number z in
    let r1 = plan.not_party cell_table n y in
    let r2 = plan.◌or◌ r1 (plan.while_stopped S) in
    let r3 = plan.◌or◌ r2 (plan.already_mine S n y) in
    let r4 = plan.◌or◌ r3 (plan.held S n y) in
    let r5 = plan.◌or◌ r4 (plan.shut_to_guest cell_table S n y) in
    let h5 = none_or r5 (plan.worn S) e in
    let h4 = none_or r4 (plan.shut_to_guest cell_table S n y) h5.0 in
    let h3 = none_or r3 (plan.held S n y) h4.0 in
    let h2 = none_or r2 (plan.already_mine S n y) h3.0 in
    let h1 = none_or r1 (plan.while_stopped S) h2.0 in
    let shut : (nat_eq n (table.guest_of cell_table y) && not (plan_is_open (plan_zone_at S y).posture)) ≡ (same_machine m (guest_of z) && not (is_open (zone_at s z).posture)) =
    ap₂ (λ a b. a && not b) (guests_alike m z) (opens_at s z) in
    no_refusal _ _ (no_refusal _ _ (no_refusal _ _ (no_refusal _ _ (no_refusal _ _
    (party s m z h1.0) (goes_on s h1.1)) (back _ _ _ _ (owns_alike s m z) h2.1)) (unheld s m z h3.1))
    (back _ _ _ _ shut h4.1)) (fresh s h5.1)

pub takes : (s : ModelState) (m : Machine) (z : Zone) → plan.take_refusal cell_table (plan_state s) (machine_number m) (zone_number z) ≡ None → cell.take_refusal s m z ≡ None
takes s m z e =
    let S = plan_state s in
    let n = machine_number m in
    let y = zone_number z in
    let r1 = plan.not_party cell_table n y in
    let r2 = plan.◌or◌ r1 (plan.not_owner S n y) in
    let r3 = plan.◌or◌ r2 (plan.no_plate_in_zone S y) in
    let h3 = none_or r3 (plan.worn S) e in
    let h2 = none_or r2 (plan.no_plate_in_zone S y) h3.0 in
    let h1 = none_or r1 (plan.not_owner S n y) h2.0 in
    no_refusal _ _ (no_refusal _ _ (no_refusal _ _ (party s m z h1.0) (owner s m z h1.1)) (back _ _ _ _ (ap not (flag_alike s z)) h2.1)) (fresh s h3.1)

pub stops : (s : ModelState) (m : Machine) → plan.stop_refusal (plan_state s) (machine_number m) ≡ None → cell.stop_refusal s m ≡ None
stops s m e =
    let S = plan_state s in
    let r1 = plan.not_watch (machine_number m) in
    let h2 = none_or (plan.◌or◌ r1 (plan.while_stopped S)) (plan.worn S) e in
    let h1 = none_or r1 (plan.while_stopped S) h2.0 in
    no_refusal _ _ (no_refusal _ _ (back _ _ _ _ (ap not (same_numbers m Watch)) h1.0) (goes_on s h1.1)) (fresh s h2.1)

pub resumes : (s : ModelState) (m : Machine) → plan.resume_refusal (plan_state s) (machine_number m) ≡ None → cell.resume_refusal s m ≡ None
resumes s m e =
    let S = plan_state s in
    let r1 = plan.not_watch (machine_number m) in
    let h2 = none_or (plan.◌or◌ r1 (plan.not_stopped S)) (plan.worn S) e in
    let h1 = none_or r1 (plan.not_stopped S) h2.0 in
    no_refusal _ _ (no_refusal _ _ (back _ _ _ _ (ap not (same_numbers m Watch)) h1.0) (back _ _ _ _ refl h1.1)) (fresh s h2.1)

-- ---- give

gives_way : (o : Option Transfer) → plan.wrong_way (option_map plan_transfer o) ≡ None → cell.wrong_way o ≡ None
gives_way None e = cc
gives_way (Some row) e = refl

has_plate : (s : ModelState) (o : Option Transfer) → plan.nothing_to_give (plan_state s) (option_map plan_transfer o) ≡ None → cell.nothing_to_give s o ≡ None
has_plate s None e = refl
has_plate s (Some row) e = back _ _ _ _ (ap not (full_is s row.from)) e

empty_if : (b : Bool) (n : ℕ) → nat_lt 0 (one_if b + n) ≡ false → b ≡ false
empty_if true n e = let h : 1 + n ≡ 0 = no_plates (1 + n) e in absurd (omega (arith, h))
empty_if false n e = refl

-- a place that isn't taken is empty
untaken : (s : ModelState) (row : Transfer) → plan.is_taken cell_table (plan_state s) (place_number row.to) ≡ false → is_full s row.to ≡ false
untaken s row e = sym (full_is s row.to) ∙ empty_if _ (coming cell_table (plan_state s) (place_number row.to)) e

has_room : (s : ModelState) (o : Option Transfer) → plan.no_room cell_table (plan_state s) (option_map plan_transfer o) ≡ None → cell.no_room s o ≡ None
has_room s None e = refl
has_room s (Some row) e = ap (λ b. then_some b PlaceFull) (untaken s row (none_then _ _ e))

pub gives : (s : ModelState) (m : Machine) (z : Zone) → plan.give_refusal cell_table (plan_state s) (machine_number m) (zone_number z) ≡ None → cell.give_refusal s m z ≡ None
gives s m z e =
    let S = plan_state s in
    let n = machine_number m in
    let y = zone_number z in
    let w = plan.transfer_given cell_table S n y in
    let way = cell.transfer_given s m z in
    let r1 = plan.not_party cell_table n y in
    let r2 = plan.◌or◌ r1 (plan.while_stopped S) in
    let r3 = plan.◌or◌ r2 (plan.not_owner S n y) in
    let r4 = plan.◌or◌ r3 (plan.plate_in_zone cell_table S y) in
    let r5 = plan.◌or◌ r4 (plan.wrong_way w) in
    let r6 = plan.◌or◌ r5 (plan.nothing_to_give S w) in
    let r7 = plan.◌or◌ r6 (plan.no_room cell_table S w) in
    let h7 = none_or r7 (plan.worn S) e in
    let h6 = none_or r6 (plan.no_room cell_table S w) h7.0 in
    let h5 = none_or r5 (plan.nothing_to_give S w) h6.0 in
    let h4 = none_or r4 (plan.wrong_way w) h5.0 in
    let h3 = none_or r3 (plan.plate_in_zone cell_table S y) h4.0 in
    let h2 = none_or r2 (plan.not_owner S n y) h3.0 in
    let h1 = none_or r1 (plan.while_stopped S) h2.0 in
    let is = sym (given_alike s m z) in
    no_refusal _ _ (no_refusal _ _ (no_refusal _ _ (no_refusal _ _ (no_refusal _ _ (no_refusal _ _ (no_refusal _ _
    (party s m z h1.0) (goes_on s h1.1)) (owner s m z h2.1)) (clear s z h3.1))
    (gives_way way (ap plan.wrong_way is ∙ h4.1)))
    (has_plate s way (ap (plan.nothing_to_give S) is ∙ h5.1)))
    (has_room s way (ap (plan.no_room cell_table S) is ∙ h6.1)))
    (fresh s h7.1)

-- ---- yield, release

-- after conditions that refuse nothing a condition refuses, whatever comes after it
stops_at : (a b c : Option Refusal) (r : Refusal) → a ≡ None → b ≡ Some r → cell.◌or◌ (cell.◌or◌ a b) c ≡ Some r
stops_at a b c r e f = ap (λ x. cell.◌or◌ (cell.◌or◌ x b) c) e ∙ ap (λ x. cell.◌or◌ x c) f

-- a condition of the cell alone refuses nothing, or by a rule of the cell's own
abbrev OwnOrNone : ModelState → Machine → Call → Refusal → Option Refusal → Type 0
OwnOrNone s m c r o = (o ≡ None) ⊎ ((o ≡ Some r) × (is_own_rule s m c r ≡ true))

either_way : (b : Bool) (r : Refusal) → (then_some b r ≡ None) ⊎ ((then_some b r ≡ Some r) × (b ≡ true))
either_way true r = inr (refl, refl)
either_way false r = inl refl

yield_in_use : (s : ModelState) (m : Machine) (z : Zone) → OwnOrNone s m (Yield z) InUse (cell.in_use s m z)
yield_in_use s Feed Z1 = either_way (same_posture (zone_at s Z6).posture Moving && is_full s FeedEnd) InUse
yield_in_use s m z = inl refl

release_in_use : (s : ModelState) (m : Machine) (z : Zone) → OwnOrNone s m (Release z) InUse (cell.in_use s m z)
release_in_use s Feed Z1 = either_way (same_posture (zone_at s Z6).posture Moving && is_full s FeedEnd) InUse
release_in_use s m z = inl refl

pub yields : (s : ModelState) (m : Machine) (z : Zone) → plan.yield_refusal cell_table (plan_state s) (machine_number m) (zone_number z) ≡ None → OwnOrNone s m (Yield z) InUse (cell.yield_refusal s m z)
yields s m z e =
    let S = plan_state s in
    let n = machine_number m in
    let y = zone_number z in
    let r1 = plan.not_party cell_table n y in
    let r2 = plan.◌or◌ r1 (plan.not_owner S n y) in
    let r3 = plan.◌or◌ r2 (plan.plate_in_zone cell_table S y) in
    let r4 = plan.◌or◌ r3 (plan.shut S y) in
    let h4 = none_or r4 (plan.worn S) e in
    let h3 = none_or r3 (plan.shut S y) h4.0 in
    let h2 = none_or r2 (plan.plate_in_zone cell_table S y) h3.0 in
    let h1 = none_or r1 (plan.not_owner S n y) h2.0 in
    let before = no_refusal _ _ (no_refusal _ _ (no_refusal _ _ (party s m z h1.0) (owner s m z h1.1)) (clear s z h2.1)) (back _ _ _ _ (ap not (opens_at s z)) h3.1) in
    elim (yield_in_use s m z) [
      | inl free ↦ inl (no_refusal _ _ (no_refusal _ _ before free) (fresh s h4.1))
      | inr own ↦ inr (stops_at _ _ (cell.worn s) InUse before own.0, own.1)
    ]

pub releases : (s : ModelState) (m : Machine) (z : Zone) → plan.release_refusal cell_table (plan_state s) (machine_number m) (zone_number z) ≡ None → OwnOrNone s m (Release z) InUse (cell.release_refusal s m z)
releases s m z e =
    let S = plan_state s in
    let n = machine_number m in
    let y = zone_number z in
    let r1 = plan.not_party cell_table n y in
    let r2 = plan.◌or◌ r1 (plan.not_owner S n y) in
    let r3 = plan.◌or◌ r2 (plan.plate_in_zone cell_table S y) in
    let r4 = plan.◌or◌ r3 (plan.shut_while_moving S y) in
    let h4 = none_or r4 (plan.worn S) e in
    let h3 = none_or r3 (plan.shut_while_moving S y) h4.0 in
    let h2 = none_or r2 (plan.plate_in_zone cell_table S y) h3.0 in
    let h1 = none_or r1 (plan.not_owner S n y) h2.0 in
    let moves : plan_same_posture (plan_zone_at S y).posture IsMoving ≡ same_posture (zone_at s z).posture Moving =
    ap (λ q. plan_same_posture q IsMoving) (posture_alike s z) ∙ same_postures (zone_at s z).posture Moving in
    let before = no_refusal _ _ (no_refusal _ _ (no_refusal _ _ (party s m z h1.0) (owner s m z h1.1)) (clear s z h2.1)) (back _ _ _ _ moves h3.1) in
    elim (release_in_use s m z) [
      | inl free ↦ inl (no_refusal _ _ (no_refusal _ _ before free) (fresh s h4.1))
      | inr own ↦ inr (stops_at _ _ (cell.worn s) InUse before own.0, own.1)
    ]

-- ---- poses

has_alike : (m : Machine) (p : Pose) → table.has_pose cell_table (machine_number m) (pose_number m p) ≡ cell.has_pose m p
has_alike Feed Running = refl
has_alike TableMachine Running = refl
has_alike Robot Running = refl
has_alike Press Running = refl
has_alike Deposit Running = refl
has_alike CraneMachine Running = refl
has_alike Watch Running = refl
has_alike m p = refl

below_six : (z : Zone) → zone_number z < 6
below_six z = ltb-true _ _ (there z)

abbrev six : Option Refusal → Option Refusal → Option Refusal → Option Refusal → Option Refusal → Option Refusal → Option Refusal
six a b c d e f = cell.◌or◌ (cell.◌or◌ (cell.◌or◌ (cell.◌or◌ (cell.◌or◌ a b) c) d) e) f

none_of_zones : (f : Zone → Option Refusal) → ((z : Zone) → f z ≡ None) → cell.first_zone f ≡ None
none_of_zones f k = no_refusal _ _ (no_refusal _ _ (no_refusal _ _ (no_refusal _ _ (no_refusal _ _ (k Z1) (k Z2)) (k Z3)) (k Z4)) (k Z5)) (k Z6)

third_zone : (f : Zone → Option Refusal) (r : Refusal) → f Z1 ≡ None → f Z2 ≡ None → f Z3 ≡ Some r → cell.first_zone f ≡ Some r
third_zone f r a b c =
    ap (λ x. six x (f Z2) (f Z3) (f Z4) (f Z5) (f Z6)) a ∙ ap (λ x. six None x (f Z3) (f Z4) (f Z5) (f Z6)) b
    ∙ ap (λ x. six None None x (f Z4) (f Z5) (f Z6)) c

barred : (a x y : Bool) → (y ≡ false → x ≡ false) → (a && y) ≡ false → (a && x) ≡ false
barred true x y k e = k e
barred false x y k e = refl

moves_if : (h q : Bool) → (h && not q) ≡ false → (not h || q) ≡ true
moves_if true true e = refl
moves_if true false e = cc
moves_if false q e = refl

not_of : (b : Bool) → b ≡ true → not b ≡ false
not_of true e = refl
not_of false e = cc

all_move : (s : ModelState) (m : Machine) → any_below (plan.stands_at cell_table (plan_state s) (machine_number m)) 6 ≡ false → cell.all_move s m ≡ true
all_move s m e =
    let at : (z : Zone) → cell.moves_at s m z ≡ true = λ z.
    moves_if (same_machine (host_of z) m) (same_posture (zone_at s z).posture Moving)
    (sym (ap₂ (λ a b. a && not b) (hosted_alike m z) (ap (λ q. plan_same_posture q IsMoving) (posture_alike s z) ∙ same_postures (zone_at s z).posture Moving))
    ∙ any_below_none (plan.stands_at cell_table (plan_state s) (machine_number m)) 6 e (zone_number z) (below_six z)) in
    and_both _ _ (at Z1) (and_both _ _ (at Z2) (and_both _ _ (at Z3) (and_both _ _ (at Z4) (and_both _ _ (at Z5) (and_both _ _ (at Z6) refl)))))

jumps : (s : ModelState) (m : Machine) (p : Pose) → PoseRow m p → plan.jump cell_table (plan_state s) (machine_number m) (pose_number m p) ≡ None → cell.jump s m p ≡ None
jumps s m p k e =
    let leaps = cell.passes_through_moving m && not (cell.is_moving_pose p) in
    let stands = any_below (plan.stands_at cell_table (plan_state s) (machine_number m)) 6 in
    let off : (leaps && stands) ≡ false = sym (ap (λ (r : PlanPose). r.after_moving && stands) k.row) ∙ none_then _ _ e in
    ap (λ b. then_some b Jump) (barred leaps (not (cell.all_move s m)) stands (λ none. not_of _ (all_move s m none)) off)

-- opening inward: of the press's zone the plan looks at one place alone
onto_empty : (s : ModelState) (o : Option Transfer) → plan.is_onto_taken cell_table (plan_state s) (option_map plan_transfer o) ≡ false → is_onto_full s.full o ≡ false
onto_empty s None e = refl
onto_empty s (Some row) e = untaken s row e

onto_at : (s : ModelState) (m : Machine) (p : Pose) → PoseRow m p → (z : Zone) → plan.opens_onto_plate cell_table (plan_state s) (pose_number m p) (zone_number z) ≡ None
    → (cell.opens s m p z && is_onto_full s.full (transfer_of z OpenIn)) ≡ false
onto_at s m p k z e =
    let onto = plan.is_onto_taken cell_table (plan_state s) (table.transfer_of cell_table (zone_number z) IsOpenIn) in
    barred (cell.opens s m p z) (is_onto_full s.full (transfer_of z OpenIn)) onto
    (λ none. onto_empty s (transfer_of z OpenIn) (sym (ap (plan.is_onto_taken cell_table (plan_state s)) (way_is z OpenIn)) ∙ none))
    (sym (ap (λ b. b && onto) (opens_alike_at s m p k z)) ∙ none_then _ _ e)

and_not : (b : Bool) → (b && not b) ≡ false
and_not true = refl
and_not false = refl

-- the press's middle alone opens its zone inward
never_opens : (s : ModelState) (m : Machine) (p : Pose) → (same_machine m Press && same_pose p Middle) ≡ false → cell.opens s m p Z3 ≡ false
never_opens s Press Middle e = cc
never_opens s Press Travelling e = refl
never_opens s Press Low e = refl
never_opens s Press Top e = refl
never_opens s Feed Running e = and_not (same_posture (zone_at s Z3).posture OpenIn)
never_opens s TableMachine Running e = and_not (same_posture (zone_at s Z3).posture OpenIn)
never_opens s Robot Running e = and_not (same_posture (zone_at s Z3).posture OpenIn)
never_opens s Deposit Running e = and_not (same_posture (zone_at s Z3).posture OpenIn)
never_opens s CraneMachine Running e = and_not (same_posture (zone_at s Z3).posture OpenIn)
never_opens s Watch Running e = and_not (same_posture (zone_at s Z3).posture OpenIn)
never_opens s m p e = and_not (same_posture (zone_at s Z3).posture OpenIn)

-- the press opens, its place for plates that aren't forged is empty, and it has a forged plate or not
press_opens : (o a b : Bool) → (o && a) ≡ false → (then_some (o && (a || b)) PlaceFull ≡ None) ⊎ ((then_some (o && (a || b)) PlaceFull ≡ Some PlaceFull) × (b ≡ true))
press_opens true true b e = cc
press_opens true false true e = inr (refl, refl)
press_opens true false false e = inl refl
press_opens false a b e = inl refl

no_plate_if : (o x : Bool) → o ≡ false → then_some (o && x) PlaceFull ≡ None
no_plate_if o x e = ap (λ b. then_some (b && x) PlaceFull) e

opens_third : (s : ModelState) (m : Machine) (p : Pose) → (cell.opens s m p Z3 && is_full s PressIn) ≡ false → OwnOrNone s m (SetPose p) PlaceFull (cell.opens_onto_plate s m p Z3)
opens_third s Press Middle e = press_opens (cell.opens s Press Middle Z3) (is_full s PressIn) (is_full s PressOut) e
opens_third s m p e = inl (no_plate_if (cell.opens s m p Z3) (is_full s PressIn || is_full s PressOut) (never_opens s m p refl))

opens_own : (s : ModelState) (m : Machine) (p : Pose) → PoseRow m p → ((z : Zone) → plan.opens_onto_plate cell_table (plan_state s) (pose_number m p) (zone_number z) ≡ None)
    → OwnOrNone s m (SetPose p) PlaceFull (cell.first_zone (cell.opens_onto_plate s m p))
opens_own s m p k e =
    let f = cell.opens_onto_plate s m p in
    let at : (z : Zone) → then_some (cell.opens s m p z && is_onto_full s.full (transfer_of z OpenIn)) PlaceFull ≡ None = λ z. ap (λ b. then_some b PlaceFull) (onto_at s m p k z (e z)) in
    elim (opens_third s m p (onto_at s m p k Z3 (e Z3))) [
      | inl none ↦ inl (no_refusal _ _ (no_refusal _ _ (no_refusal _ _ (no_refusal _ _ (no_refusal _ _ (at Z1) (at Z2)) none) (at Z4)) (at Z5)) (at Z6))
      | inr own ↦ inr (third_zone f PlaceFull (at Z1) (at Z2) own.0, own.1)
    ]

-- a belt runs with a plate at its end
deposit_runs : (b : Bool) → (then_some (b || false) PlaceFull ≡ None) ⊎ ((then_some (b || false) PlaceFull ≡ Some PlaceFull) × (b ≡ true))
deposit_runs true = inr (refl, refl)
deposit_runs false = inl refl

runs_own : (s : ModelState) (m : Machine) (p : Pose) → OwnOrNone s m (SetPose p) PlaceFull (cell.runs_onto_plate s m p)
runs_own s Feed Running = either_way (is_full s FeedEnd && not (cell.owns s Feed Z1)) PlaceFull
runs_own s Deposit Running = deposit_runs (is_full s DepEnd)
runs_own s TableMachine Running = inl refl
runs_own s Robot Running = inl refl
runs_own s Press Running = inl refl
runs_own s CraneMachine Running = inl refl
runs_own s Watch Running = inl refl
runs_own s m p = inl refl

pub poses : (s : ModelState) (m : Machine) (p : Pose) → plan.pose_refusal cell_table (plan_state s) (machine_number m) (pose_number m p) ≡ None → OwnOrNone s m (SetPose p) PlaceFull (cell.pose_refusal s m p)
poses s m p e =
    let S = plan_state s in
    let n = machine_number m in
    let x = pose_number m p in
    let unowned = plan.unowned_by_pose cell_table S n x in
    let covered = plan.plate_under_pose cell_table S n x in
    let opens = plan.opens_onto_plate cell_table S x in
    let r1 = plan.lacks_pose cell_table n x in
    let r2 = plan.◌or◌ r1 (plan.moves_while_stopped cell_table S x) in
    let r3 = plan.◌or◌ r2 (plan.first_zone cell_table unowned) in
    let r4 = plan.◌or◌ r3 (plan.first_zone cell_table covered) in
    let r5 = plan.◌or◌ r4 (plan.jump cell_table S n x) in
    let r6 = plan.◌or◌ r5 (plan.first_zone cell_table opens) in
    let h6 = none_or r6 (plan.worn S) e in
    let h5 = none_or r5 (plan.first_zone cell_table opens) h6.0 in
    let h4 = none_or r4 (plan.jump cell_table S n x) h5.0 in
    let h3 = none_or r3 (plan.first_zone cell_table covered) h4.0 in
    let h2 = none_or r2 (plan.first_zone cell_table unowned) h3.0 in
    let h1 = none_or r1 (plan.moves_while_stopped cell_table S x) h2.0 in
    let has : cell.has_pose m p ≡ true = sym (has_alike m p) ∙ none_then_not (table.has_pose cell_table n x) _ h1.0 in
    let k = pose_known m p has in
    let moving : (table.is_moving_pose cell_table x && s.stopped) ≡ (cell.is_moving_pose p && s.stopped) = ap (λ b. b && s.stopped) k.moving in
    let own : (z : Zone) → cell.unowned_by_pose s m p z ≡ None = λ z.
    back _ _ _ _ (ap₂ (λ a b. a && not b) (concern_alike s m p k z) (owns_alike s m z)) (first_below_none unowned 6 h2.1 (zone_number z) (below_six z)) in
    let bare : (z : Zone) → cell.plate_under_pose s m p z ≡ None = λ z.
    back _ _ _ _ (ap₂ (λ a b. a && b) (concern_alike s m p k z) (laden_alike s z)) (first_below_none covered 6 h3.1 (zone_number z) (below_six z)) in
    let before = no_refusal _ _ (no_refusal _ _ (no_refusal _ _ (no_refusal _ _
    (back _ _ _ _ (ap not (has_alike m p)) h1.0) (back _ _ _ _ moving h1.1))
    (none_of_zones (cell.unowned_by_pose s m p) own)) (none_of_zones (cell.plate_under_pose s m p) bare)) (jumps s m p k h4.1) in
    elim (opens_own s m p k (λ z. first_below_none opens 6 h5.1 (zone_number z) (below_six z))) [
      | inl free ↦ elim (runs_own s m p) [
        | inl still ↦ inl (no_refusal _ _ (no_refusal _ _ (no_refusal _ _ before free) still) (fresh s h6.1))
        | inr rule ↦ inr (stops_at _ _ (cell.worn s) PlaceFull (no_refusal _ _ before free) rule.0, rule.1)
      ]
      | inr rule ↦ inr (ap (λ o. cell.◌or◌ o (cell.worn s)) (stops_at _ _ (cell.runs_onto_plate s m p) PlaceFull before rule.0), rule.1)
    ]

-- ---- each call

pub unshown : (r : Option PlanRefusal) (o : Option ℕ) (f : Bool) (q : PlanPosture) → plan_reply.answer_by r (PlanShown o f q) ≡ PlanDone → ⊥
unshown None o f q e = cc
unshown (Some r) o f q e = cc

abbrev Settled : ModelState → Machine → Call → Type 0
Settled s m c = (reply s m c ≡ Done) ⊎ RefusedByOwnRule s m c

pub settled : (s : ModelState) (m : Machine) (c : Call) (r : Refusal) (o : Option Refusal) → reply s m c ≡ done_unless o → OwnOrNone s m c r o → Settled s m c
settled s m c r o is own =
    elim own [
      | inl none ↦ inl (is ∙ ap done_unless none)
      | inr rule ↦ inr (record { refusal = r; answer = is ∙ ap done_unless rule.0; rule = rule.1 })
    ]

abbrev pub plan_does : ModelState → Machine → PlanCall → Type 0
plan_does s m d = plan_reply.reply cell_table (plan_state s) (machine_number m) d ≡ PlanDone

pub same_call : (s : ModelState) (m : Machine) (a d : PlanCall) → Some a ≡ Some d → plan_does s m d → plan_reply.refusal cell_table (plan_state s) (machine_number m) a ≡ None
same_call s m a d is e = done_none _ _ (subst (plan_does s m) (sym (the_call a d is)) e)
