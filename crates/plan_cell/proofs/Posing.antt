-- A pose that the cell lets a machine take is done by its plan.
use Rattle.std.proofs.Common.{◌≡◌, ℕ, ◌+◌, Bool, true, false, ◌&&◌, ◌||◌, not, List, [], ◌∷◌, get_or, Option, Some, None, refl, ap, ap₂, ◌∙◌, subst, unwrap_or}
use Rattle.std.specs.Prelude.{option_map}
use Rattle.std.specs.Bool.{then_some}
use Rattle.cell_types.specs.declared.machine.Machine.{Machine}
use Rattle.cell_types.specs.declared.machine.Machine.TheVariants.{Feed, Table as TableMachine, Robot, Press, Deposit, Crane as CraneMachine, Watch}
use Rattle.cell_types.specs.declared.zone.Zone.{Zone}
use Rattle.cell_types.specs.declared.zone.Zone.TheVariants.{Z1, Z2, Z3, Z4, Z5, Z6}
use Rattle.cell_types.specs.declared.zone.Transfer.{Transfer}
use Rattle.cell_types.specs.declared.place.Place.TheVariants.{PressIn, PressOut}
use Rattle.cell_types.specs.declared.posture.Posture.{Posture}
use Rattle.cell_types.specs.declared.posture.Posture.TheVariants.{Closed, Moving, OpenIn, OpenOut}
use Rattle.cell_types.specs.declared.pose.Pose.{Pose}
use Rattle.cell_types.specs.declared.call.Call.TheVariants.{SetPose}
use Rattle.cell_types.specs.declared.answer.Answer.TheVariants.{Done}
use Rattle.cell_types.specs.Same.{same_machine, same_posture, one_machine, one_posture}
use Rattle.cell_types.specs.Tables.{host_of, transfer_of, posture_of}
use Rattle.cell_rules.specs.ModelState.{ModelState, zone_at, is_full}
use Rattle.cell_rules.specs.Sound.{is_onto_full}
use Rattle.cell_rules.specs.Refusals as cell
use Rattle.cell_rules.specs.Reply as cell_reply
use Rattle.cell_rules.proofs.lemmas.Tables.{and_left, and_right, from_zones}
use Rattle.cell_rules.proofs.lemmas.Puts.{each_zone}
use Rattle.cell_rules.proofs.lemmas.Moves.{suits, posture_suits}
use Rattle.cell_rules.proofs.lemmas.DoneCalls.{none_or, none_then, none_then_not, no_zone}
use Rattle.plan_types.specs.declared.posture.Posture.{Posture as PlanPosture}
use Rattle.plan_types.specs.declared.posture.Posture.TheVariants.{Moving as IsMoving, OpenIn as IsOpenIn}
use Rattle.plan_types.specs.declared.table.PlanPose.{PlanPose}
use Rattle.plan_types.specs.declared.answer.Refusal.{Refusal as PlanRefusal}
use Rattle.plan_types.specs.declared.answer.Refusal.TheVariants.{NoPose as HasNotPose, Jump as Jumps, PlaceFull as IsFull}
use Rattle.plan_types.specs.declared.call.Call.TheVariants.{SetPose as DoSetPose}
use Rattle.plan_types.specs.Same.{same_posture as plan_same_posture}
use Rattle.plan_types.specs.Table as table
use Rattle.plan_types.specs.Below.{first_below, any_below}
use Rattle.plan_rules.specs.declared.state.ZoneState.{ZoneState as PlanZoneState}
use Rattle.plan_rules.specs.declared.state.State.{State as PlanState}
use Rattle.plan_rules.specs.State.{zone_at as plan_zone_at, posture_at as plan_posture_at, free_zone}
use Rattle.plan_rules.specs.Refusals as plan
use Rattle.plan_rules.specs.Reply as plan_reply
use Rattle.plan_cell.specs.Numbers.{machine_number, zone_number, pose_number, plan_posture}
use Rattle.plan_cell.specs.CellPlan.{cell_table}
use Rattle.plan_cell.specs.Mapping.{plan_zone, plan_state}
use Rattle.plan_cell.proofs.Alone.{laden_alike}
use Rattle.plan_cell.proofs.Names.{PoseRow, pose_known, row_of, posture_is, hosted_alike, same_postures, zone_is, way_is, plan_transfer}
use Rattle.plan_cell.proofs.Alike.{Alike, alike_by, no_refusal, not_then, owns_alike, posture_alike, is_fresh}
use Rattle.plan_cell.proofs.Plates.{not_taken}

-- no zone of the plan is refused
none_of_six : (f : ℕ → Option PlanRefusal) → ((z : Zone) → f (zone_number z) ≡ None) → first_below f 6 ≡ None
none_of_six f k = no_refusal _ _ (no_refusal _ _ (no_refusal _ _ (no_refusal _ _ (no_refusal _ _ (no_refusal _ _ refl (k Z1)) (k Z2)) (k Z3)) (k Z4)) (k Z5)) (k Z6)

or_none : (a b : Bool) → a ≡ false → b ≡ false → (a || b) ≡ false
or_none a b e f = ap (λ x. x || b) e ∙ f

none_stands : (f : ℕ → Bool) → ((z : Zone) → f (zone_number z) ≡ false) → any_below f 6 ≡ false
none_stands f k = or_none _ _ (or_none _ _ (or_none _ _ (or_none _ _ (or_none _ _ (or_none _ _ refl (k Z1)) (k Z2)) (k Z3)) (k Z4)) (k Z5)) (k Z6)

mapped_or : (o : Option Posture) (d : Posture) → unwrap_or (option_map plan_posture o) (plan_posture d) ≡ plan_posture (unwrap_or o d)
mapped_or None d = refl
mapped_or (Some q) d = refl

posture_after : (s : ModelState) (m : Machine) (p : Pose) → PoseRow m p → (z : Zone) → plan.posture_with cell_table (plan_state s) (pose_number m p) (zone_number z) ≡ plan_posture (cell.posture_with s m p z)
posture_after s m p k z = ap₂ unwrap_or (posture_is m p k z) (posture_alike s z) ∙ mapped_or (posture_of m p z) (zone_at s z).posture

same_at : (s : ModelState) (z : Zone) (a : PlanPosture) (q : Posture) → a ≡ plan_posture q → plan_same_posture a (plan_posture_at (plan_state s) (zone_number z)) ≡ same_posture q (zone_at s z).posture
same_at s z a q e = ap₂ plan_same_posture e (posture_alike s z) ∙ same_postures q (zone_at s z).posture

pub concern_alike : (s : ModelState) (m : Machine) (p : Pose) → PoseRow m p → (z : Zone) → plan.is_concerned cell_table (plan_state s) (machine_number m) (pose_number m p) (zone_number z) ≡ cell.is_concerned s m p z
concern_alike s m p k z =
    ap₂ (λ a b. a && b) (hosted_alike m z)
    (ap₂ (λ a b. a || not b) k.moving (same_at s z (plan.posture_with cell_table (plan_state s) (pose_number m p) (zone_number z)) (cell.posture_with s m p z) (posture_after s m p k z)))

-- ---- the jump

barred : (a x y : Bool) → (y ≡ false → x ≡ false) → (a && y) ≡ false → (a && x) ≡ false
barred true x y k e = k e
barred false x y k e = refl

was_true : (b : Bool) → not b ≡ false → b ≡ true
was_true true e = refl
was_true false e = cc

still : (h q : Bool) → (not h || q) ≡ true → (h && not q) ≡ false
still true true e = refl
still true false e = cc
still false q e = refl

stands_nowhere : (s : ModelState) (m : Machine) → cell.all_move s m ≡ true → any_below (plan.stands_at cell_table (plan_state s) (machine_number m)) 6 ≡ false
stands_nowhere s m e =
    none_stands (plan.stands_at cell_table (plan_state s) (machine_number m)) (λ z.
    ap₂ (λ a b. a && not b) (hosted_alike m z) (ap (λ q. plan_same_posture q IsMoving) (posture_alike s z) ∙ same_postures (zone_at s z).posture Moving)
    ∙ still (same_machine (host_of z) m) (same_posture (zone_at s z).posture Moving) (from_zones (cell.moves_at s m) e z))

no_jump : (s : ModelState) (m : Machine) (p : Pose) → PoseRow m p → cell.jump s m p ≡ None → plan.jump cell_table (plan_state s) (machine_number m) (pose_number m p) ≡ None
no_jump s m p k e =
    let leaps = cell.passes_through_moving m && not (cell.is_moving_pose p) in
    let stands = any_below (plan.stands_at cell_table (plan_state s) (machine_number m)) 6 in
    let off : (leaps && not (cell.all_move s m)) ≡ false = none_then _ _ e in
    let none : (leaps && stands) ≡ false = barred leaps stands (not (cell.all_move s m)) (λ all. stands_nowhere s m (was_true (cell.all_move s m) all)) off in
    ap (λ (r : PlanPose). then_some (r.after_moving && stands) Jumps) k.row ∙ ap (λ b. then_some b Jumps) none

-- ---- opening inward

self : (a : Machine) → same_machine a a ≡ true
self Feed = refl
self TableMachine = refl
self Robot = refl
self Press = refl
self Deposit = refl
self CraneMachine = refl
self Watch = refl

own_by : (m : Machine) (z : Zone) (o : Option Posture) (q : Posture) → suits m z o ≡ true → o ≡ Some q → same_machine (host_of z) m ≡ true
own_by m z None q e is = cc
own_by m z (Some r) q e is = subst (λ x. same_machine x m ≡ true) (one_machine m (host_of z) (and_left _ _ e)) (self m)

gives_by : (o : Option Posture) (now : Posture) → same_posture (unwrap_or o now) OpenIn ≡ true → same_posture now OpenIn ≡ false → o ≡ Some OpenIn
gives_by None now e f = cc
gives_by (Some q) now e f = ap (λ (x : Posture). Some x) (one_posture q OpenIn e)

not_false : (b : Bool) → not b ≡ true → b ≡ false
not_false true e = cc
not_false false e = refl

other_false : (a b : Bool) → (a && b) ≡ false → a ≡ true → b ≡ false
other_false true b e f = e
other_false false b e f = cc

turned : (q : Posture) → same_posture q OpenIn ≡ false → same_posture OpenIn q ≡ false
turned Closed e = refl
turned Moving e = refl
turned OpenIn e = cc
turned OpenOut e = refl

either : (b : Bool) → (b || true) ≡ true
either true = refl
either false = refl

-- a zone that a pose opens inward has no plate
opener_is_clear : (s : ModelState) (m : Machine) (p : Pose) (z : Zone) → (cell.is_concerned s m p z && (zone_at s z).flag) ≡ false → cell.opens s m p z ≡ true → (zone_at s z).flag ≡ false
opener_is_clear s m p z none opens =
    let now = (zone_at s z).posture in
    let to : same_posture (cell.posture_with s m p z) OpenIn ≡ true = and_left _ _ opens in
    let wasnt : same_posture now OpenIn ≡ false = not_false _ (and_right (same_posture (cell.posture_with s m p z) OpenIn) (not (same_posture now OpenIn)) opens) in
    let gives : posture_of m p z ≡ Some OpenIn = gives_by (posture_of m p z) now to wasnt in
    let host : same_machine (host_of z) m ≡ true = own_by m z (posture_of m p z) OpenIn (posture_suits m p z) gives in
    let with_it : cell.posture_with s m p z ≡ OpenIn = ap (λ o. unwrap_or o now) gives in
    let differs : same_posture (cell.posture_with s m p z) now ≡ false = ap (λ q. same_posture q now) with_it ∙ turned now wasnt in
    let concerned : cell.is_concerned s m p z ≡ true = ap₂ (λ a b. a && (cell.is_moving_pose p || not b)) host differs ∙ either (cell.is_moving_pose p) in
    other_false _ _ none concerned

first_of_two : (a b : Bool) → (a || b) ≡ false → a ≡ false
first_of_two true b e = cc
first_of_two false b e = refl

-- the place that the zone leads to inward is empty
leads_to_empty : (s : ModelState) (z : Zone) → cell.is_blocked s z ≡ false → is_onto_full s.full (transfer_of z OpenIn) ≡ false
leads_to_empty s = each_zone (λ z. cell.is_blocked s z ≡ false → is_onto_full s.full (transfer_of z OpenIn) ≡ false)
    (λ e. e) (λ e. e) (λ e. first_of_two (is_full s PressIn) (is_full s PressOut) e) (λ e. e) (λ e. e) (λ e. e)

onto_empty : (s : ModelState) (z : Zone) (o : Option Transfer) → transfer_of z OpenIn ≡ o → (zone_at s z).flag ≡ false → is_onto_full s.full o ≡ false → plan.is_onto_taken cell_table (plan_state s) (option_map plan_transfer o) ≡ false
onto_empty s z None is clear empty = refl
onto_empty s z (Some row) is clear empty = not_taken s z OpenIn row is clear empty

pub opens_alike_at : (s : ModelState) (m : Machine) (p : Pose) → PoseRow m p → (z : Zone)
    → (plan_same_posture (plan.posture_with cell_table (plan_state s) (pose_number m p) (zone_number z)) IsOpenIn && not (plan_same_posture (plan_posture_at (plan_state s) (zone_number z)) IsOpenIn)) ≡ cell.opens s m p z
opens_alike_at s m p k z =
    ap₂ (λ a b. a && not b) (ap (λ q. plan_same_posture q IsOpenIn) (posture_after s m p k z) ∙ same_postures (cell.posture_with s m p z) OpenIn)
    (ap (λ q. plan_same_posture q IsOpenIn) (posture_alike s z) ∙ same_postures (zone_at s z).posture OpenIn)

opens_free : (s : ModelState) (m : Machine) (p : Pose) → PoseRow m p → (z : Zone) → (cell.is_concerned s m p z && (zone_at s z).flag) ≡ false → cell.opens_onto_plate s m p z ≡ None
    → plan.opens_onto_plate cell_table (plan_state s) (pose_number m p) (zone_number z) ≡ None
opens_free s m p k z none e =
    let opens = cell.opens s m p z in
    let onto = plan.is_onto_taken cell_table (plan_state s) (table.transfer_of cell_table (zone_number z) IsOpenIn) in
    let unblocked : (opens && cell.is_blocked s z) ≡ false = none_then _ _ e in
    let At : Bool → Type 0 = λ b. opens ≡ b → (b && onto) ≡ false in
    let by : (b : Bool) → At b = λ b. elim b as At [
      | true ↦ λ is.
          let empty = leads_to_empty s z (other_false opens (cell.is_blocked s z) unblocked is) in
          ap (plan.is_onto_taken cell_table (plan_state s)) (way_is z OpenIn) ∙ onto_empty s z (transfer_of z OpenIn) refl (opener_is_clear s m p z none is) empty
      | false ↦ λ is. refl
    ] in
    ap (λ b. then_some (b && onto) IsFull) (opens_alike_at s m p k z) ∙ ap (λ b. then_some b IsFull) (by opens refl)

-- ---- the whole pose

pose_free : (s : ModelState) (m : Machine) (p : Pose) → cell.pose_refusal s m p ≡ None → plan.pose_refusal cell_table (plan_state s) (machine_number m) (pose_number m p) ≡ None
pose_free s m p e =
    let r1 = cell.lacks_pose m p in
    let r2 = cell.◌or◌ r1 (cell.moves_while_stopped s p) in
    let r3 = cell.◌or◌ r2 (cell.first_zone (cell.unowned_by_pose s m p)) in
    let r4 = cell.◌or◌ r3 (cell.first_zone (cell.plate_under_pose s m p)) in
    let r5 = cell.◌or◌ r4 (cell.jump s m p) in
    let r6 = cell.◌or◌ r5 (cell.first_zone (cell.opens_onto_plate s m p)) in
    let r7 = cell.◌or◌ r6 (cell.runs_onto_plate s m p) in
    let h7 = none_or r7 (cell.worn s) e in
    let h6 = none_or r6 (cell.runs_onto_plate s m p) h7.0 in
    let h5 = none_or r5 (cell.first_zone (cell.opens_onto_plate s m p)) h6.0 in
    let h4 = none_or r4 (cell.jump s m p) h5.0 in
    let h3 = none_or r3 (cell.first_zone (cell.plate_under_pose s m p)) h4.0 in
    let h2 = none_or r2 (cell.first_zone (cell.unowned_by_pose s m p)) h3.0 in
    let h1 = none_or r1 (cell.moves_while_stopped s p) h2.0 in
    let k = pose_known m p (none_then_not (cell.has_pose m p) _ h1.0) in
    let clear : (z : Zone) → (cell.is_concerned s m p z && (zone_at s z).flag) ≡ false = λ z. none_then _ _ (no_zone (cell.plate_under_pose s m p) h3.1 z) in
    no_refusal _ _ (no_refusal _ _ (no_refusal _ _ (no_refusal _ _ (no_refusal _ _ (no_refusal _ _
    (ap (λ b. then_some (not b) HasNotPose) k.has)
    (not_then _ _ _ _ (ap (λ b. b && s.stopped) k.moving) h1.1))
    (none_of_six (plan.unowned_by_pose cell_table (plan_state s) (machine_number m) (pose_number m p)) (λ z.
    not_then _ _ _ _ (ap₂ (λ a b. a && not b) (concern_alike s m p k z) (owns_alike s m z)) (no_zone (cell.unowned_by_pose s m p) h2.1 z))))
    (none_of_six (plan.plate_under_pose cell_table (plan_state s) (machine_number m) (pose_number m p)) (λ z.
    not_then _ _ _ _ (ap₂ (λ a b. a && b) (concern_alike s m p k z) (laden_alike s z)) (no_zone (cell.plate_under_pose s m p) h3.1 z))))
    (no_jump s m p k h4.1))
    (none_of_six (plan.opens_onto_plate cell_table (plan_state s) (pose_number m p)) (λ z. opens_free s m p k z (clear z) (no_zone (cell.opens_onto_plate s m p) h5.1 z))))
    (is_fresh s h7.1)

-- ---- the zones after it

-- the plan's zone after the pose, by the cell's
posed_alike : (s : ModelState) (m : Machine) (p : Pose) → PoseRow m p → (z : Zone) → plan_reply.posed cell_table (plan_state s) (pose_number m p) (zone_number z) ≡ plan_zone (cell_reply.posed m p z (zone_at s z))
posed_alike s m p k z = ap₂ (λ (v : PlanZoneState) (q : PlanPosture). record v { posture = q }) (zone_is s z) (posture_after s m p k z)

-- past the cell's zones a pose gives nothing
posed_past : (s : ModelState) (m : Machine) (p : Pose) → PoseRow m p → (y : ℕ) → plan_zone_at (plan_state s) y ≡ free_zone → get_or (row_of m p).gives y None ≡ None
    → plan_reply.posed cell_table (plan_state s) (pose_number m p) y ≡ free_zone
posed_past s m p k y free none =
    ap₂ (λ (v : PlanZoneState) (o : Option PlanPosture). record v { posture = unwrap_or o v.posture }) free (ap (λ (r : PlanPose). get_or r.gives y None) k.row ∙ none)

abbrev ten : PlanZoneState → PlanZoneState → PlanZoneState → PlanZoneState → PlanZoneState → PlanZoneState → PlanZoneState → PlanZoneState → PlanZoneState → PlanZoneState → List PlanZoneState
ten a b c d e f g h i j = a ∷ b ∷ c ∷ d ∷ e ∷ f ∷ g ∷ h ∷ i ∷ j ∷ []

pub zones_posed : (s : ModelState) (m : Machine) (p : Pose) → PoseRow m p → plan_reply.all_posed cell_table (plan_state s) (pose_number m p) ≡ (plan_state (cell_reply.changed s m (SetPose p))).zones
zones_posed s m p k =
    let at = posed_alike s m p k in
    let past = posed_past s m p k in
    λ i. ten (at Z1 i) (at Z2 i) (at Z3 i) (at Z4 i) (at Z5 i) (at Z6 i) (past 6 refl refl i) (past 7 refl refl i) (past 8 refl refl i) (past 9 refl refl i)

abbrev with_zones : ModelState → List PlanZoneState → PlanState
with_zones s zones = record { zones = zones; full = (plan_state s).full; stamp = s.stamp + 1; stopped = s.stopped }

pub pose_alike : (s : ModelState) (m : Machine) (p : Pose) → cell.pose_refusal s m p ≡ None → cell_reply.reply s m (SetPose p) ≡ Done → Alike s m (SetPose p) (DoSetPose (pose_number m p))
pose_alike s m p e done =
    let r1 = cell.lacks_pose m p in
    let r2 = cell.◌or◌ r1 (cell.moves_while_stopped s p) in
    let r3 = cell.◌or◌ r2 (cell.first_zone (cell.unowned_by_pose s m p)) in
    let r4 = cell.◌or◌ r3 (cell.first_zone (cell.plate_under_pose s m p)) in
    let r5 = cell.◌or◌ r4 (cell.jump s m p) in
    let r6 = cell.◌or◌ r5 (cell.first_zone (cell.opens_onto_plate s m p)) in
    let r7 = cell.◌or◌ r6 (cell.runs_onto_plate s m p) in
    let h7 = none_or r7 (cell.worn s) e in
    let h6 = none_or r6 (cell.runs_onto_plate s m p) h7.0 in
    let h5 = none_or r5 (cell.first_zone (cell.opens_onto_plate s m p)) h6.0 in
    let h4 = none_or r4 (cell.jump s m p) h5.0 in
    let h3 = none_or r3 (cell.first_zone (cell.plate_under_pose s m p)) h4.0 in
    let h2 = none_or r2 (cell.first_zone (cell.unowned_by_pose s m p)) h3.0 in
    let h1 = none_or r1 (cell.moves_while_stopped s p) h2.0 in
    let k = pose_known m p (none_then_not (cell.has_pose m p) _ h1.0) in
    alike_by s m (SetPose p) (DoSetPose (pose_number m p)) (pose_free s m p e) refl done (ap (with_zones s) (zones_posed s m p k))
