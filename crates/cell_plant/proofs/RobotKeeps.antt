-- The invariant of the robot's side: it holds in every state of a run.
use Rattle.cell_plant.proofs.Names.{◌≡◌, ℤ, pos, ◌≤ℤ◌, Bool, true, false, not, ◌&&◌, ◌||◌, ◌⊎◌, inl, inr, Option, Some, None, Result, Ok, refl, sym, ap, ◌∙◌, subst, if◌then◌else◌, arith, ⊤, ints, Machine, Robot, Call, Reply, Posture, OpenIn, OpenOut, Z2, Z3, Z4, IsNear, RobotSense, DrivesTo, Motor, Off, RobotAct, RETRACTED, ARM1_PRESS, ARM2_DEPOSIT, ROTATION_ARM1_TABLE, ROTATION_ARM1_PRESS, ROTATION_ARM2_PRESS, ROTATION_ARM2_DEPOSIT}
use Rattle.cell_plant.proofs.Names.{ModelState, changed, LineFault, Turned, Turns, CtlFault, choice, notes_at, robot_start, RobotScales, near_lines, turns_to, arm1_stop, arm2_stop, robot_rest, robot_steps, RobotStep, TurnToTable, ReachTable, LeaveTable, TurnToLoad, ClaimPress, InspectPress, ReleasePress, ReachToLoad, DropInPress, LeaveLoaded, TurnToUnload, AwaitForged, ReachToUnload, GripForged, LeaveUnloaded, TurnToDeposit}
use Rattle.cell_plant.proofs.Names.{ClaimDeposit, ReachDeposit, DropOnDeposit, LeaveDeposit, RobotNotes, RobotProgress, RobotReading, turns, RobotKnows, at_choice, robot-knowing, act_or_rest, Keeping, turn_tells, IsAxisScale, IsWithin, IsIn, arm_end, rotation_end, robot_at_start, moved_axis, set_axis, set_robot, robot_rig, IsOn, IsOut, IsArm1AtTable, IsArm1InPress, IsArm2InPress, IsArm2AtDeposit, LetsGo, Arm1MayLetGo, Arm2MayLetGo}
use Rattle.cell_plant.proofs.Names.{DrivesPast, RotatesRetracted, HoldsIn, Axis, RobotPlant, RobotShows}
use Rattle.cell_devices.specs.declared.stops.Stop.{Stop}
use Rattle.cell_robot.specs.Names.{row_at, row_of, step_after_inquiry, after_done, Senses, Acts, is_done}
use Rattle.cell_robot.specs.declared.robot.RobotStep.TheVariants.{AwaitPlate, GripPlate}
use Rattle.cell_robot.specs.RobotProgram.{rotation_stop, is_off}
use Rattle.cell_control.proofs.lemmas.SharedZones.{AreSure}
use Rattle.cell_robot.specs.RobotKeeps.{zones_at}
use Rattle.cell_plant.proofs.Magnets.{still_on}
use Rattle.cell_plant.proofs.Stops.{reading_near, span_of, at_stop, StopsWithin, not_on, off_within, driven_within}
use Rattle.cell_plant.proofs.WithinLemmas.{moved_within}

-- the stop of each arm at a step, and of the rotation; none if the axis may be anywhere
abbrev arm1_at : RobotStep → Option Stop
arm1_at ReachTable = None
arm1_at GripPlate = None
arm1_at LeaveTable = None
arm1_at ReachToLoad = None
arm1_at DropInPress = Some ARM1_PRESS
arm1_at LeaveLoaded = None
arm1_at _ = Some RETRACTED

abbrev arm2_at : RobotStep → Option Stop
arm2_at ReachToUnload = None
arm2_at GripForged = None
arm2_at LeaveUnloaded = None
arm2_at ReachDeposit = None
arm2_at DropOnDeposit = Some ARM2_DEPOSIT
arm2_at LeaveDeposit = None
arm2_at _ = Some RETRACTED

abbrev rotation_at : RobotStep → Option Stop
rotation_at AwaitPlate = Some ROTATION_ARM1_TABLE
rotation_at ReachTable = Some ROTATION_ARM1_TABLE
rotation_at GripPlate = Some ROTATION_ARM1_TABLE
rotation_at LeaveTable = Some ROTATION_ARM1_TABLE
rotation_at ClaimPress = Some ROTATION_ARM1_PRESS
rotation_at InspectPress = Some ROTATION_ARM1_PRESS
rotation_at ReleasePress = Some ROTATION_ARM1_PRESS
rotation_at ReachToLoad = Some ROTATION_ARM1_PRESS
rotation_at DropInPress = Some ROTATION_ARM1_PRESS
rotation_at LeaveLoaded = Some ROTATION_ARM1_PRESS
rotation_at AwaitForged = Some ROTATION_ARM2_PRESS
rotation_at ReachToUnload = Some ROTATION_ARM2_PRESS
rotation_at GripForged = Some ROTATION_ARM2_PRESS
rotation_at LeaveUnloaded = Some ROTATION_ARM2_PRESS
rotation_at ClaimDeposit = Some ROTATION_ARM2_DEPOSIT
rotation_at ReachDeposit = Some ROTATION_ARM2_DEPOSIT
rotation_at DropOnDeposit = Some ROTATION_ARM2_DEPOSIT
rotation_at LeaveDeposit = Some ROTATION_ARM2_DEPOSIT
rotation_at _ = None

-- an axis is at a stop, with its motor off
abbrev StandsAt : Option Stop → Axis → Type 0
StandsAt None a = ⊤
StandsAt (Some stop) a = IsIn (span_of stop) a.position × (a.motor ≡ Off)

stands_off : (at : Option Stop) (a : Axis) → StandsAt at a → StandsAt at (set_axis a Off)
stands_off None a k = tt
stands_off (Some stop) a k = (k.0, refl)

stands_moved : (end : ℤ) (at : Option Stop) (a : Axis) → StandsAt at a → StandsAt at (moved_axis end a)
stands_moved end None a k = tt
stands_moved end (Some stop) a k = (rw k.1 k.0, k.1)

-- at the next step an axis is at the same stop, or may be anywhere; or it is at the stop that it was driven to
abbrev Stays : Option Stop → Option Stop → Type 0
Stays at next = (next ≡ None) ⊎ (next ≡ at)

abbrev Comes : Option Stop → Option Stop → Option Stop → Type 0
Comes at stop next = Stays at next ⊎ (next ≡ stop)

anywhere : {at : Option Stop} → Stays at None
anywhere = inl refl

there : {at : Option Stop} → Stays at at
there = inr refl

stays_off : (at next : Option Stop) (a : Axis) → Stays at next → StandsAt at a → StandsAt next (set_axis a Off)
stays_off at next a (inl e) k = subst (λ x. StandsAt x (set_axis a Off)) (sym e) tt
stays_off at next a (inr e) k = subst (λ x. StandsAt x (set_axis a Off)) (sym e) (stands_off at a k)

at_stop_off : (stop : Option Stop) (a : Axis) (tol read : ℤ) → IsNear read a.position tol → DrivesTo stop tol read Off → StandsAt stop (set_axis a Off)
at_stop_off None a tol read near drives = tt
at_stop_off (Some stop) a tol read near drives = (at_stop stop tol read a.position near (drives.off.0 refl), refl)

comes_off : (at stop next : Option Stop) (a : Axis) (tol read : ℤ) (m : Motor) → Comes at stop next → IsNear read a.position tol → DrivesTo stop tol read m → m ≡ Off → StandsAt at a → StandsAt next (set_axis a m)
comes_off at stop next a tol read m (inl stays) near drives off k = subst (λ x. StandsAt next (set_axis a x)) (sym off) (stays_off at next a stays k)
comes_off at stop next a tol read m (inr e) near drives off k =
    subst (λ x. StandsAt next (set_axis a x)) (sym off) (subst (λ x. StandsAt x (set_axis a Off)) (sym e) (at_stop_off stop a tol read near (subst (λ x. DrivesTo stop tol read x) off drives)))

-- while it is driven it may be anywhere
still_there : (at stop : Option Stop) (a : Axis) (tol read : ℤ) (m : Motor) → (at ≡ None) ⊎ (stop ≡ None) → DrivesTo stop tol read m → StandsAt at a → StandsAt at (set_axis a m)
still_there at stop a tol read m (inl e) drives k = subst (λ x. StandsAt x (set_axis a m)) (sym e) tt
still_there at stop a tol read m (inr e) drives k =
    let off : m ≡ Off = subst (λ x. DrivesTo x tol read m) e drives in
    subst (λ x. StandsAt at (set_axis a x)) (sym off) (stands_off at a k)

arm1_still : (s : RobotStep) → (arm1_at s ≡ None) ⊎ (arm1_stop s ≡ None)
arm1_still TurnToTable = inr refl
arm1_still _ = first_of (search inl, search inr)

arm2_still : (s : RobotStep) → (arm2_at s ≡ None) ⊎ (arm2_stop s ≡ None)
arm2_still TurnToTable = inr refl
arm2_still _ = first_of (search inl, search inr)

no_stop : (b : Bool) (stop : Option Stop) → stop ≡ None → (if b then stop else None) ≡ None
no_stop true stop e = e
no_stop false stop e = refl

rotation_still : (s : RobotStep) (b : Bool) → (rotation_at s ≡ None) ⊎ (turns_to s b ≡ None)
rotation_still TurnToTable b = inl refl
rotation_still TurnToLoad b = inl refl
rotation_still TurnToUnload b = inl refl
rotation_still TurnToDeposit b = inl refl
rotation_still s b = inr (no_stop b (rotation_stop s) refl)

-- the next steps: before a group of steps both arms are in, and the rotation may be any
choice_by : (arm1 arm2 fed : Bool) → (arm1_at (choice (record { arm1 = arm1; arm2 = arm2; fed = fed })) ≡ Some RETRACTED) × (arm2_at (choice (record { arm1 = arm1; arm2 = arm2; fed = fed })) ≡ Some RETRACTED) × (rotation_at (choice (record { arm1 = arm1; arm2 = arm2; fed = fed })) ≡ None)
choice_by true false false = assumption
choice_by false false false = assumption
choice_by arm1 arm2 fed = assumption

at_group : (n : RobotNotes) → (arm1_at (choice n) ≡ Some RETRACTED) × (arm2_at (choice n) ≡ Some RETRACTED) × (rotation_at (choice n) ≡ None)
at_group n = choice_by n.arm1 n.arm2 n.fed

abbrev StaysAll : RobotStep → RobotStep → Type 0
StaysAll s t = Stays (arm1_at s) (arm1_at t) × Stays (arm2_at s) (arm2_at t) × Stays (rotation_at s) (rotation_at t)

abbrev ComesAll : RobotStep → RobotStep → Type 0
ComesAll s t = Comes (arm1_at s) (arm1_stop s) (arm1_at t) × Comes (arm2_at s) (arm2_stop s) (arm2_at t) × Comes (rotation_at s) (rotation_stop s) (rotation_at t)

to_group : (n : RobotNotes) → Stays (Some RETRACTED) (arm1_at (choice n)) × Stays (Some RETRACTED) (arm2_at (choice n)) × Stays None (rotation_at (choice n))
to_group n = let at = at_group n in (inr at.0, inr at.1, inl at.2)

asks_lead : (s : RobotStep) (p : RobotProgress) (c : Call) → (row_at s p).call ≡ Some c → StaysAll s (row_at s p).next.step
asks_lead AwaitPlate p c e = (there, there, there)
asks_lead s p c e = first_of (cc, search (anywhere, there, to_group (row_at s p).next.notes))

inquiries_lead : (s : RobotStep) (o : Option Machine) (f : Bool) (q : Posture) → StaysAll s (step_after_inquiry s o f q)
inquiries_lead AwaitPlate (Some Robot) true q = (anywhere, there, there)
inquiries_lead InspectPress o f OpenIn = (anywhere, there, there)
inquiries_lead AwaitForged (Some Robot) true q = (there, anywhere, there)
inquiries_lead s o f q = (there, there, there)

drives_lead : (s : RobotStep) (p : RobotProgress) → (row_at s p).call ≡ None → ComesAll s (row_at s p).next.step
drives_lead TurnToTable p e = (inl there, inl there, inr refl)
drives_lead s p e = first_of (cc, search (inl, inr))

-- what its step knows of the interlock; its magnets are as last commanded, each axis is where the step needs it, and it
-- rotates only in steps that rotate
pub record RobotInv (z : ModelState) (p : RobotProgress) (r : RobotPlant) : Type 0 where
  pub knows : RobotKnows p z
  pub magnet1 : r.magnet1 ≡ p.magnets.arm1
  pub magnet2 : r.magnet2 ≡ p.magnets.arm2
  pub within : IsWithin arm_end r.arm1.position × IsWithin arm_end r.arm2.position × IsWithin rotation_end r.rotation.position
  pub arm1 : StandsAt (arm1_at p.step) r.arm1
  pub arm2 : StandsAt (arm2_at p.step) r.arm2
  pub rotation : StandsAt (rotation_at p.step) r.rotation
  pub turning : IsOn r.rotation → turns p.step ≡ true

pub robot-start : (s : ModelState) → RobotInv s (robot_start s) (robot_at_start s)
robot-start s =
    let at = at_group (notes_at s) in
    record {
      knows = at_choice (notes_at s) s;
      magnet1 = refl;
      magnet2 = refl;
      within = omega (arith, ints);
      arm1 = subst (λ x. StandsAt x (robot_at_start s).arm1) (sym at.0) (omega (arith, ints), refl);
      arm2 = subst (λ x. StandsAt x (robot_at_start s).arm2) (sym at.1) (omega (arith, ints), refl);
      rotation = subst (λ x. StandsAt x (robot_at_start s).rotation) (sym at.2) tt;
      turning = λ on. absurd (on refl);
    }

-- with its motors off it stays where it is
at_rest : {z : ModelState} → (y : ModelState) (p q : RobotProgress) (r : RobotPlant) → RobotInv z p r → RobotKnows q y → p.magnets ≡ q.magnets → StaysAll p.step q.step → RobotInv y q (set_robot r (robot_rest p))
at_rest y p q r i knows magnets leads = search (stays_off, ap (λ m. m.arm1) magnets, ap (λ m. m.arm2) magnets, not_on)

-- a step that asks switches no magnet
asks_magnets : (s : RobotStep) (p : RobotProgress) (c : Call) → (row_at s p).call ≡ Some c → p.magnets ≡ (row_at s p).next.magnets
asks_magnets AwaitPlate p c e = refl
asks_magnets s p c e = first_of (assumption, cc)

done_when : (t retracted : Bool) (a b c : Motor) → ((not t || retracted) && (is_off a && (is_off b && is_off c))) ≡ true → (t ≡ true → retracted ≡ true) × ((a ≡ Off) × (b ≡ Off) × (c ≡ Off))
done_when t retracted a b c e = grind arith

-- a step that switches a magnet is done in its turn
not_off : (a b c : Motor) → a ≡ Off → b ≡ Off → c ≡ Off → (is_off a && (is_off b && is_off c)) ≡ false → ⊥
not_off a b c e f g h = grind arith

turned_off : (b : Bool) (tol read : ℤ) (m : Motor) → DrivesTo (if b then None else None) tol read m → m ≡ Off
turned_off true tol read m k = k
turned_off _ tol read m k = k

module _ (points : RobotScales) (p : RobotProgress) (rd : RobotReading) (act : RobotAct) (acts : Acts points p rd act) where
  stays_magnets : (s : RobotStep) → DrivesTo (arm1_stop s) points.arm1.tol rd.arm1 act.arm1 → DrivesTo (arm2_stop s) points.arm2.tol rd.arm2 act.arm2 → DrivesTo (turns_to s rd.retracted) points.rotation.tol rd.rotation act.rotation
      → is_done s rd.retracted act ≡ false → (row_at s p).next.magnets ≡ p.magnets
  stays_magnets GripPlate a b c stays = absurd (not_off act.arm1 act.arm2 act.rotation a b (turned_off rd.retracted _ _ _ c) stays)
  stays_magnets s a b c stays = first_of (assumption, search (not_off, turned_off))

  -- only a step that rotates commands the rotation
  told_turns : (s : RobotStep) → DrivesTo (turns_to s rd.retracted) points.rotation.tol rd.rotation act.rotation → (act.rotation ≡ Off → ⊥) → turns s ≡ true
  told_turns TurnToTable c on = refl
  told_turns s c on = first_of (assumption, search turned_off)

retracted_then : (b : Bool) (stop : Option Stop) → b ≡ true → (if b then stop else None) ≡ stop
retracted_then true stop e = refl
retracted_then false stop e = cc

turns_there : (s : RobotStep) (b : Bool) → (turns s ≡ true → b ≡ true) → turns_to s b ≡ rotation_stop s
turns_there TurnToTable b f = retracted_then b _ (f refl)
turns_there s b f = first_of (search retracted_then, search no_stop)

pub record AreRobotScales (points : RobotScales) : Type 0 where
  pub arm1 : IsAxisScale arm_end points.arm1
  pub arm2 : IsAxisScale arm_end points.arm2
  pub rotation : IsAxisScale rotation_end points.rotation

record ReadsNear (points : RobotScales) (r : RobotPlant) (rd : RobotReading) : Type 0 where
  arm1 : IsNear rd.arm1 r.arm1.position points.arm1.tol
  arm2 : IsNear rd.arm2 r.arm2.position points.arm2.tol
  rotation : IsNear rd.rotation r.rotation.position points.rotation.tol

module _ (points : RobotScales) (axes : AreRobotScales points) where
  reads_near : (z : ModelState) (p : RobotProgress) (r : RobotPlant) (s : RobotSense) (rd : RobotReading) → RobotShows points r s → Senses points (near_lines points) s (Ok rd) → RobotInv z p r → ReadsNear points r rd
  reads_near z p r s rd shows senses i = record {
    arm1 = reading_near arm_end points.arm1 r.arm1.position s.arm1 rd.arm1 axes.arm1 i.within.0 shows.arm1 senses.arm1.1.0;
    arm2 = reading_near arm_end points.arm2 r.arm2.position s.arm2 rd.arm2 axes.arm2 i.within.1 shows.arm2 senses.arm2.1.0;
    rotation = reading_near rotation_end points.rotation r.rotation.position s.rotation rd.rotation axes.rotation i.within.2 shows.rotation senses.rotation.1.0;
  }

  drive : (b : Bool) (z : ModelState) (p : RobotProgress) (r : RobotPlant) (s : RobotSense) (rd : RobotReading) (act : RobotAct) → is_done p.step rd.retracted act ≡ b → (row_of p).call ≡ None → ReadsNear points r rd → Acts points p rd act → RobotInv z p r
      → RobotKnows (if b then after_done p else p) z → RobotInv z (if b then after_done p else p) (set_robot r act)
  drive true z p r s rd act b e near acts i knows =
      let off = done_when (turns p.step) rd.retracted act.arm1 act.arm2 act.rotation b in
      let leads = drives_lead p.step p e in
      let next = (row_of p).next.step in
      record {
        knows = knows;
        magnet1 = acts.magnet1;
        magnet2 = acts.magnet2;
        within = i.within;
        arm1 = comes_off (arm1_at p.step) (arm1_stop p.step) (arm1_at next) r.arm1 points.arm1.tol rd.arm1 act.arm1 leads.0 near.arm1 acts.arm1 off.1.0 i.arm1;
        arm2 = comes_off (arm2_at p.step) (arm2_stop p.step) (arm2_at next) r.arm2 points.arm2.tol rd.arm2 act.arm2 leads.1 near.arm2 acts.arm2 off.1.1 i.arm2;
        rotation = comes_off (rotation_at p.step) (rotation_stop p.step) (rotation_at next) r.rotation points.rotation.tol rd.rotation act.rotation leads.2 near.rotation
            (subst (λ x. DrivesTo x points.rotation.tol rd.rotation act.rotation) (turns_there p.step rd.retracted off.0) acts.rotation) off.1.2 i.rotation;
        turning = λ on. absurd (on off.1.2);
      }
  drive false z p r s rd act b e near acts i knows =
      let same = stays_magnets points p rd act acts p.step acts.arm1 acts.arm2 acts.rotation b in
      record {
        knows = knows;
        magnet1 = acts.magnet1 ∙ ap (λ m. m.arm1) same;
        magnet2 = acts.magnet2 ∙ ap (λ m. m.arm2) same;
        within = i.within;
        arm1 = still_there (arm1_at p.step) (arm1_stop p.step) r.arm1 points.arm1.tol rd.arm1 act.arm1 (arm1_still p.step) acts.arm1 i.arm1;
        arm2 = still_there (arm2_at p.step) (arm2_stop p.step) r.arm2 points.arm2.tol rd.arm2 act.arm2 (arm2_still p.step) acts.arm2 i.arm2;
        rotation = still_there (rotation_at p.step) (turns_to p.step rd.retracted) r.rotation points.rotation.tol rd.rotation act.rotation (rotation_still p.step rd.retracted) acts.rotation i.rotation;
        turning = told_turns points p rd act acts p.step acts.rotation;
      }

  pub robot-keeping : Keeping (robot_steps points (near_lines points)) (robot_rig points) RobotInv RobotInv
  robot-keeping = record {
    foreign = λ z p b n c apart sound i. assumption ((robot-knowing points (near_lines points)).foreign p z n c apart sound i.knows);
    rests = λ z p b i. at_rest z p p b i i.knows refl (there, there, there);
    after_done = λ z p b c e d sound i.
        at_rest (changed z Robot c) p (after_done p) b i ((robot-knowing points (near_lines points)).after_done p z c e d sound i.knows) (asks_magnets p.step p c e) (asks_lead p.step p c e);
    after_inquiry = λ z p b c o f q e d sound i.
        at_rest z p (record p { step = step_after_inquiry p.step o f q }) b i ((robot-knowing points (near_lines points)).after_inquiry p z c o f q e d sound i.knows) refl (inquiries_lead p.step o f q);
    after_drive = λ z p b s rd act e shows senses acts i.
        drive (is_done p.step rd.retracted act) z p b s rd act refl e (reads_near z p b s rd shows senses i) acts i ((robot-knowing points (near_lines points)).after_drive p rd act z e acts i.knows);
    told = λ z p b i. i;
    moves = λ z p b i. search (arith, ints, moved_within, stands_moved);
  }

-- An arm that is out, or driven, is where it may be: the robot holds that zone, open for it.
not_out : (a : Axis) → StandsAt (Some RETRACTED) a → ¬ IsOut a
not_out a k out = let at : a.position ≤ℤ pos 40 = k.0.1 in omega (arith, ints)

stands_in : (a : Axis) → StandsAt (Some RETRACTED) a → IsOut a ⊎ IsOn a → ⊥
stands_in a k (inl out) = not_out a k out
stands_in a k (inr on) = on k.1

arm1_has : (s : RobotStep) (z : ModelState) (r : RobotPlant) → AreSure Robot z (zones_at s) → StandsAt (arm1_at s) r.arm1 → StandsAt (rotation_at s) r.rotation → IsOut r.arm1 ⊎ IsOn r.arm1
    → (IsArm1AtTable r × HoldsIn OpenOut z Robot Z2) ⊎ (IsArm1InPress r × HoldsIn OpenIn z Robot Z3)
arm1_has ReachTable z r k arm at out = search (inl, arith, ints)
arm1_has GripPlate z r k arm at out = search (inl, arith, ints)
arm1_has LeaveTable z r k arm at out = search (inl, arith, ints)
arm1_has ReachToLoad z r k arm at out = search (inr, arith, ints)
arm1_has DropInPress z r k arm at out = search (inr, arith, ints)
arm1_has LeaveLoaded z r k arm at out = search (inr, arith, ints)
arm1_has s z r k arm at out = absurd (stands_in r.arm1 arm out)

arm2_has : (s : RobotStep) (z : ModelState) (r : RobotPlant) → AreSure Robot z (zones_at s) → StandsAt (arm2_at s) r.arm2 → StandsAt (rotation_at s) r.rotation → IsOut r.arm2 ⊎ IsOn r.arm2
    → (IsArm2InPress r × HoldsIn OpenOut z Robot Z3) ⊎ (IsArm2AtDeposit r × HoldsIn OpenIn z Robot Z4)
arm2_has ReachToUnload z r k arm at out = search (inl, arith, ints)
arm2_has GripForged z r k arm at out = search (inl, arith, ints)
arm2_has LeaveUnloaded z r k arm at out = search (inl, arith, ints)
arm2_has ReachDeposit z r k arm at out = search (inr, arith, ints)
arm2_has DropOnDeposit z r k arm at out = search (inr, arith, ints)
arm2_has LeaveDeposit z r k arm at out = search (inr, arith, ints)
arm2_has s z r k arm at out = absurd (stands_in r.arm2 arm out)

-- it rotates only with both arms in
turns_in : (s : RobotStep) → turns s ≡ true → (arm1_at s ≡ Some RETRACTED) × (arm2_at s ≡ Some RETRACTED)
turns_in TurnToTable e = (refl, refl)
turns_in s e = first_of (assumption, cc)

module _ (z : ModelState) (p : RobotProgress) (r : RobotPlant) (i : RobotInv z p r) where
  pub arm1-has : IsOut r.arm1 ⊎ IsOn r.arm1 → (IsArm1AtTable r × HoldsIn OpenOut z Robot Z2) ⊎ (IsArm1InPress r × HoldsIn OpenIn z Robot Z3)
  arm1-has out = arm1_has p.step z r i.knows i.arm1 i.rotation out

  pub arm2-has : IsOut r.arm2 ⊎ IsOn r.arm2 → (IsArm2InPress r × HoldsIn OpenOut z Robot Z3) ⊎ (IsArm2AtDeposit r × HoldsIn OpenIn z Robot Z4)
  arm2-has out = arm2_has p.step z r i.knows i.arm2 i.rotation out

  pub rotates-retracted : RotatesRetracted r
  rotates-retracted = record {
    arm1 = λ on. not_out r.arm1 (subst (λ x. StandsAt x r.arm1) (turns_in p.step (i.turning on)).0 i.arm1);
    arm2 = λ on. not_out r.arm2 (subst (λ x. StandsAt x r.arm2) (turns_in p.step (i.turning on)).1 i.arm2);
  }

-- No turn drives it on past an end.
abbrev DrivesOut : RobotPlant → Type 0
DrivesOut r = DrivesPast arm_end r.arm1 ⊎ (DrivesPast arm_end r.arm2 ⊎ DrivesPast rotation_end r.rotation)

rest_stays : (r : RobotPlant) (p : RobotProgress) → ¬ DrivesOut (set_robot r (robot_rest p))
rest_stays r p (inl past) = off_within arm_end (set_axis r.arm1 Off) refl past
rest_stays r p (inr (inl past)) = off_within arm_end (set_axis r.arm2 Off) refl past
rest_stays r p (inr (inr past)) = off_within rotation_end (set_axis r.rotation Off) refl past

arm1_stops : (s : RobotStep) → StopsWithin arm_end (arm1_stop s)
arm1_stops ReachTable = omega (arith, ints)
arm1_stops _ = omega (arith, ints)

arm2_stops : (s : RobotStep) → StopsWithin arm_end (arm2_stop s)
arm2_stops ReachToUnload = omega (arith, ints)
arm2_stops _ = omega (arith, ints)

rotation_stops : (s : RobotStep) → StopsWithin rotation_end (rotation_stop s)
rotation_stops TurnToTable = omega (arith, ints)
rotation_stops _ = omega (arith, ints)

turn_stops : (s : RobotStep) (b : Bool) → StopsWithin rotation_end (turns_to s b)
turn_stops s true = rotation_stops s
turn_stops s false = tt

-- A magnet drops its plate only where it may.
abbrev LetsGoThere : RobotPlant → RobotAct → Type 0
LetsGoThere r act = (LetsGo r.magnet1 act.magnet1 → Arm1MayLetGo (set_robot r act)) × (LetsGo r.magnet2 act.magnet2 → Arm2MayLetGo (set_robot r act))

first_goes : (s : RobotStep) (p : RobotProgress) (r : RobotPlant) (act : RobotAct) → r.magnet1 ≡ p.magnets.arm1 → act.magnet1 ≡ (row_at s p).next.magnets.arm1 → StandsAt (arm1_at s) r.arm1 → StandsAt (rotation_at s) r.rotation → LetsGo r.magnet1 act.magnet1 → Arm1MayLetGo (set_robot r act)
first_goes GripPlate p r act was is arm at go = let off = go.1 in cc
first_goes DropInPress p r act was is arm at go = (at.0, arm.0)
first_goes s p r act was is arm at go = absurd (still_on act.magnet1 r.magnet1 (is ∙ sym was) go)

second_goes : (s : RobotStep) (p : RobotProgress) (r : RobotPlant) (act : RobotAct) → r.magnet2 ≡ p.magnets.arm2 → act.magnet2 ≡ (row_at s p).next.magnets.arm2 → StandsAt (arm2_at s) r.arm2 → StandsAt (rotation_at s) r.rotation → LetsGo r.magnet2 act.magnet2 → Arm2MayLetGo (set_robot r act)
second_goes GripForged p r act was is arm at go = let off = go.1 in cc
second_goes DropOnDeposit p r act was is arm at go = (at.0, arm.0)
second_goes s p r act was is arm at go = absurd (still_on act.magnet2 r.magnet2 (is ∙ sym was) go)

module _ (points : RobotScales) (axes : AreRobotScales points) (z : ModelState) (p : RobotProgress) (r : RobotPlant) (i : RobotInv z p r) (s : RobotSense) (shows : RobotShows points r s) where
  acts_within : (rd : RobotReading) (act : RobotAct) → Senses points (near_lines points) s (Ok rd) → Acts points p rd act → ¬ DrivesOut (set_robot r act)
  acts_within rd act senses acts (inl past) = driven_within arm_end points.arm1 r.arm1 (arm1_stop p.step) rd.arm1 act.arm1 axes.arm1 (reads_near points axes z p r s rd shows senses i).arm1 (arm1_stops p.step) acts.arm1 past
  acts_within rd act senses acts (inr (inl past)) = driven_within arm_end points.arm2 r.arm2 (arm2_stop p.step) rd.arm2 act.arm2 axes.arm2 (reads_near points axes z p r s rd shows senses i).arm2 (arm2_stops p.step) acts.arm2 past
  acts_within rd act senses acts (inr (inr past)) =
      driven_within rotation_end points.rotation r.rotation (turns_to p.step rd.retracted) rd.rotation act.rotation axes.rotation (reads_near points axes z p r s rd shows senses i).rotation (turn_stops p.step rd.retracted) acts.rotation past

  -- so in no turn is an axis driven on past an end, and no turn drops a plate
  pub robot-ends : (same : Type 0) (asks : Call → Result Reply LineFault → Type 0) (stopped : Option CtlFault) (w : Turned RobotProgress RobotAct) → Turns (robot_steps points (near_lines points)) same asks stopped p s w
      → ¬ DrivesOut (set_robot r (act_or_rest (robot_rest p) w.result))
  robot-ends same asks stopped w k = turn_tells (robot_steps points (near_lines points)) same asks p s (λ act. ¬ DrivesOut (set_robot r act)) (rest_stays r p) (λ rd act e senses acts. acts_within rd act senses acts) stopped w k

  pub robot-lets-go : (same : Type 0) (asks : Call → Result Reply LineFault → Type 0) (stopped : Option CtlFault) (w : Turned RobotProgress RobotAct) → Turns (robot_steps points (near_lines points)) same asks stopped p s w
      → LetsGoThere r (act_or_rest (robot_rest p) w.result)
  robot-lets-go same asks stopped w k =
      turn_tells (robot_steps points (near_lines points)) same asks p s (λ act. LetsGoThere r act)
      (λ go. absurd (still_on p.magnets.arm1 r.magnet1 (sym i.magnet1) go), λ go. absurd (still_on p.magnets.arm2 r.magnet2 (sym i.magnet2) go))
      (λ rd act e senses acts. (first_goes p.step p r act i.magnet1 acts.magnet1 i.arm1 i.rotation, second_goes p.step p r act i.magnet2 acts.magnet2 i.arm2 i.rotation)) stopped w k
