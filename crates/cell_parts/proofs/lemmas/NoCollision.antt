-- In one state of interlock and plant nothing collides, and machines keep apart.
use Rattle.std.proofs.Common.{◌≡◌, ◌≢◌, ◌<ℤ◌, Bool, true, false, ◌⊎◌, inl, inr, IsTrue, refl, arith}
use Rattle.std.proofs.lemmas.Int.{ints}
use Rattle.std.proofs.lemmas.Bool.{false_from_ne_true}
use Rattle.cell_rules.specs.Types.{Machine, Feed, Table, Robot, Press, Deposit, Crane, Zone, Z1, Z2, Z3, Z4, Z5, Z6, Posture, Closed, Moving, OpenIn, OpenOut, host_of}
use Rattle.cell_devices.specs.declared.motor.Motor.{Motor}
use Rattle.cell_devices.specs.declared.motor.Motor.TheVariants.{Off}
use Rattle.cell_rules.specs.Names.{ModelState, IsSound, is_open, is_of_some_pose, owns, owner_of, posture_at, RunsClear}
use Rattle.cell_rules.proofs.lemmas.Tables.{implied}
use Rattle.cell_rules.proofs.lemmas.Holders.{owner_is}
use Rattle.cell_parts.specs.Names.{loads_to, IsOn, TableMoves, IsOut, RestsAtLoading, PositionDemands, GripperErrand, AtDeposit, AtFeed, ErrandDemands, MotorDemands, RotatesRetracted, Rests}
use Rattle.cell_parts.specs.declared.plant.RobotPlant.{RobotPlant}
use Rattle.cell_parts.specs.declared.plant.PlantState.{PlantState}
use Rattle.cell_parts.specs.Shows.{IsTableBottom}
use Rattle.cell_parts.specs.Collisions.{ArmHitsPress, TableHitsArm, DepositBeltPulls, FeedBeltPulls, PlateMissesTable}
use Rattle.cell_parts.specs.PositionDemands.{EndPlatesStand}
use Rattle.cell_parts.specs.MotorDemands.{CraneDrivesIn, DrivesIn}
use Rattle.cell_parts.specs.Laws.{DemandsPreventCollisions, MotorDemandsKeepApart}

-- of two alternatives one is ruled out by the place
at_first : {A B C D : Type 0} → (A × B) ⊎ (C × D) → ¬ C → B
at_first (inl h) apart = h.1
at_first (inr h) apart = absurd (apart h.0)

at_second : {A B C D : Type 0} → (A × B) ⊎ (C × D) → ¬ A → D
at_second (inl h) apart = absurd (apart h.0)
at_second (inr h) apart = h.1

-- a moving zone isn't open
moving_or_in : (q : Posture) → q ≡ Moving → q ≡ OpenIn → ⊥
moving_or_in q moves e = cc

moving_or_out : (q : Posture) → q ≡ Moving → q ≡ OpenOut → ⊥
moving_or_out q moves e = cc

moving_or_open : (q : Posture) → is_open q ≡ true → q ≡ Moving → ⊥
moving_or_open q o moves = cc

-- z1 has no posture OpenOut
only_in : (q : Posture) → is_open q ≡ true → is_of_some_pose Z1 q ≡ true → q ≡ OpenIn
only_in OpenIn o posed = refl
only_in OpenOut o posed = cc
only_in Closed o posed = cc
only_in Moving o posed = cc

full_and_empty : (b : Bool) → b ≡ true → b ≡ false → ⊥
full_and_empty b e f = cc

-- ---- the place of a part that is out, and what its machine holds there

module _ (s : ModelState) (p : PlantState) (k : PositionDemands s p) where
  -- an arm is in the press only while the press rests
  no_arm_hits_press : ¬ ArmHitsPress p
  no_arm_hits_press (inl h) = h.2 (k.press.0 (at_second (k.arm1 h.0) (λ there. omega (arith, ints))).1)
  no_arm_hits_press (inr h) = h.2 (k.press.1 (at_first (k.arm2 h.0) (λ there. omega (arith, ints))).1)

  module _ (errand : GripperErrand) (motors : MotorDemands errand s p) where
    -- z2 moves, or is open for the arm
    no_table_hits_arm : ¬ TableHitsArm p
    no_table_hits_arm h = moving_or_out (posture_at s Z2) (motors.table h.0).1.1 (at_first (k.arm1 h.1) (λ there. omega (arith, ints))).1

    -- z4 moves, or is open for the arm; z5 moves, or is open for the gripper; and while z5 moves the end is empty
    no_deposit_belt_pulls : RunsClear s → ¬ DepositBeltPulls p
    no_deposit_belt_pulls clear (runs, inl h) = moving_or_in (posture_at s Z4) (motors.deposit runs).0.1 (at_second (k.arm2 h.0) (λ there. omega (arith, ints))).1
    no_deposit_belt_pulls clear (runs, inr (inl h)) = moving_or_out (posture_at s Z5) (motors.deposit runs).1.1 (at_first (k.gripper h.0) (λ there. omega (arith, ints))).1
    no_deposit_belt_pulls clear (runs, inr (inr plate)) = full_and_empty _ (k.plates.1.0 plate) (clear.end (motors.deposit runs).1.1)

    -- z6 moves, or is open for the gripper
    no_feed_belt_pulls : ¬ FeedBeltPulls p
    no_feed_belt_pulls h = moving_or_in (posture_at s Z6) (motors.feed h.0).0.1 (at_second (k.gripper h.1) (λ there. omega (arith, ints))).1

    -- feed holds z1 as its guest, so z1 is open inward, and the table is ready to load
    table_is_ready : IsSound s → IsTrue (owns s Feed Z1) → RestsAtLoading p.table
    table_is_ready sound held =
        let o = implied (owns s Feed Z1) (is_open (posture_at s Z1)) (sound.guest_only_while_open Z1) held in
        k.table (only_in (posture_at s Z1) o (sound.posture_of_some_pose Z1))

    misses_no_ready_table : RestsAtLoading p.table → ¬ (TableMoves p.table ⊎ ((¬ IsTableBottom p.table.lift.position) ⊎ (loads_to <ℤ p.table.turn.position)))
    misses_no_ready_table r (inl (inl lift)) = lift r.lift_off
    misses_no_ready_table r (inl (inr turn)) = turn r.turn_off
    misses_no_ready_table r (inr (inl low)) = low r.bottom
    misses_no_ready_table r (inr (inr turned)) = let loading = r.turned in omega (arith, ints)

    no_plate_misses_table : IsSound s → RunsClear s → ¬ PlateMissesTable p
    no_plate_misses_table sound clear h = misses_no_ready_table (table_is_ready sound (clear.feed (motors.feed h.0).0.1 (k.plates.0.0 h.1))) h.2

no_arm_turns : (r : RobotPlant) → RotatesRetracted r → IsOn r.rotation → ¬ (IsOut r.arm1 ⊎ IsOut r.arm2)
no_arm_turns r k on (inl out) = k.arm1 on out
no_arm_turns r k on (inr out) = k.arm2 on out

pub nothing_collides : DemandsPreventCollisions
nothing_collides errand s p k = record {
  arm_and_press = no_arm_hits_press s p k.positions;
  table_and_arm = no_table_hits_arm s p k.positions errand k.motors;
  deposit_belt = no_deposit_belt_pulls s p k.positions errand k.motors k.clear;
  feed_belt = no_feed_belt_pulls s p k.positions errand k.motors;
  crane = λ h. k.travel h.0 h.1;
  robot = λ h. no_arm_turns p.robot k.rotation h.0 h.1;
  plate_and_table = no_plate_misses_table s p k.positions errand k.motors k.sound k.clear;
}

-- ---- machines keep apart

off_unless_on : (m : Motor) → ¬ (m ≢ Off) → m ≡ Off
off_unless_on Off k = refl
off_unless_on m k = absurd (k (λ e. cc))

module _ (errand : GripperErrand) (s : ModelState) (p : PlantState) (belts : EndPlatesStand s p) (k : MotorDemands errand s p) where
  table_rests : (z : Zone) → (TableMoves p.table → posture_at s z ≡ Moving) → is_open (posture_at s z) ≡ true → Rests p Table
  table_rests z moves o = (
    off_unless_on p.table.lift.motor (λ on. moving_or_open (posture_at s z) o (moves (inl on))),
    off_unless_on p.table.turn.motor (λ on. moving_or_open (posture_at s z) o (moves (inr on))),
  )

  rests : (z : Zone) → IsTrue (is_open (posture_at s z)) → Rests p (host_of z)
  rests Z1 o = table_rests Z1 (λ on. (k.table on).0.1) o
  rests Z2 o = table_rests Z2 (λ on. (k.table on).1.1) o
  rests Z3 o = off_unless_on p.press.motor (λ on. moving_or_open (posture_at s Z3) o (k.press on).1)
  rests Z4 o = false_from_ne_true p.deposit.runs (λ runs. moving_or_open (posture_at s Z4) o (k.deposit runs).0.1)
  rests Z5 o = false_from_ne_true p.deposit.runs (λ runs. moving_or_open (posture_at s Z5) o (k.deposit runs).1.1)
  rests Z6 o = false_from_ne_true p.feed.runs (λ runs. moving_or_open (posture_at s Z6) o (k.feed runs).0.1)

  -- a machine that drives in a zone holds it
  robot_holds : (z : Zone) → DrivesIn errand p Robot z → owns s Robot z ≡ true
  robot_holds Z2 d = (at_first (k.arm1 d.0) (λ there. omega (arith, ints))).0
  robot_holds Z3 (inl d) = (at_second (k.arm1 d.0) (λ there. omega (arith, ints))).0
  robot_holds Z3 (inr d) = (at_first (k.arm2 d.0) (λ there. omega (arith, ints))).0
  robot_holds Z4 d = (at_second (k.arm2 d.0) (λ there. omega (arith, ints))).0
  robot_holds z d = absurd d

  crane_holds : (e : GripperErrand) → (IsOn p.crane.gripper → ErrandDemands e s) → (z : Zone) → CraneDrivesIn e p.crane z → owns s Crane z ≡ true
  crane_holds AtDeposit demands Z5 d = (demands d).0
  crane_holds AtFeed demands Z6 d = (demands d).0
  crane_holds e demands z d = absurd d

  holds : (m : Machine) (z : Zone) → DrivesIn errand p m z → owns s m z ≡ true
  holds Press Z3 d = (k.press d).0
  holds Table Z1 d = (k.table d).0.0
  holds Table Z2 d = (k.table d).1.0
  holds Feed Z6 d = (k.feed d).0.0
  holds Feed Z1 d = (k.feed d.0).1 (belts.0.0 d.1)
  holds Deposit Z4 d = (k.deposit d).0.0
  holds Deposit Z5 d = (k.deposit d).1.0
  holds Robot z d = robot_holds z d
  holds Crane z d = crane_holds errand k.gripper z d
  holds m z d = absurd d

  one_drives : (m n : Machine) (z : Zone) → DrivesIn errand p m z → DrivesIn errand p n z → m ≡ n
  one_drives m n z a b = let one = owner_is (owner_of s z) m (holds m z a) in let other = owner_is (owner_of s z) n (holds n z b) in cc

pub keep_apart : MotorDemandsKeepApart
keep_apart errand s p belts k = record {
  host_rests = rests errand s p belts k;
  driver_holds = holds errand s p belts k;
  one_drives = one_drives errand s p belts k;
}
