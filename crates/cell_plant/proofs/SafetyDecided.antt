-- Decides by computing whether a state, a step and a run are safe.
use Rattle.cell_plant.proofs.Names.{ℕ, ◌+◌, ℤ, pos, ◌+ℤ◌, ◌-ℤ◌, Bool, ◌⊎◌, List, [], ◌∷◌, is_some, Machine, Feed, Table, Robot, Press, Deposit, Crane, Watch, Zone, Z1, Z2, Z3, Z4, Z5, Z6, FeedEnd, DepEnd, Posture, Moving, OpenIn, OpenOut, retracted_to, ROTATION_ARM1_PRESS, ROTATION_ARM2_DEPOSIT, ARM1_PRESS, ARM2_DEPOSIT, GRIPPER_FEED, ModelState, is_full, owns, posture_at, press_end, arm_end, rotation_end, lift_end, turn_end, crane_end}
use Rattle.cell_plant.proofs.Names.{gripper_end, Span, IsIn, IsWithin, IsOn, IsOut, IsGripperDown, IsOverDeposit, IsOverFeed, RestsAtMiddle, RestsAtBottom, TableMoves, LetsGo, PlateFalls, DrivesPast, DrivesPastEnd, NothingCollides, NothingCollidesWhenSet, arm1_at_table, arm2_in_press, arm1_in_press, arm2_at_deposit, over_deposit_to, over_feed_from, loads_to, GripperErrand, ForTravel, AtDeposit, AtFeed, ErrandDemands, MotorDemands}
use Rattle.cell_plant.proofs.Names.{StaysWithin, HoldsIn, RestsAtLoading, PositionDemands, at, Axis, TablePlant, CranePlant, PlantState, IsAt, Arm1HasTable, Arm1HasPress, Arm2HasPress, Arm2HasDeposit, press_middle, press_bottom_to, table_bottom_to, crane_feed_from, CellState, plant_of, errand_of, Step, IsSafeState, IsSafelySet, IsSafeRun, IsClear, IsWithinEnds, HasPositions, HasMotors, OnlyCollides, OnlyPastEnd, OnlyPositionUnmet}
use Rattle.cell_plant.proofs.Names.{OnlyMotorUnmet, StandsWithin, OnlySetIsUnsafe, OnlyStepIsUnsafe, cell_with, before_first}
use Rattle.cell_devices.specs.Names.{travel_from}
use Rattle.cell_devices.specs.declared.stops.Stop.{Stop}
use Rattle.cell_plant.proofs.Deciding.{surely, like, both, all_three, either, denied, given, same_truth, at_most, less, is_true, is_false, equals, in_posture, is_off, is_plus, is_minus}

-- ---- one state

abbrev is_in : (s : Span) (p : ℤ) → Dec (IsIn s p)
is_in s p = both (at_most s.first p) (at_most p s.last)

abbrev is_on : (a : Axis) → Dec (IsOn a)
is_on a = denied (is_off a.motor)

abbrev is_out : (arm : Axis) → Dec (IsOut arm)
is_out arm = less retracted_to arm.position

abbrev gripper_is_down : (c : CranePlant) → Dec (IsGripperDown c)
gripper_is_down c = less c.gripper.position travel_from

abbrev over_deposit : (c : CranePlant) → Dec (IsOverDeposit c)
over_deposit c = at_most c.travel.position over_deposit_to

abbrev over_feed : (c : CranePlant) → Dec (IsOverFeed c)
over_feed c = at_most over_feed_from c.travel.position

abbrev at_middle : (a : Axis) → Dec (RestsAtMiddle a)
at_middle a = both (is_off a.motor) (is_in press_middle a.position)

abbrev at_bottom : (a : Axis) → Dec (RestsAtBottom a)
at_bottom a = both (is_off a.motor) (at_most a.position press_bottom_to)

abbrev table_moves : (t : TablePlant) → Dec (TableMoves t)
table_moves t = either (is_on t.lift) (is_on t.turn)

abbrev nothing_collides : (p : PlantState) → Dec (NothingCollides p)
nothing_collides p =
    let r = p.robot in
    let c = p.crane in
    like (λ k. record { arm_and_press = k.0; table_and_arm = k.1.0; deposit_belt = k.1.1.0; feed_belt = k.1.1.1.0; crane = k.1.1.1.1.0; robot = k.1.1.1.1.1.0; plate_and_table = k.1.1.1.1.1.1 })
    (λ n. (n.arm_and_press, (n.table_and_arm, (n.deposit_belt, (n.feed_belt, (n.crane, (n.robot, n.plate_and_table)))))))
    (both (denied (either (all_three (is_out r.arm1) (is_in arm1_in_press r.rotation.position) (denied (at_middle p.press))) (all_three (is_out r.arm2) (is_in arm2_in_press r.rotation.position) (denied (at_bottom p.press)))))
    (both (denied (all_three (table_moves p.table) (is_out r.arm1) (is_in arm1_at_table r.rotation.position)))
    (both (denied (both (is_true p.deposit.runs) (either (both (is_out r.arm2) (is_in arm2_at_deposit r.rotation.position)) (either (both (gripper_is_down c) (over_deposit c)) (is_true (is_some p.deposit.last))))))
    (both (denied (all_three (is_true p.feed.runs) (gripper_is_down c) (over_feed c)))
    (both (denied (both (is_on c.travel) (gripper_is_down c)))
    (both (denied (both (is_on r.rotation) (either (is_out r.arm1) (is_out r.arm2))))
    (denied (all_three (is_true p.feed.runs) (is_true (is_some p.feed.last)) (either (table_moves p.table) (either (denied (at_most p.table.lift.position table_bottom_to)) (less loads_to p.table.turn.position)))))))))))

abbrev is_within : (end p : ℤ) → Dec (IsWithin end p)
is_within end p = like (λ k. record { first = k.0; last = k.1 }) (λ w. (w.first, w.last)) (is_in (record { first = pos 0; last = end }) p)

abbrev within_ends : (p : PlantState) → Dec (StaysWithin p)
within_ends p =
    like (λ k. record { press = k.0; arm1 = k.1.0; arm2 = k.1.1.0; rotation = k.1.1.1.0; lift = k.1.1.1.1.0; turn = k.1.1.1.1.1.0; travel = k.1.1.1.1.1.1.0; gripper = k.1.1.1.1.1.1.1 })
    (λ w. (w.press, (w.arm1, (w.arm2, (w.rotation, (w.lift, (w.turn, (w.travel, w.gripper))))))))
    (both (is_within press_end p.press.position)
    (both (is_within arm_end p.robot.arm1.position)
    (both (is_within arm_end p.robot.arm2.position)
    (both (is_within rotation_end p.robot.rotation.position)
    (both (is_within lift_end p.table.lift.position)
    (both (is_within turn_end p.table.turn.position)
    (both (is_within crane_end p.crane.travel.position)
    (is_within gripper_end p.crane.gripper.position))))))))

abbrev holds_in : (q : Posture) (s : ModelState) (m : Machine) (z : Zone) → Dec (HoldsIn q s m z)
holds_in q s m z = both (is_true (owns s m z)) (in_posture (posture_at s z) q)

abbrev arm1_may_be_out : (s : ModelState) (p : PlantState) → Dec (Arm1HasTable s p ⊎ Arm1HasPress s p)
arm1_may_be_out s p = either (both (is_in arm1_at_table p.robot.rotation.position) (holds_in OpenOut s Robot Z2)) (both (is_in arm1_in_press p.robot.rotation.position) (holds_in OpenIn s Robot Z3))

abbrev arm2_may_be_out : (s : ModelState) (p : PlantState) → Dec (Arm2HasPress s p ⊎ Arm2HasDeposit s p)
arm2_may_be_out s p = either (both (is_in arm2_in_press p.robot.rotation.position) (holds_in OpenOut s Robot Z3)) (both (is_in arm2_at_deposit p.robot.rotation.position) (holds_in OpenIn s Robot Z4))

abbrev rests_at_loading : (t : TablePlant) → Dec (RestsAtLoading t)
rests_at_loading t =
    like (λ k. record { lift_off = k.0.0; turn_off = k.0.1; bottom = k.1.0; turned = k.1.1 }) (λ r. ((r.lift_off, r.turn_off), (r.bottom, r.turned)))
    (both (both (is_off t.lift.motor) (is_off t.turn.motor)) (both (at_most t.lift.position table_bottom_to) (at_most t.turn.position loads_to)))

abbrev positions_have : (s : ModelState) (p : PlantState) → Dec (PositionDemands s p)
positions_have s p =
    like (λ k. record { arm1 = k.0; arm2 = k.1.0; press = k.1.1.0; table = k.1.1.1.0; gripper = k.1.1.1.1.0; plates = k.1.1.1.1.1 })
    (λ d. (d.arm1, (d.arm2, (d.press, (d.table, (d.gripper, d.plates))))))
    (both (given (is_out p.robot.arm1) (arm1_may_be_out s p))
    (both (given (is_out p.robot.arm2) (arm2_may_be_out s p))
    (both (both (given (in_posture (posture_at s Z3) OpenIn) (at_middle p.press)) (given (in_posture (posture_at s Z3) OpenOut) (at_bottom p.press)))
    (both (given (in_posture (posture_at s Z1) OpenIn) (rests_at_loading p.table))
    (both (given (gripper_is_down p.crane) (either (both (over_deposit p.crane) (holds_in OpenOut s Crane Z5)) (both (over_feed p.crane) (holds_in OpenIn s Crane Z6))))
    (both (same_truth (is_true (is_some p.feed.last)) (is_true (is_full s FeedEnd))) (same_truth (is_true (is_some p.deposit.last)) (is_true (is_full s DepEnd)))))))))

abbrev errand_has : (errand : GripperErrand) (s : ModelState) → Dec (ErrandDemands errand s)
errand_has ForTravel s = surely
errand_has AtDeposit s = holds_in OpenOut s Crane Z5
errand_has AtFeed s = holds_in OpenIn s Crane Z6

abbrev motors_have : (errand : GripperErrand) (s : ModelState) (p : PlantState) → Dec (MotorDemands errand s p)
motors_have errand s p =
    like (λ k. record { press = k.0; table = k.1.0; feed = k.1.1.0; deposit = k.1.1.1.0; arm1 = k.1.1.1.1.0; arm2 = k.1.1.1.1.1.0; gripper = k.1.1.1.1.1.1 })
    (λ d. (d.press, (d.table, (d.feed, (d.deposit, (d.arm1, (d.arm2, d.gripper)))))))
    (both (given (is_on p.press) (holds_in Moving s Press Z3))
    (both (given (table_moves p.table) (both (holds_in Moving s Table Z1) (holds_in Moving s Table Z2)))
    (both (given (is_true p.feed.runs) (both (holds_in Moving s Feed Z6) (given (is_true (is_full s FeedEnd)) (is_true (owns s Feed Z1)))))
    (both (given (is_true p.deposit.runs) (both (holds_in Moving s Deposit Z4) (holds_in Moving s Deposit Z5)))
    (both (given (is_on p.robot.arm1) (arm1_may_be_out s p))
    (both (given (is_on p.robot.arm2) (arm2_may_be_out s p))
    (given (is_on p.crane.gripper) (errand_has errand s))))))))

abbrev is_clear : (w : CellState) → Dec (IsClear w)
is_clear w = nothing_collides (plant_of w)

abbrev is_within_ends : (w : CellState) → Dec (IsWithinEnds w)
is_within_ends w = within_ends (plant_of w)

abbrev has_positions : (w : CellState) → Dec (HasPositions w)
has_positions w = positions_have w.interlock (plant_of w)

abbrev has_motors : (w : CellState) → Dec (HasMotors w)
has_motors w = motors_have (errand_of (w.side Crane).progress.step) w.interlock (plant_of w)

abbrev pub is_safe : (w : CellState) → Dec (IsSafeState w)
is_safe w =
    like (λ k. record {
      clear = k.0.0;
      within = k.0.1;
      positions = k.1.0;
      motors = k.1.1;
    })
    (λ s. ((s.clear, s.within), (s.positions, s.motors)))
    (both (both (is_clear w) (is_within_ends w)) (both (has_positions w) (has_motors w)))

abbrev pub only_collides : (w : CellState) → Dec (OnlyCollides w)
only_collides w =
    like (λ k. record { unsafe = k.0.0; within = k.0.1; positions = k.1.0; motors = k.1.1 }) (λ o. ((o.unsafe, o.within), (o.positions, o.motors)))
    (both (both (denied (is_safe w)) (is_within_ends w)) (both (has_positions w) (has_motors w)))

abbrev pub only_past_end : (w : CellState) → Dec (OnlyPastEnd w)
only_past_end w =
    like (λ k. record { unsafe = k.0.0; clear = k.0.1; positions = k.1.0; motors = k.1.1 }) (λ o. ((o.unsafe, o.clear), (o.positions, o.motors)))
    (both (both (denied (is_safe w)) (is_clear w)) (both (has_positions w) (has_motors w)))

abbrev pub only_position_unmet : (w : CellState) → Dec (OnlyPositionUnmet w)
only_position_unmet w =
    like (λ k. record { unsafe = k.0.0; clear = k.0.1; within = k.1.0; motors = k.1.1 }) (λ o. ((o.unsafe, o.clear), (o.within, o.motors)))
    (both (both (denied (is_safe w)) (is_clear w)) (both (is_within_ends w) (has_motors w)))

abbrev pub only_motor_unmet : (w : CellState) → Dec (OnlyMotorUnmet w)
only_motor_unmet w =
    like (λ k. record { unsafe = k.0.0; clear = k.0.1; within = k.1.0; positions = k.1.1 }) (λ o. ((o.unsafe, o.clear), (o.within, o.positions)))
    (both (both (denied (is_safe w)) (is_clear w)) (both (is_within_ends w) (has_positions w)))

abbrev pub stands_within : (s : ModelState) (with_axis : Axis → PlantState) (end : ℕ) → Dec (StandsWithin s with_axis end)
stands_within s with_axis end =
    like (λ k. record { first = k.0.0; last = k.0.1; further_back = k.1.0; further_on = k.1.1 }) (λ o. ((o.first, o.last), (o.further_back, o.further_on)))
    (both (both (is_safe (cell_with s (with_axis (at 0)))) (is_safe (cell_with s (with_axis (at end)))))
    (both (only_past_end (cell_with s (with_axis before_first))) (only_past_end (cell_with s (with_axis (at (end + 1)))))))

-- ---- one step

abbrev is_at : (stop : Stop) (a : Axis) → Dec (IsAt stop a)
is_at stop a = is_in (record { first = stop.target -ℤ pos stop.half; last = stop.target +ℤ pos stop.half }) a.position

abbrev lets_go : (before now : Bool) → Dec (LetsGo before now)
lets_go before now = both (is_true before) (is_false now)

abbrev plate_falls : (before p : PlantState) → Dec (PlateFalls before p)
plate_falls before p =
    let r = p.robot in
    let c = p.crane in
    either (both (lets_go before.robot.magnet1 r.magnet1) (denied (both (is_at ROTATION_ARM1_PRESS r.rotation) (is_at ARM1_PRESS r.arm1))))
    (either (both (lets_go before.robot.magnet2 r.magnet2) (denied (both (is_at ROTATION_ARM2_DEPOSIT r.rotation) (is_at ARM2_DEPOSIT r.arm2))))
    (both (lets_go before.crane.magnet c.magnet) (denied (both (at_most crane_feed_from c.travel.position) (is_at GRIPPER_FEED c.gripper)))))

abbrev drives_past : (end : ℤ) (a : Axis) → Dec (DrivesPast end a)
drives_past end a = either (both (equals a.position (pos 0)) (is_minus a.motor)) (both (equals a.position end) (is_plus a.motor))

abbrev drives_past_end : (m : Machine) (p : PlantState) → Dec (DrivesPastEnd m p)
drives_past_end Table p = either (drives_past lift_end p.table.lift) (drives_past turn_end p.table.turn)
drives_past_end Robot p = either (drives_past arm_end p.robot.arm1) (either (drives_past arm_end p.robot.arm2) (drives_past rotation_end p.robot.rotation))
drives_past_end Press p = drives_past press_end p.press
drives_past_end Crane p = either (drives_past crane_end p.crane.travel) (drives_past gripper_end p.crane.gripper)
drives_past_end _ p = no (λ k. k)

abbrev nothing_collides_when_set : (m : Machine) (before p : PlantState) → Dec (NothingCollidesWhenSet m before p)
nothing_collides_when_set m before p =
    like (λ k. record { plain = k.0; magnets = k.1.0; ends = k.1.1 }) (λ n. (n.plain, (n.magnets, n.ends)))
    (both (nothing_collides p) (both (denied (plate_falls before p)) (denied (drives_past_end m p))))

abbrev pub is_safely_set : (w : CellState) (s : Step) → Dec (IsSafelySet w s)
is_safely_set w s =
    like (λ k. record {
      clear = k.0;
      state = k.1;
    })
    (λ k. (k.clear, k.state))
    (both (given (is_true s.taken) (nothing_collides_when_set s.machine (plant_of w) (plant_of s.set))) (is_safe s.set))

abbrev pub only_set_is_unsafe : (w : CellState) (s : Step) → Dec (OnlySetIsUnsafe w s)
only_set_is_unsafe w s =
    like (λ k. record { before = k.0; unsafe = k.1.0; moved = k.1.1 }) (λ o. (o.before, (o.unsafe, o.moved)))
    (both (is_safe w) (both (denied (is_safely_set w s)) (is_safe s.moved)))

abbrev pub only_step_is_unsafe : (w : CellState) (s : Step) → Dec (OnlyStepIsUnsafe w s)
only_step_is_unsafe w s =
    like (λ k. record { before = k.0.0; unsafe = k.0.1; set = k.1.0; moved = k.1.1 }) (λ o. ((o.before, o.unsafe), (o.set, o.moved)))
    (both (both (is_safe w) (denied (is_safely_set w s))) (both (is_safe s.set) (is_safe s.moved)))

-- ---- a run

abbrev pub is_safe_run : (w : CellState) (steps : List Step) → Dec (IsSafeRun w steps)
is_safe_run w [] = is_safe w
is_safe_run w (s ∷ ss) = both (is_safe w) (both (is_safely_set w s) (is_safe_run s.moved ss))
