-- For each wrong row a history from a start in which it is refused.
use Rattle.cell_team.proofs.Names.{◌≡◌, ◌≤◌, pos, ◌≤ℤ◌, ◌-ℤ◌, Bool, true, false, ◌&&◌, inl, List, [], ◌∷◌, Some, None, refl, arith, suc, Machine, Z1, Z2, Z3, Z4, Z5, Z6, Closed, OpenOut, Turning, Loading, Travelling, Middle, Low, Landing, Running, Offering, Unloading, Call, Claim, Give, Take, Release, SetPose, Inquire, Held, AlreadyMine, Shut, NotOwner, PlateInZone, NoPlate, PlaceFull, Done, Shown, Event, ModelState, size_of, PlaceSet, empty, insert_place, has, event, IsStartState, start_state}
use Rattle.cell_team.proofs.Names.{Program, Reached, Off, Steps, CraneProgress, CraneStep, DepositProgress, DepositStep, FeedProgress, FeedStep, RobotProgress, RobotStep, PressProgress, PressStep, TableProgress, TableStep, Programs, Team, scales, program_with_stops, NoneIsRefused}
use Rattle.std.specs.Int.Signed.{le_z_yes}
use Rattle.std.proofs.lemmas.Int.{ints}
use Rattle.cell_types.specs.declared.machine.Machine.TheVariants as machine
use Rattle.cell_types.specs.declared.place.Place.TheVariants as place
use Rattle.cell_devices.specs.Names.{StopsAt}
use Rattle.cell_devices.specs.declared.stops.Stop.{Stop}
use Rattle.cell_devices.specs.declared.stops.TheConstants.{TURN_LOADING, TURN_UNLOADING, ROTATION_ARM1_PRESS, ROTATION_ARM2_DEPOSIT, GRIPPER_TRAVEL, GRIPPER_DEPOSIT}
use Rattle.cell_devices.specs.declared.motor.Direction.TheVariants.{Minus as Downward}
use Rattle.cell_devices.proofs.lemmas.DriveLemmas.{stops_there}
use Rattle.cell_belts_crane.specs.declared.crane.CraneStep.TheVariants as crane_step
use Rattle.cell_belts_crane.specs.declared.deposit.DepositStep.TheVariants as deposit_step
use Rattle.cell_belts_crane.specs.declared.feed.FeedStep.TheVariants as feed_step
use Rattle.cell_robot.specs.declared.robot.RobotStep.TheVariants as robot_step
use Rattle.cell_table_press.specs.declared.press.PressStep.TheVariants as press_step
use Rattle.cell_table_press.specs.declared.table.TableStep.TheVariants as table_step
use Rattle.cell_team.specs.WrongPrograms as wrong
use Rattle.cell_team.specs.WrongPrograms.{by_feed, by_table, by_robot, by_press, by_deposit, by_crane, RightRows, WrongProgramsAreRefused, WrongRowsAre}
use Rattle.cell_team.proofs.lemmas.NextCalls.{only_worn}
use Rattle.cell_team.proofs.lemmas.Together.{none-refused}

-- a start with these plates, and the machines there
starts : (full : PlaceSet) → size_of full ≤ 6 → (has full place.PressIn && has full place.PressOut) ≡ false → IsStartState (start_state full 0)
starts full few one = record { start = record { six_plates_at_most = few; one_in_press_at_most = one; stamp_in_range = omega arith }; same = refl }

abbrev team_at : Programs → ModelState → Team
team_at t o = record { feed = t.feed.start o; table = t.table.start o; robot = t.robot.start o; press = t.press.start o; deposit = t.deposit.start o; crane = t.crane.start o }

-- calls of one machine, all of them done
abbrev done_by : Machine → List Call → List Event
done_by m [] = []
done_by m (c ∷ cs) = event m c Done ∷ done_by m cs

-- the turns of a machine's way: calls that are done, and turns that drive
data Way (Reading Act : Type 0) : Type 0 where
  Asks : Call → Way Reading Act
  Drives : Reading → Act → Way Reading Act

abbrev calls_in : {Reading Act : Type 0} → Machine → List (Way Reading Act) → List Event
calls_in m [] = []
calls_in m (Asks c ∷ turns) = event m c Done ∷ calls_in m turns
calls_in m (Drives reading act ∷ turns) = calls_in m turns

abbrev Follows : {S Sense Reading Act : Type 0} → Steps S Sense Reading Act → S → List (Way Reading Act) → S → Type 0
Follows t p [] q = p ≡ q
Follows t p (Asks c ∷ turns) q = ((t.row p).call ≡ Some c) × Follows t (t.row p).next turns q
Follows t p (Drives reading act ∷ turns) q = ((t.row p).call ≡ None) × (t.drives p reading act × Follows t (t.after_drive p reading act) turns q)

pub driven : {S : Type 0} (program : Program S) (p u q : S) (events : List Event) → program.moves p u → Reached program u events q → Reached program p events q
driven program p u q [] move k = (suc k.0, (u, move, k.1))
driven program p u q (e ∷ events) move k = (k.0, k.1, (suc k.2.0, (u, move, k.2.1)), k.3, k.4, k.5)

come : {S Sense Reading Act : Type 0} (t : Steps S Sense Reading Act) (p : S) (turns : List (Way Reading Act)) (q : S) → Follows t p turns q → Reached (program_with_stops t) p (calls_in t.machine turns) q
come t p [] q k = (0, k)
come t p (Asks c ∷ turns) q k = (p, (t.row p).next, (0, refl), k.0, inl refl, come t (t.row p).next turns q k.1)
come t p (Drives reading act ∷ turns) q k =
    driven (program_with_stops t) p (t.after_drive p reading act) q (calls_in t.machine turns) (record { asks_nothing = k.0; reading = reading; act = act; drives = k.1.0; is = refl })
    (come t (t.after_drive p reading act) turns q k.1.1)

-- a motor is off at its target
off : (stop : Stop) → pos 0 ≤ℤ (pos stop.half -ℤ pos 1) → StopsAt stop (pos 1) stop.target Off
off stop wide = stops_there stop (pos 1) stop.target (record { not_below = omega (arith, ints); not_above = omega (arith, ints) })

-- ---- the feed belt

abbrev feed_at : FeedStep → Bool → Bool → FeedProgress
feed_at step entry last = record { step = step; entry = entry; last = last }

takes_unreleased : ¬ NoneIsRefused (by_feed wrong.takes_unreleased)
takes_unreleased law =
    let t = by_feed wrong.takes_unreleased in
    let o = start_state empty 0 in
    let heeds =
    law o (done_by machine.Feed (Claim Z6 ∷ SetPose Landing ∷ [])) (record (team_at t o) { feed = feed_at feed_step.ReleaseEntry false false }) (starts _ (omega arith) refl) (refl, (refl, tt))
    (record {
      feed = come t.feed (t.feed.start o) (Asks (Claim Z6) ∷ Asks (SetPose Landing) ∷ []) (feed_at feed_step.ReleaseEntry false false) (refl, (refl, refl));
      table = (0, refl);
      robot = (0, refl);
      press = (0, refl);
      deposit = (0, refl);
      crane = (0, refl);
    }) in
    let lie : false ≡ true = heeds.feed (Take Z6) NoPlate refl refl in
    cc

runs_onto_plate : ¬ NoneIsRefused (by_feed wrong.runs_onto_plate)
runs_onto_plate law =
    let t = by_feed wrong.runs_onto_plate in
    let o = start_state (insert_place (insert_place empty place.FeedEntry) place.FeedEnd) 0 in
    let heeds =
    law o (done_by machine.Feed (Claim Z6 ∷ [])) (record (team_at t o) { feed = feed_at feed_step.ClaimExit true true }) (starts _ (omega arith) refl) (refl, tt)
    (record {
      feed = come t.feed (t.feed.start o) (Asks (Claim Z6) ∷ []) (feed_at feed_step.ClaimExit true true) (refl, refl);
      table = (0, refl);
      robot = (0, refl);
      press = (0, refl);
      deposit = (0, refl);
      crane = (0, refl);
    }) in
    let lie : false ≡ true = heeds.feed (SetPose Running) PlaceFull refl refl in
    cc

-- ---- the table

abbrev table_at : TableStep → TableProgress
table_at step = record { step = step; loaded = true }

gives_until_free : ¬ NoneIsRefused (by_table wrong.gives_until_free)
gives_until_free law =
    let t = by_table wrong.gives_until_free in
    let o = start_state (insert_place (insert_place empty place.Table) place.Arm1) 0 in
    let heeds =
    law o (done_by machine.Table (Claim Z1 ∷ Claim Z2 ∷ SetPose Turning ∷ SetPose Unloading ∷ [])) (record (team_at t o) { table = table_at table_step.GivePlate }) (starts _ (omega arith) refl) (refl, (refl, (refl, (refl, tt))))
    (record {
      feed = (0, refl);
      table = come t.table (t.table.start o) (Asks (Claim Z1) ∷ Asks (Claim Z2) ∷ Asks (SetPose Turning) ∷ Drives (record { sense = record { bottom = false; top = true; turn = 0 }; turn = pos 500 }) (record { height = Off; rotation = Off }) ∷ Asks (SetPose Unloading) ∷ []) (table_at table_step.GivePlate) (refl, (refl, (refl, (refl, (record { height = refl; rotation = off TURN_UNLOADING (le_z_yes tt) }, (refl, refl))))));
      robot = (0, refl);
      press = (0, refl);
      deposit = (0, refl);
      crane = (0, refl);
    }) in
    let lie : false ≡ true = heeds.table (Give Z2) PlaceFull refl refl in
    cc

loads_a_full_table : ¬ NoneIsRefused (by_table wrong.loads_a_full_table)
loads_a_full_table law =
    let t = by_table wrong.loads_a_full_table in
    let o = start_state (insert_place empty place.Table) 0 in
    let heeds =
    law o (done_by machine.Table (Claim Z1 ∷ Claim Z2 ∷ SetPose Turning ∷ [])) (record (team_at t o) { table = table_at table_step.PoseLoading }) (starts _ (omega arith) refl) (refl, (refl, (refl, tt)))
    (record {
      feed = (0, refl);
      table = come t.table (t.table.start o) (Asks (Claim Z1) ∷ Asks (Claim Z2) ∷ Asks (SetPose Turning) ∷ Drives (record { sense = record { bottom = true; top = false; turn = 0 }; turn = pos 0 }) (record { height = Off; rotation = Off }) ∷ []) (table_at table_step.PoseLoading) (refl, (refl, (refl, (refl, (record { height = refl; rotation = off TURN_LOADING (le_z_yes tt) }, refl)))));
      robot = (0, refl);
      press = (0, refl);
      deposit = (0, refl);
      crane = (0, refl);
    }) in
    let lie : false ≡ true = heeds.table (SetPose Loading) PlaceFull refl refl in
    cc

-- ---- the press

abbrev press_at : PressStep → Bool → PressProgress
press_at step forged = record { step = step; loaded = false; forged = forged; direction = Downward }

claims_back_at_once : ¬ NoneIsRefused (by_press wrong.claims_back_at_once)
claims_back_at_once law =
    let t = by_press wrong.claims_back_at_once in
    let o = start_state (insert_place empty place.PressOut) 0 in
    let heeds =
    law o (done_by machine.Press (Claim Z3 ∷ SetPose Travelling ∷ SetPose Low ∷ Give Z3 ∷ [])) (record (team_at t o) { press = press_at press_step.ClaimBack false }) (starts _ (omega arith) refl) (refl, (refl, (refl, (refl, tt))))
    (record {
      feed = (0, refl);
      table = (0, refl);
      robot = (0, refl);
      press = come t.press (t.press.start o) (Asks (Claim Z3) ∷ Asks (SetPose Travelling) ∷ Drives (record { bottom = true; middle = false; top = false }) (record { press = Off }) ∷ Asks (SetPose Low) ∷ Asks (Give Z3) ∷ []) (press_at press_step.ClaimBack false) (refl, (refl, (refl, (refl, (refl, (refl, refl))))));
      deposit = (0, refl);
      crane = (0, refl);
    }) in
    let lie : false ≡ true = heeds.press (Claim Z3) (Held machine.Robot) refl refl in
    cc

moves_unclaimed : ¬ NoneIsRefused (by_press wrong.moves_unclaimed)
moves_unclaimed law =
    let t = by_press wrong.moves_unclaimed in
    let o = start_state (insert_place empty place.PressOut) 0 in
    let heeds =
    law o (done_by machine.Press (Claim Z3 ∷ SetPose Travelling ∷ SetPose Low ∷ Give Z3 ∷ [])) (record (team_at t o) { press = press_at press_step.ClaimBack false }) (starts _ (omega arith) refl) (refl, (refl, (refl, (refl, tt))))
    (record {
      feed = (0, refl);
      table = (0, refl);
      robot = (0, refl);
      press = come t.press (t.press.start o) (Asks (Claim Z3) ∷ Asks (SetPose Travelling) ∷ Drives (record { bottom = true; middle = false; top = false }) (record { press = Off }) ∷ Asks (SetPose Low) ∷ Asks (Give Z3) ∷ []) (press_at press_step.ClaimBack false) (refl, (refl, (refl, (refl, (refl, (refl, refl))))));
      deposit = (0, refl);
      crane = (0, refl);
    }) in
    let lie : false ≡ true = heeds.press (SetPose Travelling) (NotOwner (Some machine.Robot)) refl refl in
    cc

rises_empty : ¬ NoneIsRefused (by_press wrong.rises_empty)
rises_empty law =
    let t = by_press wrong.rises_empty in
    let o = start_state empty 0 in
    let heeds =
    law o (done_by machine.Press (Claim Z3 ∷ SetPose Travelling ∷ SetPose Middle ∷ Release Z3 ∷ [])) (record (team_at t o) { press = press_at press_step.TakePlate false }) (starts _ (omega arith) refl) (refl, (refl, (refl, (refl, tt))))
    (record {
      feed = (0, refl);
      table = (0, refl);
      robot = (0, refl);
      press = come t.press (t.press.start o) (Asks (Claim Z3) ∷ Asks (SetPose Travelling) ∷ Drives (record { bottom = false; middle = true; top = false }) (record { press = Off }) ∷ Asks (SetPose Middle) ∷ Asks (Release Z3) ∷ []) (press_at press_step.TakePlate false) (refl, (refl, (refl, (refl, (refl, (refl, refl))))));
      deposit = (0, refl);
      crane = (0, refl);
    }) in
    let lie : false ≡ true = heeds.press (SetPose Travelling) (NotOwner None) refl refl in
    cc

-- ---- the robot

abbrev robot_at : RobotStep → Bool → Bool → RobotProgress
robot_at step first second = record { step = step; notes = record { arm1 = first; arm2 = second; fed = false }; magnets = record { arm1 = first; arm2 = second } }

claims_what_it_has : ¬ NoneIsRefused (by_robot wrong.claims_what_it_has)
claims_what_it_has law =
    let t = by_robot wrong.claims_what_it_has in
    let o = start_state (insert_place empty place.Arm1) 0 in
    let heeds =
    law o (event machine.Press (Claim Z3) Done ∷ event machine.Press (SetPose Travelling) Done ∷ event machine.Press (SetPose Middle) Done ∷ event machine.Press (Release Z3) Done ∷ event machine.Robot (Claim Z3) Done ∷ []) (record (team_at t o) { press = press_at press_step.TakePlate false; robot = robot_at robot_step.InspectPress true false }) (starts _ (omega arith) refl) (refl, (refl, (refl, (refl, (refl, tt)))))
    (record {
      feed = (0, refl);
      table = (0, refl);
      robot = come t.robot (t.robot.start o) (Drives (record { arm1 = pos 0; arm2 = pos 0; rotation = pos 1500; retracted = true }) (record { arm1 = Off; arm2 = Off; rotation = Off; magnet1 = true; magnet2 = false }) ∷ Asks (Claim Z3) ∷ []) (robot_at robot_step.InspectPress true false) (refl, (record { arm1 = refl; arm2 = refl; rotation = off ROTATION_ARM1_PRESS (le_z_yes tt); magnet1 = refl; magnet2 = refl }, (refl, refl)));
      press = come t.press (t.press.start o) (Asks (Claim Z3) ∷ Asks (SetPose Travelling) ∷ Drives (record { bottom = false; middle = true; top = false }) (record { press = Off }) ∷ Asks (SetPose Middle) ∷ Asks (Release Z3) ∷ []) (press_at press_step.TakePlate false) (refl, (refl, (refl, (refl, (refl, (refl, refl))))));
      deposit = (0, refl);
      crane = (0, refl);
    }) in
    let lie : false ≡ true = heeds.robot (Claim Z3) AlreadyMine refl refl in
    cc

enters_a_shut_zone : ¬ NoneIsRefused (by_robot wrong.enters_a_shut_zone)
enters_a_shut_zone law =
    let t = by_robot wrong.enters_a_shut_zone in
    let o = start_state (insert_place empty place.Arm2) 0 in
    let heeds =
    law o ([]) (record (team_at t o) { robot = robot_at robot_step.ClaimDeposit false true }) (starts _ (omega arith) refl) tt
    (record {
      feed = (0, refl);
      table = (0, refl);
      robot = come t.robot (t.robot.start o) (Drives (record { arm1 = pos 0; arm2 = pos 0; rotation = pos 1800; retracted = true }) (record { arm1 = Off; arm2 = Off; rotation = Off; magnet1 = false; magnet2 = true }) ∷ []) (robot_at robot_step.ClaimDeposit false true) (refl, (record { arm1 = refl; arm2 = refl; rotation = off ROTATION_ARM2_DEPOSIT (le_z_yes tt); magnet1 = refl; magnet2 = refl }, refl));
      press = (0, refl);
      deposit = (0, refl);
      crane = (0, refl);
    }) in
    let lie : false ≡ true = heeds.robot (Claim Z4) (Shut Closed) refl refl in
    cc

-- ---- the deposit belt

abbrev deposit_at : DepositStep → Bool → Bool → DepositProgress
deposit_at step entry last = record { step = step; entry = entry; last = last }

offers_before_it_moves_on : ¬ NoneIsRefused (by_deposit wrong.offers_before_it_moves_on)
offers_before_it_moves_on law =
    let t = by_deposit wrong.offers_before_it_moves_on in
    let o = start_state (insert_place empty place.DepEntry) 0 in
    let heeds =
    law o (done_by machine.Deposit (Claim Z4 ∷ Claim Z5 ∷ SetPose Running ∷ SetPose Offering ∷ [])) (record (team_at t o) { deposit = deposit_at deposit_step.GivePlate true false }) (starts _ (omega arith) refl) (refl, (refl, (refl, (refl, tt))))
    (record {
      feed = (0, refl);
      table = (0, refl);
      robot = (0, refl);
      press = (0, refl);
      deposit = come t.deposit (t.deposit.start o) (Asks (Claim Z4) ∷ Asks (Claim Z5) ∷ Asks (SetPose Running) ∷ Drives (record { barrier = true }) (record { belt = false }) ∷ Drives (record { barrier = false }) (record { belt = false }) ∷ Asks (SetPose Offering) ∷ []) (deposit_at deposit_step.GivePlate true false) (refl, (refl, (refl, (refl, (refl, (refl, (refl, (refl, refl))))))));
      crane = (0, refl);
    }) in
    let lie : false ≡ true = heeds.deposit (Give Z5) NoPlate refl refl in
    cc

-- ---- the crane

abbrev crane_at : CraneStep → Bool → CraneProgress
crane_at step magnet = record { step = step; magnet = magnet }

releases_its_plate : ¬ NoneIsRefused (by_crane wrong.releases_its_plate)
releases_its_plate law =
    let t = by_crane wrong.releases_its_plate in
    let o = start_state (insert_place empty place.DepEnd) 0 in
    let heeds =
    law o (event machine.Deposit (Claim Z4) Done ∷ event machine.Deposit (Claim Z5) Done ∷ event machine.Deposit (SetPose Offering) Done ∷ event machine.Deposit (Give Z5) Done ∷ event machine.Crane (Inquire Z5) (Shown (Some machine.Crane) true OpenOut) ∷ []) (record (team_at t o) { deposit = deposit_at deposit_step.ClaimBack false false; crane = crane_at crane_step.TakePlate true }) (starts _ (omega arith) refl) (refl, (refl, (refl, (refl, (refl, tt)))))
    (record {
      feed = (0, refl);
      table = (0, refl);
      robot = (0, refl);
      press = (0, refl);
      deposit = come t.deposit (t.deposit.start o) (Asks (Claim Z4) ∷ Asks (Claim Z5) ∷ Asks (SetPose Offering) ∷ Asks (Give Z5) ∷ []) (deposit_at deposit_step.ClaimBack false false) (refl, (refl, (refl, (refl, refl))));
      crane = (
        crane_at crane_step.AwaitPlate false,
        crane_at crane_step.LowerToPlate false,
        (2, (crane_at crane_step.TravelToDeposit false, record { asks_nothing = refl; reading = record { sense = record { deposit = false; feed = false; gripper = 0 }; gripper = pos 900; high = true }; act = record { travel = Off; height = Off; magnet = false }; drives = record { travel = refl; height = off GRIPPER_TRAVEL (le_z_yes tt); magnet = refl }; is = refl }, (crane_at crane_step.AwaitPlate false, record { asks_nothing = refl; reading = record { sense = record { deposit = true; feed = false; gripper = 0 }; gripper = pos 900; high = true }; act = record { travel = Off; height = Off; magnet = false }; drives = record { travel = refl; height = refl; magnet = refl }; is = refl }, refl))),
        refl,
        inl refl,
        (3, (crane_at crane_step.GripPlate false, record { asks_nothing = refl; reading = record { sense = record { deposit = true; feed = false; gripper = 0 }; gripper = pos 100; high = true }; act = record { travel = Off; height = Off; magnet = false }; drives = record { travel = refl; height = off GRIPPER_DEPOSIT (le_z_yes tt); magnet = refl }; is = refl }, (crane_at crane_step.RaiseWithPlate true, record { asks_nothing = refl; reading = record { sense = record { deposit = true; feed = false; gripper = 0 }; gripper = pos 100; high = true }; act = record { travel = Off; height = Off; magnet = true }; drives = record { travel = refl; height = refl; magnet = refl }; is = refl }, (crane_at crane_step.TakePlate true, record { asks_nothing = refl; reading = record { sense = record { deposit = true; feed = false; gripper = 0 }; gripper = pos 900; high = true }; act = record { travel = Off; height = Off; magnet = true }; drives = record { travel = refl; height = off GRIPPER_TRAVEL (le_z_yes tt); magnet = refl }; is = refl }, refl)))),
      );
    }) in
    let lie : false ≡ true = heeds.crane (Release Z5) (PlateInZone Z5) refl refl in
    cc

lands_in_a_shut_zone : ¬ NoneIsRefused (by_crane wrong.lands_in_a_shut_zone)
lands_in_a_shut_zone law =
    let t = by_crane wrong.lands_in_a_shut_zone in
    let o = start_state (insert_place empty place.Crane) 0 in
    let heeds =
    law o ([]) (record (team_at t o) { crane = crane_at crane_step.ClaimFeed true }) (starts _ (omega arith) refl) tt
    (record {
      feed = (0, refl);
      table = (0, refl);
      robot = (0, refl);
      press = (0, refl);
      deposit = (0, refl);
      crane = come t.crane (t.crane.start o) (Drives (record { sense = record { deposit = false; feed = true; gripper = 0 }; gripper = pos 900; high = true }) (record { travel = Off; height = Off; magnet = true }) ∷ []) (crane_at crane_step.ClaimFeed true) (refl, (record { travel = refl; height = refl; magnet = refl }, refl));
    }) in
    let lie : false ≡ true = heeds.crane (Claim Z6) (Shut Closed) refl refl in
    cc

-- ---- all of these

right-rows : RightRows
right-rows = record { feed = none-refused scales; table = none-refused scales; robot = none-refused scales; press = none-refused scales; deposit = none-refused scales; crane = none-refused scales }

wrong-rows : WrongRowsAre
wrong-rows = record {
  takes_asking = λ p. refl;
  runs_asking = λ p. refl;
  gives_asking = λ p. refl;
  gives_waiting = λ p. refl;
  loads_leading = λ p. refl;
  claims_asking = λ p. refl;
  enters_asking = λ p. refl;
  enters_waiting = λ p. refl;
  claims_back_asking = λ p. refl;
  claims_at_once = λ p. refl;
  moves_asking = λ p. refl;
  rises_asking = λ p. refl;
  offers_asking = λ p. refl;
  releases_asking = λ p. refl;
  takes_its_plate_else = λ p. refl;
  lands_asking = λ p. refl;
  lands_waiting = λ p. refl;
}

pub wrong-refused : WrongProgramsAreRefused
wrong-refused = record {
  right = right-rows;
  wrong = record {
    takes_unreleased = takes_unreleased;
    runs_onto_plate = runs_onto_plate;
    gives_until_free = gives_until_free;
    loads_a_full_table = loads_a_full_table;
    claims_what_it_has = claims_what_it_has;
    enters_a_shut_zone = enters_a_shut_zone;
    claims_back_at_once = claims_back_at_once;
    moves_unclaimed = moves_unclaimed;
    rises_empty = rises_empty;
    offers_before_it_moves_on = offers_before_it_moves_on;
    releases_its_plate = releases_its_plate;
    lands_in_a_shut_zone = lands_in_a_shut_zone;
  };
  rows = wrong-rows;
  only_worn = only_worn;
}
