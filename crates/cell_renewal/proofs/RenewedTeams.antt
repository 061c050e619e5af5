-- Six machines that go on from steps to which they had come, over one history: no refusal has stopped one.
use Rattle.cell_renewal.proofs.Names.{◌≡◌, ℕ, false, List, ◌∷◌, ◌++◌, Option, Some, refl, subst, Machine, Feed, Table, Robot, Press, Deposit, Crane, Watch, Refusal, Event, same_machine, ModelState, after, IsLegal, legal-left, CtlFault, crane_steps, table_steps, CellScales, CellGauges, ProgressOf, robot_gauges, robot_points, steps_by, steps_of, Team, programs_of, HasComeFrom, AreHeeded, IsHeeded, HaveComeFrom, StandAfter, Stands}
use Rattle.cell_sensors.specs.Line.{IsReading}
use Rattle.cell_control.specs.declared.fault.CtlFault.TheVariants as fault
use Rattle.cell_belts_crane.specs.CraneProgram.{Senses as CraneSenses}
use Rattle.cell_robot.specs.RobotProgram.{near_lines, Senses as RobotSenses, robot_steps}
use Rattle.cell_table_press.specs.TableProgram.{Senses as TableSenses}
use Rattle.cell_team.proofs.lemmas.Renewed.{none_refused_renewed}
use Rattle.cell_team.proofs.lemmas.Sensed.{stands_still}
use Rattle.cell_renewal.proofs.GoingStands.{from_step, come_back, came_before, unstopped}

-- the step of each machine, by its name
abbrev pub team_of : ((m : Machine) → ProgressOf m) → Team
team_of p = record { feed = p Feed; table = p Table; robot = p Robot; press = p Press; deposit = p Deposit; crane = p Crane }

module _ (c : CellScales) (renewals : ℕ) (o : ModelState) (h : List Event) (first progress : (m : Machine) → ProgressOf m) (stopped : Machine → Option CtlFault)
    (stand : StandAfter (programs_of c) renewals o (team_of first)) (legal : IsLegal o h)
    (stands : (m : Machine) → same_machine m Watch ≡ false → Stands (from_step (steps_of c m) (first m)) o h (stopped m) (progress m)) where
  come : (m : Machine) → same_machine m Watch ≡ false → HasComeFrom (steps_of c m) (first m) h (progress m)
  come m e = come_back (steps_of c m) (first m) h (progress m) (stands m e).come

  -- they have come from their steps to others
  pub all_come : HaveComeFrom (programs_of c) (team_of first) h (team_of progress)
  all_come = record { feed = come Feed refl; table = come Table refl; robot = come Robot refl; press = come Press refl; deposit = come Deposit refl; crane = come Crane refl }

  -- before an event each was at some step, and its call would have been heeded
  module _ (before rest : List Event) (now : Event) (split : h ≡ before ++ now ∷ rest) where
    was : (m : Machine) → same_machine m Watch ≡ false → (q : ProgressOf m) × HasComeFrom (steps_of c m) (first m) before q
    was m e = came_before (steps_of c m) (first m) before (now ∷ rest) (progress m) (subst (λ x. HasComeFrom (steps_of c m) (first m) x (progress m)) split (come m e))

    heed : (at : Team) → HaveComeFrom (programs_of c) (team_of first) before at → AreHeeded (programs_of c) (after o before) at
    heed at k = none_refused_renewed c renewals o before (team_of first) at stand (legal-left o before (now ∷ rest) (subst (IsLegal o) split legal)) k

    abbrev at : Team
    at = record { feed = (was Feed refl).0; table = (was Table refl).0; robot = (was Robot refl).0; press = (was Press refl).0; deposit = (was Deposit refl).0; crane = (was Crane refl).0 }

    by : HaveComeFrom (programs_of c) (team_of first) before at
    by = record { feed = (was Feed refl).1; table = (was Table refl).1; robot = (was Robot refl).1; press = (was Press refl).1; deposit = (was Deposit refl).1; crane = (was Crane refl).1 }

    heeded : (m : Machine) → same_machine m Watch ≡ false → (q : ProgressOf m) → HasComeFrom (steps_of c m) (first m) before q → IsHeeded (steps_of c m) (after o before) q
    heeded Feed e q k = (heed (record at { feed = q }) (record { feed = k; table = by.table; robot = by.robot; press = by.press; deposit = by.deposit; crane = by.crane })).feed
    heeded Table e q k = (heed (record at { table = q }) (record { feed = by.feed; table = k; robot = by.robot; press = by.press; deposit = by.deposit; crane = by.crane })).table
    heeded Robot e q k = (heed (record at { robot = q }) (record { feed = by.feed; table = by.table; robot = k; press = by.press; deposit = by.deposit; crane = by.crane })).robot
    heeded Press e q k = (heed (record at { press = q }) (record { feed = by.feed; table = by.table; robot = by.robot; press = k; deposit = by.deposit; crane = by.crane })).press
    heeded Deposit e q k = (heed (record at { deposit = q }) (record { feed = by.feed; table = by.table; robot = by.robot; press = by.press; deposit = k; crane = by.crane })).deposit
    heeded Crane e q k = (heed (record at { crane = q }) (record { feed = by.feed; table = by.table; robot = by.robot; press = by.press; deposit = by.deposit; crane = k })).crane
    heeded Watch e q k = cc

  pub none_refused : (m : Machine) → same_machine m Watch ≡ false → (r : Refusal) → stopped m ≡ Some (fault.Refused r) → ⊥
  none_refused m e r f =
      let s = (stands m e).stopped_by r f in
      unstopped (steps_of c m) (first m) o h (progress m) r legal s
      (heeded s.before s.rest _ s.split m e (progress m) (come_back (steps_of c m) (first m) s.before (progress m) s.come))

-- by what gauges give, too
pub stands_near : (c : CellScales) (gives : CellGauges) (o : ModelState) (h : List Event) (m : Machine) (first : ProgressOf m) (stopped : Option CtlFault) (p : ProgressOf m)
    → Stands (from_step (steps_by c gives m) first) o h stopped p → Stands (from_step (steps_of c m) first) o h stopped p
stands_near c gives o h Feed first stopped p k = k
stands_near c gives o h Table first stopped p k = stands_still (from_step (table_steps c.turn gives.turn) first) (TableSenses c.turn (IsReading c.turn)) o h stopped p k
stands_near c gives o h Robot first stopped p k = stands_still (from_step (robot_steps (robot_points c) (robot_gauges gives)) first) (RobotSenses (robot_points c) (near_lines (robot_points c))) o h stopped p k
stands_near c gives o h Press first stopped p k = k
stands_near c gives o h Deposit first stopped p k = k
stands_near c gives o h Crane first stopped p k = stands_still (from_step (crane_steps c.gripper gives.gripper) first) (CraneSenses c.gripper (IsReading c.gripper)) o h stopped p k
stands_near c gives o h Watch first stopped p k = k
