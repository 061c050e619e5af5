-- Machines that stand at steps of their programs, over one history: no refusal has stopped one.
use Rattle.cell_plant.proofs.Names.{◌≡◌, false, List, Option, Some, refl, Machine, Feed, Table, Robot, Press, Deposit, Crane, Watch, Refusal, Event, same_machine, ModelState, IsStartState, IsLegal, CtlFault, CellScales, Team, programs_of, HaveCome, AreUnstopped, IsUnstopped, none-stopped, stands_still, Stands, robot_points}
use Rattle.cell_sensors.specs.Line.{IsReading}
use Rattle.cell_control.specs.declared.fault.CtlFault.TheVariants as fault
use Rattle.cell_belts_crane.specs.CraneProgram.{Senses as CraneSenses, crane_steps}
use Rattle.cell_robot.specs.RobotProgram.{near_lines, Senses as RobotSenses, robot_steps}
use Rattle.cell_table_press.specs.TableProgram.{Senses as TableSenses, table_steps}
use Rattle.cell_plant.specs.Machines.{CellGauges, ProgressOf, robot_gauges, steps_by, steps_of}

module _ (c : CellScales) (o : ModelState) (h : List Event) (stopped : Machine → Option CtlFault) (progress : (m : Machine) → ProgressOf m) (start : IsStartState o) (legal : IsLegal o h)
    (stands : (m : Machine) → same_machine m Watch ≡ false → Stands (steps_of c m) o h (stopped m) (progress m)) where
  abbrev team : Team
  team = record { feed = progress Feed; table = progress Table; robot = progress Robot; press = progress Press; deposit = progress Deposit; crane = progress Crane }

  by : HaveCome (programs_of c) o h team
  by = record { feed = (stands Feed refl).come; table = (stands Table refl).come; robot = (stands Robot refl).come; press = (stands Press refl).come; deposit = (stands Deposit refl).come; crane = (stands Crane refl).come }

  all_unstopped : AreUnstopped (programs_of c) o h
  all_unstopped = none-stopped c o h team start legal by

  unstopped : (m : Machine) → same_machine m Watch ≡ false → IsUnstopped (steps_of c m) o h
  unstopped Watch e = cc
  unstopped _ e = assumption all_unstopped

  pub none_refused : (m : Machine) → same_machine m Watch ≡ false → (r : Refusal) → stopped m ≡ Some (fault.Refused r) → ⊥
  none_refused m e r f = unstopped m e (progress m) r ((stands m e).stopped_by r f)

-- by what gauges give, too
stands_near : (c : CellScales) (gives : CellGauges) (o : ModelState) (h : List Event) (m : Machine) (stopped : Option CtlFault) (p : ProgressOf m) → Stands (steps_by c gives m) o h stopped p → Stands (steps_of c m) o h stopped p
stands_near c gives o h Table stopped p k = stands_still (table_steps c.turn gives.turn) (TableSenses c.turn (IsReading c.turn)) o h stopped p k
stands_near c gives o h Robot stopped p k = stands_still (robot_steps (robot_points c) (robot_gauges gives)) (RobotSenses (robot_points c) (near_lines (robot_points c))) o h stopped p k
stands_near c gives o h Crane stopped p k = stands_still (crane_steps c.gripper gives.gripper) (CraneSenses c.gripper (IsReading c.gripper)) o h stopped p k
stands_near c gives o h _ stopped p k = k

pub none_refused_by : (c : CellScales) (gives : CellGauges) (o : ModelState) (h : List Event) (stopped : Machine → Option CtlFault) (progress : (m : Machine) → ProgressOf m) → IsStartState o → IsLegal o h
    → ((m : Machine) → same_machine m Watch ≡ false → Stands (steps_by c gives m) o h (stopped m) (progress m)) → (m : Machine) → same_machine m Watch ≡ false → (r : Refusal) → stopped m ≡ Some (fault.Refused r) → ⊥
none_refused_by c gives o h stopped progress start legal stands = none_refused c o h stopped progress start legal (λ m e. stands_near c gives o h m (stopped m) (progress m) (stands m e))
