-- What isn't at rest: a belt that runs, a motor that is on, a magnet that isn't as the notes say.
use Rattle.std.specs.Prelude.{◌≡◌, ◌≢◌, true}
use Rattle.cell_rules.specs.Types.{Feed, Table, Robot, Press, Deposit, Crane}
use Rattle.cell_devices.specs.declared.motor.Motor.TheVariants.{Off}
use Rattle.cell_plant.specs.Machines.{ProgressOf, PartOf}
use Rattle.cell_plant.specs.Resting.{IsAtRest}

pub record RestIsTold : Type 0 where
  pub feed : (p : ProgressOf Feed) (b : PartOf Feed) → b.runs ≡ true → ¬ IsAtRest Feed p b
  pub lift : (p : ProgressOf Table) (t : PartOf Table) → t.lift.motor ≢ Off → ¬ IsAtRest Table p t
  pub turn : (p : ProgressOf Table) (t : PartOf Table) → t.turn.motor ≢ Off → ¬ IsAtRest Table p t
  pub arm1 : (p : ProgressOf Robot) (r : PartOf Robot) → r.arm1.motor ≢ Off → ¬ IsAtRest Robot p r
  pub arm2 : (p : ProgressOf Robot) (r : PartOf Robot) → r.arm2.motor ≢ Off → ¬ IsAtRest Robot p r
  pub rotation : (p : ProgressOf Robot) (r : PartOf Robot) → r.rotation.motor ≢ Off → ¬ IsAtRest Robot p r
  pub magnet1 : (p : ProgressOf Robot) (r : PartOf Robot) → r.magnet1 ≢ p.magnets.arm1 → ¬ IsAtRest Robot p r
  pub magnet2 : (p : ProgressOf Robot) (r : PartOf Robot) → r.magnet2 ≢ p.magnets.arm2 → ¬ IsAtRest Robot p r
  pub press : (p : ProgressOf Press) (a : PartOf Press) → a.motor ≢ Off → ¬ IsAtRest Press p a
  pub deposit : (p : ProgressOf Deposit) (b : PartOf Deposit) → b.runs ≡ true → ¬ IsAtRest Deposit p b
  pub travel : (p : ProgressOf Crane) (c : PartOf Crane) → c.travel.motor ≢ Off → ¬ IsAtRest Crane p c
  pub gripper : (p : ProgressOf Crane) (c : PartOf Crane) → c.gripper.motor ≢ Off → ¬ IsAtRest Crane p c
  pub magnet : (p : ProgressOf Crane) (c : PartOf Crane) → c.magnet ≢ p.magnet → ¬ IsAtRest Crane p c
