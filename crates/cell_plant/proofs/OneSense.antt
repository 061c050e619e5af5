-- The sensors of each machine show one thing, their check says one thing by gauges that give one position, and a drive has
-- one command.
use Rattle.cell_plant.proofs.Names.{◌≡◌, ℕ, ◌≤◌, ℤ, ◌+ℤ◌, ◌≤ℤ◌, ◌↔◌, IsTrue, Bool, Result, Ok, Err, refl, sym, ap, ◌∙◌, subst, arith, by_lt_z, Scale, IsScale, SensorFault, CraneSense, RobotSense, TableSense, one_raw_at, travel_from, drives_one, acts_one, crane_steps, CraneReading, RobotGauges, RobotScales, arm1_stop, arm2_stop, robot_steps, turns_to, RobotReading, FirstFails, IsRaw, rotation_stop, table_steps, TableReading}
use Rattle.cell_plant.proofs.Names.{AreCellScales, table_rig, robot_rig, crane_rig, ShowsRaw, CellGauges, robot_gauges, robot_points, steps_by, rig_of, GiveOne, GivesOne}
use Rattle.cell_belts_crane.specs.CraneProgram.{Senses as CraneSenses}
use Rattle.cell_robot.specs.RobotProgram.{Fails, Senses as RobotSenses}
use Rattle.cell_table_press.specs.TableProgram.{Senses as TableSenses}
use Rattle.cell_parts.specs.Names.{CellScales}
use Rattle.cell_types.specs.declared.machine.Machine.TheVariants.{Feed, Table, Robot, Press, Deposit, Crane, Watch}
use Rattle.cell_plant.proofs.OneTurn.{HasOneWay}

-- two switches that are on for the same reason are the same
one_switch : (P : Type 0) (a b : Bool) → IsTrue a ↔ P → IsTrue b ↔ P → b ≡ a
one_switch P a b k l = grind arith

-- a potentiometer shows one raw value
one_raw : (s : Scale) (position : ℤ) (a b : ℕ) → IsScale s → ShowsRaw s position a → ShowsRaw s position b → b ≡ a
one_raw s position a b k one other =
    by_lt_z position s.at_lo
    (λ before. other.below before ∙ sym (one.below before))
    (λ from.
    by_lt_z s.at_hi position
    (λ beyond. other.above beyond ∙ sym (one.above beyond))
    (λ to. one_raw_at s position a b k (one.between from to) (other.between from to)))

-- ---- the table

table_one : (points : Scale) (gives : ℕ → ℤ → Type 0) → IsScale points → GivesOne gives → (s : TableSense) (r r' : Result TableReading SensorFault) → TableSenses points gives s r → TableSenses points gives s r' → r' ≡ r
table_one points gives k one s (Ok r) (Ok r') a b = let turn = one s.turn r.turn r'.turn a.given b.given in let sense = b.switches ∙ sym a.switches in λ i. Ok (record { sense = sense i; turn = turn i })
table_one points gives k one s x y a b = grind (arith, k.raws_rise)

table_way : (points : Scale) (gives : ℕ → ℤ → Type 0) → IsScale points → GivesOne gives → HasOneWay (table_steps points gives) (table_rig points)
table_way points gives k one =
    record {
      shows = λ b s s' m n.
          let bottom = one_switch _ s.bottom s'.bottom m.bottom n.bottom in
          let top = one_switch _ s.top s'.top m.top n.top in
          let raw = one_raw points b.turn.position s.turn s'.turn k m.raw n.raw in
          λ i. record { bottom = bottom i; top = top i; turn = raw i };
      senses = table_one points gives k one;
      drives = λ p r a a' m n.
          let height = n.height ∙ sym m.height in
          let rotation = drives_one (rotation_stop p.step) points.tol r.turn a.rotation a'.rotation m.rotation n.rotation in
          λ i. record { height = height i; rotation = rotation i };
    }

-- ---- the crane

crane_one : (points : Scale) (gives : ℕ → ℤ → Type 0) → IsScale points → GivesOne gives → (s : CraneSense) (r r' : Result CraneReading SensorFault) → CraneSenses points gives s r → CraneSenses points gives s r' → r' ≡ r
crane_one points gives k one s (Ok r) (Ok r') a b =
    let gripper : r'.gripper ≡ r.gripper = one s.gripper r.gripper r'.gripper a.given b.given in
    let sense = b.switches ∙ sym a.switches in
    let high = one_switch _ r.high r'.high a.high (subst (λ v. IsTrue r'.high ↔ ((travel_from +ℤ points.tol) ≤ℤ v)) gripper b.high) in
    λ i. Ok (record { sense = sense i; gripper = gripper i; high = high i })
crane_one points gives k one s x y a b = grind (arith, k.raws_rise)

crane_way : (points : Scale) (gives : ℕ → ℤ → Type 0) → IsScale points → GivesOne gives → HasOneWay (crane_steps points gives) (crane_rig points)
crane_way points gives k one =
    record {
      shows = λ b s s' m n.
          let deposit = one_switch _ s.deposit s'.deposit m.deposit n.deposit in
          let feed = one_switch _ s.feed s'.feed m.feed n.feed in
          let raw = one_raw points b.gripper.position s.gripper s'.gripper k m.raw n.raw in
          λ i. record { deposit = deposit i; feed = feed i; gripper = raw i };
      senses = crane_one points gives k one;
      drives = acts_one points;
    }

-- ---- the robot

fails_one : (points : Scale) (raw : ℕ) (f g : SensorFault) → IsScale points → Fails points raw f → Fails points raw g → g ≡ f
fails_one points raw f g k a b = grind (arith, k.raws_rise)

no_raw : (points : Scale) (raw : ℕ) (f : SensorFault) → IsRaw points raw → Fails points raw f → ⊥
no_raw points raw f k a = grind arith

pub record AreScales (points : RobotScales) : Type 0 where
  pub arm1 : IsScale points.arm1
  pub arm2 : IsScale points.arm2
  pub rotation : IsScale points.rotation

module _ (points : RobotScales) (gives : RobotGauges) (k : AreScales points) (s : RobotSense) where
  first_one : (f g : SensorFault) → FirstFails points s f → FirstFails points s g → g ≡ f
  first_one f g a b = grind (arith, fails_one, no_raw)

  none_fails : (r : RobotReading) (f : SensorFault) → RobotSenses points gives s (Ok r) → FirstFails points s f → ⊥
  none_fails r f a b = grind (arith, no_raw)

  robot_one : GivesOne gives.arm1 → GivesOne gives.arm2 → GivesOne gives.rotation → (r r' : Result RobotReading SensorFault) → RobotSenses points gives s r → RobotSenses points gives s r' → r' ≡ r
  robot_one one two three (Ok r) (Ok r') a b =
      let arm1 : r'.arm1 ≡ r.arm1 = one s.arm1 r.arm1 r'.arm1 a.arm1.1.1 b.arm1.1.1 in
      let arm2 : r'.arm2 ≡ r.arm2 = two s.arm2 r.arm2 r'.arm2 a.arm2.1.1 b.arm2.1.1 in
      let rotation : r'.rotation ≡ r.rotation = three s.rotation r.rotation r'.rotation a.rotation.1.1 b.rotation.1.1 in
      let retracted = one_switch _ r.retracted r'.retracted a.retracted (rw (arm1, arm2) at b.retracted) in
      λ i. Ok (record { arm1 = arm1 i; arm2 = arm2 i; rotation = rotation i; retracted = retracted i })
  robot_one one two three (Ok r) (Err f) a b = absurd (none_fails r f a b)
  robot_one one two three (Err f) (Ok r) a b = absurd (none_fails r f b a)
  robot_one one two three (Err f) (Err g) a b = ap (λ x. Err x) (first_one f g a b)

robot_way : (c : CellScales) (gives : CellGauges) → AreScales (robot_points c) → GiveOne gives → HasOneWay (robot_steps (robot_points c) (robot_gauges gives)) (robot_rig (robot_points c))
robot_way c gives k one =
    record {
      shows = λ b s s' m n.
          let arm1 = one_raw c.arm1 b.arm1.position s.arm1 s'.arm1 k.arm1 m.arm1 n.arm1 in
          let arm2 = one_raw c.arm2 b.arm2.position s.arm2 s'.arm2 k.arm2 m.arm2 n.arm2 in
          let rotation = one_raw c.rotation b.rotation.position s.rotation s'.rotation k.rotation m.rotation n.rotation in
          λ i. record { arm1 = arm1 i; arm2 = arm2 i; rotation = rotation i };
      senses = λ s r r' m n. robot_one (robot_points c) (robot_gauges gives) k s one.arm1 one.arm2 one.rotation r r' m n;
      drives = λ p r a a' m n.
          let arm1 = drives_one (arm1_stop p.step) c.arm1.tol r.arm1 a.arm1 a'.arm1 m.arm1 n.arm1 in
          let arm2 = drives_one (arm2_stop p.step) c.arm2.tol r.arm2 a.arm2 a'.arm2 m.arm2 n.arm2 in
          let rotation = drives_one (turns_to p.step r.retracted) c.rotation.tol r.rotation a.rotation a'.rotation m.rotation n.rotation in
          let magnet1 = n.magnet1 ∙ sym m.magnet1 in
          let magnet2 = n.magnet2 ∙ sym m.magnet2 in
          λ i. record { arm1 = arm1 i; arm2 = arm2 i; rotation = rotation i; magnet1 = magnet1 i; magnet2 = magnet2 i };
    }

-- ---- each machine

module _ (c : CellScales) (gives : CellGauges) (scales : AreCellScales c) (one : GiveOne gives) where
  pub one_way : (m : _) → HasOneWay (steps_by c gives m) (rig_of c m)
  one_way Feed = record { shows = λ b s s' m n. (let on = one_switch _ s.barrier s'.barrier m.barrier n.barrier in λ i. record { barrier = on i }); senses = λ s r r' m n. n ∙ sym m; drives = λ p r a a' m n. n ∙ sym m }
  one_way Table = table_way c.turn gives.turn scales.turn.scale one.turn
  one_way Robot = robot_way c gives (record { arm1 = scales.arm1.scale; arm2 = scales.arm2.scale; rotation = scales.rotation.scale }) one
  one_way Press =
      record {
        shows = λ b s s' m n.
            let bottom = one_switch _ s.bottom s'.bottom m.bottom n.bottom in
            let middle = one_switch _ s.middle s'.middle m.middle n.middle in
            let top = one_switch _ s.top s'.top m.top n.top in
            λ i. record { bottom = bottom i; middle = middle i; top = top i };
        senses = λ s r r' m n. n ∙ sym m;
        drives = λ p r a a' m n. n ∙ sym m;
      }
  one_way Deposit = record { shows = λ b s s' m n. (let on = one_switch _ s.barrier s'.barrier m.barrier n.barrier in λ i. record { barrier = on i }); senses = λ s r r' m n. n ∙ sym m; drives = λ p r a a' m n. n ∙ sym m }
  one_way Crane = crane_way c.gripper gives.gripper scales.gripper.scale one.gripper
  one_way Watch = record { shows = λ b s s' m n. refl; senses = λ s r r' m n. n ∙ sym m; drives = λ p r a a' m n. refl }
