-- A renewal keeps what each machine knows, so after any number of them none is refused.
use Rattle.cell_team.proofs.Names.{ℕ, zero, suc, refl, sym, subst, Machine, IsReading, ModelState, IsSound, after, restamped, IsSameFor, sound-after, CellScales, near_lines, Team, robot_points, programs_of, StandAfter}
use Rattle.cell_rules.proofs.lemmas.Restamps.{restamped_sound}
use Rattle.cell_belts_crane.proofs.lemmas.CraneFacts as crane_facts
use Rattle.cell_belts_crane.proofs.lemmas.DepositFacts as deposit_facts
use Rattle.cell_belts_crane.proofs.lemmas.FeedFacts as feed_facts
use Rattle.cell_robot.proofs.lemmas.RobotFacts as robot_facts
use Rattle.cell_table_press.proofs.lemmas.PressFacts as press_facts
use Rattle.cell_table_press.proofs.lemmas.TableFacts as table_facts
use Rattle.cell_control.proofs.lemmas.SharedZones.{are_shared_same}
use Rattle.cell_belts_crane.specs.CraneProgram.{zones_at as crane_zones}
use Rattle.cell_belts_crane.specs.DepositProgram.{zones_at as deposit_zones}
use Rattle.cell_belts_crane.specs.FeedProgram.{zones_at as feed_zones}
use Rattle.cell_robot.specs.RobotKeeps.{zones_at as robot_zones}
use Rattle.cell_table_press.specs.PressProgram.{zones_at as press_zones}
use Rattle.cell_table_press.specs.TableProgram.{zones_at as table_zones}
use Rattle.cell_team.specs.Renewals.{NoRenewedMachineIsRefused}
use Rattle.cell_team.proofs.lemmas.Together.{AllKnow, all_begin, all_know, all_heeded, sound_start}

-- another stamp is the same for each machine
same_for : (m : Machine) (z : ModelState) (stamp : ℕ) → IsSameFor m z (restamped z stamp)
same_for m z stamp = record { owned = λ y o. refl; hosted = λ y e. refl; places = λ p e. refl }

all_renewed : (c : CellScales) (team : Team) (z : ModelState) (stamp : ℕ) → AllKnow team z → AllKnow team (restamped z stamp)
all_renewed c team z stamp k =
    let w = restamped z stamp in
    record {
      feed = (feed_facts.feed-knowing.same_for team.feed z w (same_for _ z stamp) k.feed.0, are_shared_same _ z w (same_for _ z stamp) (λ y lent. lent) (feed_zones team.feed.step) (feed_facts.feed_firm team.feed.step) k.feed.1);
      table = (
        (table_facts.table-knowing c.turn (IsReading c.turn)).same_for team.table z w (same_for _ z stamp) k.table.0,
        record { shares = are_shared_same _ z w (same_for _ z stamp) (λ y lent. lent) (table_zones team.table.step) (table_facts.table_firm team.table.step) k.table.1.shares; plate = k.table.1.plate; noted = k.table.1.noted },
      );
      robot = (
        (robot_facts.robot-knowing (robot_points c) (near_lines (robot_points c))).same_for team.robot z w (same_for _ z stamp) k.robot.0,
        record {
          shares = are_shared_same _ z w (same_for _ z stamp) (λ y lent. lent) (robot_zones team.robot.step) (robot_facts.robot_firm team.robot.step) k.robot.1.shares;
          plates = k.robot.1.plates;
          noted = record { arm1 = k.robot.1.noted.arm1; arm2 = k.robot.1.noted.arm2; press = k.robot.1.noted.press };
        },
      );
      press = (
        press_facts.press-knowing.same_for team.press z w (same_for _ z stamp) k.press.0,
        record { shares = are_shared_same _ z w (same_for _ z stamp) (λ y lent. lent) (press_zones team.press.step) (press_facts.press_firm team.press.step) k.press.1.shares; plates = k.press.1.plates; in_noted = k.press.1.in_noted; out_noted = k.press.1.out_noted },
      );
      deposit = (
        deposit_facts.deposit-knowing.same_for team.deposit z w (same_for _ z stamp) k.deposit.0,
        record { shares = are_shared_same _ z w (same_for _ z stamp) (λ y lent. lent) (deposit_zones team.deposit.step) (deposit_facts.deposit_firm team.deposit.step) k.deposit.1.shares; plates = k.deposit.1.plates; entry_noted = k.deposit.1.entry_noted; last_noted = k.deposit.1.last_noted },
      );
      crane = (
        (crane_facts.crane-knowing c.gripper (IsReading c.gripper)).same_for team.crane z w (same_for _ z stamp) k.crane.0,
        record { shares = are_shared_same _ z w (same_for _ z stamp) (λ y lent. lent) (crane_zones team.crane.step) (crane_facts.crane_firm team.crane.step) k.crane.1.shares; plate = k.crane.1.plate },
      );
    }

-- after any number of renewals
all_stand : (c : CellScales) (renewals : ℕ) (opening : ModelState) (first : Team) → StandAfter (programs_of c) renewals opening first → IsSound opening × AllKnow first opening
all_stand c zero opening first k = (sound_start opening k.0, subst (λ t. AllKnow t opening) (sym k.1) (all_begin c opening k.0))
all_stand c (suc renewals) opening first k =
    let was = all_stand c renewals k.before k.first k.stood in
    let z = after k.before k.history in (
      subst IsSound (sym k.opens) (restamped_sound z k.stamp k.in_range (sound-after k.before k.history was.0)),
      subst (AllKnow first) (sym k.opens) (all_renewed c first z k.stamp (all_know c k.before k.history k.first first was.0 k.legal k.come was.1)),
    )

pub none_refused_renewed : NoRenewedMachineIsRefused
none_refused_renewed c renewals opening h first team k legal by =
    let was = all_stand c renewals opening first k in
    all_heeded c (after opening h) team (sound-after opening h was.0) (all_know c opening h first team was.0 legal by was.1)
