-- None of the six machines is refused.
use Rattle.cell_team.proofs.Names.{◌≡◌, Bool, true, false, ◌&&◌, not, List, refl, sym, subst, Feed, Table, Robot, Press, Deposit, Crane, Watch, Event, IsReading, PlaceSet, ModelState, zone_at, IsSound, after, IsLegal, own_events, IsStart, IsStartState, start_state, each_zone, sound-after, CellScales, crane_steps, deposit_steps, feed_steps, notes_at, near_lines, robot_steps, Team, robot_points, programs_of, program_with_stops, HaveComeFrom, first_team, AreHeeded, NoMachineIsRefused}
use Rattle.cell_rules.proofs.lemmas.Lawful.{lawful_in, sound_from}
use Rattle.cell_table_press.specs.Names.{press_steps, table_steps}
use Rattle.cell_belts_crane.proofs.lemmas.CraneFacts as crane_facts
use Rattle.cell_belts_crane.proofs.lemmas.DepositFacts as deposit_facts
use Rattle.cell_belts_crane.proofs.lemmas.FeedFacts as feed_facts
use Rattle.cell_robot.proofs.lemmas.RobotFacts as robot_facts
use Rattle.cell_table_press.proofs.lemmas.PressFacts as press_facts
use Rattle.cell_table_press.proofs.lemmas.TableFacts as table_facts
use Rattle.cell_team.proofs.Waiting.{heeded}
use Rattle.cell_team.proofs.lemmas.Reaching.{OwnYieldless, AreYieldless, own_yieldless, yieldless, reached_both}
use Rattle.cell_team.proofs.lemmas.CraneTeam as crane
use Rattle.cell_team.proofs.lemmas.DepositTeam as deposit
use Rattle.cell_team.proofs.lemmas.FeedTeam as feed
use Rattle.cell_team.proofs.lemmas.PressTeam as press
use Rattle.cell_team.proofs.lemmas.RobotTeam as robot
use Rattle.cell_team.proofs.lemmas.TableTeam as table

-- a start is sound, since its zones are free
one_place_empty : (b : Bool) → b ≡ false → (not b && true) ≡ true
one_place_empty false e = refl
one_place_empty true e = cc

sound_free : (full : PlaceSet) (stamp : _) → IsStart full stamp → IsSound (start_state full stamp)
sound_free full stamp k =
    let free = start_state full stamp in
    sound_from free k.stamp_in_range (each_zone (λ z. lawful_in full z (zone_at free z) ≡ true) refl refl (one_place_empty _ k.one_in_press_at_most) refl refl refl)

pub sound_start : (s : ModelState) → IsStartState s → IsSound s
sound_start s k = subst IsSound (sym k.same) (sound_free s.full s.stamp k.start)

-- what each machine knows at its step, of its zones and of the plates in them
pub record AllKnow (team : Team) (z : ModelState) : Type 0 where
  pub feed : feed_facts.FeedKnows team.feed z × feed.FeedMore team.feed z
  pub table : table_facts.TableKnows team.table z × table.TableMore team.table z
  pub robot : robot_facts.RobotKnows team.robot z × robot.RobotMore team.robot z
  pub press : press_facts.PressKnows team.press z × press.PressMore team.press z
  pub deposit : deposit_facts.DepositKnows team.deposit z × deposit.DepositMore team.deposit z
  pub crane : crane_facts.CraneKnows team.crane z × crane.CraneMore team.crane z

pub all_begin : (c : CellScales) (opening : ModelState) → IsStartState opening → AllKnow (first_team (programs_of c) opening) opening
all_begin c opening start = record {
  feed = (feed_facts.feed_begins opening, feed.feed_begins opening start);
  table = (table_facts.table_begins opening, table.table_begins opening start);
  robot = (robot_facts.at_choice (notes_at opening) opening, robot.robot_begins opening start);
  press = (press_facts.press_begins opening, press.press_begins opening start);
  deposit = (deposit_facts.deposit_begins opening, deposit.deposit_begins opening start);
  crane = (crane_facts.crane_begins opening, crane.crane_begins opening start);
}

-- so the next call of each is heeded
pub all_heeded : (c : CellScales) (z : ModelState) (team : Team) → IsSound z → AllKnow team z → AreHeeded (programs_of c) z team
all_heeded c z team sound k = record {
  feed = λ call r e f. heeded _ z Feed _ call r (feed.feed_heeds team.feed z sound (table.table_room team.table z k.table.1) k.feed.0 k.feed.1) e f;
  table = λ call r e f. heeded _ z Table _ call r (table.table_heeds team.table z sound k.table.0 k.table.1) e f;
  robot = λ call r e f. heeded _ z Robot _ call r (robot.robot_heeds team.robot z sound (deposit.deposit_room team.deposit z k.deposit.1) k.robot.0 k.robot.1) e f;
  press = λ call r e f. heeded _ z Press _ call r (press.press_heeds team.press z sound k.press.0 k.press.1) e f;
  deposit = λ call r e f. heeded _ z Deposit _ call r (deposit.deposit_heeds team.deposit z sound k.deposit.0 k.deposit.1) e f;
  crane = λ call r e f. heeded _ z Crane _ call r (crane.crane_heeds team.crane z sound (feed.feed_room team.feed z k.feed.0 k.feed.1) k.crane.0 k.crane.1) e f;
}

module _ (c : CellScales) (opening : ModelState) (h : List Event) (first team : Team) (sound : IsSound opening) (legal : IsLegal opening h) (by : HaveComeFrom (programs_of c) first h team) where
  -- nobody hands over an empty zone
  own : OwnYieldless h
  own Feed e = own_yieldless (program_with_stops feed_steps) first.feed team.feed (own_events h Feed) (λ p. feed.never_yields p.step p) by.feed
  own Table e = own_yieldless (program_with_stops (table_steps c.turn (IsReading c.turn))) first.table team.table (own_events h Table) (λ p. table.never_yields p.step p) by.table
  own Robot e = own_yieldless (program_with_stops (robot_steps (robot_points c) (near_lines (robot_points c)))) first.robot team.robot (own_events h Robot) (λ p. robot.never_yields p.step p) by.robot
  own Press e = own_yieldless (program_with_stops press_steps) first.press team.press (own_events h Press) (λ p. press.never_yields p.step p) by.press
  own Deposit e = own_yieldless (program_with_stops deposit_steps) first.deposit team.deposit (own_events h Deposit) (λ p. deposit.never_yields p.step p) by.deposit
  own Crane e = own_yieldless (program_with_stops (crane_steps c.gripper (IsReading c.gripper))) first.crane team.crane (own_events h Crane) (λ p. crane.never_yields p.step p) by.crane
  own Watch e = cc

  polite : AreYieldless opening h
  polite = yieldless opening h own

  -- what each machine knew it knows at its step
  pub all_know : AllKnow first opening → AllKnow team (after opening h)
  all_know k = record {
    feed = reached_both feed_steps feed_facts.FeedKnows feed.FeedMore feed_facts.feed-knowing feed.feed-more first.feed team.feed opening h sound legal polite k.feed by.feed;
    table = reached_both (table_steps c.turn (IsReading c.turn)) table_facts.TableKnows table.TableMore (table_facts.table-knowing c.turn (IsReading c.turn)) (table.table-more c.turn (IsReading c.turn)) first.table team.table opening h sound legal polite k.table by.table;
    robot = reached_both (robot_steps (robot_points c) (near_lines (robot_points c))) robot_facts.RobotKnows robot.RobotMore (robot_facts.robot-knowing (robot_points c) (near_lines (robot_points c))) (robot.robot-more (robot_points c) (near_lines (robot_points c))) first.robot team.robot opening h sound legal polite k.robot by.robot;
    press = reached_both press_steps press_facts.PressKnows press.PressMore press_facts.press-knowing press.press-more first.press team.press opening h sound legal polite k.press by.press;
    deposit = reached_both deposit_steps deposit_facts.DepositKnows deposit.DepositMore deposit_facts.deposit-knowing deposit.deposit-more first.deposit team.deposit opening h sound legal polite k.deposit by.deposit;
    crane = reached_both (crane_steps c.gripper (IsReading c.gripper)) crane_facts.CraneKnows crane.CraneMore (crane_facts.crane-knowing c.gripper (IsReading c.gripper)) (crane.crane-more c.gripper (IsReading c.gripper)) first.crane team.crane opening h sound legal polite k.crane by.crane;
  }

-- from a start
pub none-refused : NoMachineIsRefused
none-refused c opening h team start legal by =
    let sound = sound_start opening start in
    let come : HaveComeFrom (programs_of c) (first_team (programs_of c) opening) h team = record { feed = by.feed; table = by.table; robot = by.robot; press = by.press; deposit = by.deposit; crane = by.crane } in
    all_heeded c (after opening h) team (sound-after opening h sound) (all_know c opening h (first_team (programs_of c) opening) team sound legal come (all_begin c opening start))
