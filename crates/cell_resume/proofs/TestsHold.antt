-- The test of six machines meets its figures.
use Rattle.std.proofs.Common.{◌≡◌, Option, Some, ap, option_map, refl}
use Rattle.cell_belts_crane.specs.declared.feed.FeedStep.TheVariants as at_feed
use Rattle.cell_table_press.specs.declared.table.TableStep.TheVariants as at_table
use Rattle.cell_robot.specs.declared.robot.RobotStep.TheVariants as at_robot
use Rattle.cell_table_press.specs.declared.press.PressStep.TheVariants as at_press
use Rattle.cell_belts_crane.specs.declared.deposit.DepositStep.TheVariants as at_deposit
use Rattle.cell_belts_crane.specs.declared.crane.CraneStep.TheVariants as at_crane
use Rattle.cell_resume.proofs.Names.{CraneProgress, DepositProgress, FeedProgress, PressProgress, RobotProgress, TableProgress}
use Rattle.cell_resume.specs.TestExamples.{TestsAreMet}

pub tests_hold : TestsAreMet
tests_hold = record {
  tested = record { no_step = refl; astray = refl; in_step = refl; goes_on = refl; ends = refl };
  team = record {
    start = refl;
    full = refl;
    forged = refl;
    no_feed = refl;
    no_table = refl;
    no_robot = refl;
    no_press = refl;
    no_deposit = refl;
    no_crane = refl;
    feed_astray = refl;
    table_astray = refl;
    robot_astray = refl;
    press_astray = refl;
    deposit_astray = refl;
    crane_astray = refl;
    first_of_two = refl;
  };
  first_told = record {
    all_six = refl;
    last_five = refl;
    last_four = refl;
    last_three = refl;
    last_two = refl;
    feed_and_table = refl;
    table_and_robot = refl;
    robot_and_press = refl;
    press_and_deposit = refl;
    all_astray = refl;
  };
  others = record {
    numbers = record { feed = refl; table = refl; robot = refl; press = refl; deposit = refl; crane = refl };
    feed = λ k. (let e : Some at_feed.ClaimEntry ≡ Some at_feed.TakePlate = ap (λ (o : Option FeedProgress). option_map (λ (p : FeedProgress). p.step) o) k.feed in cc);
    table = λ k. (let e : Some at_table.ClaimEntry ≡ Some at_table.MoveToUnloading = ap (λ (o : Option TableProgress). option_map (λ (p : TableProgress). p.step) o) k.table in cc);
    robot = λ k. (let e : Some at_robot.TurnToTable ≡ Some at_robot.GiveToPress = ap (λ (o : Option RobotProgress). option_map (λ (p : RobotProgress). p.step) o) k.robot in cc);
    press = λ k. (let e : Some at_press.ClaimFirst ≡ Some at_press.TakePlate = ap (λ (o : Option PressProgress). option_map (λ (p : PressProgress). p.step) o) k.press in cc);
    deposit = λ k. (let e : Some at_deposit.ClaimEntry ≡ Some at_deposit.RunOut = ap (λ (o : Option DepositProgress). option_map (λ (p : DepositProgress). p.step) o) k.deposit in cc);
    crane = λ k. (let e : Some at_crane.RaiseToFetch ≡ Some at_crane.GivePlate = ap (λ (o : Option CraneProgress). option_map (λ (p : CraneProgress). p.step) o) k.crane in cc);
    stands = record { feed = refl; table = refl; robot = refl; press = refl; deposit = refl; crane = refl };
    feed_astray = λ k. (let e = k.feed in cc);
    table_astray = λ k. (let e = k.table in cc);
    robot_astray = λ k. (let e = k.robot in cc);
    press_astray = λ k. (let e = k.press in cc);
    deposit_astray = λ k. (let e = k.deposit in cc);
    crane_astray = λ k. (let e = k.crane in cc);
  };
  wrong = record {
    feed = refl;
    table = refl;
    robot = refl;
    press = refl;
    deposit = refl;
    crane = refl;
    step_of_feed = λ k. cc;
    step_of_crane = λ k. cc;
    step_of_watch = λ k. k;
    feed_astray = (_, refl, refl);
    table_astray = (_, refl, refl);
    robot_astray = (_, refl, refl);
    press_astray = (_, refl, refl);
    deposit_astray = (_, refl, refl);
    crane_astray = (_, refl, refl);
    watch_astray = λ k. k;
    state_is_known = λ k. k;
  };
  bytes = record { each = λ a b c d e f g h feed table robot press deposit crane. refl; lowest_first = refl; great_numbers = refl };
  resumed = λ stood s. record { goes_on = refl; begins_anew = refl; row = refl };
}
