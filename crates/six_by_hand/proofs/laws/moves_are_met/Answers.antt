use Rattle.std.proofs.Common.{refl}
use Rattle.six_by_hand.proofs.laws.moves_are_met.Goals as goal

pub returns : goal.returns
returns c = record {
  off = refl;
  short = refl;
  stays = refl;
  back = refl;
  plus = refl;
  to_end = refl;
  minus = refl;
  to_beginning = refl;
  runs = refl;
  runs_long = refl;
  in_barrier = refl;
  runs_on = refl;
  stops = refl;
  has_left = refl;
  table = refl;
  arms = refl;
  turns = refl;
  press = refl;
  table_back = refl;
  arms_back = refl;
  press_up = refl;
  press_waits = refl;
  crane_back = refl;
  crane = refl;
}
