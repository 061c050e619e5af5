-- The examples of `pages_are_shown`.
use Rattle.std.proofs.Common.{◌≡◌, refl, ap, get_or, arith}
use Rattle.std.specs.Fmt.{digits}
use Rattle.plan_motors.specs.Mask.{mask_of, pattern_of}
use Rattle.plan_word.specs.Packed.{packed}
use Rattle.plan_app.specs.PageExamples.{DataIsTold, LinesAreShown, OrdersAreChosen, OrdersAreShown}
use Rattle.plan_app.specs.PageData.{bits_text, machines_part, motor_text, motors_part, parties_text, postures_text, programs_part, tables_part, ways_text}
use Rattle.plan_app.specs.Pages.{max_turns}

pub data-told : DataIsTold
unfolding digits mask_of pattern_of ways_text postures_text parties_text bits_text motor_text machines_part tables_part motors_part programs_part
data-told = record {
  of_press = refl;
  of_junction = refl;
  nothing = refl;
  forth = refl;
  back = λ e. let lie : 48 ≡ 49 = ap (λ l. get_or l 1 0) e in omega (arith, lie);
  no_way = refl;
  shut = refl;
  one_more = refl;
  parties = refl;
  guest_first = λ e. let lie : 49 ≡ 48 = ap (λ l. get_or l 29 0) e in omega (arith, lie);
  keeper = λ e. let lie : 49 ≡ 48 = ap (λ l. get_or l 26 0) e in omega (arith, lie);
  second = refl;
  both = refl;
  stranger = refl;
  waits = refl;
  other_sensor = refl;
  none_of_it = refl;
}

pub lines-shown : LinesAreShown
unfolding digits packed
lines-shown = record {
  of_press = refl;
  of_junction = refl;
  inquired = refl;
  refused = λ e. let lie : 10 ≡ 54 = ap (λ l. get_or l 35 0) e in omega (arith, lie);
  before = λ e. let lie : 101 ≡ 54 = ap (λ l. get_or l 35 0) e in omega (arith, lie);
}

pub orders-shown : OrdersAreShown
unfolding digits max_turns
orders-shown = record {
  still = refl;
  still_note = refl;
  one_turn = refl;
  points = λ order passes. rw (passes.stem, passes.cycle) refl;
  nobody = λ order passes. rw (passes.stem, passes.cycle) refl;
  whole = λ order passes. rw (passes.stem, passes.cycle) refl;
  vain = refl;
  as_before = refl;
  could = refl;
  shown = refl;
  own = refl;
  starves_note = refl;
  rests_note = refl;
  most = refl;
}

pub orders-chosen : OrdersAreChosen
orders-chosen = record {
  first = λ b x y. refl;
  none = λ b r. refl;
  of_first = λ b x y z. refl;
  by_relay = λ relay x. refl;
  by_all = λ b x. refl;
  plates = λ b z. refl;
  no_places = λ b z. refl;
  moving = λ b. refl;
}
