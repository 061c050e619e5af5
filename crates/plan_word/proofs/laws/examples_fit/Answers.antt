use Rattle.std.proofs.Common.{refl}
use Rattle.plan_word.proofs.laws.examples_fit.Goals as goal

pub returns : goal.returns
returns c = record { press = refl; press_places = refl; press_stamp = refl; press_stop = refl; lift = refl; lift_zone = refl; widest = refl; zones = refl; last_zone = refl; no_ninth_zone = refl; places = refl; last_place = refl; no_fourth_place = refl; stamp = refl; stop = refl; bits = refl; middle = refl; empty = refl; empty_starts = refl; empty_width = refl; gates = refl; plan_of_gates = refl; roads = refl; rack = refl; lift_counts = refl }
