use Rattle.std.proofs.Common.{refl}
use Rattle.plan_types.specs.SpaceExamples.{robots_table, aisle_table, five_shuttles, changer_table, after_table, first_joins}
use Rattle.plan_types.proofs.lemmas.Checked.{is_plan}
use Rattle.plan_types.proofs.examples.spaces_are_met.Goals as goal

pub returns : goal.returns
returns c = record { robots = is_plan robots_table refl; aisle = is_plan aisle_table refl; shuttles = is_plan five_shuttles refl; changer = is_plan changer_table refl; after = is_plan after_table refl; alone = is_plan first_joins refl; spaces = refl; four_zones = refl; two_spaces = refl; plain_spaces = refl; same = refl; enter = refl; enter_second = refl; enter_nowhere = refl; loaders = refl; unloaders = refl; plain = refl; robots_bits = refl; aisle_bits = refl; shuttles_bits = refl; changer_bits = refl; widths = refl; owners = refl; bytes = refl; bytes_with_way = refl; two_hosts = refl; guest_twice = refl; moves_first = refl; moves_second = refl; leaves_first = refl; leaves_second = refl; leaves_both = refl; foreign = refl; host_first = refl; alike = refl; both_moving = refl; both_left = refl }
