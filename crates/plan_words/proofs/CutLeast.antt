-- Groups of literal plants whose places are cut.
use Rattle.std.proofs.Common.{refl}
use Rattle.plan_words.specs.CutLeast.{GroupsWhenCut}

pub groups_when_cut : GroupsWhenCut
groups_when_cut = record {
  cell_whole = refl;
  cell = refl;
  cell_widths = refl;
  lathe_whole = refl;
  lathe = refl;
  lift = refl;
  twenty_whole = refl;
  twenty = refl;
  one_hand = refl;
  takes_from_two = refl;
  tending_whole = refl;
  tending = refl;
}
