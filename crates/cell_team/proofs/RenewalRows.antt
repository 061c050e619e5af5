-- The example renewals.
use Rattle.std.proofs.Common.{◌≤◌, ℕ, [], refl, arith, rules}
use Rattle.cell_rules.specs.Names.{empty, last_stamp, start_state}
use Rattle.cell_parts.specs.Axes.{CellScales}
use Rattle.cell_team.specs.Team.{programs_of}
use Rattle.cell_team.specs.Renewals.{HaveComeFrom, IsRenewed, StandAfter, first_team, six_at_start, RenewalExamples}

-- no machine has moved
still : (c : CellScales) → HaveComeFrom (programs_of c) (six_at_start c) [] (six_at_start c)
still c = record {
  feed = (0, refl);
  table = (0, refl);
  robot = (0, refl);
  press = (0, refl);
  deposit = (0, refl);
  crane = (0, refl);
}

once_more : (c : CellScales) (renewals before stamp : ℕ) → stamp ≤ last_stamp
    → StandAfter (programs_of c) renewals (start_state empty before) (six_at_start c)
    → IsRenewed (programs_of c) (StandAfter (programs_of c) renewals) (start_state empty stamp) (six_at_start c)
once_more c renewals before stamp fits stood = record {
  before = start_state empty before;
  first = six_at_start c;
  stood = stood;
  history = [];
  legal = tt;
  come = still c;
  stamp = stamp;
  in_range = fits;
  opens = refl;
}

never : (c : CellScales) → StandAfter (programs_of c) 0 (start_state empty 0) (six_at_start c)
never c = (record { start = search rules; same = refl }, refl)

pub renewals_are_met : (c : CellScales) → RenewalExamples c
renewals_are_met c = record {
  never = never c;
  once = λ stamp fits. once_more c 0 0 stamp fits (never c);
  twice = once_more c 1 0 last_stamp (omega arith) (once_more c 0 0 0 (omega arith) (never c));
  each_has_come = λ first history team feed table robot press deposit crane. record {
    feed = feed;
    table = table;
    robot = robot;
    press = press;
    deposit = deposit;
    crane = crane;
  };
  after_a_run = λ start history team stamp starts legal come fits. record {
    before = start;
    first = first_team (programs_of c) start;
    stood = (starts, refl);
    history = history;
    legal = legal;
    come = come;
    stamp = stamp;
    in_range = fits;
    opens = refl;
  };
}
