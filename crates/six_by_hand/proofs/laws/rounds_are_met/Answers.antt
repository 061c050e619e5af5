use Rattle.std.proofs.Common.{◌≡◌, Some, None, refl}
use Rattle.cell_rules.specs.Names.{ModelState}
use Rattle.std.specs.Prelude.{Option}
use Rattle.six_by_hand.proofs.laws.rounds_are_met.Goals as goal

pub returns : goal.returns
returns c = record {
  opens = λ state round next. next.opens;
  explained = λ left round next. (next.history, next.explained);
  first = λ round history audited. record { opens = tt; history = history; explained = audited };
  next = λ left stamp round history same audited. record { opens = (stamp, same); history = history; explained = audited };
  keeps = λ round. refl;
  fails = λ round left. refl;
  kept = λ round left taken. taken;
  not_kept = λ round taken. let none : ◌≡◌ {A = Option ModelState} None (Some round.end) = taken in cc;
  fault = λ round fault left other taken. other taken;
}
