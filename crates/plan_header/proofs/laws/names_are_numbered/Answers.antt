use Rattle.plan_header.proofs.NoneLeft.{none-left}
use Rattle.plan_header.proofs.NumbersTold.{lines-numbered, names-have-no-blank, names-numbered, share-no-name}
use Rattle.plan_header.proofs.laws.names_are_numbered.Goals as goal

pub returns : goal.returns
returns c = record {
  each = names-numbered;
  names = names-have-no-blank;
  lines = lines-numbered;
  apart = share-no-name;
  none_left = none-left;
}
