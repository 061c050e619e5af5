use Rattle.std.proofs.Common.{◌≡◌, true, false, refl, arith}
use Rattle.plan_word.specs.Packed.{packed}
use Rattle.plan_interlock.proofs.laws.book_examples_are_right.Goals as goal

pub returns-clause-book : goal.returns-clause-book
unfolding packed
returns-clause-book c = record {
  refuses = refl;
  does = refl;
  counts = refl;
  last = refl;
  done = refl;
  shown = refl;
  refused = refl;
  word = refl;
  same = refl;
  other = refl;
  event_of = refl;
  actor = refl;
  call = refl;
  answer = refl;
  third_place = λ k. let e : true ≡ false = k.1.no_more_plates 2 (omega arith) in cc;
  no_plan = λ k. k.0.host_is_not_guest 0 (omega arith) refl;
  most = refl;
}

pub returns-clause-order : goal.returns-clause-order
returns-clause-order c = record {
  runs = λ t k. k.runs;
  asked = λ t k. k.receipts;
  seen = λ r k. k.seen;
  moments = λ r k. k.shown;
  receipts = λ r k. k.receipts;
  paid = λ t k. k.paid;
  few = λ t k. k.few;
}
