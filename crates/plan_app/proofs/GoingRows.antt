-- The examples of `events_are_told`, `walks_are_told` and `machines_are_told`.
use Rattle.std.proofs.Common.{refl}
use Rattle.std.specs.Fmt.{digits}
use Rattle.plan_app.specs.GoingExamples.{EventLines, MachinesAreTold, WalksAreTold}

pub event-lines : EventLines
event-lines = record {
  asked = refl;
  done = refl;
  posed = refl;
  nothing = refl;
  waits = refl;
  inquires = refl;
  could = refl;
  first = refl;
  same = refl;
  other_answer = refl;
  other_call = refl;
  other_machine = refl;
  gone = refl;
  step = refl;
}

pub walks-told : WalksAreTold
walks-told = record {
  plain = refl;
  way = refl;
  no_turns = refl;
  loader = refl;
  silent = refl;
  starving_loader = λ order turns. rw (turns.stem, turns.cycle) refl;
  starving_press = λ order turns. rw (turns.stem, turns.cycle) refl;
  resting = λ order turns. rw (turns.stem, turns.cycle) refl;
}

pub machines-told : MachinesAreTold
unfolding digits
machines-told = record {
  each = λ t s reason plates. refl;
  fewer = λ t s. refl;
  places = λ t s. refl;
  if_one = λ t s order empty. rw (empty.stem, empty.cycle) refl;
  if_all = λ t s order empty. rw (empty.stem, empty.cycle) refl;
  if_two = λ t s order empty. rw (empty.stem, empty.cycle) refl;
  starves = λ t s order empty. rw (empty.stem, empty.cycle) refl;
}
