-- The examples of `words_are_told` and `plates_are_told`.
use Rattle.std.proofs.Common.{refl}
use Rattle.std.specs.Fmt.{digits}
use Rattle.plan_app.specs.WordExamples.{PlatesAreTold, WordsAreTold}

pub words-told : WordsAreTold
unfolding digits
words-told = record {
  silent = λ t. refl;
  always = λ t. refl;
  if_it = λ t order. refl;
  if_other = λ t order. refl;
  if_all = λ t order. refl;
  if_it_by_relay = λ t order. refl;
  if_two = λ t order. refl;
  if_it_of_door = λ t order. refl;
  if_other_of_door = λ t order. refl;
  if_it_of_door_by_relay = λ t order. refl;
  if_two_of_door = λ t order. refl;
  if_two_by_door = λ t order. refl;
  starves = λ t order. refl;
  unknown = λ t reason. refl;
}

pub plates-told : PlatesAreTold
unfolding digits
plates-told = record {
  move = λ t ps s. refl;
  rest = λ t ps s order empty. rw (empty.stem, empty.cycle) refl;
  unknown = λ t ps s reason. refl;
  machine = λ t ps s order empty. rw (empty.stem, empty.cycle) refl;
}
