use Rattle.std.proofs.Common.{ℕ, [], ◌∷◌, Option, option_map, refl, ap}
use Rattle.plan_types.specs.declared.call.Call.TheVariants as call
use Rattle.plan_text.proofs.OwnPoses.{names_numbered}
use Rattle.plan_text.proofs.laws.texts_are_by_number.Goals as goal

pub returns-clause-names : goal.returns-clause-names
returns-clause-names c = λ name names number. record { first = refl; next = refl; past = refl }

pub returns-clause-numbers : goal.returns-clause-numbers
returns-clause-numbers c = names_numbered

pub returns-clause-calls : goal.returns-clause-calls
returns-clause-calls c = λ n number. record {
  claim = refl;
  give = refl;
  yield = refl;
  take = refl;
  release = refl;
  inquire = refl;
  pose = refl;
  advance = refl;
  stop = refl;
  resume = refl;
  read = λ machine name e. ap
      (λ (o : Option ℕ). option_map call.Claim o ∷ option_map call.Give o ∷ option_map call.Yield o ∷ option_map call.Take o ∷ option_map call.Release o ∷ option_map call.Inquire o ∷ [])
      e;
}

pub returns-clause-answers : goal.returns-clause-answers
returns-clause-answers c = λ n number posture. record {
  held = refl;
  shut = refl;
  not_owner = refl;
  no_owner = refl;
  plate_in = refl;
  full = refl;
  empty = refl;
  free_full = refl;
  free_empty = refl;
  done = refl;
  bare = refl;
}
