use Rattle.std.proofs.Common.{◌≡◌, true, false, is_some, sym, ap, ◌∙◌}
use Rattle.plan_text.specs.declared.calls.Verb.TheVariants.{Claim, Give, Yield, Take, Release, Inquire, Pose, Advance}
use Rattle.plan_text.proofs.OwnPoses.{comes_first, is_found, is_own, others_named}
use Rattle.plan_text.proofs.laws.own_poses_come_first.Goals as goal

pub returns-clause-first : goal.returns-clause-first
returns-clause-first c = record { first = comes_first; own = is_own; found = is_found }

pub returns-clause-others : goal.returns-clause-others
returns-clause-others c = others_named

pub returns-clause-of_one : goal.returns-clause-of_one
returns-clause-of_one c = λ n name call. record {
  claim = λ law e. law.same n 4 Claim name call e;
  give = λ law e. law.same n 4 Give name call e;
  yield = λ law e. law.same n 4 Yield name call e;
  take = λ law e. law.same n 4 Take name call e;
  release = λ law e. law.same n 4 Release name call e;
  inquire = λ law e. law.same n 4 Inquire name call e;
  pose = λ law e. law.same n 4 Pose name call e;
  advance = λ law e. law.same n 4 Advance name call e;
  comes_first = λ law e. law.first n 4 7 name e;
  is_own = λ law e. law.own n 4 7 name e;
  is_found = λ law few own none. let e : false ≡ true = sym (ap is_some none) ∙ law.found n 4 7 few own in cc;
}
