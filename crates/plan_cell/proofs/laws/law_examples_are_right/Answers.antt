use Rattle.std.proofs.Common.{◌≡◌, true, false, Some, None, refl, sym, subst, arith}
use Rattle.cell_types.specs.declared.machine.Machine.TheVariants.{Feed, Crane, Watch}
use Rattle.cell_types.specs.declared.zone.Zone.TheVariants.{Z1, Z3, Z6}
use Rattle.cell_types.specs.declared.posture.Posture.TheVariants.{OpenOut}
use Rattle.cell_types.specs.declared.call.Call.TheVariants.{Yield}
use Rattle.cell_types.specs.declared.answer.Refusal.TheVariants.{NotOwner}
use Rattle.cell_types.specs.declared.answer.Answer.TheVariants.{Refused}
use Rattle.plan_cell.specs.Laws.{is_own_rule}
use Rattle.cell_rules.specs.PlaceSet.{empty}
use Rattle.plan_types.specs.declared.call.Call.TheVariants as by_plan
use Rattle.plan_types.specs.declared.posture.Posture.TheVariants as posture
use Rattle.plan_types.specs.declared.answer.Answer.TheVariants.{Shown}
use Rattle.plan_cell.specs.LawExamples.{held_in, cell_at, press_given, belt_runs}
use Rattle.plan_cell.proofs.AnyAnswers.{one_refusal, undone, done_calls, undone_calls, own_refusals}
use Rattle.plan_cell.proofs.laws.law_examples_are_right.Goals as goal

pub returns-clause-laws : goal.returns-clause-laws
returns-clause-laws c = record {
  done = done_calls;
  undone = undone_calls;
  any = λ answers after s m c d is. record {
    refused = λ k un done. un (k s m c d is done).0;
    left = λ k done. (k s m c d is done).1;
    undone = λ k r. undone answers k s m c d is r;
  };
  own = own_refusals;
  not_owner = λ refused.
      let answer : Refused (NotOwner None) ≡ Refused refused.refusal = refused.answer in
      let rule : false ≡ true = subst (λ r. is_own_rule belt_runs Feed (Yield Z1) r ≡ true) (sym (one_refusal answer)) refused.rule in
      cc;
  feed_owns = refl;
}

pub returns-clause-inquiries : goal.returns-clause-inquiries
returns-clause-inquiries c = record {
  flag = λ k. let e : Shown (Some 3) false posture.OpenIn ≡ Shown (Some 3) true posture.OpenIn = k press_given Watch Z3 (by_plan.Inquire 2) refl in cc;
  owner = λ k. let e : Shown None true posture.OpenIn ≡ Shown (Some 3) true posture.OpenIn = k press_given Watch Z3 (by_plan.Inquire 2) refl in cc;
  posture = λ k. let e : Shown (Some 3) true posture.OpenOut ≡ Shown (Some 3) true posture.OpenIn = k press_given Watch Z3 (by_plan.Inquire 2) refl in cc;
  of_press = λ answers k. k press_given Watch Z3 (by_plan.Inquire 2) refl;
  of_crane = λ answers k. k (cell_at Z6 (held_in Crane OpenOut) empty true) Feed Z6 (by_plan.Inquire 5) refl;
}

pub returns-clause-numbers : goal.returns-clause-numbers
returns-clause-numbers c = record {
  machines = refl;
  zones = refl;
  places = refl;
  more_places = refl;
  table = refl;
  press = refl;
  feed = refl;
  deposit = refl;
  of_robot = refl;
  claim = refl;
  give = refl;
  yield = refl;
  take = refl;
  release = refl;
  pose = refl;
  inquire = refl;
}

pub returns-clause-tables : goal.returns-clause-tables
returns-clause-tables c = record {
  sound = λ s. record {
    plates = λ law k. (law s k).one_plate_a_place 4;
    zone = λ law k. (law s k).zone_is_lawful 5 (omega arith);
    stamp = λ law k. (law s k).stamp_in_range;
  };
  rows = record { machines = refl; zones = refl; places = refl; poses = refl; hosts = refl; guests = refl; keepers = refl; inward = refl; outward = refl; posing = refl; after_moving = refl; table_z1 = refl; table_z2 = refl; press_z3 = refl; feed_z6 = refl; deposit_z4 = refl; deposit_z5 = refl };
  states = record { postures = refl; zone = refl; free = refl; state = refl; zones = refl; places = refl; stop = refl; shown = refl };
  own = record { held_back = refl; belt_is_empty = refl; yield = refl; release = refl; other_refusal = refl; feed_runs = refl; feed_runs_empty = refl; deposit_runs = refl; press_opens = refl; press_opens_empty = refl; press_unloads = refl };
}
