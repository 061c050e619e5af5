use Rattle.std.proofs.Common.{◌≡◌, true, false, None, refl}
use Rattle.plan_types.specs.declared.posture.Posture.TheVariants.{Closed, Moving}
use Rattle.plan_types.specs.declared.answer.Refusal.TheVariants.{NotParty, Held, Shut}
use Rattle.plan_types.specs.declared.answer.Answer.TheVariants.{Done, Shown, Refused}
use Rattle.plan_rules.proofs.Breaking.{lost_by_release, going_by_resume}
use Rattle.plan_rules.proofs.HoldingRows.{holding}
use Rattle.plan_rules.proofs.examples.events_are_met.Goals as goal

pub returns-clause-holding : goal.returns-clause-holding
returns-clause-holding c = holding

pub returns-clause-events : goal.returns-clause-events
returns-clause-events c = record {
  gained = record { claim = refl; claim_of_other = refl; give = refl; give_back = refl; give_of_other = refl; give_by_stranger = refl; yield = refl; yield_back = refl; yield_of_other = refl; yield_by_stranger = refl; take = refl; release = refl; pose = refl; inquire = refl; stop = refl; resume = refl };
  lost = record { claim = refl; give = refl; give_of_other = refl; yield = refl; yield_of_other = refl; release = refl; release_of_other = refl; take = refl; pose = refl; inquire = refl; stop = refl; resume = refl };
  done_alone = record { claimed = refl; claim_refused = refl; released = refl; release_refused = refl; stopped = refl; stop_refused = refl; resume_is_no_stop = refl; resumed = refl; resume_refused = refl; stop_is_no_resume = refl; claim_is_neither = refl; stopped_by_other = refl; resumed_by_other = refl; count = refl; inquiry = refl };
  postures = record { opening = refl; last = refl; refused = refl; other_call = refl; first_zone = refl; second_zone = refl; left = refl; given = refl; state = refl };
  not_legal = record {
    first = λ legal. let e : Done ≡ Refused (Shut Closed) = legal.0 in cc;
    second = λ legal. let e : Done ≡ Refused (Held 1) = legal.1.0 in cc;
    wrong_posture = λ legal. let e : Refused (Shut Moving) ≡ Refused (Shut Closed) = legal.0 in cc;
    other_refusal = λ legal. let e : Refused NotParty ≡ Refused (Shut Closed) = legal.0 in cc;
    third = λ legal. let e : Done ≡ Refused (Held 1) = legal.1.1.0 in cc;
    not_shown = λ legal. let e : Shown None true Closed ≡ Shown None false Closed = legal.0 in cc;
    released = lost_by_release;
    resumed = going_by_resume;
  };
}
