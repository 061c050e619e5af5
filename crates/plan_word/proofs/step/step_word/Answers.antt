use Rattle.std.proofs.Common.{◌≤◌, sym, subst, refl}
use Rattle.plan_rules.specs.declared.state.State.{State}
use Rattle.plan_rules.specs.State.{last_stamp}
use Rattle.plan_word.proofs.lemmas.Staying.{next_stays}
use Rattle.plan_word.proofs.step.step_word.Goals as goal

pub pack-requires-clause-stamp : goal.pack-requires-clause-stamp
pack-requires-clause-stamp c =
    let of = ((c.in-Some.ensures.some c.in-Some.state).0 refl).0 in
    let stays = next_stays c.args.plan.now c.in-Some.state c.args.machine c.args.call c.machines.ensures.plan of in
    subst (λ (s : State). s.stamp ≤ last_stamp) (sym c.apply-answer.ensures.next) stays.sound.stamp_in_range
