use Rattle.std.proofs.Common.{◌≡◌, ◌+◌, ◌∙◌, ap, length, subst, sym}
use Rattle.std.proofs.lemmas.Iterator.Adapters.{YieldsList-from_vec}
use Rattle.std.proofs.lemmas.Iterator.Consumers.{YieldsList-end, YieldsList-turn}
use Rattle.std.proofs.lemmas.List.{length_push}
use Rattle.plan_interlock.specs.Plant.{PlantPassView}
use Rattle.plan_interlock.specs.PlantMake.{new_pass}
use Rattle.plan_app.specs.PlantRuns.{IsPlantJobFor}
use Rattle.plan_app.proofs.PlantRunning.{numbered_more, pass_of_next}
use Rattle.plan_app.proofs.plant_run.jobs_of.Goals as goal

pub job_of-requires-clause-pass : goal.job_of-requires-clause-pass
job_of-requires-clause-pass c =
    let words = c.args.interlock.now in
    let items = c.args.passes in
    let given = c.into_iter-pass-iterator.ensures.into_iter_gives in
    let turn =
    YieldsList-turn (YieldsList-from_vec items.items given.0 (given.1 ∙ items.ok.0)) c.passes.yielded
    c.passes.pass-iterator c.passes.yielded_by c.next.result c.next.new.self c.in-Some.pass c.in-Some.is
    c.next.ensures.steps in
    let own : c.in-Some.pass ≡ new_pass words (length c.passes.yielded) =
    pass_of_next words items.items (length c.passes.yielded) c.in-Some.pass c.requires.passes turn.0 turn.1 in
    own ∙ ap (new_pass words) (sym (c.actor-machine.ensures.machine ∙ ap (λ (p : PlantPassView). p.actor) own))

pub passes-preserved : goal.passes-preserved
passes-preserved c =
    let words = c.args.interlock.now in
    let items = c.args.passes in
    let given = c.into_iter-pass-iterator.ensures.into_iter_gives in
    let turn =
    YieldsList-turn (YieldsList-from_vec items.items given.0 (given.1 ∙ items.ok.0)) c.passes.yielded
    c.passes.pass-iterator c.passes.yielded_by c.next.result c.next.new.self c.in-Some.pass c.in-Some.is
    c.next.ensures.steps in
    let own : c.in-Some.pass ≡ new_pass words (length c.passes.yielded) =
    pass_of_next words items.items (length c.passes.yielded) c.in-Some.pass c.requires.passes turn.0 turn.1 in
    let number : c.actor-machine.result ≡ length c.passes.yielded =
    c.actor-machine.ensures.machine ∙ ap (λ (p : PlantPassView). p.actor) own in
    let old = c.passes.jobs.items in
    let new = c.in_ok-job_of.field-0 in
    let pushed = c.in_ok-push.ensures.items in
    let many = c.passes.invariant.many in
    record {
      many = ap length pushed
          ∙ (length_push old new ∙ (ap (λ n. n + 1) many ∙ sym (length_push c.passes.yielded c.in-Some.pass)));
      each = numbered_more (IsPlantJobFor c.args.plant.now words)
          (length c.passes.yielded) old c.push.new.self.items new c.passes.invariant.each many
          (subst (λ m. IsPlantJobFor c.args.plant.now words m new) number c.in_ok-job_of.ensures.job) pushed;
    }

pub returns-clause-many : goal.returns-clause-many
returns-clause-many c =
    let items = c.args.passes in
    let given = c.into_iter-pass-iterator.ensures.into_iter_gives in
    let end =
    YieldsList-end (YieldsList-from_vec items.items given.0 (given.1 ∙ items.ok.0)) c.passes.yielded
    c.passes.pass-iterator c.passes.yielded_by c.next.result c.next.new.self c.in-None.is c.next.ensures.steps in
    c.passes.invariant.many ∙ end.1
