use Rattle.std.proofs.Common.{◌≡◌, All, subst}
use Rattle.plan_workers.proofs.PlantLaws.{words_keep_pace}
use Rattle.plan_workers.proofs.PlantRecording.{begins_in_place}
use Rattle.plan_workers.proofs.plant_run.PlantJob.new.Goals as goal

pub returns-clause-ready : goal.returns-clause-ready
returns-clause-ready g c = λ words of.
    let pass = c.args.pass in
    let k = c.args.controller in
    let own = subst (λ m. All (λ v. v.actor ≡ m) pass.rights) c.actor-machine.ensures.machine c.actor-machine.ensures.rights in
    record {
      own = of;
      in_place = begins_in_place words pass k c.rounds_begin_anywhere.ensures (λ w. (words_keep_pace k w).begins c.requires.begins) own c.requires.own c.requires.each_word of.plant;
    }
