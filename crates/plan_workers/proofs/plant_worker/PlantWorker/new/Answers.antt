use Rattle.plan_workers.specs.PlantTurns.{control_on}
use Rattle.plan_workers.proofs.PlantLaws.{words_keep_pace}
use Rattle.plan_workers.proofs.plant_worker.PlantWorker.new.Goals as goal

pub going_on-requires : goal.going_on-requires
going_on-requires g c = record {
  wired = record {
    each_word = c.requires.each_word;
    own = c.requires.own;
    at = λ w l low. c.rounds_begin_anywhere.ensures _ _ _ (control_on w c.args.controller) ((words_keep_pace c.args.controller w).begins c.requires.begins);
  };
}
