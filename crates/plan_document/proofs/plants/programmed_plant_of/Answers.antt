use Rattle.std.proofs.Common.{sym, subst}
use Rattle.plan_document.specs.Plants.{IsPlantTableOf}
use Rattle.plan_document.proofs.PlantLines.{plans_by}
use Rattle.plan_document.proofs.plants.programmed_plant_of.Goals as goal

pub returns : goal.returns
returns c =
    let d = c.args.document.now in
    record {
      table = subst (IsPlantTableOf d) (sym c.in-Ok.ensures.plant) c.in_ok-zones.ensures.tables;
      laid_out = c.in-Ok.ensures.laid_out;
      count = c.in_ok-made.ensures.count;
      plans = plans_by d c.in-Ok.words c.in_ok-made.made c.in_ok-made.ensures.plans;
      programs = c.in_ok-programs.ensures;
    }
