-- The law of the jobs of a run.
use Rattle.std.proofs.Common.{◌∙◌, ◌<◌, ap, sym, subst}
use Rattle.std.proofs.lemmas.Option.{slice_get_within}
use Rattle.plan_workers.specs.PlantSteps.{steps_on}
use Rattle.plan_app.specs.JobLaws.{PlantRunsAreByPrograms, RunsAreByPrograms}
use Rattle.plan_app.specs.PlantRuns.{machines_by}
use Rattle.plan_app.specs.WholePrograms.{calls_of, program_by}

pub runs_by_programs : RunsAreByPrograms
runs_by_programs plan turns start backs run m job low =
    let is = run.each m job (subst (λ count. m < count) (sym run.many) low) in
    record {
      pass = is.machine;
      machine = ap (λ c. c.machine) is.controller;
      steps = ap (λ c. c.steps) is.controller;
      place = ap (λ c. c.place) is.controller;
    }

pub plant_runs_by_programs : PlantRunsAreByPrograms
plant_runs_by_programs plant turns starts backs run first there m job low =
    let plans = plant.plans.items in
    let is = run.each m job (subst (λ count. m < count) (sym (run.many ∙ ap machines_by there)) low) in
    let steps = ap (λ c. c.steps) is.controller in
    record {
      pass = ap (λ pass. pass.actor) is.pass;
      machine = ap (λ c. c.machine) is.controller;
      on_each = λ word plan at. ap (steps_on word) steps
          ∙ is.program.on_words word (slice_get_within plans word plan at) ∙ ap (λ found. program_by found m) at;
      asks = ap calls_of steps ∙ is.program.asks;
      place = ap (λ c. c.place) is.controller;
    }
