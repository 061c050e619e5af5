use Rattle.std.proofs.Common.{◌≡◌, ◌∙◌, map, subst, sym}
use Rattle.std.specs.List.{range_with_len}
use Rattle.plan_interlock.specs.PlantMake.{new_pass}
use Rattle.plan_app.specs.PlantRuns.{HavePlantRun, machine_count}
use Rattle.plan_app.proofs.PlantRunning.{passes_apart}
use Rattle.plan_app.proofs.plant_run.run_by_passes.Goals as goal

pub jobs_of-requires-clause-passes : goal.jobs_of-requires-clause-passes
jobs_of-requires-clause-passes g c =
    let words = c.args.interlock.now in
    let rest = c.pop.new.self.items in
    let apart =
    passes_apart words (machine_count c.args.plant.now.plans.items) c.args.passes.items rest c.pop.result
    c.in-Some.watch c.requires.passes c.pop.ensures.items c.in-Some.is in
    subst (λ n. rest ≡ map (new_pass words) (range_with_len 0 n)) (sym apart.many) apart.machines

pub end_run-requires-clause-run : goal.end_run-requires-clause-run
end_run-requires-clause-run g c =
    let words = c.args.interlock.now in
    let apart =
    passes_apart words (machine_count c.args.plant.now.plans.items) c.args.passes.items c.pop.new.self.items
    c.pop.result c.in-Some.watch c.requires.passes c.pop.ensures.items c.in-Some.is in
    let jobs = c.in_ok-jobs.jobs in
    let backs = c.in_ok-backs.backs in
    subst (HavePlantRun c.args.plant.now c.args.turns c.args.starts.now) (sym c.deref-3.ensures.value) (record {
      words = words;
      opened = c.requires.opened;
      jobs = jobs.items;
      many = c.in_ok-jobs.ensures.many ∙ apart.many;
      each = c.in_ok-jobs.ensures.each;
      all = sym backs.ok.0 ∙ (c.in_ok-backs.ensures.many ∙ jobs.ok.0);
      recorded = c.in_ok-backs.ensures.each;
    })
