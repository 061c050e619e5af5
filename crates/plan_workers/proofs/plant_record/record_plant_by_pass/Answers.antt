use Rattle.std.proofs.Common.{◌≡◌, ◌∙◌, List, length, map, ap, refl, sym}
use Rattle.plan_workers.specs.Recording.{JournalLineView}
use Rattle.plan_workers.proofs.PlantRecording.{between, from_where_it_was, in_place, lines_stay, own_rights, same_plant, same_program_between, same_rights, wired, word_journals}
use Rattle.plan_workers.proofs.Recording.{Stays}
use Rattle.plan_workers.proofs.plant_record.record_plant_by_pass.Goals as goal

pub going_on-worker-requires : goal.going_on-worker-requires
going_on-worker-requires g c = record { wired = wired c.args.interlock.now c.args.job.pass c.args.job.controller c.in-Ok.lines.items c.requires.ready.in_place c.in-Ok.ensures.begun }

pub of_rights-requires : goal.of_rights-requires
of_rights-requires g c =
    let program = same_program_between c.going_on-worker.result.control c.work-turns.new.self.control c.args.job.controller c.into_parts-controller.result.0 c.going_on-worker.ensures.control c.into_parts-controller.ensures.control c.work-turns.ensures.program in
    record {
      own = own_rights c.into_parts-controller.result.0 c.into_parts-controller.result.1.items c.take_lines_apart-rights.result.0.items c.actor-machine.result c.take_lines_apart-rights.ensures.rights c.into_parts-controller.ensures.wired
          (program.machine ∙ (c.requires.ready.in_place.own ∙ sym c.actor-machine.ensures.machine));
    }

pub returns : goal.returns
returns g c =
    let reads = g.D.PlanDevices.reads in
    let drives = g.D.PlanDevices.drives in
    let words = c.args.interlock.now in
    let job = c.args.job in
    let ready = c.requires.ready in
    let begun = c.in-Ok.ensures.begun in
    let made = c.going_on-worker.ensures in
    let first = c.going_on-worker.result in
    let end = c.work-turns.new.self in
    let ended = c.into_parts-controller.ensures in
    let d = c.into_parts-controller.result.0 in
    let lines = c.in-Ok.lines.items in
    let last = c.into_parts-controller.result.1.items in
    let back = c.of_rights.result in
    let apart = c.take_lines_apart-rights.ensures in
    let journals = c.take_lines_apart-rights.result.1.items in
    let worked = from_where_it_was reads drives (g.G.PlanGate.may_answer c.args.gate.now) c.args.turns c.work-turns.result job lines first end ready.in_place.own made.control made.lines made.devices c.work-turns.ensures.worked in
    let many : length last ≡ length lines = ap length ended.lines ∙ (c.work-turns.ensures.each_word ∙ ap length made.lines) in
    let stay = between (λ _ l m. Stays l m) lines end.lines lines last refl ended.lines (lines_stay reads drives _ _ _ _ _ worked) in
    let plans = between (λ _ (l m : JournalLineView). m.line.plan ≡ l.line.plan) first.lines end.lines lines last made.lines ended.lines c.work-turns.ensures.table in
    let program = same_program_between first.control end.control job.controller d made.control ended.control c.work-turns.ensures.program in
    let actor = c.of_rights.ensures.machine ∙ c.actor-machine.ensures.machine in
    let rights = c.of_rights.ensures.rights ∙ apart.rights in record {
      lines = lines;
      begun = begun;
      last = end;
      worked = worked;
      rights_back = rights ∙ ap (λ (ls : List JournalLineView). map (λ l. l.line.pass) ls) ended.lines;
      same = same_plant words job.pass back job.controller d lines last ready.own ready.in_place begun many stay plans program ended.wired actor rights;
      same_rights = same_rights words job.pass back job.controller d lines last ready.own ready.in_place begun many stay plans program ended.wired actor rights;
      control = ended.control;
      in_place = in_place words job.pass back job.controller d lines last ready.own ready.in_place begun many stay plans program ended.wired actor rights;
      off = ended.off;
      stopped = c.stopped_by-stopped_by.ensures ∙ ap (λ x. x.stopped) ended.control;
      journals = word_journals words job.pass back job.controller d lines last ready.own ready.in_place begun many stay plans program ended.wired actor rights journals apart.journals apart.kept;
    }
