use Rattle.std.proofs.Common.{arith}
use Rattle.std.proofs.lemmas.List.Elements.{All-push}
use Rattle.plan_workers.specs.Recording.{IsKept}
use Rattle.plan_workers.proofs.PlantRecording.{kept_by, more_items, more_of}
use Rattle.plan_workers.proofs.plant_record.take_lines_apart.Goals as goal

pub lines-preserved : goal.lines-preserved
lines-preserved c =
    let old = c.lines.invariant in
    let line = c.in-Some.line in
    let parts = c.into_parts-right.ensures in
    let journal = c.into_parts-right.result.1 in record {
      rights = more_of (λ l. l.line.pass) c.lines.yielded line c.lines.rights.items c.push_reserved.new.self.items c.into_parts-right.result.0 old.rights c.push_reserved.ensures.items parts.pass;
      journals = more_items c.lines.yielded line c.lines.journals.items c.push_reserved-in-lines.new.self.items journal old.journals c.push_reserved-in-lines.ensures.items parts.journal;
      kept = All-push IsKept c.lines.yielded line old.kept (kept_by line c.into_parts-right.result.0 journal.items parts.pass parts.journal parts.own);
      rights_room = grind (arith, old.rights_room, c.push_reserved.ensures.capacity);
      journals_room = grind (arith, old.journals_room, c.push_reserved-in-lines.ensures.capacity);
    }
