use Rattle.std.proofs.Common.{◌∙◌, ap, sym, arith, map, string_bytes}
use Rattle.std.proofs.lemmas.List.{length-map}
use Rattle.plan_document.specs.OnWord.{is_here, zones_named}
use Rattle.plan_document.specs.Texts.{PostureTexts, posture_texts}
use Rattle.plan_document.specs.declared.document.PostureRow.{PostureRow}
use Rattle.plan_document.proofs.Parted.{numbers_all, numbers_more, zone_at}
use Rattle.plan_document.proofs.parts.posture_numbers.Goals as goal

pub rows-preserved : goal.rows-preserved
rows-preserved c =
    numbers_more (is_here c.args.zones.now) (zones_named (map posture_texts c.args.rows.now)) c.rows.number (string_bytes c.index-rows-number.result.zone) c.rows.numbers.items c.push_if.new.numbers.items c.is_here-there.result
    (zone_at c.args.rows.now c.rows.number c.index-rows-number.result (omega arith) c.index-rows-number.is)
    (c.is_here-there.ensures ∙ ap (is_here c.args.zones.now) c.as_bytes.ensures.value ∙ ap (λ (row : PostureRow). is_here c.args.zones.now (string_bytes row.zone)) (sym c.index-rows-number.is)) c.rows.invariant c.in_ok-push_if.ensures

pub returns : goal.returns
returns c =
    let rows = map posture_texts c.args.rows.now in
    numbers_all (is_here c.args.zones.now) (zones_named rows) c.rows.number c.rows.numbers.items (omega (arith, length-map rows (λ (row : PostureTexts). row.zone), length-map c.args.rows.now posture_texts)) c.rows.invariant
