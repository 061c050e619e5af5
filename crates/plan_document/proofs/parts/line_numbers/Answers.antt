use Rattle.std.proofs.Common.{◌∙◌, ap, arith, map, string_bytes}
use Rattle.std.proofs.lemmas.List.{length-map}
use Rattle.plan_document.specs.OnWord.{stands_on}
use Rattle.plan_document.proofs.Parted.{numbers_all, numbers_more, text_at}
use Rattle.plan_document.proofs.parts.line_numbers.Goals as goal

pub lines-preserved : goal.lines-preserved
lines-preserved c =
    numbers_more (stands_on c.args.zones.now c.args.places.now c.args.poses.now) (map string_bytes c.args.lines.now) c.lines.number (string_bytes c.index-lines-number.result) c.lines.numbers.items c.push_if.new.numbers.items c.stands_on-there.result
    (text_at c.args.lines.now c.lines.number c.index-lines-number.result (omega arith) c.index-lines-number.is) (c.stands_on-there.ensures ∙ ap (stands_on c.args.zones.now c.args.places.now c.args.poses.now) c.as_bytes.ensures.value) c.lines.invariant c.in_ok-push_if.ensures

pub returns : goal.returns
returns c = numbers_all (stands_on c.args.zones.now c.args.places.now c.args.poses.now) (map string_bytes c.args.lines.now) c.lines.number c.lines.numbers.items (omega (arith, length-map c.args.lines.now string_bytes)) c.lines.invariant
