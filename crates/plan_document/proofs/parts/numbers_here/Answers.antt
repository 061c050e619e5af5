use Rattle.std.proofs.Common.{◌∙◌, ap, arith, map, string_bytes}
use Rattle.std.proofs.lemmas.List.{length-map}
use Rattle.plan_document.specs.OnWord.{is_here}
use Rattle.plan_document.proofs.Parted.{numbers_all, numbers_more, text_at}
use Rattle.plan_document.proofs.parts.numbers_here.Goals as goal

pub texts-preserved : goal.texts-preserved
texts-preserved c =
    numbers_more (is_here c.args.names.now) (map string_bytes c.args.texts.now) c.texts.number (string_bytes c.index-texts-number.result) c.texts.numbers.items c.push_if.new.numbers.items c.is_here-there.result
    (text_at c.args.texts.now c.texts.number c.index-texts-number.result (omega arith) c.index-texts-number.is) (c.is_here-there.ensures ∙ ap (is_here c.args.names.now) c.as_bytes.ensures.value) c.texts.invariant c.in_ok-push_if.ensures

pub returns : goal.returns
returns c = numbers_all (is_here c.args.names.now) (map string_bytes c.args.texts.now) c.texts.number c.texts.numbers.items (omega (arith, length-map c.args.texts.now string_bytes)) c.texts.invariant
