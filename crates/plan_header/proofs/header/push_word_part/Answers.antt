use Rattle.plan_header.specs.Headers as spec
use Rattle.plan_header.specs.Readings.{readings_part}
use Rattle.plan_header.proofs.lemmas.Lines.{three_parts}
use Rattle.plan_header.proofs.header.push_word_part.Goals as goal

pub returns : goal.returns
returns c =
    let n = c.args.named.now in
    three_parts c.push_readings.result _ _ _ _ (spec.fields_part n) (spec.sizes_part n) (readings_part n)
    c.in_ok-push_fields_part.ensures c.in_ok-push_sizes_part.ensures c.push_readings.ensures
