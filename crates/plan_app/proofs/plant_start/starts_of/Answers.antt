use Rattle.std.proofs.Common.{◌≡◌, ◌∙◌, ◌<◌, ap, length, map, sym, arith}
use Rattle.std.specs.List.{range_with_len}
use Rattle.csv.specs.Records.{fields_of}
use Rattle.plan_app.specs.PlantStarts.{all_starts, start_on, tables_of}
use Rattle.plan_app.proofs.PlantStarting.{all_there, fault_after, one_start_more}
use Rattle.plan_app.proofs.plant_start.starts_of.Goals as goal

pub returns-in-Err : goal.returns-in-Err
returns-in-Err c =
    let plans = c.args.plant.now.plans.items in
    let start = start_on c.args.plant.now.words (tables_of plans) (fields_of c.args.row.now) in
    let few : c.loop-word.word < length plans = omega (arith, c.loop-word-test.true, c.len-word-end.ensures) in
    sym (fault_after start (length plans) c.loop-word.word c.loop-word.starts.items c.in-Err.fault few c.loop-word.invariant
    (sym c.in_ok-start.ensures ∙ c.in-Err.is))

pub loop-word-preserved : goal.loop-word-preserved
loop-word-preserved c =
    let start = start_on c.args.plant.now.words (tables_of c.args.plant.now.plans.items) (fields_of c.args.row.now) in
    one_start_more start c.loop-word.word c.loop-word.starts.items c.push.new.self.items c.in-Ok.start c.loop-word.invariant
    (sym c.in_ok-start.ensures ∙ c.in-Ok.is) c.in_ok-push-in-Ok.ensures.items

pub returns : goal.returns
returns c =
    let plans = c.args.plant.now.plans.items in
    let start = start_on c.args.plant.now.words (tables_of plans) (fields_of c.args.row.now) in
    let whole : c.loop-word.word ≡ length plans = omega (arith, c.loop-word-test.false, c.loop-word.auto.word-end, c.len-word-end.ensures) in
    sym (ap (λ n. all_starts (map start (range_with_len 0 n))) (sym whole) ∙ ap all_starts c.loop-word.invariant ∙ all_there c.loop-word.starts.items)
