use Rattle.std.proofs.Common.{sym, ◌∙◌, subst}
use Rattle.plan_word.specs.Layout.{Counts}
use Rattle.plan_compiled.specs.Right.{KeepsStamp}
use Rattle.plan_compiled.proofs.Rights.{rights}
use Rattle.plan_compiled.proofs.right.row_of.Goals as goal

pub returns-then-are_right_zones : goal.returns-then-are_right_zones
returns-then-are_right_zones c =
    let p = c.args.part in
    rights c.plain_plans_stay.ensures c.args.plan.now c.args.asked p c.new.result c.machines.ensures.plan c.requires.plain (record {
      may = sym c.may_ask.ensures ∙ c.if-may_ask.true;
      stamp = subst (λ (k : Counts). KeepsStamp k p) c.requires.layout (c.keeps_stamp.ensures c.if-keeps_stamp.true);
      stop = c.is_right_stop.ensures c.if-is_right_stop.true;
      places = c.are_right_places.ensures c.if-are_right_places.true;
      zones = c.are_right_zones.ensures c.if-are_right_zones.true;
    }) c.new.ensures
