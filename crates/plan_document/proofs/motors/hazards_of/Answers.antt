use Rattle.std.proofs.Common.{arith}
use Rattle.plan_document.specs.Motors.{IsHazardOf}
use Rattle.plan_document.proofs.Growing.{zip_all, zip_more}
use Rattle.plan_document.proofs.motors.hazards_of.Goals as goal

pub loop-i-preserved : goal.loop-i-preserved
loop-i-preserved c =
    zip_more (IsHazardOf c.args.motors.now) c.args.rows.now c.loop-i.i c.index-rows-i.result c.loop-i.hazards.items c.push.new.self.items c.in_ok-hazard.hazard (omega arith) c.index-rows-i.is c.loop-i.invariant c.in_ok-hazard.ensures c.in_ok-push.ensures.items

pub returns : goal.returns
returns c = zip_all (IsHazardOf c.args.motors.now) c.args.rows.now c.loop-i.i c.loop-i.hazards.items c.loop-i-test.false c.loop-i.invariant
