use Rattle.std.proofs.Common.{arith}
use Rattle.plan_document.specs.Motors.{IsMotorOf}
use Rattle.plan_document.proofs.Growing.{zip_all, zip_more}
use Rattle.plan_document.proofs.motors.motors_of.Goals as goal

pub loop-i-preserved : goal.loop-i-preserved
loop-i-preserved c =
    zip_more (IsMotorOf c.args.named.now) c.args.rows.now c.loop-i.i c.index-rows-i.result c.loop-i.motors.items c.push.new.self.items c.in_ok-motor.motor (omega arith) c.index-rows-i.is c.loop-i.invariant c.in_ok-motor.ensures c.in_ok-push.ensures.items

pub returns : goal.returns
returns c = zip_all (IsMotorOf c.args.named.now) c.args.rows.now c.loop-i.i c.loop-i.motors.items c.loop-i-test.false c.loop-i.invariant
