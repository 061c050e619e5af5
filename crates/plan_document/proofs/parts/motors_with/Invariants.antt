use Rattle.std.proofs.Common.{◌≡◌, map, take}
use Rattle.plan_document.specs.OnWord.{motor_with}
use Rattle.plan_document.specs.Texts.{motor_texts}
use Rattle.plan_document.proofs.parts.motors_with.Given as goal

abbrev pub invariant-motors : goal.invariant-motors
invariant-motors l = map motor_texts l.made.items ≡ map (motor_with l.zones l.places) (map motor_texts (take l.motor l.rows))
