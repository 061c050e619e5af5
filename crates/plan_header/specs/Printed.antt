-- The header of a plan: its parts, one after another.
use Rattle.std.specs.Prelude.{◌++◌, List, map}
use Rattle.plan_motors.specs.declared.motor.Motor.{Motor}
use Rattle.plan_controller.specs.declared.step.Step.{Step}
use Rattle.plan_text.specs.Names.{Text}
use Rattle.plan_text.specs.Named.{Named}
use Rattle.plan_document.specs.declared.resolving.ProgrammedPlan.{ProgrammedPlan}
use Rattle.plan_header.specs.Headers.{bytes_part, motors_part, names_part, parties_part, word_part}
use Rattle.plan_header.specs.Turns.{lists_part, turns_part}

-- by a plan's names, its motors and their names, and the sensors and the steps of each machine
unfoldable pub header_text : Named → List Text → List Motor → List (List Text) → List (List Step) → Text
header_text n names motors sensors steps =
    names_part n ++ (parties_part n ++ (word_part n ++ (motors_part n names motors
    ++ (lists_part n names ++ (turns_part n names sensors steps ++ bytes_part n)))))

abbrev pub header_of : ProgrammedPlan → Text
header_of p =
    header_text p.named p.motors.names p.motors.motors.items p.sensors.items
    (map (λ steps. steps.items) p.steps.items)
