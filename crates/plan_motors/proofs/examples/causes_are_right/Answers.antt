use Rattle.std.proofs.Common.{refl}
use Rattle.plan_motors.proofs.examples.causes_are_right.Goals as goal

pub returns-clause-causes : goal.returns-clause-causes
returns-clause-causes c = record { ram_and_arm = refl; arm_and_ram = refl; arm_and_heater = refl; valve_and_heater = refl; ram_and_valve = refl; arm_alone = refl; fan_and_arm = refl; fan_alone = refl; fan_owner = refl; cabin_and_lower_gate = refl; cabin_and_upper_gate = refl; gates = refl; heater_and_valve = refl; heater_and_fan = refl; fan_and_ram = refl; second_zone = refl; eighth_zone = refl; sixteenth_place = refl; ninth_zone = refl; fourth_place = refl }

pub returns-clause-states : goal.returns-clause-states
returns-clause-states c = record { gates = refl; fan_and_valve = refl; heater_alone = refl; places = refl; empty_place = refl }
