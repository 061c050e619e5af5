-- Simulated sensors and motors of a machine, by the steps of its program.
use Rattle.std.specs.Prelude.{◌≡◌, ℕ, ◌+◌, ◌*◌, ◌^◌, Bool, false, ◌&&◌, not, nat_eq, nat_lt, List, if◌then◌else◌}
use Rattle.std.specs.Prelude.{Option, Some}
use Rattle.std.specs.List.{list_any}
use Rattle.plan_types.specs.Below.{sum_below}
use Rattle.plan_rules.specs.State.{one_if}
use Rattle.plan_controller.specs.declared.step.Step.{Step}
use Rattle.plan_controller.specs.declared.step.Step.TheVariants.{Do, Await, Run}

-- the steps; the motors that were turned on last; in how many turns on end they were on, at most three; and how many
-- turns have gone by since a sensor that no run brings has shown, at most three
pub record Simulation : Type 0 where
  pub steps : List Step
  pub motors : ℕ
  pub turns : ℕ
  pub waits : ℕ

-- a machine that hasn't begun, with all motors off
abbrev pub new_simulation : List Step → Simulation
new_simulation steps = record { steps = steps; motors = 0; turns = 0; waits = 0 }

-- a step runs motors until a sensor shows
abbrev pub runs_until : ℕ → Step → Bool
runs_until sensor (Do call faults) = false
runs_until sensor (Await zone) = false
runs_until sensor (Run motors until) = not (nat_eq motors 0) && nat_eq until sensor

-- it runs these motors, and no others
abbrev pub runs_these : ℕ → ℕ → Step → Bool
runs_these motors sensor (Do call faults) = false
runs_these motors sensor (Await zone) = false
runs_these motors sensor (Run these until) = nat_eq these motors && (not (nat_eq these 0) && nat_eq until sensor)

abbrev pub is_run_for : Simulation → ℕ → Bool
is_run_for d sensor = list_any (runs_until sensor) d.steps

-- the motors that were turned on last bring the sensor, and have been on for three turns
abbrev pub is_brought : Simulation → ℕ → Bool
is_brought d sensor = nat_eq d.turns 3 && list_any (runs_these d.motors sensor) d.steps

-- a sensor that runs bring shows once one has; any other one in every fourth turn
abbrev pub shows_now : Simulation → ℕ → Bool
shows_now d sensor = if is_run_for d sensor then is_brought d sensor else nat_eq d.waits 3

-- a bit for each of 32 sensors
abbrev pub shown_by : Simulation → ℕ
shown_by d = sum_below (λ sensor. one_if (shows_now d sensor) * 2 ^ sensor) 32

abbrev pub one_more : ℕ → ℕ
one_more turns = if nat_lt turns 3 then turns + 1 else 3

-- the sensors are read, once in each turn
abbrev pub after_reading : Simulation → Simulation
after_reading d = record d { waits = if nat_lt d.waits 3 then d.waits + 1 else 0 }

-- motors are given: where all are off, what was brought stays, and what wasn't has to be brought from the beginning
abbrev pub after_driving : Simulation → ℕ → Simulation
after_driving d motors =
    if nat_eq motors 0 then (if nat_eq d.turns 3 then d else record d { turns = 0 })
    else (if nat_eq motors d.motors then record d { turns = one_more d.turns }
    else record d { motors = motors; turns = 1 })

abbrev pub Reads : Simulation → Option ℕ → Simulation → Type 0
Reads d shown e = (shown ≡ Some (shown_by d)) × (e ≡ after_reading d)

abbrev pub Drives : Simulation → ℕ → Simulation → Type 0
Drives d motors e = e ≡ after_driving d motors
