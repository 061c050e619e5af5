-- Whether an order of turns is printed in which a machine starves, or in which no plate moves.
use Rattle.std.specs.Prelude.{nat_eq, Bool, true, false, ◌||◌, List, length, if◌then◌else◌}
use Rattle.std.specs.List.{list_any}
use Rattle.plan_liveness.specs.declared.answer.Liveness.{Liveness}
use Rattle.plan_liveness.specs.declared.answer.Liveness.TheVariants as liveness
use Rattle.plan_liveness.specs.declared.answer.Progress.{Progress}
use Rattle.plan_liveness.specs.declared.answer.Progress.TheVariants as progress
use Rattle.plan_text.specs.Named.{Named}

-- a machine starves in some fair order, whatever else would help it
abbrev pub may_starve : Liveness → Bool
may_starve liveness.Silent = false
may_starve (liveness.Always bound) = false
may_starve (liveness.IfOne strong bound order) = true
may_starve (liveness.IfAll bound order) = true
may_starve (liveness.IfTwo relay order) = true
may_starve (liveness.Starves order) = true
may_starve (liveness.Unknown reason) = false

-- no plate moves in some fair order
abbrev pub may_rest : Progress → Bool
may_rest (progress.Within bound) = false
may_rest (progress.Starves order) = true
may_rest (progress.Unknown reason) = false

-- of a plan without places nothing is said of plates
abbrev pub plates_may_rest : Named → Progress → Bool
plates_may_rest n plates = if nat_eq (length n.places) 0 then false else may_rest plates

-- some machine may starve, or plates may rest
abbrev pub any_starves : Named → List Liveness → Progress → Bool
any_starves n answers plates = list_any may_starve answers || plates_may_rest n plates
