use Rattle.std.proofs.Common.{◌≡◌, ◌&&◌, ◌||◌, nat_eq}
use Rattle.plan_types.specs.Below.{any_below}
use Rattle.plan_types.specs.Table.{same_space, host_of, guest_of}
use Rattle.plan_motors.proofs.entering.enters.Given as goal

abbrev pub invariant-loop-other : goal.invariant-loop-other
invariant-loop-other l = l.found ≡ any_below (λ y. same_space l.plan y l.zone && (nat_eq l.machine (host_of l.plan y) || nat_eq l.machine (guest_of l.plan y))) l.other
