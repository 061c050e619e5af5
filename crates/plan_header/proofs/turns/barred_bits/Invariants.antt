use Rattle.std.proofs.Common.{◌≡◌, string_bytes, flat_map, take}
use Rattle.plan_controller.specs.Faults.{all_mendable}
use Rattle.plan_header.specs.Turns as spec
use Rattle.plan_header.proofs.turns.barred_bits.Given as goal

abbrev pub invariant-faults : goal.invariant-faults
invariant-faults l = string_bytes l.word ≡ flat_map (spec.barred_bit l.faults) (take l.fault-index all_mendable)
