use Rattle.std.proofs.Common.{◌≡◌, ◌++◌, map, take}
use Rattle.plan_types.specs.Bytes.{place_byte}
use Rattle.plan_types.proofs.write.write_places.Given as goal

abbrev pub invariant-loop-place : goal.invariant-loop-place
invariant-loop-place l = l.out.items ≡ l.fn.out.items ++ map place_byte (take l.place l.plan.places)
