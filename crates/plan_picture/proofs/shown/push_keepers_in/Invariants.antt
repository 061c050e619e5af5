use Rattle.std.proofs.Common.{◌≡◌, ◌++◌, map}
use Rattle.std.specs.List.{range_with_len}
use Rattle.plan_types.specs.Table.{keeper_of}
use Rattle.plan_picture.proofs.shown.push_keepers_in.Given as goal

abbrev pub invariant-places : goal.invariant-places
invariant-places l = l.owners.items ≡ l.initial.owners.items ++ map (keeper_of l.plan) (range_with_len 0 l.place)
