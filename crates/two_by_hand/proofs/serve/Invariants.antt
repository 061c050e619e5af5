use Rattle.std.proofs.Common.{◌≡◌}
use Rattle.two_by_hand.proofs.serve.Given as goal

-- both passes remain the interlock's

abbrev pub invariant-loop-text : goal.invariant-loop-text
invariant-loop-text l =
    (goal.iterator-loop-text).can_next l.text-iterator × (goal.iterator-loop-text).is_finite l.text-iterator
    × (l.ram.table ≡ l.interlock.table) × (l.loader.table ≡ l.interlock.table)
