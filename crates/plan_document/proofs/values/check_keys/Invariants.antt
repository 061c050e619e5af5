use Rattle.std.proofs.Common.{◌≡◌}
use Rattle.toml.specs.View.{members_view, table_view}
use Rattle.plan_document.specs.Keys.{has_only, keys_in}
use Rattle.plan_document.proofs.values.check_keys.Given as goal

abbrev pub invariant-entries : goal.invariant-entries
invariant-entries l =
    (goal.iterator-entries).can_next l.key-iterator × (goal.iterator-entries).is_finite l.key-iterator
    × (has_only (keys_in l.row) (members_view l.key-iterator) ≡ has_only (keys_in l.row) (table_view l.table))
