use Rattle.cell_config.proofs.Names.{◌≡◌, members_view, table_view, is_known}
use Rattle.cell_config.proofs.keys.is_known.Given as goal

abbrev pub invariant-entries : goal.invariant-entries
invariant-entries l =
    (goal.iterator-entries).can_next l.key-iterator × (goal.iterator-entries).is_finite l.key-iterator
    × (is_known (members_view l.key-iterator) ≡ is_known (table_view l.table))
