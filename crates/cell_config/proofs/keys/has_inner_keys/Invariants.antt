use Rattle.cell_config.proofs.Names.{◌≡◌, members_view, table_view, has_inner_keys}
use Rattle.cell_config.proofs.keys.has_inner_keys.Given as goal

abbrev pub invariant-keys : goal.invariant-keys
invariant-keys l =
    (goal.iterator-keys).can_next l.key-iterator × (goal.iterator-keys).is_finite l.key-iterator
    × (has_inner_keys (members_view l.key-iterator) ≡ has_inner_keys (table_view l.section))
