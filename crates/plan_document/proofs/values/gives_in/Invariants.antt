use Rattle.std.proofs.Common.{◌≡◌}
use Rattle.toml.specs.View.{members_view, table_view}
use Rattle.plan_document.specs.Reading.{gives_written}
use Rattle.plan_document.proofs.Written.{joined}
use Rattle.plan_document.proofs.values.gives_in.Given as goal

abbrev pub invariant-entries : goal.invariant-entries
invariant-entries l =
    (goal.iterator-entries).can_next l.zone-iterator × (goal.iterator-entries).is_finite l.zone-iterator
    × (joined (gives_written l.rows.items) (members_view l.zone-iterator) ≡ table_view l.given)
