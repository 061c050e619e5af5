use Rattle.toml.specs.View.{table_view}
use Rattle.plan_document.proofs.row_kinds.MotorsRowKind.read.Goals as goal

pub returns : goal.returns
returns c = record {
  members = table_view c.in_ok-table.table.now;
  is_table = c.in_ok-table.ensures;
  keys = c.in_ok-check_keys.ensures.known;
  name = c.in_ok-name.ensures;
  machine = c.in_ok-machine.ensures;
  holds = c.in_ok-holds.ensures;
  stands = c.in_ok-stands.ensures;
  full = c.in_ok-full.ensures;
  empty = c.in_ok-empty.ensures;
}
