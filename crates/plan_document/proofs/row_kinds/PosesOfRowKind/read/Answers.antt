use Rattle.toml.specs.View.{table_view}
use Rattle.plan_document.proofs.row_kinds.PosesOfRowKind.read.Goals as goal

pub returns : goal.returns
returns c = record {
  members = table_view c.in_ok-table.table.now;
  is_table = c.in_ok-table.ensures;
  keys = c.in_ok-check_keys.ensures.known;
  name = c.in_ok-name.ensures;
  gives = c.in_ok-gives.ensures;
  after_moving = c.in_ok-after_moving.ensures;
}
