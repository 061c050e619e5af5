use Rattle.std.proofs.Common.{subst}
use Rattle.std.specs.List.{All}
use Rattle.plan_compiled.specs.Rows.{IsRight}
use Rattle.plan_app.specs.Rows.{HasEveryRow}
use Rattle.plan_app.proofs.rows.is_complete.Goals as goal

pub returns : goal.returns
unfolding HasEveryRow
returns c = λ is. (
  c.args.compiled.now.rows,
  c.args.compiled.now.starts,
  subst (λ rows. All (IsRight c.args.compiled.now.table) rows) c.rows.ensures.rows c.rows.ensures.right,
  c.is_complete.ensures.rows is,
)
