use Rattle.std.proofs.lemmas.List.Elements.{All-set}
use Rattle.plan_compiled.specs.Rows.{IsRight}
use Rattle.plan_compiled.proofs.index.Index.push.Goals as goal

pub returns-then-at-lt-ROWS_OF_ALL : goal.returns-then-at-lt-ROWS_OF_ALL
returns-then-at-lt-ROWS_OF_ALL c =
    All-set (IsRight c.args.plan.now) c.args.self.now.rows c.from-at.result c.args.row c.requires.row c.requires.right
