use Rattle.std.proofs.Common.{◌≡◌, ◌∙◌, length}
use Rattle.plan_types.proofs.RowParts.{any_moving}
use Rattle.plan_types.proofs.rows.gives_moving.Goals as goal

pub returns : goal.returns
returns c =
    let long : length c.args.row.now ≡ 12 = search in
    c.has_moving.ensures ∙ any_moving c.args.row.now long
