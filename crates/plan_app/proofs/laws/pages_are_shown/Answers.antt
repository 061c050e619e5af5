use Rattle.plan_app.proofs.PageRows.{data-told, lines-shown, orders-chosen, orders-shown}
use Rattle.plan_app.proofs.laws.pages_are_shown.Goals as goal

pub returns : goal.returns
returns c = record { told = data-told; lines = lines-shown; orders = orders-shown; chosen = orders-chosen }
