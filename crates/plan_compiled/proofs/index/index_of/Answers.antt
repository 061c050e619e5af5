use Rattle.std.proofs.Common.{sym, subst}
use Rattle.std.proofs.lemmas.List.Elements.{All-replicate}
use Rattle.plan_compiled.specs.Rows.{IsRight}
use Rattle.plan_compiled.proofs.Rights.{no_row_right}
use Rattle.plan_compiled.proofs.index.index_of.Goals as goal

pub loop-machine-init : goal.loop-machine-init
loop-machine-init c =
    let t = c.args.plan.now in
    All-replicate (IsRight t) 512 c.none.result (subst (IsRight t) (sym c.none.ensures) (no_row_right t))

pub returns-then-not-is_plain : goal.returns-then-not-is_plain
returns-then-not-is_plain c =
    let t = c.args.plan.now in
    All-replicate (IsRight t) 512 c.none.result (subst (IsRight t) (sym c.none.ensures) (no_row_right t))
