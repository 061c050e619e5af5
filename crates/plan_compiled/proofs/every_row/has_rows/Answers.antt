use Rattle.std.proofs.Common.{◌-◌, refl, sym, ◌∙◌, arith}
use Rattle.plan_compiled.proofs.Completing.{rows_found, never_asked}
use Rattle.plan_compiled.proofs.every_row.has_rows.Goals as goal

pub returns : goal.returns
returns c = λ e.
    let own = c.own_rows-own.result in
    let n = c.together-count.result in
    let less = c.together-count.ensures in
    rows_found c.args.plan.now c.args.rows.now c.args.starts.now c.args.machine c.args.call own n (own.count - n) c.machines.ensures.plan c.own_rows-own.ensures (omega (arith, less))
    (c.if-not-opens_one_at_most.ensures refl) (c.if-not-covers_room.ensures refl) (c.covers_shut.ensures e)

pub returns-then-not-may_ask : goal.returns-then-not-may_ask
returns-then-not-may_ask c = λ e.
    never_asked c.args.plan.now c.args.rows.now c.args.starts.now c.args.machine c.args.call c.machines.ensures.plan (c.if-not-opens_one_at_most.ensures refl) (sym c.may_ask.ensures ∙ c.if-not-may_ask.true)
