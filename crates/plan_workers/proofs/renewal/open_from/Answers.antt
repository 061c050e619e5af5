use Rattle.std.proofs.Common.{◌≡◌, sym, subst, ◌∙◌, rules}
use Rattle.plan_types.specs.Table.{PlanTable}
use Rattle.plan_interlock.specs.Book.{plan_book}
use Rattle.plan_workers.specs.Renewing.{restamped}
use Rattle.plan_workers.proofs.Renewing.{restamped_sound}
use Rattle.plan_workers.proofs.renewal.open_from.Goals as goal

pub new-requires : goal.new-requires
new-requires c =
    let t = c.args.plan.now in
    let table : c.new-rules.result.plan.table ≡ t = c.new-rules.ensures ∙ search rules in
    record { sound = subst (λ (x : PlanTable). (plan_book x).is_sound (restamped c.args.state.now)) (sym table) (restamped_sound t c.args.state.now c.requires.sound) }
