use Rattle.cell_interlock.proofs.Names.{[], ◌∷◌, sym, subst, Reply, PassView, ReceiptView, InterlockView, pass_from, Replied, told_by}
use Rattle.cell_interlock.proofs.Instance.{replied_here}
use Rattle.cell_interlock.specs.Engine.{receipt_from}
use Rattle.cell_interlock.proofs.interlock.Interlock.ask_after.Goals as goal

pub returns : goal.returns
returns c =
    let e = c.ask_after.ensures in let r = receipt_from c.receipt.inside.inner in
    let here = replied_here (told_by r ∷ []) c.pass.inside.inner c.args.call c.self.inside.inner.tries c.ask_after.result c.ask_after.new.pass record { pass = e.pass; lawful = e.lawful; seen = e.seen; answer = e.answer; right = e.right; busy = e.busy; one_load = e.one_load; few_exchanges = e.few_exchanges; all_lost = e.all_lost; since = e.since; real_time = e.after } in
    let k = subst (λ (x : PassView × InterlockView × Reply × ReceiptView). Replied (told_by x.3 ∷ []) x.0 c.args.call x.1.tries x.2 (pass_from c.ask_after.new.pass)) (λ i. (c.pass.view_is i, c.self.view_is i, sym c.reply_of.ensures i, c.receipt.view_is i)) here in
    record { pass = k.pass; lawful = k.lawful; seen = k.seen; answer = k.answer; right = k.right; busy = k.busy; one_load = k.one_load; few_exchanges = k.few_exchanges; all_lost = k.all_lost; since = k.since; after = k.real_time }
