use Rattle.cell_interlock.proofs.Names.{◌+◌, [], ◌∷◌, sym, ap, ◌∙◌, subst, PassView, ReceiptView, InterlockView, IsLookTimed, told_by}
use Rattle.cell_interlock.specs.Engine.{receipt_from}
use Rattle.cell_interlock.specs.Tries.{Looked, after_look}
use Rattle.cell_interlock.specs.declared.tries.Look.{Look}
use Rattle.cell_interlock.proofs.Instance.{looked_here, look_timed_here, pass_after_look}
use Rattle.cell_interlock.proofs.interlock.Interlock.look_after.Goals as goal

pub returns : goal.returns
returns c =
    let e = c.look_after.ensures in let v = c.pass.inside.inner in let k = c.look_after.result in
    let after = ap after_look c.look_of.ensures ∙ pass_after_look k in record {
      looked = subst (λ (x : PassView × InterlockView × Look). Looked x.0 c.args.call x.1.tries x.2) (λ i. (c.pass.view_is i, c.self.view_is i, sym c.look_of.ensures i)) (looked_here v c.args.call c.self.inside.inner.tries k e.looked);
      one_load = ap (λ (p : PassView). p.loads) after ∙ (e.one_load ∙ ap (λ (p : PassView). p.loads + 1) c.pass.view_is);
      no_exchange = ap (λ (p : PassView). p.exchanges) after ∙ (e.no_exchange ∙ ap (λ (p : PassView). p.exchanges) c.pass.view_is);
      after = subst (λ (x : PassView × Look × ReceiptView). IsLookTimed (told_by x.2 ∷ []) x.0 c.args.call x.1) (λ i. (c.pass.view_is i, sym c.look_of.ensures i, c.receipt.view_is i)) (look_timed_here (told_by (receipt_from c.receipt.inside.inner) ∷ []) v c.args.call k e.after);
    }
