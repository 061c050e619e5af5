use Rattle.cell_interlock.proofs.Names.{subst, PassView, InterlockView, pass_from, IsSettled}
use Rattle.cell_interlock.specs.Settling.{IsAskedUntilAnswered}
use Rattle.cell_interlock.proofs.Instance.{settled_here}
use Rattle.cell_interlock.proofs.Settling.{asked_here}
use Rattle.cell_interlock.proofs.interlock.Interlock.settle.Goals as goal

pub returns : goal.returns
returns c =
    let e = c.settle.ensures in let v = c.pass.inside.inner in let w = c.settle.new.pass in let a = c.settle.result.0 in let stamp = c.settle.result.1 in record {
      settled = subst (λ (x : PassView). IsSettled x c.args.call a stamp (pass_from w)) c.pass.view_is (settled_here v c.args.call a stamp w e.settled);
      asked = subst (λ (x : PassView × InterlockView). IsAskedUntilAnswered x.1.tries x.0 c.args.call a stamp (pass_from w)) (λ i. (c.pass.view_is i, c.self.view_is i)) (asked_here c.self.inside.inner.tries v c.args.call a stamp w e.asked);
    }
