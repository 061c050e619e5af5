use Rattle.std.proofs.Common.{ℕ, refl, ap, ◌∙◌, subst, true, false, arith}
use Rattle.plan_workers.proofs.Turning.{begun, comes_on, ends_fully, ends_early}
use Rattle.plan_workers.proofs.worker.PlanWorker.work.Goals as goal

pub loop-turn-init : goal.loop-turn-init
loop-turn-init g c = record { come = begun _ _ _; own = refl; table = refl; opening = refl }

pub loop-turn-preserved : goal.loop-turn-preserved
loop-turn-preserved g c =
    let old = c.loop-turn.invariant in
    let t = c.work_turn.ensures in
    let machine = c.machine-machine.ensures ∙ ap (λ x. g.L.PlanLine.machine x.line) c.self.view_is in record {
      come = comes_on _ _ _ _ _ _ old.come (subst (λ (m : ℕ). g.G.PlanGate.may_answer c.args.gate.now m c.loop-turn.turn true) machine c.if-not-pass.ensures)
          (record { turn = c.work_turn.result; devices = t.devices; turns = t.turn; careful = t.careful; own = t.own; table = t.table; opening = t.opening; running = t.running; permitted = t.permitted });
      own = t.own ∙ old.own;
      table = t.table ∙ old.table;
      opening = t.opening ∙ old.opening;
    }

pub returns-then-not-pass-clause-worked : goal.returns-then-not-pass-clause-worked
returns-then-not-pass-clause-worked g c =
    let old = c.loop-turn.invariant in
    let machine = c.machine-machine.ensures ∙ ap (λ x. g.L.PlanLine.machine x.line) c.self.view_is in
    ends_early _ _ _ _ _ _ old.come c.loop-turn-test.true (subst (λ (m : ℕ). g.G.PlanGate.may_answer c.args.gate.now m c.loop-turn.turn false) machine c.if-not-pass.ensures)

pub returns-clause-worked : goal.returns-clause-worked
returns-clause-worked g c =
    ends_fully _ _ _ _ _ _ c.loop-turn.invariant.come (omega (arith, c.loop-turn.auto.turn-end, c.loop-turn-test.false))
