use Rattle.std.proofs.Common.{ℕ, refl, ap, ◌∙◌, subst, true, false, arith}
use Rattle.plan_workers.proofs.PlantTurning.{each_on, program_on}
use Rattle.plan_workers.proofs.Turning.{begun, comes_on, ends_fully, ends_early}
use Rattle.plan_workers.proofs.plant_worker.PlantWorker.work.Goals as goal

pub loop-turn-init : goal.loop-turn-init
loop-turn-init g c = record {
  come = begun _ _ _;
  program = record { machine = refl; words = refl; steps = refl };
  each_word = refl;
  own = λ w l low. refl;
  table = λ w l low. refl;
  opening = λ w l low. refl;
}

pub loop-turn-preserved : goal.loop-turn-preserved
loop-turn-preserved g c =
    let old = c.loop-turn.invariant in
    let t = c.work_turn.ensures in
    let p = g.L.PlanLine in
    let first = c.args.self.now.lines in
    let before = c.loop-turn.self.lines in
    let now = c.work_turn.new.self.lines in
    let machine = c.machine-machine.ensures ∙ ap (λ x. x.control.machine) c.self.view_is in record {
      come = comes_on _ _ _ _ _ _ old.come (subst (λ (m : ℕ). g.G.PlanGate.may_answer c.args.gate.now m c.loop-turn.turn true) machine c.if-not-pass.ensures)
          (record { turn = c.work_turn.result; devices = t.devices; turns = t.turn; on_words = t.on_words; program = t.program; careful = t.careful; each_word = t.each_word; own = t.own; table = t.table; opening = t.opening; running = t.running; permitted = t.permitted });
      program = program_on _ _ _ old.program t.program;
      each_word = t.each_word ∙ old.each_word;
      own = each_on p.machine first before now old.each_word old.own t.own;
      table = each_on p.table first before now old.each_word old.table t.table;
      opening = each_on p.opening first before now old.each_word old.opening t.opening;
    }

pub returns-then-not-pass-clause-worked : goal.returns-then-not-pass-clause-worked
returns-then-not-pass-clause-worked g c =
    let old = c.loop-turn.invariant in
    let machine = c.machine-machine.ensures ∙ ap (λ x. x.control.machine) c.self.view_is in
    ends_early _ _ _ _ _ _ old.come c.loop-turn-test.true (subst (λ (m : ℕ). g.G.PlanGate.may_answer c.args.gate.now m c.loop-turn.turn false) machine c.if-not-pass.ensures)

pub returns-clause-worked : goal.returns-clause-worked
returns-clause-worked g c =
    ends_fully _ _ _ _ _ _ c.loop-turn.invariant.come (omega (arith, c.loop-turn.auto.turn-end, c.loop-turn-test.false))
