use Rattle.cell_workers.proofs.Names.{◌≡◌, ℕ, [], ◌∷◌, Some, ◌∙◌, refl, sym, ap, subst, Feed, Table, Robot, Press, Deposit, Crane, Journals, journal_of, ModelState, after, noted, LawfulThroughout, IsAudited, fresh_pass, feed_steps, deposit_steps, crane_steps, no_counts, Fine, gauges_of, robot_steps, press_steps, table_steps, table_rig, robot_rig, crane_rig, robot_gauges, robot_points, positions_in, cell_gauges, cell_scales, points_of, sides_of, Sides, sides_at_start, TellsWork}
use Rattle.cell_workers.proofs.Names.{seen_in, CellOutputs, parts_in, worker_moment}
use Rattle.cell_plant.specs.Watch.{watch_at_start}
use Rattle.cell_workers.proofs.lemmas.Recording.{AreWorkerResults, fitted_result, is_result_of, ready_at_start, tells}
use Rattle.cell_workers.proofs.Unrefused.{work-unrefused}
use Rattle.cell_workers.proofs.run.run_cell.Goals as goal

pub run_workers-requires-clause-ready : goal.run_workers-requires-clause-ready
run_workers-requires-clause-ready g c κs within = λ i e.
    let cell = c.args.cell in
    let begins = c.requires.made.begins ∙ ap sides_at_start (sym e) in
    record {
      feed = let side = cell.feed.controller in ready_at_start feed_steps i (fresh_pass i Feed) side.stopped side.progress refl (ap (λ (s : Sides). s.feed.progress) begins);
      table = let p = cell.table.controller.program in let side = cell.table.controller in ready_at_start (table_steps p.turn.points (g.F4.Gauge.gives p.turn.gauge)) i (fresh_pass i Table) side.stopped side.progress refl (ap (λ (s : Sides). s.table.progress) begins);
      robot = let p = cell.robot.controller.program in let side = cell.robot.controller in ready_at_start (robot_steps (points_of p) (gauges_of (g.F1.Gauge.gives p.arm1.gauge) (g.F2.Gauge.gives p.arm2.gauge) (g.F3.Gauge.gives p.rotation.gauge))) i (fresh_pass i Robot) side.stopped side.progress refl (ap (λ (s : Sides). s.robot.progress) begins);
      press = let side = cell.press.controller in ready_at_start press_steps i (fresh_pass i Press) side.stopped side.progress refl (ap (λ (s : Sides). s.press.progress) begins);
      deposit = let side = cell.deposit.controller in ready_at_start deposit_steps i (fresh_pass i Deposit) side.stopped side.progress refl (ap (λ (s : Sides). s.deposit.progress) begins);
      crane = let p = cell.crane.controller.program in let side = cell.crane.controller in ready_at_start (crane_steps p.gripper.points (g.F5.Gauge.gives p.gripper.gauge)) i (fresh_pass i Crane) side.stopped side.progress refl (ap (λ (s : Sides). s.crane.progress) begins);
    }

pub returns-in-Ok-clause-work : goal.returns-in-Ok-clause-work
returns-in-Ok-clause-work g c =
    let k = c.in-Ok.ensures.work in
    let cell = c.args.cell in
    let scales = cell_scales cell in
    let gives = cell_gauges cell in
    let i = k.interlock in
    let gate = g.G.Gate.may_answer c.args.gate.now in
    let turns = c.args.turns in
    let fits = c.requires.made.fitted in
    let begins = c.requires.made.begins ∙ ap sides_at_start (sym k.opened) in
    let turn = cell.table.controller.program.turn in
    let robot = cell.robot.controller.program in
    let gripper = cell.crane.controller.program.gripper in
    let robot_fits : robot_points scales ≡ points_of robot = λ x. record { arm1 = fits.arm1 x; arm2 = fits.arm2 x; rotation = fits.rotation x } in
    let sides = sides_of cell watch_at_start in
    let results = k.results in
    let given = k.given in
    let back : AreWorkerResults scales gives i turns gate results =
    record {
      feed = is_result_of scales gives i turns gate Feed (fresh_pass i Feed) sides.feed results.feed.pass results.feed.journal.items results.feed.output.counts results.feed.output.status results.feed.output.part.belt refl (ap (λ (s : Sides). s.feed) begins) given.feed.1;
      table = is_result_of scales gives i turns gate Table (fresh_pass i Table) sides.table results.table.pass results.table.journal.items results.table.output.counts results.table.output.status results.table.output.part.plant refl (ap (λ (s : Sides). s.table) begins) (fitted_result i.tries (λ s. table_steps s gives.turn) (table_rig scales.turn) (gate Table) turns (worker_moment (fresh_pass i Table) sides.table no_counts) results.table.pass results.table.journal.items results.table.output.counts results.table.output.status results.table.output.part.plant turn.points scales.turn fits.turn given.table.1);
      robot = is_result_of scales gives i turns gate Robot (fresh_pass i Robot) sides.robot results.robot.pass results.robot.journal.items results.robot.output.counts results.robot.output.status results.robot.output.part.plant refl (ap (λ (s : Sides). s.robot) begins) (fitted_result i.tries (λ s. robot_steps s (robot_gauges gives)) (robot_rig (robot_points scales)) (gate Robot) turns (worker_moment (fresh_pass i Robot) sides.robot no_counts) results.robot.pass results.robot.journal.items results.robot.output.counts results.robot.output.status results.robot.output.part.plant (points_of robot) (robot_points scales) robot_fits given.robot.1);
      press = is_result_of scales gives i turns gate Press (fresh_pass i Press) sides.press results.press.pass results.press.journal.items results.press.output.counts results.press.output.status results.press.output.part refl (ap (λ (s : Sides). s.press) begins) given.press.1;
      deposit = is_result_of scales gives i turns gate Deposit (fresh_pass i Deposit) sides.deposit results.deposit.pass results.deposit.journal.items results.deposit.output.counts results.deposit.output.status results.deposit.output.part.belt refl (ap (λ (s : Sides). s.deposit) begins) given.deposit.1;
      crane = is_result_of scales gives i turns gate Crane (fresh_pass i Crane) sides.crane results.crane.pass results.crane.journal.items results.crane.output.counts results.crane.output.status results.crane.output.part.plant refl (ap (λ (s : Sides). s.crane) begins) (fitted_result i.tries (λ s. crane_steps s gives.gripper) (crane_rig scales.gripper) (gate Crane) turns (worker_moment (fresh_pass i Crane) sides.crane no_counts) results.crane.pass results.crane.journal.items results.crane.output.counts results.crane.output.status results.crane.output.part.plant gripper.points scales.gripper fits.gripper given.crane.1);
    } in
    let told = c.run_record_of.ensures in
    let six = c.in-Ok.six in
    let run' = c.run_record_of.result in
    let history = k.history in
    subst (λ (n : ℕ). TellsWork scales gives c.args.opening n turns gate run') k.losing
    (subst (λ (s : ModelState). TellsWork scales gives s i.tries turns gate run') k.opened
    (tells scales gives i turns gate results back run' history
    (subst (λ s. LawfulThroughout s history) (sym k.opened) k.lawful)
    k.seen
    (λ m. ap (λ (j : Journals). journal_of j m) told.journals ∙ k.journals m ∙ ap (λ s. noted s (seen_in results m) m) (sym k.opened))
    (subst (λ s. IsAudited s (journal_of run'.journals) run'.end history) (sym k.opened)
    (subst (λ (j : Journals). IsAudited c.args.opening (journal_of j) run'.end history) (sym told.journals)
    (subst (λ e. IsAudited c.args.opening (journal_of six.journals) e history) (sym told.end) k.audited)))
    (told.start ∙ k.start ∙ sym k.opened)
    (told.end ∙ ap (λ s. Some s) k.end ∙ ap (λ s. Some (after s history)) (sym k.opened))
    (told.counts ∙ ap (λ (x : CellOutputs). x.feed.counts ∷ x.table.counts ∷ x.robot.counts ∷ x.press.counts ∷ x.deposit.counts ∷ x.crane.counts ∷ no_counts ∷ []) k.outputs)
    (told.status ∙ ap (λ (x : CellOutputs). x.feed.status ∷ x.table.status ∷ x.robot.status ∷ x.press.status ∷ x.deposit.status ∷ x.crane.status ∷ Fine ∷ []) k.outputs)
    (told.axes ∙ ap (λ (x : CellOutputs). positions_in (parts_in x)) k.outputs)))

pub returns-in-Ok-clause-none_refused : goal.returns-in-Ok-clause-none_refused
returns-in-Ok-clause-none_refused g c = work-unrefused (cell_scales c.args.cell) (cell_gauges c.args.cell) c.args.opening c.args.tries c.args.turns (g.G.Gate.may_answer c.args.gate.now) c.run_record_of.result c.requires.start (returns-in-Ok-clause-work g c)
