use Rattle.std.proofs.Common.{◌<◌, sym, ap, subst}
use Rattle.std.specs.Prelude.{length, slice_index_or}
use Rattle.plan_types.specs.Table.{PlanTable}
use Rattle.plan_rules.specs.declared.state.State.{State}
use Rattle.plan_drives.specs.Course.{IsAt}
use Rattle.plan_controller.specs.Seen.{SeenAfter}
use Rattle.plan_controller.specs.Turns.{program_in}
use Rattle.plan_controller.proofs.lemmas.Caring.{careful}
use Rattle.plan_controller.proofs.lemmas.Permitting.{running, permitted}
use Rattle.plan_workers.specs.PlantTurns.{SeenOn, control_on, sensors_on}
use Rattle.plan_workers.proofs.EachTurn.{each_turn}
use Rattle.plan_workers.proofs.TurnLeads.{turn_leads}
use Rattle.plan_workers.proofs.plant_controller.PlantController.turn.Goals as goal

pub returns-clause-on_words : goal.returns-clause-on_words
returns-clause-on_words g c = λ w l low.
    each_turn g.L.PlanLine.asks c.args.lines.now c.take_turn.new.lines c.args.self.now c.take_turn.new.self c.take_turn.result.asked w l c.args.sensors c.take_turn.result.motors c.take_turn.ensures.program c.take_turn.ensures.turn

pub returns-clause-careful : goal.returns-clause-careful
returns-clause-careful g c = careful _ _ _ _ c.args.sensors c.take_turn.result.motors c.take_turn.ensures.turn

pub returns-clause-at : goal.returns-clause-at
returns-clause-at g c = λ w l low.
    let p = g.L.PlanLine in
    let it = c.take_turn.ensures in
    let before = slice_index_or c.args.lines.now w l in
    let after = slice_index_or c.take_turn.new.lines w l in
    let k = control_on w c.args.self.now in
    let below : w < length c.args.lines.now = subst (λ n. w < n) it.each_word low in
    let first = c.requires.at w l below in
    let at = subst (λ (s : State). IsAt (p.table after) s (p.seen before) k.machine (program_in k) k.place) (sym (it.opening w l below)) (subst (λ (t : PlanTable). IsAt t (p.opening before) (p.seen before) k.machine (program_in k) k.place) (sym (it.table w l below)) first) in
    turn_leads (p.table after) (p.opening after) (p.seen before) (p.seen after) (g.met.L.PlanLine.legal after) k (control_on w c.take_turn.new.self) _ _ c.take_turn.result.motors
    (λ same. ap p.seen same.0)
    (λ call a asked.
    let sees = subst (λ o. SeenOn (p.machine before) o (p.seen before) (p.seen after)) asked.1 (it.seen w l below) in
    subst (λ m. SeenAfter m call a (p.seen before) (p.seen after)) (c.requires.own w l below) sees)
    at (sensors_on w c.args.self.now c.args.sensors) (returns-clause-on_words g c w l below)

pub returns-clause-running : goal.returns-clause-running
returns-clause-running g c = λ w l low.
    let p = g.L.PlanLine in
    let after = slice_index_or c.take_turn.new.lines w l in
    let below : w < length c.args.lines.now = subst (λ n. w < n) c.take_turn.ensures.each_word low in
    running (p.table after) (p.opening after) (p.seen after) (control_on w c.args.self.now) (control_on w c.take_turn.new.self) _ _ (sensors_on w c.args.self.now c.args.sensors) c.take_turn.result.motors
    (returns-clause-on_words g c w l below) (returns-clause-at g c w l low)

pub returns-clause-permitted : goal.returns-clause-permitted
returns-clause-permitted g c = λ w l low.
    let p = g.L.PlanLine in
    let after = slice_index_or c.take_turn.new.lines w l in
    permitted c.lawful_histories.ensures (p.table after) (p.opening after) (p.seen after) (control_on w c.take_turn.new.self) c.take_turn.result.motors
    (g.met.L.PlanLine.plan after) (g.met.L.PlanLine.sound after) (returns-clause-running g c w l low)
