use Rattle.std.proofs.Common.{refl}
use Rattle.cell_control.specs.Turns.{answered}
use Rattle.cell_control.proofs.lemmas.TurnMaps.{turn_map}
use Rattle.cell_unit.proofs.lemmas.Turning.{if_told, own_done, told_act, turn_tells}
use Rattle.cell_unit.proofs.unit.MachineUnit.turn.Goals as goal

pub returns-clause-row : goal.returns-clause-row
returns-clause-row g c =
    let row = c.take_turn-taken.ensures.row in
    let own = own_done (g.P.Program.steps c.args.self.now.controller.program) _ _ c.take_turn-taken.result.asked (g.L.Line.machine c.args.line.now) c.args.self.now.controller.stopped _ _ _ c.requires.own
    (λ same. same.1) row.2 in
    record {
      set = _;
      acts = record {
        sense = row.0;
        shows = row.1;
        turned = record { result = answered c.take_turn-taken.result.told.act c.take_turn-taken.result.told.fault; progress = c.take_turn-taken.new.self.progress; stopped = c.take_turn-taken.new.self.stopped };
        row = turn_map (g.P.Program.steps c.args.self.now.controller.program) _ _ _ _
            (λ same. same)
            (λ call r asked. (asked.0.0, asked.1))
            _ _ _ _ row.2;
        is = refl;
      };
      moved = rw (c.note_and_tick.ensures.state, c.done_event-event.ensures, c.machine-machine.ensures, own, told_act _ _ _ c.take_turn-taken.ensures.rest) refl;
    }

pub returns-clause-motor_demands : goal.returns-clause-motor_demands
returns-clause-motor_demands g c =
    let row = c.take_turn-taken.ensures.row in
    let steps = g.P.Program.steps c.args.self.now.controller.program in
    let own = own_done steps _ _ c.take_turn-taken.result.asked (g.L.Line.machine c.args.line.now) c.args.self.now.controller.stopped _ _ _ c.requires.own
    (λ same. same.1) row.2 in
    λ runs. turn_tells steps (g.B.Part.rig (g.B.Part.make c.args.self.now.part)) _ _ _ _ _ _ _ (record { result = answered c.take_turn-taken.result.told.act c.take_turn-taken.result.told.fault; progress = c.take_turn-taken.new.self.progress; stopped = c.take_turn-taken.new.self.stopped })
    own (rw (c.note_and_tick.ensures.state, c.done_event-event.ensures, c.machine-machine.ensures, told_act _ _ _ c.take_turn-taken.ensures.rest) refl)
    (if_told _ _ _ c.take_turn-taken.ensures.motor_demands) runs
    _ _ _ _ row.2
