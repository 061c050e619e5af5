use Rattle.std.proofs.Common.{◌≡◌, ◌∙◌, sym, ap, not, true}
use Rattle.std.specs.Option.{is_none, is_some}
use Rattle.cell_rules.specs.BenchView.{desk_of}
use Rattle.cell_notes.specs.Notes.{notes_with}
use Rattle.cell_unit.proofs.lemmas.Turning.{acts_map, taken_on}
use Rattle.cell_unit.proofs.bench_turn.take_bench_turn.Goals as goal

pub returns-clause-turn : goal.returns-clause-turn
returns-clause-turn g c =
    let unit = c.args.unit.now in
    let asked = c.turn-asked.result in
    let row = c.turn-asked.ensures.row in
    let runs : is_none unit.controller.stopped ≡ true = ap not (ap is_some (sym c.stopped_by.ensures) ∙ sym c.is_some.ensures ∙ c.if-is_some.false) in
    taken_on (g.P.Program.steps unit.controller.program) (g.B.Part.rig (g.B.Part.make unit.part)) c.args.machine c.args.busy (desk_of c.args.bench.now) (desk_of c.seat.new.self) (desk_of c.turn-asked.new.line) _ _ asked
    c.requires.machine c.seat.ensures.desk runs
    (record {
      set = row.set;
      acts = acts_map (g.P.Program.steps unit.controller.program) (g.B.Part.rig (g.B.Part.make unit.part)) _ _ _ _ (λ same. ap desk_of same) (λ q r k. k) _ row.set asked row.acts;
      moved = row.moved;
    })
    _ _ (c.turn-asked.ensures.opening ∙ ap (λ d. d.opening) c.seat.ensures.desk) c.turn-asked.ensures.motor_demands (c.in_ok-note.ensures.noted ∙ ap (λ n. notes_with n asked) c.make_room.ensures.same)
