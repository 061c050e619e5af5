use Rattle.std.proofs.Common.{Ok, Err, refl}
use Rattle.cell_replay.specs.Script.{script_rows}
use Rattle.cell_replay.specs.ScriptRecords.{records_used}
use Rattle.cell_replay.proofs.Writings.{script-ends, script-fails, script-stops, script-written}
use Rattle.cell_replay.proofs.replay_script.answer_records.Goals as goal

pub returns-in_err-begin : goal.returns-in_err-begin
returns-in_err-begin g c = record {
  written = λ bytes is has. script-stops bytes (g.W.Write.contents c.args.writer.now) c.from_residual.result c.in_err-begin.field-0.0 c.from_residual.ensures.1;
}

pub returns-in-Ok : goal.returns-in-Ok
returns-in-Ok g c = record {
  written = λ bytes is has.
      let old = g.W.Write.contents c.args.writer.now in
      let mid = g.W.Write.contents c.answer_rows.new.writer in
      let comes = c.in_ok-begin.ensures.left bytes is (records_used bytes) has in
      let written = script-written bytes (script_rows bytes) old mid c.answer_rows.result (Ok c.in-Ok.outcome) refl c.in-Ok.is (c.answer_rows.ensures.written bytes is (script_rows bytes) comes) in
      script-ends bytes old mid (g.W.Write.contents c.write_end.new.writer) c.in-Ok.outcome c.write_end.result written c.write_end.ensures.written;
}

pub returns-in-Err : goal.returns-in-Err
returns-in-Err g c = record {
  written = λ bytes is has.
      let old = g.W.Write.contents c.args.writer.now in
      let new = g.W.Write.contents c.answer_rows.new.writer in
      let comes = c.in_ok-begin.ensures.left bytes is (records_used bytes) has in
      script-fails bytes old new c.in-Err.fault (script-written bytes (script_rows bytes) old new c.answer_rows.result (Err c.in-Err.fault) refl c.in-Err.is (c.answer_rows.ensures.written bytes is (script_rows bytes) comes));
}
