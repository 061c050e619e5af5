use Rattle.std.proofs.Common.{◌≡◌, ◌∙◌, ap, sym, true, false, rules, cond, Ok, Err, refl}
use Rattle.csv.specs.Records.{fields_of}
use Rattle.csv_rows.specs.declared.script_end.ScriptFault.TheVariants.{Long, NoStart}
use Rattle.cell_replay.specs.Script.{is_cut_of, rows_lines, rows_outcome, start_in, start_line}
use Rattle.cell_replay.proofs.Writings.{rows-empty, rows-refused, rows-started, rows-unstarted, writes-residual}
use Rattle.cell_replay.proofs.answers.answer_rows.Goals as goal

pub returns-then-is_cut : goal.returns-then-is_cut
returns-then-is_cut g c = record {
  written = λ bytes is left comes.
      let found : c.in_ok-next.field-0 ≡ false = search rules in
      let none = rw found at (c.in_ok-next.ensures.gives bytes is left comes) in
      rows-empty (is_cut_of bytes) c.next.new.self.is_cut left Long (g.W.Write.contents c.args.writer.now) none.0 none.1 (ap (λ b. cond b Long NoStart) (sym (sym c.is_cut.ensures ∙ c.if-is_cut.true)));
}

pub returns-else-is_cut : goal.returns-else-is_cut
returns-else-is_cut g c = record {
  written = λ bytes is left comes.
      let found : c.in_ok-next.field-0 ≡ false = search rules in
      let none = rw found at (c.in_ok-next.ensures.gives bytes is left comes) in
      rows-empty (is_cut_of bytes) c.next.new.self.is_cut left NoStart (g.W.Write.contents c.args.writer.now) none.0 none.1 (ap (λ b. cond b Long NoStart) (sym (sym c.is_cut.ensures ∙ c.if-is_cut.false)));
}

pub returns-in-Err : goal.returns-in-Err
returns-in-Err g c = record {
  written = λ bytes is left comes.
      let found : c.in_ok-next.field-0 ≡ true = search rules in
      let row = fields_of c.next.new.self.row in
      let some = rw found at (c.in_ok-next.ensures.gives bytes is left comes) in
      let bad : start_in row ≡ Err c.in-Err.fault = ap (λ r. start_in (fields_of r)) (sym c.row.ensures) ∙ sym c.read_start.ensures ∙ c.in-Err.is in
      rows-refused (is_cut_of bytes) row left some.0 c.in-Err.fault (g.W.Write.contents c.args.writer.now) some.1 bad;
}

pub returns-in-Ok-write_start : goal.returns-in-Ok-write_start
returns-in-Ok-write_start g c = record {
  written = λ bytes is left comes.
      let found : c.in_ok-next.field-0 ≡ true = search rules in
      let row = fields_of c.next.new.self.row in
      let some = rw found at (c.in_ok-next.ensures.gives bytes is left comes) in
      let good : start_in row ≡ Ok c.in-Ok.start = ap (λ r. start_in (fields_of r)) (sym c.row.ensures) ∙ sym c.read_start.ensures ∙ c.in-Ok.is in
      rows-started (is_cut_of bytes) row left some.0 c.in-Ok.start (start_line c.in-Ok.start) (g.W.Write.contents c.args.writer.now) (g.W.Write.contents c.write_start.new.writer) (g.W.Write.contents c.answer_later.new.writer) c.answer_later.result
      some.1 good refl c.in-Ok-write_start.ensures.written (c.answer_later.ensures.written bytes is some.0 some.2);
}

pub returns-in-Err-write_start : goal.returns-in-Err-write_start
returns-in-Err-write_start g c = record {
  written = λ bytes is left comes.
      let found : c.in_ok-next.field-0 ≡ true = search rules in
      let row = fields_of c.next.new.self.row in
      let some = rw found at (c.in_ok-next.ensures.gives bytes is left comes) in
      let good : start_in row ≡ Ok c.in-Ok.start = ap (λ r. start_in (fields_of r)) (sym c.row.ensures) ∙ sym c.read_start.ensures ∙ c.in-Ok.is in
      rows-unstarted (is_cut_of bytes) row left some.0 c.in-Ok.start (g.W.Write.contents c.args.writer.now) (g.W.Write.contents c.write_start.new.writer) c.in-Err-write_start.fault some.1 good c.in-Err-write_start.ensures.written;
}

pub returns-in_err-next : goal.returns-in_err-next
returns-in_err-next g c = record {
  written = λ bytes is left comes. writes-residual c.from_residual.result c.in_err-next.field-0.0 (rows_lines (is_cut_of bytes) left) (rows_outcome (is_cut_of bytes) left) (g.W.Write.contents c.args.writer.now) c.from_residual.ensures.1;
}
