use Rattle.std.proofs.Common.{◌≡◌, ◌++◌, ◌+◌, ◌∷◌, ◌∙◌, refl, [], ap, sym, true, false, rules, Some, None, Ok, arith}
use Rattle.std.proofs.KnownBytes.{Appends-kept, Appends-nil}
use Rattle.std.specs.List.{concat}
use Rattle.cell_types.specs.Answers.{answer_text}
use Rattle.csv.specs.Records.{fields_of}
use Rattle.csv_rows.specs.ScriptEnd.{max_records}
use Rattle.cell_replay.specs.Requests.{request_of}
use Rattle.cell_replay.specs.Script.{end_of, is_cut_of, line_of}
use Rattle.cell_replay.specs.Writing.{lines_left, outcome_left}
use Rattle.cell_replay.proofs.Writings.{fails-at-line, fails-before, line-first, line-more, lines-step, outcome-first, writes-after, writes-bad, writes-end, writes-long, writes-through}
use Rattle.cell_replay.proofs.answers.answer_later.Goals as goal

pub rows-init : goal.rows-init
rows-init g c = record { plain = c.requires; written = λ bytes is all comes. ([], all, comes, Appends-nil (g.W.Write.contents c.args.writer.now), refl, refl) }

pub rows-preserved : goal.rows-preserved
rows-preserved g c = record {
  plain = c.in_ok-next_record.ensures.plain;
  written = λ bytes is all comes.
      let inv = c.rows.invariant.written bytes is all comes in
      let old = g.W.Write.contents c.args.writer.now in
      let mid = g.W.Write.contents c.next_record.new.writer in
      let row = fields_of c.next_record.new.records.row in
      let found : c.in_ok-next_record.field-0 ≡ true = search rules in
      let some = rw found at (c.in_ok-next_record.ensures.gives bytes is inv.1 inv.2) in
      let good : request_of c.args.start.version row ≡ Some c.in-Some.request = ap (λ r. request_of c.args.start.version (fields_of r)) (sym c.row.ensures) ∙ sym c.read_request.ensures.same ∙ c.in-Some.is in
      let line = line_of (c.rows.done + 1) c.stamp.result (answer_text c.apply-answer.result) in
      let first = line-first c.args.start.version c.rows.done c.rows.state c.apply-answer.new.state inv.1 some.0 row c.in-Some.request c.stamp.result c.apply-answer.result c.rows-test.true some.1 good c.apply-answer.ensures.next c.stamp.ensures.stamp c.apply-answer.ensures.answer in
      let wrote = Appends-kept old (g.W.Write.contents c.rows.writer) mid (concat inv.0) inv.3 c.next_record.ensures.kept in (
        inv.0 ++ line ∷ [],
        some.0,
        some.2,
        line-more inv.0 line old mid (g.W.Write.contents c.write_answer.new.writer) wrote c.in_ok-write_answer.ensures.written,
        lines-step inv.0 _ _ _ line inv.4 first,
        outcome-first c.args.start.version (is_cut_of bytes) c.rows.done inv.1 some.0 row c.in-Some.request c.rows-test.true some.1 good ∙ inv.5,
      );
}

pub returns-in_err-next_record : goal.returns-in_err-next_record
returns-in_err-next_record g c = record {
  written = λ bytes is all comes.
      let inv = c.rows.invariant.written bytes is all comes in
      let new = g.W.Write.contents c.next_record.new.writer in
      writes-through inv.0 _ _ _ _ _ (g.W.Write.contents c.rows.writer) new c.from_residual.result inv.3 inv.4 inv.5
      (fails-before c.from_residual.result _ (lines_left c.args.start.version c.rows.done c.rows.state inv.1) (outcome_left c.args.start.version (is_cut_of bytes) c.rows.done inv.1) (g.W.Write.contents c.rows.writer) new c.from_residual.ensures.1 c.next_record.ensures.kept);
}

pub returns-then-not-branch : goal.returns-then-not-branch
returns-then-not-branch g c = record {
  written = λ bytes is all comes.
      let inv = c.rows.invariant.written bytes is all comes in
      let mid = g.W.Write.contents c.next_record.new.writer in
      let found : c.in_ok-next_record.field-0 ≡ false = search rules in
      let none = rw found at (c.in_ok-next_record.ensures.gives bytes is inv.1 inv.2) in
      writes-after inv.0 _ _ _ _ _ _ mid mid (Ok c.end.result) inv.3 c.next_record.ensures.kept inv.4 inv.5
      (writes-end c.args.start.version (is_cut_of bytes) c.rows.done c.rows.state inv.1 c.next_record.new.records.is_cut c.end.result mid none.0 none.1 (c.end.ensures ∙ ap (λ b. end_of b 0 0) c.is_cut.ensures));
}

pub returns-in_default : goal.returns-in_default
returns-in_default g c = record {
  written = λ bytes is all comes.
      let inv = c.rows.invariant.written bytes is all comes in
      let mid = g.W.Write.contents c.next_record.new.writer in
      let row = fields_of c.next_record.new.records.row in
      let found : c.in_ok-next_record.field-0 ≡ true = search rules in
      let some = rw found at (c.in_ok-next_record.ensures.gives bytes is inv.1 inv.2) in
      let bad : request_of c.args.start.version row ≡ None = ap (λ r. request_of c.args.start.version (fields_of r)) (sym c.row.ensures) ∙ sym c.read_request.ensures.same ∙ c.in_default.is in
      writes-after inv.0 _ _ _ _ _ _ mid mid (Ok _) inv.3 c.next_record.ensures.kept inv.4 inv.5
      (writes-bad c.args.start.version (is_cut_of bytes) c.rows.done c.rows.state inv.1 some.0 row mid c.rows-test.true some.1 bad);
}

pub returns-in_err-write_answer : goal.returns-in_err-write_answer
returns-in_err-write_answer g c = record {
  written = λ bytes is all comes.
      let inv = c.rows.invariant.written bytes is all comes in
      let mid = g.W.Write.contents c.next_record.new.writer in
      let new = g.W.Write.contents c.write_answer.new.writer in
      let row = fields_of c.next_record.new.records.row in
      let found : c.in_ok-next_record.field-0 ≡ true = search rules in
      let some = rw found at (c.in_ok-next_record.ensures.gives bytes is inv.1 inv.2) in
      let good : request_of c.args.start.version row ≡ Some c.in-Some.request = ap (λ r. request_of c.args.start.version (fields_of r)) (sym c.row.ensures) ∙ sym c.read_request.ensures.same ∙ c.in-Some.is in
      let line = line_of (c.rows.done + 1) c.stamp.result (answer_text c.apply-answer.result) in
      let first = line-first c.args.start.version c.rows.done c.rows.state c.apply-answer.new.state inv.1 some.0 row c.in-Some.request c.stamp.result c.apply-answer.result c.rows-test.true some.1 good c.apply-answer.ensures.next c.stamp.ensures.stamp c.apply-answer.ensures.answer in
      writes-after inv.0 _ _ _ _ _ _ mid new c.from_residual-in_err-write_answer.result inv.3 c.next_record.ensures.kept inv.4 inv.5
      (fails-at-line c.from_residual-in_err-write_answer.result c.in_err-write_answer.field-0.0 line _ (lines_left c.args.start.version c.rows.done c.rows.state inv.1) _ mid new c.from_residual-in_err-write_answer.ensures.1 first c.in_err-write_answer.ensures.written);
}

pub returns-in_err-next_record-2 : goal.returns-in_err-next_record-2
returns-in_err-next_record-2 g c = record {
  written = λ bytes is all comes.
      let inv = c.rows.invariant.written bytes is all comes in
      let new = g.W.Write.contents c.next_record-2.new.writer in
      writes-through inv.0 _ _ _ _ _ (g.W.Write.contents c.rows.writer) new c.from_residual-in_err-next_record-2.result inv.3 inv.4 inv.5
      (fails-before c.from_residual-in_err-next_record-2.result _ (lines_left c.args.start.version c.rows.done c.rows.state inv.1) (outcome_left c.args.start.version (is_cut_of bytes) c.rows.done inv.1) (g.W.Write.contents c.rows.writer) new c.from_residual-in_err-next_record-2.ensures.1 c.next_record-2.ensures.kept);
}

pub returns-then-branch : goal.returns-then-branch
returns-then-branch g c = record {
  written = λ bytes is all comes.
      let inv = c.rows.invariant.written bytes is all comes in
      let mid = g.W.Write.contents c.next_record-2.new.writer in
      let row = fields_of c.next_record-2.new.records.row in
      let found : c.in_ok-next_record-2.field-0 ≡ true = search rules in
      let some = rw found at (c.in_ok-next_record-2.ensures.gives bytes is inv.1 inv.2) in
      let full : c.rows.done ≡ max_records = omega (arith, c.rows-test.false, c.rows.auto.done-end) in
      writes-after inv.0 _ _ _ _ _ _ mid mid (Ok _) inv.3 c.next_record-2.ensures.kept inv.4 inv.5
      (writes-long c.args.start.version (is_cut_of bytes) c.rows.done c.rows.state row inv.1 some.0 mid full some.1);
}

pub returns : goal.returns
returns g c = record {
  written = λ bytes is all comes.
      let inv = c.rows.invariant.written bytes is all comes in
      let mid = g.W.Write.contents c.next_record-2.new.writer in
      let found : c.in_ok-next_record-2.field-0 ≡ false = search rules in
      let none = rw found at (c.in_ok-next_record-2.ensures.gives bytes is inv.1 inv.2) in
      writes-after inv.0 _ _ _ _ _ _ mid mid (Ok c.end-2.result) inv.3 c.next_record-2.ensures.kept inv.4 inv.5
      (writes-end c.args.start.version (is_cut_of bytes) c.rows.done c.rows.state inv.1 c.next_record-2.new.records.is_cut c.end-2.result mid none.0 none.1 (c.end-2.ensures ∙ ap (λ b. end_of b 0 0) c.is_cut-2.ensures));
}
