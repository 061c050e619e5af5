use Rattle.std.proofs.Common.{List, ◌≡◌, string_bytes}
use Rattle.csv_rows.specs.Rows.{HasRows, IsPlain, Row}
use Rattle.plan_text.specs.Script.{answers_of, with_text}
use Rattle.plan_text.proofs.replay.answer_later.Given as goal

abbrev pub invariant-rows : goal.invariant-rows
invariant-rows g l = record {
  plain : IsPlain l.reader;
  left : (rows : List Row) → HasRows g.R.Read.remaining l.fn.reader rows
      → (rest : List Row) × HasRows g.R.Read.remaining l.reader rest
      × (with_text (string_bytes l.fn.before) (answers_of l.named 0 l.fn.start rows)
      ≡ with_text (string_bytes l.text) (answers_of l.named l.done l.state rest));
}
