use Rattle.std.proofs.Common.{◌≡◌, ◌∙◌, ◌∷◌, ap, sym, refl, true, false, rules, arith, string_bytes, None, Some}
use Rattle.csv.specs.Records.{fields_of}
use Rattle.csv_rows.specs.ScriptEnd.{max_records}
use Rattle.csv_rows.specs.declared.script_end.ScriptFault.TheVariants.{Long}
use Rattle.csv_rows.specs.declared.script_end.Outcome.TheVariants.{Clean, Refused}
use Rattle.csv_rows.proofs.lemmas.RowsTaken.{takes-none, takes-some}
use Rattle.plan_text.specs.Requests.{request_of}
use Rattle.plan_text.specs.Script.{answers_of, ends, row_refused}
use Rattle.plan_text.proofs.Answering.{answers_of-bad, answers_of-long, answers_of-none, ended, ok_more, one_answered}
use Rattle.plan_text.proofs.replay.answer_later.Goals as goal

pub rows-init : goal.rows-init
rows-init g c = record { plain = c.requires; left = λ rows has. (rows, has, refl) }

pub rows-preserved : goal.rows-preserved
rows-preserved g c = record {
  plain = c.in_ok-read_row.ensures.plain;
  left = λ rows has.
      let inv = c.rows.invariant.left rows has in
      let row = fields_of c.read_row.new.row in
      let found : c.in_ok-read_row.field-0 ≡ true = search rules in
      let some = takes-some g.R.Read.remaining c.read_row.new.reader c.in_ok-read_row.field-0 row inv.0 found (c.in_ok-read_row.ensures.found inv.0 inv.1) in
      let good : request_of c.args.named.now row ≡ Some c.in-Some.request = sym c.read_request.ensures ∙ c.in-Some.is in (
        some.0,
        some.2,
        one_answered c.args.named.now c.plan.result.now c.rows.done c.rows.state c.apply-answer.new.state row inv.0 some.0 c.in-Some.request c.apply-answer.result (string_bytes c.rows.text) (string_bytes c.push_line.new.text) _
            c.rows-test.true c.plan.ensures good c.apply-answer.ensures.answer c.apply-answer.ensures.next c.in_ok-push_line.ensures some.1 inv.2,
      );
}

pub returns-then-not-branch : goal.returns-then-not-branch
returns-then-not-branch g c = ok_more c.end.result _ _ c.end.ensures (λ a said rows has.
    let inv = c.rows.invariant.left rows has in
    let found : c.in_ok-read_row.field-0 ≡ false = search rules in
    let none = takes-none g.R.Read.remaining c.read_row.new.reader c.in_ok-read_row.field-0 (fields_of c.read_row.new.row) inv.0 found (c.in_ok-read_row.ensures.found inv.0 inv.1) in
    let is = ap (answers_of c.args.named.now c.rows.done c.rows.state) none ∙ answers_of-none c.args.named.now c.rows.done c.rows.state in
    ended c.args.named.now c.rows.done c.rows.state inv.0 (string_bytes c.rows.text) _ (ends Clean) is inv.2 a said)

pub returns-in_default : goal.returns-in_default
returns-in_default g c = ok_more c.end_at.result _ _ c.end_at.ensures (λ a said rows has.
    let inv = c.rows.invariant.left rows has in
    let row = fields_of c.read_row.new.row in
    let found : c.in_ok-read_row.field-0 ≡ true = search rules in
    let some = takes-some g.R.Read.remaining c.read_row.new.reader c.in_ok-read_row.field-0 row inv.0 found (c.in_ok-read_row.ensures.found inv.0 inv.1) in
    let bad : request_of c.args.named.now row ≡ None = sym c.read_request.ensures ∙ c.in_default.is in
    let is = ap (answers_of c.args.named.now c.rows.done c.rows.state) some.1 ∙ answers_of-bad c.args.named.now c.rows.done c.rows.state row some.0 c.rows-test.true bad in
    ended c.args.named.now c.rows.done c.rows.state inv.0 (string_bytes c.rows.text) _ (row_refused c.args.named.now _ row) is inv.2 a said)

pub returns-then-branch : goal.returns-then-branch
returns-then-branch g c = ok_more c.end-then-branch.result _ _ c.end-then-branch.ensures (λ a said rows has.
    let inv = c.rows.invariant.left rows has in
    let row = fields_of c.read_row-2.new.row in
    let found : c.in_ok-read_row-2.field-0 ≡ true = search rules in
    let some = takes-some g.R.Read.remaining c.read_row-2.new.reader c.in_ok-read_row-2.field-0 row inv.0 found (c.in_ok-read_row-2.ensures.found inv.0 inv.1) in
    let full : c.rows.done ≡ max_records = omega (arith, c.rows-test.false, c.rows.auto.done-end) in
    let is = ap (answers_of c.args.named.now c.rows.done c.rows.state) some.1 ∙ ap (λ done. answers_of c.args.named.now done c.rows.state (row ∷ some.0)) full ∙ answers_of-long c.args.named.now c.rows.state row some.0 in
    ended c.args.named.now c.rows.done c.rows.state inv.0 (string_bytes c.rows.text) _ (ends (Refused Long)) is inv.2 a said)

pub returns : goal.returns
returns g c = ok_more c.end-2.result _ _ c.end-2.ensures (λ a said rows has.
    let inv = c.rows.invariant.left rows has in
    let found : c.in_ok-read_row-2.field-0 ≡ false = search rules in
    let none = takes-none g.R.Read.remaining c.read_row-2.new.reader c.in_ok-read_row-2.field-0 (fields_of c.read_row-2.new.row) inv.0 found (c.in_ok-read_row-2.ensures.found inv.0 inv.1) in
    let is = ap (answers_of c.args.named.now c.rows.done c.rows.state) none ∙ answers_of-none c.args.named.now c.rows.done c.rows.state in
    ended c.args.named.now c.rows.done c.rows.state inv.0 (string_bytes c.rows.text) _ (ends Clean) is inv.2 a said)
