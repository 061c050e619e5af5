use Rattle.std.proofs.Common.{◌≡◌, ◌∙◌, ap, sym, refl, true, false, rules, string_bytes, Ok, Err}
use Rattle.csv.specs.Records.{fields_of}
use Rattle.plan_types.specs.Table.{place_count}
use Rattle.plan_text.specs.Starts.{start_in}
use Rattle.plan_text.specs.Script.{answers_from, answers_of, rows_answers, start_line, with_text}
use Rattle.plan_text.proofs.Answering.{ok_more}
use Rattle.csv_rows.proofs.lemmas.RowsTaken.{takes-none, takes-some}
use Rattle.plan_text.proofs.replay.answer_rows.Goals as goal

pub returns-then-not-branch : goal.returns-then-not-branch
returns-then-not-branch g c = ok_more c.end.result _ _ c.end.ensures (λ a said rows has.
    let found : c.in_ok-read_row.field-0 ≡ false = search rules in
    let none = takes-none g.R.Read.remaining c.read_row.new.reader c.in_ok-read_row.field-0 (fields_of c.read_row.new.row) rows found (c.in_ok-read_row.ensures.found rows has) in
    said ∙ rw (none, c.new-text.ensures.bytes) refl)

pub returns-in-Ok : goal.returns-in-Ok
returns-in-Ok g c = ok_more c.answer_later.result _ _ c.answer_later.ensures (λ a said rows has.
    let row = fields_of c.read_row.new.row in
    let found : c.in_ok-read_row.field-0 ≡ true = search rules in
    let some = takes-some g.R.Read.remaining c.read_row.new.reader c.in_ok-read_row.field-0 row rows found (c.in_ok-read_row.ensures.found rows has) in
    let good : start_in (place_count c.args.named.now.plan) row ≡ Ok c.in-Ok.state = sym c.read_start.ensures ∙ c.in-Ok.is in
    let line : string_bytes c.push_start.new.text ≡ start_line c.in-Ok.state = c.in_ok-push_start-in-Ok.ensures ∙ rw c.new-text.ensures.bytes refl in
    said some.0 some.2
    ∙ ap (λ text. with_text text (answers_of c.args.named.now 0 c.in-Ok.state some.0)) line
    ∙ sym (ap (λ start. answers_from c.args.named.now start some.0) good)
    ∙ sym (ap (rows_answers c.args.named.now) some.1))

pub returns : goal.returns
returns g c = ok_more c.end-in-Err.result _ _ c.end-in-Err.ensures (λ a said rows has.
    let row = fields_of c.read_row.new.row in
    let found : c.in_ok-read_row.field-0 ≡ true = search rules in
    let some = takes-some g.R.Read.remaining c.read_row.new.reader c.in_ok-read_row.field-0 row rows found (c.in_ok-read_row.ensures.found rows has) in
    let bad : start_in (place_count c.args.named.now.plan) row ≡ Err c.in-Err.fault = sym c.read_start.ensures ∙ c.in-Err.is in
    said
    ∙ rw c.new-text.ensures.bytes refl
    ∙ sym (ap (λ start. answers_from c.args.named.now start some.0) bad)
    ∙ sym (ap (rows_answers c.args.named.now) some.1))
