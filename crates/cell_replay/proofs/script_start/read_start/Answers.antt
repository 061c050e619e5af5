use Rattle.std.proofs.Common.{◌≡◌, ◌∙◌, Err, Some, None, sym, ap, drop, rules}
use Rattle.csv.specs.Records.{fields_of}
use Rattle.cell_replay.specs.Versions.{version_of}
use Rattle.cell_replay.specs.Script.{start_by, start_of_version}
use Rattle.cell_replay.proofs.Starts.{start_in-word}
use Rattle.cell_replay.proofs.script_start.read_start.Goals as goal

pub returns-in_default-read : goal.returns-in_default-read
returns-in_default-read c =
    let fields = fields_of c.args.row.now in
    let none : version_of c.in-Some.word.now ≡ None = sym c.read.ensures ∙ c.in_default-read.is in
    sym (start_in-word fields c.in-Some.word.now (sym c.in-Some.ensures.value) ∙ ap (λ v. start_by v (drop 1 fields)) none)

pub returns-in_err-state : goal.returns-in_err-state
returns-in_err-state c =
    let fields = fields_of c.args.row.now in
    let some : version_of c.in-Some.word.now ≡ Some c.in-Some-read.version = sym c.read.ensures ∙ c.in-Some-read.is in
    let bad : c.from_residual.result ≡ Err c.in_err-state.field-0.0 = search rules in
    bad ∙ sym (start_in-word fields c.in-Some.word.now (sym c.in-Some.ensures.value) ∙ ap (λ v. start_by v (drop 1 fields)) some ∙ ap (start_of_version c.in-Some-read.version) (sym c.in_err-state.ensures))

pub returns : goal.returns
returns c =
    let fields = fields_of c.args.row.now in
    let some : version_of c.in-Some.word.now ≡ Some c.in-Some-read.version = sym c.read.ensures ∙ c.in-Some-read.is in
    sym (start_in-word fields c.in-Some.word.now (sym c.in-Some.ensures.value) ∙ ap (λ v. start_by v (drop 1 fields)) some ∙ ap (start_of_version c.in-Some-read.version) (sym c.in_ok-state.ensures))
