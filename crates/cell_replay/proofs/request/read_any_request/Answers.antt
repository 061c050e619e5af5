use Rattle.std.proofs.Common.{◌≡◌, List, ℕ, Option, None, Some, sym, arith, rules, option_map, Bor}
use Rattle.csv.specs.Records.{fields_of}
use Rattle.cell_replay.proofs.lemmas.Requests.{read_whole}
use Rattle.cell_replay.proofs.request.read_any_request.Goals as goal

pub returns-in_err-call : goal.returns-in_err-call
returns-in_err-call c =
    let none : c.from_residual-in_err-call.result ≡ None = search rules in
    let object : Option (List ℕ) = option_map (λ (s : Bor (List ℕ)). s.now) c.get-3.result in
    rw none (read_whole (fields_of c.args.row.now) c.in_ok-get.field-0.now c.in_ok-get-2.field-0.now object c.in_ok-machine.machine None (omega arith) (sym c.in_ok-get.ensures.value) (sym c.in_ok-get-2.ensures.value) c.get-3.ensures.value
    c.in_ok-machine.ensures c.in_err-call.ensures)

pub returns : goal.returns
returns c =
    let object : Option (List ℕ) = option_map (λ (s : Bor (List ℕ)). s.now) c.get-3.result in
    read_whole (fields_of c.args.row.now) c.in_ok-get.field-0.now c.in_ok-get-2.field-0.now object c.in_ok-machine.machine (Some c.in_ok-call.call) (omega arith) (sym c.in_ok-get.ensures.value) (sym c.in_ok-get-2.ensures.value) c.get-3.ensures.value
    c.in_ok-machine.ensures c.in_ok-call.ensures
