use Rattle.std.proofs.Common.{◌≡◌, ◌∷◌, ◌∙◌, ◌||◌, not, true, rules, sym, ap}
use Rattle.csv.specs.Records.{fields_of}
use Rattle.cell_replay.specs.Limited.{bytes_left}
use Rattle.cell_replay.specs.Script.{is_cut_of, used}
use Rattle.cell_replay.proofs.RowsLeft.{left-found}
use Rattle.cell_replay.proofs.records.Records.next.Goals as goal

pub returns-then-self-clause-gives : goal.returns-then-self-clause-gives
returns-then-self-clause-gives g c bytes is left comes =
    let old = c.args.self.now in
    let r = c.read_ahead.new.self in
    let some : old.holds ≡ true = search rules in
    let held = rw some at comes in
    let row = c.in_ok-read_ahead.ensures.row ∙ c.swap.ensures.x_after in
    left-found (λ r. bytes_left (g.L.LentReader.left r.now.input) r.now.is_cut r.now.taken) (is_cut_of bytes) r.reader r.holds (fields_of r.row) (fields_of r.held) r.is_cut held.0 left r.holds
    (c.in_ok-read_ahead.ensures.found bytes is held.0 held.1) (held.2 ∙ ap (λ f. used (is_cut_of bytes) (fields_of f ∷ held.0)) (sym row)) (ap (λ b. b || not r.is_cut) c.if-self.true ∙ sym c.if-self.true)

pub returns-else-self-clause-gives : goal.returns-else-self-clause-gives
returns-else-self-clause-gives g c bytes is left comes =
    let old = c.args.self.now in
    let r = c.read_ahead.new.self in
    let some : old.holds ≡ true = search rules in
    let held = rw some at comes in
    let row = c.in_ok-read_ahead.ensures.row ∙ c.swap.ensures.x_after in
    left-found (λ r. bytes_left (g.L.LentReader.left r.now.input) r.now.is_cut r.now.taken) (is_cut_of bytes) r.reader r.holds (fields_of r.row) (fields_of r.held) r.is_cut held.0 left (not r.is_cut)
    (c.in_ok-read_ahead.ensures.found bytes is held.0 held.1) (held.2 ∙ ap (λ f. used (is_cut_of bytes) (fields_of f ∷ held.0)) (sym row)) (ap (λ b. b || not r.is_cut) c.if-self.false)
