use Rattle.cell_report.proofs.Names.{◌≡◌, ap, subst, arith, Rest, IsFirstLeast}
use Rattle.cell_report.proofs.NextLeast.{next_of_copy, still_first}
use Rattle.cell_report.proofs.rests.Merge.next_run.Goals as goal

pub invariant_of-self-then-stays : goal.invariant_of-self-then-stays
invariant_of-self-then-stays c =
    let rests = c.args.self.now.rests in
    let place = c.next_place-place.result in
    let old = c.index-rests-place.result in
    let same = ap (λ (r : Rest). r.key) c.index-rests-place.is in
    let first = still_first rests place old c.next_run-run.new.self c.next_place-place.ensures (omega (arith, same, c.if-stays.true)) in
    record { first = λ x e. let is : place ≡ x = cc in subst (IsFirstLeast _) is first }

pub returns-then-stays : goal.returns-then-stays
returns-then-stays c =
    next_of_copy c.args.self.now.rests c.next_place-place.result c.index-rests-place.result c.next_run-run.new.self c.next_run-run.result
    c.next_place-place.ensures c.index-rests-place.is c.next_run-run.ensures

pub returns-else-stays : goal.returns-else-stays
returns-else-stays c =
    next_of_copy c.args.self.now.rests c.next_place-place.result c.index-rests-place.result c.next_run-run.new.self c.next_run-run.result
    c.next_place-place.ensures c.index-rests-place.is c.next_run-run.ensures
