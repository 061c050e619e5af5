use Rattle.std.proofs.Common.{refl, arith, ◌≡◌, true, false}
use Rattle.plan_workers.proofs.AuditRows.{rows}
use Rattle.plan_workers.proofs.laws.audit_examples_are_right.Goals as goal

pub returns-clause-audits : goal.returns-clause-audits
returns-clause-audits c = rows

pub returns-clause-order : goal.returns-clause-order
returns-clause-order c = record {
  by_machine = ((λ _ _. omega arith), ((λ _ _. omega arith), (tt, tt)));
  done_between = ((λ _ done. let e : true ≡ false = done in absurd (cc)), ((λ done _. let e : true ≡ false = done in absurd (cc)), ((λ _ _. omega arith), (tt, tt))));
  not_by_machine = λ k. let low = k.1.0 refl refl in omega (arith, low);
  not_at_the_end = λ k. let low = k.1.0 refl refl in omega (arith, low);
}
