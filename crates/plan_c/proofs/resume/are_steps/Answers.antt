use Rattle.std.proofs.Common.{◌≡◌, ◌∙◌, true, false, Some, get_or, [], ◌∷◌, ◌++◌, sym, ap, rules}
use Rattle.std.specs.Prelude.{is_none}
use Rattle.plan_controller.specs.declared.step.Step.TheVariants.{Await}
use Rattle.plan_c.proofs.Resuming.{some_if, row_at, one_more}
use Rattle.plan_c.proofs.resume.are_steps.Goals as goal

apart : false ≡ true → ⊥
apart e = cc

pub returns-then-is_none : goal.returns-then-is_none
returns-then-is_none c =
    let k = c.loop-line.line in
    let none : is_none c.step_of.result ≡ true = search rules in (
      λ e. absurd (apart e),
      λ all.
          let step = get_or all.0 k (Await 0) in
          let is : c.step_of.result ≡ Some step = (c.step_of.ensures step).1 (row_at c.args.program.now all.0 k _ all.1 c.loop-line-test.true) in
          absurd (apart (sym (ap is_none is) ∙ none)),
    )

pub loop-line-preserved : goal.loop-line-preserved
loop-line-preserved c =
    let k = c.loop-line.line in
    let some : is_none c.step_of.result ≡ false = search rules in
    let x = some_if c.step_of.result some in
    let before = c.loop-line.invariant in
    (before.0 ++ x.0 ∷ [], one_more c.args.program.now before.0 k _ x.0 c.loop-line-test.true before.1 ((c.step_of.ensures x.0).0 x.1))
