use Rattle.std.proofs.Common.{◌≡◌, ◌∙◌, ◌<◌, None, true, false, refl, sym, subst, below_more, arith}
use Rattle.plan_drives.specs.Lacking.{undriven_at}
use Rattle.plan_drives.proofs.Lacking.{at_none, at_some, all_driven, facts_there, undriven_here, undriven_not_backed}
use Rattle.plan_drives.proofs.check.first_undriven.Goals as goal

true_false : true ≡ false → ⊥
true_false e = cc

pub returns-in-Some-clause-none : goal.returns-in-Some-clause-none
returns-in-Some-clause-none c =
    let plan = c.args.plan.now in
    let m = c.args.machine in
    let program = c.args.program.now in
    let here = sym (undriven_here plan m program c.loop-line.line c.loop-line.known c.loop-line-test.true c.loop-line.invariant.known) ∙ sym c.undriven_line.ensures ∙ c.in-Some.is in
    let found = at_some plan m program c.loop-line.line c.in-Some.found here in
    (λ e. absurd (true_false e), λ driven. absurd (undriven_not_backed plan m program c.in-Some.found found.1 (driven c.in-Some.found.line)))

pub returns-in-Some-clause-why : goal.returns-in-Some-clause-why
returns-in-Some-clause-why c =
    let plan = c.args.plan.now in
    let m = c.args.machine in
    let program = c.args.program.now in
    let here = sym (undriven_here plan m program c.loop-line.line c.loop-line.known c.loop-line-test.true c.loop-line.invariant.known) ∙ sym c.undriven_line.ensures ∙ c.in-Some.is in
    (at_some plan m program c.loop-line.line c.in-Some.found here).1

pub returns-in-Some-clause-first : goal.returns-in-Some-clause-first
returns-in-Some-clause-first c =
    let plan = c.args.plan.now in
    let m = c.args.machine in
    let program = c.args.program.now in
    let here = sym (undriven_here plan m program c.loop-line.line c.loop-line.known c.loop-line-test.true c.loop-line.invariant.known) ∙ sym c.undriven_line.ensures ∙ c.in-Some.is in
    let at = (at_some plan m program c.loop-line.line c.in-Some.found here).0 in
    λ k less. at_none plan m program k (c.loop-line.invariant.none k (subst (λ n. k < n) at less))

pub loop-line-preserved : goal.loop-line-preserved
loop-line-preserved c =
    let plan = c.args.plan.now in
    let m = c.args.machine in
    let program = c.args.program.now in
    let k = c.loop-line.line in
    let inside = c.loop-line-test.true in
    let is = c.loop-line.invariant.known in
    let here = sym (undriven_here plan m program k c.loop-line.known inside is) ∙ sym c.undriven_line.ensures ∙ c.in_default.is in
    record {
      known = c.facts_after_line-known.ensures ∙ rw c.plan.ensures.plan (facts_there plan.plan m program k c.loop-line.known inside is);
      none = below_more (λ j. undriven_at plan m program j ≡ None) k c.loop-line.invariant.none here;
    }

pub returns-clause-none : goal.returns-clause-none
returns-clause-none c =
    let end = c.loop-line-test.false in
    (λ _. all_driven c.args.plan.now c.args.machine c.args.program.now (λ k l. c.loop-line.invariant.none k (omega (arith, l, end))), λ _. refl)
