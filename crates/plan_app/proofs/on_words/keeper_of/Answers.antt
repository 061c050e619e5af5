use Rattle.std.proofs.Common.{◌≡◌, ◌∙◌, ◌+◌, ◌<◌, ℕ, List, length, inl, inr, refl, sym, subst, arith}
use Rattle.std.proofs.lemmas.Bool.{cases_lt}
use Rattle.std.proofs.lemmas.Option.{slice_get_read}
use Rattle.plan_document.specs.declared.resolving.ProgrammedPlan.{ProgrammedPlan}
use Rattle.plan_app.specs.OnWords.{PermitsBoth}
use Rattle.plan_app.proofs.on_words.keeper_of.Goals as goal

pub returns-then-is_never : goal.returns-then-is_never
returns-then-is_never c =
    let plans = c.args.plans.now in
    let plan = c.index-plans-word.result in
    record {
      plan = plan;
      there = slice_get_read plans (length plans) c.loop-word.word plan refl c.loop-word-test.true c.index-plans-word.is;
      shown = c.verdict_on-verdict.ensures;
      keeps = sym c.is_never.ensures ∙ c.if-is_never.true;
      first = c.loop-word.invariant;
    }

-- with one word more
one_more : (plans : List ProgrammedPlan) (hazard word : ℕ) → ((other : ℕ) → other < word → PermitsBoth plans hazard other)
    → PermitsBoth plans hazard word → (other : ℕ) → other < word + 1 → PermitsBoth plans hazard other
one_more plans hazard word before last other few =
    elim (cases_lt other word) [
      | inl less ↦ before other less
      | inr more ↦ let same : word ≡ other = omega (arith, few, more) in subst (PermitsBoth plans hazard) same last
    ]

pub loop-word-preserved : goal.loop-word-preserved
loop-word-preserved c =
    let plans = c.args.plans.now in
    let plan = c.index-plans-word.result in
    one_more plans c.args.hazard c.loop-word.word c.loop-word.invariant
    (record {
      plan = plan;
      there = slice_get_read plans (length plans) c.loop-word.word plan refl c.loop-word-test.true c.index-plans-word.is;
      verdict = c.verdict_on-verdict.result;
      shown = c.verdict_on-verdict.ensures;
      unkept = sym c.is_never.ensures ∙ c.if-is_never.false;
    })
