use Rattle.std.proofs.Common.{sym, ◌≡◌, ℕ, ◌+◌, ◌*◌, ◌/◌, ◌%◌, ◌<◌, ◌≤◌, ◌^◌, Option, None, ap, ◌∙◌, subst, arith}
use Rattle.std.specs.Prelude.{IsSome}
use Rattle.plan_types.specs.Table.{PlanTable}
use Rattle.plan_rules.specs.declared.state.State.{State}
use Rattle.plan_word.specs.OfPlan.{IsOfPlan}
use Rattle.plan_word.specs.Packed.{packed}
use Rattle.plan_compiled.specs.declared.part.Part.{Part}
use Rattle.plan_compiled.specs.Row.{Row}
use Rattle.plan_compiled.specs.Rows.{written}
use Rattle.plan_compiled.specs.Compiled.{CompiledPlan}
use Rattle.plan_compiled.specs.Complete.{HasRow}
use Rattle.plan_compiled.proofs.Steps.{Stepped, stepped, stamp_told, row_found}
use Rattle.plan_compiled.proofs.compiled.Compiled.done_word.Goals as goal

pub returns-then-stamp-from-clause-found : goal.returns-then-stamp-from-clause-found
returns-then-stamp-from-clause-found c =
    let inside = c.self.inside in
    let w = c.args.word in
    let nothing : Option ℕ = None in
    let high : 1048575 ≤ w / 2 ^ inside.stamp_bit % 2 ^ 20 = omega (arith, c.if-stamp-from.true, c.from.ensures) in
    subst (λ (k : CompiledPlan). (s : State) → IsOfPlan k.table s → packed k.table s ≡ w → s.stamp < 1048575 → HasRow k.rows k.starts w c.args.machine c.args.call → IsSome nothing) c.self.view_is
    (λ s o e l h. let is = stamp_told inside.plan s inside.stamp_bit w o e c.self.invariant.stamp_bit_is in absurd (omega (arith, is, high, l)))

pub returns-clause-done : goal.returns-clause-done
returns-clause-done c =
    let inside = c.self.inside in
    let w = c.args.word in
    let row = c.index-self-index.result in
    let found = row_found inside.plan inside.rows c.in-Some.index c.args.machine c.args.call w row c.self.invariant.rows_are_right c.in-Some.ensures.own c.in-Some.ensures.is_met c.index-self-index.is in
    let part_is = c.written.ensures ∙ ap (λ (p : Part). written p w) c.part-part.ensures ∙ ap (λ (r : Row). written r.part w) (sym c.index-self-index.is) in
    let fresh : w / 2 ^ inside.stamp_bit % 2 ^ 20 < 1048575 = omega (arith, c.if-stamp-from.false, c.from.ensures) in
    let x : ℕ = (c.written.result + (1 * 2 ^ inside.stamp_bit) % 2 ^ 64) % 2 ^ 64 in
    subst (λ (t : PlanTable). (s : State) → IsOfPlan t s → packed t s ≡ w → Stepped t s c.args.machine c.args.call x) (ap (λ (k : CompiledPlan). k.table) c.self.view_is)
    (λ s o e. stepped inside.plan row c.args.machine c.args.call inside.stamp_bit w c.written.result s c.self.invariant.plan found.right found.machine found.call_is o e found.is_met
    c.self.invariant.stamp_bit_is c.self.invariant.stamp_in_word fresh part_is)
