use Rattle.std.proofs.Common.{◌≡◌, subst, ap}
use Rattle.plan_types.specs.Table.{PlanTable}
use Rattle.plan_rules.specs.declared.state.State.{State}
use Rattle.plan_word.specs.OfPlan.{IsOfPlan}
use Rattle.plan_word.specs.Packed.{packed}
use Rattle.plan_compiled.specs.Compiled.{CompiledPlan}
use Rattle.plan_compiled.proofs.StateTold.{place_bits, told_by}
use Rattle.plan_compiled.proofs.compiled.Compiled.is_state_word.Goals as goal

pub are_sound-requires-clause-places : goal.are_sound-requires-clause-places
are_sound-requires-clause-places c = λ q l. place_bits c.self.inside.plan c.args.word c.self.inside.place_bit q c.self.invariant.place_bit_is c.self.invariant.plan l

pub returns : goal.returns
returns c = λ e.
    let w = c.args.word in
    subst (λ (t : PlanTable). (s : State) × IsOfPlan t s × (packed t s ≡ w)) (ap (λ (k : CompiledPlan). k.table) c.self.view_is)
    (told_by c.self.inside.plan w c.self.inside.stamp_bit c.self.invariant.plan c.self.invariant.stamp_bit_is c.if-word-self-ne0.false (c.are_sound.ensures e))
