use Rattle.std.proofs.Common.{◌+◌, ◌-◌, [], ◌∷◌, ◌++◌, refl}
use Rattle.std.specs.List.{range_with_len}
use Rattle.plan_types.specs.Table.{watch}
use Rattle.plan_interlock.proofs.Opening.{its_turn, made_more, rights_of}
use Rattle.plan_interlock.proofs.plant_make.take_passes.Goals as goal

pub take_rights-requires : goal.take_rights-requires
take_rights-requires c =
    let m = c.loop-actor.actor in
    let n = c.args.machines in record { next = (range_with_len (m + 1) (n - (m + 1)) ++ watch ∷ [], its_turn c.args.interlocks.now m n c.loop-actor.passes.items c.loop-actor-test.true c.loop-actor.invariant.left) }

pub invariant_of-push : goal.invariant_of-push
invariant_of-push c = rights_of c.loop-actor.actor c.args.interlocks.now c.in_ok-rights.rights.items c.in_ok-rights.ensures.rights

pub loop-actor-preserved : goal.loop-actor-preserved
loop-actor-preserved c =
    let m = c.loop-actor.actor in
    let n = c.args.machines in
    let words = c.args.interlocks.now in record {
      made = made_more words m c.loop-actor.made.items c.push.new.self.items _ c.in_ok-rights.rights.items c.loop-actor.invariant.made c.in_ok-rights.ensures.rights refl c.in_ok-push.ensures.items;
      left = c.in_ok-rights.ensures.left (range_with_len (m + 1) (n - (m + 1)) ++ watch ∷ []) (its_turn words m n c.loop-actor.passes.items c.loop-actor-test.true c.loop-actor.invariant.left);
    }

pub invariant_of-push-2 : goal.invariant_of-push-2
invariant_of-push-2 c = rights_of 30 c.args.interlocks.now c.in_ok-rights-2.rights.items c.in_ok-rights-2.ensures.rights
