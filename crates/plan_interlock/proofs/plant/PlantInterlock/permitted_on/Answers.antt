use Rattle.std.proofs.Common.{ap, length}
use Rattle.plan_interlock.specs.PlantMotors.{IsFound}
use Rattle.plan_interlock.proofs.EachLoad.{bit_is_below}
use Rattle.plan_interlock.proofs.Rights.{AreRead, are_read, at_word, same_actor, same_tables, tables_read}
use Rattle.plan_interlock.proofs.plant.PlantInterlock.permitted_on.Goals as goal
use Rattle.plan_interlock.proofs.plant.PlantInterlock.permitted_on.Goals.{After-index_mut-right}

read : (c : After-index_mut-right) → AreRead c.args.self.now c.args.pass.now.rights c.args.word c.index-interlock.result.now c.index_mut-right.result.now
read c =
    are_read c.args.self.now c.self.inside.words.items c.args.pass.now.rights c.pass.inside.rights.items c.args.word c.index-interlock.result.now c.index_mut-right.result.now c.self.view_is (ap (λ p. p.rights) c.pass.view_is) c.requires.word c.requires.same_plant c.index-interlock.ensures c.index_mut-right.ensures.value

pub permitted_motors-requires-clause-same_interlock : goal.permitted_motors-requires-clause-same_interlock
permitted_motors-requires-clause-same_interlock c = tables_read _ _ _ _ _ c.index_mut-right.result.now (read (goal.at.permitted_motors-requires-clause-same_interlock c).After-index_mut-right)

pub invariant_of-pass : goal.invariant_of-pass
invariant_of-pass c =
    same_actor _ _ _ _ _ c.permitted_motors.new.pass (read (goal.at.invariant_of-pass c).After-index_mut-right) c.pass.inside.rights.items c.pass.inside.actor (ap (λ p. p.rights) c.pass.view_is) c.pass.invariant c.permitted_motors.ensures.more.pass.actor

pub returns-clause-found : goal.returns-clause-found
returns-clause-found c =
    let e = c.permitted_motors.ensures in
    let found : IsFound c.args.masks.now c.permitted_motors.result c.index-interlock.result.now c.index_mut-right.result.now c.permitted_motors.new.pass
    = record {
      looked = record { more = e.more; moments = e.moments; one_load = e.one_load; no_exchange = e.no_exchange };
      permitted = e.permitted;
      lasts = λ k part low mask set is since kept. e.lasts k part low mask is set since kept;
      no_other = bit_is_below c.permitted_motors.result (length c.args.masks.now) e.no_other;
    } in
    at_word _ _ _ _ _ c.permitted_motors.new.pass (read (goal.at.returns-clause-found c).After-index_mut-right) (IsFound c.args.masks.now c.permitted_motors.result) c.pass.inside.rights.items (ap (λ p. p.rights) c.pass.view_is) found

pub returns-clause-pass : goal.returns-clause-pass
returns-clause-pass c = record {
  actor = ap (λ p. p.actor) c.pass.view_is;
  plant = same_tables _ _ _ _ _ c.permitted_motors.new.pass (read (goal.at.returns-clause-pass c).After-index_mut-right) c.pass.inside.rights.items (ap (λ p. p.rights) c.pass.view_is) c.permitted_motors.ensures.more.pass.table;
}
