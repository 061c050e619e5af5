use Rattle.std.proofs.Common.{ap}
use Rattle.plan_interlock.specs.PlantCalls.{AskedBy}
use Rattle.plan_interlock.proofs.Rights.{AreRead, are_read, at_word, same_actor, same_tables, tables_read}
use Rattle.plan_interlock.proofs.plant.PlantInterlock.ask.Goals as goal
use Rattle.plan_interlock.proofs.plant.PlantInterlock.ask.Goals.{After-index_mut-right}

read : (c : After-index_mut-right) → AreRead c.args.self.now c.args.pass.now.rights c.args.word c.index-interlock.result.now c.index_mut-right.result.now
read c =
    are_read c.args.self.now c.self.inside.words.items c.args.pass.now.rights c.pass.inside.rights.items c.args.word c.index-interlock.result.now c.index_mut-right.result.now c.self.view_is (ap (λ p. p.rights) c.pass.view_is) c.requires.word c.requires.same_plant c.index-interlock.ensures c.index_mut-right.ensures.value

pub ask-requires : goal.ask-requires
ask-requires c = record { same_interlock = tables_read _ _ _ _ _ c.index_mut-right.result.now (read (goal.at.ask-requires c).After-index_mut-right) }

pub invariant_of-pass : goal.invariant_of-pass
invariant_of-pass c =
    same_actor _ _ _ _ _ c.ask.new.pass (read (goal.at.invariant_of-pass c).After-index_mut-right) c.pass.inside.rights.items c.pass.inside.actor (ap (λ p. p.rights) c.pass.view_is) c.pass.invariant c.ask.ensures.pass.actor

pub returns-clause-asked : goal.returns-clause-asked
returns-clause-asked c =
    let e = c.ask.ensures in
    let asked : AskedBy c.args.call c.ask.result c.index-interlock.result.now c.index_mut-right.result.now c.ask.new.pass
    = record { pass = e.pass; lawful = e.lawful; seen = e.seen; answer = e.answer; right = e.right; busy = e.busy; one_load = e.one_load; few_exchanges = e.few_exchanges; all_lost = e.all_lost; since = e.since; real_time = e.real_time } in
    at_word _ _ _ _ _ c.ask.new.pass (read (goal.at.returns-clause-asked c).After-index_mut-right) (AskedBy c.args.call c.ask.result) c.pass.inside.rights.items (ap (λ p. p.rights) c.pass.view_is) asked

pub returns-clause-pass : goal.returns-clause-pass
returns-clause-pass c = record {
  actor = ap (λ p. p.actor) c.pass.view_is;
  plant = same_tables _ _ _ _ _ c.ask.new.pass (read (goal.at.returns-clause-pass c).After-index_mut-right) c.pass.inside.rights.items (ap (λ p. p.rights) c.pass.view_is) c.ask.ensures.pass.table;
}
