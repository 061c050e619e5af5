use Rattle.plan_document.specs.Saying.{calls_of}
use Rattle.plan_document.proofs.Parted.{made_all}
use Rattle.plan_document.proofs.programs.all_calls_of.Goals as goal

pub returns : goal.returns
returns c = made_all (λ steps. calls_of steps.items) (λ list. list.items) c.args.programs.now c.loop-i.i c.loop-i.lists.items c.loop-i-test.false c.loop-i.invariant
