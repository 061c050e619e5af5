use Rattle.std.proofs.Common.{rules, ap}
use mathlib.Core.Option.{none}
use Rattle.atomic_table.specs.Table.{Step, step}
use Rattle.word_interlock.proofs.Seats.{sync_allowed}
use Rattle.word_interlock.proofs.interlock.Interlock.sync_for.Goals as goal

pub load-requires : goal.load-requires
load-requires g c =
    let me = c.args.seat.now.me in let st : Step (Unit {0}) = step c.self.inside.table.shared.table_id.slots 0 0 0 none in (
      search rules,
      search rules,
      sync_allowed g.R.Rules.book g.met.R.Rules.lawful _ _ _ _ _ me (g.A.Telling.then st me) (ap (λ i. i.rules) c.self.view_is) c.requires.no_slot
          (λ word me' told. (c.requires.told st me word me').1 told),
    )
