use Rattle.std.proofs.Common.{rules, ap, sym, ◌∙◌}
use mathlib.Core.Option.{none}
use Rattle.atomic_table.specs.Table.{Step, step}
use Rattle.word_interlock.proofs.Seats.{exchange_allowed, alone_as, has_one, exchanged-seat, pass_now}
use Rattle.word_interlock.proofs.interlock.Interlock.exchange_for.Goals as goal

pub compare_exchange-requires : goal.compare_exchange-requires
compare_exchange-requires g c =
    let me = c.pass.inside.seat.me in let st : Step (Unit {0}) = step c.self.inside.table.shared.table_id.slots 0 c.args.old c.args.new none in (
      search rules,
      search rules,
      exchange_allowed g.R.Rules.book g.met.R.Rules.lawful _ _ _ _ _ me _ c.args.call c.args._answer c.args.old c.args.new (g.A.Telling.then st me) (ap (λ i. i.rules) c.self.view_is)
          (alone_as _ _ _ _ c.pass.invariant.alone c.pass.view_is) c.requires.ready c.requires.begun (λ word me' told. (c.requires.told st me word me').1 told),
    )

pub invariant_of-pass-inside : goal.invariant_of-pass-inside
invariant_of-pass-inside g c = (has_one _ _ ((c.requires.told _ _ _ _).0 c.compare_exchange.ensures.2).2, tt)

pub invariant_of-pass : goal.invariant_of-pass
invariant_of-pass g c =
    exchanged-seat g.R.Rules.book g.met.R.Rules.lawful _ _ _ _ _ _ _ _ (ap (λ v. v.actor) (sym c.pass.view_is) ∙ c.pass.invariant.actor) ((c.requires.told _ _ _ _).0 c.compare_exchange.ensures.2)

pub returns : goal.returns
returns g c =
    let told = (c.requires.told _ _ _ _).0 c.compare_exchange.ensures.2 in
    (told.0, told.1, pass_now _ _ _ _ _ told.2 (c.compare_exchange.ensures.0 ∙ ap (λ v. v.table) c.pass.view_is))
