use Rattle.std.proofs.Common.{rules, [], ap, sym, ◌∙◌}
use mathlib.Core.Option.{none}
use Rattle.atomic_table.specs.Table.{Step, step}
use Rattle.word_interlock.proofs.Seats.{load_allowed, alone_as, has_one, looked-seat, pass_now}
use Rattle.word_interlock.proofs.interlock.Interlock.load_for.Goals as goal

pub load-requires : goal.load-requires
load-requires g c =
    let me = c.pass.inside.seat.me in let st : Step (Unit {0}) = step c.self.inside.table.shared.table_id.slots 0 0 0 none in (
      search rules,
      search rules,
      load_allowed g.R.Rules.book g.met.R.Rules.lawful _ _ _ _ _ me _ [] c.args.call (g.A.Telling.then st me) (ap (λ i. i.rules) c.self.view_is)
          (alone_as _ _ _ _ c.pass.invariant.alone c.pass.view_is) (λ word me' told. (c.requires.told st me word me').1 told),
    )

pub invariant_of-pass-inside : goal.invariant_of-pass-inside
invariant_of-pass-inside g c = (has_one _ _ ((c.requires.told _ _ _ _).0 c.load.ensures.2).2, tt)

pub invariant_of-pass : goal.invariant_of-pass
invariant_of-pass g c =
    looked-seat g.R.Rules.book g.met.R.Rules.lawful _ _ [] _ _ _ _ _ (ap (λ v. v.actor) (sym c.pass.view_is) ∙ c.pass.invariant.actor) ((c.requires.told _ _ _ _).0 c.load.ensures.2)

pub returns : goal.returns
returns g c =
    let told = (c.requires.told _ _ _ _).0 c.load.ensures.2 in
    (told.0, told.1, pass_now _ _ _ _ _ told.2 (c.load.ensures.0 ∙ ap (λ v. v.table) c.pass.view_is), told.3, told.4)
