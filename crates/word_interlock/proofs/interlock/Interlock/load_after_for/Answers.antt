use Rattle.std.proofs.Common.{rules, [], ◌∷◌, ap, sym, ◌∙◌}
use mathlib.Core.Option.{none}
use Rattle.atomic_table.specs.Table.{Step, step}
use Rattle.word_interlock.specs.Views.{told_by}
use Rattle.word_interlock.proofs.Seats.{load_allowed, alone_as, receipt_as, joined_as, looked-seat, pass_now}
use Rattle.word_interlock.proofs.interlock.Interlock.load_after_for.Goals as goal

pub load-requires : goal.load-requires
load-requires g c =
    let me = c.join.new.seat.me in let st : Step (Unit {0}) = step c.self.inside.table.shared.table_id.slots 0 0 0 none in
    let pass = alone_as _ _ _ _ c.pass.invariant.alone c.pass.view_is in let receipt = receipt_as _ _ _ _ c.receipt.invariant c.receipt.view_is in (
      search rules,
      search rules,
      load_allowed g.R.Rules.book g.met.R.Rules.lawful _ _ _ _ _ me _ (told_by c.args.receipt ∷ []) c.args.call (g.A.Telling.then st me) (ap (λ i. i.rules) c.self.view_is)
          (joined_as _ _ _ _ _ pass receipt c.join.ensures.both) (λ word me' told. (c.requires.told st me word me').1 told),
    )

pub invariant_of-pass : goal.invariant_of-pass
invariant_of-pass g c =
    looked-seat g.R.Rules.book g.met.R.Rules.lawful _ _ (told_by c.args.receipt ∷ []) _ _ _ _ _ (ap (λ v. v.actor) (sym c.pass.view_is) ∙ c.pass.invariant.actor) ((c.requires.told _ _ _ _).0 c.load.ensures.2)

pub returns : goal.returns
returns g c =
    let told = (c.requires.told _ _ _ _).0 c.load.ensures.2 in
    (told.0, told.1, pass_now _ _ _ _ _ told.2 (c.load.ensures.0 ∙ (c.join.ensures.table ∙ ap (λ v. v.table) c.pass.view_is)), told.3, told.4)
