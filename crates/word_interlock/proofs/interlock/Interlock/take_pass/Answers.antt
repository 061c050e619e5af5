use Rattle.std.proofs.Common.{◌∷◌, ap, sym, ◌∙◌, subst}
use Rattle.word_interlock.specs.Views.{view_of}
use Rattle.word_interlock.specs.Bunches.{IsNext}
use Rattle.word_interlock.proofs.Closing.{take_first, rest_bunch}
use Rattle.word_interlock.proofs.interlock.Interlock.take_pass.Goals as goal

pub of-requires : goal.of-requires
of-requires g c =
    let t = take_first g.R.Rules.book c.args.actor _ _ _ c.passes.invariant c.split_first.ensures.first c.split_first.ensures.others
    (subst (IsNext c.args.actor) (sym (ap (λ v. v.actors) c.passes.view_is)) c.requires.next) in
    record { own = (t.0, t.1.0) }

pub returns-clause-taken : goal.returns-clause-taken
returns-clause-taken g c =
    let t = take_first g.R.Rules.book c.args.actor _ _ _ c.passes.invariant c.split_first.ensures.first c.split_first.ensures.others
    (subst (IsNext c.args.actor) (sym (ap (λ v. v.actors) c.passes.view_is)) c.requires.next) in
    sym (ap (λ v. v.actors) c.passes.view_is) ∙ (t.1.1 ∙ ap (λ v. view_of v ∷ c.split_first.new.seat.me.0.actors) (sym (c.of.ensures t.0 t.1.0.alone)))

pub returns-clause-table : goal.returns-clause-table
returns-clause-table g c =
    let t = take_first g.R.Rules.book c.args.actor _ _ _ c.passes.invariant c.split_first.ensures.first c.split_first.ensures.others
    (subst (IsNext c.args.actor) (sym (ap (λ v. v.actors) c.passes.view_is)) c.requires.next) in
    ap (λ v. v.table) (c.of.ensures t.0 t.1.0.alone) ∙ (c.split_first.ensures.first_table ∙ ap (λ v. v.table) c.passes.view_is)

pub invariant_of-passes : goal.invariant_of-passes
invariant_of-passes g c = rest_bunch g.R.Rules.book c.args.actor _ _ _ c.passes.invariant c.split_first.ensures.first c.split_first.ensures.others
