use Rattle.std.proofs.Common.{◌≤◌, arith, inl, inr, length, subst, sym}
use Rattle.plan_app.specs.Failed.{WroteAsked}
use Rattle.plan_app.specs.Served.{WritesAsked}
use Rattle.plan_app.proofs.serve_words.words_document.Goals as goal

pub print_words-requires : goal.print_words-requires
print_words-requires g c =
    let plant = c.in-Ok.ensures.plant.says.says in
    let each = plant.count in
    let few = plant.laid_out.few in
    subst (λ plans. length plans ≤ 16) (sym c.deref.ensures.value) (omega (arith, each, few))

pub returns-in-Ok-clause-words : goal.returns-in-Ok-clause-words
returns-in-Ok-clause-words g c = λ well.
    let old = g.W.Write.contents c.args.writer.now in
    let new = g.W.Write.contents c.print_words.new.writer in
    (c.in-Ok.plant, c.in-Ok.ensures.plant, subst (λ plans. WritesAsked c.args.request plans old new) c.deref.ensures.value (c.print_words.ensures.words well))

pub returns-in-Ok-clause-failed : goal.returns-in-Ok-clause-failed
returns-in-Ok-clause-failed g c = λ failed.
    let old = g.W.Write.contents c.args.writer.now in
    let new = g.W.Write.contents c.print_words.new.writer in
    elim (c.print_words.ensures.failed failed) [
      | inl unread ↦ inl unread
      | inr wrote ↦ inr (inr (c.in-Ok.plant, c.in-Ok.ensures.plant, subst (λ plans. WroteAsked c.args.request plans old new) c.deref.ensures.value wrote))
    ]
