use Rattle.std.proofs.Common.{◌⊎◌, subst, sym}
use Rattle.plan_app.specs.Failed.{WroteNoPlan, WroteUnread}
use Rattle.plan_app.proofs.serve.refuse_asked.Goals as goal

pub returns-in-OfDocument-clause-line : goal.returns-in-OfDocument-clause-line
returns-in-OfDocument-clause-line g c =
    let old = g.W.Write.contents c.args.writer.now in
    let new = g.W.Write.contents c.refuse_document.new.writer in
    subst (λ fault. WroteUnread old new ⊎ WroteNoPlan fault old new) (sym c.in-OfDocument.is) c.refuse_document.ensures.line

pub returns-in-OfWord-clause-line : goal.returns-in-OfWord-clause-line
returns-in-OfWord-clause-line g c =
    let old = g.W.Write.contents c.args.writer.now in
    let new = g.W.Write.contents c.refuse_number.new.writer in
    subst (λ fault. WroteUnread old new ⊎ WroteNoPlan fault old new) (sym c.in-OfWord.is) c.refuse_number.ensures.line
