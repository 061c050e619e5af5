use Rattle.std.proofs.Common.{sym, subst}
use Rattle.plan_interlock.specs.Book.{plan_book, plan_of}
use Rattle.plan_workers.proofs.Renewing.{end_sound}
use Rattle.plan_workers.proofs.renewal.renew.Goals as goal

pub open_from-requires-clause-sound : goal.open_from-requires-clause-sound
open_from-requires-clause-sound c =
    let i = c.args.interlock in
    let end = c.close-end.result in
    let sound = subst (λ t. (plan_book t).is_sound i.opening) (sym c.requires.plan) c.requires.sound in
    subst (λ t. (plan_book t).is_sound end) c.requires.plan (end_sound (plan_of i.rules) i.opening end c.close-end.ensures.end.history sound c.close-end.ensures.end.reached)
