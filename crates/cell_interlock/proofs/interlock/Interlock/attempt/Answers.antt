use Rattle.cell_interlock.proofs.Names.{[], ◌∷◌, subst, event, TryView, pass_from, pass_to, try_from, GoesOn, IsSettled, IsLost, IsBusy}
use Rattle.cell_interlock.proofs.Instance.{settled_here, lost_here, busy_here}
use Rattle.word_interlock.specs.declared.views.Moment.TheVariants.{Answered}
use Rattle.cell_interlock.proofs.interlock.Interlock.attempt.Goals as goal

pub returns-in-Settled-clause-attempted : goal.returns-in-Settled-clause-attempted
returns-in-Settled-clause-attempted c =
    let t = c.pending.inside.inner in
    subst (λ (x : TryView). IsSettled x.pass x.call c.in-Settled.answer c.in-Settled.stamp (pass_from c.in-Settled.inner)) c.pending.view_is
    (settled_here t.pass t.call c.in-Settled.answer c.in-Settled.stamp c.in-Settled.inner c.in-Settled.ensures.attempted)

pub returns-in-Lost-clause-attempted : goal.returns-in-Lost-clause-attempted
returns-in-Lost-clause-attempted c =
    subst (λ (x : TryView). IsLost x (try_from c.in-Lost.inner)) c.pending.view_is
    (lost_here c.pending.inside.inner c.in-Lost.inner c.in-Lost.ensures.attempted)

pub returns-in-Busy-clause-attempted : goal.returns-in-Busy-clause-attempted
returns-in-Busy-clause-attempted c =
    subst (λ (x : TryView). IsBusy x c.in-Busy.lost c.in-Busy.stamp (pass_from c.in-Busy.pass)) c.pending.view_is
    (busy_here c.pending.inside.inner c.in-Busy.lost c.in-Busy.stamp c.in-Busy.pass c.in-Busy.ensures.attempted)

pub returns-in-Settled-clause-real_time : goal.returns-in-Settled-clause-real_time
returns-in-Settled-clause-real_time c =
    subst (λ (x : TryView). GoesOn x (λ v. Answered (event v.machine x.call c.in-Settled.answer) ∷ []) (pass_from c.in-Settled.inner)) c.pending.view_is (λ heard v who k. c.in-Settled.ensures.real_time heard (pass_to v) who k)

pub returns-in-Lost-clause-real_time : goal.returns-in-Lost-clause-real_time
returns-in-Lost-clause-real_time c =
    subst (λ (x : TryView). GoesOn x (λ v. []) (pass_from c.in-Lost.inner.pass)) c.pending.view_is (λ heard v who k. c.in-Lost.ensures.real_time heard (pass_to v) who k)

pub returns-in-Busy-clause-real_time : goal.returns-in-Busy-clause-real_time
returns-in-Busy-clause-real_time c =
    subst (λ (x : TryView). GoesOn x (λ v. []) (pass_from c.in-Busy.pass)) c.pending.view_is (λ heard v who k. c.in-Busy.ensures.real_time heard (pass_to v) who k)
