use Rattle.cell_interlock.proofs.Names.{◌≡◌, ◌+◌, ◌≤◌, [], ◌∷◌, Ok, sym, subst, Reply, LawfulThroughout, event, SeenAfter, PassView, InterlockView, pass_from, IsSamePass, HasChanges, IsOvertaken, IfSettled, IsStampedAfter, stamp_in, StandsBefore, IsTimed, told_by}
use Rattle.cell_interlock.specs.Calls.{IfBusy}
use Rattle.cell_interlock.specs.Views.{receipt_of}
use Rattle.cell_interlock.proofs.Instance.{lawful_here, same_here, seen_here, if_busy_here, since_here, all_lost_here, timed_here}
use Rattle.cell_interlock.proofs.lemmas.Order.{order_here, stamps_here, began_here}
use Rattle.word_interlock.specs.Timing.{BeginsAfter}
use Rattle.cell_interlock.proofs.interlock.Interlock.tell.Goals as goal

pub returns-clause-passes : goal.returns-clause-passes
returns-clause-passes c =
    let told = c.tell-answer in (
      subst (λ (v : PassView). IsSamePass v (pass_from told.new.first)) c.first.view_is (same_here c.first.inside.inner told.new.first told.ensures.passes.0),
      subst (λ (v : PassView). IsSamePass v (pass_from told.new.second)) c.second.view_is (same_here c.second.inside.inner told.new.second told.ensures.passes.1),
    )

pub returns-clause-lawful : goal.returns-clause-lawful
returns-clause-lawful c =
    subst (λ (v : PassView). LawfulThroughout v.opening c.tell-answer.new.second.seen) c.second.view_is
    (lawful_here c.second.inside.inner.opening c.tell-answer.new.second.seen c.tell-answer.ensures.lawful)

pub returns-clause-first : goal.returns-clause-first
returns-clause-first c =
    let v = c.first.inside.inner in
    subst (λ (x : PassView × Reply). SeenAfter x.0.machine c.args.call (Ok x.1) x.0.opening x.0.seen c.tell-answer.new.first.seen) (λ i. (c.first.view_is i, sym c.reply_of.ensures i))
    (seen_here v.actor c.args.call c.tell-answer.result.0 v.opening v.seen c.tell-answer.new.first.seen c.tell-answer.ensures.first)

pub returns-clause-second : goal.returns-clause-second
returns-clause-second c =
    let v = c.second.inside.inner in
    subst (λ (x : PassView × Reply). SeenAfter x.0.machine c.args.next (Ok x.1) x.0.opening x.0.seen c.tell-answer.new.second.seen) (λ i. (c.second.view_is i, sym c.reply_of-2.ensures i))
    (seen_here v.actor c.args.next c.tell-answer.result.1 v.opening v.seen c.tell-answer.new.second.seen c.tell-answer.ensures.second)

pub returns-clause-order : goal.returns-clause-order
returns-clause-order c =
    let v = c.first.inside.inner in let w = c.second.inside.inner in let told = c.tell-answer in
    subst (λ (x : PassView × PassView × Reply × Reply). IfSettled x.2 (λ a. IfSettled x.3 (λ b. StandsBefore x.0.seen (event x.0.machine c.args.call a) (event x.1.machine c.args.next b) told.new.second.seen)))
    (λ i. (c.first.view_is i, c.second.view_is i, sym c.reply_of.ensures i, sym c.reply_of-2.ensures i))
    (order_here told.result.0 told.result.1 v.actor w.actor c.args.call c.args.next v.seen told.new.second.seen told.ensures.order)

pub returns-clause-stamps : goal.returns-clause-stamps
returns-clause-stamps c =
    subst (λ (x : Reply × Reply). IsStampedAfter (stamp_in x.0) x.1) (λ i. (sym c.reply_of.ensures i, sym c.reply_of-2.ensures i))
    (stamps_here c.tell-answer.result.0 c.tell-answer.result.1 c.tell-answer.ensures.stamps)

pub returns-clause-began_after : goal.returns-clause-began_after
returns-clause-began_after c =
    let told = c.tell-answer in
    subst (λ (x : PassView × PassView × Reply). IfSettled x.2 (λ a. BeginsAfter (event x.0.machine c.args.call a) x.1.machine told.new.second.moments)) (λ i. (c.first.view_is i, c.second.view_is i, sym c.reply_of.ensures i))
    (began_here told.result.0 c.first.inside.inner.actor c.args.call c.second.inside.inner.actor told.new.second.moments told.ensures.began_after)

pub returns-clause-first_lawful : goal.returns-clause-first_lawful
returns-clause-first_lawful c =
    subst (λ (v : PassView). LawfulThroughout v.opening c.tell-answer.new.first.seen) c.first.view_is
    (lawful_here c.first.inside.inner.opening c.tell-answer.new.first.seen c.tell-answer.ensures.first_lawful)

pub returns-clause-first_busy : goal.returns-clause-first_busy
returns-clause-first_busy c =
    let v = c.first.inside.inner in let told = c.tell-answer in
    subst (λ (x : PassView × InterlockView × Reply). IfBusy x.2 (λ lost. IsOvertaken x.0 x.0.seen c.args.call x.1.tries lost (pass_from told.new.first))) (λ i. (c.first.view_is i, c.self.view_is i, sym c.reply_of.ensures i))
    (if_busy_here told.result.0 v v.seen c.args.call c.self.inside.inner.tries told.new.first told.ensures.first_busy)

pub returns-clause-second_busy : goal.returns-clause-second_busy
returns-clause-second_busy c =
    let v = c.second.inside.inner in let told = c.tell-answer in
    subst (λ (x : PassView × InterlockView × Reply). IfBusy x.2 (λ lost. IsOvertaken x.0 x.0.seen c.args.next x.1.tries lost (pass_from told.new.second))) (λ i. (c.second.view_is i, c.self.view_is i, sym c.reply_of-2.ensures i))
    (if_busy_here told.result.1 v v.seen c.args.next c.self.inside.inner.tries told.new.second told.ensures.second_busy)

pub returns-clause-since : goal.returns-clause-since
returns-clause-since c =
    let told = c.tell-answer in let x = told.new.first in let y = told.new.second in (
      subst (λ (x : PassView × Reply). IfBusy x.1 (HasChanges x.0.machine told.new.first.since told.new.first.seen)) (λ i. (c.first.view_is i, sym c.reply_of.ensures i))
          (since_here told.result.0 c.first.inside.inner.actor x.since x.seen told.ensures.since.0),
      subst (λ (x : PassView × Reply). IfBusy x.1 (HasChanges x.0.machine told.new.second.since told.new.second.seen)) (λ i. (c.second.view_is i, sym c.reply_of-2.ensures i))
          (since_here told.result.1 c.second.inside.inner.actor y.since y.seen told.ensures.since.1),
    )

pub returns-clause-one_load : goal.returns-clause-one_load
returns-clause-one_load c =
    let told = c.tell-answer in (
      subst (λ (v : PassView). told.new.first.loads ≡ v.loads + 1) c.first.view_is told.ensures.one_load.0,
      subst (λ (v : PassView). told.new.second.loads ≡ v.loads + 1) c.second.view_is told.ensures.one_load.1,
    )

pub returns-clause-few_exchanges : goal.returns-clause-few_exchanges
returns-clause-few_exchanges c =
    let told = c.tell-answer in (
      subst (λ (x : PassView × InterlockView). told.new.first.exchanges ≤ x.0.exchanges + x.1.tries) (λ i. (c.first.view_is i, c.self.view_is i)) told.ensures.few_exchanges.0,
      subst (λ (x : PassView × InterlockView). told.new.second.exchanges ≤ x.0.exchanges + x.1.tries) (λ i. (c.second.view_is i, c.self.view_is i)) told.ensures.few_exchanges.1,
    )

pub returns-clause-all_lost : goal.returns-clause-all_lost
returns-clause-all_lost c =
    let told = c.tell-answer in (
      subst (λ (x : PassView × Reply). IfBusy x.1 (λ n. told.new.first.exchanges ≡ x.0.exchanges + n)) (λ i. (c.first.view_is i, sym c.reply_of.ensures i))
          (all_lost_here told.result.0 c.first.inside.inner.exchanges told.new.first.exchanges told.ensures.all_lost.0),
      subst (λ (x : PassView × Reply). IfBusy x.1 (λ n. told.new.second.exchanges ≡ x.0.exchanges + n)) (λ i. (c.second.view_is i, sym c.reply_of-2.ensures i))
          (all_lost_here told.result.1 c.second.inside.inner.exchanges told.new.second.exchanges told.ensures.all_lost.1),
    )

pub returns-clause-real_time : goal.returns-clause-real_time
returns-clause-real_time c =
    let told = c.tell-answer in let heard = told_by (receipt_of (pass_from told.new.first)) ∷ [] in (
      subst (λ (x : PassView × Reply). IsTimed [] x.0 c.args.call x.1 (pass_from told.new.first)) (λ i. (c.first.view_is i, sym c.reply_of.ensures i))
          (timed_here [] c.first.inside.inner c.args.call told.result.0 told.new.first told.ensures.real_time.0),
      subst (λ (x : PassView × Reply). IsTimed heard x.0 c.args.next x.1 (pass_from told.new.second)) (λ i. (c.second.view_is i, sym c.reply_of-2.ensures i))
          (timed_here heard c.second.inside.inner c.args.next told.result.1 told.new.second told.ensures.real_time.1),
    )
