use Rattle.std.proofs.Common.{rules, ◌≡◌, [], ◌∷◌, ◌++◌, refl, sym, ap, ◌∙◌, subst, append_assoc, append-nil}
use Rattle.std.specs.Option.{option_copied}
use Rattle.plan_workers.specs.Audited.{AreInOrder, IsAudited, HasNoHistory, journals_in}
use Rattle.plan_workers.specs.Journals.{event_by}
use Rattle.plan_workers.specs.Replays.{rest_of}
use Rattle.plan_workers.proofs.Counting.{fewer}
use Rattle.plan_workers.proofs.Reading.{all_read}
use Rattle.plan_workers.proofs.Auditing.{alike, all_left, at_its_stamp, differs, is_at_end, nothing_left, of_no_machine, reads_no_more, reads_on, whatever_fault}
use Rattle.plan_workers.proofs.Ordering.{IsLastInOrder, goes_in_order, last_in_order, none_yet}
use Rattle.plan_workers.proofs.audits.audit.Goals as goal

pub returns-in-Some-clause-refused : goal.returns-in-Some-clause-refused
returns-in-Some-clause-refused c = λ _. of_no_machine c.args.plan.now c.args.start.now (journals_in c.args.journals.now) (option_copied c.args.end) c.in-Some.journal c.in-Some.ensures.0 c.in-Some.ensures.1

pub returns-in_err-read-clause-refused : goal.returns-in_err-read-clause-refused
returns-in_err-read-clause-refused c =
    let all = journals_in c.args.journals.now in
    let end = option_copied c.args.end in
    let at = c.loop-machine.replay in
    whatever_fault c.from_residual.result (HasNoHistory c.args.plan.now c.args.start.now all end)
    (c.loop-machine.invariant.none (differs c.args.plan.now at.state (rest_of at.read all) end c.in-Some-next.machine c.in-Some-next.entry c.in-Some-next.ensures c.in_err-read.ensures.fault.1))

pub loop-machine-init : goal.loop-machine-init
loop-machine-init c =
    let t = c.args.plan.now in
    let all = journals_in c.args.journals.now in
    let end = option_copied c.args.end in
    let at = c.new-replay.ensures.state in
    let left = all_left all c.new-replay.result.read c.new-replay.ensures.read in record {
      callers = search rules;
      goes_on = λ h a.
          subst (λ es. IsAudited t c.args.start.now all end (es ++ h)) (sym c.new-events.ensures.items)
          (alike t c.args.start.now c.new-replay.result.state (rest_of c.new-replay.result.read all) all end h at left a);
      order = search rules;
      last = subst (λ es. IsLastInOrder c.new-replay.result.state.stamp (rest_of c.new-replay.result.read all) es) (sym c.new-events.ensures.items)
          (none_yet c.new-replay.result.state.stamp (rest_of c.new-replay.result.read all));
      none = λ empty h a. empty h (alike t c.new-replay.result.state c.args.start.now all (rest_of c.new-replay.result.read all) end h (sym at) (λ m. sym (left m)) a);
    }

pub loop-machine-smaller : goal.loop-machine-smaller
loop-machine-smaller c =
    let all = journals_in c.args.journals.now in
    let at = c.loop-machine.replay in
    let now = c.read.new.self in
    fewer c.args.plan.now c.in-Some-next.machine c.in-Some-next.entry at.state now.state (rest_of at.read all) (rest_of now.read all)
    c.in-Some-next.ensures.follows.caller c.in_ok-read.ensures.read

pub loop-machine-preserved : goal.loop-machine-preserved
loop-machine-preserved c =
    let t = c.args.plan.now in
    let all = journals_in c.args.journals.now in
    let end = option_copied c.args.end in
    let at = c.loop-machine.replay in
    let now = c.read.new.self in
    let old = c.loop-machine.invariant in
    let m = c.in-Some-next.machine in
    let x = c.in-Some-next.entry in
    let next = c.in-Some-next.ensures in
    let reads = c.in_ok-read.ensures.read in
    let events : c.push.new.self.items ≡ c.loop-machine.events.items ++ event_by m x ∷ [] = c.in_ok-push.ensures.items ∙ ap (λ e. c.loop-machine.events.items ++ e ∷ []) c.in_ok-read.ensures.event in record {
      callers = old.callers;
      goes_on = λ h a.
          let on = old.goes_on (event_by m x ∷ h) (reads_on t at.state now.state m x (rest_of at.read all) (rest_of now.read all) end h next.follows.caller (at_its_stamp at.state.stamp (rest_of at.read all) m x next) reads a) in
          subst (λ es. IsAudited t c.args.start.now all end es) (sym (append_assoc c.loop-machine.events.items (event_by m x ∷ []) h) ∙ ap (λ es. es ++ h) (sym events)) on;
      order = subst (λ es. AreInOrder es) (sym events) (goes_in_order at.state.stamp m x (rest_of at.read all) c.loop-machine.events.items next old.order old.last);
      last = subst (λ es. IsLastInOrder now.state.stamp (rest_of now.read all) es) (sym events) (last_in_order t at.state now.state m x (rest_of at.read all) (rest_of now.read all) c.loop-machine.events.items next reads);
      none = λ empty. old.none (reads_no_more t at.state now.state (rest_of at.read all) (rest_of now.read all) end m x next reads empty);
    }

pub returns-in_err-finish-clause-refused : goal.returns-in_err-finish-clause-refused
returns-in_err-finish-clause-refused c =
    let t = c.args.plan.now in
    let all = journals_in c.args.journals.now in
    let end = option_copied c.args.end in
    let at = c.loop-machine.replay in
    let none : HasNoHistory t at.state (rest_of at.read all) end = λ h a.
    let e = is_at_end t at.state (rest_of at.read all) end h c.in_default-next.ensures a in
    c.in_err-finish.ensures.fault.1 (λ m _. e.0 m) e.1 in
    whatever_fault c.from_residual-in_err-finish.result (HasNoHistory t c.args.start.now all end) (c.loop-machine.invariant.none none)

pub returns-clause-ok : goal.returns-clause-ok
returns-clause-ok c =
    let t = c.args.plan.now in
    let all = journals_in c.args.journals.now in
    let end = option_copied c.args.end in
    let at = c.loop-machine.replay in
    let old = c.loop-machine.invariant in
    let a = nothing_left t at.state (rest_of at.read all) end (all_read all at.read old.callers (c.in_ok-finish.ensures.read refl)) (c.in_ok-finish.ensures.ends refl) in
    subst (λ es. IsAudited t c.args.start.now all end es) (append-nil c.loop-machine.events.items) (old.goes_on [] a)
