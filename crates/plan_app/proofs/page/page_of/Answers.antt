use Rattle.std.proofs.Common.{subst, sym}
use Rattle.plan_explorer.specs.Explored.{AreShortest, ComeTo, IfFree, IfStandstill, LeadToStandstill, NoneStandsStill}
use Rattle.plan_explorer.specs.Runs.{NoRunStandsStill}
use Rattle.plan_app.proofs.Screens.{unfinished_is_found}
use Rattle.plan_app.proofs.page.page_of.Goals as goal

pub going_page-requires-clause-free : goal.going_page-requires-clause-free
going_page-requires-clause-free c =
    let ps = c.args.plan.now.programs in
    let opening = c.args.opening.now in
    subst (λ t. NoneStandsStill t ps opening) c.plan-named.ensures
    (subst (λ f. IfFree f (λ _. NoneStandsStill c.plan-named.result.now ps opening)) c.in-Free.is c.in_ok-situations.ensures.free)

pub going_page-requires-clause-runs : goal.going_page-requires-clause-runs
going_page-requires-clause-runs c =
    let ps = c.args.plan.now.programs in
    let opening = c.args.opening.now in
    subst (λ t. NoRunStandsStill t ps opening) c.plan-named.ensures
    (subst (λ f. IfFree f (λ _. NoRunStandsStill c.plan-named.result.now ps opening)) c.in-Free.is c.in_ok-situations.ensures.runs)

pub going_page-requires-clause-come : goal.going_page-requires-clause-come
going_page-requires-clause-come c =
    let ps = c.args.plan.now.programs in
    let opening = c.args.opening.now in
    subst (λ t. ComeTo t ps opening c.in-Free.situations) c.plan-named.ensures
    (subst (λ f. IfFree f (ComeTo c.plan-named.result.now ps opening)) c.in-Free.is c.in_ok-situations.ensures.situations)

pub still_page-requires-clause-lead : goal.still_page-requires-clause-lead
still_page-requires-clause-lead c =
    let ps = c.args.plan.now.programs in
    let opening = c.args.opening.now in
    subst (λ ts. LeadToStandstill c.args.plan.now.named.plan ps opening ts) (sym c.as_slice.ensures.value)
    (subst (λ t. LeadToStandstill t ps opening c.in-Standstill.turns.items) c.plan-named.ensures
    (subst (λ f. IfStandstill f (LeadToStandstill c.plan-named.result.now ps opening)) c.in-Standstill.is c.in_ok-situations.ensures.standstill))

pub still_page-requires-clause-shortest : goal.still_page-requires-clause-shortest
still_page-requires-clause-shortest c =
    let ps = c.args.plan.now.programs in
    let opening = c.args.opening.now in
    subst (λ ts. AreShortest c.args.plan.now.named.plan ps opening ts) (sym c.as_slice.ensures.value)
    (subst (λ t. AreShortest t ps opening c.in-Standstill.turns.items) c.plan-named.ensures
    (subst (λ f. IfStandstill f (AreShortest c.plan-named.result.now ps opening)) c.in-Standstill.is c.in_ok-situations.ensures.shortest))

pub returns-in-Free : goal.returns-in-Free
returns-in-Free c = c.going_page.ensures c.args.most

pub returns-in-Standstill : goal.returns-in-Standstill
returns-in-Standstill c = c.still_page.ensures c.args.most

pub returns-in_ok-words-in-Unfinished : goal.returns-in_ok-words-in-Unfinished
returns-in_ok-words-in-Unfinished c =
    let e = c.in_ok-situations.ensures in
    let is = unfinished_is_found c.args.most c.args.plan.now.named c.args.plan.now.programs c.args.opening.now c.plan-named.result.now _
    c.in-Unfinished.turns c.plan-named.ensures c.in-Unfinished.is e.more e.unfinished in
    (c.in-Unfinished.turns, is, c.in_ok-words-in-Unfinished.ensures)
