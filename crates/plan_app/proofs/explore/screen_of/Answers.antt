use Rattle.std.proofs.Common.{subst}
use Rattle.plan_explorer.specs.Explored.{AreShortest, IfStandstill, LeadToStandstill}
use Rattle.plan_app.specs.Going.{going_text}
use Rattle.plan_app.specs.Starving.{any_starves}
use Rattle.plan_app.proofs.Screens.{free_is_found, standstill_is_found, unfinished_is_found}
use Rattle.plan_app.proofs.explore.screen_of.Goals as goal

pub returns-in-Free : goal.returns-in-Free
returns-in-Free c =
    let e = c.in_ok-situations.ensures in
    let n = c.args.plan.now.named.now in
    let ps = c.args.plan.now.programs.now in
    let opening = c.args.opening.now in
    free_is_found c.args.most n ps opening (any_starves n) (going_text n ps opening) c.plan-named.result.now _ c.in-Free.situations
    c.free_screen.result c.plan-named.ensures c.in-Free.is e.free e.runs e.situations c.free_screen.ensures

pub returns-in-Standstill : goal.returns-in-Standstill
returns-in-Standstill c =
    let e = c.in_ok-situations.ensures in
    let t = c.plan-named.result.now in
    let n = c.args.plan.now.named.now in
    let ps = c.args.plan.now.programs.now in
    let opening = c.args.opening.now in
    let lead = subst (λ f. IfStandstill f (LeadToStandstill t ps opening)) c.in-Standstill.is e.standstill in
    let shortest = subst (λ f. IfStandstill f (AreShortest t ps opening)) c.in-Standstill.is e.shortest in
    standstill_is_found c.args.most n ps opening (any_starves n) (going_text n ps opening) t c.in-Standstill.turns.items c.as_slice.result.now
    c.standstill_screen.result c.plan-named.ensures c.as_slice.ensures.value lead shortest c.standstill_screen.ensures

pub returns-in-Unfinished : goal.returns-in-Unfinished
returns-in-Unfinished c =
    let e = c.in_ok-situations.ensures in
    unfinished_is_found c.args.most c.args.plan.now.named.now c.args.plan.now.programs.now c.args.opening.now c.plan-named.result.now _
    c.in-Unfinished.turns c.plan-named.ensures c.in-Unfinished.is e.more e.unfinished
