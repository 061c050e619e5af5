use Rattle.std.proofs.Common.{◌≡◌, ◌≢◌, ◌∙◌, None, sym, ap, refl, rules}
use Rattle.plan_controller.specs.Turns.{control}
use Rattle.plan_c.specs.Replies.{nothing}
use Rattle.plan_c.specs.Turning.{stop_number, resting}
use Rattle.plan_c.proofs.Turning.{taken, rested, same_place, none_some}
use Rattle.plan_c.proofs.turn.turn_at.Goals as goal

pub returns-in_default-clause-turn : goal.returns-in_default-clause-turn
returns-in_default-clause-turn c = λ s steps stopped of many at_line at.
    let a = c.args in
    let unread : a.sensors ≡ None = search rules in
    rested a.plan.now.table s a.word a.machine a.place.line steps stopped a.sensors c.resting.result
    (λ read is. absurd (none_some read (sym unread ∙ is)))
    (c.resting.ensures ∙ ap (resting nothing a.word) (same_place a.place (stop_number stopped) at))

pub returns-then-place-ne0-clause-turn : goal.returns-then-place-ne0-clause-turn
returns-then-place-ne0-clause-turn c = λ s steps stopped of many at_line at.
    let a = c.args in
    let some : a.place.stopped ≢ 0 = search rules in
    rested a.plan.now.table s a.word a.machine a.place.line steps stopped a.sensors c.resting-then-place-ne0.result
    (λ read is none. some (at ∙ none))
    (c.resting-then-place-ne0.ensures ∙ ap (resting nothing a.word) (same_place a.place (stop_number stopped) at))

pub returns-clause-turn : goal.returns-clause-turn
returns-clause-turn c = λ s steps stopped of many at_line at.
    let a = c.args in
    let running : a.place.stopped ≡ 0 = search rules in
    let x = control a.machine steps a.place.line None in
    let turn = taken a.plan.now.table s a.word a.machine a.place.line c.in-Some.read steps stopped
    (record { word = c.perform-performed.result.word; motors = c.perform-performed.result.motors; place = c.place_after.result; answer = c.perform-performed.result.answer })
    c.perform-performed.result.outcome a.step (sym at ∙ running) at_line
    (c.perform-performed.ensures s x of refl)
    (c.place_after.ensures x (same_place a.place 0 running) many) in
    rw c.in-Some.is turn
