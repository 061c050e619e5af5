use Rattle.std.proofs.Common.{◌≡◌, ◌∙◌, ◌+◌, ◌++◌, None, ap, drop, find, option_and_then, string_bytes}
use Rattle.std.proofs.lemmas.List.{drop_more}
use Rattle.plan_explorer.specs.PlantWalks.{outlook_of}
use Rattle.plan_explorer.specs.Plants.{after_turns, first_situation}
use Rattle.plan_app.specs.PlantGoing.{after_all, is_of, step_text, walk_text}
use Rattle.plan_app.specs.PlantStarts.{tables_of}
use Rattle.plan_app.proofs.PlantOrders.{one_turn_more}
use Rattle.plan_app.proofs.plant_going.push_cycle.Goals as goal

pub turners-preserved : goal.turners-preserved
turners-preserved c =
    let plant = c.args.plant.now in
    let plans = plant.plans.now in
    let ps = plant.programs.now.programs in
    let openings = plant.openings.now in
    let first = first_situation openings in
    let way = c.turners.way.items in
    let cycle = c.args.cycle.now in
    let at = c.turners.turner-index in
    let asks : c.as_slice-events.result.now ≡ outlook_of (tables_of plans) ps (after_turns (tables_of plans) ps first way) =
    c.as_slice-events.ensures.value
    ∙ (c.in_ok-events.ensures ∙ ap (λ w. outlook_of (tables_of plans) ps (after_turns (tables_of plans) ps first w)) c.as_slice.ensures.value) in
    one_turn_more (tables_of plans) ps first (step_text plans) c.args.who _ way c.push.new.self.items (drop at cycle) (drop (at + 1) cycle)
    c.turners.last c.event_if-outlook.result c.event_in-asked.result (string_bytes c.turners.text) (string_bytes c.push_step.new.text)
    (string_bytes c.args.text.now ++ walk_text plans ps c.args.who (after_all plans ps openings c.args.stem.now) None cycle)
    (drop_more cycle at 0 c.turners-test.true) c.in_ok-push.ensures.items
    (c.event_if-outlook.ensures ∙ ap (λ events. option_and_then (λ m. find (is_of m) events) c.args.who) asks) (c.event_in-asked.ensures ∙ ap (find (is_of _)) asks)
    c.in_ok-push_step.ensures c.turners.invariant
