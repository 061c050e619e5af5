use Rattle.std.proofs.Common.{◌≡◌, List, [], ◌∷◌, All, map, refl, sym, ap, ◌∙◌, subst}
use Rattle.std.proofs.lemmas.List.Elements.{All-cons, All-nil}
use Rattle.plan_types.specs.Table.{PlanTable}
use Rattle.plan_interlock.specs.Book.{plan_of}
use Rattle.plan_interlock.specs.Plant.{WordView}
use Rattle.plan_interlock.specs.PlantExamples.{press_word, shelf_word}
use Rattle.plan_interlock.specs.PlantMake.{OpensSoundly}
use Rattle.plan_interlock.proofs.examples.press_and_shelf.Goals as goal

plans_of : (words : List WordView) → map (λ i. plan_of i.rules) words ≡ map plan_of (map (λ i. i.rules) words)
plans_of [] = refl
plans_of (i ∷ rest) = ap (λ ps. plan_of i.rules ∷ ps) (plans_of rest)

pub new-requires : goal.new-requires
new-requires c =
    let press = c.in_ok-press.press in
    let shelf = c.in_ok-shelf.shelf in
    let both = All-cons OpensSoundly press (shelf ∷ []) c.in_ok-press.ensures.sound (All-cons OpensSoundly shelf [] c.in_ok-shelf.ensures.sound (All-nil OpensSoundly)) in
    record { sound = subst (All OpensSoundly) (sym c.in-Ok-vec.ensures.items) both }

pub returns-clause-plans : goal.returns-clause-plans
returns-clause-plans c =
    let press : plan_of c.in_ok-press.press.rules ≡ press_word = c.in_ok-press.ensures.plan ∙ ap (λ (t : PlanTable). record t { machines = 3 }) (c.at_press.view_is ∙ c.in-Ok.ensures) in
    let shelf : plan_of c.in_ok-shelf.shelf.rules ≡ shelf_word = c.in_ok-shelf.ensures.plan ∙ c.in-Ok-shelf.ensures in
    plans_of c.in-Ok-new.made.0
    ∙ (ap (map plan_of) (c.in-Ok-new.ensures.opened.rules ∙ ap (map (λ w. w.rules)) c.in-Ok-vec.ensures.items)
    ∙ (ap (λ t. t ∷ plan_of c.in_ok-shelf.shelf.rules ∷ []) press ∙ ap (λ t. press_word ∷ t ∷ []) shelf))
