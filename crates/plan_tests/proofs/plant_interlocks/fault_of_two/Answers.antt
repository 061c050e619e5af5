use Rattle.std.proofs.Common.{[], ◌∷◌, All, sym, subst}
use Rattle.std.proofs.lemmas.List.Elements.{All-cons, All-nil}
use Rattle.plan_interlock.specs.PlantMake.{OpensSoundly}
use Rattle.plan_tests.proofs.plant_interlocks.fault_of_two.Goals as goal

pub new-requires : goal.new-requires
new-requires c =
    let press = c.in_ok-press.press in
    let lift = c.in_ok-lift.lift in
    let both = All-cons OpensSoundly press (lift ∷ []) c.in_ok-press.ensures.sound (All-cons OpensSoundly lift [] c.in_ok-lift.ensures.sound (All-nil OpensSoundly)) in
    record { sound = subst (All OpensSoundly) (sym c.in-Ok-vec.ensures.items) both }
