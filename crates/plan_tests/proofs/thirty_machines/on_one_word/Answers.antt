use Rattle.std.proofs.Common.{[], ◌∷◌, All, sym, subst}
use Rattle.std.proofs.lemmas.List.Elements.{All-cons, All-nil}
use Rattle.plan_interlock.specs.PlantMake.{OpensSoundly}
use Rattle.plan_tests.proofs.thirty_machines.on_one_word.Goals as goal

pub new-requires : goal.new-requires
new-requires c =
    let one = All-cons OpensSoundly c.in_ok-word.word [] c.in_ok-word.ensures.sound (All-nil OpensSoundly) in
    record { sound = subst (All OpensSoundly) (sym c.in-Ok-vec.ensures.items) one }
