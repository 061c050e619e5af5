use Rattle.std.proofs.Common.{◌≡◌, ◌∙◌, subst}
use Rattle.std.specs.Result.{IfOk}
use Rattle.plan_words.specs.Plant.{fits, together}
use Rattle.plan_words.proofs.plant.PlantTables.has_room.Goals as goal

pub returns-clause-room : goal.returns-clause-room
returns-clause-room c =
    subst (λ groups. IfOk c.fits.result (λ room. room ≡ fits c.args.self.now (together c.args.self.now groups))) (c.deref.ensures.value ∙ c.in_ok-groups.ensures) c.fits.ensures.fits
