use Rattle.plan_app.proofs.PlantStartRows.{starts_are_of_digits, starts_of_three}
use Rattle.plan_app.proofs.laws.plant_starts_are_met.Goals as goal

pub returns : goal.returns
returns c = record { examples = starts_of_three; digits = starts_are_of_digits }
