use Rattle.cell_plant.proofs.FilmsSafe.{films_are_safe}
use Rattle.cell_plant.proofs.laws.films_are_safe.Goals as goal

pub returns : goal.returns
returns c = films_are_safe
