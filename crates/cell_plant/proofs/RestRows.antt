-- What isn't at rest.
use Rattle.cell_plant.proofs.Names.{◌≡◌, ◌∙◌, true, false, sym, Feed, Deposit, PartOf}
use Rattle.cell_plant.specs.RestExamples.{RestIsTold}

runs_on : (b : PartOf Feed) → b.runs ≡ true → b.runs ≡ false → ⊥
runs_on b runs rests = let lie : true ≡ false = sym runs ∙ rests in cc

pub rest_is_told : RestIsTold
rest_is_told = record {
  feed = λ p b runs k. runs_on b runs k;
  lift = λ p t on k. on k.lift;
  turn = λ p t on k. on k.turn;
  arm1 = λ p r on k. on k.arm1;
  arm2 = λ p r on k. on k.arm2;
  rotation = λ p r on k. on k.rotation;
  magnet1 = λ p r on k. on k.magnet1;
  magnet2 = λ p r on k. on k.magnet2;
  press = λ p a on k. on k;
  deposit = λ p b runs k. runs_on b runs k;
  travel = λ p c on k. on k.travel;
  gripper = λ p c on k. on k.gripper;
  magnet = λ p c on k. on k.magnet;
}
