use Rattle.cell_renewal.proofs.renewed.take_round.Goals as goal

pub returns : goal.returns
returns g c = (c.in_ok-left.left, c.in_ok-left.ensures.ends, c.turn_over.ensures)
