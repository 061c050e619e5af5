use Rattle.cell_threads.proofs.SixTold.{six-told, watched-told}
use Rattle.cell_threads.proofs.laws.any_six_are_told.Goals as goal

pub returns-clause-six : goal.returns-clause-six
returns-clause-six g c =
    six-told g.W1.Worker.gives_back g.W2.Worker.gives_back g.W3.Worker.gives_back g.W4.Worker.gives_back g.W5.Worker.gives_back g.W6.Worker.gives_back (g.G.Gate.may_answer c.args._gate.now)

pub returns-clause-watched : goal.returns-clause-watched
returns-clause-watched g c =
    watched-told g.W1.Worker.gives_back g.W2.Worker.gives_back g.W3.Worker.gives_back g.W4.Worker.gives_back g.W5.Worker.gives_back g.W6.Worker.gives_back (g.G.Gate.may_answer c.args._gate.now) g.H.Watching.watches
