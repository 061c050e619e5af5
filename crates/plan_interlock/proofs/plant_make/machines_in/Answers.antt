use Rattle.std.proofs.Common.{◌≡◌, All, rules, subst}
use Rattle.std.proofs.lemmas.List.{take_all}
use Rattle.plan_interlock.specs.PlantMake.{machines_of}
use Rattle.plan_interlock.proofs.Opening.{no_fault}
use Rattle.plan_interlock.proofs.plant_make.machines_in.Goals as goal
use Rattle.plan_interlock.proofs.plant_make.machines_in.Goals.{After-loop-word}

all : (c : After-loop-word) → All (λ w. machines_of w ≡ c.machines-machines.result) c.args.words.now
all c = subst (All (λ w. machines_of w ≡ c.machines-machines.result)) (take_all c.loop-word.word-index c.args.words.now c.loop-word-test.false) c.loop-word.invariant

pub returns-clause-ok : goal.returns-clause-ok
returns-clause-ok c =
    no_fault c.machines-machines.result c.args.words.now c.args.tries c.if-tries-lt1.false c.if-tries-gt64.false (search rules) (search rules) (all c)

pub returns-clause-machines : goal.returns-clause-machines
returns-clause-machines c = all c
