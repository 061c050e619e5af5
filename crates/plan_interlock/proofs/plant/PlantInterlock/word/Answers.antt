use Rattle.std.proofs.Common.{◌∙◌, ap, get_or}
use Rattle.std.proofs.lemmas.List.{get_or_read}
use Rattle.plan_interlock.proofs.plant.PlantInterlock.word.Goals as goal

pub returns : goal.returns
returns c = λ i.
    get_or_read c.args.self.now c.args.word c.index.result.now c.requires.word (c.index.ensures ∙ ap (λ ws. get_or ws c.args.word c.index.result.now) c.self.view_is) i
