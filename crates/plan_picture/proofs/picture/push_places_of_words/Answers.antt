use Rattle.plan_header.proofs.lemmas.Lines.{one_more}
use Rattle.plan_picture.specs.Pictures as spec
use Rattle.plan_picture.specs.Scenes.{on_word}
use Rattle.plan_picture.proofs.picture.push_places_of_words.Goals as goal

pub words-preserved : goal.words-preserved
words-preserved c =
    one_more (λ word. spec.places_part (on_word c.args.shown.now word)) _ _ _ c.words.word c.words.invariant (rw c.on_word.ensures at c.in_ok-push_places.ensures)
