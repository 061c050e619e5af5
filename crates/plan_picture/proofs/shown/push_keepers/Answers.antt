use Rattle.std.proofs.Common.{◌≡◌, ◌++◌, subst, sym}
use Rattle.plan_header.proofs.lemmas.Lines.{one_more}
use Rattle.plan_text.specs.Named.{Named}
use Rattle.plan_picture.specs.Scenes.{keepers_in, keepers_on, names_of_words}
use Rattle.plan_picture.proofs.lemmas.Words.{word_is}
use Rattle.plan_picture.proofs.shown.push_keepers.Goals as goal

pub words-preserved : goal.words-preserved
words-preserved c =
    let plans = c.args.plans.now in
    let plan = c.index-plans-word.result in
    one_more (keepers_on (names_of_words plans)) _ _ _ c.words.word c.words.invariant
    (subst (λ (n : Named). c.push_keepers_in.new.owners.items ≡ c.words.owners.items ++ keepers_in n.plan)
    (sym (word_is plans c.words.word plan c.words-test.true))
    (rw c.plan.ensures at c.in_ok-push_keepers_in.ensures))
