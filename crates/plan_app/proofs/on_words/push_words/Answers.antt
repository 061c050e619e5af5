use Rattle.plan_app.specs.OnWords as spec
use Rattle.plan_header.proofs.lemmas.Lines.{one_more}
use Rattle.plan_app.proofs.on_words.push_words.Goals as goal

pub words-preserved : goal.words-preserved
words-preserved c = one_more (spec.lines_of c.args.plans.now) _ _ _ c.words.word c.words.invariant c.in_ok-push_lines.ensures
