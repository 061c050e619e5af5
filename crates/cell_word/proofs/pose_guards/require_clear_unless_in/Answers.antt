use Rattle.cell_word.proofs.Names.{Ok, sym, ◌∙◌}
use Rattle.cell_word.proofs.Turning.{holds, fails, require_clear_unless_in}
use Rattle.cell_word.proofs.pose_guards.require_clear_unless_in.Goals as goal

pub returns-then-is : goal.returns-then-is
returns-then-is c = holds _ (require_clear_unless_in c.args.at.word c.args.at.zone c.args.posture) (sym c.is.ensures ∙ c.if-is.true)

pub returns : goal.returns
returns c = c.require_clear.ensures ∙ fails (Ok tt) (require_clear_unless_in c.args.at.word c.args.at.zone c.args.posture) (sym c.is.ensures ∙ c.if-is.false)
