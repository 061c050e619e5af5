use Rattle.cell_interlock.proofs.Names.{ap, ◌∙◌, subst, Waits, HasSeenMore, LineView}
use Rattle.cell_interlock.proofs.lemmas.Journals.{line_surveys}
use Rattle.cell_interlock.proofs.pass_line.PassLineSurvey.survey.Goals as goal

pub invariant_of-self-inside : goal.invariant_of-self-inside
invariant_of-self-inside c =
    let more = c.survey.ensures.more in
    (more.pass.table ∙ c.self.inside.own, (line_surveys _ _ _ more c.self.inside.kept, tt))

pub returns-clause-surveys : goal.returns-clause-surveys
returns-clause-surveys c = record {
  more = subst (λ (l : LineView). HasSeenMore l.pass c.survey.new.pass) c.self.view_is c.survey.ensures.more;
  tries = ap (λ l. l.tries) c.self.view_is;
}

pub returns-clause-seen : goal.returns-clause-seen
returns-clause-seen c = subst (λ (l : LineView). Waits l.pass.machine l.pass.seen c.survey.new.pass.seen) c.self.view_is c.survey.ensures.more.seen

pub returns-clause-state : goal.returns-clause-state
returns-clause-state c = c.survey.ensures.state
