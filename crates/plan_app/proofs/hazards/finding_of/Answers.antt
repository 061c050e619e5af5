use Rattle.plan_app.proofs.hazards.finding_of.Goals as goal

pub returns : goal.returns
returns c = record { verdict = c.verdict_of-verdict.ensures; lead = c.in_ok-lead.ensures }
