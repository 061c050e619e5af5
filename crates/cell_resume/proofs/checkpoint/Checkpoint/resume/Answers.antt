use Rattle.cell_resume.proofs.Names.{sym, ap, ◌∙◌, subst, Ok, IsFirst, IsWrong, stood}
use Rattle.cell_resume.proofs.TeamTested.{team_tested}
use Rattle.cell_resume.proofs.Taking.{one_fault, first_refused, one_cell, taken, given, refused, is_state, has_state}
use Rattle.cell_resume.proofs.checkpoint.Checkpoint.resume.Goals as goal

pub of-requires : goal.of-requires
of-requires c = (team_tested c.args.self.now c.in-Some.state c.in-Ok.team (sym c.team_in.ensures ∙ c.in-Ok.is)).1

pub returns-in-Ok-clause-ok : goal.returns-in-Ok-clause-ok
returns-in-Ok-clause-ok c = λ s team.
    let t = sym c.team_in.ensures ∙ c.in-Ok.is in (
      λ e. taken c.args.self.now c.in-Some.state c.in-Some.ensures.some c.in-Ok.team t s team (sym c.of.ensures ∙ one_cell c.of.result (stood s team) e),
      λ k. ap Ok (c.of.ensures ∙ given c.args.self.now c.in-Some.state c.in-Some.ensures.some c.in-Ok.team t s team k),
    )

pub returns-in-Err-clause-no_state : goal.returns-in-Err-clause-no_state
returns-in-Err-clause-no_state c = (
  λ e. absurd (is_state c.args.self.now c.in-Some.state c.in-Some.ensures.some c.in-Err.fault (sym c.team_in.ensures ∙ c.in-Err.is) (one_fault _ _ e)),
  λ none. absurd (has_state c.args.self.now c.in-Some.state c.in-Some.ensures.some none),
)

pub returns-in-Err-clause-wrong : goal.returns-in-Err-clause-wrong
returns-in-Err-clause-wrong c = λ s fault sound word e.
    subst (λ x. IsWrong c.args.self.now s x) (one_fault _ _ e) (refused c.args.self.now c.in-Some.state c.in-Some.ensures.some c.in-Err.fault (sym c.team_in.ensures ∙ c.in-Err.is) s sound word)

pub returns-in-Err-clause-first : goal.returns-in-Err-clause-first
returns-in-Err-clause-first c = λ s fault sound word e.
    subst (λ x. IsFirst c.args.self.now s x) (one_fault _ _ e) (first_refused c.args.self.now c.in-Some.state c.in-Some.ensures.some c.in-Err.fault (sym c.team_in.ensures ∙ c.in-Err.is) s sound word)
