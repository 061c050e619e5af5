use Rattle.std.proofs.Common.{Some, subst, sym}
use Rattle.cell_rules.specs.Types.{journal_of}
use Rattle.cell_rules.specs.Names.{IsAudited}
use Rattle.six_by_hand.specs.Rounds.{OpensWith}
use Rattle.six_by_hand.proofs.Following.{opens_first, rounds_follow}
use Rattle.six_by_hand.proofs.six.run_six.Goals as goal

pub run_renewed-requires-clause-may_take : goal.run_renewed-requires-clause-may_take
run_renewed-requires-clause-may_take g c κs within = λ now come six watch told. record {
  opens = subst (OpensWith now.sink.left) (sym told.start) (rounds_follow (λ a. a.left) (λ before round after taken. taken) _ now come (opens_first c.args.audits.now.left c.args.opening c.requires.first));
  history = told.history;
  explained = subst (λ s. IsAudited s (journal_of six.journals) (Some six.end) told.history) (sym told.start) told.audited;
}
