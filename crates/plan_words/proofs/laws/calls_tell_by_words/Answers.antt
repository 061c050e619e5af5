use Rattle.plan_words.proofs.Drives.{calls_tell_alike, others_are_told_nothing, backed_by_words}
use Rattle.plan_words.proofs.laws.calls_tell_by_words.Goals as goal

pub returns-clause-own : goal.returns-clause-own
returns-clause-own c = calls_tell_alike

pub returns-clause-others : goal.returns-clause-others
returns-clause-others c = others_are_told_nothing

pub returns-clause-backs : goal.returns-clause-backs
returns-clause-backs c = backed_by_words
