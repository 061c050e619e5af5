use Rattle.std.proofs.Common.{length}
use denote.Text.{Utf8}
use denote.Shadow.{shadow}
use Rattle.plan_document.proofs.FaultWords.{AreNamedUpTo}
use Rattle.plan_document.proofs.refusals.faults_in.Given as goal

abbrev pub invariant-words : goal.invariant-words
invariant-words l = AreNamedUpTo l.initial.words l.rest l.faults × shadow (Utf8 l.rest)

abbrev pub decreases-words : goal.decreases-words
decreases-words l = length l.rest
