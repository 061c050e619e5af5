use Rattle.std.proofs.Common.{length}
use denote.Text.{Utf8}
use denote.Shadow.{shadow}
use Rattle.plan_document.specs.Saying.{own_motor}
use Rattle.plan_document.proofs.Running.{IsReadUpTo}
use Rattle.plan_document.proofs.lines.motors_in.Given as goal

abbrev pub invariant-names : goal.invariant-names
invariant-names l = IsReadUpTo (own_motor l.motors l.machine) l.names l.rest l.bits × shadow (Utf8 l.rest)

abbrev pub decreases-names : goal.decreases-names
decreases-names l = length l.rest
