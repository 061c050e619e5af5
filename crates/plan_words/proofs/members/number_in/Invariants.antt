use Rattle.std.proofs.Common.{◌≡◌, ◌+◌, drop}
use Rattle.plan_words.specs.Groups.{number_in}
use Rattle.plan_words.proofs.members.number_in.Given as goal

abbrev pub invariant-loop-other : goal.invariant-loop-other
invariant-loop-other l =
    (l.before ≡ l.other-index) × (l.before + number_in (drop l.other-index l.numbers) l.number ≡ number_in l.numbers l.number)
