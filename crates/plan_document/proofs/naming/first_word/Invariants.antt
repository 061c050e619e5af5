use Rattle.std.proofs.Common.{◌≡◌, ◌≤◌, ◌-◌, ◌++◌, length, take, drop}
use Rattle.plan_document.specs.OnWord.{first_word}
use Rattle.plan_document.proofs.naming.first_word.Given as goal

abbrev pub decreases-bytes : goal.decreases-bytes
decreases-bytes l = length l.text - l.end

abbrev pub invariant-bytes : goal.invariant-bytes
invariant-bytes l = (l.end ≤ length l.text) × (take l.end l.text ++ first_word (drop l.end l.text) ≡ first_word l.text)
