use Rattle.std.proofs.Common.{◌≡◌, ◌++◌, string_bytes, length}
use denote.Text.{Utf8}
use denote.Shadow.{shadow}
use Rattle.plan_header.specs.Numbered as spec
use Rattle.plan_header.proofs.numbered.push_numbered.Given as goal

abbrev pub invariant-words : goal.invariant-words
invariant-words l =
    (string_bytes l.initial.text ++ spec.numbered l.number l.header ≡ string_bytes l.text ++ spec.numbered l.number l.rest)
    × shadow (Utf8 l.rest)

abbrev pub decreases-words : goal.decreases-words
decreases-words l = length l.rest
