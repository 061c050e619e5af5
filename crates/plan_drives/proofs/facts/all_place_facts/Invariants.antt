use Rattle.std.proofs.Common.{◌≡◌, ℕ, ◌<◌, length, get_or}
use Rattle.std.proofs.Common.{None}
use Rattle.plan_drives.specs.Facts.{place_facts}
use Rattle.plan_drives.proofs.facts.all_place_facts.Given as goal

abbrev pub invariant-loop-place : goal.invariant-loop-place
invariant-loop-place l =
    (length l.places ≡ 16) × ((k : ℕ) → k < l.place → get_or l.places k None ≡ place_facts l.plan l.known l.call k)
