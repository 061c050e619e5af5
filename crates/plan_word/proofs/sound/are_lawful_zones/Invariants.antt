use Rattle.std.proofs.Common.{ℕ, ◌<◌}
use Rattle.plan_rules.specs.State.{zone_at}
use Rattle.plan_rules.specs.Sound.{IsLawfulZone}
use Rattle.plan_word.proofs.sound.are_lawful_zones.Given as goal

abbrev pub invariant-loop-zone : goal.invariant-loop-zone
invariant-loop-zone l = (z : ℕ) → z < l.zone → IsLawfulZone l.plan z (zone_at l.state z)
