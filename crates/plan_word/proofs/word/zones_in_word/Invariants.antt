use Rattle.std.proofs.Common.{◌≡◌, ℕ, ◌<◌, length, get_or}
use Rattle.plan_rules.specs.State.{free_zone}
use Rattle.plan_word.specs.Reading.{zone_in_word}
use Rattle.plan_word.proofs.word.zones_in_word.Given as goal

abbrev pub invariant-loop-zone : goal.invariant-loop-zone
invariant-loop-zone l = (length l.zones ≡ 10) × ((k : ℕ) → k < l.zone → get_or l.zones k free_zone ≡ zone_in_word l.plan l.word k)
