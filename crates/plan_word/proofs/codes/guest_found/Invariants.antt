use Rattle.std.proofs.Common.{◌≡◌}
use Rattle.std.specs.Bool.{then_some}
use Rattle.plan_types.specs.Below.{first_below}
use Rattle.plan_word.specs.Packed.{is_guest_at}
use Rattle.plan_word.proofs.codes.guest_found.Given as goal

abbrev pub invariant-loop-guest : goal.invariant-loop-guest
invariant-loop-guest l = l.found ≡ first_below (λ k. then_some (is_guest_at l.plan l.first l.machine k) k) l.guest
