-- The collisions in numbers.
use Rattle.std.proofs.Common.{rules, ◌≡◌, ◌↔◌, ℕ, ℤ, pos, Bool, true, false, ◌⊎◌}
use Rattle.cell_devices.specs.declared.motor.Motor.{Motor}
use Rattle.cell_devices.specs.declared.motor.Motor.TheVariants.{Off, Plus, Minus}
use Rattle.cell_parts.specs.Names.{DrivesPast, LetsGo, driven_at}
use Rattle.cell_parts.specs.CollisionExamples.{CollisionBounds, MagnetBounds, EndBounds, EachCollision}
use Rattle.cell_parts.proofs.Contrasts.{neither, off_plus, off_minus, false_true}
use Rattle.cell_parts.proofs.Figures.{same, both, all_three, either, denied, only_first, only_second, order, past, below, equal, beyond, inside, driven, some}

pub collisions : CollisionBounds
collisions = search (rules, either, all_three, both, same, denied, past, inside, order, driven, below, some, beyond)

-- a magnet that was off before the turn and is off after it drops nothing
kept_off : {A : Type 0} → ¬ (LetsGo false false × A)
kept_off k = false_true k.0.0

lets_go : {May Laid : Type 0} (before now : Bool) → (May ↔ Laid) → (LetsGo before now × (¬ May)) ↔ ((before ≡ true) × (now ≡ false) × (¬ Laid))
lets_go before now may = (λ k. (k.0.0, k.0.1, λ laid. k.1 (may.1 laid)), λ k. ((k.0, k.1), λ there. k.2 (may.0 there)))

pub magnets : MagnetBounds
magnets = record {
  arm1 = λ rotation arm before now. only_first (lets_go before now (both (inside 1460 1540 rotation) (inside 760 840 arm))) (neither kept_off kept_off);
  arm2 = λ rotation arm before now. only_second kept_off (only_first (lets_go before now (both (inside 1760 1840 rotation) (inside 560 640 arm))) kept_off);
  crane = λ travel gripper before now. only_second kept_off (only_second kept_off (lets_go before now (both (order 1990 travel) (inside 250 350 gripper))));
}

-- ---- the ends of the axes

-- an axis at rest isn't driven past its end
at_rest : (end p : ℤ) → ¬ DrivesPast end (record { position = p; motor = Off })
at_rest end p = neither (λ k. off_minus k.1) (λ k. off_plus k.1)

ends_at : (end position : ℕ) (motor : Motor) → DrivesPast (pos end) (driven_at position motor) ↔ (((position ≡ 0) × (motor ≡ Minus)) ⊎ ((position ≡ end) × (motor ≡ Plus)))
ends_at end position motor = either (both (equal position 0) same) (both (equal position end) same)

pub all_ends : EndBounds
all_ends = search (rules, ends_at, only_first, only_second, neither, at_rest)

pub each_collision : EachCollision
each_collision = search rules
