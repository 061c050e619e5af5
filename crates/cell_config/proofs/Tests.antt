-- What tests say.
use Rattle.std.proofs.Common.{◌≡◌, Bool, true, false, ◌&&◌, refl}

pub both_hold : (a b : Bool) → (a && b) ≡ true → (a ≡ true) × (b ≡ true)
both_hold true b h = (refl, h)
both_hold false b h = absurd (cc)

pub not_true : (b : Bool) → ¬ (b ≡ true) → b ≡ false
not_true true other = absurd (other refl)
not_true false other = refl
