-- The cycles of a worker with devices of your own, one by one.
use Rattle.cell_renewal.proofs.Names.{◌≡◌, ℕ, Option, subst, Steps, Commands, GateOf, ComesBy, comes_on, WiredMoment, TakesCycle}

-- a program keeps its calibrations, and a line its tries
module _ {P S Sense Reading Act D : Type 0} (steps : P → Steps S Sense Reading Act) (shows : D → Option Sense → D → Type 0) (sets : D → Commands Act → D → Type 0) (gate : GateOf) where
  pub wired_comes_by : (m n : ℕ) (p q : P) → m ≡ n → p ≡ q → (first before now : WiredMoment S D) → ComesBy (TakesCycle n (steps q) shows sets gate) first before
      → TakesCycle m (steps p) shows sets gate before now → ComesBy (TakesCycle n (steps q) shows sets gate) first now
  wired_comes_by m n p q e f first before now k turn =
      comes_on (TakesCycle n (steps q) shows sets gate) first before now k
      (subst (λ x. TakesCycle n (steps x) shows sets gate before now) f (subst (λ x. TakesCycle x (steps p) shows sets gate before now) e turn))
