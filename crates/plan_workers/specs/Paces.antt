-- How far machines have come that keep one pace.
use Rattle.std.specs.Prelude.{ℕ, ◌<◌, ◌≤◌, List, slice_index}
use Rattle.plan_types.specs.Table.{watch}

-- each machine of a run, those below a number, has had this number of turns; the watch may be one of them
abbrev pub HaveHad : ℕ → ℕ → List ℕ → Type 0
HaveHad machines turns had = (m : ℕ) → m < machines → m ≤ watch → turns ≤ slice_index had m
