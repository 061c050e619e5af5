-- A curve reads one position at a raw value.
use Rattle.std.proofs.Common.{◌≡◌, ℕ, ◌+◌, ◌-◌, ◌<◌, ◌≤◌, ℤ, List, sym, subst, arith, inl, inr}
use Rattle.std.proofs.lemmas.Bool.{cases_lt}
use Rattle.cell_sensors.specs.Curve.{Pair, pair_at, raw_at, IsOnCurve, IsRising, line_through}
use Rattle.cell_sensors.proofs.CurveLemmas.{rises_to}
use Rattle.cell_sensors.proofs.CurveParts.{OnPart, touching}
use Rattle.cell_sensors.proofs.lemmas.LineLemmas.{one_on_line}

next_part : (i j a raw b more : ℕ) → i < j → raw ≤ a → a + (j - (i + 1)) ≤ b → b ≤ raw → j ≡ i + 1
next_part i j a raw b more h p q r = omega arith

later_part : (pairs : List Pair) → IsRising pairs → (i j raw : ℕ) (v w : ℤ) → i < j → OnPart pairs i raw v → OnPart pairs j raw w → w ≡ v
later_part pairs rising i j raw v w later before after =
    let more = rises_to pairs rising (i + 1) j (omega (arith, later)) (omega (arith, after.neighbours.within)) in
    let next : j ≡ i + 1 = next_part i j (raw_at pairs (i + 1)) raw (raw_at pairs j) 0 later before.neighbours.to more after.neighbours.from in
    touching pairs rising i raw v w before (subst (λ (n : ℕ). OnPart pairs n raw w) next after)

same_part : (pairs : List Pair) → IsRising pairs → (i raw : ℕ) (v w : ℤ) → OnPart pairs i raw v → OnPart pairs i raw w → w ≡ v
same_part pairs rising i raw v w one other = one_on_line (line_through (pair_at pairs i) (pair_at pairs (i + 1))) raw v w (rising i one.neighbours.within) one.rounded other.rounded

parts_agree : (pairs : List Pair) → IsRising pairs → (i j raw : ℕ) (v w : ℤ) → OnPart pairs i raw v → OnPart pairs j raw w → w ≡ v
parts_agree pairs rising i j raw v w one other =
    elim (cases_lt i j) [
      | inl later ↦ later_part pairs rising i j raw v w later one other
      | inr low ↦ elim (cases_lt j i) [
        | inl sooner ↦ sym (later_part pairs rising j i raw w v sooner other one)
        | inr high ↦ let same : j ≡ i = omega arith in same_part pairs rising i raw v w one (subst (λ (n : ℕ). OnPart pairs n raw w) same other)
      ]
    ]

pub one_on_curve : (pairs : List Pair) (raw : ℕ) (v w : ℤ) → IsRising pairs → IsOnCurve pairs raw v → IsOnCurve pairs raw w → w ≡ v
one_on_curve pairs raw v w rising one other =
    let first : OnPart pairs one.left raw v = record { neighbours = one.neighbours; rounded = one.rounded } in
    let second : OnPart pairs other.left raw w = record { neighbours = other.neighbours; rounded = other.rounded } in
    parts_agree pairs rising one.left other.left raw v w first second
