-- What a table says about each code of a zone.
use Rattle.std.specs.Prelude.{◌≡◌, ℕ, ◌+◌, ◌/◌, ◌%◌, ◌<◌, ◌≤◌, ◌^◌, List, length, get_or}
use Rattle.plan_types.specs.Below.{sum_below}
use Rattle.plan_types.specs.Table.{PlanTable, place_count}
use Rattle.plan_rules.specs.State.{one_if, is_coming}
use Rattle.plan_rules.specs.Sound.{IsLawfulZone}
use Rattle.plan_rules.specs.PlainLaws.{IsPlain}
use Rattle.plan_word.specs.declared.layout.Field.TheVariants.{Zone}
use Rattle.plan_word.specs.Layout.{bits_of, counts_of}
use Rattle.plan_word.specs.Packed.{zone_code}
use Rattle.plan_word.specs.Reading.{told, place_told}
use Rattle.plan_compiled.specs.declared.told.Ends.{Ends}
use Rattle.plan_compiled.specs.Alone.{zone_alone}

-- where bit 31 isn't set, no zone of the plan joins the one before it, the code is that of a lawful zone, which has no
-- other, and the bit of each place says whether a plate comes there
pub record IsEnd (t : PlanTable) (z n e : ℕ) : Type 0 where
  pub plain : e / 2 ^ 31 % 2 ≡ 0 → IsPlain t
  pub lawful : e / 2 ^ 31 % 2 ≡ 0 → IsLawfulZone t z (zone_alone t z n)
  pub back : e / 2 ^ 31 % 2 ≡ 0 → zone_code t z (zone_alone t z n) ≡ n
  pub comes : (q : ℕ) → q < 16 → e / 2 ^ 31 % 2 ≡ 0 → e / 2 ^ q % 2 ≡ one_if (is_coming t (zone_alone t z n) q z)

abbrev pub AreEnds : PlanTable → ℕ → List ℕ → Type 0
AreEnds t z ends = (n : ℕ) → n < 32 → IsEnd t z n (get_or ends n 0)

-- no zone has more than five bits here, so each code is below 32; where no zone joins another, they are its own
pub record IsTable (t : PlanTable) (n : ℕ) (table : List Ends) : Type 0 where
  pub zones : n ≤ length table
  pub ends : (z : ℕ) (d : Ends) → z < n → AreEnds t z (get_or table z d).ends
  pub few : (z : ℕ) (d : Ends) → z < n → (get_or table z d).bits ≤ 5
  pub bits : (z : ℕ) (d : Ends) → z < n → IsPlain t → (get_or table z d).bits ≡ bits_of (counts_of t) (Zone z)

-- the code of a zone in a word
abbrev pub code_at : PlanTable → ℕ → ℕ → ℕ
code_at t w z = told (counts_of t) w (Zone z)

-- what is known after the zones below a number: the bits of the places that are full, or that a plate comes to
pub record TakenBelow (t : PlanTable) (w n taken : ℕ) : Type 0 where
  pub plain : (z : ℕ) → z < n → IsPlain t
  pub barred : taken / 2 ^ 31 % 2 ≡ 1
  pub lawful : (z : ℕ) → z < n → IsLawfulZone t z (zone_alone t z (code_at t w z))
  pub back : (z : ℕ) → z < n → zone_code t z (zone_alone t z (code_at t w z)) ≡ code_at t w z
  pub plates : (q : ℕ) → q < place_count t → taken / 2 ^ q % 2 ≡ one_if (place_told t w q)
      + sum_below (λ z. one_if (is_coming t (zone_alone t z (code_at t w z)) q z)) n
