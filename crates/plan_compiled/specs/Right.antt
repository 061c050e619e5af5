-- What a test of a row finds, field by field.
use Rattle.std.specs.Prelude.{◌≡◌, ℕ, ◌-◌, ◌<◌, ◌^◌, Bool, IsTrue}
use Rattle.plan_types.specs.Table.{PlanTable}
use Rattle.plan_rules.specs.State.{one_if}
use Rattle.plan_rules.specs.Sound.{IsLawfulZone}
use Rattle.plan_word.specs.declared.layout.Field.TheVariants.{Zone, Place, Stamp}
use Rattle.plan_word.specs.Layout.{Counts, counts_of, width_of}
use Rattle.plan_word.specs.Packed.{zone_code}
use Rattle.plan_word.specs.Reading.{told}
use Rattle.plan_compiled.specs.declared.part.Part.{Part}
use Rattle.plan_compiled.specs.declared.right.Asked.{Asked}
use Rattle.plan_compiled.specs.Alone.{zone_alone}
use Rattle.plan_compiled.specs.Needs.{zone_fits, zone_after, place_fits, place_after, stop_fits, stop_after}
use Rattle.plan_compiled.specs.Rows.{matches, written, part_in}

-- the five bits of a zone, if they are those of a lawful state and are wanted, are as the call needs them, and become
-- what it makes of them
abbrev pub IsRightCode : PlanTable → Asked → Part → ℕ → ℕ → Type 0
IsRightCode t a p z n =
    IsLawfulZone t z (zone_alone t z n) → zone_code t z (zone_alone t z n) ≡ n → IsTrue (matches p n)
    → IsTrue (zone_fits t a.machine a.call a.room z (zone_alone t z n))
    × (written p n ≡ zone_code t z (zone_after t a.machine a.call z (zone_alone t z n)))

abbrev pub AreRightZones : PlanTable → Asked → Part → ℕ → Type 0
AreRightZones t a p n =
    (z : ℕ) → z < n → (c : ℕ) → c < 32 → IsRightCode t a (part_in (counts_of t) p (Zone z)) z c

abbrev pub IsRightBit : PlanTable → Asked → Part → ℕ → Bool → Type 0
IsRightBit t a p q full =
    IsTrue (matches p (one_if full))
    → IsTrue (place_fits t a.machine a.call a.room q full)
    × (written p (one_if full) ≡ one_if (place_after t a.machine a.call q full))

abbrev pub AreRightPlaces : PlanTable → Asked → Part → ℕ → Type 0
AreRightPlaces t a p n =
    (q : ℕ) → q < n → (full : Bool) → IsRightBit t a (part_in (counts_of t) p (Place q)) q full

abbrev pub IsRightStop : PlanTable → Asked → Part → Bool → Type 0
IsRightStop t a p stopped =
    IsTrue (matches p (one_if stopped))
    → IsTrue (stop_fits t a.call stopped)
    × (written p (one_if stopped) ≡ one_if (stop_after a.call stopped))

-- the stamp stays, and no bit above the word's width is set
pub record KeepsStamp (c : Counts) (p : Part) : Type 0 where
  pub kept : told c p.keep Stamp ≡ 2 ^ 20 - 1
  pub unset : told c p.set Stamp ≡ 0
  pub within : p.set < 2 ^ width_of c
