-- Laws of the word of every state of a plan.
use Rattle.std.specs.Prelude.{◌≡◌, ℕ, ◌+◌, ◌/◌, ◌%◌, ◌<◌, ◌^◌, IsTrue}
use Rattle.plan_types.specs.Below.{sum_below}
use Rattle.plan_types.specs.Table.{PlanTable, zone_count, place_count, zone_bits, word_width}
use Rattle.plan_types.specs.Examples.{lift_table}
use Rattle.plan_rules.specs.declared.state.State.{State}
use Rattle.plan_rules.specs.State.{zone_at, is_full, one_if}
use Rattle.plan_word.specs.declared.layout.Field.{Field}
use Rattle.plan_word.specs.Layout.{counts_of, has, bits_of, width_of}
use Rattle.plan_word.specs.OfPlan.{IsOfPlan}
use Rattle.plan_word.specs.Packed.{zone_code, held, packed}
use Rattle.plan_word.specs.Reading.{told}

-- each number fits its field, and the word's field has it; the word has no bit above its width
pub record IsLaidOut (t : PlanTable) (s : State) : Type 0 where
  pub fits : (f : Field) → IsTrue (has (counts_of t) f) → held t s f < 2 ^ bits_of (counts_of t) f
  pub reads_back : (f : Field) → IsTrue (has (counts_of t) f) → told (counts_of t) (packed t s) f ≡ held t s f
  pub bound : packed t s < 2 ^ width_of (counts_of t)

-- so the word tells each part of the state in bits of its own, and no more
pub record TellsState (t : PlanTable) (s : State) : Type 0 where
  pub zone : (z : ℕ) → z < zone_count t → packed t s / 2 ^ sum_below (zone_bits t) z % 2 ^ zone_bits t z
      ≡ zone_code t z (zone_at s z)
  pub place : (p : ℕ) → p < place_count t
      → packed t s / 2 ^ (sum_below (zone_bits t) (zone_count t) + p) % 2 ≡ one_if (is_full s p)
  pub stamp : packed t s / 2 ^ (sum_below (zone_bits t) (zone_count t) + place_count t) % 1048576 ≡ s.stamp
  pub stop : packed t s / 2 ^ (sum_below (zone_bits t) (zone_count t) + place_count t + 20) % 2 ≡ one_if s.stopped
  pub above : packed t s < 2 ^ word_width t

abbrev pub LayoutsTell : Type 0
LayoutsTell = (t : PlanTable) (s : State) → IsLaidOut t s → TellsState t s

abbrev pub EveryWordIsLaidOut : Type 0
EveryWordIsLaidOut = (t : PlanTable) (s : State) → IsOfPlan t s → IsLaidOut t s

-- no two states of a plan have one word
abbrev pub WordsAreDistinct : Type 0
WordsAreDistinct =
    (t : PlanTable) (one other : State) → IsOfPlan t one → IsOfPlan t other → packed t one ≡ packed t other
    → one ≡ other

-- what these laws say of the lift: its zones from bits 0 and 5, its places in 10 to 12, the stamp from 13, the stop in
-- 33
pub record LiftWords (s other : State) : Type 0 where
  pub zone_fits : EveryWordIsLaidOut → IsOfPlan lift_table s → zone_code lift_table 1 (zone_at s 1) < 32
  pub stamp_fits : EveryWordIsLaidOut → IsOfPlan lift_table s → s.stamp < 1048576
  pub zone_reads_back : EveryWordIsLaidOut → IsOfPlan lift_table s
      → packed lift_table s / 32 % 32 ≡ zone_code lift_table 1 (zone_at s 1)
  pub ends : EveryWordIsLaidOut → IsOfPlan lift_table s → packed lift_table s < 2 ^ 34
  pub zone : LayoutsTell → IsLaidOut lift_table s
      → packed lift_table s / 2 ^ 5 % 32 ≡ zone_code lift_table 1 (zone_at s 1)
  pub place : LayoutsTell → IsLaidOut lift_table s → packed lift_table s / 2 ^ 12 % 2 ≡ one_if (is_full s 2)
  pub stamp : LayoutsTell → IsLaidOut lift_table s → packed lift_table s / 2 ^ 13 % 1048576 ≡ s.stamp
  pub stop : LayoutsTell → IsLaidOut lift_table s → packed lift_table s / 2 ^ 33 % 2 ≡ one_if s.stopped
  pub above : LayoutsTell → IsLaidOut lift_table s → packed lift_table s < 2 ^ 34
  pub same : WordsAreDistinct → IsOfPlan lift_table s → IsOfPlan lift_table other
      → packed lift_table s ≡ packed lift_table other → s ≡ other
