-- A word that got one more zone, or the stamp and the stop after its zones and places.
use Rattle.std.proofs.Common.{◌≡◌, ℕ, ◌+◌, ◌*◌, ◌<◌, ◌^◌, sym, ap, ap₂, ◌∙◌, subst}
use Rattle.plan_types.specs.Table.{PlanTable, shape_bits}
use Rattle.plan_rules.specs.declared.state.ZoneState.{ZoneState}
use Rattle.plan_rules.specs.declared.state.State.{State}
use Rattle.plan_rules.specs.State.{zone_at, one_if}
use Rattle.plan_rules.proofs.lemmas.Below.{sum_below_more}
use Rattle.plan_word.specs.declared.layout.Field.TheVariants.{Zone, Stamp, Stop}
use Rattle.plan_word.specs.Layout.{Counts, counts_of, shape_at, start_of, end_of}
use Rattle.plan_word.specs.Packed.{zone_code, part_of, zone_parts, packed}
use Rattle.plan_word.proofs.lemmas.LaidOut.{low_parts}
use Rattle.plan_word.proofs.lemmas.Shapes.{ends}

pub zone_more : (t : PlanTable) (s : State) (l : Counts) (z before code word : ℕ) (v : ZoneState) → l ≡ counts_of t → before ≡ zone_parts t s z → v ≡ zone_at s z → code ≡ zone_code t z v
    → word ≡ before + code * 2 ^ start_of l (Zone z) → word ≡ zone_parts t s (z + 1)
zone_more t s l z before code word v layout lower here is_code is =
    is
    ∙ ap₂ (λ n k. n + k * 2 ^ start_of l (Zone z)) lower (is_code ∙ ap (zone_code t z) here)
    ∙ ap (λ (c : Counts). zone_parts t s z + zone_code t z (zone_at s z) * 2 ^ start_of c (Zone z)) layout
    ∙ sym (sum_below_more (λ x. part_of t s (Zone x)) z)

pub zone_end : (t : PlanTable) (l : Counts) (z word : ℕ) → l ≡ counts_of t → word < 2 ^ end_of l (Zone z) → word < 2 ^ ends t (z + 1)
zone_end t l z word layout below =
    subst (λ n. word < 2 ^ n) (ap (λ (c : Counts). end_of c (Zone z)) layout ∙ sym (sum_below_more (λ x. shape_bits (shape_at (counts_of t) x)) z)) below

pub packed_by : (t : PlanTable) (s : State) (l : Counts) (low stamped word a b : ℕ) → l ≡ counts_of t → low ≡ low_parts t s
    → stamped ≡ low + a * 2 ^ start_of l Stamp → a ≡ s.stamp → word ≡ stamped + b * 2 ^ start_of l Stop → b ≡ one_if s.stopped → word ≡ packed t s
unfolding packed
packed_by t s l low stamped word a b layout lower stamp is_stamp stop is_stop =
    stop
    ∙ ap₂ (λ n k. n + k * 2 ^ start_of l Stop) (stamp ∙ ap₂ (λ n k. n + k * 2 ^ start_of l Stamp) lower is_stamp) is_stop
    ∙ ap (λ (c : Counts). low_parts t s + s.stamp * 2 ^ start_of c Stamp + one_if s.stopped * 2 ^ start_of c Stop) layout
