-- What a plan's layout has of each zone.
use Rattle.std.proofs.Common.{◌≡◌, ℕ, ◌≤◌, ◌&&◌, ◌||◌, inl, inr, Bool, false, nat_lt, is_some, sym, ap, ap₂, ◌∙◌, arith, ltb-true}
use Rattle.std.proofs.lemmas.Bool.{cases_lt, false_from_ne_true}
use Rattle.std.proofs.lemmas.List.{get_or_past}
use Rattle.std.proofs.lemmas.List.FromFn.{get_or-map-range_with_len, length-map-range_with_len}
use Rattle.plan_types.specs.declared.posture.Posture.TheVariants.{Moving, OpenIn, OpenOut}
use Rattle.plan_types.specs.declared.table.PlanZone.{PlanZone}
use Rattle.plan_types.specs.Below.{any_below, sum_below}
use Rattle.plan_types.specs.Table.{PlanTable, zone_count, pose_count, no_zone, gives, zone_shape, no_shape, shape_bits, zone_bits}
use Rattle.plan_rules.proofs.lemmas.Below.{sum_below_same}
use Rattle.plan_types.proofs.lemmas.Spaces.{first_alone}
use Rattle.plan_word.proofs.lemmas.Guests.{shape_guests, guests_past}
use Rattle.plan_word.specs.declared.layout.Field.TheVariants.{Zone}
use Rattle.plan_word.specs.Layout.{counts_of, shape_at, bits_of, zones_end}

not_there : (a b : ℕ) → b ≤ a → nat_lt a b ≡ false
not_there a b past = false_from_ne_true (nat_lt a b) (λ e. let l = ltb-true a b e in absurd (omega arith))

-- past the end of the table a zone has the bits of its owner alone
pub past_shape : (t : PlanTable) (z : ℕ) → zone_count t ≤ z → zone_shape t z ≡ no_shape
past_shape t z past =
    let row = get_or_past t.zones z no_zone past in
    let b = not_there z (zone_count t) past in
    let first = first_alone t z (ap (λ (x : PlanZone). x.joins) row) in
    let one = shape_guests t z first ∙ guests_past t z past in
    ap₂ (λ (row : PlanZone) (b : Bool). record {
      guests = (zone_shape t z).guests;
      flag = is_some row.inward || is_some row.outward;
      moves = b && any_below (gives t z Moving) (pose_count t);
      opens_in = b && any_below (gives t z OpenIn) (pose_count t);
      opens_out = b && any_below (gives t z OpenOut) (pose_count t);
    }) row b
    ∙ ap (λ (n : ℕ). record no_shape { guests = n }) one

pub shape_is : (t : PlanTable) (z : ℕ) → shape_at (counts_of t) z ≡ zone_shape t z
shape_is t z =
    elim (cases_lt z (zone_count t)) [
      | inl l ↦ get_or-map-range_with_len (zone_shape t) 0 (zone_count t) z z no_shape l (omega arith)
      | inr past ↦
          let long = length-map-range_with_len (zone_shape t) 0 (zone_count t) in
          get_or_past (counts_of t).shapes z no_shape (omega (arith, long, past)) ∙ sym (past_shape t z past)
    ]

-- the bits of a zone in a plan's word, and where the first zones end
abbrev pub bits_at : PlanTable → ℕ → ℕ
bits_at t z = bits_of (counts_of t) (Zone z)

abbrev pub ends : PlanTable → ℕ → ℕ
ends t n = zones_end (counts_of t) n

abbrev pub places_bit : PlanTable → ℕ
places_bit t = ends t (zone_count t)

pub bits_are : (t : PlanTable) (z : ℕ) → bits_at t z ≡ zone_bits t z
bits_are t z = ap shape_bits (shape_is t z)

pub ends_are : (t : PlanTable) (n : ℕ) → ends t n ≡ sum_below (zone_bits t) n
ends_are t n = sum_below_same (zone_bits t) (bits_at t) n (λ j l. bits_are t j)
