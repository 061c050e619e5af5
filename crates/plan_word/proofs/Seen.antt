-- What the fields of a word tell of a zone and of a place, also past the end of the plan's tables.
use Rattle.std.proofs.Common.{◌≡◌, ℕ, ◌≤◌, inl, inr, false, ◌&&◌, if◌then◌else◌, nat_eq, nat_lt, sym, ap, ◌∙◌, arith, ltb-true}
use Rattle.std.proofs.lemmas.Bool.{cases_lt, false_from_ne_true}
use Rattle.std.proofs.lemmas.List.{get_or_past}
use Rattle.std.proofs.lemmas.List.FromFn.{get_or-map-range_with_len}
use Rattle.plan_types.specs.Table.{PlanTable, zone_count, place_count, space_of}
use Rattle.plan_rules.specs.State.{zone_at, is_full, free_zone}
use Rattle.plan_word.specs.declared.layout.Field.TheVariants.{Zone, Place}
use Rattle.plan_word.specs.Layout.{counts_of}
use Rattle.plan_word.specs.Reading.{told, zone_of_code, zone_in_word, place_told, state_told}

not_there : (a b : ℕ) → b ≤ a → nat_lt a b ≡ false
not_there a b past = false_from_ne_true (nat_lt a b) (λ e. let l = ltb-true a b e in absurd (omega arith))

pub zone_in : (t : PlanTable) (w z : ℕ) → zone_count t ≤ 10 → zone_in_word t w z ≡ zone_at (state_told t w) z
unfolding state_told
zone_in t w z few =
    elim (cases_lt z 10) [
      | inl l ↦ sym (get_or-map-range_with_len (zone_in_word t w) 0 10 z z free_zone l (omega arith))
      | inr past ↦ ap (λ b. if b then zone_of_code t z (told (counts_of t) w (Zone (space_of t z))) (told (counts_of t) w (Zone z)) else free_zone) (not_there z (zone_count t) (omega arith))
          ∙ sym (get_or_past (state_told t w).zones z free_zone past)
    ]

pub place_in : (t : PlanTable) (w p : ℕ) → place_count t ≤ 16 → place_told t w p ≡ is_full (state_told t w) p
unfolding state_told
place_in t w p few =
    elim (cases_lt p 16) [
      | inl l ↦ sym (get_or-map-range_with_len (place_told t w) 0 16 p p false l (omega arith))
      | inr past ↦ ap (λ b. b && nat_eq (told (counts_of t) w (Place p)) 1) (not_there p (place_count t) (omega arith))
          ∙ sym (get_or_past (state_told t w).full p false past)
    ]
