-- The laws `all_is_apart` and `texts_fit`.
use Rattle.std.proofs.Common.{◌≡◌, ◌<◌, ◌≤◌, ◌+◌, ◌*◌, ℕ, suc, length, refl, subst, arith}
use Rattle.plan_types.specs.Table.{place_count}
use Rattle.plan_rules.proofs.lemmas.Below.{sum_below_more}
use Rattle.plan_picture.specs.PictureLaws.{AllIsApart}
use Rattle.plan_picture.specs.Scenes as at
use Rattle.plan_picture.specs.Scenes.{Scene}
use Rattle.plan_picture.proofs.lemmas.Counting.{counted_one_more, no_fewer, one_counted}

next-lane : (s : Scene) (k : ℕ) → at.lane s (k + 1) ≡ at.lane s k + at.lane_height s k + 14
next-lane s k = let more = counted_one_more (at.owner_of s) k (at.thing_count s) in omega (arith, more)

above-end : (s : Scene) (i : ℕ) → i < at.thing_count s
    → at.row s i + 18 ≤ at.lane s (at.owner_of s i) + at.lane_height s (at.owner_of s i)
above-end s i l =
    let more = one_counted (at.owner_of s) (at.owner_of s i) i (at.thing_count s) l refl in omega (arith, more)

rows-apart : (s : Scene) (i j : ℕ) → i < j → at.owner_of s i ≡ at.owner_of s j → at.row s i + 20 ≤ at.row s j
rows-apart s i j l same =
    subst (λ m. at.row s i + 20 ≤ at.lane s m + 44 + 20 * at.owned s m j) same
    (let more = one_counted (at.owner_of s) (at.owner_of s i) i j l refl in omega (arith, more))

arrows-of-rows : (s : Scene) (i j : ℕ) → i < j → at.owner_of s i ≡ at.owner_of s j
    → at.sink_line s i + 12 ≤ at.source_line s j
arrows-of-rows s i j l same = let apart = rows-apart s i j l same in omega (arith, apart)

arrows-above-end : (s : Scene) (i : ℕ) → i < at.thing_count s
    → at.sink_line s i + 14 ≤ at.lane s (at.owner_of s i) + at.lane_height s (at.owner_of s i)
arrows-above-end s i l = let above = above-end s i l in omega (arith, above)

-- a word's zones and places are among those of all
zones-of-words : (s : Scene) (w z k : ℕ) → w < length s.words → z < length (at.word_at s w).zones
    → at.zone_column (at.on_word s w) z + 140 ≤ at.hazard_column s k
zones-of-words s w z k there l =
    let more = no_fewer (λ v. length (at.word_at s v).zones) (suc w) (length s.words) (omega arith) in omega (arith, more)

things-of-words : (s : Scene) (w p k : ℕ) → w < length s.words → p < place_count (at.word_at s w).plan
    → at.place_thing (at.on_word s w) p < at.motor_thing s k
things-of-words s w p k there l =
    let more = no_fewer (λ v. place_count (at.word_at s v).plan) (suc w) (length s.words) (omega arith) in
    omega (arith, more)

next-zones : (s : Scene) (w z : ℕ) → z < length (at.word_at s w).zones
    → at.zone_column (at.on_word s w) z + 140 ≤ at.zone_column (at.on_word s (w + 1)) 0
next-zones s w z l =
    let next = sum_below_more (λ v. length (at.word_at s v).zones) w in omega (arith, next)

next-things : (s : Scene) (w p : ℕ) → p < place_count (at.word_at s w).plan
    → at.place_thing (at.on_word s w) p < at.place_thing (at.on_word s (w + 1)) 0
next-things s w p l =
    let next = sum_below_more (λ v. place_count (at.word_at s v).plan) w in omega (arith, next)

pub all-is-apart : AllIsApart
all-is-apart = record {
  lanes = next-lane;
  below_name = λ s i. omega arith;
  above_end = above-end;
  rows = rows-apart;
  things_of_words = next-things;
  motors_after_places = things-of-words;
  arrows = λ s i. omega arith;
  arrows_of_rows = arrows-of-rows;
  arrows_below_name = λ s i. omega arith;
  arrows_above_end = arrows-above-end;
  columns = λ k. omega arith;
  zones = λ s z. omega arith;
  words = next-zones;
  hazards_after_zones = zones-of-words;
  next_hazard = λ s k. omega arith;
  in_width = λ s k l. omega arith;
  in_height = λ s. omega arith;
}
