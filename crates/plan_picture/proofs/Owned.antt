-- The clauses of `all_is_drawn` on whose rows are whose.
use Rattle.std.proofs.Common.{◌≡◌, ◌<◌, ◌+◌, ◌-◌, ℕ, suc, List, flat_map, get_or, length, map}
use Rattle.std.proofs.Common.{ap, ◌∙◌, arith}
use Rattle.std.specs.List.{range_with_len}
use Rattle.std.proofs.lemmas.List.{get_or_append_left, get_or-append_right}
use Rattle.std.proofs.lemmas.List.FromFn.{get_or-map-range_with_len, length-map-range_with_len}
use Rattle.plan_types.specs.Table.{keeper_of, place_count}
use Rattle.plan_motors.specs.OfPlan.{motor_at}
use Rattle.plan_picture.specs.Scenes as at
use Rattle.plan_picture.specs.Scenes.{Scene}
use Rattle.plan_picture.proofs.lemmas.Counting.{no_fewer}
use Rattle.plan_picture.proofs.lemmas.Ranges.{each_length, in_piece}

keepers-length : (s : Scene) (w : ℕ) → length (at.keepers_on s.words w) ≡ place_count (at.word_at s w).plan
keepers-length s w =
    length-map-range_with_len (keeper_of (at.word_at s w).plan) 0 (place_count (at.word_at s w).plan)

places-length : (s : Scene)
    → length (flat_map (at.keepers_on s.words) (range_with_len 0 (length s.words))) ≡ at.all_places s
places-length s =
    each_length (at.keepers_on s.words) (λ w. place_count (at.word_at s w).plan) (keepers-length s) (length s.words)

-- how many places a word has
abbrev count_on : Scene → ℕ → ℕ
count_on s w = place_count (at.word_at s w).plan

abbrev keepers : Scene → List ℕ
keepers s = flat_map (at.keepers_on s.words) (range_with_len 0 (length s.words))

abbrev machines : Scene → List ℕ
machines s = map (at.machine_with s.motors) (range_with_len 0 (length s.motor_names))

pub keepers-own : (s : Scene) (w k : ℕ) → w < length s.words → k < place_count (at.word_at s w).plan
    → at.owner_of s (at.place_thing (at.on_word s w) k) ≡ keeper_of (at.word_at s w).plan k
keepers-own s w k there l =
    let more = no_fewer (count_on s) (suc w) (length s.words) (omega arith) in
    let all = places-length s in
    let few : at.places_before s w + k < length (keepers s) = omega (arith, more, all, l) in
    get_or_append_left (keepers s) (machines s) 0 (at.places_before s w + k) few
    ∙ in_piece (at.keepers_on s.words) (count_on s) 0 (keepers-length s) (length s.words) w k there l
    ∙ get_or-map-range_with_len (keeper_of (at.word_at s w).plan) 0 (count_on s w) k k 0 l (omega arith)

pub motors-own : (s : Scene) (k : ℕ) → k < length s.motor_names
    → at.owner_of s (at.motor_thing s k) ≡ (motor_at s.motors k).machine
motors-own s k l =
    let rest : at.all_places s + k - at.all_places s ≡ k = omega arith in
    get_or-append_right (keepers s) (machines s) (at.all_places s) (at.all_places s + k) 0 (places-length s) (omega arith)
    ∙ ap (λ i. get_or (machines s) i 0) rest
    ∙ get_or-map-range_with_len (at.machine_with s.motors) 0 (length s.motor_names) k k 0 l (omega arith)
