-- The bytes of the rows below a number, and of the next row.
use Rattle.std.proofs.Common.{◌≡◌, ℕ, ◌+◌, ◌<◌, List, [], ◌∷◌, ◌++◌, take, flat_map, map, ap, ◌∙◌, sym}
use Rattle.std.proofs.lemmas.List.{take_more, flat_map_more, append_assoc, map-append}
use Rattle.plan_types.specs.Table.{PlanTable, no_zone, no_pose, no_place, zone_row, pose_row, place_row, zone_count, pose_count, place_count}
use Rattle.plan_types.specs.Bytes.{zone_bytes, pose_bytes, place_byte}

pub zones_more : (out : List ℕ) (t : PlanTable) (z : ℕ) → z < zone_count t
    → (out ++ flat_map zone_bytes (take z t.zones)) ++ zone_bytes (zone_row t z)
    ≡ out ++ flat_map zone_bytes (take (z + 1) t.zones)
zones_more out t z below =
    flat_map_more zone_bytes out (take z t.zones) (zone_row t z)
    ∙ ap (λ rows. out ++ flat_map zone_bytes rows) (sym (take_more t.zones z no_zone below))

pub poses_more : (out : List ℕ) (t : PlanTable) (p : ℕ) → p < pose_count t
    → (out ++ flat_map pose_bytes (take p t.poses)) ++ pose_bytes (pose_row t p)
    ≡ out ++ flat_map pose_bytes (take (p + 1) t.poses)
poses_more out t p below =
    flat_map_more pose_bytes out (take p t.poses) (pose_row t p)
    ∙ ap (λ rows. out ++ flat_map pose_bytes rows) (sym (take_more t.poses p no_pose below))

pub places_more : (out : List ℕ) (t : PlanTable) (p : ℕ) → p < place_count t
    → (out ++ map place_byte (take p t.places)) ++ place_byte (place_row t p) ∷ []
    ≡ out ++ map place_byte (take (p + 1) t.places)
places_more out t p below =
    append_assoc out (map place_byte (take p t.places)) (place_byte (place_row t p) ∷ [])
    ∙ ap (λ bytes. out ++ bytes) (sym (map-append place_byte (take p t.places) (place_row t p ∷ [])))
    ∙ ap (λ rows. out ++ map place_byte rows) (sym (take_more t.places p no_place below))
