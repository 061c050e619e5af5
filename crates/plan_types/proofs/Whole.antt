-- The bytes of all tables, cut into the rows of each.
use Rattle.std.proofs.Common.{◌≡◌, ℕ, ◌+◌, ◌*◌, ◌≤◌, List, [], ◌∷◌, ◌++◌, length, get_or, take, drop, All, flat_map, map}
use Rattle.std.proofs.Common.{refl, sym, ◌∙◌, ap, arith, append_assoc, length-append}
use Rattle.std.proofs.lemmas.List.{take_at, drop_at, take-append-drop, length-take, length-drop, drop-drop, length-map}
use Rattle.plan_types.specs.declared.table.PlanZone.{PlanZone}
use Rattle.plan_types.specs.declared.table.PlanPose.{PlanPose}
use Rattle.plan_types.specs.Table.{PlanTable, whole_table}
use Rattle.plan_types.specs.Plan.{IsPlan}
use Rattle.plan_types.specs.Bytes.{bytes_of, zone_bytes, pose_bytes, place_byte, HasWholeRows, HasNarrowPlaces, IsForTenZones}
use Rattle.plan_types.specs.declared.read.Parts.{Parts}
use Rattle.plan_types.specs.Parts.{IsPartsOf}
use Rattle.plan_types.proofs.PlaceBytes.{same_places}
use Rattle.plan_types.proofs.Reading.{rows_length, one_reading}
use Rattle.plan_types.proofs.Same.{zone_width, pose_width, same_zone, same_pose}

pub zones_length : (zones : List PlanZone) → length (flat_map zone_bytes zones) ≡ 8 * length zones
zones_length zones = rows_length zone_bytes (λ _. Unit {0}) 8 zone_width zones (λ k d below. tt)

pub poses_length : (poses : List PlanPose) → All IsForTenZones poses
    → length (flat_map pose_bytes poses) ≡ 12 * length poses
poses_length poses all = rows_length pose_bytes IsForTenZones 12 pose_width poses all

-- what stands where
pub record IsCut (t : PlanTable) (machines zones poses places : ℕ) (rows : List ℕ) : Type 0 where
  pub machine_count : t.machines ≡ machines
  pub zone_rows : flat_map zone_bytes t.zones ≡ take (8 * zones) rows
  pub pose_rows : flat_map pose_bytes t.poses ≡ take (12 * poses) (drop (8 * zones) rows)
  pub place_rows : map place_byte t.places ≡ drop (8 * zones + 12 * poses) rows
  pub long : length rows ≡ 8 * zones + 12 * poses + places

pub cut : (t : PlanTable) (machines zones poses places : ℕ) (rows : List ℕ) → HasWholeRows t
    → bytes_of t ≡ machines ∷ zones ∷ poses ∷ places ∷ rows → IsCut t machines zones poses places rows
cut t machines zones poses places rows whole e =
    let z = flat_map zone_bytes t.zones in
    let p = flat_map pose_bytes t.poses in
    let count : length t.zones ≡ zones = cc in
    let pose_count : length t.poses ≡ poses = cc in
    let place_count : length t.places ≡ places = cc in
    let k = map place_byte t.places in
    let kl : length k ≡ length t.places = length-map t.places place_byte in
    let all : z ++ p ++ k ≡ rows = cc in
    let apart : z ++ (p ++ k) ≡ rows = sym (append_assoc z p k) ∙ all in
    let zl : length z ≡ 8 * zones = zones_length t.zones ∙ ap (λ n. 8 * n) count in
    let pl : length p ≡ 12 * poses = poses_length t.poses whole ∙ ap (λ n. 12 * n) pose_count in
    let zpl : length (z ++ p) ≡ 8 * zones + 12 * poses = omega (arith, zl, pl, length-append z p) in
    let after : p ++ k ≡ drop (8 * zones) rows =
    sym (drop_at z (p ++ k) (8 * zones) zl) ∙ ap (λ xs. drop (8 * zones) xs) apart in
    let length_is : length (z ++ p ++ k) ≡ length rows = ap length all in
    record {
      machine_count = cc;
      zone_rows = sym (take_at z (p ++ k) (8 * zones) zl) ∙ ap (λ xs. take (8 * zones) xs) apart;
      pose_rows = sym (take_at p k (12 * poses) pl) ∙ ap (λ xs. take (12 * poses) xs) after;
      place_rows = sym (drop_at (z ++ p) k (8 * zones + 12 * poses) zpl)
          ∙ ap (λ xs. drop (8 * zones + 12 * poses) xs) all;
      long = omega (arith, zpl, length_is, place_count, kl, length-append (z ++ p) k);
    }

pub uncut : (t : PlanTable) (machines zones poses places : ℕ) (rows : List ℕ) → HasWholeRows t
    → IsCut t machines zones poses places rows → bytes_of t ≡ machines ∷ zones ∷ poses ∷ places ∷ rows
uncut t machines zones poses places rows whole is =
    let z = flat_map zone_bytes t.zones in
    let p = flat_map pose_bytes t.poses in
    let zl = zones_length t.zones in
    let pl = poses_length t.poses whole in
    let zs : length z ≡ length (take (8 * zones) rows) = ap length is.zone_rows in
    let ps : length p ≡ length (take (12 * poses) (drop (8 * zones) rows)) = ap length is.pose_rows in
    let k = map place_byte t.places in
    let kl : length k ≡ length t.places = length-map t.places place_byte in
    let ks : length k ≡ length (drop (8 * zones + 12 * poses) rows) = ap length is.place_rows in
    let rest = drop (8 * zones) rows in
    let count : length t.zones ≡ zones = omega (arith, zl, zs, is.long, length-take (8 * zones) rows) in
    let rest_long = length-drop (8 * zones) rows in
    let pose_count : length t.poses ≡ poses =
    omega (arith, pl, ps, is.long, rest_long, length-take (12 * poses) rest) in
    let place_count : length t.places ≡ places =
    omega (arith, kl, ks, is.long, length-drop (8 * zones + 12 * poses) rows) in
    let place_rows = is.place_rows ∙ sym (drop-drop (12 * poses) (8 * zones) rows) in
    let after : p ++ k ≡ rest =
    ap (λ xs. xs ++ k) is.pose_rows ∙ ap (λ xs. take (12 * poses) rest ++ xs) place_rows
    ∙ take-append-drop (12 * poses) rest in
    let all : z ++ p ++ k ≡ rows =
    append_assoc z p k ∙ ap (λ xs. z ++ xs) after ∙ ap (λ xs. xs ++ rest) is.zone_rows
    ∙ take-append-drop (8 * zones) rows in
    let machine_count = is.machine_count in
    cc

-- four counts, and what follows them
pub header : (bytes counts rows : List ℕ) → counts ≡ take 4 bytes → rows ≡ drop 4 bytes
    → length rows + 4 ≡ length bytes
    → bytes ≡ get_or counts 0 0 ∷ get_or counts 1 0 ∷ get_or counts 2 0 ∷ get_or counts 3 0 ∷ rows
header [] counts rows c r l = absurd (omega (arith, l))
header (a ∷ []) counts rows c r l = absurd (omega (arith, l))
header (a ∷ b ∷ []) counts rows c r l = absurd (omega (arith, l))
header (a ∷ b ∷ d ∷ []) counts rows c r l = absurd (omega (arith, l))
header (a ∷ b ∷ d ∷ e ∷ rest) counts rows c r l = rw (c, r) refl

-- tables with the same rows are the same
pub one_table : (parts : Parts) (t u : PlanTable) → HasWholeRows t → HasWholeRows u → HasNarrowPlaces t
    → HasNarrowPlaces u → IsPartsOf parts t → IsPartsOf parts u → t ≡ u
one_table parts t u whole_t whole_u narrow_t narrow_u is_t is_u =
    let machines : t.machines ≡ u.machines = is_t.machines ∙ sym is_u.machines in
    let zones : t.zones ≡ u.zones =
    one_reading zone_bytes (λ _. Unit {0}) 7 zone_width (λ x y _ _ e. same_zone x y e) u.zones t.zones
    (λ k d below. tt) (λ k d below. tt) (is_t.zones ∙ sym is_u.zones) in
    let poses : t.poses ≡ u.poses =
    one_reading pose_bytes IsForTenZones 11 pose_width (λ x y _ _ e. same_pose x y e) u.poses t.poses
    whole_u whole_t (is_t.poses ∙ sym is_u.poses) in
    let places : t.places ≡ u.places =
    same_places t.places u.places narrow_t narrow_u (is_t.places ∙ sym is_u.places) in
    grind arith

-- a plan's rows have no more bytes than a sheet has room for
pub parts_fit : (parts : Parts) (t : PlanTable) → IsPlan t → HasWholeRows t → IsPartsOf parts t
    → (length parts.zones.now ≤ 80) × (length parts.poses.now ≤ 768) × (length parts.places.now ≤ 16)
parts_fit parts t plan whole is =
    let zones : length parts.zones.now ≡ 8 * length t.zones = sym (ap length is.zones) ∙ zones_length t.zones in
    let poses : length parts.poses.now ≡ 12 * length t.poses = sym (ap length is.poses) ∙ poses_length t.poses whole in
    let places : length t.places ≡ length parts.places.now =
    sym (length-map t.places place_byte) ∙ ap length is.places in
    let zones_few : length t.zones ≤ 10 = plan.zones_at_most in
    let poses_few : length t.poses ≤ 64 = plan.poses_at_most in
    let places_few : length t.places ≤ 16 = plan.places_at_most in
    (omega (arith, zones, zones_few), omega (arith, poses, poses_few), omega (arith, places, places_few))

-- a sheet that was filled from parts has the rows of these parts
pub parts_read : (parts : Parts) (start first second last : PlanTable) → start ≡ whole_table parts.machines [] [] []
    → first ≡ whole_table start.machines first.zones start.poses start.places
    → flat_map zone_bytes first.zones ≡ parts.zones.now
    → second ≡ whole_table first.machines first.zones second.poses first.places
    → flat_map pose_bytes second.poses ≡ parts.poses.now
    → last ≡ whole_table second.machines second.zones second.poses last.places
    → map place_byte last.places ≡ parts.places.now → IsPartsOf parts last
parts_read parts start first second last s f zones g poses l places = record {
  machines = ap (λ (t : PlanTable). t.machines) l ∙ ap (λ (t : PlanTable). t.machines) g
      ∙ ap (λ (t : PlanTable). t.machines) f ∙ ap (λ (t : PlanTable). t.machines) s;
  zones = ap (λ (t : PlanTable). flat_map zone_bytes t.zones) l
      ∙ ap (λ (t : PlanTable). flat_map zone_bytes t.zones) g ∙ zones;
  poses = ap (λ (t : PlanTable). flat_map pose_bytes t.poses) l ∙ poses;
  places = places;
}
