-- What a sheet keeps: tables as bytes, and one row more.
use Rattle.std.proofs.Common.{◌≡◌, ℕ, ◌+◌, ◌*◌, ◌-◌, ◌%◌, ◌<◌, ◌≤◌, suc, Bool, true, false, not, nat_eq, nat_le, List, [], ◌∷◌, ◌++◌}
use Rattle.std.proofs.Common.{length, map, take, set, replicate, Option, Some, None}
use Rattle.std.proofs.Common.{refl, sym, ap, ap₂, ◌∙◌, subst, arith, length-append}
use Rattle.std.proofs.lemmas.List.{set_at, take_at, map-append, append_assoc, length-map}
use mir.Val.{bool_byte}
use Rattle.plan_types.specs.declared.posture.Posture.{Posture}
use Rattle.plan_types.specs.declared.posture.Posture.TheVariants.{Closed, Moving, OpenIn, OpenOut}
use Rattle.plan_types.specs.declared.table.Way.{Way}
use Rattle.plan_types.specs.declared.table.PlanZone.{PlanZone}
use Rattle.plan_types.specs.declared.table.PlanPose.{PlanPose}
use Rattle.plan_types.specs.declared.table.PlanPlace.{PlanPlace}
use Rattle.plan_types.specs.declared.sheet.Sheet.TheInside.{Inside}
use Rattle.plan_types.specs.Table.{PlanTable, whole_table, zone_count, pose_count, place_count, no_place}
use Rattle.plan_types.specs.Bytes.{way_byte, from_byte, to_byte, zone_bytes, posture_byte, pose_bytes}
use Rattle.plan_types.specs.Kept.{way_told, posture_told, zone_told, pose_told, table_in, filled, kept, IsKept}

-- ---- bytes tell the row that has them
way_back : (w : Option Way) → way_told (way_byte w) (from_byte w) (to_byte w) ≡ w
way_back None = refl
way_back (Some w) = refl

abbrev with_ways : PlanZone → Bool → Option Way → Option Way → PlanZone
with_ways z joins inward outward =
    record { host = z.host; guest = z.guest; joins = joins; inward = inward; outward = outward }

abbrev entrance : Option Way → Bool → ℕ
entrance w joins = way_byte w + 2 * bool_byte joins

joins_back : (w : Option Way) (joins : Bool) → nat_le 2 (entrance w joins) ≡ joins
joins_back None true = refl
joins_back None false = refl
joins_back (Some w) true = refl
joins_back (Some w) false = refl

inward_back : (w : Option Way) (joins : Bool) → way_told (entrance w joins % 2) (from_byte w) (to_byte w) ≡ w
inward_back None true = refl
inward_back None false = refl
inward_back (Some w) true = refl
inward_back (Some w) false = refl

zone_back : (z : PlanZone) → zone_told (zone_bytes z) ≡ z
zone_back z =
    ap₂ (λ joins outward. with_ways z joins (way_told (entrance z.inward z.joins % 2) (from_byte z.inward) (to_byte z.inward)) outward)
    (joins_back z.inward z.joins) (way_back z.outward)
    ∙ ap (λ inward. with_ways z z.joins inward z.outward) (inward_back z.inward z.joins)

posture_back : (q : Option Posture) → posture_told (posture_byte q) ≡ q
posture_back None = refl
posture_back (Some Closed) = refl
posture_back (Some Moving) = refl
posture_back (Some OpenIn) = refl
posture_back (Some OpenOut) = refl

postures_back : (gives : List (Option Posture)) → map posture_told (map posture_byte gives) ≡ gives
postures_back [] = refl
postures_back (q ∷ gives) = ap₂ (λ x xs. x ∷ xs) (posture_back q) (postures_back gives)

flag_back : (b : Bool) → not (nat_eq (bool_byte b) 0) ≡ b
flag_back true = refl
flag_back false = refl

abbrev with_parts : PlanPose → Bool → List (Option Posture) → PlanPose
with_parts p after_moving gives = record { machine = p.machine; after_moving = after_moving; gives = gives }

pose_back : (p : PlanPose) → pose_told (pose_bytes p) ≡ p
pose_back p = ap₂ (with_parts p) (flag_back p.after_moving) (postures_back p.gives)

-- ---- so do all rows, with blank ones after them
all_back : {A : Type 0} (bytes : A → List ℕ) (told : List ℕ → A) → ((x : A) → told (bytes x) ≡ x) → (xs : List A)
    → map told (map bytes xs) ≡ xs
all_back bytes told back [] = refl
all_back bytes told back (x ∷ xs) = ap₂ (λ y ys. y ∷ ys) (back x) (all_back bytes told back xs)

rows_back : {A : Type 0} (bytes : A → List ℕ) (told : List ℕ → A) → ((x : A) → told (bytes x) ≡ x)
    → (blank : List ℕ) (n : ℕ) (xs : List A) → take (length xs) (map told (filled (map bytes xs) blank n)) ≡ xs
rows_back bytes told back blank n xs =
    let rows = map bytes xs in
    let rest = replicate (n - length rows) blank in
    let same = all_back bytes told back xs in
    ap (λ l. take (length xs) l) (map-append told rows rest)
    ∙ take_at (map told rows) (map told rest) (length xs) (ap length same) ∙ same

table_back : (t : PlanTable) → table_in (kept t) ≡ t
table_back t =
    let zones = rows_back zone_bytes zone_told zone_back (replicate 8 0) 10 t.zones in
    let poses = rows_back pose_bytes pose_told pose_back (replicate 12 0) 64 t.poses in
    let places = take_at t.places (replicate (16 - length t.places) no_place) (place_count t) refl in
    let kept_poses = take (pose_count t) (map pose_told (kept t).poses) in
    let kept_places = take (place_count t) (kept t).places in
    ap (λ zs. whole_table t.machines zs kept_poses kept_places) zones
    ∙ ap (λ ps. whole_table t.machines t.zones ps kept_places) poses
    ∙ ap (λ ps. whole_table t.machines t.zones t.poses ps) places

is_kept : (a : Inside) (t : PlanTable) → zone_count t ≤ 10 → pose_count t ≤ 64 → place_count t ≤ 16 → kept t ≡ a
    → IsKept a × (table_in a ≡ t)
is_kept a t zones poses places same =
    let all : IsKept (kept t) = record {
      zones_fit = zones;
      poses_fit = poses;
      places_fit = places;
      as_bytes = ap kept (table_back t);
    } in
    subst (λ b. IsKept b × (table_in b ≡ t)) same (all, table_back t)

-- ---- one row more takes the place of the first blank one
filled_more : {A : Type 0} (rows : List A) (x blank : A) (n : ℕ) → length rows < n
    → filled (rows ++ x ∷ []) blank n ≡ set (filled rows blank n) (length rows) x
filled_more rows x blank n room =
    let long : length (rows ++ x ∷ []) ≡ length rows + 1 = length-append rows (x ∷ []) in
    let left = n - length (rows ++ x ∷ []) in
    let more : n - length rows ≡ suc left = omega (arith, room, long) in
    let rest = replicate left blank in
    let before : filled rows blank n ≡ rows ++ blank ∷ rest = ap (λ m. rows ++ replicate m blank) more in
    append_assoc rows (x ∷ []) rest ∙ sym (set_at rows blank rest x (length rows) refl)
    ∙ ap (λ l. set l (length rows) x) (sym before)

row_more : {A : Type 0} (bytes : A → List ℕ) (xs : List A) (x : A) (blank : List ℕ) (n : ℕ) → length xs < n
    → filled (map bytes (xs ++ x ∷ [])) blank n ≡ set (filled (map bytes xs) blank n) (length xs) (bytes x)
row_more bytes xs x blank n room =
    let rows = map bytes xs in
    let long : length rows ≡ length xs = length-map xs bytes in
    ap (λ l. filled l blank n) (map-append bytes xs (x ∷ []))
    ∙ filled_more rows (bytes x) blank n (omega (arith, room, long))
    ∙ ap (λ k. set (filled rows blank n) k (bytes x)) long

length_more : {A : Type 0} (xs : List A) (x : A) → length (xs ++ x ∷ []) ≡ length xs + 1
length_more xs x = length-append xs (x ∷ [])

-- ---- a sheet with a row more
abbrev zoned : Inside → ℕ → List (List ℕ) → Inside
zoned a count zones = record {
  machines = a.machines;
  zone_count = count;
  pose_count = a.pose_count;
  place_count = a.place_count;
  zones = zones;
  poses = a.poses;
  places = a.places;
}

abbrev posed : Inside → ℕ → List (List ℕ) → Inside
posed a count poses = record {
  machines = a.machines;
  zone_count = a.zone_count;
  pose_count = count;
  place_count = a.place_count;
  zones = a.zones;
  poses = poses;
  places = a.places;
}

abbrev placed : Inside → ℕ → List PlanPlace → Inside
placed a count places = record {
  machines = a.machines;
  zone_count = a.zone_count;
  pose_count = a.pose_count;
  place_count = count;
  zones = a.zones;
  poses = a.poses;
  places = places;
}

pub zone_kept : (a : Inside) → IsKept a → (z : PlanZone) (t : PlanTable) → table_in a ≡ t → zone_count t < 10
    → (row : List ℕ) → row ≡ zone_bytes z → (at : ℕ) → at ≡ a.zone_count
    → IsKept (zoned a (a.zone_count + 1) (set a.zones at row))
    × (table_in (zoned a (a.zone_count + 1) (set a.zones at row)) ≡ whole_table t.machines (t.zones ++ z ∷ []) t.poses t.places)
zone_kept a is z t told room row row_is at at_is =
    let same : kept t ≡ a = ap kept (sym told) ∙ is.as_bytes in
    let count : zone_count t ≡ a.zone_count = ap (λ (b : Inside). b.zone_count) same in
    let poses : pose_count t ≡ a.pose_count = ap (λ (b : Inside). b.pose_count) same in
    let places : place_count t ≡ a.place_count = ap (λ (b : Inside). b.place_count) same in
    let more = whole_table t.machines (t.zones ++ z ∷ []) t.poses t.places in
    let long = length_more t.zones z in
    let fields : kept more ≡ zoned (kept t) (zone_count t + 1) (set (kept t).zones (zone_count t) (zone_bytes z)) =
    ap₂ (zoned (kept t)) long (row_more zone_bytes t.zones z (replicate 8 0) 10 room) in
    let moved : zoned (kept t) (zone_count t + 1) (set (kept t).zones (zone_count t) (zone_bytes z))
    ≡ zoned a (a.zone_count + 1) (set a.zones a.zone_count (zone_bytes z)) =
    ap (λ (b : Inside). zoned b (b.zone_count + 1) (set b.zones b.zone_count (zone_bytes z))) same in
    let put = ap₂ (λ n r. zoned a (a.zone_count + 1) (set a.zones n r)) (sym at_is) (sym row_is) in
    is_kept _ more (omega (arith, room, long)) (omega (arith, poses, is.poses_fit)) (omega (arith, places, is.places_fit))
    (fields ∙ moved ∙ put)

pub pose_kept : (a : Inside) → IsKept a → (p : PlanPose) (t : PlanTable) → table_in a ≡ t → pose_count t < 64
    → (row : List ℕ) → row ≡ pose_bytes p → (at : ℕ) → at ≡ a.pose_count
    → IsKept (posed a (a.pose_count + 1) (set a.poses at row))
    × (table_in (posed a (a.pose_count + 1) (set a.poses at row)) ≡ whole_table t.machines t.zones (t.poses ++ p ∷ []) t.places)
pose_kept a is p t told room row row_is at at_is =
    let same : kept t ≡ a = ap kept (sym told) ∙ is.as_bytes in
    let zones : zone_count t ≡ a.zone_count = ap (λ (b : Inside). b.zone_count) same in
    let places : place_count t ≡ a.place_count = ap (λ (b : Inside). b.place_count) same in
    let more = whole_table t.machines t.zones (t.poses ++ p ∷ []) t.places in
    let long = length_more t.poses p in
    let fields : kept more ≡ posed (kept t) (pose_count t + 1) (set (kept t).poses (pose_count t) (pose_bytes p)) =
    ap₂ (posed (kept t)) long (row_more pose_bytes t.poses p (replicate 12 0) 64 room) in
    let moved : posed (kept t) (pose_count t + 1) (set (kept t).poses (pose_count t) (pose_bytes p))
    ≡ posed a (a.pose_count + 1) (set a.poses a.pose_count (pose_bytes p)) =
    ap (λ (b : Inside). posed b (b.pose_count + 1) (set b.poses b.pose_count (pose_bytes p))) same in
    let put = ap₂ (λ n r. posed a (a.pose_count + 1) (set a.poses n r)) (sym at_is) (sym row_is) in
    is_kept _ more (omega (arith, zones, is.zones_fit)) (omega (arith, room, long)) (omega (arith, places, is.places_fit))
    (fields ∙ moved ∙ put)

pub place_kept : (a : Inside) → IsKept a → (p : PlanPlace) (t : PlanTable) → table_in a ≡ t → place_count t < 16
    → (at : ℕ) → at ≡ a.place_count
    → IsKept (placed a (a.place_count + 1) (set a.places at p))
    × (table_in (placed a (a.place_count + 1) (set a.places at p)) ≡ whole_table t.machines t.zones t.poses (t.places ++ p ∷ []))
place_kept a is p t told room at at_is =
    let same : kept t ≡ a = ap kept (sym told) ∙ is.as_bytes in
    let zones : zone_count t ≡ a.zone_count = ap (λ (b : Inside). b.zone_count) same in
    let poses : pose_count t ≡ a.pose_count = ap (λ (b : Inside). b.pose_count) same in
    let more = whole_table t.machines t.zones t.poses (t.places ++ p ∷ []) in
    let long = length_more t.places p in
    let fields : kept more ≡ placed (kept t) (place_count t + 1) (set (kept t).places (place_count t) p) =
    ap₂ (placed (kept t)) long (filled_more t.places p no_place 16 room) in
    let moved : placed (kept t) (place_count t + 1) (set (kept t).places (place_count t) p)
    ≡ placed a (a.place_count + 1) (set a.places a.place_count p) =
    ap (λ (b : Inside). placed b (b.place_count + 1) (set b.places b.place_count p)) same in
    let put = ap (λ n. placed a (a.place_count + 1) (set a.places n p)) (sym at_is) in
    is_kept _ more (omega (arith, zones, is.zones_fit)) (omega (arith, poses, is.poses_fit)) (omega (arith, room, long))
    (fields ∙ moved ∙ put)
