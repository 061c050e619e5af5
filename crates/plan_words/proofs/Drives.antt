-- What a done call tells, by words.
use Rattle.std.proofs.Common.{◌≡◌, ℕ, ◌<◌, inl, inr, Bool, true, false, ◌&&◌, nat_eq, nat_lt, length, Option, Some, None, option_map, refl, sym, subst, ap, ◌∙◌, if◌then◌else◌, ltb-true, IsTrue}
use Rattle.std.specs.Option.{option_eq}
use Rattle.std.proofs.lemmas.Bool.{eqb-true, and_parts, false_from_ne_true}
use Rattle.std.proofs.lemmas.Option.{same_Some}
use Rattle.plan_types.specs.declared.posture.Posture.{Posture}
use Rattle.plan_types.specs.declared.posture.Posture.TheVariants.{OpenIn, OpenOut}
use Rattle.plan_types.specs.declared.table.Way.{Way}
use Rattle.plan_types.specs.declared.table.PlanZone.{PlanZone}
use Rattle.plan_types.specs.declared.table.PlanPlace.{PlanPlace}
use Rattle.plan_types.specs.declared.call.Call.{Call}
use Rattle.plan_types.specs.declared.call.Call.TheVariants.{Claim, Give, Yield, Take, Release, SetPose, Inquire, Stop, Resume, Advance}
use Rattle.plan_types.specs.Same.{same_posture}
use Rattle.plan_types.specs.Below.{any_below}
use Rattle.plan_types.specs.Table.{PlanTable, zone_count, pose_count, place_count, host_of, guest_of, zone_row, posture_of, is_hosted, is_moving_pose, is_place_of, keeper_of, is_source, is_sink, same_space}
use Rattle.plan_types.specs.Plan.{IsPlan, leads}
use Rattle.plan_rules.proofs.lemmas.Puts.{nat_eq-apart}
use Rattle.plan_motors.specs.declared.motor.Motor.{Motor}
use Rattle.plan_motors.specs.declared.motor.ZoneNeed.{ZoneNeed}
use Rattle.plan_motors.specs.Motor.{need_of, place_need}
use Rattle.plan_drives.specs.Facts.{way_given, way_taken, gives, some_gives, one_way, posture_owned, zone_owned, zone_left, zone_given, zone_taken, zone_posed, zone_facts, begins_at, ends_at, place_turned, place_facts}
use Rattle.plan_words.specs.Group.{Group, zone_out, pose_out, place_out, HasPose, IsGroup, IsTableOf, way_out}
use Rattle.plan_words.specs.Words.{call_out, IsCallOf}
use Rattle.plan_words.specs.Run.{Word, IsLaidOut}
use Rattle.plan_words.specs.Drives.{IsKnownIn, CallsTellAlike, IsOwn, OthersAreToldNothing, BackedByWords}
use Rattle.plan_drives.specs.Program.{Backs, zone_follows, place_follows}
use Rattle.plan_words.specs.Motors.{motor_in}
use Rattle.plan_words.proofs.Below.{Rising, Misses, tests_alike}
use Rattle.plan_words.proofs.Spaces.{same_space_out, other_space, space_turned}
use Rattle.plan_words.proofs.Answers.{number_same, host_same, guest_same}
use Rattle.plan_words.proofs.Motors.{hosted_part, need_in, place_need_in}
use Rattle.plan_words.proofs.States.{Apart}
use Rattle.plan_words.proofs.Runs.{apart}

none_or : {A : Type 0} (o : Option A) → ((a : A) → o ≡ Some a → ⊥) → o ≡ None
none_or None h = refl
none_or (Some a) h = absurd (h a refl)

-- ---- which poses of the plan give a zone a posture: those of its word

gives_none : (o : Option Posture) (q : Posture) → o ≡ None → option_eq same_posture o (Some q) ≡ false
gives_none o q e = ap (λ x. option_eq same_posture x (Some q)) e

some_gives_same : (t : PlanTable) (count : ℕ) (words : ℕ → Word) → IsLaidOut t count words → (n i : ℕ) (q : Posture) → n < count → i < length (words n).group.zones
    → some_gives t (zone_out (words n).group i) q ≡ some_gives (words n).table i q
some_gives_same t count words is n i q l h =
    let g = (words n).group in
    let u = (words n).table in
    let k = is.group n l in
    let b = is.table n l in
    let z = zone_out g i in
    let rising : Rising (pose_out g) (length g.poses) (pose_count t) = record { rises = k.poses.rises; below = k.poses.below } in
    tests_alike (gives t z q) (gives u i q) (pose_out g) (pose_count t) (length g.poses) rising
    (λ p m. ap (λ o. option_eq same_posture o (Some q)) (b.gives p i m h))
    (λ p m miss. gives_none (posture_of t p z) q (none_or (posture_of t p z) (λ r e.
    let at = is.pose_somewhere p m in
    let has = (is.group at.0 at.1).by_pose p z at.2 (k.zones.below i h) (inl (r, e)) in
    let same : at.0 ≡ n = is.one_word_a_zone at.0 n z at.1 l has (i, h, refl) in
    let here : HasPose g p = subst (λ j. HasPose (words j).group p) same at.2 in
    miss here.0 here.1 here.2)))
    ∙ ap (any_below (gives u i q)) (sym b.pose_count)

-- ---- zones

if_same : {A : Type 0} (b c : Bool) (x y v w : A) → b ≡ c → x ≡ v → y ≡ w → (if b then x else y) ≡ (if c then v else w)
if_same b c x y v w e f g = ap (λ d. if d then x else y) e ∙ (ap (λ a. if c then a else y) f ∙ ap (λ a. if c then v else a) g)

owned_same : (t : PlanTable) (count : ℕ) (words : ℕ → Word) → IsLaidOut t count words → (n m i : ℕ) → n < count → i < length (words n).group.zones
    → posture_owned t m (zone_out (words n).group i) ≡ posture_owned (words n).table m i
owned_same t count words is n m i l h =
    if_same _ _ _ _ _ _ (ap (nat_eq m) (guest_same t (words n).group (words n).table (is.table n l) i h))
    (ap (λ a. one_way a (some_gives t (zone_out (words n).group i) OpenOut)) (some_gives_same t count words is n i OpenIn l h)
    ∙ ap (one_way (some_gives (words n).table i OpenIn)) (some_gives_same t count words is n i OpenOut l h)) refl

zones_alike : (t : PlanTable) (count : ℕ) (words : ℕ → Word) → IsLaidOut t count words → (n : ℕ) (known whole : Motor) (c : Call) → n < count → IsKnownIn (words n).group known whole
    → IsCallOf (words n).group c → (i : ℕ) → i < length (words n).group.zones
    → zone_facts t whole (call_out (words n).group c) (zone_out (words n).group i) ≡ zone_facts (words n).table known c i
zones_alike t count words is n known whole (Claim y) l k of i h =
    let g = (words n).group in
    let told = owned_same t count words is n whole.machine i l h ∙ ap (λ m. posture_owned (words n).table m i) k.machine in
    if_same _ _ _ _ _ _ (same_space_out t g (words n).table (is.group n l) (is.table n l) y i of h) (ap (λ x. zone_owned x (need_of whole (zone_out g i))) told ∙ ap (zone_owned (posture_owned (words n).table known.machine i)) (k.zone i h)) (k.zone i h)
zones_alike t count words is n known whole (Give y) l k of i h =
    let g = (words n).group in
    let hosted = hosted_part t g (words n).table (is.group n l) (is.table n l) whole.machine i h ∙ ap (is_hosted (words n).table i) k.machine in
    if_same _ _ _ _ _ _ (same_space_out t g (words n).table (is.group n l) (is.table n l) y i of h)
    (ap (λ b. zone_given b (is_hosted t (zone_out g i) whole.machine) (need_of whole (zone_out g i))) (number_same g.zones (zone_count t) y i (is.group n l).zones of h)
    ∙ (ap (λ b. zone_given (nat_eq y i) b (need_of whole (zone_out g i))) hosted ∙ ap (zone_given (nat_eq y i) (is_hosted (words n).table i known.machine)) (k.zone i h))) (k.zone i h)
zones_alike t count words is n known whole (Yield y) l k of i h =
    let g = (words n).group in
    let hosted = hosted_part t g (words n).table (is.group n l) (is.table n l) whole.machine i h ∙ ap (is_hosted (words n).table i) k.machine in
    if_same _ _ _ _ _ _ (same_space_out t g (words n).table (is.group n l) (is.table n l) y i of h) (ap (λ b. zone_left b (need_of whole (zone_out g i))) hosted ∙ ap (zone_left (is_hosted (words n).table i known.machine)) (k.zone i h)) (k.zone i h)
zones_alike t count words is n known whole (Release y) l k of i h =
    let g = (words n).group in
    let hosted = hosted_part t g (words n).table (is.group n l) (is.table n l) whole.machine i h ∙ ap (is_hosted (words n).table i) k.machine in
    if_same _ _ _ _ _ _ (same_space_out t g (words n).table (is.group n l) (is.table n l) y i of h) (ap (λ b. zone_left b (need_of whole (zone_out g i))) hosted ∙ ap (zone_left (is_hosted (words n).table i known.machine)) (k.zone i h)) (k.zone i h)
zones_alike t count words is n known whole (Take y) l k of i h =
    let g = (words n).group in
    let host = host_same t g (words n).table (is.table n l) i h in
    if_same _ _ _ _ _ _ (same_space_out t g (words n).table (is.group n l) (is.table n l) y i of h)
    (ap (λ b. zone_taken b (if nat_eq whole.machine (host_of t (zone_out g i)) then OpenIn else OpenOut) (need_of whole (zone_out g i))) (number_same g.zones (zone_count t) y i (is.group n l).zones of h)
    ∙ (ap (λ m. zone_taken (nat_eq y i) (if nat_eq m (host_of t (zone_out g i)) then OpenIn else OpenOut) (need_of whole (zone_out g i))) k.machine
    ∙ (ap (λ x. zone_taken (nat_eq y i) (if nat_eq known.machine x then OpenIn else OpenOut) (need_of whole (zone_out g i))) host
    ∙ ap (zone_taken (nat_eq y i) (if nat_eq known.machine (host_of (words n).table i) then OpenIn else OpenOut)) (k.zone i h)))) (k.zone i h)
zones_alike t count words is n known whole (SetPose p) l k of i h =
    let g = (words n).group in
    let b = is.table n l in
    let hosted = hosted_part t g (words n).table (is.group n l) b whole.machine i h ∙ ap (is_hosted (words n).table i) k.machine in
    ap (λ x. zone_posed (x && is_hosted t (zone_out g i) whole.machine) (posture_of t (pose_out g p) (zone_out g i)) (need_of whole (zone_out g i))) (b.moves p of)
    ∙ (ap (λ x. zone_posed (is_moving_pose (words n).table p && x) (posture_of t (pose_out g p) (zone_out g i)) (need_of whole (zone_out g i))) hosted
    ∙ (ap (λ x. zone_posed (is_moving_pose (words n).table p && is_hosted (words n).table i known.machine) x (need_of whole (zone_out g i))) (b.gives p i of h)
    ∙ ap (zone_posed (is_moving_pose (words n).table p && is_hosted (words n).table i known.machine) (posture_of (words n).table p i)) (k.zone i h)))
zones_alike t count words is n known whole (Inquire y) l k of i h = k.zone i h
zones_alike t count words is n known whole Stop l k of i h = k.zone i h
zones_alike t count words is n known whole Resume l k of i h = k.zone i h
zones_alike t count words is n known whole (Advance y) l k of i h = k.zone i h

-- ---- places

map_if : {A B : Type 0} (f : A → B) (b : Bool) (x y : Option A) → (if b then option_map f x else option_map f y) ≡ option_map f (if b then x else y)
map_if f true x y = refl
map_if f false x y = refl

given_same : (t : PlanTable) (g : Group) (u : PlanTable) → IsTableOf t g u → (m y : ℕ) → y < length g.zones → way_given t m (zone_out g y) ≡ option_map (way_out g) (way_given u m y)
given_same t g u b m y l = ap (λ (r : PlanZone). if nat_eq m r.host then r.outward else r.inward) (b.zone y l) ∙ map_if (way_out g) (nat_eq m (host_of u y)) (zone_row u y).outward (zone_row u y).inward

taken_same : (t : PlanTable) (g : Group) (u : PlanTable) → IsTableOf t g u → (m y : ℕ) → y < length g.zones → way_taken t m (zone_out g y) ≡ option_map (way_out g) (way_taken u m y)
taken_same t g u b m y l = ap (λ (r : PlanZone). if nat_eq m r.host then r.inward else r.outward) (b.zone y l) ∙ map_if (way_out g) (nat_eq m (host_of u y)) (zone_row u y).inward (zone_row u y).outward

-- the ends of a way
abbrev pub Within : PlanTable → Option Way → Type 0
Within u w = (way : Way) → w ≡ Some way → (way.from < place_count u) × (way.to < place_count u)

within_by : (u : PlanTable) (giver receiver : ℕ) (w : Option Way) → leads u giver receiver w ≡ true → Within u w
within_by u giver receiver None e way is = cc
within_by u giver receiver (Some w) e way is =
    let same : w ≡ way = same_Some w way is in
    let parts = and_parts (is_place_of u w.from giver) (is_place_of u w.to receiver) e in
    let from : w.from < place_count u = ltb-true _ _ (and_parts (nat_lt w.from (place_count u)) (nat_eq (keeper_of u w.from) giver) parts.0).0 in
    let to : w.to < place_count u = ltb-true _ _ (and_parts (nat_lt w.to (place_count u)) (nat_eq (keeper_of u w.to) receiver) parts.1).0 in
    (subst (λ (x : Way). x.from < place_count u) same from, subst (λ (x : Way). x.to < place_count u) same to)

within_if : (u : PlanTable) (b : Bool) (x y : Option Way) → Within u x → Within u y → Within u (if b then x else y)
within_if u true x y f g = f
within_if u false x y f g = g

given_within : (u : PlanTable) → IsPlan u → (m y : ℕ) → y < zone_count u → Within u (way_given u m y)
given_within u p m y l = within_if u (nat_eq m (host_of u y)) (zone_row u y).outward (zone_row u y).inward (within_by u (host_of u y) (guest_of u y) (zone_row u y).outward (p.outward_to_guest y l)) (within_by u (guest_of u y) (host_of u y) (zone_row u y).inward (p.inward_to_host y l))

taken_within : (u : PlanTable) → IsPlan u → (m y : ℕ) → y < zone_count u → Within u (way_taken u m y)
taken_within u p m y l = within_if u (nat_eq m (host_of u y)) (zone_row u y).inward (zone_row u y).outward (within_by u (guest_of u y) (host_of u y) (zone_row u y).inward (p.inward_to_host y l)) (within_by u (host_of u y) (guest_of u y) (zone_row u y).outward (p.outward_to_guest y l))

begins_same : (t : PlanTable) (g : Group) (u : PlanTable) → IsGroup t g → IsTableOf t g u → (w : Option Way) (j : ℕ) → Within u w → j < length g.places → begins_at (option_map (way_out g) w) (place_out g j) ≡ begins_at w j
begins_same t g u k b None j in_group l = refl
begins_same t g u k b (Some way) j in_group l = number_same g.places (place_count t) way.from j k.places (subst (λ n. way.from < n) b.place_count (in_group way refl).0) l

ends_same : (t : PlanTable) (g : Group) (u : PlanTable) → IsGroup t g → IsTableOf t g u → (w : Option Way) (j : ℕ) → Within u w → j < length g.places → ends_at (option_map (way_out g) w) (place_out g j) ≡ ends_at w j
ends_same t g u k b None j in_group l = refl
ends_same t g u k b (Some way) j in_group l = number_same g.places (place_count t) way.to j k.places (subst (λ n. way.to < n) b.place_count (in_group way refl).1) l

there : (t : PlanTable) (g : Group) (u : PlanTable) → IsTableOf t g u → (y : ℕ) → y < length g.zones → y < zone_count u
there t g u b y l = subst (λ n. y < n) (sym b.zone_count) l

places_alike : (t : PlanTable) (g : Group) (u : PlanTable) → IsGroup t g → IsTableOf t g u → IsPlan u → (known whole : Motor) (c : Call) → IsKnownIn g known whole → IsCallOf g c → (j : ℕ) → j < length g.places
    → place_facts t whole (call_out g c) (place_out g j) ≡ place_facts u known c j
places_alike t g u k b p known whole (Give y) f of j h =
    let way = given_same t g u b whole.machine y of ∙ ap (λ m. option_map (way_out g) (way_given u m y)) f.machine in
    if_same _ _ _ _ _ _ (ap (λ w. begins_at w (place_out g j)) way ∙ begins_same t g u k b (way_given u known.machine y) j (given_within u p known.machine y (there t g u b y of)) h) refl (f.place j h)
places_alike t g u k b p known whole (Take y) f of j h =
    let way = taken_same t g u b whole.machine y of ∙ ap (λ m. option_map (way_out g) (way_taken u m y)) f.machine in
    if_same _ _ _ _ _ _ (ap (λ w. ends_at w (place_out g j)) way ∙ ends_same t g u k b (way_taken u known.machine y) j (taken_within u p known.machine y (there t g u b y of)) h) refl (f.place j h)
places_alike t g u k b p known whole (Claim y) f of j h = f.place j h
places_alike t g u k b p known whole (Yield y) f of j h = f.place j h
places_alike t g u k b p known whole (Release y) f of j h = f.place j h
places_alike t g u k b p known whole (SetPose y) f of j h = f.place j h
places_alike t g u k b p known whole (Inquire y) f of j h = f.place j h
places_alike t g u k b p known whole Stop f of j h = f.place j h
places_alike t g u k b p known whole Resume f of j h = f.place j h
places_alike t g u k b p known whole (Advance y) f of j h =
    let row = b.place y of in
    if_same _ _ _ _ _ _ (number_same g.places (place_count t) y j k.places of h)
    (ap (λ (r : PlanPlace). place_turned r.source r.sink (place_need whole (place_out g j))) row ∙ ap (place_turned (is_source u y) (is_sink u y)) (f.place j h)) (f.place j h)

pub calls_tell_alike : (t : PlanTable) (count : ℕ) (words : ℕ → Word) → IsLaidOut t count words → CallsTellAlike t count words
calls_tell_alike t count words is n known whole c l k of = record {
  zone = zones_alike t count words is n known whole c l k of;
  place = places_alike t (words n).group (words n).table (is.group n l) (is.table n l) (is.plan n l) known whole c k of;
}

-- ---- other words

space_apart : (t : PlanTable) (g h : Group) → IsGroup t g → IsGroup t h → Apart g h → (y i : ℕ) → y < length g.zones → i < length h.zones → same_space t (zone_out g y) (zone_out h i) ≡ false
space_apart t g h k n a y i l m =
    let z = zone_out h i in
    let miss : Misses (zone_out g) (length g.zones) z = λ x b same. a.zones z (x, b, same) (i, m, refl) in
    space_turned t (zone_out g y) z ∙ other_space t g k y z l (n.zones.below i m) miss

if_not : {A : Type 0} (b : Bool) (x y : A) → b ≡ false → (if b then x else y) ≡ y
if_not b x y e = ap (λ c. if c then x else y) e

posed_nothing : (owned : Bool) (given : Option Posture) (known : ZoneNeed) → owned ≡ false → given ≡ None → zone_posed owned given known ≡ known
posed_nothing owned given known e f = ap (λ b. zone_posed b given known) e ∙ ap (λ o. zone_posed false o known) f

zones_untold : (t : PlanTable) (g h : Group) → IsGroup t g → IsGroup t h → Apart g h → (whole : Motor) (c : Call) → IsCallOf g c → IsOwn t g whole.machine c → (i : ℕ) → i < length h.zones
    → zone_facts t whole (call_out g c) (zone_out h i) ≡ need_of whole (zone_out h i)
zones_untold t g h k n a whole (Claim y) of own i m = if_not _ _ _ (space_apart t g h k n a y i of m)
zones_untold t g h k n a whole (Give y) of own i m = if_not _ _ _ (space_apart t g h k n a y i of m)
zones_untold t g h k n a whole (Yield y) of own i m = if_not _ _ _ (space_apart t g h k n a y i of m)
zones_untold t g h k n a whole (Take y) of own i m = if_not _ _ _ (space_apart t g h k n a y i of m)
zones_untold t g h k n a whole (Release y) of own i m = if_not _ _ _ (space_apart t g h k n a y i of m)
zones_untold t g h k n a whole (SetPose p) of own i m =
    let z = zone_out h i in
    let in_plan = n.zones.below i m in
    posed_nothing (is_moving_pose t (pose_out g p) && is_hosted t z whole.machine) (posture_of t (pose_out g p) z) (need_of whole z)
    (false_from_ne_true _ (λ e.
    let parts = and_parts (is_moving_pose t (pose_out g p)) (is_hosted t z whole.machine) e in
    let host = eqb-true _ _ (and_parts (nat_lt z (zone_count t)) (nat_eq (host_of t z) whole.machine) parts.1).1 in
    a.zones z (k.by_pose (pose_out g p) z (p, of, refl) in_plan (inr (inl parts.0, host ∙ sym own))) (i, m, refl)))
    (none_or (posture_of t (pose_out g p) z) (λ q e. a.zones z (k.by_pose (pose_out g p) z (p, of, refl) in_plan (inl (q, e))) (i, m, refl)))
zones_untold t g h k n a whole (Inquire y) of own i m = refl
zones_untold t g h k n a whole Stop of own i m = refl
zones_untold t g h k n a whole Resume of own i m = refl
zones_untold t g h k n a whole (Advance y) of own i m = refl

place_apart : (g h : Group) → Apart g h → (y j : ℕ) → y < length g.places → j < length h.places → nat_eq (place_out g y) (place_out h j) ≡ false
place_apart g h a y j l m = nat_eq-apart (place_out g y) (place_out h j) (λ e. a.places (place_out h j) (y, l, e) (j, m, refl))

begins_apart : (g h : Group) (u : PlanTable) → Apart g h → place_count u ≡ length g.places → (w : Option Way) (j : ℕ) → Within u w → j < length h.places → begins_at (option_map (way_out g) w) (place_out h j) ≡ false
begins_apart g h u a e None j in_group l = refl
begins_apart g h u a e (Some way) j in_group l = place_apart g h a way.from j (subst (λ n. way.from < n) e (in_group way refl).0) l

ends_apart : (g h : Group) (u : PlanTable) → Apart g h → place_count u ≡ length g.places → (w : Option Way) (j : ℕ) → Within u w → j < length h.places → ends_at (option_map (way_out g) w) (place_out h j) ≡ false
ends_apart g h u a e None j in_group l = refl
ends_apart g h u a e (Some way) j in_group l = place_apart g h a way.to j (subst (λ n. way.to < n) e (in_group way refl).1) l

places_untold : (t : PlanTable) (g h : Group) (u : PlanTable) → IsTableOf t g u → IsPlan u → Apart g h → (whole : Motor) (c : Call) → IsCallOf g c → (j : ℕ) → j < length h.places
    → place_facts t whole (call_out g c) (place_out h j) ≡ place_need whole (place_out h j)
places_untold t g h u b p a whole (Give y) of j m =
    if_not _ _ _ (ap (λ w. begins_at w (place_out h j)) (given_same t g u b whole.machine y of) ∙ begins_apart g h u a b.place_count (way_given u whole.machine y) j (given_within u p whole.machine y (there t g u b y of)) m)
places_untold t g h u b p a whole (Take y) of j m =
    if_not _ _ _ (ap (λ w. ends_at w (place_out h j)) (taken_same t g u b whole.machine y of) ∙ ends_apart g h u a b.place_count (way_taken u whole.machine y) j (taken_within u p whole.machine y (there t g u b y of)) m)
places_untold t g h u b p a whole (Claim y) of j m = refl
places_untold t g h u b p a whole (Yield y) of j m = refl
places_untold t g h u b p a whole (Release y) of j m = refl
places_untold t g h u b p a whole (SetPose y) of j m = refl
places_untold t g h u b p a whole (Inquire y) of j m = refl
places_untold t g h u b p a whole Stop of j m = refl
places_untold t g h u b p a whole Resume of j m = refl
places_untold t g h u b p a whole (Advance y) of j m = if_not _ _ _ (place_apart g h a y j of m)

pub others_are_told_nothing : (t : PlanTable) (count : ℕ) (words : ℕ → Word) → IsLaidOut t count words → OthersAreToldNothing t count words
others_are_told_nothing t count words is n k whole c l m ne of own =
    let a = apart t count words is n k l m ne in
    record {
      zone = zones_untold t (words n).group (words k).group (is.group n l) (is.group k m) a whole c of own;
      place = places_untold t (words n).group (words k).group (words n).table (is.table n l) (is.plan n l) a whole c of;
    }

-- ---- what follows from what is known

backs_part : (t : PlanTable) (g : Group) (u : PlanTable) → IsGroup t g → IsTableOf t g u → (known whole motor : Motor) → IsKnownIn g known whole → Backs t whole motor → Backs u known (motor_in g motor)
backs_part t g u k b known whole motor f x = record {
  machine = x.machine ∙ f.machine;
  zones = λ i l.
      let h = subst (λ n. i < n) b.zone_count l in
      subst (λ n. IsTrue (zone_follows n (need_of (motor_in g motor) i))) (f.zone i h)
      (subst (λ n. IsTrue (zone_follows (need_of whole (zone_out g i)) n)) (sym (need_in g motor i h)) (x.zones (zone_out g i) (k.zones.below i h)));
  places = λ j l.
      let h = subst (λ n. j < n) b.place_count l in
      subst (λ n. IsTrue (place_follows n (place_need (motor_in g motor) j))) (f.place j h)
      (subst (λ n. IsTrue (place_follows (place_need whole (place_out g j)) n)) (sym (place_need_in g motor j h)) (x.places (place_out g j) (k.places.below j h)));
}

pub backed_by_words : (t : PlanTable) (count : ℕ) (words : ℕ → Word) → IsLaidOut t count words → BackedByWords t count words
backed_by_words t count words is known whole motor f own = (
  λ x n l. backs_part t (words n).group (words n).table (is.group n l) (is.table n l) (known n) whole motor (f n l) x,
  λ each. record {
    machine = own;
    zones = λ z l.
        let at = is.zone_somewhere z l in
        let n = at.0 in
        let i = at.2.0 in
        let g = (words n).group in
        let here = (each n at.1).zones i (subst (λ x. i < x) (sym (is.table n at.1).zone_count) at.2.1) in
        subst (λ y. IsTrue (zone_follows (need_of whole y) (need_of motor y))) at.2.2
        (subst (λ m. IsTrue (zone_follows m (need_of motor (zone_out g i)))) (sym ((f n at.1).zone i at.2.1))
        (subst (λ m. IsTrue (zone_follows (need_of (known n) i) m)) (need_in g motor i at.2.1) here));
    places = λ p l.
        let at = is.place_somewhere p l in
        let n = at.0 in
        let j = at.2.0 in
        let g = (words n).group in
        let here = (each n at.1).places j (subst (λ x. j < x) (sym (is.table n at.1).place_count) at.2.1) in
        subst (λ y. IsTrue (place_follows (place_need whole y) (place_need motor y))) at.2.2
        (subst (λ m. IsTrue (place_follows m (place_need motor (place_out g j)))) (sym ((f n at.1).place j at.2.1))
        (subst (λ m. IsTrue (place_follows (place_need (known n) j) m)) (place_need_in g motor j at.2.1) here));
  },
)
