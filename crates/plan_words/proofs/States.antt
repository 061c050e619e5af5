-- The states that calls leave: on the group's word, in the large plan, and of other words.
use Rattle.std.proofs.Common.{◌≡◌, ℕ, ◌<◌, inl, inr, Bool, true, false, ◌&&◌, ◌||◌, not, nat_eq, List, length, get_or, set, Option, Some, None, option_map, unwrap_or, refl, sym, subst, ap, ◌∙◌, arith, if◌then◌else◌}
use Rattle.std.specs.List.{range_with_len}
use Rattle.std.proofs.lemmas.List.{get_or-set_same, get_or-set_other, length-set, length-map}
use Rattle.std.proofs.lemmas.List.FromFn.{get_or-map-range_with_len, length-range_with_len}
use Rattle.plan_types.specs.declared.posture.Posture.{Posture}
use Rattle.plan_types.specs.declared.table.Transfer.{Transfer}
use Rattle.plan_types.specs.declared.answer.Answer.{Answer}
use Rattle.plan_types.specs.declared.answer.Answer.TheVariants.{Done, Shown, Refused}
use Rattle.plan_types.specs.declared.call.Call.{Call}
use Rattle.plan_types.specs.declared.call.Call.TheVariants.{Claim, Give, Yield, Take, Release, SetPose, Inquire, Stop, Resume, Advance}
use Rattle.plan_types.specs.Table.{PlanTable, zone_count, place_count, host_of, guest_of, posture_of, transfer_of}
use Rattle.plan_types.specs.Plan.{IsPlan}
use Rattle.plan_rules.specs.declared.state.ZoneState.{ZoneState}
use Rattle.plan_rules.specs.declared.state.State.{State}
use Rattle.plan_rules.specs.State.{zone_at, is_full, posture_at, free_zone}
use Rattle.plan_rules.specs.Sound.{IsSound}
use Rattle.plan_rules.specs.Refusals.{transfer_given}
use Rattle.plan_rules.specs.Reply.{next_by, other_party, handed, with_owner, posed, zones_after, places_after, emptied, filled}
use Rattle.plan_rules.proofs.lemmas.Puts.{same_or_not, zone_at-posed}
use Rattle.plan_rules.proofs.lemmas.Spaces.{handed_other, zone_at-handed}
use Rattle.plan_words.specs.Group.{Group, zone_out, pose_out, place_out, HasZone, HasPlace, Rises, IsGroup, IsTableOf, past}
use Rattle.plan_words.specs.Words.{call_out, IsCallOf, answer_out, IsIn, seen_by}
use Rattle.plan_words.specs.Run.{owner_left, zones_left, left_by}
use Rattle.plan_words.proofs.Answers.{Given, transfer_out, rising_apart, number_same, host_same, guest_same, transfer_same, transfer_given_same, some_given, ways_in}
use Rattle.plan_words.proofs.Poses.{posture_same}
use Rattle.plan_words.proofs.Below.{Misses}
use Rattle.plan_words.proofs.Spaces.{same_space_out, other_space, space_turned}

-- ---- one entry that is set, by both numbers

pub set_alike : {A : Type 0} (numbers : List ℕ) (n : ℕ) (there here : List A) (v w d : A) (i : ℕ) → Rises numbers n → i < length numbers → get_or numbers i past < length there → i < length here → v ≡ w
    → ((j : ℕ) → j < length numbers → get_or there (get_or numbers j past) d ≡ get_or here j d)
    → (j : ℕ) → j < length numbers → get_or (set there (get_or numbers i past) v) (get_or numbers j past) d ≡ get_or (set here i w) j d
set_alike numbers n there here v w d i r l in_there in_here e same j m =
    elim (same_or_not j i) [
      | inl s ↦
          let at_there = ap (λ x. get_or (set there (get_or numbers i past) v) (get_or numbers x past) d) s ∙ get_or-set_same there (get_or numbers i past) v d in_there in
          let at_here = ap (λ x. get_or (set here i w) x d) s ∙ get_or-set_same here i w d in_here in
          at_there ∙ (e ∙ sym at_here)
      | inr ne ↦
          get_or-set_other there (get_or numbers i past) (get_or numbers j past) v d (λ s. ne (rising_apart numbers n j i r m l s))
          ∙ (same j m ∙ sym (get_or-set_other here i j w d ne))
    ]

-- ---- lists that are long enough

pub record Room (t : PlanTable) (u : PlanTable) (s whole : State) : Type 0 where
  pub zones : length whole.zones ≡ zone_count t
  pub places : length whole.full ≡ place_count t
  pub sound : IsSound u s

-- a zone, and a place, of the group within the lists
zone_there : (t : PlanTable) (g : Group) (u : PlanTable) (s whole : State) → IsGroup t g → Room t u s whole → (i : ℕ) → i < length g.zones → zone_out g i < length whole.zones
zone_there t g u s whole k r i l = subst (λ n. zone_out g i < n) (sym r.zones) (k.zones.below i l)

place_there : (t : PlanTable) (g : Group) (u : PlanTable) (s whole : State) → IsGroup t g → Room t u s whole → (j : ℕ) → j < length g.places → place_out g j < length whole.full
place_there t g u s whole k r j l = subst (λ n. place_out g j < n) (sym r.places) (k.places.below j l)

zone_below : (t : PlanTable) (g : Group) (u : PlanTable) → IsTableOf t g u → IsPlan u → (i : ℕ) → i < length g.zones → i < 10
zone_below t g u b p i l = let e = b.zone_count in let h = p.zones_at_most in omega (arith, e, h, l)

zone_here : (t : PlanTable) (g : Group) (u : PlanTable) (s whole : State) → IsTableOf t g u → IsPlan u → Room t u s whole → (i : ℕ) → i < length g.zones → i < length s.zones
zone_here t g u s whole b p r i l = let e = r.sound.has_ten_zones in let h = zone_below t g u b p i l in omega (arith, e, h)

place_here : (t : PlanTable) (g : Group) (u : PlanTable) (s whole : State) → IsTableOf t g u → IsPlan u → Room t u s whole → (j : ℕ) → j < length g.places → j < length s.full
place_here t g u s whole b p r j l = let e = r.sound.has_sixteen_places in let h = p.places_at_most in let f = b.place_count in omega (arith, e, f, h, l)

-- ---- the group's own word

abbrev pub ZonesAlike : Group → List ZoneState → List ZoneState → Type 0
ZonesAlike g there here = (j : ℕ) → j < length g.zones → get_or there (zone_out g j) free_zone ≡ get_or here j free_zone

abbrev pub PlacesAlike : Group → List Bool → List Bool → Type 0
PlacesAlike g there here = (j : ℕ) → j < length g.places → get_or there (place_out g j) false ≡ get_or here j false

zone_set : (t : PlanTable) (g : Group) (u : PlanTable) (s whole : State) → Given t g u s whole → Room t u s whole → (i : ℕ) (v w : ZoneState) → i < length g.zones → v ≡ w
    → ZonesAlike g (set whole.zones (zone_out g i) v) (set s.zones i w)
zone_set t g u s whole k r i v w l e =
    set_alike g.zones (zone_count t) whole.zones s.zones v w free_zone i k.group.zones l (zone_there t g u s whole k.group r i l) (zone_here t g u s whole k.table k.plan r i l) e k.is_in.zone

other_same : (t : PlanTable) (g : Group) (u : PlanTable) → IsTableOf t g u → (m i : ℕ) → i < length g.zones → other_party t m (zone_out g i) ≡ other_party u m i
other_same t g u b m i l =
    ap (λ h. if nat_eq m h then guest_of t (zone_out g i) else h) (host_same t g u b i l) ∙ ap (λ n. if nat_eq m (host_of u i) then n else host_of u i) (guest_same t g u b i l)

-- a zone of the group that is handed over, or whose space is
abbrev pub handed_by : Bool → Option ℕ → Bool → ZoneState → ZoneState
handed_by space owner plate v = record { owner = if space then owner else v.owner; flag = plate || v.flag; posture = v.posture }

handed_alike : (v w : ZoneState) (b c e f : Bool) (o p : Option ℕ) → v ≡ w → b ≡ c → e ≡ f → o ≡ p → handed_by b o e v ≡ handed_by c p f w
handed_alike v w b c e f o p same space own to =
    ap (handed_by b o e) same ∙ (ap (λ d. handed_by d o e w) space ∙ (ap (λ d. handed_by c o d w) own ∙ ap (λ d. handed_by c d f w) to))

owner_alike : (t : PlanTable) (g : Group) (u : PlanTable) (s whole : State) → Given t g u s whole → Room t u s whole → (i : ℕ) (o p : Option ℕ) (plate : Bool) → i < length g.zones → o ≡ p
    → ZonesAlike g (owner_left t (seen_by s whole) (zone_out g i) o plate) (with_owner u s i p plate)
owner_alike t g u s whole k r i o p plate l e = λ j h.
    get_or-map-range_with_len (handed t (seen_by s whole) (zone_out g i) o plate) 0 (length whole.zones) (zone_out g j) (zone_out g j) free_zone (zone_there t g u s whole k.group r j h) (omega arith)
    ∙ (handed_alike (zone_at whole (zone_out g j)) (zone_at s j) _ _ _ _ o p (k.is_in.zone j h) (same_space_out t g u k.group k.table i j l h) (ap (λ b. plate && b) (number_same g.zones (zone_count t) j i k.group.zones h l)) e
    ∙ sym (zone_at-handed u s i p plate j (zone_below t g u k.table k.plan j h)))

posed_same : (v w : ZoneState) (a b : Posture) → v ≡ w → a ≡ b → (record v { posture = a }) ≡ (record w { posture = b })
posed_same v w a b e f = ap (λ (x : ZoneState). let y : ZoneState = record x { posture = a } in y) e ∙ ap (λ q. let y : ZoneState = record w { posture = q } in y) f

pub own_zones : (t : PlanTable) (g : Group) (u : PlanTable) (s whole : State) → Given t g u s whole → Room t u s whole → (m : ℕ) (c : Call) → IsCallOf g c
    → ZonesAlike g (zones_left t (seen_by s whole) m (call_out g c)) (zones_after u s m c)
own_zones t g u s whole k r m (Claim i) l = owner_alike t g u s whole k r i (Some m) (Some m) false l refl
own_zones t g u s whole k r m (Give i) l = owner_alike t g u s whole k r i _ _ true l (ap (λ n. Some n) (other_same t g u k.table m i l))
own_zones t g u s whole k r m (Yield i) l = owner_alike t g u s whole k r i _ _ false l (ap (λ n. Some n) (other_same t g u k.table m i l))
own_zones t g u s whole k r m (Take i) l = zone_set t g u s whole k r i _ _ l (ap (λ (x : ZoneState). let y : ZoneState = record x { flag = false } in y) (k.is_in.zone i l))
own_zones t g u s whole k r m (Release i) l = owner_alike t g u s whole k r i None None false l refl
own_zones t g u s whole k r m (SetPose p) l = λ j h.
    get_or-map-range_with_len (posed t (seen_by s whole) (pose_out g p)) 0 (length whole.zones) (zone_out g j) (zone_out g j) free_zone (zone_there t g u s whole k.group r j h) (omega arith)
    ∙ (posed_same _ _ _ _ (k.is_in.zone j h) (posture_same t g u s whole k p j l h)
    ∙ sym (zone_at-posed u s p j (zone_below t g u k.table k.plan j h)))
own_zones t g u s whole k r m (Inquire i) l = k.is_in.zone
own_zones t g u s whole k r m Stop l = k.is_in.zone
own_zones t g u s whole k r m Resume l = k.is_in.zone
own_zones t g u s whole k r m (Advance i) l = k.is_in.zone

emptied_alike : (t : PlanTable) (g : Group) (u : PlanTable) (s whole : State) → Given t g u s whole → Room t u s whole → (w : Option Transfer) → ((way : Transfer) → w ≡ Some way → way.from < length g.places)
    → PlacesAlike g (emptied whole.full (option_map (transfer_out g) w)) (emptied s.full w)
emptied_alike t g u s whole k r None in_group = k.is_in.place
emptied_alike t g u s whole k r (Some way) in_group =
    let l = in_group way refl in
    set_alike g.places (place_count t) whole.full s.full false false false way.from k.group.places l (place_there t g u s whole k.group r way.from l) (place_here t g u s whole k.table k.plan r way.from l) refl k.is_in.place

filled_alike : (t : PlanTable) (g : Group) (u : PlanTable) (s whole : State) → Given t g u s whole → Room t u s whole → (w : Option Transfer) → ((way : Transfer) → w ≡ Some way → way.to < length g.places)
    → PlacesAlike g (filled whole.full (option_map (transfer_out g) w)) (filled s.full w)
filled_alike t g u s whole k r None in_group = k.is_in.place
filled_alike t g u s whole k r (Some way) in_group =
    let l = in_group way refl in
    set_alike g.places (place_count t) whole.full s.full true true false way.to k.group.places l (place_there t g u s whole k.group r way.to l) (place_here t g u s whole k.table k.plan r way.to l) refl k.is_in.place

transfer_now : (t : PlanTable) (g : Group) (u : PlanTable) (s whole : State) → Given t g u s whole → (i : ℕ) → i < length g.zones
    → transfer_of t (zone_out g i) (posture_at whole (zone_out g i)) ≡ option_map (transfer_out g) (transfer_of u i (posture_at s i))
transfer_now t g u s whole k i l = ap (λ (v : ZoneState). transfer_of t (zone_out g i) v.posture) (k.is_in.zone i l) ∙ transfer_same t g u k.table i (posture_at s i) l

pub own_places : (t : PlanTable) (g : Group) (u : PlanTable) (s whole : State) → Given t g u s whole → Room t u s whole → (m : ℕ) (c : Call) → IsCallOf g c
    → PlacesAlike g (places_after t (seen_by s whole) m (call_out g c)) (places_after u s m c)
own_places t g u s whole k r m (Give i) l =
    subst (λ w. PlacesAlike g (emptied whole.full w) (emptied s.full (transfer_given u s m i))) (sym (transfer_given_same t g u s whole k m i l))
    (emptied_alike t g u s whole k r (transfer_given u s m i) (λ way is. (ways_in t g u k.table k.plan i (posture_at s i) way l (some_given m (transfer_of u i (posture_at s i)) way is)).0))
own_places t g u s whole k r m (Take i) l =
    subst (λ w. PlacesAlike g (filled whole.full w) (filled s.full (transfer_of u i (posture_at s i)))) (sym (transfer_now t g u s whole k i l))
    (filled_alike t g u s whole k r (transfer_of u i (posture_at s i)) (λ way is. (ways_in t g u k.table k.plan i (posture_at s i) way l is).1))
own_places t g u s whole k r m (Claim i) l = k.is_in.place
own_places t g u s whole k r m (Yield i) l = k.is_in.place
own_places t g u s whole k r m (Release i) l = k.is_in.place
own_places t g u s whole k r m (SetPose p) l = k.is_in.place
own_places t g u s whole k r m (Inquire i) l = k.is_in.place
own_places t g u s whole k r m Stop l = k.is_in.place
own_places t g u s whole k r m Resume l = k.is_in.place
own_places t g u s whole k r m (Advance i) l =
    set_alike g.places (place_count t) whole.full s.full _ _ false i k.group.places l (place_there t g u s whole k.group r i l) (place_here t g u s whole k.table k.plan r i l) (ap not (k.is_in.place i l)) k.is_in.place

-- ---- another word: its zones and its places stay

pub record Apart (g h : Group) : Type 0 where
  pub zones : (z : ℕ) → HasZone g z → HasZone h z → ⊥
  pub places : (p : ℕ) → HasPlace g p → HasPlace h p → ⊥

zone_stays : (g h : Group) (zones : List ZoneState) (v : ZoneState) (i : ℕ) → Apart g h → i < length g.zones
    → (j : ℕ) → j < length h.zones → get_or (set zones (zone_out g i) v) (zone_out h j) free_zone ≡ get_or zones (zone_out h j) free_zone
zone_stays g h zones v i a l j m = get_or-set_other zones (zone_out g i) (zone_out h j) v free_zone (λ e. a.zones (zone_out h j) (i, l, sym e) (j, m, refl))

place_stays : (g h : Group) (full : List Bool) (v : Bool) (i : ℕ) → Apart g h → i < length g.places
    → (j : ℕ) → j < length h.places → get_or (set full (place_out g i) v) (place_out h j) false ≡ get_or full (place_out h j) false
place_stays g h full v i a l j m = get_or-set_other full (place_out g i) (place_out h j) v false (λ e. a.places (place_out h j) (i, l, sym e) (j, m, refl))

none_or : {A : Type 0} (o : Option A) → ((a : A) → o ≡ Some a → ⊥) → o ≡ None
none_or None h = refl
none_or (Some a) h = absurd (h a refl)

posed_none : (v : ZoneState) (given : Option Posture) → given ≡ None → (record v { posture = unwrap_or given v.posture }) ≡ v
posed_none v given e = ap (λ o. let y : ZoneState = record v { posture = unwrap_or o v.posture } in y) e

owner_stays : (t : PlanTable) (g h : Group) (s whole : State) → IsGroup t g → IsGroup t h → Apart g h → length whole.zones ≡ zone_count t → (i : ℕ) (o : Option ℕ) (plate : Bool) → i < length g.zones
    → (j : ℕ) → j < length h.zones → get_or (owner_left t (seen_by s whole) (zone_out g i) o plate) (zone_out h j) free_zone ≡ zone_at whole (zone_out h j)
owner_stays t g h s whole k n a e i o plate l j m =
    let z = zone_out h j in
    let in_plan = n.zones.below j m in
    let miss : Misses (zone_out g) (length g.zones) z = λ x b same. a.zones z (x, b, same) (j, m, refl) in
    get_or-map-range_with_len (handed t (seen_by s whole) (zone_out g i) o plate) 0 (length whole.zones) z z free_zone (subst (λ x. z < x) (sym e) in_plan) (omega arith)
    ∙ handed_other t (seen_by s whole) (zone_out g i) o plate z (space_turned t (zone_out g i) z ∙ other_space t g k i z l in_plan miss)

pub other_zones : (t : PlanTable) (g h : Group) (s whole : State) → IsGroup t g → IsGroup t h → Apart g h → length whole.zones ≡ zone_count t → (m : ℕ) (c : Call) → IsCallOf g c
    → (j : ℕ) → j < length h.zones → get_or (zones_left t (seen_by s whole) m (call_out g c)) (zone_out h j) free_zone ≡ zone_at whole (zone_out h j)
other_zones t g h s whole k n a e m (Claim i) l j o = owner_stays t g h s whole k n a e i (Some m) false l j o
other_zones t g h s whole k n a e m (Give i) l j o = owner_stays t g h s whole k n a e i _ true l j o
other_zones t g h s whole k n a e m (Yield i) l j o = owner_stays t g h s whole k n a e i _ false l j o
other_zones t g h s whole k n a e m (Take i) l j o = zone_stays g h whole.zones _ i a l j o
other_zones t g h s whole k n a e m (Release i) l j o = owner_stays t g h s whole k n a e i None false l j o
other_zones t g h s whole k n a e m (SetPose p) l j o =
    let z = zone_out h j in
    let in_plan = n.zones.below j o in
    let given : posture_of t (pose_out g p) z ≡ None = none_or (posture_of t (pose_out g p) z) (λ q is. a.zones z (k.by_pose (pose_out g p) z (p, l, refl) in_plan (inl (q, is))) (j, o, refl)) in
    get_or-map-range_with_len (posed t (seen_by s whole) (pose_out g p)) 0 (length whole.zones) z z free_zone (subst (λ x. z < x) (sym e) in_plan) (omega arith)
    ∙ posed_none (zone_at whole z) (posture_of t (pose_out g p) z) given
other_zones t g h s whole k n a e m (Inquire i) l j o = refl
other_zones t g h s whole k n a e m Stop l j o = refl
other_zones t g h s whole k n a e m Resume l j o = refl
other_zones t g h s whole k n a e m (Advance i) l j o = refl

emptied_stays : (g h : Group) (full : List Bool) (w : Option Transfer) → Apart g h → ((way : Transfer) → w ≡ Some way → way.from < length g.places) → (j : ℕ) → j < length h.places
    → get_or (emptied full (option_map (transfer_out g) w)) (place_out h j) false ≡ get_or full (place_out h j) false
emptied_stays g h full None a in_group j o = refl
emptied_stays g h full (Some way) a in_group j o = place_stays g h full false way.from a (in_group way refl) j o

filled_stays : (g h : Group) (full : List Bool) (w : Option Transfer) → Apart g h → ((way : Transfer) → w ≡ Some way → way.to < length g.places) → (j : ℕ) → j < length h.places
    → get_or (filled full (option_map (transfer_out g) w)) (place_out h j) false ≡ get_or full (place_out h j) false
filled_stays g h full None a in_group j o = refl
filled_stays g h full (Some way) a in_group j o = place_stays g h full true way.to a (in_group way refl) j o

pub other_places : (t : PlanTable) (g h : Group) (u : PlanTable) (s whole : State) → Given t g u s whole → Apart g h → (m : ℕ) (c : Call) → IsCallOf g c
    → (j : ℕ) → j < length h.places → get_or (places_after t (seen_by s whole) m (call_out g c)) (place_out h j) false ≡ is_full whole (place_out h j)
other_places t g h u s whole k a m (Give i) l j o =
    ap (λ w. get_or (emptied whole.full w) (place_out h j) false) (transfer_given_same t g u s whole k m i l)
    ∙ emptied_stays g h whole.full (transfer_given u s m i) a (λ way is. (ways_in t g u k.table k.plan i (posture_at s i) way l (some_given m (transfer_of u i (posture_at s i)) way is)).0) j o
other_places t g h u s whole k a m (Take i) l j o =
    ap (λ w. get_or (filled whole.full w) (place_out h j) false) (transfer_now t g u s whole k i l)
    ∙ filled_stays g h whole.full (transfer_of u i (posture_at s i)) a (λ way is. (ways_in t g u k.table k.plan i (posture_at s i) way l is).1) j o
other_places t g h u s whole k a m (Claim i) l j o = refl
other_places t g h u s whole k a m (Yield i) l j o = refl
other_places t g h u s whole k a m (Release i) l j o = refl
other_places t g h u s whole k a m (SetPose p) l j o = refl
other_places t g h u s whole k a m (Inquire i) l j o = refl
other_places t g h u s whole k a m Stop l j o = refl
other_places t g h u s whole k a m Resume l j o = refl
other_places t g h u s whole k a m (Advance i) l j o = place_stays g h whole.full (not (is_full whole (place_out g i))) i a l j o

-- ---- both lists stay as long

pub owner_long : (t : PlanTable) (s : State) (z : ℕ) (o : Option ℕ) (plate : Bool) → length (owner_left t s z o plate) ≡ length s.zones
owner_long t s z o plate = length-map (range_with_len 0 (length s.zones)) (handed t s z o plate) ∙ length-range_with_len 0 (length s.zones)

zones_long : (t : PlanTable) (s : State) (m : ℕ) (c : Call) → length (zones_left t s m c) ≡ length s.zones
zones_long t s m (Claim z) = owner_long t s z (Some m) false
zones_long t s m (Give z) = owner_long t s z (Some (other_party t m z)) true
zones_long t s m (Yield z) = owner_long t s z (Some (other_party t m z)) false
zones_long t s m (Take z) = length-set s.zones z _
zones_long t s m (Release z) = owner_long t s z None false
zones_long t s m (SetPose p) = length-map (range_with_len 0 (length s.zones)) (posed t s p) ∙ length-range_with_len 0 (length s.zones)
zones_long t s m (Inquire z) = refl
zones_long t s m Stop = refl
zones_long t s m Resume = refl
zones_long t s m (Advance p) = refl

emptied_long : (full : List Bool) (w : Option Transfer) → length (emptied full w) ≡ length full
emptied_long full None = refl
emptied_long full (Some way) = length-set full way.from false

filled_long : (full : List Bool) (w : Option Transfer) → length (filled full w) ≡ length full
filled_long full None = refl
filled_long full (Some way) = length-set full way.to true

places_long : (t : PlanTable) (s : State) (m : ℕ) (c : Call) → length (places_after t s m c) ≡ length s.full
places_long t s m (Give z) = emptied_long s.full (transfer_given t s m z)
places_long t s m (Take z) = filled_long s.full (transfer_of t z (posture_at s z))
places_long t s m (Claim z) = refl
places_long t s m (Yield z) = refl
places_long t s m (Release z) = refl
places_long t s m (SetPose p) = refl
places_long t s m (Inquire z) = refl
places_long t s m Stop = refl
places_long t s m Resume = refl
places_long t s m (Advance p) = length-set s.full p (not (is_full s p))

-- ---- a call, by its answer

pub own_left : (t : PlanTable) (g : Group) (u : PlanTable) (s whole : State) → Given t g u s whole → Room t u s whole → (m : ℕ) (c : Call) → IsCallOf g c → (a : Answer)
    → IsIn g (next_by a u s m c) (left_by (answer_out g a) t (seen_by s whole) m (call_out g c))
own_left t g u s whole k r m c l Done = record { zone = own_zones t g u s whole k r m c l; place = own_places t g u s whole k r m c l }
own_left t g u s whole k r m c l (Refused x) = record { zone = k.is_in.zone; place = k.is_in.place }
own_left t g u s whole k r m c l (Shown o f q) = record { zone = k.is_in.zone; place = k.is_in.place }

pub other_left : (t : PlanTable) (g h : Group) (u : PlanTable) (s other whole : State) → Given t g u s whole → IsGroup t h → Apart g h → length whole.zones ≡ zone_count t → IsIn h other whole
    → (m : ℕ) (c : Call) → IsCallOf g c → (a : Answer) → IsIn h other (left_by (answer_out g a) t (seen_by s whole) m (call_out g c))
other_left t g h u s other whole k n a e i m c l Done = record {
  zone = λ j o. other_zones t g h s whole k.group n a e m c l j o ∙ i.zone j o;
  place = λ j o. other_places t g h u s whole k a m c l j o ∙ i.place j o;
}
other_left t g h u s other whole k n a e i m c l (Refused x) = record { zone = i.zone; place = i.place }
other_left t g h u s other whole k n a e i m c l (Shown o f q) = record { zone = i.zone; place = i.place }

pub left_long : (t : PlanTable) (s : State) (m : ℕ) (c : Call) (a : Answer) → (length (left_by a t s m c).zones ≡ length s.zones) × (length (left_by a t s m c).full ≡ length s.full)
left_long t s m c Done = (zones_long t s m c, places_long t s m c)
left_long t s m c (Refused x) = (refl, refl)
left_long t s m c (Shown o f q) = (refl, refl)
