-- The law `all_is_drawn`.
use Rattle.std.proofs.Common.{◌≡◌, ◌<◌, ℕ, ◌+◌, Bool, true, false, List, [], ◌++◌, codes, length, refl, sym, subst}
use Rattle.std.proofs.Common.{Some, slice_get, IsTrue, if◌then◌else◌, map, option_map, ap, ◌∙◌}
use Rattle.std.proofs.lemmas.Option.{slice_get-map}
use Rattle.plan_types.specs.Table.{guest_of, host_of, is_sink, is_source, zone_row}
use Rattle.plan_motors.specs.OfPlan.{hazard_at}
use Rattle.plan_picture.specs.Elements.{box, circle}
use Rattle.plan_picture.specs.Pictures as picture
use Rattle.plan_picture.specs.Pictures.{Found, found_by, picture_text}
use Rattle.plan_picture.specs.PictureLaws.{AllIsDrawn, EndsAreDrawn, Has, HazardsAreDrawn, LanesAreDrawn, ZoneIsDrawn, ZonesAreDrawn}
use Rattle.plan_picture.specs.Scenes as at
use Rattle.plan_picture.specs.Scenes.{Scene}
use Rattle.plan_picture.proofs.Counted.{sinks-counted, sources-counted}
use Rattle.plan_picture.proofs.Owned.{keepers-own, motors-own}
use Rattle.plan_picture.proofs.lemmas.Having.{in_each, in_first, in_second, whole}

-- what is in the lanes or in the columns is in the picture
in-lanes : (s : Scene) (fs : List Found) (p : List ℕ) → Has (picture.lanes_part s) p → Has (picture_text s fs) p
unfolding picture_text
in-lanes s fs p h =
    in_second (picture.begin s) _ p
    (in_first (picture.lanes_part s) (picture.columns_part s fs ++ picture.finish s) p h)

in-columns : (s : Scene) (fs : List Found) (p : List ℕ) → Has (picture.columns_part s fs) p
    → Has (picture_text s fs) p
unfolding picture_text
in-columns s fs p h =
    in_second (picture.begin s) _ p
    (in_second (picture.lanes_part s) _ p
    (in_first (picture.columns_part s fs) (picture.finish s) p h))

in-machine : (s : Scene) (fs : List Found) (p : List ℕ) (k : ℕ) → k < length s.named.machines
    → Has (picture.machine_part s k) p → Has (picture_text s fs) p
in-machine s fs p k l h =
    in-lanes s fs p
    (in_first (picture.machines_part s) (picture.each_word picture.places_part s ++ picture.motors_part s) p
    (in_each (picture.machine_part s) p k (length s.named.machines) l h))

in-place : (s : Scene) (fs : List Found) (p : List ℕ) (w k : ℕ) → w < length s.words → k < length (at.word_at s w).places
    → Has (picture.place_part (at.on_word s w) k) p → Has (picture_text s fs) p
in-place s fs p w k there l h =
    in-lanes s fs p
    (in_second (picture.machines_part s) (picture.each_word picture.places_part s ++ picture.motors_part s) p
    (in_first (picture.each_word picture.places_part s) (picture.motors_part s) p
    (in_each (λ word. picture.places_part (at.on_word s word)) p w (length s.words) there
    (in_each (picture.place_part (at.on_word s w)) p k (length (at.word_at s w).places) l h))))

in-motor : (s : Scene) (fs : List Found) (p : List ℕ) (k : ℕ) → k < length s.motor_names
    → Has (picture.motor_part s k) p → Has (picture_text s fs) p
in-motor s fs p k l h =
    in-lanes s fs p
    (in_second (picture.machines_part s) (picture.each_word picture.places_part s ++ picture.motors_part s) p
    (in_second (picture.each_word picture.places_part s) (picture.motors_part s) p
    (in_each (picture.motor_part s) p k (length s.motor_names) l h)))

in-word : (s : Scene) (fs : List Found) (p : List ℕ) (w : ℕ) → w < length s.words
    → Has (picture.word_part (at.on_word s w)) p → Has (picture_text s fs) p
in-word s fs p w there h =
    in-columns s fs p
    (in_first (picture.each_word picture.word_part s) (picture.hazards_part s fs) p
    (in_each (λ word. picture.word_part (at.on_word s word)) p w (length s.words) there h))

in-zone : (s : Scene) (fs : List Found) (p : List ℕ) (w z : ℕ) → w < length s.words → z < length (at.word_at s w).zones
    → Has (picture.zone_part (at.on_word s w) z) p → Has (picture_text s fs) p
in-zone s fs p w z there l h =
    in-word s fs p w there
    (in_second (picture.word_line (at.on_word s w)) (picture.zones_part (at.on_word s w)) p
    (in_each (picture.zone_part (at.on_word s w)) p z (length (at.word_at s w).zones) l h))

in-hazard : (s : Scene) (fs : List Found) (p : List ℕ) (k : ℕ) → k < length s.hazard_names
    → Has (picture.hazard_part s fs k) p → Has (picture_text s fs) p
in-hazard s fs p k l h =
    in-columns s fs p
    (in_second (picture.each_word picture.word_part s) (picture.hazards_part s fs) p
    (in_each (picture.hazard_part s fs) p k (length s.hazard_names) l h))

lanes-drawn : LanesAreDrawn
lanes-drawn = record {
  machine = λ s fs k l. in-machine s fs _ k l (in_second (picture.lane_box s k) _ _ (in_second (picture.machine_box s k) _ _ (whole _)));
  place = λ s fs w k there l. in-place s fs _ w k there l
      (in_first (picture.ring_part (at.on_word s w) k)
      (picture.source_part (at.on_word s w) k ++ picture.sink_part (at.on_word s w) k) _
      (in_second (circle (codes "place") 38 (at.row s (at.place_thing (at.on_word s w) k)) 5) _ _ (whole _)));
  motor = λ s fs k l. in-motor s fs _ k l
      (in_second (circle (codes "motor") 38 (at.row s (at.motor_thing s k)) 5) _ _ (whole _));
  keeper = keepers-own;
  machine_with = motors-own;
}

-- where a test says so a part is there
if-true : (b : Bool) (p : List ℕ) → IsTrue b → Has (if b then p else []) p
if-true b p is = subst (λ test. Has (if test then p else []) p) (sym is) (whole p)

ends-drawn : EndsAreDrawn
ends-drawn = record {
  source = λ s fs w k there l is. let o = at.on_word s w in
      in-place s fs _ w k there l
      (in_second (picture.ring_part o k) (picture.source_part o k ++ picture.sink_part o k) _
      (in_first (picture.source_part o k) (picture.sink_part o k) _
      (if-true (is_source o.named.plan k) (picture.source_arrow o k) is)));
  sink = λ s fs w k there l is. let o = at.on_word s w in
      in-place s fs _ w k there l
      (in_second (picture.ring_part o k) (picture.source_part o k ++ picture.sink_part o k) _
      (in_second (picture.source_part o k) (picture.sink_part o k) _
      (if-true (is_sink o.named.plan k) (picture.sink_arrow o k) is)));
  sources = sources-counted;
  sinks = sinks-counted;
}

-- what comes after the title and the parties of a zone
abbrev zone-rest : Scene → ℕ → List ℕ
zone-rest s z =
    (picture.ways_part s z ++ picture.ends_part s z) ++ (picture.space_part s z ++ picture.word_title s z)

-- the two ends of a zone, its ways, and what stands over it
in-parties : (s : Scene) (p : List ℕ) (z : ℕ)
    → Has (picture.host_part s z (host_of s.named.plan z) ++ picture.guest_part s z (guest_of s.named.plan z)) p
    → Has (picture.zone_part s z) p
in-parties s p z h =
    in_first (picture.zone_title s z ++ picture.parties_part s z) (zone-rest s z) p
    (in_second (picture.zone_title s z) (picture.parties_part s z) p
    (in_second (picture.zone_line s z (host_of s.named.plan z) (guest_of s.named.plan z)) _ p h))

in-ways : (s : Scene) (p : List ℕ) (z : ℕ) → Has (picture.ways_part s z) p → Has (picture.zone_part s z) p
in-ways s p z h =
    in_second (picture.zone_title s z ++ picture.parties_part s z) (zone-rest s z) p
    (in_first (picture.ways_part s z ++ picture.ends_part s z) (picture.space_part s z ++ picture.word_title s z) p
    (in_first (picture.ways_part s z) (picture.ends_part s z) p h))

in-over : (s : Scene) (p : List ℕ) (z : ℕ) → Has (picture.space_part s z ++ picture.word_title s z) p
    → Has (picture.zone_part s z) p
in-over s p z h =
    in_second (picture.zone_title s z ++ picture.parties_part s z) (zone-rest s z) p
    (in_second (picture.ways_part s z ++ picture.ends_part s z) (picture.space_part s z ++ picture.word_title s z) p h)

if-false : (b : Bool) (a : List ℕ) → b ≡ false → (if b then [] else a) ≡ a
if-false false a e = refl
if-false true a e = absurd (cc)

then-part : (b : Bool) (a : List ℕ) → b ≡ true → (if b then a else []) ≡ a
then-part true a e = refl
then-part false a e = absurd (cc)

has-same : (a p : List ℕ) → a ≡ p → Has a p
has-same a p e = subst (Has a) e (whole a)

-- a zone's part has all of it
zone-drawn : (s : Scene) (z : ℕ) → ZoneIsDrawn s (picture.zone_part s z) z
zone-drawn s z = record {
  name =
      in_first (picture.zone_title s z ++ picture.parties_part s z) (zone-rest s z) _
      (in_first (picture.zone_title s z) (picture.parties_part s z) _ (whole (picture.zone_title s z)));
  host =
      in-parties s _ z
      (in_first (picture.host_part s z (host_of s.named.plan z)) (picture.guest_part s z (guest_of s.named.plan z)) _
      (in_first (box (codes "host") (at.zone_column s z + 3) (at.lane s (host_of s.named.plan z) + 11) 14 14)
      (picture.party_label s z (host_of s.named.plan z)) _ (whole _)));
  guest =
      in-parties s _ z
      (in_second (picture.host_part s z (host_of s.named.plan z)) (picture.guest_part s z (guest_of s.named.plan z)) _
      (in_first (circle (codes "guest") (at.zone_column s z + 10) (at.lane s (guest_of s.named.plan z) + 18) 7)
      (picture.party_label s z (guest_of s.named.plan z)) _ (whole _)));
  inward = λ w is.
      in-ways s _ z
      (in_first (picture.way_part s (at.zone_column s z + 28) (zone_row s.named.plan z).inward)
      (picture.way_part s (at.zone_column s z + 42) (zone_row s.named.plan z).outward) _
      (subst (λ way. Has (picture.way_part s (at.zone_column s z + 28) way) (picture.way_part s (at.zone_column s z + 28) (Some w)))
      (sym is) (whole _)));
  outward = λ w is.
      in-ways s _ z
      (in_second (picture.way_part s (at.zone_column s z + 28) (zone_row s.named.plan z).inward)
      (picture.way_part s (at.zone_column s z + 42) (zone_row s.named.plan z).outward) _
      (subst (λ way. Has (picture.way_part s (at.zone_column s z + 42) way) (picture.way_part s (at.zone_column s z + 42) (Some w)))
      (sym is) (whole _)));
  space = λ apart.
      in-over s _ z
      (in_first (picture.space_part s z) (picture.word_title s z) _
      (in_first (picture.space_title s z) (picture.space_line s z) _
      (has-same (picture.space_title s z) _ (if-false _ _ apart))));
  tied = λ joined.
      in-over s _ z
      (in_first (picture.space_part s z) (picture.word_title s z) _
      (in_second (picture.space_title s z) (picture.space_line s z) _
      (has-same (picture.space_line s z) _ (then-part _ _ joined))));
  word = λ says.
      in-over s _ z
      (in_second (picture.space_part s z) (picture.word_title s z) _
      (has-same (picture.word_title s z) _ (then-part _ _ says)));
}

-- what is in a zone's part is in the picture
in-picture : (s : Scene) (text : List ℕ) (z : ℕ) → ((p : List ℕ) → Has (picture.zone_part s z) p → Has text p)
    → ZoneIsDrawn s text z
in-picture s text z more =
    let drawn = zone-drawn s z in
    record {
      name = more _ drawn.name;
      host = more _ drawn.host;
      guest = more _ drawn.guest;
      inward = λ w is. more _ (drawn.inward w is);
      outward = λ w is. more _ (drawn.outward w is);
      space = λ apart. more _ (drawn.space apart);
      tied = λ joined. more _ (drawn.tied joined);
      word = λ says. more _ (drawn.word says);
    }

zones-drawn : ZonesAreDrawn
zones-drawn = record {
  each = λ s fs w z there l. in-picture (at.on_word s w) (picture_text s fs) z (λ p. in-zone s fs p w z there l);
  line = λ s fs w there says.
      in-word s fs _ w there
      (in_first (picture.word_line (at.on_word s w)) (picture.zones_part (at.on_word s w)) _
      (has-same (picture.word_line (at.on_word s w)) _ (then-part _ _ says)));
}

-- what stands at the line of a hazard
in-danger : (s : Scene) (fs : List Found) (p : List ℕ) (k : ℕ) → k < length s.hazard_names
    → Has (picture.danger_part s k) p → Has (picture_text s fs) p
in-danger s fs p k l h =
    in-hazard s fs p k l
    (in_second (picture.hazard_title s k)
    (picture.found_if s k (slice_get fs k) ++ picture.danger_part s k) p
    (in_second (picture.found_if s k (slice_get fs k)) (picture.danger_part s k) p h))

found-drawn : (s : Scene) (fs : List Found) (k : ℕ) (found : Found) → k < length s.hazard_names
    → slice_get fs k ≡ Some found
    → Has (picture_text s fs) (picture.found_part s k found)
found-drawn s fs k found l is =
    in-hazard s fs _ k l
    (in_second (picture.hazard_title s k)
    (picture.found_if s k (slice_get fs k) ++ picture.danger_part s k) _
    (in_first (picture.found_if s k (slice_get fs k)) (picture.danger_part s k) _
    (subst (λ shown. Has (picture.found_if s k shown) (picture.found_part s k found)) (sym is) (whole _))))

hazards-drawn : HazardsAreDrawn
hazards-drawn = record {
  name = λ s fs k l. in-hazard s fs _ k l (in_first (picture.hazard_title s k)
      (picture.found_if s k (slice_get fs k) ++ picture.danger_part s k) _ (whole (picture.hazard_title s k)));
  found = found-drawn;
  verdict = λ s vs k v l is.
      found-drawn s (map (found_by s.named) vs) k (found_by s.named v) l
      (slice_get-map (found_by s.named) vs k ∙ ap (option_map (found_by s.named)) is);
  line = λ s fs k l.
      in-danger s fs _ k l
      (in_first (picture.danger_line s k (hazard_at s.hazards k))
      (picture.danger_label s k (hazard_at s.hazards k).first ++ picture.danger_label s k (hazard_at s.hazards k).second) _ (whole (picture.danger_line s k (hazard_at s.hazards k))));
  first = λ s fs k l.
      in-danger s fs _ k l
      (in_second (picture.danger_line s k (hazard_at s.hazards k))
      (picture.danger_label s k (hazard_at s.hazards k).first ++ picture.danger_label s k (hazard_at s.hazards k).second) _
      (in_first (picture.danger_label s k (hazard_at s.hazards k).first) (picture.danger_label s k (hazard_at s.hazards k).second) _
      (whole (picture.danger_label s k (hazard_at s.hazards k).first))));
  second = λ s fs k l.
      in-danger s fs _ k l
      (in_second (picture.danger_line s k (hazard_at s.hazards k))
      (picture.danger_label s k (hazard_at s.hazards k).first ++ picture.danger_label s k (hazard_at s.hazards k).second) _
      (in_second (picture.danger_label s k (hazard_at s.hazards k).first) (picture.danger_label s k (hazard_at s.hazards k).second) _
      (whole (picture.danger_label s k (hazard_at s.hazards k).second))));
}

pub all-is-drawn : AllIsDrawn
all-is-drawn = record { lanes = lanes-drawn; ends = ends-drawn; zones = zones-drawn; hazards = hazards-drawn }
