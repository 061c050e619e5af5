-- The clauses of `all_is_drawn` that count arrows: those of places are the only ones.
use Rattle.std.proofs.Common.{◌≡◌, ℕ, zero, suc, ◌+◌, ◌-◌, Bool, true, false, Option, Some, None, List, [], ◌++◌, codes, flat_map, length}
use Rattle.std.proofs.Common.{refl, sym, ap, ◌∙◌, arith, if◌then◌else◌, slice_get}
use Rattle.std.specs.List.{range_with_len}
use Rattle.std.specs.Str.{bytes_eq}
use Rattle.std.proofs.lemmas.List.{append_assoc, append-nil}
use Rattle.plan_types.specs.declared.table.Way.{Way}
use Rattle.plan_types.specs.Below.{sum_below}
use Rattle.plan_types.specs.Table.{guest_of, host_of, is_sink, is_source, joins, zone_row}
use Rattle.plan_rules.specs.State.{one_if}
use Rattle.plan_motors.specs.declared.motor.Hazard.{Hazard}
use Rattle.plan_motors.specs.OfPlan.{hazard_at}
use Rattle.plan_text.specs.Named.{Named}
use Rattle.plan_text.specs.Names.{Text, name_in}
use Rattle.plan_header.specs.Words.{machine_name, zone_name}
use Rattle.plan_picture.specs.Elements.{box, circle, slope}
use Rattle.plan_picture.specs.PictureLaws.{times_in}
use Rattle.plan_picture.specs.Pictures as picture
use Rattle.plan_picture.specs.Pictures.{Found, found_class, picture_text}
use Rattle.plan_picture.specs.Scenes as at
use Rattle.plan_picture.specs.Scenes.{Scene}
use Rattle.plan_picture.specs.declared.picture.TheConstants.{FIRST, FOURTH, SECOND, STYLE, THIRD, WORDS_STYLE}
use Rattle.plan_picture.proofs.Silent.{IsOne, IsOther, Silent, line_of, number, one-sink, one-source, silent-append, silent-box, silent-circle, silent-each, silent-if, silent-label, silent-level, silent-slanted, silent-slope, silent-upright}

-- a class of which no other line is
record IsArrow (class : Text) : Type 0 where
  zone : IsOther class (codes "zone")
  way : IsOther class (codes "way")
  hazard : IsOther class (codes "hazard")
  word : IsOther class (codes "word")

-- ---- lanes

silent-thing : (class of : Text) (y : ℕ) (name : Text) → Silent class of → Silent class (picture.thing_at of y name)
silent-thing class of y name quiet =
    silent-append class (circle of 38 y 5) _ (silent-circle class of 38 y 5 quiet)
    (silent-label class of 52 (y + 4) 13 210 name quiet)

silent-machine : (class : Text) (s : Scene) (k : ℕ) → Silent class (picture.machine_part s k)
silent-machine class s k =
    silent-append class (picture.lane_box s k) _
    (silent-box class (codes "lane") 20 (at.lane s k) (at.width s) (at.lane_height s k) (λ t. refl))
    (silent-append class (picture.machine_box s k) _
    (silent-box class (codes "machine") 20 (at.lane s k) 260 (at.lane_height s k) (λ t. refl))
    (silent-label class (codes "name") 30 (at.lane s k + 26) 22 240 (machine_name s.named k) (λ t. refl)))

silent-ring : (class : Text) (s : Scene) (k : ℕ) → Silent class (picture.ring_part s k)
silent-ring class s k =
    silent-thing class (codes "place") (at.row s (at.place_thing s k)) (name_in s.named.places k) (λ t. refl)

silent-motor : (class : Text) (s : Scene) (k : ℕ) → Silent class (picture.motor_part s k)
silent-motor class s k =
    silent-thing class (codes "motor") (at.row s (at.motor_thing s k)) (name_in s.motor_names k) (λ t. refl)

-- ---- columns

silent-party : (class : Text) (s : Scene) (z m : ℕ) → Silent class (picture.party_label s z m)
silent-party class s z m =
    silent-label class (codes "party") (at.zone_column s z + 52) (at.lane s m + 22) 13 82 (machine_name s.named m) (λ t. refl)

silent-parties : (class : Text) (s : Scene) (z host guest : ℕ) → IsArrow class
    → Silent class (picture.parties_by s z host guest)
silent-parties class s z host guest arrow =
    silent-append class (picture.zone_line s z host guest) _
    (silent-upright class (codes "zone") (at.zone_column s z + 10) (at.lane s host + 18) (at.lane s guest + 18) (λ t. refl)
    arrow.zone)
    (silent-append class (picture.host_part s z host) _
    (silent-append class (box (codes "host") (at.zone_column s z + 3) (at.lane s host + 11) 14 14) _
    (silent-box class (codes "host") (at.zone_column s z + 3) (at.lane s host + 11) 14 14 (λ t. refl))
    (silent-party class s z host))
    (silent-append class (circle (codes "guest") (at.zone_column s z + 10) (at.lane s guest + 18) 7) _
    (silent-circle class (codes "guest") (at.zone_column s z + 10) (at.lane s guest + 18) 7 (λ t. refl))
    (silent-party class s z guest)))

silent-way : (class : Text) (s : Scene) (x : ℕ) (way : Option Way) → IsArrow class → Silent class (picture.way_part s x way)
silent-way class s x None arrow = λ t. refl
silent-way class s x (Some way) arrow =
    silent-upright class (codes "way") x (at.row s (at.place_thing s way.from)) (at.row s (at.place_thing s way.to))
    (λ t. refl) arrow.way

silent-end : (class : Text) (s : Scene) (z k : ℕ) → Silent class (picture.end_part s z k)
silent-end class s z k =
    silent-if class (picture.is_on_way s z k) (picture.end_label s z k) []
    (silent-label class (codes "end") (at.zone_column s z + 52) (at.row s (at.place_thing s k) + 4) 13 82 (name_in s.named.places k) (λ t. refl))
    (λ t. refl)

silent-space : (class : Text) (s : Scene) (z : ℕ) → IsArrow class → Silent class (picture.space_part s z)
silent-space class s z arrow =
    silent-append class (picture.space_title s z) (picture.space_line s z)
    (silent-if class (bytes_eq (name_in s.named.spaces z) (zone_name s.named z)) []
    (picture.space_name_part s z (name_in s.named.spaces z)) (λ t. refl)
    (silent-slanted class (codes "space") (at.zone_column s z + 34) 220 13 280 (name_in s.named.spaces z) (λ t. refl)))
    (silent-if class (joins s.named.plan z) _ []
    (silent-level class (codes "zone") (at.lane s (host_of s.named.plan z) + 11) (at.zone_column s z - 123)
    (at.zone_column s z + 3) (λ t. refl) arrow.zone)
    (λ t. refl))

silent-word : (class : Text) (s : Scene) (z : ℕ) → Silent class (picture.word_title s z)
silent-word class s z =
    silent-if class s.says_word (picture.word_number s z) []
    (silent-append class (slope (codes "word") (at.zone_column s z + 58) 220 13) (picture.word_words s.word)
    (silent-slope class (codes "word") (at.zone_column s z + 58) 220 13 (λ t. refl))
    (number class s.word _ (λ t. refl)))
    (λ t. refl)

silent-zone : (class : Text) (s : Scene) (z : ℕ) → IsArrow class → Silent class (picture.zone_part s z)
silent-zone class s z arrow =
    silent-append class (picture.zone_title s z ++ picture.parties_part s z)
    ((picture.ways_part s z ++ picture.ends_part s z) ++ (picture.space_part s z ++ picture.word_title s z))
    (silent-append class (picture.zone_title s z) (picture.parties_part s z)
    (silent-slanted class (codes "zone") (at.zone_column s z + 10) 220 15 280 (zone_name s.named z) (λ t. refl))
    (silent-parties class s z (host_of s.named.plan z) (guest_of s.named.plan z) arrow))
    (silent-append class (picture.ways_part s z ++ picture.ends_part s z) (picture.space_part s z ++ picture.word_title s z)
    (silent-append class (picture.ways_part s z) (picture.ends_part s z)
    (silent-append class (picture.way_part s (at.zone_column s z + 28) (zone_row s.named.plan z).inward)
    (picture.way_part s (at.zone_column s z + 42) (zone_row s.named.plan z).outward)
    (silent-way class s (at.zone_column s z + 28) (zone_row s.named.plan z).inward arrow)
    (silent-way class s (at.zone_column s z + 42) (zone_row s.named.plan z).outward arrow))
    (silent-each class (picture.end_part s z) (range_with_len 0 (length s.named.places)) (silent-end class s z)))
    (silent-append class (picture.space_part s z) (picture.word_title s z) (silent-space class s z arrow)
    (silent-word class s z)))

silent-found : (class : Text) (s : Scene) (k : ℕ) (found : Option Found) → Silent class (picture.found_if s k found)
silent-found class s k None = λ t. refl
silent-found class s k (Some found) =
    silent-slanted class (found_class found.kept) (at.hazard_column s k + 34) 220 13 280 found.words
    (silent-if class found.kept (codes "kept") (codes "unkept") (λ t. refl) (λ t. refl))

silent-danger : (class : Text) (s : Scene) (k m : ℕ) → Silent class (picture.danger_label s k m)
silent-danger class s k m =
    silent-label class (codes "danger") (at.hazard_column s k + 22) (at.row s (at.motor_thing s m) + 4) 13 112
    (name_in s.motor_names m) (λ t. refl)

silent-dangers : (class : Text) (s : Scene) (k : ℕ) (h : Hazard) → IsArrow class → Silent class (picture.danger_by s k h)
silent-dangers class s k h arrow =
    silent-append class (picture.danger_line s k h) _
    (silent-upright class (codes "hazard") (at.hazard_column s k + 10) (at.row s (at.motor_thing s h.first))
    (at.row s (at.motor_thing s h.second)) (λ t. refl) arrow.hazard)
    (silent-append class (picture.danger_label s k h.first) (picture.danger_label s k h.second)
    (silent-danger class s k h.first) (silent-danger class s k h.second))

silent-hazard : (class : Text) (s : Scene) (fs : List Found) (k : ℕ) → IsArrow class
    → Silent class (picture.hazard_part s fs k)
silent-hazard class s fs k arrow =
    silent-append class (picture.hazard_title s k) (picture.found_if s k (slice_get fs k) ++ picture.danger_part s k)
    (silent-slanted class (codes "hazard") (at.hazard_column s k + 10) 220 15 280 (name_in s.hazard_names k) (λ t. refl))
    (silent-append class (picture.found_if s k (slice_get fs k)) (picture.danger_part s k)
    (silent-found class s k (slice_get fs k)) (silent-dangers class s k (hazard_at s.hazards k) arrow))

silent-zones : (class : Text) (s : Scene) → IsArrow class → Silent class (picture.word_part s)
silent-zones class s arrow =
    silent-append class (picture.word_line s) (picture.zones_part s)
    (silent-if class s.says_word _ []
    (silent-upright class (codes "word") (at.zone_column s 0 - 8) 226 (at.lane s (length s.named.machines) - 10) (λ t. refl)
    arrow.word)
    (λ t. refl))
    (silent-each class (picture.zone_part s) (range_with_len 0 (length s.named.zones)) (λ z. silent-zone class s z arrow))

silent-columns : (class : Text) (s : Scene) (fs : List Found) → IsArrow class → Silent class (picture.columns_part s fs)
silent-columns class s fs arrow =
    silent-append class (picture.each_word picture.word_part s) (picture.hazards_part s fs)
    (silent-each class (λ w. picture.word_part (at.on_word s w)) (range_with_len 0 (length s.words))
    (λ w. silent-zones class (at.on_word s w) arrow))
    (silent-each class (picture.hazard_part s fs) (range_with_len 0 (length s.hazard_names))
    (λ k. silent-hazard class s fs k arrow))

-- ---- how a picture begins and ends

silent-head : (class : Text) (width height : ℕ) → Silent class (picture.head width height)
silent-head class width height =
    number class width _ (number class height _ (number class width _ (number class height _ (λ t. refl))))

silent-begin-by : (class : Text) (width height : ℕ) → Silent class (picture.begin_by width height)
silent-begin-by class width height =
    silent-append class (picture.head width height) _ (silent-head class width height)
    (silent-append class STYLE.now (box (codes "paper") 0 0 width height) (λ t. refl)
    (silent-box class (codes "paper") 0 0 width height (λ t. refl)))

silent-begin : (class : Text) (s : Scene) → Silent class (picture.begin s)
silent-begin class s =
    silent-append class (picture.begin_by (at.width s) (at.height s)) (picture.words_style s)
    (silent-begin-by class (at.width s) (at.height s))
    (silent-if class s.says_word WORDS_STYLE.now [] (λ t. refl) (λ t. refl))

silent-line : (class : Text) (s : Scene) (below : ℕ) (line : Text) → Silent class (picture.legend_line s below line)
silent-line class s below line =
    silent-label class (codes "legend") 20 (at.lane s (length s.named.machines) + below) 12 500 line (λ t. refl)

silent-finish : (class : Text) (s : Scene) → Silent class (picture.finish s)
silent-finish class s =
    silent-append class (picture.legend s) (picture.words_legend s ++ codes "</svg>\n")
    (silent-append class (picture.legend_line s 14 FIRST.now) _ (silent-line class s 14 FIRST.now)
    (silent-append class (picture.legend_line s 30 SECOND.now) (picture.legend_line s 46 THIRD.now)
    (silent-line class s 30 SECOND.now) (silent-line class s 46 THIRD.now)))
    (silent-append class (picture.words_legend s) (codes "</svg>\n")
    (silent-if class s.says_word (picture.legend_line s 62 FOURTH.now) [] (silent-line class s 62 FOURTH.now) (λ t. refl))
    (λ t. refl))

-- ---- the arrows

-- a part has as many lines of a class as a number says
abbrev Counts : Text → Text → ℕ → Type 0
Counts class a n = (t : Text) → times_in (a ++ t) (line_of class) ≡ n + times_in t (line_of class)

counts-arrow : (class : Text) (test : Bool) (a : Text) → IsOne class a → Counts class (if test then a else []) (one_if test)
counts-arrow class true a one t = let more = one t in omega (arith, more)
counts-arrow class false a one t = omega arith

-- the parts of the numbers from a on
counts-from : (class : Text) (f : ℕ → Text) (g : ℕ → ℕ) (a n : ℕ) → ((k : ℕ) → Counts class (f k) (g k)) → (t : Text)
    → times_in (flat_map f (range_with_len a n) ++ t) (line_of class) + sum_below g a
    ≡ sum_below g (a + n) + times_in t (line_of class)
counts-from class f g a zero each t =
    let same : a + zero ≡ a = omega arith in let sums = ap (sum_below g) same in omega (arith, sums)
counts-from class f g a (suc n) each t =
    let rest = flat_map f (range_with_len (a + 1) n) in
    let here = ap (λ l. times_in l (line_of class)) (append_assoc (f a) rest t) ∙ each a (rest ++ t) in
    let later = counts-from class f g (a + 1) n each t in
    let next : sum_below g (a + 1) ≡ sum_below g a + g a = ap (sum_below g) (plus-one a) in
    let end = ap (sum_below g) (plus-next a n) in
    omega (arith, here, later, next, end)
  where
    plus-one : (a : ℕ) → a + 1 ≡ suc a
    plus-one a = omega arith

    plus-next : (a n : ℕ) → a + 1 + n ≡ a + suc n
    plus-next a n = omega arith

-- the parts of the numbers below n
counts-below : (class : Text) (f : ℕ → Text) (g : ℕ → ℕ) (n : ℕ) → ((k : ℕ) → Counts class (f k) (g k))
    → Counts class (flat_map f (range_with_len 0 n)) (sum_below g n)
counts-below class f g n each t =
    let counted = counts-from class f g 0 n each t in
    let end = ap (sum_below g) (plus-none n) in
    omega (arith, counted, end)
  where
    plus-none : (n : ℕ) → 0 + n ≡ n
    plus-none n = omega arith

-- a picture has as many as the places of its words
counts-places : (class : Text) (s : Scene) (fs : List Found) (g : Named → ℕ → ℕ) → IsArrow class
    → ((w k : ℕ) → Counts class (picture.place_part (at.on_word s w) k) (g (at.word_at s w) k))
    → times_in (picture_text s fs) (line_of class)
    ≡ sum_below (λ w. sum_below (g (at.word_at s w)) (length (at.word_at s w).places)) (length s.words)
unfolding picture_text
counts-places class s fs g arrow each =
    let machines = picture.machines_part s in
    let places = picture.each_word picture.places_part s in
    let motors = picture.motors_part s in
    let rest = picture.columns_part s fs ++ picture.finish s in
    let silent-rest : Silent class (motors ++ rest) =
    silent-append class motors rest
    (silent-each class (picture.motor_part s) (range_with_len 0 (length s.motor_names)) (silent-motor class s))
    (silent-append class (picture.columns_part s fs) (picture.finish s) (silent-columns class s fs arrow)
    (silent-finish class s)) in
    let begun = silent-begin class s ((machines ++ (places ++ motors)) ++ rest) in
    let first =
    ap (λ l. times_in l (line_of class)) (append_assoc machines (places ++ motors) rest)
    ∙ silent-each class (picture.machine_part s) (range_with_len 0 (length s.named.machines)) (silent-machine class s)
    ((places ++ motors) ++ rest)
    ∙ ap (λ l. times_in l (line_of class)) (append_assoc places motors rest) in
    let last = ap (λ l. times_in l (line_of class)) (sym (append-nil (motors ++ rest))) ∙ silent-rest [] in
    let counted =
    counts-below class (λ w. picture.places_part (at.on_word s w))
    (λ w. sum_below (g (at.word_at s w)) (length (at.word_at s w).places)) (length s.words)
    (λ w. counts-below class (picture.place_part (at.on_word s w)) (g (at.word_at s w)) (length (at.word_at s w).places)
    (each w))
    (motors ++ rest) in
    omega (arith, begun, first, last, counted)

counts-source : (s : Scene) (k : ℕ) → Counts (codes "source\"") (picture.place_part s k) (one_if (is_source s.named.plan k))
counts-source s k t =
    let class = codes "source\"" in
    let source = picture.source_part s k in
    let sink = picture.sink_part s k in
    ap (λ l. times_in l (line_of class)) (append_assoc (picture.ring_part s k) (source ++ sink) t)
    ∙ silent-ring class s k ((source ++ sink) ++ t) ∙ ap (λ l. times_in l (line_of class)) (append_assoc source sink t)
    ∙ counts-arrow class (is_source s.named.plan k) (picture.source_arrow s k) (one-source (at.source_line s (at.place_thing s k)) 2 32) (sink ++ t)
    ∙ ap (λ n. one_if (is_source s.named.plan k) + n)
    (silent-if class (is_sink s.named.plan k) (picture.sink_arrow s k) []
    (silent-level class (codes "sink") (at.sink_line s (at.place_thing s k)) 32 2 (λ l. refl) (λ l. refl)) (λ l. refl) t)

counts-sink : (s : Scene) (k : ℕ) → Counts (codes "sink\"") (picture.place_part s k) (one_if (is_sink s.named.plan k))
counts-sink s k t =
    let class = codes "sink\"" in
    let source = picture.source_part s k in
    let sink = picture.sink_part s k in
    ap (λ l. times_in l (line_of class)) (append_assoc (picture.ring_part s k) (source ++ sink) t)
    ∙ silent-ring class s k ((source ++ sink) ++ t) ∙ ap (λ l. times_in l (line_of class)) (append_assoc source sink t)
    ∙ silent-if class (is_source s.named.plan k) (picture.source_arrow s k) []
    (silent-level class (codes "source") (at.source_line s (at.place_thing s k)) 2 32 (λ l. refl) (λ l. refl)) (λ l. refl) (sink ++ t)
    ∙ counts-arrow class (is_sink s.named.plan k) (picture.sink_arrow s k) (one-sink (at.sink_line s (at.place_thing s k)) 32 2) t

pub sources-counted : (s : Scene) (fs : List Found)
    → times_in (picture_text s fs) (codes "<line class=\"source\"")
    ≡ sum_below (λ w. sum_below (λ k. one_if (is_source (at.word_at s w).plan k)) (length (at.word_at s w).places))
    (length s.words)
sources-counted s fs =
    counts-places (codes "source\"") s fs (λ n k. one_if (is_source n.plan k))
    (record { zone = λ t. refl; way = λ t. refl; hazard = λ t. refl; word = λ t. refl }) (λ w. counts-source (at.on_word s w))

pub sinks-counted : (s : Scene) (fs : List Found)
    → times_in (picture_text s fs) (codes "<line class=\"sink\"")
    ≡ sum_below (λ w. sum_below (λ k. one_if (is_sink (at.word_at s w).plan k)) (length (at.word_at s w).places))
    (length s.words)
sinks-counted s fs =
    counts-places (codes "sink\"") s fs (λ n k. one_if (is_sink n.plan k))
    (record { zone = λ t. refl; way = λ t. refl; hazard = λ t. refl; word = λ t. refl }) (λ w. counts-sink (at.on_word s w))
