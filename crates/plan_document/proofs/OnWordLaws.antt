-- The documents of a plant's words: which names stand on a word, and what a word of all zones, poses and places has.
use Rattle.std.proofs.Common.{◌≡◌, ◌∙◌, ◌+◌, ◌<◌, ◌≤◌, ◌++◌, ◌∷◌, [], ℕ, zero, suc, List, Bool, true, false, ◌||◌, not, nat_eq, codes, length, map, take, filter, get_or, refl, sym, ap, arith, add-one, if◌then◌else◌, Option, Some, None, is_some, slice_get, filter_map, flat_map, bytes_eq, inl, inr, eqb-true, eq-eqb}
use Rattle.std.specs.Bool.{then_some}
use Rattle.std.specs.List.{list_any, range_with_len}
use Rattle.std.specs.Option.{option_or}
use Rattle.std.proofs.lemmas.Bool.{cases_lt, false_from_ne_true, or_right}
use Rattle.std.proofs.lemmas.List.{take_more, take_all, length-append, length-map}
use Rattle.std.proofs.lemmas.List.Elements.{filter_map-append}
use Rattle.std.proofs.lemmas.List.Folds.{list_any-append}
use Rattle.std.proofs.lemmas.Option.{slice_get-get_or, slice_get_past}
use Rattle.std.proofs.lemmas.Slice.Eq.{bytes_eq-Decides}
use Rattle.plan_types.specs.Below.{first_below}
use Rattle.plan_text.specs.Calls.{verb_of}
use Rattle.plan_text.specs.Names.{Text, name_in, number_if, number_in}
use Rattle.plan_text.specs.declared.calls.Verb.{Verb}
use Rattle.plan_text.specs.declared.calls.Verb.TheVariants.{Claim, Give, Yield, Take, Release, Inquire, Pose, Advance}
use Rattle.plan_document.specs.Names.{AreDistinct}
use Rattle.plan_document.specs.OnWord.{first_word, second_word, has_number, is_here, is_name_of, lines_here, machine_with, machines_from, motor_with, names_of_poses, names_on, numbers_of, picked, places_on, poses_here, poses_on, postures_here, stands_by, stands_on, texts_here, zones_named, zones_on}
use Rattle.plan_document.specs.OnWordLaws.{NamesAreOnWords, NamesStandByNumbers, WholeWordsKeepAll, pose_count, whole}
use Rattle.plan_document.specs.Texts.{DocumentTexts, HazardTexts, MachineTexts, MotorTexts, PoseTexts, PostureTexts, ZoneTexts}
use Rattle.plan_document.specs.declared.naming.KindNames.{KindNames}
use Rattle.plan_document.proofs.Parted.{range_more}
use Rattle.plan_document.proofs.Standing.{name_of, number_below, same_number}

or_none : (b : Bool) → (b || false) ≡ b
or_none true = refl
or_none false = refl

or_not : (b : Bool) → (b || not b) ≡ true
or_not true = refl
or_not false = refl

-- ---- names with numbers

is_this : Text → Text → Bool
is_this name other = bytes_eq other name

some_either : (o : Option ℕ) (b : Bool) (n : ℕ) → is_some (option_or o (then_some b n)) ≡ (is_some o || b)
some_either None true n = refl
some_either None false n = refl
some_either (Some x) b n = refl

-- a text is one of these names if it has a number among them
any_to : (names : List Text) (name : Text) (n : ℕ) → n ≤ length names → is_some (first_below (number_if names name) n) ≡ list_any (λ other. bytes_eq other name) (take n names)
any_to names name zero l = refl
any_to names name (suc n) l =
    some_either (first_below (number_if names name) n) (bytes_eq (name_in names n) name) n
    ∙ ap (λ b. b || bytes_eq (name_in names n) name) (any_to names name n (omega arith))
    ∙ ap (λ b. list_any (λ other. bytes_eq other name) (take n names) || b) (sym (or_none (bytes_eq (name_in names n) name)))
    ∙ sym (list_any-append (λ other. bytes_eq other name) (take n names) (name_in names n ∷ []))
    ∙ ap (list_any (λ other. bytes_eq other name)) (sym (take_more names n [] (omega arith)))
    ∙ ap (λ k. list_any (λ other. bytes_eq other name) (take k names)) (add-one n)

is_any : (names : List Text) (name : Text) → is_name_of names name ≡ list_any (λ other. bytes_eq other name) names
is_any names name =
    any_to names name (length names) (omega arith) ∙ ap (list_any (λ other. bytes_eq other name)) (take_all (length names) names (omega arith))

-- of distinct names those with other numbers are others
is_nth : (names : List Text) → AreDistinct names → (name : Text) (number : ℕ) → number_in names name ≡ Some number → (j : ℕ) → j < length names → bytes_eq (name_in names j) name ≡ nat_eq number j
is_nth names distinct name number is j l = by (nat_eq number j) refl
  where
    by : (same : Bool) → nat_eq number j ≡ same → bytes_eq (name_in names j) name ≡ nat_eq number j
    by true e = (bytes_eq-Decides (name_in names j) name).1 (ap (name_in names) (sym (eqb-true number j e)) ∙ name_of names name number is) ∙ sym e
    by false e = false_from_ne_true _ (λ same. let lie : true ≡ false = sym (eq-eqb number j (same_number number j (sym is ∙ ap (number_in names) (sym ((bytes_eq-Decides (name_in names j) name).0 same)) ∙ distinct j l))) ∙ e in absurd (cc)) ∙ sym e

picked_next : (names : List Text) → AreDistinct names → (name : Text) (number : ℕ) → number_in names name ≡ Some number → (j : ℕ) (js : List ℕ) → list_any (λ other. bytes_eq other name) (picked names js) ≡ has_number js number
    → list_any (λ other. bytes_eq other name) (picked names (j ∷ js)) ≡ has_number (j ∷ js) number
picked_next names distinct name number is j js rest = elim (cases_lt j (length names)) [ inl l ↦ there l | inr l ↦ past l ]
  where
    there : j < length names → list_any (λ other. bytes_eq other name) (picked names (j ∷ js)) ≡ has_number (j ∷ js) number
    there l =
        rw (slice_get-get_or names j [] l)
        (ap (λ b. b || list_any (λ other. bytes_eq other name) (picked names js)) (is_nth names distinct name number is j l)
        ∙ ap (λ b. nat_eq number j || b) rest)

    past : length names ≤ j → list_any (λ other. bytes_eq other name) (picked names (j ∷ js)) ≡ has_number (j ∷ js) number
    past l =
        let below = number_below names name number is in
        let other : nat_eq number j ≡ false = false_from_ne_true _ (λ same. let e = eqb-true number j same in absurd (omega (arith, below, l, e))) in
        rw (slice_get_past names j l) (rest ∙ sym (ap (λ b. b || has_number js number) other))

picked_has : (names : List Text) → AreDistinct names → (name : Text) (number : ℕ) → number_in names name ≡ Some number → (numbers : List ℕ) → list_any (λ other. bytes_eq other name) (picked names numbers) ≡ has_number numbers number
picked_has names distinct name number is [] = refl
picked_has names distinct name number is (j ∷ js) = picked_next names distinct name number is j js (picked_has names distinct name number is js)

stand_by_numbers : (names : List Text) → AreDistinct names → (numbers : List ℕ) (name : Text) → NamesStandByNumbers names numbers name
stand_by_numbers names distinct numbers name = record {
  known = λ number is.
      ap (λ o. is_name_of (picked names numbers) name || not (is_some o)) is
      ∙ or_none (is_name_of (picked names numbers) name)
      ∙ is_any (picked names numbers) name
      ∙ picked_has names distinct name number is numbers;
  unknown = λ none. or_right (is_name_of (picked names numbers) name) (not (is_name_of names name)) (ap (λ o. not (is_some o)) none);
}

pub names_on_words : NamesAreOnWords
names_on_words = stand_by_numbers

-- ---- all of a list

picked_first : {X : Type 0} (xs : List X) (n : ℕ) → n ≤ length xs → picked xs (range_with_len 0 n) ≡ take n xs
picked_first xs zero l = refl
picked_first [] (suc n) l = absurd (omega (arith, l))
picked_first {X = X} (x ∷ xs) (suc n) l =
    ap (picked (x ∷ xs)) (range_more 0 n)
    ∙ filter_map-append (slice_get (x ∷ xs)) (range_with_len 0 n) ((0 + n) ∷ [])
    ∙ ap (λ ys. ys ++ picked (x ∷ xs) ((0 + n) ∷ [])) (picked_first (x ∷ xs) n (omega arith))
    ∙ ap (λ ys. take n (x ∷ xs) ++ ys) (one (0 + n) (omega arith))
    ∙ ap (λ k. take n (x ∷ xs) ++ get_or (x ∷ xs) k x ∷ []) (omega arith)
    ∙ sym (take_more (x ∷ xs) n x (omega arith))
    ∙ ap (λ k. take k (x ∷ xs)) (add-one n)
  where
    one : (k : ℕ) → k < length (x ∷ xs) → picked (x ∷ xs) (k ∷ []) ≡ get_or (x ∷ xs) k x ∷ []
    one k below = rw (slice_get-get_or (x ∷ xs) k x below) refl

picked_all : {X : Type 0} (xs : List X) → picked xs (range_with_len 0 (length xs)) ≡ xs
picked_all xs = picked_first xs (length xs) (omega arith) ∙ take_all (length xs) xs (omega arith)

all_pass : (test : ℕ → Bool) (a n : ℕ) → ((k : ℕ) → a ≤ k → k < a + n → test k ≡ true) → filter test (range_with_len a n) ≡ range_with_len a n
all_pass test a zero pass = refl
all_pass test a (suc n) pass =
    rw (pass a (omega arith) (omega arith)) (ap (λ ks. a ∷ ks) (all_pass test (a + 1) n (λ k l m. pass k (omega arith) (omega arith))))

has_each : (a n k : ℕ) → a ≤ k → k < a + n → has_number (range_with_len a n) k ≡ true
has_each a zero k l m = absurd (omega (arith, l, m))
has_each a (suc n) k l m = elim (cases_lt a k) [ inl more ↦ or_right (nat_eq k a) (has_number (range_with_len (a + 1) n) k) (has_each (a + 1) n k (omega arith) (omega arith)) | inr le ↦ ap (λ b. b || has_number (range_with_len (a + 1) n) k) (eq-eqb k a (omega (arith, l, le))) ]

-- ---- a word with all names

abbrev IsAll : KindNames → Type 0
IsAll names = (name : Text) → is_here names name ≡ true

all_here : (names : List Text) (n : ℕ) → n ≡ length names → IsAll (names_on names (range_with_len 0 n))
all_here names n e name =
    ap (λ k. is_here (names_on names (range_with_len 0 k)) name) e
    ∙ ap (λ own. is_name_of own name || not (is_name_of names name)) (picked_all names)
    ∙ or_not (is_name_of names name)

all_numbers : (test : Text → Bool) → ((text : Text) → test text ≡ true) → (texts : List Text) → numbers_of test texts ≡ range_with_len 0 (length texts)
all_numbers test pass texts = all_pass (λ k. test (name_in texts k)) 0 (length texts) (λ k l m. pass (name_in texts k))

all_texts : (names : KindNames) → IsAll names → (texts : List Text) → texts_here names texts ≡ texts
all_texts names all texts = ap (picked texts) (all_numbers (is_here names) all texts) ∙ picked_all texts

all_postures : (zones : KindNames) → IsAll zones → (rows : List PostureTexts) → postures_here zones rows ≡ rows
all_postures zones all rows =
    ap (picked rows) (all_numbers (is_here zones) all (zones_named rows) ∙ ap (range_with_len 0) (length-map rows (λ (row : PostureTexts). row.zone)))
    ∙ picked_all rows

by_verb : (zones places poses : KindNames) → IsAll zones → IsAll places → IsAll poses → (verb name : Text) (read : Option Verb) → stands_by zones places poses verb name read ≡ true
by_verb zones places poses z p q verb name None = or_right (not (bytes_eq verb (codes "await"))) (is_here zones name) (z name)
by_verb zones places poses z p q verb name (Some Pose) = q name
by_verb zones places poses z p q verb name (Some Advance) = p name
by_verb zones places poses z p q verb name (Some Claim) = z name
by_verb zones places poses z p q verb name (Some Give) = z name
by_verb zones places poses z p q verb name (Some Yield) = z name
by_verb zones places poses z p q verb name (Some Take) = z name
by_verb zones places poses z p q verb name (Some Release) = z name
by_verb zones places poses z p q verb name (Some Inquire) = z name

all_lines : (zones places poses : KindNames) → IsAll zones → IsAll places → IsAll poses → (lines : List Text) → lines_here zones places poses lines ≡ lines
all_lines zones places poses z p q lines =
    ap (picked lines) (all_numbers (stands_on zones places poses) (λ line. by_verb zones places poses z p q (first_word line) (second_word line) (verb_of (first_word line))) lines)
    ∙ picked_all lines

-- ---- rows

all_poses : (rows : List PoseTexts) → IsAll (poses_on rows rows)
all_poses rows name = or_not (is_name_of (names_of_poses rows) name)

machine_of : Text → List Text → List Text → List Text → List PoseTexts → List Text → List Text → MachineTexts
machine_of name places sources sinks poses sensors program = record {
  name = name;
  places = places;
  sources = sources;
  sinks = sinks;
  poses = poses;
  sensors = sensors;
  program = program;
}

machine_alike : (name : Text) (places places' sources sources' sinks sinks' : List Text) (poses poses' : List PoseTexts) (sensors program program' : List Text) → places ≡ places' → sources ≡ sources' → sinks ≡ sinks' → poses ≡ poses' → program ≡ program'
    → machine_of name places sources sinks poses sensors program ≡ machine_of name places' sources' sinks' poses' sensors program'
machine_alike name places places' sources sources' sinks sinks' poses poses' sensors program program' a b c d e = cc

all_of_machine : (zones places : KindNames) → IsAll zones → IsAll places → (poses : List PoseTexts) (row : MachineTexts) → poses ≡ row.poses → machine_with zones places poses row ≡ row
unfolding machine_of
all_of_machine zones places z p poses row same =
    machine_alike row.name _ row.places _ row.sources _ row.sinks poses row.poses row.sensors _ row.program
    (all_texts places p row.places) (all_texts places p row.sources) (all_texts places p row.sinks) same
    (ap (λ own. lines_here zones places (poses_on row.poses own) row.program) same
    ∙ all_lines zones places (poses_on row.poses row.poses) z p (all_poses row.poses) row.program)

poses_kept : (first total : ℕ) (poses : List PoseTexts) → first + length poses ≤ total → poses_here first (range_with_len 0 total) poses ≡ poses
poses_kept first total poses l =
    ap (picked poses) (all_pass (λ k. has_number (range_with_len 0 total) (first + k)) 0 (length poses) (λ k a b. has_each 0 total (first + k) (omega arith) (omega arith)))
    ∙ picked_all poses

all_machines : (zones places : KindNames) → IsAll zones → IsAll places → (total first : ℕ) (rows : List MachineTexts) → first + pose_count rows ≤ total → machines_from zones places (range_with_len 0 total) first rows ≡ rows
unfolding machines_from
all_machines zones places z p total first [] l = refl
all_machines zones places z p total first (row ∷ rows) l =
    let count : pose_count (row ∷ rows) ≡ length row.poses + pose_count rows = length-append row.poses (flat_map (λ (r : MachineTexts). r.poses) rows) in
    let m : first + (length row.poses + pose_count rows) ≤ total = omega (arith, l, count) in
    ap (λ made. made ∷ machines_from zones places (range_with_len 0 total) (first + length row.poses) rows)
    (all_of_machine zones places z p (poses_here first (range_with_len 0 total) row.poses) row (poses_kept first total row.poses (omega (arith, m))))
    ∙ ap (λ made. row ∷ made) (all_machines zones places z p total (first + length row.poses) rows (omega (arith, m)))

motor_of : Text → Text → List PostureTexts → List PostureTexts → List Text → List Text → MotorTexts
motor_of name machine holds stands full empty = record { name = name; machine = machine; holds = holds; stands = stands; full = full; empty = empty }

motor_alike : (name machine : Text) (holds holds' stands stands' : List PostureTexts) (full full' empty empty' : List Text) → holds ≡ holds' → stands ≡ stands' → full ≡ full' → empty ≡ empty'
    → motor_of name machine holds stands full empty ≡ motor_of name machine holds' stands' full' empty'
motor_alike name machine holds holds' stands stands' full full' empty empty' a b c d = cc

all_of_motor : (zones places : KindNames) → IsAll zones → IsAll places → (row : MotorTexts) → motor_with zones places row ≡ row
unfolding motor_of
all_of_motor zones places z p row =
    motor_alike row.name row.machine _ row.holds _ row.stands _ row.full _ row.empty
    (all_postures zones z row.holds) (all_postures zones z row.stands) (all_texts places p row.full) (all_texts places p row.empty)

all_motors : (zones places : KindNames) → IsAll zones → IsAll places → (rows : List MotorTexts) → map (motor_with zones places) rows ≡ rows
all_motors zones places z p [] = refl
all_motors zones places z p (row ∷ rows) =
    ap (λ made. made ∷ map (motor_with zones places) rows)
    (all_of_motor zones places z p row)
    ∙ ap (λ made. row ∷ made) (all_motors zones places z p rows)

document_of : List MachineTexts → List ZoneTexts → List MotorTexts → List HazardTexts → DocumentTexts
document_of machines zones motors hazards = record { machines = machines; zones = zones; motors = motors; hazards = hazards }

document_alike : (machines machines' : List MachineTexts) (zones zones' : List ZoneTexts) (motors motors' : List MotorTexts) (hazards : List HazardTexts) → machines ≡ machines' → zones ≡ zones' → motors ≡ motors'
    → document_of machines zones motors hazards ≡ document_of machines' zones' motors' hazards
document_alike machines machines' zones zones' motors motors' hazards a b c = cc

pub whole_words_keep_all : WholeWordsKeepAll
unfolding document_of
whole_words_keep_all d =
    let zones = all_here (map (λ (row : ZoneTexts). row.name) d.zones) (length d.zones) (sym (length-map d.zones (λ (row : ZoneTexts). row.name))) in
    let places = all_here (flat_map (λ (row : MachineTexts). row.places) d.machines) _ refl in
    document_alike _ d.machines _ d.zones _ d.motors d.hazards
    (all_machines (zones_on d (whole d)) (places_on d (whole d)) zones places (pose_count d.machines) 0 d.machines (omega arith))
    (picked_all d.zones)
    (all_motors (zones_on d (whole d)) (places_on d (whole d)) zones places d.motors)
