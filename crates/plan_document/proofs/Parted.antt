-- Rows of one word, one after another.
use Rattle.std.proofs.Common.{◌≡◌, ◌∙◌, ◌+◌, ◌<◌, ◌≤◌, ◌++◌, ◌∷◌, [], ℕ, zero, suc, List, Bool, length, map, take, drop, filter, get_or, refl, sym, ap, arith, add-zero, add-one, if◌then◌else◌, Option, Some, None, option_map, option_to_list, slice_get, filter_map}
use Rattle.std.proofs.Common.{string_bytes}
use Rattle.std.specs.List.{range_with_len, flat_map}
use Rattle.std.proofs.lemmas.List.Elements.{filter-append, filter_map-append}
use Rattle.plan_words.specs.Group.{Group}
use Rattle.plan_document.specs.OnWord.{numbers_of, picked, zones_named, texts_here, lines_here, poses_here, poses_on, machine_with, names_on, zones_on, places_on, machines_from, motor_with, names_of_poses, texts_on}
use Rattle.plan_document.specs.declared.document.Document.{Document}
use Rattle.plan_document.specs.declared.naming.KindNames.{KindNames}
use Rattle.plan_document.specs.Names.{place_names, zone_names}
use Rattle.plan_document.specs.Texts.{MachineTexts, PoseTexts, pose_texts, ZoneTexts, MotorTexts, HazardTexts, DocumentTexts, machine_texts, posture_texts, zone_texts, motor_texts, hazard_texts, document_texts}
use Rattle.plan_document.specs.declared.document.MachineRow.{MachineRow}
use Rattle.plan_document.specs.declared.document.ZoneRow.{ZoneRow}
use Rattle.std.specs.Prelude.{String}
use Rattle.std.specs.declared.alloc.Global.{Global}
use Rattle.plan_text.specs.Names.{Text, name_in}
use Rattle.plan_document.specs.declared.document.PoseRow.{PoseRow}
use Rattle.plan_document.specs.declared.document.PostureRow.{PostureRow}
use Rattle.std.proofs.Common.{append_assoc, subst, take_all}
use Rattle.std.proofs.lemmas.List.{take_more, map-append, get_or-map, length-map, at_drop_more, at_drop_all}
use Rattle.std.proofs.lemmas.Option.{slice_get-get_or, slice_get_past}
use Rattle.std.proofs.Common.{append-nil}
use Rattle.plan_document.proofs.Growing.{map_row_more}

pub range_more : (a n : ℕ) → range_with_len a (suc n) ≡ range_with_len a n ++ (a + n) ∷ []
range_more a zero = ap (λ x. x ∷ []) (sym (add-zero a))
range_more a (suc n) = ap (λ xs. a ∷ xs) (range_more (a + 1) n ∙ ap (λ x. range_with_len (a + 1) n ++ x ∷ []) (omega arith))

-- the numbers below the next number that pass a test
pub filter_more : (test : ℕ → Bool) (n : ℕ) → filter test (range_with_len 0 (n + 1)) ≡ filter test (range_with_len 0 n) ++ (if test n then n ∷ [] else [])
filter_more test n =
    ap (filter test) (ap (range_with_len 0) (add-one n) ∙ (range_more 0 n ∙ ap (λ x. range_with_len 0 n ++ x ∷ []) (omega arith)))
    ∙ filter-append test (range_with_len 0 n) (n ∷ [])

pub passed_more : (test : ℕ → Bool) (n : ℕ) (old new : List ℕ) (there : Bool) → there ≡ test n → old ≡ filter test (range_with_len 0 n) → new ≡ old ++ (if there then n ∷ [] else []) → new ≡ filter test (range_with_len 0 (n + 1))
passed_more test n old new there same before pushed =
    pushed
    ∙ ap (λ b. old ++ (if b then n ∷ [] else [])) same
    ∙ ap (λ xs. xs ++ (if test n then n ∷ [] else [])) before
    ∙ sym (filter_more test n)

-- ---- texts of rows

pub zone_names_of : (rows : List ZoneRow) → map (λ (row : ZoneTexts). row.name) (map zone_texts rows) ≡ zone_names rows
zone_names_of [] = refl
zone_names_of (row ∷ rows) = ap (λ names. string_bytes row.name ∷ names) (zone_names_of rows)

pub place_names_of : (rows : List MachineRow) → flat_map (λ (row : MachineTexts). row.places) (map machine_texts rows) ≡ place_names rows
place_names_of [] = refl
place_names_of (row ∷ rows) = ap (λ names. map string_bytes row.places.items ++ names) (place_names_of rows)

-- one more number picks one more row, if there is one
pub picked_more : {X : Type 0} (xs : List X) (numbers : List ℕ) (i : ℕ) → i < length numbers → picked xs (take (i + 1) numbers) ≡ picked xs (take i numbers) ++ option_to_list (slice_get xs (get_or numbers i 0))
picked_more {X = X} xs numbers i h =
    ap (picked xs) (take_more numbers i 0 h) ∙ (filter_map-append (slice_get xs) (take i numbers) (get_or numbers i 0 ∷ []) ∙ ap (λ ys. picked xs (take i numbers) ++ ys) (one (slice_get xs (get_or numbers i 0)) (get_or numbers i 0) refl))
  where
    one : (o : Option X) (n : ℕ) → slice_get xs n ≡ o → filter_map (slice_get xs) (n ∷ []) ≡ option_to_list (slice_get xs n)
    one None n e = rw e refl
    one (Some x) n e = rw e refl

pub slice_get-map : {X Y : Type 0} (f : X → Y) (xs : List X) (n : ℕ) → slice_get (map f xs) n ≡ option_map f (slice_get xs n)
slice_get-map f [] n = refl
slice_get-map f (x ∷ xs) zero = refl
slice_get-map f (x ∷ xs) (suc n) = slice_get-map f xs n

-- a copy of a row comes after the copies so far; past the last row nothing does
pub copy_more : {X T : Type 0} (f : X → T) (old new rows : List X) (n : ℕ) (x y : X) → n < length rows → y ≡ get_or rows n y → f x ≡ f y → new ≡ old ++ x ∷ [] → map f new ≡ map f old ++ option_to_list (slice_get (map f rows) n)
copy_more f old new rows n x y l is same pushed =
    let found : slice_get (map f rows) n ≡ Some (f x) = slice_get-map f rows n ∙ ap (option_map f) (slice_get-get_or rows n y l ∙ ap (λ z. Some z) (sym is)) ∙ ap (λ z. Some z) (sym same) in
    ap (map f) pushed ∙ map-append f old (x ∷ []) ∙ ap (λ o. map f old ++ option_to_list o) (sym found)

pub copy_past : {X T : Type 0} (f : X → T) (old rows : List X) (n : ℕ) → length rows ≤ n → map f old ≡ map f old ++ option_to_list (slice_get (map f rows) n)
copy_past f old rows n l = sym (ap (λ o. map f old ++ option_to_list o) (slice_get-map f rows n ∙ ap (option_map f) (slice_get_past rows n l)) ∙ append-nil (map f old))

-- what is made of one more row, and of all rows
pub made_more : {X Y T : Type 0} (f : X → T) (g : Y → T) (rows : List X) (i : ℕ) (x : X) (made new : List Y) (y : Y) → i < length rows → x ≡ get_or rows i x → g y ≡ f x → new ≡ made ++ y ∷ [] → map g made ≡ map f (take i rows) → map g new ≡ map f (take (i + 1) rows)
made_more f g rows i x made new y l is same pushed before =
    ap (map g) pushed
    ∙ map-append g made (y ∷ [])
    ∙ ap (λ t. map g made ++ t ∷ []) same
    ∙ ap (λ ts. ts ++ f x ∷ []) before
    ∙ sym (map_row_more f rows i x l is)

pub made_all : {X Y T : Type 0} (f : X → T) (g : Y → T) (rows : List X) (i : ℕ) (made : List Y) → length rows ≤ i → map g made ≡ map f (take i rows) → map g made ≡ map f rows
made_all f g rows i made l before = before ∙ ap (map f) (take_all i rows l)

pub changed_more : {X Y T A : Type 0} (f : X → T) (h : T → A) (g : Y → A) (rows : List X) (i : ℕ) (x : X) (made new : List Y) (y : Y) → i < length rows → x ≡ get_or rows i x → g y ≡ h (f x) → new ≡ made ++ y ∷ [] → map g made ≡ map h (map f (take i rows))
    → map g new ≡ map h (map f (take (i + 1) rows))
changed_more f h g rows i x made new y l is same pushed before =
    ap (map g) pushed
    ∙ map-append g made (y ∷ [])
    ∙ ap (λ a. map g made ++ a ∷ []) same
    ∙ ap (λ rs. rs ++ h (f x) ∷ []) before
    ∙ sym (ap (map h) (map_row_more f rows i x l is) ∙ map-append h (map f (take i rows)) (f x ∷ []))

-- the texts of a word's document, part by part
pub texts_by : (d part : Document) (g : Group) (zones places : KindNames)
    → zones ≡ names_on (zone_names d.zones.items) g.zones → places ≡ names_on (place_names d.machines.items) g.places
    → map machine_texts part.machines.items ≡ machines_from zones places g.poses 0 (map machine_texts d.machines.items)
    → map zone_texts part.zones.items ≡ picked (map zone_texts d.zones.items) g.zones
    → map motor_texts part.motors.items ≡ map (motor_with zones places) (map motor_texts d.motors.items)
    → map hazard_texts part.hazards.items ≡ map hazard_texts d.hazards.items
    → document_texts part ≡ texts_on (document_texts d) g
texts_by d part g zones places z p machines rows motors hazards =
    let zs : zones ≡ zones_on (document_texts d) g = z ∙ ap (λ names. names_on names g.zones) (sym (zone_names_of d.zones.items)) in
    let ps : places ≡ places_on (document_texts d) g = p ∙ ap (λ names. names_on names g.places) (sym (place_names_of d.machines.items)) in
    whole (map machine_texts part.machines.items) _ (map zone_texts part.zones.items) _ (map motor_texts part.motors.items) _ (map hazard_texts part.hazards.items) _
    (machines ∙ ap (λ names. machines_from names places g.poses 0 (map machine_texts d.machines.items)) zs ∙ ap (λ names. machines_from (zones_on (document_texts d) g) names g.poses 0 (map machine_texts d.machines.items)) ps)
    rows
    (motors ∙ ap (λ names. map (motor_with names places) (map motor_texts d.motors.items)) zs ∙ ap (λ names. map (motor_with (zones_on (document_texts d) g) names) (map motor_texts d.motors.items)) ps)
    hazards
  where
    texts : List MachineTexts → List ZoneTexts → List MotorTexts → List HazardTexts → DocumentTexts
    texts ms zs os hs = record { machines = ms; zones = zs; motors = os; hazards = hs }

    whole : (ms ms' : List MachineTexts) (zs zs' : List ZoneTexts) (os os' : List MotorTexts) (hs hs' : List HazardTexts) → ms ≡ ms' → zs ≡ zs' → os ≡ os' → hs ≡ hs' → texts ms zs os hs ≡ texts ms' zs' os' hs'
    whole ms ms' zs zs' os os' hs hs' a b c e = cc

-- one more number, if its text passes the test
pub numbers_more : (test : Text → Bool) (names : List Text) (n : ℕ) (name : Text) (old new : List ℕ) (there : Bool) → name_in names n ≡ name → there ≡ test name → old ≡ filter (λ k. test (name_in names k)) (range_with_len 0 n)
    → new ≡ old ++ (if there then n ∷ [] else []) → new ≡ filter (λ k. test (name_in names k)) (range_with_len 0 (n + 1))
numbers_more test names n name old new there named passes before pushed =
    passed_more (λ k. test (name_in names k)) n old new there (passes ∙ ap test (sym named)) before pushed

-- all the numbers, once no text is left
pub numbers_all : (test : Text → Bool) (names : List Text) (n : ℕ) (numbers : List ℕ) → n ≡ length names → numbers ≡ filter (λ k. test (name_in names k)) (range_with_len 0 n) → numbers ≡ numbers_of test names
numbers_all test names n numbers all is = is ∙ ap (λ k. filter (λ i. test (name_in names i)) (range_with_len 0 k)) all

pub text_at : (texts : List (String Global)) (n : ℕ) (text : String Global) → n < length texts → text ≡ get_or texts n text → name_in (map string_bytes texts) n ≡ string_bytes text
text_at texts n text l is = get_or-map string_bytes texts n text [] l ∙ ap string_bytes (sym is)

pub zone_at : (rows : List PostureRow) (n : ℕ) (row : PostureRow) → n < length rows → row ≡ get_or rows n row → name_in (zones_named (map posture_texts rows)) n ≡ string_bytes row.zone
zone_at [] n row l is = absurd (omega (arith, l))
zone_at (r ∷ rows) zero row l is = ap (λ (x : PostureRow). string_bytes x.zone) (sym is)
zone_at (r ∷ rows) (suc n) row l is = zone_at rows n row (omega (arith, l)) is

pub pose_name_more : (rows : List PoseRow) (i : ℕ) (row : PoseRow) (old new : List Text) (name : Text) → i < length rows → row ≡ get_or rows i row → name ≡ string_bytes row.name → new ≡ old ++ name ∷ [] → old ≡ names_of_poses (map pose_texts (take i rows))
    → new ≡ names_of_poses (map pose_texts (take (i + 1) rows))
pose_name_more rows i row old new name l is same pushed before =
    let own = λ (pose : PoseTexts). pose.name in
    pushed
    ∙ ap (λ a. old ++ a ∷ []) same
    ∙ ap (λ ns. ns ++ string_bytes row.name ∷ []) before
    ∙ sym (ap (map own) (map_row_more pose_texts rows i row l is) ∙ map-append own (map pose_texts (take i rows)) (pose_texts row ∷ []))

pub pose_names_all : (rows : List PoseRow) (i : ℕ) (names : List Text) → length rows ≤ i → names ≡ names_of_poses (map pose_texts (take i rows)) → names ≡ names_of_poses (map pose_texts rows)
pose_names_all rows i names l before = before ∙ ap (λ ps. names_of_poses (map pose_texts ps)) (take_all i rows l)

-- ---- machines

pub machine_by : (zones places : KindNames) (poses : List PoseTexts) (row made : MachineRow)
    → string_bytes made.name ≡ string_bytes row.name
    → map string_bytes made.places.items ≡ texts_here places (map string_bytes row.places.items)
    → map string_bytes made.sources.items ≡ texts_here places (map string_bytes row.sources.items)
    → map string_bytes made.sinks.items ≡ texts_here places (map string_bytes row.sinks.items)
    → map pose_texts made.poses.items ≡ poses
    → map string_bytes made.sensors.items ≡ map string_bytes row.sensors.items
    → map string_bytes made.program.items ≡ lines_here zones places (poses_on (map pose_texts row.poses.items) poses) (map string_bytes row.program.items)
    → machine_texts made ≡ machine_with zones places poses (machine_texts row)
machine_by zones places poses row made a b c d e f g = cc

pub machines_more : (zones places : KindNames) (poses : List ℕ) (made new : List MachineRow) (machine row : MachineRow) (rows : List MachineRow) (i first next : ℕ) → i < length rows → row ≡ get_or rows i row
    → machine_texts machine ≡ machine_with zones places (poses_here first poses (map pose_texts row.poses.items)) (machine_texts row) → new ≡ made ++ machine ∷ [] → next ≡ first + length row.poses.items
    → map machine_texts new ++ machines_from zones places poses next (map machine_texts (drop (i + 1) rows)) ≡ map machine_texts made ++ machines_from zones places poses first (map machine_texts (drop i rows))
unfolding machines_from
machines_more zones places poses made new machine row rows i first next l is one pushed counted =
    let left = map machine_texts (drop (i + 1) rows) in
    let here : machines_from zones places poses first (map machine_texts (drop i rows)) ≡ machine_texts machine ∷ machines_from zones places poses next left
    = at_drop_more (λ rs. machines_from zones places poses first (map machine_texts rs)) rows i row l
    ∙ ap (λ (r : MachineRow). machine_with zones places (poses_here first poses (map pose_texts r.poses.items)) (machine_texts r) ∷ machines_from zones places poses (first + length (map pose_texts r.poses.items)) left) (sym is)
    ∙ ap (λ m. m ∷ machines_from zones places poses (first + length (map pose_texts row.poses.items)) left) (sym one)
    ∙ ap (λ n. machine_texts machine ∷ machines_from zones places poses n left) (ap (λ n. first + n) (length-map row.poses.items pose_texts) ∙ sym counted) in
    ap (λ ms. map machine_texts ms ++ machines_from zones places poses next left) pushed
    ∙ ap (λ ts. ts ++ machines_from zones places poses next left) (map-append machine_texts made (machine ∷ []))
    ∙ append_assoc (map machine_texts made) (machine_texts machine ∷ []) (machines_from zones places poses next left)
    ∙ ap (λ ts. map machine_texts made ++ ts) (sym here)

pub machines_end : (zones places : KindNames) (poses : List ℕ) (made rows : List MachineRow) (i first : ℕ) → length rows ≤ i → map machine_texts made ++ machines_from zones places poses first (map machine_texts (drop i rows)) ≡ map machine_texts made
unfolding machines_from
machines_end zones places poses made rows i first l =
    ap (λ ts. map machine_texts made ++ ts) (at_drop_all (λ rs. machines_from zones places poses first (map machine_texts rs)) rows i l) ∙ append-nil (map machine_texts made)

-- ---- names

pub names_more : (names copies : List Text) (n : ℕ) → n < length names → copies ≡ take n names → copies ++ option_to_list (slice_get names n) ≡ take (n + 1) names
names_more names copies n l before =
    ap (λ xs. xs ++ option_to_list (slice_get names n)) before
    ∙ ap (λ o. take n names ++ option_to_list o) (slice_get-get_or names n [] l)
    ∙ sym (take_more names n [] l)

pub name_found : (names : List Text) (n : ℕ) → n < length names → name_in names n ∷ [] ≡ option_to_list (slice_get names n)
name_found names n l = ap option_to_list (sym (slice_get-get_or names n [] l))

pub name_missed : (names : List Text) (n : ℕ) → length names ≤ n → [] ≡ option_to_list (slice_get names n)
name_missed names n l = ap option_to_list (sym (slice_get_past names n l))

-- ---- plans of words

pub all_pushed : {X : Type 0} (P : ℕ → X → Type 0) (xs ys : List X) (x : X) → ((k : ℕ) (y : X) → slice_get xs k ≡ Some y → P k y) → P (length xs) x → ys ≡ xs ++ x ∷ [] → (k : ℕ) (y : X) → slice_get ys k ≡ Some y → P k y
all_pushed {X = X} P xs ys x all last pushed k y is = at xs P k all last (sym (ap (λ zs. slice_get zs k) pushed) ∙ is)
  where
    at : (xs : List X) (P : ℕ → X → Type 0) (k : ℕ) → ((k : ℕ) (y : X) → slice_get xs k ≡ Some y → P k y) → P (length xs) x → slice_get (xs ++ x ∷ []) k ≡ Some y → P k y
    at [] P zero all last is = let same : x ≡ y = cc in subst (P 0) same last
    at [] P (suc k) all last is = cc
    at (z ∷ xs) P zero all last is = all 0 y is
    at (z ∷ xs) P (suc k) all last is = at xs (λ n. P (suc n)) k (λ n y is. all (suc n) y is) last is
