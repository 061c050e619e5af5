-- What rows say, one row after another.
use Rattle.std.proofs.Common.{◌≡◌, ◌∙◌, ◌+◌, ◌<◌, ◌≤◌, ◌++◌, ◌∷◌, [], ℕ, List, Bool, true, length, map, take, get_or, refl, append_assoc, sym, ap, subst, arith, take_all, string_bytes}
use Rattle.std.specs.Prelude.{String}
use Rattle.std.specs.declared.alloc.Global.{Global}
use Rattle.std.proofs.lemmas.List.{flat_map_more, length-take-le, map_more, map_push, take_more}
use Rattle.std.proofs.lemmas.List.Folds.{list_all-append}
use Rattle.std.specs.List.{AllZip, enumerate_from, flat_map, list_all}
use Rattle.plan_text.specs.Names.{Text, is_name}
use Rattle.plan_document.specs.Names.{AreNames, all_poses, hazard_names, identifier, identifiers, identifiers_in, machine_names, motor_names, names_in, numbered, numbered_poses, place_names, places_in, pose_names, sensor_identifiers, sensor_identifiers_in, sensor_names, sensors_in, space_before, space_name, space_names, taken_in, taken_names, zone_names}
use Rattle.plan_document.specs.Saying.{ends_in, place_rows}
use Rattle.plan_document.specs.declared.document.HazardRow.{HazardRow}
use Rattle.plan_document.specs.declared.document.MachineRow.{MachineRow}
use Rattle.plan_document.specs.declared.document.MotorRow.{MotorRow}
use Rattle.plan_document.specs.declared.document.PoseRow.{PoseRow}
use Rattle.plan_document.specs.declared.document.ZoneRow.{ZoneRow}

-- ---- any rows

pub row_more : {X : Type 0} (xs : List X) (i : ℕ) (x : X) → i < length xs → x ≡ get_or xs i x → take (i + 1) xs ≡ take i xs ++ x ∷ []
row_more xs i x h is = take_more xs i x h ∙ ap (λ z. take i xs ++ z ∷ []) (sym is)

pub map_row_more : {X Y : Type 0} (f : X → Y) (xs : List X) (i : ℕ) (x : X) → i < length xs → x ≡ get_or xs i x → map f (take (i + 1) xs) ≡ map f (take i xs) ++ f x ∷ []
map_row_more f xs i x h is = map_more f xs i x h ∙ ap (λ z. map f (take i xs) ++ f z ∷ []) (sym is)

flat_row_more : {X A : Type 0} (f : X → List A) (xs : List X) (i : ℕ) (x : X) → i < length xs → x ≡ get_or xs i x → flat_map f (take (i + 1) xs) ≡ flat_map f (take i xs) ++ f x
flat_row_more f xs i x h is = ap (flat_map f) (row_more xs i x h is) ∙ sym (flat_map_more f [] (take i xs) x)

pub zip_push : {A B : Type 0} (R : A → B → Type 0) (xs : List A) (ys : List B) (x : A) (y : B) → AllZip R xs ys → R x y → AllZip R (xs ++ x ∷ []) (ys ++ y ∷ [])
zip_push R [] [] x y all one = (one, tt)
zip_push R [] (b ∷ ys) x y all one = absurd all
zip_push R (a ∷ xs) [] x y all one = absurd all
zip_push R (a ∷ xs) (b ∷ ys) x y all one = (all.0, zip_push R xs ys x y all.1 one)

-- one more row, and the row of a table that it says
pub zip_more : {A B : Type 0} (R : A → B → Type 0) (xs : List A) (i : ℕ) (x : A) (ys zs : List B) (y : B) → i < length xs → x ≡ get_or xs i x → AllZip R (take i xs) ys → R x y → zs ≡ ys ++ y ∷ [] → AllZip R (take (i + 1) xs) zs
zip_more R xs i x ys zs y h is all one pushed =
    subst (λ rows. AllZip R rows zs) (sym (row_more xs i x h is)) (subst (AllZip R (take i xs ++ x ∷ [])) (sym pushed) (zip_push R (take i xs) ys x y all one))

pub zip_all : {A B : Type 0} (R : A → B → Type 0) (xs : List A) (i : ℕ) (ys : List B) → length xs ≤ i → AllZip R (take i xs) ys → AllZip R xs ys
zip_all R xs i ys h all = subst (λ rows. AllZip R rows ys) (take_all i xs h) all

-- ---- names

pub machine_names_more : (rows : List MachineRow) (i : ℕ) (row : MachineRow) → i < length rows → row ≡ get_or rows i row → machine_names (take (i + 1) rows) ≡ machine_names (take i rows) ++ string_bytes row.name ∷ []
machine_names_more rows i row h is = map_row_more (λ (r : MachineRow). string_bytes r.name) rows i row h is

pub zone_names_more : (rows : List ZoneRow) (i : ℕ) (row : ZoneRow) → i < length rows → row ≡ get_or rows i row → zone_names (take (i + 1) rows) ≡ zone_names (take i rows) ++ string_bytes row.name ∷ []
zone_names_more rows i row h is = map_row_more (λ (r : ZoneRow). string_bytes r.name) rows i row h is

pub space_names_more : (rows : List ZoneRow) (i : ℕ) (row : ZoneRow) → i < length rows → row ≡ get_or rows i row → space_names (take (i + 1) rows) ≡ space_names (take i rows) ++ space_name row ∷ []
space_names_more rows i row h is = map_row_more space_name rows i row h is

pub taken_names_more : (rows : List ZoneRow) (i : ℕ) (row : ZoneRow) → i < length rows → row ≡ get_or rows i row → taken_names (take (i + 1) rows) ≡ (taken_names (take i rows) ++ space_before row) ++ string_bytes row.name ∷ []
taken_names_more rows i row h is =
    flat_row_more taken_in rows i row h is ∙ sym (append_assoc (taken_names (take i rows)) (space_before row) (string_bytes row.name ∷ []))

pub motor_names_more : (rows : List MotorRow) (i : ℕ) (row : MotorRow) → i < length rows → row ≡ get_or rows i row → motor_names (take (i + 1) rows) ≡ motor_names (take i rows) ++ string_bytes row.name ∷ []
motor_names_more rows i row h is = map_row_more (λ (r : MotorRow). string_bytes r.name) rows i row h is

pub hazard_names_more : (rows : List HazardRow) (i : ℕ) (row : HazardRow) → i < length rows → row ≡ get_or rows i row → hazard_names (take (i + 1) rows) ≡ hazard_names (take i rows) ++ string_bytes row.name ∷ []
hazard_names_more rows i row h is = map_row_more (λ (r : HazardRow). string_bytes r.name) rows i row h is

pub names_in_more : (rows : List PoseRow) (i : ℕ) (row : PoseRow) → i < length rows → row ≡ get_or rows i row → names_in (take (i + 1) rows) ≡ names_in (take i rows) ++ string_bytes row.name ∷ []
names_in_more rows i row h is = map_row_more (λ (r : PoseRow). string_bytes r.name) rows i row h is

pub texts_more : (texts : List (String Global)) (i : ℕ) (text : String Global) → i < length texts → text ≡ get_or texts i text → map string_bytes (take (i + 1) texts) ≡ map string_bytes (take i texts) ++ string_bytes text ∷ []
texts_more texts i text h is = map_row_more string_bytes texts i text h is

pub place_names_more : (rows : List MachineRow) (i : ℕ) (row : MachineRow) → i < length rows → row ≡ get_or rows i row → place_names (take (i + 1) rows) ≡ place_names (take i rows) ++ places_in row
place_names_more rows i row h is = flat_row_more places_in rows i row h is

pub pose_names_more : (rows : List MachineRow) (i : ℕ) (row : MachineRow) → i < length rows → row ≡ get_or rows i row → pose_names (take (i + 1) rows) ≡ pose_names (take i rows) ++ names_in row.poses.items
pose_names_more rows i row h is = flat_row_more (λ (r : MachineRow). names_in r.poses.items) rows i row h is

pub identifiers_in_more : (machine : Text) (rows : List PoseRow) (i : ℕ) (row : PoseRow) → i < length rows → row ≡ get_or rows i row → identifiers_in machine (take (i + 1) rows) ≡ identifiers_in machine (take i rows) ++ identifier machine (string_bytes row.name) ∷ []
identifiers_in_more machine rows i row h is = map_row_more (λ (r : PoseRow). identifier machine (string_bytes r.name)) rows i row h is

pub identifiers_more : (rows : List MachineRow) (i : ℕ) (row : MachineRow) → i < length rows → row ≡ get_or rows i row → identifiers (take (i + 1) rows) ≡ identifiers (take i rows) ++ identifiers_in (string_bytes row.name) row.poses.items
identifiers_more rows i row h is = flat_row_more (λ (r : MachineRow). identifiers_in (string_bytes r.name) r.poses.items) rows i row h is

pub sensor_names_more : (rows : List MachineRow) (i : ℕ) (row : MachineRow) → i < length rows → row ≡ get_or rows i row → sensor_names (take (i + 1) rows) ≡ sensor_names (take i rows) ++ sensors_in row ∷ []
sensor_names_more rows i row h is = map_row_more sensors_in rows i row h is

pub sensor_identifiers_in_more : (machine : Text) (names : List (String Global)) (i : ℕ) (name : String Global) → i < length names → name ≡ get_or names i name
    → map (λ (n : String Global). identifier machine (string_bytes n)) (take (i + 1) names) ≡ map (λ (n : String Global). identifier machine (string_bytes n)) (take i names) ++ identifier machine (string_bytes name) ∷ []
sensor_identifiers_in_more machine names i name h is = map_row_more (λ (n : String Global). identifier machine (string_bytes n)) names i name h is

pub sensor_identifiers_more : (rows : List MachineRow) (i : ℕ) (row : MachineRow) → i < length rows → row ≡ get_or rows i row → sensor_identifiers (take (i + 1) rows) ≡ sensor_identifiers (take i rows) ++ sensor_identifiers_in row
sensor_identifiers_more rows i row h is = flat_row_more sensor_identifiers_in rows i row h is

-- a name is free if the names before it are
pub free_more : (free : Text → Bool) (names : List Text) (name : Text) → list_all free names ≡ true → free name ≡ true → list_all free (names ++ name ∷ []) ≡ true
free_more free names name all one = list_all-append free names (name ∷ []) ∙ rw (all, one) refl

-- and so are names
pub names_more : (names : List Text) (name : Text) (more : List Text) → AreNames names → is_name name ≡ true → more ≡ names ++ name ∷ [] → AreNames more
names_more names name more all one pushed = ap (list_all is_name) pushed ∙ free_more is_name names name all one

-- names of all rows, once none is left
pub names_all : {X A : Type 0} (f : X → A) (rows : List X) (i : ℕ) (names : List A) → length rows ≤ i → names ≡ map f (take i rows) → names ≡ map f rows
names_all f rows i names l before = before ∙ ap (map f) (take_all i rows l)

-- one more name
pub name_more : {X A : Type 0} (f : X → A) (rows : List X) (i : ℕ) (row : X) (old new : List A) (name : A) → i < length rows → row ≡ get_or rows i row → name ≡ f row → new ≡ old ++ name ∷ [] → old ≡ map f (take i rows) → new ≡ map f (take (i + 1) rows)
name_more f rows i row old new name l is same pushed before =
    pushed ∙ ap (λ a. old ++ a ∷ []) same ∙ ap (λ ns. ns ++ f row ∷ []) before ∙ sym (map_row_more f rows i row l is)

-- one more name after those at the start, and all of them
pub listed_more : {X A : Type 0} (f : X → A) (start : List A) (rows : List X) (i : ℕ) (row : X) (old new : List A) (name : A) → i < length rows → row ≡ get_or rows i row → name ≡ f row → new ≡ old ++ name ∷ [] → old ≡ start ++ map f (take i rows)
    → new ≡ start ++ map f (take (i + 1) rows)
listed_more f start rows i row old new name l is same pushed before =
    pushed
    ∙ ap (λ a. old ++ a ∷ []) same
    ∙ ap (λ ns. ns ++ f row ∷ []) before
    ∙ append_assoc start (map f (take i rows)) (f row ∷ [])
    ∙ ap (λ ns. start ++ ns) (sym (map_row_more f rows i row l is))

pub listed_all : {X A : Type 0} (f : X → A) (start : List A) (rows : List X) (i : ℕ) (names : List A) → length rows ≤ i → names ≡ start ++ map f (take i rows) → names ≡ start ++ map f rows
listed_all f start rows i names l before = before ∙ ap (λ xs. start ++ map f xs) (take_all i rows l)

-- ---- numbered rows

pub number_push : {X : Type 0} (n : ℕ) (xs : List X) (x : X) → enumerate_from n (xs ++ x ∷ []) ≡ enumerate_from n xs ++ (n + length xs, x) ∷ []
number_push n [] x = let e : n ≡ n + 0 = omega arith in ap (λ k. (k, x) ∷ []) e
number_push n (y ∷ ys) x =
    let e : n + 1 + length ys ≡ n + length (y ∷ ys) = omega arith in
    ap (λ zs. (n, y) ∷ zs) (number_push (n + 1) ys x ∙ ap (λ k. enumerate_from (n + 1) ys ++ (k, x) ∷ []) e)

pub numbered_more : (rows : List MachineRow) (i : ℕ) (row : MachineRow) → i < length rows → row ≡ get_or rows i row → numbered (take (i + 1) rows) ≡ numbered (take i rows) ++ (i, row) ∷ []
numbered_more rows i row h is =
    let count : 0 + length (take i rows) ≡ i = omega (arith, length-take-le i rows (omega arith)) in
    ap (enumerate_from 0) (row_more rows i row h is) ∙ number_push 0 (take i rows) row ∙ ap (λ k. numbered (take i rows) ++ (k, row) ∷ []) count

flat_numbered_more : {A : Type 0} (f : ℕ × MachineRow → List A) (rows : List MachineRow) (i : ℕ) (row : MachineRow) → i < length rows → row ≡ get_or rows i row → flat_map f (numbered (take (i + 1) rows)) ≡ flat_map f (numbered (take i rows)) ++ f (i, row)
flat_numbered_more f rows i row h is = ap (flat_map f) (numbered_more rows i row h is) ∙ sym (flat_map_more f [] (numbered (take i rows)) (i, row))

pub place_rows_more : (rows : List MachineRow) (i : ℕ) (row : MachineRow) → i < length rows → row ≡ get_or rows i row → place_rows (take (i + 1) rows) ≡ place_rows (take i rows) ++ ends_in i row
place_rows_more rows i row h is = flat_numbered_more (λ (r : ℕ × MachineRow). ends_in r.0 r.1) rows i row h is

pub all_poses_more : (rows : List MachineRow) (i : ℕ) (row : MachineRow) → i < length rows → row ≡ get_or rows i row → all_poses (take (i + 1) rows) ≡ all_poses (take i rows) ++ numbered_poses i row.poses.items
all_poses_more rows i row h is = flat_numbered_more (λ (r : ℕ × MachineRow). numbered_poses r.0 r.1.poses.items) rows i row h is

pub numbered_poses_more : (machine : ℕ) (rows : List PoseRow) (i : ℕ) (row : PoseRow) → i < length rows → row ≡ get_or rows i row → numbered_poses machine (take (i + 1) rows) ≡ numbered_poses machine (take i rows) ++ (machine, row) ∷ []
numbered_poses_more machine rows i row h is = map_row_more (λ (r : PoseRow). (machine, r)) rows i row h is

-- ---- rows of tables

-- one more row of which something is said, and what is said of it
pub mapped_more : {X A B : Type 0} (f : X → A) (R : A → B → Type 0) (xs : List X) (i : ℕ) (x : X) (ys zs : List B) (y : B) → i < length xs → x ≡ get_or xs i x → AllZip R (map f (take i xs)) ys → R (f x) y → zs ≡ ys ++ y ∷ [] → AllZip R (map f (take (i + 1) xs)) zs
mapped_more f R xs i x ys zs y h is all one pushed =
    subst (λ rows. AllZip R rows zs) (sym (map_row_more f xs i x h is)) (subst (AllZip R (map f (take i xs) ++ f x ∷ [])) (sym pushed) (zip_push R (map f (take i xs)) ys (f x) y all one))

pub mapped_all : {X A B : Type 0} (f : X → A) (R : A → B → Type 0) (xs : List X) (i : ℕ) (ys : List B) → length xs ≤ i → AllZip R (map f (take i xs)) ys → AllZip R (map f xs) ys
mapped_all f R xs i ys h all = subst (λ rows. AllZip R (map f rows) ys) (take_all i xs h) all

pub numbered_zip_more : {X B : Type 0} (R : ℕ × MachineRow → B → Type 0) (f : X → B) (rows : List MachineRow) (i : ℕ) (row : MachineRow) (ys zs : List X) (y : X) → i < length rows → row ≡ get_or rows i row → AllZip R (numbered (take i rows)) (map f ys) → R (i, row) (f y) → zs ≡ ys ++ y ∷ [] → AllZip R (numbered (take (i + 1) rows)) (map f zs)
numbered_zip_more R f rows i row ys zs y h is all one pushed =
    subst (λ ns. AllZip R ns (map f zs)) (sym (numbered_more rows i row h is))
    (subst (AllZip R (numbered (take i rows) ++ (i, row) ∷ [])) (sym (ap (map f) pushed ∙ map_push f ys y)) (zip_push R (numbered (take i rows)) (map f ys) (i, row) (f y) all one))

pub poses_more : {B : Type 0} (R : ℕ × PoseRow → B → Type 0) (before : List (ℕ × PoseRow)) (machine : ℕ) (rows : List PoseRow) (i : ℕ) (row : PoseRow) (ys zs : List B) (y : B) → i < length rows → row ≡ get_or rows i row
    → AllZip R (before ++ numbered_poses machine (take i rows)) ys → R (machine, row) y → zs ≡ ys ++ y ∷ [] → AllZip R (before ++ numbered_poses machine (take (i + 1) rows)) zs
poses_more R before machine rows i row ys zs y h is all one pushed =
    subst (λ ns. AllZip R ns zs) same
    (subst (AllZip R ((before ++ numbered_poses machine (take i rows)) ++ (machine, row) ∷ [])) (sym pushed) (zip_push R (before ++ numbered_poses machine (take i rows)) ys (machine, row) y all one))
  where
    same : (before ++ numbered_poses machine (take i rows)) ++ (machine, row) ∷ [] ≡ before ++ numbered_poses machine (take (i + 1) rows)
    same = append_assoc before (numbered_poses machine (take i rows)) ((machine, row) ∷ []) ∙ ap (λ ns. before ++ ns) (sym (numbered_poses_more machine rows i row h is))
