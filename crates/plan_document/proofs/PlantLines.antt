-- Lines of programs, on the words of a plant.
use Rattle.std.proofs.Common.{◌≡◌, ◌∙◌, ◌+◌, ◌<◌, ◌≤◌, ◌++◌, ◌∷◌, [], ℕ, zero, suc, List, false, length, map, get_or, slice_get, Some, None, inl, inr, sym, ap, refl, subst, arith, string_bytes, bytes_eq}
use Rattle.std.specs.List.{list_any}
use Rattle.std.proofs.lemmas.Bool.{cases_lt}
use Rattle.std.proofs.lemmas.Option.{slice_get-get_or}
use Rattle.plan_text.specs.Names.{Text}
use Rattle.plan_words.specs.Plant.{PlantWords, word_at}
use Rattle.plan_document.specs.OnWord.{texts_on}
use Rattle.plan_document.specs.PlantPrograms.{AsksOnWord, lines_of, lines_on}
use Rattle.plan_document.specs.Plants.{AreWordPlansBy, AreWordPlansOf}
use Rattle.plan_document.specs.Texts.{MachineTexts, document_texts, machine_texts}
use Rattle.plan_document.specs.declared.document.Document.{Document}
use Rattle.plan_document.specs.declared.document.MachineRow.{MachineRow}
use Rattle.plan_document.specs.declared.plants.WordPlans.{WordPlans}
use Rattle.plan_document.specs.declared.resolving.ProgrammedPlan.{ProgrammedPlan}
use Rattle.plan_document.proofs.Distinct.{any_mapped}

-- the lines of a machine, and of none past the last
pub lines_at : (rows : List MachineRow) (m : ℕ) (row : MachineRow) → m < length rows → row ≡ get_or rows m row → get_or (map (λ (r : MachineTexts). r.program) (map machine_texts rows)) m [] ≡ map string_bytes row.program.items
lines_at [] m row l is = absurd (omega (arith, l))
lines_at (r ∷ rows) zero row l is = ap (λ (x : MachineRow). map string_bytes x.program.items) (sym is)
lines_at (r ∷ rows) (suc n) row l is = lines_at rows n row (omega (arith, l)) is

pub lines_past : (rows : List MachineRow) (m : ℕ) → length rows ≤ m → get_or (map (λ (r : MachineTexts). r.program) (map machine_texts rows)) m [] ≡ []
lines_past [] m l = refl
lines_past (r ∷ rows) zero l = absurd (omega (arith, l))
lines_past (r ∷ rows) (suc n) l = lines_past rows n (omega (arith, l))

-- whether one of a machine's lines is this one
pub has_line_at : (rows : List MachineRow) (m : ℕ) (row : MachineRow) (line : Text) → m < length rows → row ≡ get_or rows m row → list_any (λ text. bytes_eq (string_bytes text) line) row.program.items ≡ list_any (λ other. bytes_eq other line) (get_or (map (λ (r : MachineTexts). r.program) (map machine_texts rows)) m [])
has_line_at rows m row line l is =
    sym (any_mapped string_bytes (λ other. bytes_eq other line) row.program.items) ∙ ap (list_any (λ other. bytes_eq other line)) (sym (lines_at rows m row l is))

pub no_line_past : (rows : List MachineRow) (m : ℕ) (line : Text) → length rows ≤ m → list_any (λ other. bytes_eq other line) (get_or (map (λ (r : MachineTexts). r.program) (map machine_texts rows)) m []) ≡ false
no_line_past rows m line l = ap (list_any (λ other. bytes_eq other line)) (lines_past rows m l)

-- ---- items of lists

some_same : {X : Type 0} (x y : X) → Some x ≡ Some y → x ≡ y
some_same x y e = cc

pub item_at : {X : Type 0} (xs : List X) (i : ℕ) (x : X) → i < length xs → x ≡ get_or xs i x → slice_get xs i ≡ Some x
item_at xs i x l is = slice_get-get_or xs i x l ∙ ap (λ y. Some y) (sym is)

pub item_same : {X : Type 0} (xs : List X) (i : ℕ) (x y : X) → i < length xs → x ≡ get_or xs i x → slice_get xs i ≡ Some y → x ≡ y
item_same xs i x y l is at = some_same x y (sym (item_at xs i x l is) ∙ at)

pub item_below : {X : Type 0} (xs : List X) (i : ℕ) (x : X) → slice_get xs i ≡ Some x → i < length xs
item_below [] i x at = cc
item_below (y ∷ xs) zero x at = omega arith
item_below (y ∷ xs) (suc i) x at = let l = item_below xs i x at in omega (arith, l)

-- ---- words

-- the document of a word has a line if its texts do
pub line_stands : (d part : Document) (words : PlantWords) (w m : ℕ) (line : Text) → document_texts part ≡ texts_on (document_texts d) (word_at words w).group → list_any (λ other. bytes_eq other line) (lines_of (document_texts part) m) ≡ list_any (λ other. bytes_eq other line) (lines_on d words w m)
line_stands d part words w m line rows = ap (λ texts. list_any (λ other. bytes_eq other line) (lines_of texts m)) rows

-- a word past the last asks nothing
pub none_past : (d : Document) (words : PlantWords) (plans : List ProgrammedPlan) (m : ℕ) (line : Text) → ((w : ℕ) → w < length plans → AsksOnWord d words plans w m line None) → (w : ℕ) → AsksOnWord d words plans w m line None
none_past d words plans m line all w plan at = all w (item_below plans w plan at) plan at

-- one more word
pub none_next : (d : Document) (words : PlantWords) (plans : List ProgrammedPlan) (m : ℕ) (line : Text) (n : ℕ) → ((w : ℕ) → w < n → AsksOnWord d words plans w m line None) → AsksOnWord d words plans n m line None → (w : ℕ) → w < n + 1 → AsksOnWord d words plans w m line None
none_next d words plans m line n all last w l = elim (cases_lt w n) [ inl below ↦ all w below | inr past ↦ subst (λ k. AsksOnWord d words plans k m line None) (omega (arith, l, past)) last ]

-- one more item in each of two lists
pub both_pushed : {X Y : Type 0} (P : ℕ → X → Y → Type 0) (xs xs' : List X) (ys ys' : List Y) (x : X) (y : Y) → length xs ≡ length ys → ((k : ℕ) (a : X) (b : Y) → slice_get xs k ≡ Some a → slice_get ys k ≡ Some b → P k a b) → P (length ys) x y → xs' ≡ xs ++ x ∷ [] → ys' ≡ ys ++ y ∷ []
    → (k : ℕ) (a : X) (b : Y) → slice_get xs' k ≡ Some a → slice_get ys' k ≡ Some b → P k a b
both_pushed {X = X} {Y = Y} P xs xs' ys ys' x y same all last first second k a b at-x at-y =
    at xs ys P k same all last (sym (ap (λ zs. slice_get zs k) first) ∙ at-x) (sym (ap (λ zs. slice_get zs k) second) ∙ at-y)
  where
    at : (xs : List X) (ys : List Y) (P : ℕ → X → Y → Type 0) (k : ℕ) → length xs ≡ length ys → ((k : ℕ) (a : X) (b : Y) → slice_get xs k ≡ Some a → slice_get ys k ≡ Some b → P k a b) → P (length ys) x y → slice_get (xs ++ x ∷ []) k ≡ Some a → slice_get (ys ++ y ∷ []) k ≡ Some b → P k a b
    at [] [] P zero same all last at-x at-y = subst (P 0 a) (some_same y b at-y) (subst (λ c. P 0 c y) (some_same x a at-x) last)
    at [] [] P (suc k) same all last at-x at-y = cc
    at [] (w ∷ ys) P k same all last at-x at-y = absurd (omega (arith, same))
    at (z ∷ xs) [] P k same all last at-x at-y = absurd (omega (arith, same))
    at (z ∷ xs) (w ∷ ys) P zero same all last at-x at-y = all 0 a b at-x at-y
    at (z ∷ xs) (w ∷ ys) P (suc k) same all last at-x at-y = at xs ys (λ n. P (suc n)) k (omega (arith, same)) (λ n. all (suc n)) last at-x at-y

item_there : {X : Type 0} (xs : List X) (i : ℕ) → i < length xs → (x : X) × (slice_get xs i ≡ Some x)
item_there [] i l = absurd (omega (arith, l))
item_there (x ∷ xs) zero l = (x, refl)
item_there (x ∷ xs) (suc i) l = item_there xs i (omega (arith, l))

-- each word has the plan of its document
pub plans_by : (d : Document) (words : PlantWords) (made : WordPlans) → AreWordPlansBy d words made → AreWordPlansOf d words made.plans.items
plans_by d words made by w plan is =
    let below = item_below made.plans.items w plan is in
    let part = item_there made.documents.items w (omega (arith, by.count, below)) in
    (part.0, by.plans w part.0 plan part.1 is)
