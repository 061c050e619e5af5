-- A plant on several words: its limits, the rules of its rows, and which groups share a word.
use Rattle.std.specs.Prelude.{ℕ, ◌+◌, ◌<◌, ◌≤◌, Bool, ◌&&◌, not, nat_eq, nat_lt, nat_le, List, [], ◌∷◌, ◌++◌, length}
use Rattle.std.specs.Prelude.{map, get_or, set, Option, if◌then◌else◌}
use Rattle.std.specs.List.{list_any}
use Rattle.plan_types.specs.declared.fault.PlanFault.{PlanFault}
use Rattle.plan_types.specs.declared.fault.PlanFault.TheVariants.{NoSuchMachine}
use Rattle.plan_types.specs.Below.{first_below, any_below}
use Rattle.plan_types.specs.Table.{PlanTable, plan_table, zone_count, pose_count, place_count, pose_row, machine_of}
use Rattle.plan_types.specs.Table.{word_width}
use Rattle.plan_types.specs.Plan.{IsPlan}
use Rattle.plan_types.specs.Faults.{◌or◌, unless, keeper_fault, zone_fault, foreign_fault, space_fault, halves_fault}
use Rattle.plan_words.specs.Group.{Group, past}
use Rattle.plan_words.specs.Groups.{IsLargePlan, zones_of, label_of, labels_of, labelled, table_of}
use Rattle.plan_words.specs.Run.{Word, IsLaidOut}

-- ---- what a plant may have

pub record FitsPlant (t : PlanTable) : Type 0 where
  pub machines : t.machines ≤ 30
  pub zones : zone_count t ≤ 40
  pub poses : pose_count t ≤ 255
  pub places : place_count t ≤ 255

-- ---- the rules of a plan, of any number of rows

-- a pose gives a posture to a zone that its machine doesn't host: of all zones that its row has
abbrev pub pose_fault : PlanTable → ℕ → Option PlanFault
pose_fault t p =
    unless (nat_lt (machine_of t p) t.machines) (NoSuchMachine p)
    or first_below (foreign_fault t p) (length (pose_row t p).gives)

abbrev pub row_fault : PlanTable → Option PlanFault
row_fault t =
    first_below (keeper_fault t) (place_count t)
    or first_below (zone_fault t) (zone_count t)
    or first_below (pose_fault t) (pose_count t)
    or first_below (space_fault t) (zone_count t)
    or first_below (halves_fault t) (pose_count t)

-- ---- the words

-- a zone is the first one of its group: no zone before it has its label
abbrev pub is_first : List ℕ → ℕ → Bool
is_first labels z = not (any_below (λ y. nat_eq (label_of labels y) (label_of labels z)) z)

abbrev pub first_zones : PlanTable → List ℕ
first_zones t = zones_of t (is_first (labels_of t))

-- the labels of the groups, in the order of their first zones; then that of the poses and places that need no zone
abbrev pub group_labels : PlanTable → List ℕ
group_labels t = map (label_of (labels_of t)) (first_zones t) ++ zone_count t ∷ []

-- groups that share a word, by their labels: what they have together, by the plant's numbers, which rise
abbrev pub together : PlanTable → List ℕ → Group
together t labels = labelled t (λ l. list_any (nat_eq l) labels)

-- it fits a word, computed
abbrev pub fits : PlanTable → Group → Bool
fits t g =
    nat_le t.machines 30 && nat_le (length g.zones) 10 && nat_le (length g.poses) 64 && nat_le (length g.places) 16
    && nat_le (word_width (table_of t g)) 64

-- the first word that has room for one group more; if none has, the word after all
abbrev pub first_room : PlanTable → ℕ → List (List ℕ) → ℕ
first_room t n [] = 0
first_room t n (word ∷ words) = if fits t (together t (word ++ n ∷ [])) then 0 else 1 + first_room t n words

-- words with one group more on this word, or on a new one
abbrev pub put_on : ℕ → ℕ → List (List ℕ) → List (List ℕ)
put_on n k words = if nat_lt k (length words) then set words k (get_or words k [] ++ n ∷ []) else words ++ (n ∷ []) ∷ []

-- each group goes to the first word that has room for it
abbrev pub all_put_on : PlanTable → List ℕ → List (List ℕ) → List (List ℕ)
all_put_on t [] words = words
all_put_on t (n ∷ labels) words = all_put_on t labels (put_on n (first_room t n words) words)

-- the groups of each word
abbrev pub sharers : PlanTable → List (List ℕ)
sharers t = all_put_on t (group_labels t) []

abbrev pub shared_word : PlanTable → List ℕ → Word
shared_word t labels = record { group = together t labels; table = table_of t (together t labels) }

abbrev pub words_of : PlanTable → List Word
words_of t = map (shared_word t) (sharers t)

-- a plant, and its words: each by its number
pub record PlantWords : Type 0 where
  pub plant : PlanTable
  pub words : List Word

abbrev pub no_word : Word
no_word = record { group = record { zones = []; poses = []; places = [] }; table = plan_table 0 [] [] [] }

abbrev pub word_at : PlantWords → ℕ → Word
word_at v n = get_or v.words n no_word

-- each word's tables are a plan
abbrev pub ArePlans : List Word → Type 0
ArePlans words = (n : ℕ) → n < length words → IsPlan (get_or words n no_word).table

-- each of these groups is a plan on a word of its own
abbrev pub AreAlonePlans : PlanTable → List ℕ → Type 0
AreAlonePlans t labels =
    (n : ℕ) → n < length labels → IsPlan (shared_word t (get_or labels n past ∷ [])).table

-- the plant is laid out on its words, of which there are sixteen at most
pub record IsOnWords (v : PlantWords) : Type 0 where
  pub large : IsLargePlan v.plant
  pub laid_out : IsLaidOut v.plant (length v.words) (word_at v)
  pub few : length v.words ≤ 16
