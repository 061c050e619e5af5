-- The faults of a plant's words.
use Rattle.std.proofs.Common.{◌≡◌, ℕ, zero, suc, ◌+◌, ◌<◌, ◌≤◌, inl, inr, true, false, nat_eq, nat_le, List, ◌∷◌, [], ◌++◌, length, map, get_or, take, Option, Some, refl, sym, subst, ap, ◌∙◌, arith}
use Rattle.std.specs.List.{list_any}
use Rattle.std.proofs.lemmas.Bool.{le-leb, false_from_ne_true}
use Rattle.std.proofs.lemmas.List.{length-map, take_more, map-append, get_or-map}
use Rattle.plan_types.specs.declared.fault.PlanFault.{PlanFault}
use Rattle.plan_types.specs.declared.fault.PlanFault.TheVariants.{TooManyMachines, TooManyZones, TooManyPoses, TooManyPlaces}
use Rattle.plan_types.specs.Table.{PlanTable, zone_count, pose_count, place_count, place_row}
use Rattle.plan_types.specs.Plan.{IsPlan}
use Rattle.plan_types.specs.Faults.{◌or◌, unless, plan_fault}
use Rattle.plan_types.proofs.lemmas.Below.{below_next}
use Rattle.plan_types.proofs.lemmas.Checked.{count_fault_first, no_plan_with_fault}
use Rattle.plan_words.specs.declared.fault.PlantFault.{PlantFault}
use Rattle.plan_words.specs.declared.fault.PlantFault.TheVariants.{TooMany, OfRow, OfWord, OutOfMemory}
use Rattle.plan_words.specs.Group.{Group, past}
use Rattle.plan_words.specs.Groups.{IsLargePlan, zone_in, pose_in, table_of}
use Rattle.plan_words.specs.Run.{Word}
use Rattle.plan_words.specs.Plant.{group_labels, together, fits, shared_word, no_word, ArePlans}
use Rattle.plan_words.specs.PlantFaults.{count_fault, IsWordFault, IsFaultOfSome, Says}
use Rattle.plan_words.proofs.WordOrder.{plan_fits, fit_is_plan}

-- a group with too many rows is no plan, for these
counts : (machines zones poses places : ℕ) (a b c : ℕ) → machines ≤ 30 → zones ≡ a → poses ≡ b → places ≡ c
    → (unless (nat_le machines 30) TooManyMachines or unless (nat_le zones 10) TooManyZones or unless (nat_le poses 64) TooManyPoses or unless (nat_le places 16) TooManyPlaces)
    ≡ (unless (nat_le a 10) TooManyZones or unless (nat_le b 64) TooManyPoses or unless (nat_le c 16) TooManyPlaces)
counts machines zones poses places a b c few e f g =
    ap (λ x. unless x TooManyMachines or unless (nat_le zones 10) TooManyZones or unless (nat_le poses 64) TooManyPoses or unless (nat_le places 16) TooManyPlaces) (le-leb machines 30 few)
    ∙ (ap (λ n. unless (nat_le n 10) TooManyZones or unless (nat_le poses 64) TooManyPoses or unless (nat_le places 16) TooManyPlaces) e
    ∙ (ap (λ n. unless (nat_le a 10) TooManyZones or unless (nat_le n 64) TooManyPoses or unless (nat_le places 16) TooManyPlaces) f
    ∙ ap (λ n. unless (nat_le a 10) TooManyZones or unless (nat_le b 64) TooManyPoses or unless (nat_le n 16) TooManyPlaces) g))

pub count_first : (t : PlanTable) (g : Group) (fault : PlanFault) → t.machines ≤ 30 → count_fault g ≡ Some fault → plan_fault (table_of t g) ≡ Some fault
count_first t g fault few e =
    count_fault_first (table_of t g) fault
    (counts t.machines (zone_count (table_of t g)) (pose_count (table_of t g)) (place_count (table_of t g)) (length g.zones) (length g.poses) (length g.places) few
    (length-map g.zones (zone_in t g)) (length-map g.poses (pose_in t g)) (length-map g.places (place_row t))
    ∙ e)

-- a group that doesn't fit a word is the plant's fault
pub says_some : (t : PlanTable) (fault : PlantFault) → IsFaultOfSome t (group_labels t) fault → Says t fault
says_some t (TooMany limit) f = absurd f.2
says_some t (OfRow fault) f = absurd f.2
says_some t (OfWord first fault) f = f
says_some t OutOfMemory f = tt

-- one word more
pub words_more : (f : List ℕ → Word) (made : List Word) (xs : List (List ℕ)) (i : ℕ) (d : List ℕ) (word : Word) → i < length xs → made ≡ map f (take i xs) → word ≡ f (get_or xs i d) → made ++ word ∷ [] ≡ map f (take (i + 1) xs)
words_more f made xs i d word l e is =
    ap (λ ws. ws ++ word ∷ []) e
    ∙ (ap (λ x. map f (take i xs) ++ x ∷ []) is
    ∙ sym (ap (map f) (take_more xs i d l) ∙ map-append f (take i xs) (get_or xs i d ∷ [])))

pub plan_at : (t : PlanTable) (sharers : List (List ℕ)) (i : ℕ) (d : List ℕ) → ArePlans (map (shared_word t) sharers) → i < length sharers → IsPlan (shared_word t (get_or sharers i d)).table
plan_at t sharers i d plans l =
    let long = length-map sharers (shared_word t) in
    subst (λ (w : Word). IsPlan w.table) (get_or-map (shared_word t) sharers i d no_word l) (plans i (omega (arith, l, long)))

-- one group more is a plan on a word of its own
pub alone_more : (t : PlanTable) (groups : List ℕ) (i d : ℕ) (word : Word) → i < length groups → ((n : ℕ) → n < i → IsPlan (shared_word t (get_or groups n past ∷ [])).table) → word ≡ shared_word t (get_or groups i d ∷ []) → IsPlan word.table
    → (n : ℕ) → n < i + 1 → IsPlan (shared_word t (get_or groups n past ∷ [])).table
alone_more t groups i d word l before is plan n m = elim (below_next n i (omega (arith, m))) [
  | inl h ↦ before n h
  | inr e ↦ subst (λ k. IsPlan (shared_word t (get_or groups k past ∷ [])).table) (sym e)
      (subst (λ (w : Word). IsPlan w.table) (is ∙ ap (λ x. shared_word t (x ∷ [])) (same_default groups i d past l)) plan)
]
  where
    same_default : (xs : List ℕ) (k a b : ℕ) → k < length xs → get_or xs k a ≡ get_or xs k b
    same_default [] k a b m = absurd (omega (arith, m))
    same_default (x ∷ xs) zero a b m = refl
    same_default (x ∷ xs) (suc k) a b m = same_default xs k a b (omega (arith, m))

-- groups that are a plan on a word have no fault but for memory
pub only_memory : (t : PlanTable) (labels : List ℕ) (fault : PlantFault) → IsPlan (shared_word t labels).table → IsWordFault t labels fault → fault ≡ OutOfMemory
only_memory t labels (TooMany limit) plan f = absurd f
only_memory t labels (OfRow fault) plan f = absurd f
only_memory t labels (OfWord first fault) plan f = absurd (no_plan_with_fault (table_of t (together t labels)) fault f.1 plan)
only_memory t labels OutOfMemory plan f = refl

pub fits_a_word : (t : PlanTable) (labels : List ℕ) (word : Word) → word ≡ shared_word t labels → IsPlan word.table → true ≡ fits t (together t labels)
fits_a_word t labels word is plan = sym (plan_fits t (together t labels) (subst (λ (w : Word). IsPlan w.table) is plan))

pub fits_none : (t : PlanTable) (labels : List ℕ) (first : Option ℕ) (fault : PlanFault) → IsLargePlan t → IsWordFault t labels (OfWord first fault) → false ≡ fits t (together t labels)
fits_none t labels first fault large f =
    sym (false_from_ne_true (fits t (together t labels)) (λ e.
    no_plan_with_fault (table_of t (together t labels)) fault f.1 (fit_is_plan t (λ l. list_any (nat_eq l) labels) large e)))
