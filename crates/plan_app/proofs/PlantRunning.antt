-- A run of a plant's machines: its words' interlocks, the jobs, and what is known at the end.
use Rattle.std.proofs.Common.{◌≡◌, ◌<◌, ◌≤◌, ◌+◌, ◌∙◌, ◌⊎◌, ◌||◌, ℕ, suc, Bool, true, false, List, [], ◌∷◌, ◌++◌}
use Rattle.std.proofs.Common.{length, map, get_or, slice_get, option_map, Option, Some, None, Result, Ok, Err, IfErr}
use Rattle.std.proofs.Common.{inl, inr, ap, sym, subst, refl, nat_eq, nat_lt, arith}
use Rattle.std.specs.Prelude.{if◌then◌else◌, slice_index_or}
use Rattle.std.specs.Option.{option_to_list}
use Rattle.std.specs.Result.{IsErrAnd}
use Rattle.std.specs.Global.{Vec}
use Rattle.std.specs.List.{list_all, range_with_len}
use Rattle.std.proofs.lemmas.Bool.{eqb-false}
use Rattle.std.proofs.lemmas.Bool.Decides.{nat_tests}
use Rattle.std.proofs.lemmas.List.{get_or_append_left, get_or_push, get_or-map, length_push, map_push, same_from_push}
use Rattle.std.proofs.lemmas.List.FromFn.{get_or-map-range_with_len, length-map-range_with_len}
use Rattle.std.proofs.lemmas.Option.{same_Some, slice_get-map}
use Rattle.std.proofs.lemmas.Simd.{map-map}
use Rattle.plan_types.specs.Table.{PlanTable, watch}
use Rattle.plan_types.specs.declared.answer.Event.{Event}
use Rattle.plan_types.proofs.lemmas.Below.{below_next}
use Rattle.plan_rules.specs.declared.state.State.{State}
use Rattle.plan_explorer.specs.Plants.{state_on}
use Rattle.plan_interlock.specs.Book.{plan_of}
use Rattle.plan_interlock.specs.Plant.{PlantPassView, WordView}
use Rattle.plan_interlock.specs.PlantMake.{AreOpened, callers, have_same_machines, machines_in, machines_of, new_pass}
use Rattle.plan_interlock.specs.PlantMake.{plant_fault}
use Rattle.plan_interlock.specs.declared.plant_make.PlantFault.{PlantFault}
use Rattle.plan_interlock.specs.declared.plant_make.PlantFault.TheVariants.{Words, Machines}
use Rattle.plan_interlock.specs.declared.plant_make.WordOpening.{WordOpening}
use Rattle.plan_document.specs.declared.resolving.ProgrammedPlan.{ProgrammedPlan}
use Rattle.plan_workers.specs.PlantClosing.{journals_on}
use Rattle.plan_workers.specs.declared.plant_record.PlantRecorded.{PlantRecorded}
use Rattle.plan_app.specs.PlantRunTexts.{history_on}
use Rattle.plan_app.specs.PlantRuns.{AreUnexplained, AreWordsOf, HasOtherMachines, IsExplained, IsUnexplained}
use Rattle.plan_app.specs.PlantRuns.{machine_count}
use Rattle.plan_app.specs.PlantStarts.{tables_of}
use Rattle.plan_app.specs.Simulated.{Simulation}
use Rattle.plan_app.specs.declared.plant_run.PlantRunFault.{PlantRunFault}

-- ---- what words open with

-- one more, by what is known of each
pub one_more_of : {A B : Type 0} (f : A → B) (xs more : List A) (x : A) (now next : List B) (new : B) → map f xs ≡ now
    → more ≡ xs ++ x ∷ [] → f x ≡ new
    → next ≡ now ++ new ∷ [] → map f more ≡ next
one_more_of f xs more x now next new before pushed is all =
    ap (map f) pushed ∙ map_push f xs x ∙ ap (λ ys. ys ++ f x ∷ []) before ∙ ap (λ y. now ++ y ∷ []) is ∙ sym all

-- ---- the interlock of each word

pub same_count : (plans : List ProgrammedPlan) (openings : List WordOpening)
    → map (λ o. plan_of o.rules) openings ≡ tables_of plans
    → machines_in openings ≡ machine_count plans
same_count [] [] is = refl
same_count [] (o ∷ openings) is = absurd (cc)
same_count (p ∷ plans) [] is = absurd (cc)
same_count (p ∷ plans) (o ∷ openings) is =
    let same : plan_of o.rules ≡ p.named.plan = cc in
    ap (λ (t : PlanTable). t.machines) same

pub words_opened : (plans : List ProgrammedPlan) (starts : List State) (openings : List WordOpening) (tries : ℕ)
    (words : List WordView)
    → map (λ o. plan_of o.rules) openings ≡ tables_of plans → map (λ o. o.state) openings ≡ starts
    → AreOpened openings tries words
    → AreWordsOf plans starts words
words_opened plans starts openings tries words rules states opened = record {
  rules = sym (map-map plan_of (λ (i : WordView). i.rules) words) ∙ ap (map plan_of) opened.rules
      ∙ map-map plan_of (λ (o : WordOpening). o.rules) openings ∙ rules;
  opening = opened.opening ∙ states;
}

-- one doesn't pass
failed : {A : Type 0} (p : A → Bool) (xs : List A) → list_all p xs ≡ false
    → (k : ℕ) × (x : A) × (slice_get xs k ≡ Some x) × (p x ≡ false)
failed p [] none = absurd (cc)
failed {A} p (x ∷ xs) none = by (p x) refl (failed p xs)
  where
    by : (b : Bool) → p x ≡ b → (list_all p xs ≡ false → (k : ℕ) × (y : A) × (slice_get xs k ≡ Some y) × (p y ≡ false))
        → (k : ℕ) × (y : A) × (slice_get (x ∷ xs) k ≡ Some y) × (p y ≡ false)
    by false is later = (0, x, refl, is)
    by true is later = let (k, y, there, not) = later (rw is at none) in (suc k, y, there, not)

mapped : {A B : Type 0} (f : A → B) (o : Option A) (y : B) → option_map f o ≡ Some y
    → (x : A) × (o ≡ Some x) × (f x ≡ y)
mapped f None y is = absurd (cc)
mapped f (Some x) y is = (x, refl, same_Some (f x) y is)

-- the plan of an opening
plan_there : (plans : List ProgrammedPlan) (openings : List WordOpening) (word : ℕ) (o : WordOpening)
    → map (λ o. plan_of o.rules) openings ≡ tables_of plans
    → slice_get openings word ≡ Some o
    → (plan : ProgrammedPlan) × (slice_get plans word ≡ Some plan) × (plan.named.plan ≡ plan_of o.rules)
plan_there plans openings word o is there =
    mapped (λ (p : ProgrammedPlan). p.named.plan) (slice_get plans word) (plan_of o.rules)
    (sym (slice_get-map (λ (p : ProgrammedPlan). p.named.plan) plans word) ∙ ap (λ ts. slice_get ts word) (sym is)
    ∙ slice_get-map (λ (x : WordOpening). plan_of x.rules) openings word
    ∙ ap (option_map (λ (x : WordOpening). plan_of x.rules)) there)

-- the words don't all have the same machines
others : (plans : List ProgrammedPlan) (openings : List WordOpening)
    → map (λ o. plan_of o.rules) openings ≡ tables_of plans
    → have_same_machines openings ≡ false → HasOtherMachines plans
others plans openings is not_same =
    let (word, o, there, other) = failed (λ w. nat_eq (machines_of w) (machines_in openings)) openings not_same in
    let (plan, at, own) = plan_there plans openings word o is there in record {
      word = word;
      plan = plan;
      there = at;
      other = λ same. eqb-false (machines_of o) (machines_in openings) other
          (ap (λ (t : PlanTable). t.machines) (sym own) ∙ (same ∙ sym (same_count plans openings is)));
    }

-- why no interlock was made
pub none_made : (plans : List ProgrammedPlan) (openings : List WordOpening) (fault : PlantFault)
    → map (λ o. plan_of o.rules) openings ≡ tables_of plans
    → 0 < length openings → length openings ≤ 16 → plant_fault openings 64 ≡ Some fault → HasOtherMachines plans
none_made plans openings fault is some few found =
    by (nat_eq (length openings) 0 || nat_lt 16 (length openings)) (grind (arith, nat_tests, some, few))
    (have_same_machines openings) refl found
  where
    by : (b : Bool) → b ≡ false → (same : Bool) → have_same_machines openings ≡ same
        → (if b then Some Words else (if same then None else Some Machines)) ≡ Some fault → HasOtherMachines plans
    by true none same is_same made = absurd (cc)
    by false none true is_same made = absurd (cc)
    by false none false not_same made = others plans openings is not_same

-- ---- jobs

-- the pass of the next machine
pub pass_of_next : (words : List WordView) (passes : List PlantPassView) (k : ℕ) (pass : PlantPassView)
    → passes ≡ map (new_pass words) (range_with_len 0 (length passes)) → k < length passes → pass ≡ get_or passes k pass
    → pass ≡ new_pass words k
pass_of_next words passes k pass are few is =
    let same : 0 + k ≡ k = omega arith in
    is ∙ (ap (λ ps. get_or ps k pass) are
    ∙ get_or-map-range_with_len (new_pass words) 0 (length passes) k k pass few same)

-- this holds of each, by its number
abbrev pub Numbered : {A : Type 0} → (ℕ → A → Type 0) → List A → Type 0
Numbered {A} P xs = (k : ℕ) (d : A) → k < length xs → P k (slice_index_or xs k d)

pub numbered_more : {A : Type 0} (P : ℕ → A → Type 0) (n : ℕ) (xs more : List A) (x : A) → Numbered P xs → length xs ≡ n
    → P n x → more ≡ xs ++ x ∷ [] → Numbered P more
numbered_more {A} P n xs more x all many one is =
    subst (Numbered P) (sym is) (λ k d few. by k d (below_next k (length xs) (omega (arith, few, length_push xs x))))
  where
    by : (k : ℕ) (d : A) → (k < length xs) ⊎ (k ≡ length xs) → P k (slice_index_or (xs ++ x ∷ []) k d)
    by k d (inl low) = subst (P k) (sym (get_or_append_left xs (x ∷ []) d k low)) (all k d low)
    by k d (inr e) =
        let own : P k x = subst (λ j. P j x) (sym many ∙ sym e) one in
        subst (P k) (sym (get_or_push xs x d k (sym e))) own

-- ---- passes

-- those of the machines, and the watch's
pub record ArePasses (words : List WordView) (count : ℕ) (passes : List PlantPassView) (last : PlantPassView) : Type 0
  where
    pub machines : passes ≡ map (new_pass words) (range_with_len 0 count)
    pub many : length passes ≡ count
    pub own : last ≡ new_pass words watch

pub passes_apart : (words : List WordView) (count : ℕ) (all rest : List PlantPassView) (popped : Option PlantPassView)
    (last : PlantPassView)
    → all ≡ map (new_pass words) (callers count) → all ≡ rest ++ option_to_list popped → popped ≡ Some last
    → ArePasses words count rest last
passes_apart words count all rest popped last made split is =
    let both : rest ++ last ∷ [] ≡ map (new_pass words) (range_with_len 0 count) ++ new_pass words watch ∷ [] =
    ap (λ o. rest ++ option_to_list o) (sym is)
    ∙ (sym split ∙ (made ∙ map_push (new_pass words) (range_with_len 0 count) watch)) in
    let same = same_from_push rest (map (new_pass words) (range_with_len 0 count)) last (new_pass words watch) both in
    record {
      machines = same.0;
      many = ap length same.0 ∙ length-map-range_with_len (new_pass words) 0 count;
      own = same.1;
    }

-- ---- what is known at the end

-- the history of a word that is there
pub history_there : (histories : List (Vec Event)) (word : ℕ) (history : Vec Event) → word < length histories
    → history ≡ get_or histories word history
    → history_on (map (λ h. h.items) histories) word ≡ history.items
history_there histories word history few is =
    get_or-map (λ (h : Vec Event). h.items) histories word history [] few ∙ ap (λ (h : Vec Event). h.items) (sym is)

-- of each word below a number the history is as it should be
abbrev pub HistoriesBelow : (ℕ → List Event → Type 0) → ℕ → List (List Event) → Type 0
HistoriesBelow P n histories = (word : ℕ) → word < n → P word (get_or histories word [])

pub one_history_more : (P : ℕ → List Event → Type 0) (n : ℕ) (histories more : List (List Event)) (new : List Event)
    → HistoriesBelow P n histories → length histories ≡ n
    → P n new → more ≡ histories ++ new ∷ [] → HistoriesBelow P (n + 1) more
one_history_more P n histories more new all many one is =
    subst (HistoriesBelow P (n + 1)) (sym is) (λ word few. by word (below_next word n (omega (arith, few))))
  where
    by : (word : ℕ) → (word < n) ⊎ (word ≡ n) → P word (get_or (histories ++ new ∷ []) word [])
    by word (inl low) =
        let within : word < length histories = subst (λ m. word < m) (sym many) low in
        subst (P word) (sym (get_or_append_left histories (new ∷ []) [] word within)) (all word low)
    by word (inr e) =
        let own : P word new = subst (λ w. P w new) (sym e) one in
        subst (P word) (sym (get_or_push histories new [] word (many ∙ sym e))) own

-- one legal history explains what was noted of a word, as of its plan
abbrev pub IsExplainedOn : List ProgrammedPlan → List State → List (PlantRecorded Simulation) → ℕ → List Event → Type 0
IsExplainedOn plans starts backs word history =
    (plan : ProgrammedPlan) → slice_get plans word ≡ Some plan
    → IsExplained plan (state_on starts word) (journals_on word backs) history

pub explained_there : (plans : List ProgrammedPlan) (starts : List State) (backs : List (PlantRecorded Simulation))
    (word : ℕ) (plan : ProgrammedPlan) (start : State) (history : List Event)
    → slice_get plans word ≡ Some plan → start ≡ state_on starts word
    → IsExplained plan start (journals_on word backs) history → IsExplainedOn plans starts backs word history
explained_there plans starts backs word plan start history there own is = λ other at.
    subst (λ p. IsExplained p (state_on starts word) (journals_on word backs) history)
    (same_Some plan other (sym there ∙ at))
    (subst (λ s. IsExplained plan s (journals_on word backs) history) own is)

-- no history explains what was noted of a word, or memory ran out
pub unexplained_at : {X : Type 0} (plans : List ProgrammedPlan) (starts : List State)
    (backs : List (PlantRecorded Simulation)) (word : ℕ) (plan : ProgrammedPlan) (start : State) (fault : PlantRunFault)
    (found : Result X PlantRunFault)
    → slice_get plans word ≡ Some plan → start ≡ state_on starts word
    → IsUnexplained plan start (journals_on word backs) fault → IsErrAnd found (λ e. e ≡ fault)
    → IfErr found (AreUnexplained plans starts backs)
unexplained_at plans starts backs word plan start fault (Ok x) there own why is = tt
unexplained_at plans starts backs word plan start fault (Err e) there own why is =
    subst (AreUnexplained plans starts backs) (sym is) (record {
      word = word;
      plan = plan;
      there = there;
      is = subst (λ s. IsUnexplained plan s (journals_on word backs) fault) own why;
    })
