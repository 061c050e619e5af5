-- The start of each word of a plant.
use Rattle.std.proofs.Common.{◌≡◌, ◌∙◌, ◌+◌, ◌<◌, ◌≤◌, ◌++◌, ◌∷◌, [], ◌&&◌, ℕ, zero, suc, Bool, true, false, List, get_or, length, map, nat_eq, nat_lt, Option, Some, None, slice_get, Result, Ok, Err, refl, ap, sym, subst, arith}
use Rattle.std.specs.List.{range_with_len}
use Rattle.std.specs.Option.{ok_or, option_and_then}
use Rattle.std.specs.Str.{bytes_eq}
use Rattle.std.specs.Prelude.{if◌then◌else◌, is_some, nat_le, set, drop, take, codes, replicate, IfSome, IsNone}
use Rattle.std.proofs.Common.{inl, inr, drop-cons}
use Rattle.std.specs.Prelude.{unwrap_or, option_map}
use Rattle.std.proofs.lemmas.List.{length-map, map-append, take-append-drop}
use Rattle.std.proofs.lemmas.Bool.{and_parts, cases_lt, eqb-true, le-ltb, leb-true, lt-ltb}
use Rattle.std.proofs.lemmas.List.{get_or-map, get_or_default, get_or_past}
use Rattle.std.proofs.lemmas.List.FromFn.{map-range_with_len_more, take-map-range_with_len}
use Rattle.std.proofs.lemmas.Option.{get_or_from_slice_get, same_Some, slice_get-get_or, slice_get-map, slice_get_within}
use Rattle.csv.specs.Reading.{default_config, records, strip_bom}
use Rattle.csv.specs.Records.{field_at}
use Rattle.std.proofs.lemmas.List.FromFn.{get_or-map-range_with_len, length-map-range_with_len}
use Rattle.csv_rows.specs.Rows.{Row}
use Rattle.csv_rows.specs.declared.script_end.ScriptFault.{ScriptFault}
use Rattle.csv_rows.specs.declared.script_end.ScriptFault.TheVariants.{NoStart, BadStart}
use Rattle.plan_types.specs.Table.{PlanTable, place_count, zone_count}
use Rattle.plan_rules.specs.declared.state.State.{State}
use Rattle.plan_rules.specs.Sound.{IsStart}
use Rattle.plan_rules.specs.State.{free_zone, is_full, start_state, last_stamp}
use Rattle.plan_explorer.specs.Plants.{state_on, table_on}
use Rattle.plan_text.specs.Names.{Text}
use Rattle.plan_text.specs.Starts.{are_places, full_places, is_one, start_by, start_fields, start_in, start_of, stamp_in}
use Rattle.plan_words.specs.Group.{past, place_out, zone_out}
use Rattle.plan_words.specs.Run.{whole_start}
use Rattle.plan_words.specs.Words.{IsIn}
use Rattle.plan_app.specs.PlantStartExamples.{full_by}
use Rattle.plan_words.specs.Plant.{IsOnWords, PlantWords, word_at}
use Rattle.plan_words.specs.PlantRoutes.{HasNoPlace, IsPlace}
use Rattle.plan_words.specs.declared.routing.OnWord.{OnWord}
use Rattle.plan_document.specs.declared.plants.ProgrammedPlant.{ProgrammedPlant}
use Rattle.plan_document.specs.declared.resolving.ProgrammedPlan.{ProgrammedPlan}
use Rattle.plan_app.specs.PlantRuns.{AreStartsOf}
use Rattle.plan_app.specs.PlantStarts.{all_starts, digits_at, has_digits, if_counted, openings_in, plant_start, row_on, rows_openings, start_on, tables_of, with_start}

-- ---- all starts

-- a start and the others are there
pub with_others : (start : State) (rest : Result (List State) ScriptFault) (openings : List State) → with_start start rest ≡ Ok openings
    → (others : List State) × (rest ≡ Ok others) × (openings ≡ start ∷ others)
with_others start (Ok others) openings is = (others, refl, cc)
with_others start (Err fault) openings is = absurd (cc)

pub each_start : (starts : List (Result State ScriptFault)) (openings : List State) (w : ℕ) (none : Result State ScriptFault)
    → all_starts starts ≡ Ok openings → w < length starts → get_or starts w none ≡ Ok (state_on openings w)
each_start [] openings w none is few = absurd (omega (arith, few))
each_start (Err fault ∷ starts) openings w none is few = absurd (cc)
each_start (Ok start ∷ starts) openings zero none is few =
    let (others, rest, are) = with_others start (all_starts starts) openings is in
    ap (λ ss. Ok (state_on ss 0)) (sym are)
each_start (Ok start ∷ starts) openings (suc w) none is few =
    let (others, rest, are) = with_others start (all_starts starts) openings is in
    each_start starts others w none rest (omega (arith, few)) ∙ ap (λ ss. Ok (state_on ss (suc w))) (sym are)

pub start_count : (starts : List (Result State ScriptFault)) (openings : List State) → all_starts starts ≡ Ok openings → length openings ≡ length starts
start_count [] openings is = let none : openings ≡ [] = cc in ap length none
start_count (Err fault ∷ starts) openings is = absurd (cc)
start_count (Ok start ∷ starts) openings is =
    let (others, rest, are) = with_others start (all_starts starts) openings is in
    ap length are ∙ ap suc (start_count starts others rest)

-- those that are all there
pub all_there : (openings : List State) → all_starts (map Ok openings) ≡ Ok openings
all_there [] = refl
all_there (start ∷ openings) = ap (with_start start) (all_there openings)

-- the first fault
pub first_fault : (openings : List State) (fault : ScriptFault) (rest : List (Result State ScriptFault))
    → all_starts (map Ok openings ++ Err fault ∷ rest) ≡ Err fault
first_fault [] fault rest = refl
first_fault (start ∷ openings) fault rest = ap (with_start start) (first_fault openings fault rest)

-- ---- openings

pub counted : (right : Bool) (starts : Result (List State) ScriptFault) (openings : List State) → if_counted right starts ≡ Ok openings
    → (right ≡ true) × (starts ≡ Ok openings)
counted right (Err fault) openings is = absurd (cc)
counted true (Ok starts) openings is = (refl, is)
counted false (Ok starts) openings is = absurd (cc)

pub opening_on : (v : PlantWords) (ts : List PlanTable) (row : Row) (openings : List State) (w : ℕ) → openings_in v ts row ≡ Ok openings
    → w < length ts → start_on v ts row w ≡ Ok (state_on openings w)
opening_on v ts row openings w is few =
    let (right, all) = counted (has_digits (place_count v.plant) row) (all_starts (map (start_on v ts row) (range_with_len 0 (length ts)))) openings is in
    let within : w < length (map (start_on v ts row) (range_with_len 0 (length ts))) =
    subst (λ n. w < n) (sym (length-map-range_with_len (start_on v ts row) 0 (length ts))) few in
    let same : 0 + w ≡ w = omega arith in
    sym (get_or-map-range_with_len (start_on v ts row) 0 (length ts) w w (Err NoStart) few same)
    ∙ each_start (map (start_on v ts row) (range_with_len 0 (length ts))) openings w (Err NoStart) all within

pub opening_count : (v : PlantWords) (ts : List PlanTable) (row : Row) (openings : List State) → openings_in v ts row ≡ Ok openings
    → length openings ≡ length ts
opening_count v ts row openings is =
    let (right, all) = counted (has_digits (place_count v.plant) row) (all_starts (map (start_on v ts row) (range_with_len 0 (length ts)))) openings is in
    start_count (map (start_on v ts row) (range_with_len 0 (length ts))) openings all
    ∙ length-map-range_with_len (start_on v ts row) 0 (length ts)

pub digits_counted : (v : PlantWords) (ts : List PlanTable) (row : Row) (openings : List State) → openings_in v ts row ≡ Ok openings
    → length (get_or row 1 []) ≡ place_count v.plant
digits_counted v ts row openings is =
    let (right, all) = counted (has_digits (place_count v.plant) row) (all_starts (map (start_on v ts row) (range_with_len 0 (length ts)))) openings is in
    eqb-true (length (get_or row 1 [])) (place_count v.plant) right

-- those of a plant that was read
pub plant_count : (plant : ProgrammedPlant) (script : List ℕ) (openings : List State) → plant_start plant script ≡ Ok openings
    → length openings ≡ length plant.plans.items
plant_count plant script openings is =
    by (records default_config (strip_bom script)) is ∙ length-map plant.plans.items (λ (plan : ProgrammedPlan). plan.named.plan)
  where
    by : (rows : List Row) → rows_openings plant.words (tables_of plant.plans.items) rows ≡ Ok openings → length openings ≡ length (tables_of plant.plans.items)
    by [] none = absurd (cc)
    by (row ∷ rows) some = opening_count plant.words (tables_of plant.plans.items) row openings some

-- ---- they are starts

table_there : (plans : List ProgrammedPlan) (w : ℕ) (plan : ProgrammedPlan) → slice_get plans w ≡ Some plan → table_on (tables_of plans) w ≡ plan.named.plan
table_there plans w plan there =
    get_or_from_slice_get (tables_of plans) w plan.named.plan _
    (slice_get-map (λ (p : ProgrammedPlan). p.named.plan) plans w ∙ ap (option_map (λ (p : ProgrammedPlan). p.named.plan)) there)

given : {A E : Type 0} (o : Option A) (fault : E) (x : A) → ok_or o fault ≡ Ok x → o ≡ Some x
given None fault x e = absurd (cc)
given (Some y) fault x e = let same : y ≡ x = cc in ap Some same

full_at : (digits : Text) (k : ℕ) → k < 16 → get_or (full_places digits) k false ≡ is_one digits k
full_at digits k few = let same : 0 + k ≡ k = omega arith in get_or-map-range_with_len (is_one digits) 0 16 k k false few same

-- no place is full that has no digit
past_digits : (digits : Text) (count place : ℕ) → length digits ≡ count → count ≤ place → get_or (full_places digits) place false ≡ false
past_digits digits count place e more = elim (cases_lt place 16) [
  | inl few ↦ full_at digits place few ∙ rw (le-ltb place (length digits) (subst (λ n. n ≤ place) (sym e) more)) refl
  | inr sixteen ↦
      let all : length (full_places digits) ≤ place = subst (λ n. n ≤ place) (sym (length-map-range_with_len (is_one digits) 0 16)) sixteen in
      get_or_past (full_places digits) place false all
]

-- a start by a plan with this number of places
record IsStartWith (count : ℕ) (s : State) : Type 0 where
  pub start : IsStart s
  pub places : (place : ℕ) → count ≤ place → is_full s place ≡ false

start_of_digits : (count : ℕ) (digits : Text) (stamp : Option ℕ) (s : State) → start_of count digits stamp ≡ Some s → IsStartWith count s
start_of_digits count digits None s e = absurd (cc)
start_of_digits count digits (Some stamp) s e = by (are_places count digits && nat_le stamp last_stamp) refl e
  where
    by : (b : Bool) → (are_places count digits && nat_le stamp last_stamp) ≡ b
        → (if b then Some (start_state (full_places digits) stamp) else None) ≡ Some s → IsStartWith count s
    by false is same = absurd (cc)
    by true is same =
        let parts = and_parts (are_places count digits) (nat_le stamp last_stamp) is in
        let digit_count : length digits ≡ count = eqb-true (length digits) count (and_parts (nat_eq (length digits) count) _ parts.0).0 in
        subst (IsStartWith count) (same_Some (start_state (full_places digits) stamp) s same) (record {
          start = record {
            stamp_in_range = leb-true stamp last_stamp parts.1;
            has_sixteen_places = length-map-range_with_len (is_one digits) 0 16;
            same = refl;
          };
          places = λ place more. past_digits digits count place digit_count more;
        })

start_of_row : (count : ℕ) (row : Row) (s : State) → start_in count row ≡ Ok s → IsStartWith count s
start_of_row count row s e = by (field_at row 0) e
  where
    fields : (b : Bool) (o : Option Text)
        → (if b then None else option_and_then (λ digits. start_of count digits (stamp_in (field_at row 2))) o) ≡ Some s → IsStartWith count s
    fields true o is = absurd (cc)
    fields false None is = absurd (cc)
    fields false (Some digits) is = start_of_digits count digits (stamp_in (field_at row 2)) s is

    whether : (b : Bool) → (if b then ok_or (start_fields count row) BadStart else Err NoStart) ≡ Ok s → IsStartWith count s
    whether true k = fields (nat_lt 3 (length row)) (field_at row 1) (given (start_fields count row) BadStart s k)
    whether false k = absurd (cc)

    by : (o : Option Text) → start_by count o row ≡ Ok s → IsStartWith count s
    by None is = absurd (cc)
    by (Some word) is = whether (bytes_eq word (codes "start")) is

-- so is what a script opens each word with
openings_are_with : (plant : ProgrammedPlant) (script : List ℕ) (openings : List State) → plant_start plant script ≡ Ok openings
    → (w : ℕ) → w < length openings → IsStartWith (place_count (table_on (tables_of plant.plans.items) w)) (state_on openings w)
openings_are_with plant script openings is w few = by (records default_config (strip_bom script)) is
  where
    by : (rows : List Row) → rows_openings plant.words (tables_of plant.plans.items) rows ≡ Ok openings
        → IsStartWith (place_count (table_on (tables_of plant.plans.items) w)) (state_on openings w)
    by [] none = absurd (cc)
    by (row ∷ rows) some =
        let ts = tables_of plant.plans.items in
        let there : w < length ts = subst (λ n. w < n) (opening_count plant.words ts row openings some) few in
        start_of_row (place_count (table_on ts w)) (row_on row (word_at plant.words w).group.places) (state_on openings w)
        (opening_on plant.words ts row openings w some there)

pub openings_are_starts : (plant : ProgrammedPlant) (script : List ℕ) (openings : List State) → plant_start plant script ≡ Ok openings
    → (w : ℕ) → w < length openings → IsStart (state_on openings w)
openings_are_starts plant script openings is w few = (openings_are_with plant script openings is w few).start

-- each by the plan of its word
pub openings_of_plans : (plant : ProgrammedPlant) (script : List ℕ) (openings : List State) → plant_start plant script ≡ Ok openings
    → AreStartsOf plant.plans.items openings
openings_of_plans plant script openings is =
    let plans = plant.plans.items in
    let count : length openings ≡ length plans = plant_count plant script openings is in
    record {
      count = count;
      each = λ w plan there.
          let few : w < length openings = subst (λ n. w < n) (sym count) (slice_get_within plans w plan there) in
          let own = openings_are_with plant script openings is w few in
          let table : table_on (tables_of plans) w ≡ plan.named.plan = table_there plans w plan there in
          record { start = own.start; places = λ place more. own.places place (subst (λ t. place_count t ≤ place) (sym table) more) };
    }

-- ---- as the code finds them

-- one start more, after those so far
pub one_start_more : (f : ℕ → Result State ScriptFault) (w : ℕ) (old new : List State) (start : State) → map f (range_with_len 0 w) ≡ map Ok old
    → f w ≡ Ok start → new ≡ old ++ start ∷ [] → map f (range_with_len 0 (w + 1)) ≡ map Ok new
one_start_more f w old new start before is pushed =
    let at : 0 + w ≡ w = omega arith in
    map-range_with_len_more f 0 w w at ∙ ap (λ xs. xs ++ f w ∷ []) before ∙ ap (λ x. map Ok old ++ x ∷ []) is ∙ sym (map-append Ok old (start ∷ [])) ∙ ap (map Ok) (sym pushed)

-- after some starts comes a fault
pub fault_after : (f : ℕ → Result State ScriptFault) (count w : ℕ) (starts : List State) (fault : ScriptFault) → w < count
    → map f (range_with_len 0 w) ≡ map Ok starts → f w ≡ Err fault → all_starts (map f (range_with_len 0 count)) ≡ Err fault
fault_after f count w starts fault few before is =
    let all = map f (range_with_len 0 count) in
    let at : 0 + w ≡ w = omega arith in
    let within : w < length all = subst (λ n. w < n) (sym (length-map-range_with_len f 0 count)) few in
    let no_more : w ≤ count = omega (arith, few) in
    let front : take w all ≡ map Ok starts = take-map-range_with_len f 0 count w no_more ∙ before in
    let next : get_or all w (Err NoStart) ≡ Err fault = get_or-map-range_with_len f 0 count w w (Err NoStart) few at ∙ is in
    let split : all ≡ map Ok starts ++ Err fault ∷ drop (suc w) all =
    sym (take-append-drop w all) ∙ ap (λ xs. xs ++ drop w all) front
    ∙ ap (λ xs. map Ok starts ++ xs) (drop-cons all w (Err NoStart) within ∙ ap (λ x. x ∷ drop (suc w) all) next) in
    ap all_starts split ∙ first_fault starts fault (drop (suc w) all)

-- ---- places of the plant

place_there : (v : PlantWords) (place : ℕ) (on : OnWord) → IsOnWords v → IsPlace v place on → place < place_count v.plant
place_there v place on right is =
    subst (λ p. p < place_count v.plant) is.is ((right.laid_out.group on.word is.word).places.below on.number is.number)

not_there : (v : PlantWords) (place : ℕ) → IsOnWords v → HasNoPlace v place → place_count v.plant ≤ place
not_there v place right none = elim (cases_lt place (place_count v.plant)) [
  | inl few ↦ let (n, within, has) = right.laid_out.place_somewhere place few in absurd (none n within has)
  | inr past ↦ past
]

pub is_place : (v : PlantWords) (place : ℕ) (o : Option OnWord) → IsOnWords v → IfSome o (IsPlace v place) → (IsNone o → HasNoPlace v place)
    → is_some o ≡ nat_lt place (place_count v.plant)
is_place v place None right there none = sym (le-ltb place (place_count v.plant) (not_there v place right (none refl)))
is_place v place (Some on) right there none = sym (lt-ltb place (place_count v.plant) (place_there v place on right there))

-- ---- fields

pub field_is : (fields : Row) (at : ℕ) (o : Option (List ℕ)) → o ≡ field_at fields at → unwrap_or o [] ≡ get_or fields at []
unfolding field_at
field_is [] at o is = rw is refl
field_is (field ∷ fields) zero o is = rw is refl
field_is (field ∷ fields) (suc at) o is = field_is fields at o is

-- one field has been replaced
pub row_is : (row : Row) (places : List ℕ) → set row 1 (digits_at (get_or row 1 []) places) ≡ row_on row places
row_is [] places = refl
row_is (word ∷ []) places = refl
row_is (word ∷ digits ∷ rest) places = refl

-- ---- the start of a word

otherwise : {A : Type 0} (b : Bool) (o : Option A) (x : A) → (if b then None else o) ≡ Some x → o ≡ Some x
otherwise true o x is = absurd (cc)
otherwise false o x is = is

no_fields : (b : Bool) (s : State) → (if b then Err BadStart else Err NoStart) ≡ Ok s → ⊥
no_fields true s is = absurd (cc)
no_fields false s is = absurd (cc)

-- a start is that of its digits
made : (count : ℕ) (digits : Text) (stamp : Option ℕ) (s : State) → start_of count digits stamp ≡ Some s → s ≡ start_state (full_places digits) s.stamp
made count digits None s is = absurd (cc)
made count digits (Some stamp) s is = by (are_places count digits && nat_le stamp last_stamp) is
  where
    by : (right : Bool) → (if right then Some (start_state (full_places digits) stamp) else None) ≡ Some s → s ≡ start_state (full_places digits) s.stamp
    by true is =
        let same = same_Some (start_state (full_places digits) stamp) s is in
        sym same ∙ ap (start_state (full_places digits)) (ap (λ (x : State). x.stamp) same)
    by false is = absurd (cc)

fields_made : (count : ℕ) (word digits : Text) (rest : Row) (s : State) → start_in count (word ∷ digits ∷ rest) ≡ Ok s → s ≡ start_state (full_places digits) s.stamp
unfolding field_at
fields_made count word digits rest s is = by (bytes_eq word (codes "start")) is
  where
    by : (right : Bool) → (if right then ok_or (start_fields count (word ∷ digits ∷ rest)) BadStart else Err NoStart) ≡ Ok s → s ≡ start_state (full_places digits) s.stamp
    by true is =
        made count digits (stamp_in (field_at (word ∷ digits ∷ rest) 2)) s
        (otherwise _ _ s (given (start_fields count (word ∷ digits ∷ rest)) BadStart s is))
    by false is = absurd (cc)

-- a start on a word has the digits of the word's places
pub made_on : (count : ℕ) (row : Row) (places : List ℕ) (s : State) → start_in count (row_on row places) ≡ Ok s
    → s ≡ start_state (full_places (digits_at (get_or row 1 []) places)) s.stamp
unfolding field_at
made_on count [] places s is = absurd (cc)
made_on count (word ∷ []) places s is = absurd (no_fields (bytes_eq word (codes "start")) s is)
made_on count (word ∷ digits ∷ rest) places s is = fields_made count word (digits_at digits places) rest s is

-- ---- which places are full

-- what stands for no digit is no 1
one_there : (digits : Text) (place : ℕ) → is_one digits place ≡ nat_eq (get_or digits place 0) 49
one_there digits place = elim (cases_lt place (length digits)) [
  | inl few ↦ rw (lt-ltb place (length digits) few, get_or_default digits place 48 0 few) refl
  | inr past ↦ rw (le-ltb place (length digits) past, get_or_past digits place 0 past) refl
]

one_at : (digits : Text) (places : List ℕ) (k place : ℕ) → slice_get places k ≡ Some place → is_one (digits_at digits places) k ≡ is_one digits place
one_at digits places k place is =
    let few : k < length places = slice_get_within places k place is in
    let there : get_or (digits_at digits places) k 0 ≡ get_or digits place 0 =
    get_or-map (λ p. get_or digits p 0) places k 0 0 few ∙ ap (λ p. get_or digits p 0) (get_or_from_slice_get places k place 0 is) in
    one_there (digits_at digits places) k ∙ ap (λ digit. nat_eq digit 49) there ∙ sym (one_there digits place)

pub place_is_full : (v : PlantWords) (ts : List PlanTable) (row : Row) (openings : List State) (w k place : ℕ)
    → openings_in v ts row ≡ Ok openings → w < length ts → slice_get (word_at v w).group.places k ≡ Some place → k < 16
    → is_full (state_on openings w) k ≡ is_one (get_or row 1 []) place
place_is_full v ts row openings w k place is few there within =
    let places = (word_at v w).group.places in
    let digits = get_or row 1 [] in
    ap (λ (s : State). is_full s k) (made_on (place_count (table_on ts w)) row places (state_on openings w) (opening_on v ts row openings w is few))
    ∙ full_at (digits_at digits places) k within
    ∙ one_at digits places k place there

-- ---- the plant's start

one_digit : (digits : Text) (place : ℕ) → get_or (map (λ digit. nat_eq digit 49) digits) place false ≡ is_one digits place
one_digit digits place = elim (cases_lt place (length digits)) [
  | inl few ↦ get_or-map (λ digit. nat_eq digit 49) digits place 0 false few ∙ sym (one_there digits place)
  | inr past ↦
      let none : length (map (λ digit. nat_eq digit 49) digits) ≤ place = subst (λ n. n ≤ place) (sym (length-map digits (λ digit. nat_eq digit 49))) past in
      get_or_past (map (λ digit. nat_eq digit 49) digits) place false none
      ∙ sym (one_there digits place ∙ ap (λ digit. nat_eq digit 49) (get_or_past digits place 0 past))
]

replicated : {A : Type 0} (n i : ℕ) (a : A) → get_or (replicate n a) i a ≡ a
replicated zero i a = refl
replicated (suc n) zero a = refl
replicated (suc n) (suc i) a = replicated n i a

pub is_in_start : (v : PlantWords) (ts : List PlanTable) (row : Row) (openings : List State) (w : ℕ) → openings_in v ts row ≡ Ok openings
    → w < length ts → length (word_at v w).group.places ≤ 16
    → IsIn (word_at v w).group (state_on openings w) (whole_start v.plant (full_by (get_or row 1 [])))
is_in_start v ts row openings w is few sixteen =
    let g = (word_at v w).group in
    let s = state_on openings w in
    let begun = made_on (place_count (table_on ts w)) row g.places s (opening_on v ts row openings w is few) in
    record {
      zone = λ i there.
          replicated (zone_count v.plant) (zone_out g i) free_zone
          ∙ sym (ap (λ (x : State). get_or x.zones i free_zone) begun ∙ replicated 10 i free_zone);
      place = λ k there.
          let within : k < 16 = omega (arith, there, sixteen) in
          one_digit (get_or row 1 []) (place_out g k)
          ∙ sym (place_is_full v ts row openings w k (place_out g k) is few (slice_get-get_or g.places k past there) within);
    }
