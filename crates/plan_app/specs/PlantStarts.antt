-- The start of a plant on several words: record 0 of a script has a digit for each place of the plant, and each word
-- has the start of its places' digits.
use Rattle.std.specs.Prelude.{◌≡◌, ℕ, Bool, true, false, List, [], ◌∷◌, get_or, length, map, nat_eq}
use Rattle.std.specs.Prelude.{Result, Ok, Err}
use Rattle.std.specs.Global.{Vec}
use Rattle.std.specs.List.{range_with_len}
use Rattle.csv.specs.Reading.{default_config, records, strip_bom}
use Rattle.csv_rows.specs.Rows.{Row}
use Rattle.csv_rows.specs.declared.script_end.ScriptFault.{ScriptFault}
use Rattle.csv_rows.specs.declared.script_end.ScriptFault.TheVariants.{NoStart, BadStart}
use Rattle.plan_types.specs.Table.{PlanTable, place_count}
use Rattle.plan_rules.specs.declared.state.State.{State}
use Rattle.plan_explorer.specs.Plants.{table_on}
use Rattle.plan_text.specs.Names.{Text}
use Rattle.plan_text.specs.Starts.{start_in}
use Rattle.plan_words.specs.Plant.{IsOnWords, PlantWords, word_at}
use Rattle.plan_document.specs.declared.plants.ProgrammedPlant.{ProgrammedPlant}
use Rattle.plan_document.specs.declared.resolving.ProgrammedPlan.{ProgrammedPlan}

-- the digits of these places; what stands for a place without one is no digit
abbrev pub digits_at : Text → List ℕ → Text
digits_at digits places = map (λ place. get_or digits place 0) places

-- a record with the digits of these places alone
abbrev pub row_on : Row → List ℕ → Row
row_on (word ∷ digits ∷ rest) places = word ∷ digits_at digits places ∷ rest
row_on row places = row

-- the start of a word: that of its plan
abbrev pub start_on : PlantWords → List PlanTable → Row → ℕ → Result State ScriptFault
start_on v ts row w = start_in (place_count (table_on ts w)) (row_on row (word_at v w).group.places)

-- all of these starts, or the first fault
abbrev pub with_start : State → Result (List State) ScriptFault → Result (List State) ScriptFault
with_start start (Ok starts) = Ok (start ∷ starts)
with_start start (Err fault) = Err fault

abbrev pub all_starts : List (Result State ScriptFault) → Result (List State) ScriptFault
all_starts [] = Ok []
all_starts (Ok start ∷ starts) = with_start start (all_starts starts)
all_starts (Err fault ∷ starts) = Err fault

-- there are as many digits as the plant has places
abbrev pub has_digits : ℕ → Row → Bool
has_digits count row = nat_eq (length (get_or row 1 [])) count

abbrev pub if_counted : Bool → Result (List State) ScriptFault → Result (List State) ScriptFault
if_counted counted (Err fault) = Err fault
if_counted true (Ok starts) = Ok starts
if_counted false (Ok starts) = Err BadStart

-- the opening of each word
abbrev pub openings_in : PlantWords → List PlanTable → Row → Result (List State) ScriptFault
openings_in v ts row =
    if_counted (has_digits (place_count v.plant) row)
    (all_starts (map (start_on v ts row) (range_with_len 0 (length ts))))

-- those in record 0, or why there are none
abbrev pub rows_openings : PlantWords → List PlanTable → List Row → Result (List State) ScriptFault
rows_openings v ts [] = Err NoStart
rows_openings v ts (row ∷ rows) = openings_in v ts row

abbrev pub script_openings : PlantWords → List PlanTable → List ℕ → Result (List State) ScriptFault
script_openings v ts script = rows_openings v ts (records default_config (strip_bom script))

-- ---- of a plant that was read

-- the tables of its words' plans
abbrev pub tables_of : List ProgrammedPlan → List PlanTable
tables_of plans = map (λ (plan : ProgrammedPlan). plan.named.plan) plans

abbrev pub plant_start : ProgrammedPlant → List ℕ → Result (List State) ScriptFault
plant_start plant script = script_openings plant.words (tables_of plant.plans.items) script

-- each word has a plan, and programs ask by these
pub record HasWords (plant : ProgrammedPlant) : Type 0 where
  pub laid_out : IsOnWords plant.words
  pub plans : length plant.plans.items ≡ length plant.words.words
  pub programs : plant.programs.words ≡ length plant.plans.items

-- openings in a vector
abbrev pub listed : Result (Vec State) ScriptFault → Result (List State) ScriptFault
listed (Ok openings) = Ok openings.items
listed (Err fault) = Err fault
