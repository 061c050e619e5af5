-- Literal starts of a plant on two words; and which places of a plant are full after a start.
use Rattle.std.specs.Prelude.{◌≡◌, ℕ, ◌<◌, ◌≤◌, Bool, true, false, List, [], ◌∷◌, codes, get_or, length, map, nat_eq}
use Rattle.std.specs.Prelude.{replicate, Result, Ok, Err, Some, slice_get}
use Rattle.csv_rows.specs.Rows.{Row}
use Rattle.csv_rows.specs.declared.script_end.ScriptFault.{ScriptFault}
use Rattle.csv_rows.specs.declared.script_end.ScriptFault.TheVariants.{NoStart, BadStart}
use Rattle.plan_types.specs.Table.{PlanTable, place_count, plan_table}
use Rattle.plan_rules.specs.declared.state.State.{State}
use Rattle.plan_rules.specs.State.{is_full, start_state}
use Rattle.plan_explorer.specs.Plants.{state_on}
use Rattle.plan_text.specs.Names.{Text}
use Rattle.plan_text.specs.Starts.{is_one}
use Rattle.plan_words.specs.Plant.{PlantWords, word_at}
use Rattle.plan_words.specs.Run.{Word, whole_start}
use Rattle.plan_words.specs.Words.{IsIn}
use Rattle.plan_app.specs.PlantStarts.{openings_in, rows_openings, start_on}

-- of three places of one machine the first and the last are on word 0, the second one is on word 1
abbrev pub places : ℕ → PlanTable
places count = plan_table 1 [] [] (replicate count 0)

abbrev pub word_of : List ℕ → Word
word_of numbers = record {
  group = record { zones = []; poses = []; places = numbers };
  table = places (length numbers);
}

abbrev pub three : PlantWords
three = record { plant = places 3; words = word_of (0 ∷ 2 ∷ []) ∷ word_of (1 ∷ []) ∷ [] }

abbrev pub tables : List PlanTable
tables = places 2 ∷ places 1 ∷ []

abbrev pub read : Row → Result (List State) ScriptFault
read row = openings_in three tables row

-- a stamp, whether the two places of word 0 are full, and whether that of word 1 is
abbrev pub neither : ℕ → State
neither stamp = start_state (replicate 16 false) stamp

abbrev pub first : ℕ → State
first stamp = start_state (true ∷ replicate 15 false) stamp

abbrev pub second : ℕ → State
second stamp = start_state (false ∷ true ∷ replicate 14 false) stamp

abbrev pub both : ℕ → State
both stamp = start_state (true ∷ true ∷ replicate 14 false) stamp

pub record StartsOfThree : Type 0 where
  pub none : read (codes "start" ∷ codes "000" ∷ []) ≡ Ok (neither 0 ∷ neither 0 ∷ [])
  pub one : read (codes "start" ∷ codes "100" ∷ []) ≡ Ok (first 0 ∷ neither 0 ∷ [])
  pub middle : read (codes "start" ∷ codes "010" ∷ []) ≡ Ok (neither 0 ∷ first 0 ∷ [])
  pub last : read (codes "start" ∷ codes "001" ∷ []) ≡ Ok (second 0 ∷ neither 0 ∷ [])
  pub all : read (codes "start" ∷ codes "111" ∷ []) ≡ Ok (both 0 ∷ first 0 ∷ [])
  -- the stamp is that of each word
  pub stamp : read (codes "start" ∷ codes "110" ∷ codes "12" ∷ []) ≡ Ok (first 12 ∷ first 12 ∷ [])
  pub no_stamp : read (codes "start" ∷ codes "110" ∷ codes "late" ∷ []) ≡ Err BadStart
  pub two_stamps : read (codes "start" ∷ codes "110" ∷ codes "1" ∷ codes "2" ∷ []) ≡ Err BadStart
  -- too few digits, on either word, and too many
  pub no_digits : read (codes "start" ∷ []) ≡ Err BadStart
  pub empty : read (codes "start" ∷ [] ∷ []) ≡ Err BadStart
  pub few : read (codes "start" ∷ codes "1" ∷ []) ≡ Err BadStart
  pub two : read (codes "start" ∷ codes "10" ∷ []) ≡ Err BadStart
  pub many : read (codes "start" ∷ codes "1000" ∷ []) ≡ Err BadStart
  -- other bytes, on either word
  pub digit : read (codes "start" ∷ codes "120" ∷ []) ≡ Err BadStart
  pub letter : read (codes "start" ∷ codes "10x" ∷ []) ≡ Err BadStart
  -- another first word
  pub other_word : read (codes "begin" ∷ codes "100" ∷ []) ≡ Err NoStart
  pub other_word_alone : read (codes "begin" ∷ []) ≡ Err NoStart
  pub no_field : read [] ≡ Err NoStart
  -- record 0 has the start
  pub no_record : rows_openings three tables [] ≡ Err NoStart
  pub first_record
      : rows_openings three tables ((codes "start" ∷ codes "010" ∷ []) ∷ (codes "start" ∷ codes "1" ∷ []) ∷ [])
      ≡ Ok (neither 0 ∷ first 0 ∷ [])

-- which places are full by digits
abbrev pub full_by : Text → List Bool
full_by digits = map (λ digit. nat_eq digit 49) digits

-- each word has an opening, of its places' digits, and a place of the plant is full there exactly if its digit is 1; so
-- the openings of all words are one start of the plant
pub record StartsAreOfDigits : Type 0 where
  pub count : (v : PlantWords) (ts : List PlanTable) (row : Row) (openings : List State)
      → openings_in v ts row ≡ Ok openings → length openings ≡ length ts
  pub each : (v : PlantWords) (ts : List PlanTable) (row : Row) (openings : List State) (w : ℕ)
      → openings_in v ts row ≡ Ok openings → w < length ts → start_on v ts row w ≡ Ok (state_on openings w)
  pub digits : (v : PlantWords) (ts : List PlanTable) (row : Row) (openings : List State)
      → openings_in v ts row ≡ Ok openings → length (get_or row 1 []) ≡ place_count v.plant
  pub full : (v : PlantWords) (ts : List PlanTable) (row : Row) (openings : List State) (w k place : ℕ)
      → openings_in v ts row ≡ Ok openings → w < length ts
      → slice_get (word_at v w).group.places k ≡ Some place → k < 16
      → is_full (state_on openings w) k ≡ is_one (get_or row 1 []) place
  pub whole : (v : PlantWords) (ts : List PlanTable) (row : Row) (openings : List State) (w : ℕ)
      → openings_in v ts row ≡ Ok openings → w < length ts → length (word_at v w).group.places ≤ 16
      → IsIn (word_at v w).group (state_on openings w) (whole_start v.plant (full_by (get_or row 1 [])))
