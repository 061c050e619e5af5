-- Literal turns, one after another: who counts by one in each turn, and two gates.
use Rattle.std.specs.Prelude.{◌≡◌, ℕ, ◌+◌, nat_lt, true, [], ◌∷◌}
use Rattle.std.specs.Global.{Vec}
use Rattle.plan_workers.specs.declared.journal.PlanEntry.{PlanEntry}
use Rattle.plan_workers.specs.PlantRecording.{journal_on}
use Rattle.plan_workers.specs.Turning.{GateOf, AreTakenBy, HasWorkedBy}

abbrev pub CountsOn : ℕ → ℕ → Type 0
CountsOn before now = now ≡ before + 1

-- one lets all turns begin, the other the first two
abbrev pub all : GateOf
all turn answer = answer ≡ true

abbrev pub two : GateOf
two turn answer = answer ≡ nat_lt turn 2

-- at most `limit` turns, from one number to another
abbrev pub Counts : GateOf → ℕ → ℕ → ℕ → ℕ → Type 0
Counts gate limit first last took = HasWorkedBy CountsOn gate limit first last took

pub record TurningExamples : Type 0 where
  pub each_turn : AreTakenBy CountsOn 5 (6 ∷ 7 ∷ 8 ∷ [])
  pub not_skipping : ¬ AreTakenBy CountsOn 5 (6 ∷ 8 ∷ [])
  pub not_from_elsewhere : ¬ AreTakenBy CountsOn 5 (7 ∷ 8 ∷ [])
  pub all_turns : Counts all 3 5 8 3
  pub no_turn : Counts all 0 5 5 0
  pub shut_out : Counts two 3 5 7 2
  pub not_let_in : ¬ Counts two 3 5 8 3
  pub not_too_early : ¬ Counts all 3 5 7 2
  pub not_too_many : ¬ Counts all 1 5 7 2
  pub not_elsewhere : ¬ Counts all 3 5 9 3
  pub not_fewer : ¬ Counts all 3 5 7 3

-- the journals of two words
pub record WordJournalExamples : Type 0 where
  pub of_word_0 : (first second : Vec PlanEntry) → journal_on 0 (first ∷ second ∷ []) ≡ first.items
  pub of_word_1 : (first second : Vec PlanEntry) → journal_on 1 (first ∷ second ∷ []) ≡ second.items
  pub of_no_word : (first second : Vec PlanEntry) → journal_on 2 (first ∷ second ∷ []) ≡ []
