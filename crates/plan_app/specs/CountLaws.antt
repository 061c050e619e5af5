-- What each line says of how many there are, for all numbers: of one, and of any other number.
use Rattle.std.specs.Prelude.{◌≡◌, ◌≢◌, ℕ, List, ◌++◌, codes, flat_map, length}
use Rattle.std.specs.Fmt.{decimal}
use Rattle.plan_types.specs.declared.answer.Event.{Event}
use Rattle.plan_rules.specs.declared.state.State.{State}
use Rattle.plan_explorer.specs.Programs.{PlanPrograms}
use Rattle.plan_text.specs.Names.{Text}
use Rattle.plan_text.specs.Named.{Named}
use Rattle.plan_app.specs.Going.{way_text}
use Rattle.plan_app.specs.Screens.{count_line, free_line, standstill_text, wait_line}
use Rattle.plan_app.specs.Words.{counted}

-- one thing of a kind, and any other number of them: then the kind ends with `s`
pub record ThingsAreCounted : Type 0 where
  pub one : (n : ℕ) (kind : Text) → n ≡ 1 → counted n kind ≡ codes "1 " ++ kind
  pub others : (n : ℕ) (kind : Text) → n ≢ 1 → counted n kind ≡ decimal n ++ (codes " " ++ (kind ++ codes "s"))

-- the turns that lead to a standstill
pub record TurnsAreCounted : Type 0 where
  pub one : (n : ℕ) → n ≡ 1 → count_line n ≡ codes "a standstill after 1 turn, and no fewer\n"
  pub others : (n : ℕ) → n ≢ 1
      → count_line n ≡ codes "a standstill after " ++ (decimal n ++ codes " turns, and no fewer\n")
  -- before a standstill stands how many lead there
  pub whole : (n : Named) (ps : PlanPrograms) (opening : State) (turns : List ℕ) (waiting : List Event)
      → standstill_text n ps opening turns waiting
      ≡ count_line (length turns)
      ++ (flat_map (wait_line n) waiting ++ (codes "turns:\n" ++ way_text n ps opening turns))

-- the situations that machines come to where nothing stands still
pub record SituationsAreCounted : Type 0 where
  pub one : (n : ℕ) → n ≡ 1
      → free_line n ≡ codes "no standstill in any order of turns before the last stamp: 1 situation\n"
  pub others : (n : ℕ) → n ≢ 1
      → free_line n
      ≡ codes "no standstill in any order of turns before the last stamp: " ++ (decimal n ++ codes " situations\n")

pub record CountsTell : Type 0 where
  pub things : ThingsAreCounted
  pub turns : TurnsAreCounted
  pub situations : SituationsAreCounted
