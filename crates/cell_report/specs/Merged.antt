-- What is left of journals that are merged.
use Rattle.std.specs.Prelude.{◌≡◌, ◌<◌, ◌≤◌, IsTrue, List, [], ◌∷◌, ◌++◌, length, replicate, ⊤}
use Rattle.std.specs.List.Sorted.{IsNonDecreasingBy}
use Rattle.cell_report.specs.declared.ordered.Noted.{Noted}
use Rattle.cell_report.specs.declared.rests.Run.{Run}
use Rattle.cell_report.specs.declared.rests.Rest.{Rest}
use Rattle.cell_report.specs.declared.rests.Merge.{Merge}
use Rattle.cell_report.specs.Order.{key_of, in_order}
use Rattle.cell_report.specs.InTurn.{noted_in_turn, all_in_turn}

abbrev pub left_of : Rest → List Noted
left_of r = all_in_turn r.machine r.entries.now

abbrev pub left_of_all : List Rest → List Noted
left_of_all [] = []
left_of_all (r ∷ rs) = left_of r ++ left_of_all rs

-- in the order
abbrev pub rest_of : Merge → List Noted
rest_of m = in_order (left_of_all m.rests)

-- what is left of each journal is in turn
abbrev pub AllRise : List Rest → Type 0
AllRise [] = ⊤
AllRise (r ∷ rs) = IsNonDecreasingBy key_of r.entries.now × AllRise rs

abbrev pub IsInTurn : Merge → Type 0
IsInTurn m = AllRise m.rests

-- the entries of a run
abbrev pub run_of : Run → List Noted
run_of run = replicate run.count (noted_in_turn run.machine run.entry.now)

-- a run was the beginning of what was left of a journal
pub record IsRun (old new : Rest) (run : Run) : Type 0 where
  pub some : 0 < run.count
  pub machine : run.machine ≡ old.machine
  pub stays : new.machine ≡ old.machine
  pub split : old.entries.now ≡ replicate run.count run.entry.now ++ new.entries.now
  pub in_turn : IsTrue run.in_turn → key_of run.entry.now ≤ new.key

-- a run was the beginning of what was left of all journals, if they are in turn, and they are if all that is left is
pub record IsMerged (old new : List Rest) (run : Run) : Type 0 where
  pub in_order : AllRise old → in_order (left_of_all old) ≡ run_of run ++ in_order (left_of_all new)
  pub falls : AllRise old → AllRise new
  pub rises : IsTrue run.in_turn → AllRise new → AllRise old
  pub shorter : length (left_of_all new) < length (left_of_all old)
