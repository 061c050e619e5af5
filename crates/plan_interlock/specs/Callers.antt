-- Who calls: the machines of the plan, and the watch.
use Rattle.std.specs.Prelude.{◌≡◌, ◌≢◌, ℕ, ◌<◌, ◌≤◌, nat_eq, [], ◌∷◌, ◌++◌}
use Rattle.std.specs.List.{range_with_len}
use Rattle.plan_types.specs.Table.{PlanTable, plan_table, watch}
use Rattle.plan_types.specs.Examples.{press_table, lift_table}
use Rattle.word_interlock.specs.RuleBook.{times}
use Rattle.plan_interlock.specs.Book.{plan_book}

-- how often a number stands among those who have a pass
abbrev pub passes_of : PlanTable → ℕ → ℕ
passes_of t m = times nat_eq m (plan_book t).actors

-- each machine of the plan has one pass, the watch has one, and nobody else has any
pub record EveryMachineCalls (t : PlanTable) : Type 0 where
  pub each_machine : (m : ℕ) → m < t.machines → passes_of t m ≡ 1
  pub the_watch : passes_of t watch ≡ 1
  pub nobody_else : (m : ℕ) → t.machines ≤ m → m ≢ watch → passes_of t m ≡ 0

-- the passes come in the order of the machines' numbers, the watch's last
abbrev pub CallsInOrder : PlanTable → Type 0
CallsInOrder t = (plan_book t).actors ≡ range_with_len 0 t.machines ++ watch ∷ []

-- the same of literal plans
pub record PassesInOrder : Type 0 where
  pub press : (plan_book press_table).actors ≡ 0 ∷ 1 ∷ 30 ∷ []
  pub lift : (plan_book lift_table).actors ≡ 0 ∷ 1 ∷ 2 ∷ 30 ∷ []
  pub ten : (plan_book (plan_table 10 [] [] [])).actors ≡ 0 ∷ 1 ∷ 2 ∷ 3 ∷ 4 ∷ 5 ∷ 6 ∷ 7 ∷ 8 ∷ 9 ∷ 30 ∷ []
  pub nobody : (plan_book (plan_table 0 [] [] [])).actors ≡ 30 ∷ []
