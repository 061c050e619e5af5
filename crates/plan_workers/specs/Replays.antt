-- How an audit goes through journals: which entry comes next, and what reading it does.
use Rattle.std.specs.Prelude.{◌≡◌, ◌≢◌, ◌<◌, ◌≤◌, ℕ, ◌+◌, Bool, true, false, if◌then◌else◌, List, [], ◌∷◌, drop, get_or}
use Rattle.plan_types.specs.Table.{PlanTable, watch}
use Rattle.plan_rules.specs.declared.state.State.{State}
use Rattle.plan_rules.specs.Reply.{reply, next}
use Rattle.plan_rules.specs.History.{is_done_answer}
use Rattle.plan_workers.specs.declared.journal.PlanEntry.{PlanEntry}
use Rattle.plan_workers.specs.Audited.{Journals}

-- no machine past the watch has an entry
abbrev pub HasNoStranger : Journals → Type 0
HasNoStranger journals = (m : ℕ) → watch < m → journals m ≡ []

-- what is left of journals, of each of which this number of entries has been read
abbrev pub rest_of : List ℕ → Journals → Journals
rest_of read journals m = drop (get_or read m 0) (journals m)

abbrev pub IsFirst : PlanEntry → List PlanEntry → Type 0
IsFirst x xs = (rest : List PlanEntry) × (xs ≡ x ∷ rest)

-- A machine's next entry may follow a state with this stamp: a done one has the stamp after it, another one this stamp
pub record Follows (done : Bool) (stamp : ℕ) (journals : Journals) (m : ℕ) (x : PlanEntry) : Type 0 where
  pub caller : m ≤ watch
  pub first : IsFirst x (journals m)
  pub kind : is_done_answer x.answer ≡ done
  pub at : x.stamp ≡ (if done then stamp + 1 else stamp)

abbrev pub NoneFollows : Bool → ℕ → Journals → Type 0
NoneFollows done stamp journals = (m : ℕ) (x : PlanEntry) → ¬ Follows done stamp journals m x

-- likewise, and no lower machine's may
pub record FollowsFirst (done : Bool) (stamp : ℕ) (journals : Journals) (m : ℕ) (x : PlanEntry) : Type 0 where
  pub follows : Follows done stamp journals m x
  pub lower : (k : ℕ) (y : PlanEntry) → k < m → ¬ Follows done stamp journals k y

-- the entry that comes next: one that isn't done, if there is any at this stamp
pub record IsNext (stamp : ℕ) (journals : Journals) (m : ℕ) (x : PlanEntry) : Type 0 where
  pub done : Bool
  pub follows : Follows done stamp journals m x
  pub lower : (k : ℕ) (y : PlanEntry) → k < m → ¬ Follows done stamp journals k y
  pub others_first : done ≡ true → NoneFollows false stamp journals

abbrev pub HasNoNext : ℕ → Journals → Type 0
HasNoNext stamp journals = (done : Bool) → NoneFollows done stamp journals

-- a machine's next entry is taken away
pub record IsTaken (m : ℕ) (before after : Journals) : Type 0 where
  pub own : (x : PlanEntry) (rest : List PlanEntry) → before m ≡ x ∷ rest → after m ≡ rest
  pub others : (k : ℕ) → k ≢ m → after k ≡ before k

-- an entry is read: the rules answer its call so, and it is no longer left
pub record Reads (t : PlanTable) (m : ℕ) (x : PlanEntry) (s now : State) (before after : Journals) : Type 0 where
  pub answer : x.answer ≡ reply t s m x.call
  pub state : now ≡ next t s m x.call
  pub own : before m ≡ x ∷ after m
  pub others : (k : ℕ) → k ≢ m → after k ≡ before k
