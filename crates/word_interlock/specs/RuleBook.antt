-- The rules of an interlock: its states, how it answers a call, and the word of each state.
use Rattle.std.specs.Prelude.{◌≡◌, ℕ, ◌+◌, ◌≤◌, Bool, true, false, if◌then◌else◌, List, [], ◌∷◌}

-- S: states; M: the actors that call; C: calls; A: answers; E: events, each a call of an actor with its answer
pub record RuleBook (S M C A E : Type 0) : Type 1 where
  pub is_sound : S → Type 0
  -- the answer to a call, and the state after it
  pub reply : S → M → C → A
  pub next : S → M → C → S
  -- a call with this answer has changed the state
  pub is_done : A → Bool
  -- how many changes there were so far
  pub stamp : S → ℕ
  pub packed : S → ℕ
  pub same : M → M → Bool
  -- those who have a pass, in their order
  pub actors : List M
  pub event : M → C → A → E
  pub actor_of : E → M
  pub call_of : E → C
  pub answer_of : E → A

-- how often an actor stands in a list
abbrev pub times : {M : Type 0} → (M → M → Bool) → M → List M → ℕ
times same m [] = 0
times same m (n ∷ rest) = (if same n m then 1 else 0) + times same m rest

-- what rules owe: calls keep a sound state sound, and only a call that is done changes it; the stamp counts these; no
-- actor stands twice among those who have a pass; an event says its actor, call and answer
pub record IsRuleBook {S M C A E : Type 0} (b : RuleBook S M C A E) : Type 0 where
  pub keeps : (s : S) (m : M) (c : C) → b.is_sound s → b.is_sound (b.next s m c)
  pub quiet : (s : S) (m : M) (c : C) → b.is_done (b.reply s m c) ≡ false → b.next s m c ≡ s
  pub counts : (s : S) (m : M) (c : C) → b.is_done (b.reply s m c) ≡ true
      → b.stamp (b.next s m c) ≡ b.stamp s + 1
  pub itself : (m : M) → b.same m m ≡ true
  pub one : (m n : M) → b.same m n ≡ true → m ≡ n
  pub once : (m : M) → times b.same m b.actors ≤ 1
  pub actor : (m : M) (c : C) (a : A) → b.actor_of (b.event m c a) ≡ m
  pub call : (m : M) (c : C) (a : A) → b.call_of (b.event m c a) ≡ c
  pub answer : (m : M) (c : C) (a : A) → b.answer_of (b.event m c a) ≡ a
