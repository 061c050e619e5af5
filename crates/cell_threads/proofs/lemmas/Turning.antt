-- A worker's turns, one by one.
use Rattle.cell_threads.proofs.Names.{◌≡◌, ℕ, Bool, true, false, List, [], ◌+◌, ◌∷◌, ◌++◌, Option, Some, None, refl, sym, ap, ◌∙◌, subst, is_some, Rig, Steps, CtlFault, TurnCall, AreBelow, counts_with, Counts, below_with, Side, Lines, WorkerMoment, worker_moment, GateOf, AreTaken, ComesBy, TakesTurn, HasCome, last_of}

-- whatever a turn is
module _ {M : Type 0} (Turn : M → M → Type 0) where
  last_more : (first now : M) (turns : List M) → last_of first (turns ++ now ∷ []) ≡ now
  last_more first now [] = refl
  last_more first now (x ∷ xs) = last_more x now xs

  takes_more : (first now : M) (turns : List M) → AreTaken Turn first turns → Turn (last_of first turns) now → AreTaken Turn first (turns ++ now ∷ [])
  takes_more first now [] k turn = (turn, tt)
  takes_more first now (x ∷ xs) k turn = (k.0, takes_more x now xs k.1 turn)

  pub has_begun : (first : M) → ComesBy Turn first first
  has_begun first = record { turns = []; taken = tt; last = refl }

  pub comes_on : (first before now : M) → ComesBy Turn first before → Turn before now → ComesBy Turn first now
  comes_on first before now k turn =
      record {
        turns = k.turns ++ now ∷ [];
        taken = takes_more first now k.turns k.taken (subst (λ x. Turn x now) (sym k.last) turn);
        last = last_more first now k.turns;
      }

-- what each turn keeps
module _ {M : Type 0} (Turn : M → M → Type 0) (Q : M → Type 0) (keeps : (before now : M) → Turn before now → Q before → Q now) where
  along : (first : M) (turns : List M) → AreTaken Turn first turns → Q first → Q (last_of first turns)
  along first [] k q = q
  along first (now ∷ later) k q = along now later k.1 (keeps first now k.0 q)

  pub all_along : (first now : M) → ComesBy Turn first now → Q first → Q now
  all_along first now k q = subst Q k.last (along first k.turns k.taken q)

module _ {L S Sense Reading Act State : Type 0} (lines : Lines L) (t : Steps S Sense Reading Act) (rig : Rig State Sense Act) (gate : GateOf) where
  pub has_begun_as : (line : L) (side : Side S State) (none counts : Counts) → counts ≡ none → HasCome lines t rig gate (worker_moment line side none) (worker_moment line side counts)
  has_begun_as line side none counts e = subst (λ k. HasCome lines t rig gate (worker_moment line side none) (worker_moment line side k)) (sym e) (has_begun (TakesTurn lines t rig gate) (worker_moment line side none))

-- a program and a part keep their configuration
module _ {L S Sense Reading Act State P M : Type 0} (lines : Lines L) (steps : P → Steps S Sense Reading Act) (rigs : M → Rig State Sense Act) (gate : GateOf) where
  pub comes_by : (p q : P) (m n : M) → p ≡ q → m ≡ n → (first before now : WorkerMoment L S State) → HasCome lines (steps q) (rigs n) gate first before → TakesTurn lines (steps p) (rigs m) gate before now → HasCome lines (steps q) (rigs n) gate first now
  comes_by p q m n e f first before now k turn =
      comes_on (TakesTurn lines (steps q) (rigs n) gate) first before now k
      (subst (λ x. TakesTurn lines (steps q) (rigs x) gate before now) f (subst (λ x. TakesTurn lines (steps x) (rigs m) gate before now) e turn))

pub few_more : (n k : ℕ) (c now : Counts) (asked : TurnCall) → k ≡ n + 1 → AreBelow n c → now ≡ counts_with c asked → AreBelow k now
few_more n k c now asked e b is = subst (λ x. AreBelow x now) (sym e) (subst (AreBelow (n + 1)) (sym is) (below_with n c asked b))

pub one_turn_more : (n k : ℕ) (c now : Counts) (asked : TurnCall) → k ≡ n + 1 → c.turns ≡ n → now ≡ counts_with c asked → now.turns ≡ k
one_turn_more n k c now asked e taken is = ap (λ x. x.turns) is ∙ ap (λ x. x + 1) taken ∙ sym e

-- a machine that was found not to have stopped has not stopped
pub not_stopped : (stopped found : Option CtlFault) (b : Bool) → found ≡ stopped → b ≡ is_some found → b ≡ false → stopped ≡ None
not_stopped None found b e f k = refl
not_stopped (Some fault) found b e f k = let lie : true ≡ false = sym (ap is_some e) ∙ sym f ∙ k in cc
