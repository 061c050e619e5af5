-- What turns of a plant ask, found among what each machine asks.
use Rattle.std.proofs.Common.{◌≡◌, ◌∙◌, ◌<◌, ◌≤◌, ◌+◌, ◌++◌, ◌∷◌, [], ℕ, zero, suc, true, false, nat_eq, List, length}
use Rattle.std.proofs.Common.{Option, Some, None, inl, inr, ap, sym, refl, arith}
use Rattle.std.proofs.lemmas.Bool.{eqb-true, false_from_ne_true}
use Rattle.std.proofs.lemmas.Bool.Decides.{nat_tests}
use Rattle.std.proofs.lemmas.List.{append_assoc, get_or_past}
use Rattle.std.specs.Prelude.{cond, find, get_or, option_and_then, slice_get, ◌⊎◌}
use Rattle.std.specs.List.{cons_option, filter_map, range_with_len}
use Rattle.plan_types.specs.Table.{PlanTable}
use Rattle.plan_explorer.specs.declared.plant_programs.RoutedCall.{RoutedCall}
use Rattle.plan_explorer.specs.declared.plant_walk.RoutedEvent.{RoutedEvent}
use Rattle.plan_explorer.specs.PlantPrograms.{RoutedPrograms}
use Rattle.plan_explorer.specs.PlantWalks.{event_by, event_of, outlook_of}
use Rattle.plan_explorer.specs.Plants.{PlantSituation, after_turns, call_of, turn_of}
use Rattle.plan_app.specs.Going.{walk_by}
use Rattle.plan_app.specs.PlantGoing.{is_of}

-- one turn more
pub after_more : (ts : List PlanTable) (ps : RoutedPrograms) (at : PlantSituation) (turns : List ℕ) (m : ℕ)
    → after_turns ts ps at (turns ++ m ∷ []) ≡ turn_of ts ps (after_turns ts ps at turns) m
after_more ts ps at [] m = refl
after_more ts ps at (t ∷ turns) m = after_more ts ps (turn_of ts ps at t) turns m

below_or_not : (a b : ℕ) → (a < b) ⊎ (b ≤ a)
below_or_not a b = grind arith

first_or_not : (k m : ℕ) → k ≤ m → (k < m) ⊎ (k ≡ m)
first_or_not k m from = grind (arith, from)

same : (a b : ℕ) → a ≡ b → nat_eq a b ≡ true
same a b e = grind (arith, nat_tests, e)

differ : (a b : ℕ) → (a < b) ⊎ (b < a) → nat_eq a b ≡ false
differ a b (inl less) = false_from_ne_true (nat_eq a b) (λ is. let e : a ≡ b = eqb-true a b is in absurd (omega (arith, less, e)))
differ a b (inr more) = false_from_ne_true (nat_eq a b) (λ is. let e : a ≡ b = eqb-true a b is in absurd (omega (arith, more, e)))

abbrev machine_or : Option RoutedEvent → ℕ → ℕ
machine_or None none = none
machine_or (Some e) none = e.event.machine

module _ (ts : List PlanTable) (ps : RoutedPrograms) (at : PlantSituation) where
  number_by : (j : ℕ) (call : Option RoutedCall) (e : RoutedEvent) → event_by ts at j call ≡ Some e → e.event.machine ≡ j
  number_by j None e is = absurd (cc)
  number_by j (Some c) e is = sym (ap (λ o. machine_or o j) is)

  -- an event has the number of its machine
  number : (j : ℕ) (e : RoutedEvent) → event_of ts ps at j ≡ Some e → e.event.machine ≡ j
  number j e is = number_by j (call_of ps at j) e is

  silent_past : (m : ℕ) → length ps ≤ m → event_of ts ps at m ≡ None
  silent_past m past = ap (λ p. event_by ts at m (slice_get p (get_or at.steps m 0))) (get_or_past ps m [] past)

  -- the first event is that of the machine, or of another one
  first : (j m : ℕ) (o : Option RoutedEvent) (rest : List RoutedEvent) → event_of ts ps at j ≡ o → j ≡ m
      → find (is_of m) rest ≡ None → find (is_of m) (cons_option o rest) ≡ o
  first j m None rest is it none = none
  first j m (Some e) rest is it none =
      ap (λ b. cond b (Some e) (find (is_of m) rest)) (same e.event.machine m (number j e is ∙ it))

  other : (j m : ℕ) (o : Option RoutedEvent) (rest : List RoutedEvent) → event_of ts ps at j ≡ o → (j < m) ⊎ (m < j)
      → find (is_of m) (cons_option o rest) ≡ find (is_of m) rest
  other j m None rest is apart = refl
  other j m (Some e) rest is apart =
      ap (λ b. cond b (Some e) (find (is_of m) rest))
      (ap (λ n. nat_eq n m) (number j e is) ∙ differ j m apart)

  abbrev events : ℕ → ℕ → List RoutedEvent
  events k n = filter_map (event_of ts ps at) (range_with_len k n)

  -- among machines past it, or before it, it isn't found
  past : (k n m : ℕ) → m < k → find (is_of m) (events k n) ≡ None
  past k zero m less = refl
  past k (suc n) m less =
      let more : m < k + 1 = omega (arith, less) in
      other k m (event_of ts ps at k) (events (k + 1) n) refl (inr less) ∙ past (k + 1) n m more

  before : (k n m : ℕ) → k + n ≤ m → find (is_of m) (events k n) ≡ None
  before k zero m few = refl
  before k (suc n) m few =
      let less : k < m = omega (arith, few) in
      let rest : k + 1 + n ≤ m = omega (arith, few) in
      other k m (event_of ts ps at k) (events (k + 1) n) refl (inl less) ∙ before (k + 1) n m rest

  -- among machines of which it is one it is
  within : (k n m : ℕ) → k ≤ m → m < k + n → find (is_of m) (events k n) ≡ event_of ts ps at m
  within k zero m from to = absurd (omega (arith, from, to))
  within k (suc n) m from to =
      let here = event_of ts ps at k in
      elim (first_or_not k m from) [
        | inl less ↦ other k m here (events (k + 1) n) refl (inl less)
            ∙ within (k + 1) n m (omega (arith, less)) (omega (arith, to))
        | inr it ↦ first k m here (events (k + 1) n) refl it (past (k + 1) n m (omega (arith, it)))
            ∙ ap (event_of ts ps at) it
      ]

  -- what a machine asks is found among what each machine asks
  pub event_is_found : (m : ℕ) → find (is_of m) (outlook_of ts ps at) ≡ event_of ts ps at m
  event_is_found m = elim (below_or_not m (length ps)) [
    | inl few ↦ within 0 (length ps) m (omega arith) (omega (arith, few))
    | inr all ↦ before 0 (length ps) m (omega (arith, all)) ∙ sym (silent_past m all)
  ]

-- ---- what turns ask, one after another

module _ (ts : List PlanTable) (ps : RoutedPrograms) (first : PlantSituation)
    (step : Option RoutedEvent → Option RoutedEvent → Option RoutedEvent → List ℕ) (who : Option ℕ) where
  abbrev outlook_after : List ℕ → List RoutedEvent
  outlook_after way = outlook_of ts ps (after_turns ts ps first way)

  -- what is told after this way
  abbrev walk : List ℕ → Option RoutedEvent → List ℕ → List ℕ
  walk way last turns = walk_by (turn_of ts ps) (event_of ts ps) step who (after_turns ts ps first way) last turns

  pub one_turn_more : (t : ℕ) (way longer turns rest : List ℕ) (last outlook asked : Option RoutedEvent) (old new whole : List ℕ)
      → turns ≡ t ∷ rest → longer ≡ way ++ t ∷ [] → outlook ≡ option_and_then (λ m. find (is_of m) (outlook_after way)) who
      → asked ≡ find (is_of t) (outlook_after way) → new ≡ old ++ step last outlook asked
      → old ++ walk way last turns ≡ whole → new ++ walk longer outlook rest ≡ whole
  one_turn_more t way longer turns rest last outlook asked old new whole are grown is_outlook is_asked pushed so_far =
      let at = after_turns ts ps first way in
      let own : option_and_then (event_of ts ps at) who ≡ outlook = sym (is_outlook ∙ ap (λ asks. option_and_then asks who) (λ i m. event_is_found ts ps at m i)) in
      let its : event_of ts ps at t ≡ asked = sym (is_asked ∙ event_is_found ts ps at t) in
      let end : turn_of ts ps at t ≡ after_turns ts ps first longer =
      sym (ap (after_turns ts ps first) grown ∙ after_more ts ps first way t) in
      let walked : walk way last turns ≡ step last outlook asked ++ walk longer outlook rest =
      ap (walk way last) are
      ∙ (λ i. step last (own i) (its i)
      ++ walk_by (turn_of ts ps) (event_of ts ps) step who (end i) (own i) rest) in
      ap (λ x. x ++ walk longer outlook rest) pushed
      ∙ (append_assoc old (step last outlook asked) (walk longer outlook rest)
      ∙ (ap (λ x. old ++ x) (sym walked) ∙ so_far))
