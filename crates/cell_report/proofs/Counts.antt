-- The Done entries of a history, by stamp.
use Rattle.cell_report.proofs.Names.{◌≡◌, ℕ, ◌+◌, ◌<◌, ◌≤◌, nat_eq, true, cond, ◌&&◌, inl, inr, List, [], ◌∷◌, ◌++◌, refl, sym, ap, ◌∙◌, subst, arith, cases_lt, sum_by-append, sum_by-cons, Machine, Feed, Table, Robot, Press, Deposit, Crane, Watch, Event, same_machine, Entry, ModelState, after, IsLegal, is_done_answer, noted, entry_of, state_left, Noted, noted_after, noted_from, all_noted, is_done_noted, done_at, In, in_kept, from_filter}
use Rattle.cell_report.proofs.Own.{is_of, same_itself, own_entries}
use Rattle.cell_report.proofs.Times.{tick, eq_cases}
use Rattle.cell_report.proofs.Runs.{next_cases}

-- ---- each stamp up to the last is that of a Done entry

pub record DoneEntry (s : ModelState) (h : List Event) (r : ℕ) : Type 0 where
  pub machine : Machine
  pub entry : Entry
  pub noted_by : In entry (noted s h machine)
  pub done : is_done_answer entry.answer ≡ true
  pub stamp : entry.stamp ≡ r

later_done : (s : ModelState) (f : Event) (h : List Event) (r : ℕ) → DoneEntry (state_left s f) h r → DoneEntry s (f ∷ h) r
later_done s f h r d = record { machine = d.machine; entry = d.entry; noted_by = in_kept (same_machine f.machine d.machine) (entry_of s f) d.entry (noted (state_left s f) h d.machine) d.noted_by; done = d.done; stamp = d.stamp }

pub done_in_run : (s : ModelState) (h : List Event) (r : ℕ) → IsLegal s h → s.stamp < r → r ≤ (after s h).stamp → DoneEntry s h r
done_in_run s [] r legal low high = absurd (omega arith)
done_in_run s (f ∷ h) r legal low high =
    elim (next_cases s f.machine f.call) [
      | inl c ↦
          elim (cases_lt (s.stamp + 1) r) [
            | inl k ↦ later_done s f h r (done_in_run (state_left s f) h r legal.1 (omega (arith, c.1, k)) high)
            | inr k ↦ record {
              machine = f.machine;
              entry = entry_of s f;
              noted_by = rw (same_itself f.machine) (inl refl);
              done = ap is_done_answer legal.0 ∙ c.0;
              stamp = omega (arith, c.1, k);
            }
          ]
      | inr c ↦ let same = ap (λ (t : ModelState). t.stamp) c.1 in later_done s f h r (done_in_run (state_left s f) h r legal.1 (omega (arith, same)) high)
    ]

noted_in : (m : Machine) (earlier : List Entry) (e : Entry) (es : List Entry) → In e es → (x : Noted) × In x (noted_from m earlier es) × (x.entry ≡ e)
noted_in m earlier e [] h = absurd h
noted_in m earlier e (d ∷ es) (inl q) = (noted_after m earlier d, inl refl, q)
noted_in m earlier e (d ∷ es) (inr h) = let x = noted_in m (earlier ++ d ∷ []) e es h in (x.0, inr x.1, x.2)

pub in_journals : (j : Machine → List Entry) (m : Machine) (e : Entry) → In e (j m) → (x : Noted) × In x (all_noted j) × (x.entry ≡ e)
in_journals j m e h =
    let x = noted_in m [] e (j m) h in
    (x.0, (from_filter (is_of m) (all_noted j) x.0 (subst (In x.0) (sym (own_entries j m)) x.1)).0, x.2)

-- ---- no stamp is that of two

abbrev tally : ℕ → List Entry → ℕ
tally r [] = 0
tally r (e ∷ es) = tick (is_done_answer e.answer && nat_eq e.stamp r) + tally r es

abbrev total : ℕ → (Machine → List Entry) → ℕ
total r j = tally r (j Feed) + tally r (j Table) + tally r (j Robot) + tally r (j Press) + tally r (j Deposit) + tally r (j Crane) + tally r (j Watch)

abbrev with_first : Machine → Entry → (Machine → List Entry) → Machine → List Entry
with_first n e j m = cond (same_machine n m) (e ∷ j m) (j m)

total_by : (r : ℕ) (n : Machine) (e : Entry) (j : Machine → List Entry) → total r (with_first n e j) ≡ tick (is_done_answer e.answer && nat_eq e.stamp r) + total r j
total_by r Feed e j = omega arith
total_by r Table e j = omega arith
total_by r Robot e j = omega arith
total_by r Press e j = omega arith
total_by r Deposit e j = omega arith
total_by r Crane e j = omega arith
total_by r Watch e j = omega arith

pub once_each : (s : ModelState) (h : List Event) (r : ℕ) → IsLegal s h → (total r (noted s h) ≤ 1) × (r ≤ s.stamp → total r (noted s h) ≡ 0)
once_each s [] r legal = (omega arith, λ l. refl)
once_each s (f ∷ h) r legal =
    let e : Entry = entry_of s f in
    let rest = once_each (state_left s f) h r legal.1 in
    let sum = total_by r f.machine e (noted (state_left s f) h) in
    elim (next_cases s f.machine f.call) [
      | inl c ↦
          let one = ap (λ b. tick (b && nat_eq e.stamp r)) (ap is_done_answer legal.0 ∙ c.0) in
          elim (eq_cases e.stamp r) [
            | inl q ↦ let none = rest.1 (omega (arith, q.0)) in (omega (arith, sum, one, q.1, none), λ l. absurd (omega (arith, q.0, c.1, l)))
            | inr q ↦ (omega (arith, sum, one, q.1, rest.0), λ l. let none = rest.1 (omega (arith, c.1, l)) in omega (arith, sum, one, q.1, none))
          ]
      | inr c ↦
          let one = ap (λ b. tick (b && nat_eq e.stamp r)) (ap is_done_answer legal.0 ∙ c.0) in
          let same = ap (λ (t : ModelState). t.stamp) c.1 in
          (omega (arith, sum, one, rest.0), λ l. let none = rest.1 (omega (arith, same, l)) in omega (arith, sum, one, none))
    ]

done_at-from : (r : ℕ) (m : Machine) (earlier es : List Entry) → done_at (noted_from m earlier es) r ≡ tally r es
done_at-from r m earlier [] = refl
done_at-from r m earlier (e ∷ es) =
    let f : Noted → ℕ = λ y. cond (is_done_noted y && nat_eq y.entry.stamp r) 1 0 in
    omega (arith, sum_by-cons f (noted_after m earlier e) (noted_from m (earlier ++ e ∷ []) es), done_at-from r m (earlier ++ e ∷ []) es)

pub done_total : (r : ℕ) (j : Machine → List Entry) → done_at (all_noted j) r ≡ total r j
done_total r j =
    let f : Noted → ℕ = λ y. cond (is_done_noted y && nat_eq y.entry.stamp r) 1 0 in
    simp (sum_by-append f, done_at-from r) (omega arith)

pub at_most_once : (s : ModelState) (j : Machine → List Entry) (h : List Event) (r : ℕ) → IsLegal s h → ((m : Machine) → noted s h m ≡ j m) → done_at (all_noted j) r ≤ 1
at_most_once s j h r legal own =
    let e : (m : Machine) → tally r (noted s h m) ≡ tally r (j m) = λ m. ap (tally r) (own m) in
    omega (arith, done_total r j, e Feed, e Table, e Robot, e Press, e Deposit, e Crane, e Watch, (once_each s h r legal).0)
