-- What a machine notes of a history.
use Rattle.std.proofs.Common.{append_assoc, append-nil, ◌≡◌, ◌≢◌, ℕ, ◌+◌, ◌<◌, ◌≤◌, inl, inr, true, false, cond, nat_eq, List, [], ◌∷◌, ◌++◌, refl, sym, ap, ◌∙◌, subst, arith}
use Rattle.std.proofs.lemmas.Bool.{eq-eqb, ne_eqb, cond-true, cond-false, cases_Bool, cases_eq}
use Rattle.plan_types.specs.declared.answer.Answer.{Answer}
use Rattle.plan_types.specs.declared.answer.Answer.TheVariants.{Done, Shown, Refused}
use Rattle.plan_types.specs.declared.call.Call.{Call}
use Rattle.plan_types.specs.declared.answer.Event.{Event}
use Rattle.plan_types.specs.Table.{PlanTable}
use Rattle.plan_rules.specs.declared.state.State.{State}
use Rattle.plan_rules.specs.Reply.{reply, next, next_by}
use Rattle.std.proofs.lemmas.List.Sums.{sum_by-cons, sum_by-append}
use Rattle.plan_rules.specs.History.{done_count, is_done, is_done_answer, own_events}
use Rattle.plan_controller.specs.Seen.{SeesOthers, event}
use Rattle.word_interlock.specs.History.{IsLegal as IsLegalBy, after as after_by}
use Rattle.plan_interlock.specs.Book.{plan_book}
use Rattle.plan_workers.specs.declared.journal.PlanEntry.{PlanEntry}
use Rattle.plan_workers.specs.Journals.{IsJournal, entry, entry_of, journal_of, stamp_after}

-- ---- one event

pub own_first : (n : ℕ) (e : Event) (h : List Event) (m : ℕ) → e.machine ≡ m → journal_of n (e ∷ h) m ≡ entry_of n e ∷ journal_of (stamp_after n e) h m
own_first n e h m is = cond-true (nat_eq e.machine m) (entry_of n e ∷ journal_of (stamp_after n e) h m) (journal_of (stamp_after n e) h m) (eq-eqb e.machine m is)

pub others_first : (n : ℕ) (e : Event) (h : List Event) (m : ℕ) → e.machine ≢ m → journal_of n (e ∷ h) m ≡ journal_of (stamp_after n e) h m
others_first n e h m isnt = cond-false (nat_eq e.machine m) (entry_of n e ∷ journal_of (stamp_after n e) h m) (journal_of (stamp_after n e) h m) (ne_eqb e.machine m isnt)

pub stamp_done : (n : ℕ) (e : Event) → is_done e ≡ true → stamp_after n e ≡ n + 1
stamp_done n e d = cond-true (is_done e) (n + 1) n d

pub stamp_calm : (n : ℕ) (e : Event) → is_done e ≡ false → stamp_after n e ≡ n
stamp_calm n e d = cond-false (is_done e) (n + 1) n d

-- ---- stamps rise

-- the first entry of a journal has at least the stamp that the history begins with, and a done one a greater one
pub record StampsFrom (n : ℕ) (x : PlanEntry) : Type 0 where
  pub least : n ≤ x.stamp
  pub done : is_done_answer x.answer ≡ true → n < x.stamp

first_stamp : (n : ℕ) (e : Event) → StampsFrom n (entry_of n e)
first_stamp n e =
    elim (cases_Bool (is_done e)) [
      | inl d ↦ let s = stamp_done n e d in record { least = omega (arith, s); done = λ k. omega (arith, s) }
      | inr c ↦ let s = stamp_calm n e c in record { least = omega (arith, s); done = λ k. absurd (cc) }
    ]

later_stamp : (n : ℕ) (e : Event) (x : PlanEntry) → StampsFrom (stamp_after n e) x → StampsFrom n x
later_stamp n e x s =
    elim (cases_Bool (is_done e)) [
      | inl d ↦ let a = stamp_done n e d in record { least = let l = s.least in omega (arith, a, l); done = λ k. let l = s.least in omega (arith, a, l) }
      | inr c ↦ let a = stamp_calm n e c in record { least = let l = s.least in omega (arith, a, l); done = λ k. let l = s.done k in omega (arith, a, l) }
    ]

pub stamps_from : (h : List Event) (n m : ℕ) (x : PlanEntry) (rest : List PlanEntry) → journal_of n h m ≡ x ∷ rest → StampsFrom n x
stamps_from [] n m x rest is = absurd (cc)
stamps_from (e ∷ h) n m x rest is =
    elim (cases_eq e.machine m) [
      | inl own ↦ let f = own_first n e h m own in let same : entry_of n e ≡ x = cc in subst (λ y. StampsFrom n y) same (first_stamp n e)
      | inr other ↦ later_stamp n e x (stamps_from h (stamp_after n e) m x rest (sym (others_first n e h m other) ∙ is))
    ]

-- ---- one call

stamp_by : (a : Answer) (t : PlanTable) (s : State) (m : ℕ) (c : Call) → (next_by a t s m c).stamp ≡ stamp_after s.stamp (record { machine = m; call = c; answer = a })
stamp_by Done t s m c = refl
stamp_by (Shown owner flag posture) t s m c = refl
stamp_by (Refused r) t s m c = refl

-- the stamp that a call leaves is counted by its answer
pub next_stamp : (t : PlanTable) (s : State) (e : Event) → e.answer ≡ reply t s e.machine e.call → (next t s e.machine e.call).stamp ≡ stamp_after s.stamp e
next_stamp t s e is = subst (λ a. (next_by a t s e.machine e.call).stamp ≡ stamp_after s.stamp e) is (stamp_by e.answer t s e.machine e.call)

same_by : (a : Answer) (t : PlanTable) (s : State) (m : ℕ) (c : Call) → is_done_answer a ≡ false → next_by a t s m c ≡ s
same_by Done t s m c d = absurd (cc)
same_by (Shown owner flag posture) t s m c d = refl
same_by (Refused r) t s m c d = refl

-- a call that isn't done leaves the state
pub calm_stays : (t : PlanTable) (s : State) (e : Event) → e.answer ≡ reply t s e.machine e.call → is_done e ≡ false → next t s e.machine e.call ≡ s
calm_stays t s e is calm = same_by (reply t s e.machine e.call) t s e.machine e.call (ap is_done_answer (sym is) ∙ calm)

-- ---- longer histories

-- the done events of a history and the first one
count_first : (n : ℕ) (e : Event) (h : List Event) → stamp_after n e + done_count h ≡ n + done_count (e ∷ h)
count_first n e h =
    let count = sum_by-cons (λ (x : Event). cond (is_done x) 1 0) e h in
    elim (cases_Bool (is_done e)) [
      | inl d ↦ let s = stamp_done n e d in let one = cond-true {A = ℕ} (is_done e) 1 0 d in omega (arith, count, s, one)
      | inr c ↦ let s = stamp_calm n e c in let none = cond-false {A = ℕ} (is_done e) 1 0 c in omega (arith, count, s, none)
    ]

count_more : (xs ys : List Event) → done_count (xs ++ ys) ≡ done_count xs + done_count ys
count_more xs ys = sum_by-append (λ (x : Event). cond (is_done x) 1 0) xs ys

-- a longer history's journal goes on from the stamp after the shorter one
pub journal_more : (xs ys : List Event) (n m : ℕ) → journal_of n (xs ++ ys) m ≡ journal_of n xs m ++ journal_of (n + done_count xs) ys m
journal_more [] ys n m = ap (λ k. journal_of k ys m) (omega arith)
journal_more (e ∷ xs) ys n m =
    let rest = journal_more xs ys (stamp_after n e) m ∙ ap (λ k. journal_of (stamp_after n e) xs m ++ journal_of k ys m) (count_first n e xs) in
    elim (cases_eq e.machine m) [
      | inl own ↦ own_first n e (xs ++ ys) m own ∙ (ap (λ j. entry_of n e ∷ j) rest ∙ ap (λ j. j ++ journal_of (n + done_count (e ∷ xs)) ys m) (sym (own_first n e xs m own)))
      | inr other ↦ others_first n e (xs ++ ys) m other ∙ (rest ∙ ap (λ j. j ++ journal_of (n + done_count (e ∷ xs)) ys m) (sym (others_first n e xs m other)))
    ]

-- others' events leave a journal
pub journal_of_others : (h : List Event) (n m : ℕ) → own_events h m ≡ [] → journal_of n h m ≡ []
journal_of_others [] n m none = refl
journal_of_others (e ∷ h) n m none =
    elim (cases_eq e.machine m) [
      | inl own ↦ let is = cond-true (nat_eq e.machine m) (e ∷ own_events h m) (own_events h m) (eq-eqb e.machine m own) in absurd (cc)
      | inr other ↦
          let is = cond-false (nat_eq e.machine m) (e ∷ own_events h m) (own_events h m) (ne_eqb e.machine m other) in
          others_first n e h m other ∙ journal_of_others h (stamp_after n e) m (sym is ∙ none)
    ]

pub others_seen : (n m : ℕ) (before seen now : List Event) (journal : List PlanEntry) → IsJournal n m before seen journal → SeesOthers m seen now → IsJournal n m before now journal
others_seen n m before seen now journal j s =
    let k = n + done_count before in record {
      since = j.since ++ s.others;
      split = s.split ∙ (ap (λ es. es ++ s.others) j.split ∙ append_assoc before j.since s.others);
      is = j.is ∙ (sym (append-nil (journal_of k j.since m)) ∙ (ap (λ es. journal_of k j.since m ++ es) (sym (journal_of_others s.others (k + done_count j.since) m s.none_own)) ∙ sym (journal_more j.since s.others k m)));
    }

-- the machine's own event, the last that it sees, is noted with the stamp after it
pub own_seen : (n m : ℕ) (c : Call) (a : Answer) (stamp : ℕ) (before point : List Event) (journal : List PlanEntry) → IsJournal n m before point journal → stamp ≡ n + done_count (point ++ event m c a ∷ [])
    → IsJournal n m before (point ++ event m c a ∷ []) (journal ++ entry c a stamp ∷ [])
own_seen n m c a stamp before point journal j at =
    let k = n + done_count before in
    let e = event m c a in
    let count : k + done_count j.since ≡ n + done_count point =
    let more = count_more before j.since in let whole = ap done_count j.split in omega (arith, more, whole) in
    let same : stamp ≡ stamp_after (k + done_count j.since) e =
    let more = count_more point (e ∷ []) in let first = count_first (k + done_count j.since) e [] in let none : done_count [] ≡ 0 = refl in omega (arith, more, first, none, count, at) in
    let last : journal_of (k + done_count j.since) (e ∷ []) m ≡ entry c a stamp ∷ [] = own_first (k + done_count j.since) e [] m refl ∙ ap (λ s. entry c a s ∷ []) (sym same) in record {
      since = j.since ++ e ∷ [];
      split = ap (λ es. es ++ e ∷ []) j.split ∙ append_assoc before j.since (e ∷ []);
      is = ap (λ es. es ++ entry c a stamp ∷ []) j.is ∙ (ap (λ es. journal_of k j.since m ++ es) (sym last) ∙ sym (journal_more j.since (e ∷ []) k m));
    }

-- the stamp after a legal history of the interlock's rules
pub stamp_counted : (t : PlanTable) (s : State) (h : List Event) → IsLegalBy (plan_book t) s h → (after_by (plan_book t) s h).stamp ≡ s.stamp + done_count h
stamp_counted t s [] l = omega arith
stamp_counted t s (e ∷ h) l = stamp_counted t (next t s e.machine e.call) h l.1 ∙ (ap (λ n. n + done_count h) (next_stamp t s e l.0) ∙ count_first s.stamp e h)
