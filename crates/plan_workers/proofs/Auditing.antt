-- Reading the entry that comes next goes on with each history that explains the journals, and with no other.
use Rattle.std.proofs.Common.{◌≡◌, ◌≢◌, ℕ, zero, suc, ◌+◌, ◌<◌, ◌≤◌, inl, inr, Bool, true, false, List, [], ◌∷◌, Option, get_or, refl, sym, ap, ◌∙◌, subst, arith}
use Rattle.std.specs.Prelude.{drop, replicate}
use Rattle.std.proofs.lemmas.Bool.{cases_Bool, cases_eq}
use Rattle.plan_types.specs.declared.answer.Event.{Event}
use Rattle.plan_types.specs.Table.{PlanTable, watch}
use Rattle.plan_rules.specs.declared.state.State.{State}
use Rattle.plan_rules.specs.Reply.{reply, next}
use Rattle.plan_rules.specs.History.{after, IsLegal, is_done, is_done_answer}
use Rattle.std.specs.Prelude.{Result, Ok, Err, IfErr}
use Rattle.plan_workers.specs.declared.audit_fault.PlanAuditFault.{PlanAuditFault}
use Rattle.plan_workers.specs.declared.audit_fault.PlanAuditFault.TheVariants.{Memory}
use Rattle.plan_workers.specs.declared.journal.PlanEntry.{PlanEntry}
use Rattle.plan_workers.specs.Journals.{entry_of, event_by, journal_of, stamp_after}
use Rattle.plan_workers.specs.Audited.{AreByCallers, EndsIn, HasNoHistory, IsAudited, Journals}
use Rattle.plan_workers.specs.Replays.{Follows, HasNoNext, IsNext, NoneFollows, Reads, rest_of}
use Rattle.plan_workers.proofs.Journaling.{calm_stays, next_stamp, others_first, own_first, stamp_calm, stamp_done, stamps_from}

-- ---- of journals of which nothing has been read all is left

unread : (n m : ℕ) → ◌≡◌ {A = ℕ} (get_or (replicate n 0) m 0) 0
unread zero m = refl
unread (suc n) zero = refl
unread (suc n) (suc m) = unread n m

pub all_left : (js : Journals) (read : List ℕ) → read ≡ replicate 31 0 → (m : ℕ) → rest_of read js m ≡ js m
all_left js read none m = ap (λ r. drop (get_or r m 0) (js m)) none ∙ ap (λ k. drop k (js m)) (unread 31 m)

pub alike : (t : PlanTable) (s now : State) (js ks : Journals) (end : Option State) (h : List Event) → now ≡ s → ((m : ℕ) → js m ≡ ks m) → IsAudited t now js end h → IsAudited t s ks end h
alike t s now js ks end h at same a =
    let there = subst (λ z. IsAudited t z js end h) at a in
    record { legal = there.legal; callers = there.callers; own = λ m. there.own m ∙ same m; ends = there.ends }

-- ---- what was read explains what was left before

pub reads_on : (t : PlanTable) (s now : State) (m : ℕ) (x : PlanEntry) (before later : Journals) (end : Option State) (h : List Event) → m ≤ watch → x.stamp ≡ stamp_after s.stamp (event_by m x) → Reads t m x s now before later
    → IsAudited t now later end h → IsAudited t s before end (event_by m x ∷ h)
reads_on t s now m x before later end h caller at r a =
    let n = stamp_after s.stamp (event_by m x) in
    let stamp : now.stamp ≡ n = ap (λ (z : State). z.stamp) r.state ∙ next_stamp t s (event_by m x) r.answer in
    let noted = λ (k : ℕ). subst (λ z. journal_of z h k ≡ later k) stamp (a.own k) in record {
      legal = (r.answer, subst (λ z. IsLegal t z h) r.state a.legal);
      callers = (caller, a.callers);
      own = λ k. elim (cases_eq m k) [
        | inl own ↦ own_first s.stamp (event_by m x) h k own ∙ (ap (λ n. record { call = x.call; answer = x.answer; stamp = n } ∷ journal_of (stamp_after s.stamp (event_by m x)) h k) (sym at) ∙ (ap (λ j. x ∷ j) (noted k) ∙ (subst (λ j. x ∷ later j ≡ before j) own (sym r.own))))
        | inr other ↦ others_first s.stamp (event_by m x) h k other ∙ (noted k ∙ r.others k (λ e. other (sym e)))
      ];
      ends = subst (λ z. EndsIn (after t z h) end) r.state a.ends;
    }

-- ---- each history that explains what is left has the entry that comes next, in a place where it may come first

-- a history without that entry, which explains the rest
pub record GoesOn (t : PlanTable) (s : State) (m : ℕ) (x : PlanEntry) (rest : List PlanEntry) (h : List Event) : Type 0 where
  pub answer : x.answer ≡ reply t s m x.call
  pub history : List Event
  pub legal : IsLegal t (next t s m x.call) history
  pub callers : AreByCallers history
  pub own : journal_of (next t s m x.call).stamp history m ≡ rest
  pub others : (k : ℕ) → k ≢ m → journal_of (next t s m x.call).stamp history k ≡ journal_of s.stamp h k
  pub reached : after t (next t s m x.call) history ≡ after t s h

-- the entry is that of the first event
at_once : (t : PlanTable) (s : State) (e : Event) (h : List Event) (m : ℕ) (x : PlanEntry) (rest : List PlanEntry) → IsLegal t s (e ∷ h) → AreByCallers (e ∷ h) → e.machine ≡ m → journal_of s.stamp (e ∷ h) m ≡ x ∷ rest → GoesOn t s m x rest (e ∷ h)
at_once t s e h m x rest legal callers own is =
    let f = own_first s.stamp e h m own in
    let entry : entry_of s.stamp e ≡ x = cc in
    let left : journal_of (stamp_after s.stamp e) h m ≡ rest = cc in
    let call = ap (λ (y : PlanEntry). y.call) entry in
    let answer = ap (λ (y : PlanEntry). y.answer) entry in
    let N : State = next t s e.machine e.call in
    let to : N ≡ next t s m x.call = ap (λ k. next t s k e.call) own ∙ ap (λ c. next t s m c) call in
    let stamp : N.stamp ≡ stamp_after s.stamp e = next_stamp t s e legal.0 in
    let P : State → Type 0 = λ z. IsLegal t z h × (journal_of z.stamp h m ≡ rest) × ((k : ℕ) → k ≢ m → journal_of z.stamp h k ≡ journal_of s.stamp (e ∷ h) k) × (after t z h ≡ after t s (e ∷ h)) in
    let there : P (next t s m x.call) = subst P to (
      legal.1,
      ap (λ n. journal_of n h m) stamp ∙ left,
      (λ k isnt. ap (λ n. journal_of n h k) stamp ∙ sym (others_first s.stamp e h k (λ is. isnt (sym is ∙ own)))),
      refl,
    ) in record {
      answer = sym answer ∙ (legal.0 ∙ (ap (λ k. reply t s k e.call) own ∙ ap (λ c. reply t s m c) call));
      history = h;
      legal = there.0;
      callers = callers.1;
      own = there.1;
      others = there.2;
      reached = there.3;
    }

-- the first event isn't done, and another machine's
at_once_later : (t : PlanTable) (s : State) (e : Event) (h : List Event) (m : ℕ) (x : PlanEntry) (rest : List PlanEntry) → IsLegal t s (e ∷ h) → AreByCallers (e ∷ h) → e.machine ≢ m → is_done e ≡ false → is_done_answer x.answer ≡ false
    → GoesOn t s m x rest h → GoesOn t s m x rest (e ∷ h)
at_once_later t s e h m x rest legal callers other calm kind g =
    let N : State = next t s m x.call in
    let stays : N ≡ s = calm_stays t s (event_by m x) g.answer kind in
    let here : next t s e.machine e.call ≡ s = calm_stays t s e legal.0 calm in
    let P : State → Type 0 = λ z. (e.answer ≡ reply t z e.machine e.call) × (next t z e.machine e.call ≡ z) × (stamp_after z.stamp e ≡ z.stamp) in
    let at : P N = subst P (sym stays) (legal.0, here, stamp_calm s.stamp e calm) in
    let noted = λ (k : ℕ) (rest : List PlanEntry). λ (is : journal_of N.stamp g.history k ≡ rest). ap (λ n. journal_of n g.history k) at.2 ∙ is in
    record {
      answer = g.answer;
      history = e ∷ g.history;
      legal = (at.0, subst (λ z. IsLegal t z g.history) (sym at.1) g.legal);
      callers = (callers.0, g.callers);
      own = others_first N.stamp e g.history m other ∙ noted m rest g.own;
      others = λ k isnt. elim (cases_eq e.machine k) [
        | inl is ↦ own_first N.stamp e g.history k is ∙ (ap (λ (z : State). entry_of z.stamp e ∷ journal_of (stamp_after z.stamp e) g.history k) stays ∙ (ap (λ j. entry_of s.stamp e ∷ j) (ap (λ n. journal_of n g.history k) (stamp_calm s.stamp e calm ∙ ap (λ (z : State). z.stamp) (sym stays)) ∙ (g.others k isnt ∙ ap (λ n. journal_of n h k) (sym (stamp_calm s.stamp e calm)))) ∙ sym (own_first s.stamp e h k is)))
        | inr apart ↦ others_first N.stamp e g.history k apart ∙ (noted k (journal_of s.stamp h k) (g.others k isnt) ∙ (ap (λ n. journal_of n h k) (sym (stamp_calm s.stamp e calm)) ∙ sym (others_first s.stamp e h k apart)))
      ];
      reached = ap (λ z. after t z g.history) at.1 ∙ (g.reached ∙ ap (λ z. after t z h) (sym here));
    }

-- an entry that isn't done, at this stamp, may come first
calm_goes_on : (t : PlanTable) (s : State) (m : ℕ) (x : PlanEntry) (rest : List PlanEntry) (h : List Event) → IsLegal t s h → AreByCallers h → journal_of s.stamp h m ≡ x ∷ rest → is_done_answer x.answer ≡ false → x.stamp ≡ s.stamp → GoesOn t s m x rest h
calm_goes_on t s m x rest [] legal callers is kind at = absurd (cc)
calm_goes_on t s m x rest (e ∷ h) legal callers is kind at =
    elim (cases_eq e.machine m) [
      | inl own ↦ at_once t s e h m x rest legal callers own is
      | inr other ↦
          let later : journal_of (stamp_after s.stamp e) h m ≡ x ∷ rest = sym (others_first s.stamp e h m other) ∙ is in
          elim (cases_Bool (is_done e)) [
            | inl done ↦ let l = (stamps_from h (stamp_after s.stamp e) m x rest later).least in let d = stamp_done s.stamp e done in absurd (omega (arith, l, d, at))
            | inr calm ↦
                let here : next t s e.machine e.call ≡ s = calm_stays t s e legal.0 calm in
                at_once_later t s e h m x rest legal callers other calm kind
                (calm_goes_on t s m x rest h (subst (λ z. IsLegal t z h) here legal.1) callers.1 (ap (λ n. journal_of n h m) (sym (stamp_calm s.stamp e calm)) ∙ later) kind at)
          ]
    ]

-- the first event of a history may follow its state
first_follows : (t : PlanTable) (s : State) (e : Event) (h : List Event) → AreByCallers (e ∷ h) → Follows (is_done e) s.stamp (journal_of s.stamp (e ∷ h)) e.machine (entry_of s.stamp e)
first_follows t s e h callers = record {
  caller = callers.0;
  first = (journal_of (stamp_after s.stamp e) h e.machine, own_first s.stamp e h e.machine refl);
  kind = refl;
  at = refl;
}

-- where no other entry may come, a done one does
done_goes_on : (t : PlanTable) (s : State) (m : ℕ) (x : PlanEntry) (rest : List PlanEntry) (h : List Event) → IsLegal t s h → AreByCallers h → journal_of s.stamp h m ≡ x ∷ rest → is_done_answer x.answer ≡ true → x.stamp ≡ s.stamp + 1
    → NoneFollows false s.stamp (journal_of s.stamp h) → GoesOn t s m x rest h
done_goes_on t s m x rest [] legal callers is kind at none = absurd (cc)
done_goes_on t s m x rest (e ∷ h) legal callers is kind at none =
    elim (cases_eq e.machine m) [
      | inl own ↦ at_once t s e h m x rest legal callers own is
      | inr other ↦
          elim (cases_Bool (is_done e)) [
            | inl done ↦
                let l = (stamps_from h (stamp_after s.stamp e) m x rest (sym (others_first s.stamp e h m other) ∙ is)).done kind in
                let d = stamp_done s.stamp e done in absurd (omega (arith, l, d, at))
            | inr calm ↦ absurd (none e.machine (entry_of s.stamp e) (subst (λ b. Follows b s.stamp (journal_of s.stamp (e ∷ h)) e.machine (entry_of s.stamp e)) calm (first_follows t s e h callers)))
          ]
    ]

-- ---- the entry that comes next

abbrev Same : Journals → Journals → Type 0
Same js ks = (k : ℕ) → js k ≡ ks k

follows_too : (done : Bool) (n : ℕ) (js ks : Journals) (m : ℕ) (x : PlanEntry) → Same js ks → Follows done n js m x → Follows done n ks m x
follows_too done n js ks m x same f = record { caller = f.caller; first = (f.first.0, sym (same m) ∙ f.first.1); kind = f.kind; at = f.at }

pub stamp_of_kind : (n m : ℕ) (x : PlanEntry) (done : Bool) (js : Journals) → is_done_answer x.answer ≡ done → Follows done n js m x → x.stamp ≡ stamp_after n (event_by m x)
stamp_of_kind n m x true js d f = f.at ∙ sym (stamp_done n (event_by m x) d)
stamp_of_kind n m x false js d f = f.at ∙ sym (stamp_calm n (event_by m x) d)

-- an entry that comes next has the stamp after its event
pub at_its_stamp : (n : ℕ) (js : Journals) (m : ℕ) (x : PlanEntry) → IsNext n js m x → x.stamp ≡ stamp_after n (event_by m x)
at_its_stamp n js m x next = stamp_of_kind n m x next.done js next.follows.kind next.follows

goes_on : (t : PlanTable) (s : State) (js : Journals) (end : Option State) (m : ℕ) (x : PlanEntry) (rest : List PlanEntry) (h : List Event) → IsNext s.stamp js m x → js m ≡ x ∷ rest → IsAudited t s js end h → GoesOn t s m x rest h
goes_on t s js end m x rest h next left a =
    let is : journal_of s.stamp h m ≡ x ∷ rest = a.own m ∙ left in
    elim (cases_Bool (is_done_answer x.answer)) [
      | inl d ↦
          let kind : next.done ≡ true = sym next.follows.kind ∙ d in
          let f = subst (λ b. Follows b s.stamp js m x) kind next.follows in
          done_goes_on t s m x rest h a.legal a.callers is d f.at (λ k y g. next.others_first kind k y (follows_too false s.stamp (journal_of s.stamp h) js k y a.own g))
      | inr c ↦
          let f = subst (λ b. Follows b s.stamp js m x) (sym next.follows.kind ∙ c) next.follows in
          calm_goes_on t s m x rest h a.legal a.callers is c f.at
    ]

-- ---- what an audit finds

-- the rules answer the next call otherwise: no history explains the journals
pub differs : (t : PlanTable) (s : State) (js : Journals) (end : Option State) (m : ℕ) (x : PlanEntry) → IsNext s.stamp js m x → x.answer ≢ reply t s m x.call → HasNoHistory t s js end
differs t s js end m x next wrong h a = wrong (goes_on t s js end m x next.follows.first.0 h next next.follows.first.1 a).answer

-- what explains the journals before an entry was read explains what is left, once that entry is taken out
pub reads_no_more : (t : PlanTable) (s now : State) (before later : Journals) (end : Option State) (m : ℕ) (x : PlanEntry) → IsNext s.stamp before m x → Reads t m x s now before later → HasNoHistory t now later end → HasNoHistory t s before end
reads_no_more t s now before later end m x first r none h a =
    let g = goes_on t s before end m x (later m) h first r.own a in
    let N : State = next t s m x.call in
    let A : State → Type 0 = λ z. IsAudited t z later end g.history in
    let there : A N = record {
      legal = g.legal;
      callers = g.callers;
      own = λ k. elim (cases_eq k m) [
        | inl is ↦ subst (λ j. journal_of N.stamp g.history j ≡ later j) (sym is) g.own
        | inr isnt ↦ g.others k isnt ∙ (a.own k ∙ sym (r.others k isnt))
      ];
      ends = subst (λ z. EndsIn z end) (sym g.reached) a.ends;
    } in none g.history (subst A (sym r.state) there)

-- nothing comes next: only the empty history may explain what is left
pub is_at_end : (t : PlanTable) (s : State) (js : Journals) (end : Option State) (h : List Event) → HasNoNext s.stamp js → IsAudited t s js end h → ((m : ℕ) → js m ≡ []) × EndsIn s end
is_at_end t s js end [] none a = ((λ m. sym (a.own m)), a.ends)
is_at_end t s js end (e ∷ h) none a = absurd (none (is_done e) e.machine (entry_of s.stamp e) (follows_too (is_done e) s.stamp (journal_of s.stamp (e ∷ h)) js e.machine (entry_of s.stamp e) a.own (first_follows t s e h a.callers)))

pub nothing_left : (t : PlanTable) (s : State) (js : Journals) (end : Option State) → ((m : ℕ) → js m ≡ []) → EndsIn s end → IsAudited t s js end []
nothing_left t s js end empty ends = record { legal = tt; callers = tt; own = λ m. sym (empty m); ends = ends }

-- ---- journals of no machine

no_event : (h : List Event) (n m : ℕ) → AreByCallers h → watch < m → journal_of n h m ≡ []
no_event [] n m callers past = refl
no_event (e ∷ h) n m callers past = others_first n e h m (λ is. let c = callers.0 in omega (arith, c, past, is)) ∙ no_event h (stamp_after n e) m callers.1 past

pub of_no_machine : (t : PlanTable) (s : State) (js : Journals) (end : Option State) (m : ℕ) → watch < m → js m ≢ [] → HasNoHistory t s js end
of_no_machine t s js end m past some h a = some (sym (a.own m) ∙ no_event h s.stamp m a.callers past)

pub whatever_fault : {A : Type 0} (r : Result A PlanAuditFault) (Q : Type 0) → Q → IfErr r (λ fault. fault ≢ Memory → Q)
whatever_fault (Ok v) Q q = tt
whatever_fault (Err fault) Q q = λ _. q
