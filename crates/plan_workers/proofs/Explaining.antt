-- The history of a round explains its journals, if nobody but its machines has called.
use Rattle.std.proofs.Common.{◌≡◌, ◌≢◌, ℕ, suc, ◌+◌, ◌<◌, ◌≤◌, inl, inr, nat_eq, List, [], ◌∷◌, length, map, get_or, Option, Some, Result, refl, sym, ap, ◌∙◌, subst, arith}
use Rattle.std.proofs.lemmas.Bool.{cases_eq, cases_lt, cond-false, ne_eqb}
use Rattle.std.proofs.lemmas.List.{get_or_past, length-map}
use Rattle.std.specs.Global.{Vec}
use Rattle.std.specs.Prelude.{⊤}
use Rattle.plan_types.specs.declared.answer.Event.{Event}
use Rattle.plan_rules.specs.History.{own_events}
use Rattle.word_interlock.specs.Views.{view_of}
use Rattle.plan_workers.specs.declared.journal.PlanEntry.{PlanEntry}
use Rattle.plan_workers.specs.declared.record.PlanRecorded.{PlanRecorded}
use Rattle.plan_workers.specs.declared.rounds.PlanMachine.{PlanMachine}
use Rattle.plan_workers.specs.declared.rounds.PlanRound.{PlanRound}
use Rattle.plan_workers.specs.Turning.{GateOf}
use Rattle.plan_workers.specs.Jobs.{PlanInterlockView}
use Rattle.plan_workers.specs.Recording.{HasRecorded}
use Rattle.plan_workers.specs.Journals.{IsJournal}
use Rattle.plan_workers.specs.Audited.{AreByCallers, IsAudited, Journals, journals_in}
use Rattle.plan_workers.specs.Closing.{AreKept, IsOneOf, Passes}
use Rattle.plan_workers.specs.Renewing.{given_back, watch_alone}
use Rattle.plan_workers.specs.RenewalLaws.{AreOfMachines, RoundsAreExplained}
use Rattle.plan_workers.proofs.Closing.{explained}
use Rattle.plan_workers.proofs.Renewing.{Recorded, first_recorded, job_of, later_recorded}

-- ---- who has called

by_callers : (n : ℕ) (h : List Event) → n ≤ 30 → AreOfMachines n h → AreByCallers h
by_callers n [] few k = tt
by_callers n (e ∷ h) few k = let less = k.0 in (omega (arith, few, less), by_callers n h few k.1)

none_of : (n m : ℕ) (h : List Event) → n ≤ m → AreOfMachines n h → own_events h m ≡ []
none_of n m [] past k = refl
none_of n m (e ∷ h) past k =
    let less = k.0 in
    let other : e.machine ≢ m = λ is. omega (arith, past, less, is) in
    cond-false (nat_eq e.machine m) (e ∷ own_events h m) (own_events h m) (ne_eqb e.machine m other) ∙ none_of n m h past k.1

-- ---- journals of machines from a number on

module _ {D : Type 0} where
  abbrev Fits : Journals → ℕ → List (PlanRecorded D) → Type 0
  Fits journals m [] = ⊤
  Fits journals m (back ∷ backs) = (journals m ≡ back.journal.items) × Fits journals (m + 1) backs

  abbrev items_of : List (PlanRecorded D) → List (List PlanEntry)
  items_of backs = map (λ (j : Vec PlanEntry). j.items) (map (λ (b : PlanRecorded D). b.journal) backs)

  fits : (journals : Journals) (m : ℕ) (backs : List (PlanRecorded D)) → ((k : ℕ) → journals (m + k) ≡ get_or (items_of backs) k []) → Fits journals m backs
  fits journals m [] h = tt
  fits journals m (back ∷ backs) h = (
    let here : m ≡ m + 0 = omega arith in ap journals here ∙ h 0,
    fits journals (m + 1) backs (λ k. let on : m + 1 + k ≡ m + suc k = omega arith in ap journals on ∙ h (suc k)),
  )

module _ {D : Type 0} (reads : D → Option ℕ → D → Type 0) (drives : D → ℕ → D → Type 0) (gate : ℕ → GateOf) (turns : ℕ) (i : PlanInterlockView) (journals : Journals) where
  own_journal : (m : ℕ) (x : PlanMachine D) (back : PlanRecorded D) → HasRecorded reads drives i gate turns (job_of reads drives gate turns i m x) back → journals m ≡ back.journal.items
      → IsJournal i.opening.stamp back.worked.pass.actor [] back.worked.pass.seen (journals back.worked.pass.actor)
  own_journal m x back k is =
      let actor : back.worked.pass.actor ≡ m = k.same.actor in
      subst (λ n. IsJournal i.opening.stamp n [] back.worked.pass.seen (journals n)) (sym actor) (subst (λ j. IsJournal i.opening.stamp m [] back.worked.pass.seen j) (sym is) k.journal)

  all_kept : (m : ℕ) (machines : List (PlanMachine D)) (backs : List (PlanRecorded D)) (others : Passes) → length backs ≡ length machines → Recorded reads drives gate turns i m machines backs → Fits journals m backs
      → AreKept i.opening.stamp others journals → AreKept i.opening.stamp (given_back others backs) journals
  all_kept m machines [] others many k fit kept = kept
  all_kept m [] (back ∷ backs) others many k fit kept = absurd (omega (arith, many))
  all_kept m (x ∷ later) (back ∷ backs) others many k fit kept =
      all_kept (m + 1) later backs (view_of back.worked.pass ∷ others) (omega (arith, many)) (later_recorded reads drives gate turns i m x later back backs k) fit.1
      (own_journal m x back (first_recorded reads drives gate turns i m x later back backs k) fit.0, kept)

  still_one : (m : ℕ) (backs : List (PlanRecorded D)) (others : Passes) → IsOneOf m others → IsOneOf m (given_back others backs)
  still_one m [] others one = one
  still_one m (back ∷ backs) others one = still_one m backs (view_of back.worked.pass ∷ others) (inr one)

  each_one : (first : ℕ) (machines : List (PlanMachine D)) (backs : List (PlanRecorded D)) (others : Passes) → length backs ≡ length machines → Recorded reads drives gate turns i first machines backs
      → (m : ℕ) → first ≤ m → m < first + length machines → IsOneOf m (given_back others backs)
  each_one first [] backs others many k m least most = absurd (omega (arith, least, most))
  each_one first (x ∷ later) [] others many k m least most = absurd (omega (arith, many))
  each_one first (x ∷ later) (back ∷ backs) others many k m least most =
      elim (cases_eq first m) [
        | inl is ↦
            let actor : back.worked.pass.actor ≡ first = (first_recorded reads drives gate turns i first x later back backs k).same.actor in
            still_one m backs (view_of back.worked.pass ∷ others) (inl (actor ∙ is))
        | inr isnt ↦ each_one (first + 1) later backs (view_of back.worked.pass ∷ others) (omega (arith, many)) (later_recorded reads drives gate turns i first x later back backs k) m (omega (arith, least, isnt)) (omega (arith, most))
      ]

pub rounds_explained : {D S Fault : Type 0} (reads : D → Option ℕ → D → Type 0) (drives : D → ℕ → D → Type 0) (takes : S → PlanRound → Result (Unit {0}) Fault → S → Type 0) (gate : ℕ → GateOf)
    → RoundsAreExplained reads drives takes gate
rounds_explained {D} reads drives takes gate t tries turns before now k of =
    let i = k.interlock in
    let h = k.ended.history in
    let n = length before.machines in
    let few : n ≤ 30 = let most = k.ended.lawful.opened.0.machines_at_most in let all = k.all in omega (arith, most, all) in
    let J : Journals = λ m. get_or (items_of k.backs) m [] in
    let long : length (items_of k.backs) ≡ n = length-map (map (λ (b : PlanRecorded D). b.journal) k.backs) (λ (j : Vec PlanEntry). j.items) ∙ (length-map k.backs (λ (b : PlanRecorded D). b.journal) ∙ k.many) in
    let past : (m : ℕ) → n ≤ m → J m ≡ [] = λ m least. get_or_past (items_of k.backs) m [] (omega (arith, long, least)) in
    let watched : AreKept i.opening.stamp (watch_alone i) J = (record { since = []; split = refl; is = past 30 few }, tt) in
    let fit = fits J 0 k.backs (λ m. ap J (omega arith)) in
    let kept = all_kept reads drives gate turns i J 0 before.machines k.backs (watch_alone i) k.many k.recorded fit watched in
    let is_one : (m : ℕ) → m < n → IsOneOf m (given_back (watch_alone i) k.backs) = λ m less. each_one reads drives gate turns i J 0 before.machines k.backs (watch_alone i) k.many k.recorded m (omega arith) (omega (arith, less)) in
    let unless : (m : ℕ) → ¬ IsOneOf m (given_back (watch_alone i) k.backs) → n ≤ m = λ m none. elim (cases_lt m n) [ inl less ↦ absurd (none (is_one m less)) | inr least ↦ least ] in
    let audited : IsAudited t i.opening J (Some now.state) h =
    explained t i.opening now.state (given_back (watch_alone i) k.backs) J k.ended kept
    (record { callers = by_callers n h few of; events = λ m none. none_of n m h (unless m none) of; empty = λ m none. past m (unless m none) }) in
    let noted : J ≡ journals_in k.round.journals.items = ap (λ (js : List (Vec PlanEntry)). journals_in js) (sym k.noted.journals) in
    subst (λ e. IsAudited t k.round.opening (journals_in k.round.journals.items) (Some e) h) (sym k.noted.end)
    (subst (λ o. IsAudited t o (journals_in k.round.journals.items) (Some now.state) h) (sym k.noted.opening) (subst (λ j. IsAudited t i.opening j (Some now.state) h) noted audited))
