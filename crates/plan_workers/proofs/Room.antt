-- In a round no more calls are done than its machines have turns.
use Rattle.std.proofs.Common.{◌≡◌, ◌≢◌, ℕ, zero, suc, ◌+◌, ◌*◌, ◌<◌, ◌≤◌, inl, inr, nat_eq, List, [], ◌∷◌, ◌++◌, length, Option, Result, refl, sym, ap, ◌∙◌, subst, arith}
use Rattle.std.proofs.lemmas.Bool.{cond-true, cond-false, eq-eqb, ne_eqb, cases_eq}
use Rattle.std.proofs.Math.Nat.{suc-mul}
use Rattle.std.proofs.lemmas.List.{length-append}
use Rattle.std.proofs.lemmas.List.Sums.{count_by-le-length}
use Rattle.plan_types.specs.Below.{sum_below}
use Rattle.plan_types.specs.Table.{PlanTable}
use Rattle.plan_types.specs.declared.answer.Answer.{Answer}
use Rattle.plan_types.specs.declared.answer.Event.{Event}
use Rattle.plan_types.specs.declared.call.Call.{Call}
use Rattle.plan_rules.specs.declared.state.State.{State}
use Rattle.plan_rules.specs.History.{done_count, is_done, own_events}
use Rattle.plan_rules.proofs.lemmas.Below.{sum_below_changed}
use Rattle.plan_controller.specs.Seen.{event}
use Rattle.plan_interlock.specs.Book.{plan_book, plan_of}
use Rattle.word_interlock.specs.declared.reply.Reply.{Reply}
use Rattle.word_interlock.specs.declared.reply.Reply.TheVariants.{Settled, Busy}
use Rattle.word_interlock.specs.Bunches.{AllHavePart, HasPart}
use Rattle.word_interlock.specs.Calls.{SeenAfter}
use Rattle.word_interlock.specs.Views.{view_of}
use Rattle.plan_workers.specs.declared.record.PlanRecorded.{PlanRecorded}
use Rattle.plan_workers.specs.declared.rounds.PlanMachine.{PlanMachine}
use Rattle.plan_workers.specs.declared.rounds.PlanRound.{PlanRound}
use Rattle.plan_workers.specs.Works.{AtWork}
use Rattle.plan_workers.specs.Turning.{AreTaken, GateOf, HasWorked, TakesTurn, last_of}
use Rattle.plan_workers.specs.Jobs.{PlanInterlockView}
use Rattle.plan_workers.specs.Recording.{HasRecorded, JournalLineAsks, JournalLineView, by_journal}
use Rattle.plan_workers.specs.Renewing.{watch_alone}
use Rattle.plan_workers.specs.RenewalLaws.{AreOfMachines, TurnsLeaveRoom}
use Rattle.plan_workers.proofs.Journaling.{stamp_counted}
use Rattle.plan_workers.proofs.Passing.{after_turn}
use Rattle.plan_workers.proofs.Renewing.{Recorded, first_recorded, job_of, later_recorded, parts_of, views_of}

-- ---- events by their machines

more_own : (e : Event) (h : List Event) (m : ℕ) → e.machine ≡ m → length (own_events (e ∷ h) m) ≡ length (own_events h m) + 1
more_own e h m is =
    let one : length (e ∷ own_events h m) ≡ length (own_events h m) + 1 = omega arith in
    ap length (cond-true (nat_eq e.machine m) (e ∷ own_events h m) (own_events h m) (eq-eqb e.machine m is)) ∙ one

same_own : (e : Event) (h : List Event) (m : ℕ) → e.machine ≢ m → length (own_events (e ∷ h) m) ≡ length (own_events h m)
same_own e h m isnt = ap length (cond-false (nat_eq e.machine m) (e ∷ own_events h m) (own_events h m) (ne_eqb e.machine m isnt))

all_counted : (n : ℕ) (h : List Event) → AreOfMachines n h → length h ≤ sum_below (λ m. length (own_events h m)) n
all_counted n [] k = omega arith
all_counted n (e ∷ h) k =
    let rest = all_counted n h k.1 in
    let changed = sum_below_changed (λ m. length (own_events h m)) (λ m. length (own_events (e ∷ h) m)) e.machine n k.0 (λ j isnt. same_own e h j (λ is. isnt (sym is))) in
    let more = more_own e h e.machine refl in
    omega (arith, rest, changed, more)

sum_most : (f : ℕ → ℕ) (n most : ℕ) → ((m : ℕ) → m < n → f m ≤ most) → sum_below f n ≤ n * most
sum_most f zero most k = omega arith
sum_most f (suc n) most k =
    let rest = sum_most f n most (λ m less. k m (omega (arith, less))) in
    let last = k n (omega arith) in
    let step : suc n * most ≡ n * most + most = suc-mul n most in
    omega (arith, rest, last, step)

few_done : (n most : ℕ) (h : List Event) → AreOfMachines n h → ((m : ℕ) → m < n → length (own_events h m) ≤ most) → done_count h ≤ n * most
few_done n most h k few =
    let done = count_by-le-length is_done h in
    let all = all_counted n h k in
    let sum = sum_most (λ m. length (own_events h m)) n most few in
    omega (arith, done, all, sum)

-- ---- a machine makes at most one call in a turn

seen_once : (t : PlanTable) (o : State) (m : ℕ) (c : Call) (r : Reply Answer) (before now : List Event) → SeenAfter (plan_book t) m c r o before now → length (own_events now m) ≤ length (own_events before m) + 1
seen_once t o m c (Settled a stamp) before now k =
    let own : length (own_events now m) ≡ length (own_events before m ++ event m c a ∷ []) = ap length k.0.own in
    let both = length-append (own_events before m) (event m c a ∷ []) in
    omega (arith, own, both)
seen_once t o m c (Busy lost stamp) before now k =
    let own : length (own_events now m) ≡ length (own_events before m) = ap length k.0.own in
    omega (arith, own)

-- a line is its actor's still, and has seen at most one more call of it
record OneMore (m : ℕ) (l d : JournalLineView) : Type 0 where
  own : d.line.pass.actor ≡ l.line.pass.actor
  few : length (own_events d.line.pass.seen m) ≤ length (own_events l.line.pass.seen m) + 1

same_line : (m : ℕ) (l d : JournalLineView) → d ≡ l → OneMore m l d
same_line m l d is = subst (OneMore m l) (sym is) (record { own = refl; few = omega arith })

asked_once : (m : ℕ) (l d : JournalLineView) (c : Call) (a : Option Answer) → l.line.pass.actor ≡ m → JournalLineAsks l c a d → OneMore m l d
asked_once m l d c a actor (inl n) = record {
  own = n.line.call.pass.actor;
  few = subst (λ k. length (own_events d.line.pass.seen k) ≤ length (own_events l.line.pass.seen k) + 1) actor (seen_once l.line.plan l.line.pass.opening l.line.pass.actor c n.line.reply l.line.pass.seen d.line.pass.seen n.line.call.seen);
}
asked_once m l d c a actor (inr u) = same_line m l d u.same

module _ {D : Type 0} (reads : D → Option ℕ → D → Type 0) (drives : D → ℕ → D → Type 0) where
  in_turn : (m : ℕ) (before now : AtWork JournalLineView D) → before.line.line.pass.actor ≡ m → TakesTurn (by_journal reads drives) before now → OneMore m before.line now.line
  in_turn m before now actor k =
      after_turn before.control now.control _ _ k.turn.taken.motors (OneMore m before.line now.line) (λ e. same_line m before.line now.line e.0) (λ c a asked. asked_once m before.line now.line c a actor asked.0) k.turn.sensors k.turns

  in_turns : (m : ℕ) (first : AtWork JournalLineView D) (turns : List (AtWork JournalLineView D)) → first.line.line.pass.actor ≡ m → AreTaken (by_journal reads drives) first turns
      → length (own_events (last_of first turns).line.line.pass.seen m) ≤ length (own_events first.line.line.pass.seen m) + length turns
  in_turns m first [] actor k = omega arith
  in_turns m first (now ∷ later) actor k =
      let one = in_turn m first now actor k.0 in
      let few = one.few in
      let rest = in_turns m now later (one.own ∙ actor) k.1 in
      omega (arith, few, rest)

  in_work : (m : ℕ) (gate : GateOf) (limit took : ℕ) (first last : AtWork JournalLineView D) → first.line.line.pass.actor ≡ m → HasWorked (by_journal reads drives) gate limit first last took
      → length (own_events last.line.line.pass.seen m) ≤ length (own_events first.line.line.pass.seen m) + limit
  in_work m gate limit took first last actor k =
      let all = subst (λ (x : AtWork JournalLineView D). length (own_events x.line.line.pass.seen m) ≤ length (own_events first.line.line.pass.seen m) + length k.come.turns) k.come.is_last (in_turns m first k.come.turns actor k.come.taken) in
      let many = k.come.many in
      let most : took ≤ limit = elim k.ends [ inl e ↦ omega (arith, e) | inr e ↦ let less = e.0 in omega (arith, less) ] in
      omega (arith, all, many, most)

  module _ (gate : ℕ → GateOf) (turns : ℕ) (i : PlanInterlockView) (history : List Event) where
    one_few : (m : ℕ) (x : PlanMachine D) (back : PlanRecorded D) → HasRecorded reads drives i gate turns (job_of reads drives gate turns i m x) back → HasPart (plan_book (plan_of i.rules)) i.opening history (view_of back.worked.pass)
        → length (own_events history m) ≤ turns
    one_few m x back k part =
        let from : length (own_events k.line.line.pass.seen m) ≡ 0 = ap (λ p. length (own_events p.seen m)) k.pass in
        let work = in_work m (gate m) turns back.worked.turns _ k.last (ap (λ p. p.actor) k.pass) k.worked in
        let back_is = ap (λ p. length (own_events p.seen m)) k.pass_back in
        let actor : back.worked.pass.actor ≡ m = k.same.actor in
        let all = subst (λ n. own_events history n ≡ own_events back.worked.pass.seen n) actor part.seen.own in
        let whole : length (own_events history m) ≡ length (own_events back.worked.pass.seen m) = ap length all in
        omega (arith, from, work, back_is, whole)

    all_few : (first : ℕ) (machines : List (PlanMachine D)) (backs : List (PlanRecorded D)) → length backs ≡ length machines → Recorded reads drives gate turns i first machines backs
        → AllHavePart (plan_book (plan_of i.rules)) i.opening history (views_of backs) → (m : ℕ) → first ≤ m → m < first + length machines → length (own_events history m) ≤ turns
    all_few first [] backs many k parts m least most = absurd (omega (arith, least, most))
    all_few first (x ∷ later) [] many k parts m least most = absurd (omega (arith, many))
    all_few first (x ∷ later) (back ∷ backs) many k parts m least most =
        elim (cases_eq first m) [
          | inl is ↦ subst (λ n. length (own_events history n) ≤ turns) is (one_few first x back (first_recorded reads drives gate turns i first x later back backs k) parts.0)
          | inr isnt ↦ all_few (first + 1) later backs (omega (arith, many)) (later_recorded reads drives gate turns i first x later back backs k) parts.1 m (omega (arith, least, isnt)) (omega (arith, most))
        ]

pub turns_leave_room : {D S Fault : Type 0} (reads : D → Option ℕ → D → Type 0) (drives : D → ℕ → D → Type 0) (takes : S → PlanRound → Result (Unit {0}) Fault → S → Type 0) (gate : ℕ → GateOf) → TurnsLeaveRoom reads drives takes gate
turns_leave_room reads drives takes gate t tries turns before now k of =
    let i = k.interlock in
    let h = k.ended.history in
    let parts = parts_of t i.opening h (watch_alone i) k.backs k.ended.parts in
    let few = all_few reads drives gate turns i h 0 before.machines k.backs k.many k.recorded (subst (λ u. AllHavePart (plan_book u) i.opening h (views_of k.backs)) (sym k.plan) parts.0) in
    let done = few_done (length before.machines) turns h of (λ m less. few m (omega arith) (omega (arith, less))) in
    let stamp = stamp_counted t i.opening h k.ended.lawful.legal in
    let reached = ap (λ (s : State). s.stamp) k.ended.reached in
    let from : i.opening.stamp ≡ 0 = ap (λ (s : State). s.stamp) k.opens in
    omega (arith, done, stamp, reached, from)
