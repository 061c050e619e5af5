-- What each machine leaves after a round may go on where the next interlock opens.
use Rattle.cell_renewal.proofs.Names.{◌≡◌, ℕ, List, [], inl, inr, sym, ap, ◌∙◌, subst, append-nil, Machine, Feed, Table, Robot, Press, Deposit, Crane, Event, ModelState, IsSound, after, IsLegal, restamped, IsSameFor, Waits, PassView, InterlockView, fresh_pass, IsSamePass, GateOf, TellsWatched, WatchesOf, SixOf, SixRecord, OpensAfter, Leaves, MayGoOn, MayAllGoOn}
use Rattle.cell_rules.proofs.lemmas.Restamps.{same_after}
use Rattle.cell_threads.specs.Promises.{GivesOf}

-- whichever stamp it is
opened_stamp : (mark : ℕ) (end next : ModelState) → OpensAfter mark end next → (stamp : ℕ) × (next ≡ restamped end stamp)
opened_stamp mark end next (inl k) = (0, k.1)
opened_stamp mark end next (inr k) = (end.stamp, k.1)

may_go_on : (m : Machine) (i : InterlockView) (machine : Machine) (left : ModelState) (kept : PassView) (history : List Event) (end : ModelState) (stamp : ℕ)
    → Leaves machine left (fresh_pass i m) kept → IsSamePass (fresh_pass i m) kept → IsSound i.opening → IsLegal i.opening history → Waits m kept.seen history → end ≡ after i.opening history
    → MayGoOn m machine left (restamped end stamp)
may_go_on m i machine left kept history end stamp k same sound legal w ends =
    let at : left ≡ after i.opening kept.seen = k.state ∙ ap (λ o. after o kept.seen) same.opening in
    record {
      own = k.own;
      same =
          subst (λ n. IsSameFor n left (restamped end stamp)) (sym k.own)
          (subst (λ s. IsSameFor m s (restamped end stamp)) (sym at)
          (subst (λ s. IsSameFor m (after i.opening kept.seen) (restamped s stamp)) (sym ends) (same_after i.opening m kept.seen history stamp sound legal w)));
    }

module _ {W1 W2 W3 W4 W5 W6 A B C D E F H : Type 0} (gives1 : GivesOf W1 A) (gives2 : GivesOf W2 B) (gives3 : GivesOf W3 C) (gives4 : GivesOf W4 D) (gives5 : GivesOf W5 E) (gives6 : GivesOf W6 F) (watches : WatchesOf H)
    (of1 : A → Machine) (of2 : B → Machine) (of3 : C → Machine) (of4 : D → Machine) (of5 : E → Machine) (of6 : F → Machine)
    (left1 : A → ModelState) (left2 : B → ModelState) (left3 : C → ModelState) (left4 : D → ModelState) (left5 : E → ModelState) (left6 : F → ModelState)
    (workers : SixOf W1 W2 W3 W4 W5 W6) (watch : H) (opening : ModelState) (tries limit : ℕ) (gate : Machine → GateOf) (r : SixRecord A B C D E F) (watch_after : H)
    (t : TellsWatched gives1 gives2 gives3 gives4 gives5 gives6 watches workers watch opening tries limit gate r watch_after) (sound : IsSound opening) where
  abbrev i : InterlockView
  i = t.interlock

  begins : IsSound i.opening
  begins = subst IsSound (sym t.opened) sound

  legal : IsLegal i.opening t.history
  legal = subst (λ s. IsLegal s t.history) (sym t.opened) (t.lawful t.history [] (sym (append-nil t.history))).legal

  ends : r.end ≡ after i.opening t.history
  ends = t.end ∙ ap (λ s. after s t.history) (sym t.opened)

  pub all_may_go_on : Leaves (of1 t.results.feed.output) (left1 t.results.feed.output) (fresh_pass i Feed) t.results.feed.pass
      → Leaves (of2 t.results.table.output) (left2 t.results.table.output) (fresh_pass i Table) t.results.table.pass
      → Leaves (of3 t.results.robot.output) (left3 t.results.robot.output) (fresh_pass i Robot) t.results.robot.pass
      → Leaves (of4 t.results.press.output) (left4 t.results.press.output) (fresh_pass i Press) t.results.press.pass
      → Leaves (of5 t.results.deposit.output) (left5 t.results.deposit.output) (fresh_pass i Deposit) t.results.deposit.pass
      → Leaves (of6 t.results.crane.output) (left6 t.results.crane.output) (fresh_pass i Crane) t.results.crane.pass
      → (mark : ℕ) (next : ModelState) → OpensAfter mark r.end next → MayAllGoOn of1 of2 of3 of4 of5 of6 left1 left2 left3 left4 left5 left6 r.outputs next
  all_may_go_on k1 k2 k3 k4 k5 k6 mark next opens =
      let opened = opened_stamp mark r.end next opens in
      let stamp = opened.0 in
      subst (MayAllGoOn of1 of2 of3 of4 of5 of6 left1 left2 left3 left4 left5 left6 r.outputs) (sym opened.1)
      (subst (λ o. MayAllGoOn of1 of2 of3 of4 of5 of6 left1 left2 left3 left4 left5 left6 o (restamped r.end stamp)) (sym t.outputs)
      (record {
        feed = may_go_on Feed i _ _ t.results.feed.pass t.history r.end stamp k1 t.given.feed.0.same begins legal (t.seen Feed) ends;
        table = may_go_on Table i _ _ t.results.table.pass t.history r.end stamp k2 t.given.table.0.same begins legal (t.seen Table) ends;
        robot = may_go_on Robot i _ _ t.results.robot.pass t.history r.end stamp k3 t.given.robot.0.same begins legal (t.seen Robot) ends;
        press = may_go_on Press i _ _ t.results.press.pass t.history r.end stamp k4 t.given.press.0.same begins legal (t.seen Press) ends;
        deposit = may_go_on Deposit i _ _ t.results.deposit.pass t.history r.end stamp k5 t.given.deposit.0.same begins legal (t.seen Deposit) ends;
        crane = may_go_on Crane i _ _ t.results.crane.pass t.history r.end stamp k6 t.given.crane.0.same begins legal (t.seen Crane) ends;
      }))
