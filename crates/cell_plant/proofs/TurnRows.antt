-- The examples of turns, and of what isn't one.
use Rattle.cell_plant.proofs.Names.{◌≡◌, ◌≢◌, ℕ, Bool, true, false, Some, None, Result, Ok, refl, sym, ap, ◌∙◌, subst, Machine, Feed, Table, Press, Watch, Call, Stop, Resume, Done, Refused, Shut, Closed, Reply, Settled, ModelState, LineFault, step_after_reply, Turned, at_rest, turned, turn_either, asked_own, FeedProgress, TableProgress, PressProgress, Side, Answers, Axis, Belt, TablePlant, steps_of, CellState, Step, TakesTurn, at_first}
use Rattle.cell_plant.proofs.Names.{at_entered, at_press_stopped, at_last, watch_noting, watch_steps, WatchProgress, TurnExamples, PassExamples, stops_again, resumes_at_first, resumes_unnoted, stopped, resumed}
use Rattle.cell_notes.specs.Asks.{TurnCall}
use Rattle.cell_parts.specs.Names.{CellScales}
use Rattle.cell_plant.proofs.WatchRight.{none_some, one_call, one_answer, turn_own}
use Rattle.cell_plant.proofs.Deciding.{not_so, equals, true_false, false_true}
use Rattle.cell_plant.proofs.ExampleTurns.{turn_done, turn_busy, turn_refused, turn_no_room, turn_meanwhile, turn_down, turn_stops, turn_resumes, turn_watch_busy}

abbrev pub Apart : ℕ → ℕ → Type 0
Apart a b = a ≢ b

pub one_zero : Apart 1 0
one_zero e = cc

pub zero_one : Apart 0 1
zero_one e = cc

module _ (c : CellScales) where
  -- what a turn asked and got back, by the states of the interlock before and after it
  abbrev pub IsAnswered : ModelState → Machine → Bool → TurnCall → ModelState → Type 0
  IsAnswered z m busy None y = y ≡ z
  IsAnswered z m busy (Some call) y = Answers z m busy call.0 call.1 y

  pub answered : (m : Machine) (busy : Bool) (w : CellState) (s : Step) → TakesTurn c m busy w s → IsAnswered w.interlock (steps_of c m).machine busy s.asked s.set.interlock
  answered m busy w s k =
      let t = steps_of c m in
      let Is : TurnCall → Type 0 = λ a. IsAnswered w.interlock t.machine busy a s.set.interlock in
      turn_either t ((s.set.interlock ≡ w.interlock) × (s.asked ≡ None)) (λ q r. Answers w.interlock t.machine busy q r s.set.interlock × (s.asked ≡ Some (q, r))) (Is s.asked) (λ h. subst Is (sym h.1) h.0) (λ q r h. subst Is (sym h.1) h.0)
      (w.side m).stopped (w.side m).progress k.takes.sense k.takes.turned k.takes.row

  pub stamps_apart : (a b : ModelState) → a.stamp ≢ b.stamp → a ≢ b
  stamps_apart a b apart e = apart (ap (λ (s : ModelState). s.stamp) e)

  -- the watch asks what its step asks
  watch_asks : (w : CellState) (s : Step) (call : Call) (r : Result Reply LineFault) → s.asked ≡ Some (call, r) → TakesTurn c Watch false w s → (watch_steps.row (w.side Watch).progress).call ≡ Some call
  watch_asks w s call r e k =
      let z = w.interlock in
      let y = s.set.interlock in
      let p = (w.side Watch).progress in
      turn_own watch_steps ((y ≡ z) × (s.asked ≡ None)) (λ q x. Answers z Watch false q x y × (s.asked ≡ Some (q, x))) p ((watch_steps.row p).call ≡ Some call)
      (λ h. none_some _ _ (sym h.1 ∙ e))
      (λ q x own h. own ∙ ap Some (one_call s.asked q call x r h.1 e))
      (w.side Watch).stopped k.takes.sense k.takes.turned k.takes.row

  -- after a Resume that is done it notes no stop
  resume_noted : TakesTurn c Watch false at_last resumes_unnoted → true ≡ false
  resume_noted k =
      let z = stopped in
      let y = resumed in
      let asked = resumes_unnoted.asked in
      let led = asked_own watch_steps (watch_noting true) k.takes.sense ((y ≡ z) × (asked ≡ None)) (λ q x. Answers z Watch false q x y × (asked ≡ Some (q, x))) tt Resume k.takes.turned refl (λ other e. e) k.takes.row in
      let same : led.0 ≡ Ok (Settled Done 3) = one_answer asked Resume Resume led.0 _ led.1.1 refl in
      ap (λ (x : Side WatchProgress (Unit {0})). x.progress.has_stopped) k.takes.is
      ∙ ap (λ (x : Turned WatchProgress (Unit {0})). x.progress.has_stopped) led.2
      ∙ ap (λ (x : Result Reply LineFault). (turned (watch_noting true) (at_rest tt (step_after_reply watch_steps (watch_noting true) x))).progress.has_stopped) same

  pub turn_examples : TurnExamples c
  turn_examples = record {
    done = turn_done c;
    busy = turn_busy c;
    refused = turn_refused c;
    no_room = turn_no_room c;
    drives = turn_down c;
    meanwhile = turn_meanwhile c;
    stops = turn_stops c;
    resumes = turn_resumes c;
    watch_busy = turn_watch_busy c;
    not_taken = λ k. cc;
    asks_nothing = λ k. stamps_apart _ _ one_zero (answered Feed false at_first _ k);
    answered_otherwise = λ k. let e : Refused (Shut Closed) ≡ Done = (answered Feed false at_first _ k).1 in cc;
    another_stamp = λ k. zero_one (answered Feed false at_first _ k).2;
    asks_another = λ k. let e : Done ≡ Refused (Shut Closed) = (answered Feed false at_first _ k).1 in cc;
    busy_unasked = λ k. false_true (answered Press false at_entered _ k).0;
    no_room_though_busy = λ k. true_false (answered Press true at_entered _ k).0;
    changes_nothing = λ k. stamps_apart _ _ zero_one (answered Feed false at_first _ k).3;
    another_is_set = λ k. not_so (equals _ _) refl (ap (λ (x : Side TableProgress TablePlant). x.part.lift.position) (k.others_set Table refl));
    another_moves = λ k. not_so (equals _ _) refl (ap (λ (x : Side TableProgress TablePlant). x.part.lift.position) (k.others_moved Table refl));
    another_goes_on = λ k. not_so (equals _ _) refl (ap (λ (x : Side PressProgress Axis). x.part.position) (k.others_moved Press refl));
    moves_unset = λ k. true_false (ap (λ (x : Side FeedProgress Belt). x.part.runs) k.moved);
    stays_though_set = λ k. not_so (equals _ _) refl (ap (λ (x : Side PressProgress Axis). x.part.position) k.moved);
    moves_too_far = λ k. not_so (equals _ _) refl (ap (λ (x : Side PressProgress Axis). x.part.position) k.moved);
    interlock_changes = λ k. stamps_apart _ _ zero_one k.interlock;
    stops_twice = λ k. let e = watch_asks at_last stops_again Stop _ refl k in cc;
    resumes_first = λ k. let e = watch_asks at_press_stopped resumes_at_first Resume _ refl k in cc;
    watch_notes_nothing = λ k. true_false (resume_noted k);
  }

pub pass_examples : PassExamples
pass_examples = record {
  passed = record { not_taken = refl; asked = refl; set = refl; moved = refl };
  taken = λ k. true_false k.not_taken;
  asks = λ k. cc;
  is_set = λ k. let e = ap (λ (w : CellState). (w.side Press).stopped) k.set in cc;
  moves = λ k. let e = ap (λ (w : CellState). (w.side Press).stopped) k.moved in cc;
}
