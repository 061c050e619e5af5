-- The examples of records: of runs of a schedule, and of no such run.
use Rattle.cell_plant.proofs.Names.{◌≡◌, ◌≢◌, ◌+◌, Bool, true, false, ◌&&◌, cond, List, [], ◌∷◌, map, Some, Result, Ok, Err, refl, sym, ap, ◌∙◌, arith, Machine, Feed, Table, Robot, Press, Deposit, Crane, Watch, Call, Reply, all_machines, same_machine, IsReading, CraneSense, SensorFault, CraneAct, ModelState, IsLegal, after, LineFault, Performed, PerformsSensed, Turned, turned, Senses, CraneProgress, CraneReading, RunRecord, Fine, Sensor}
use Rattle.cell_plant.proofs.Names.{Turn, in_order, statuses_in, CellScales, steps_of, SideOf, CellState, cell_at_start, IsRecordOf, is_turn_of, counts_in, events_in, Step, TakesTurn, IsRun, end_of, IsSafeState, IsSafeRun, opening, at_first, schedule, steps, turn_of, asks, IsOfLiteralRun, IsOfOneStop, counts_of, IsOfLegalHistory, RecordExamples, IsOfNoTurn, IsUnread, Tells, counts_by, open_too_early}
use Rattle.cell_control.specs.declared.fault.CtlFault.TheVariants.{Sensor as BySensor}
use Rattle.cell_plant.proofs.Deciding.{so, not_so, same_number}
use Rattle.cell_plant.proofs.ExampleTurns.{one_stop, literal_run, one_stop_run}
use Rattle.cell_plant.proofs.RecordFigures.{turns_at, figures, apart, recorded, wrong_records, one_stop_recorded}
use Rattle.cell_plant.proofs.SafetyDecided.{is_safe, is_safe_run}

module _ (r : RunRecord) (c : CellScales) where
  run_by : (turns : List Turn) (ss : List Step) → IsRun c at_first turns ss → IsRecordOf opening ss (end_of at_first ss) r → IsSafeRun at_first ss → IsLegal opening (events_in ss) → (end_of at_first ss).interlock ≡ after opening (events_in ss) → Tells c opening turns r
  run_by turns ss run told safe legal reached = record {
    steps = ss;
    run = run;
    told = told;
    safe = safe;
    legal = legal;
    reached = reached;
  }

  of_run : IsOfLiteralRun r → Tells c opening schedule r
  of_run f = run_by schedule steps (literal_run c) (recorded r f) (so (is_safe_run at_first steps) refl) (refl, (refl, (refl, tt))) refl

  of_no_turn : IsOfNoTurn opening r → Tells c opening [] r
  of_no_turn n = run_by [] [] tt n (so (is_safe_run at_first []) refl) tt refl

  of_the_watch : IsOfOneStop r → Tells c opening (turn_of Watch ∷ []) r
  of_the_watch n = run_by (turn_of Watch ∷ []) one_stop (one_stop_run c) (one_stop_recorded r n) (so (is_safe_run at_first one_stop) refl) (refl, tt) refl

  of_none_only : (ss : List Step) → IsRun c at_first [] ss → IsRecordOf opening ss (end_of at_first ss) r → IsOfNoTurn opening r
  of_none_only [] run told = told
  of_none_only (s ∷ ss) run told = absurd run

  -- a crane whose potentiometer has no raw value stops by its sensors
  abbrev Blind : Performed CraneProgress CraneAct → Type 0
  Blind done = (f : SensorFault) × (done ≡ Err (BySensor f))

  no_reading : (same : Type 0) (asks : Call → Result Reply LineFault → Type 0) (p : CraneProgress) (s : CraneSense) (sensed : Result CraneReading SensorFault) (done : Performed CraneProgress CraneAct)
      → IsUnread c → Senses c.gripper (IsReading c.gripper) s sensed → PerformsSensed (steps_of c Crane) sensed same asks p done → Blind done
  no_reading same asks p s (Ok reading) done unread senses performs = let no : ⊥ = omega (arith, unread, senses.at_least, senses.at_most) in absurd no
  no_reading same asks p s (Err f) done unread senses performs = (f, performs.1)

  stops_blind : {busy : Bool} (s : Step) → IsUnread c → TakesTurn c Crane busy at_first s → (f : SensorFault) × ((s.moved.side Crane).stopped ≡ Some (BySensor f))
  stops_blind s unread k =
      let row = k.takes.row in
      let blind = no_reading _ _ _ k.takes.sense row.1.sensed row.0 unread row.1.senses row.1.performs in (
        blind.0,
        ap (λ (x : SideOf Crane). x.stopped) k.moved
            ∙ ap (λ (x : SideOf Crane). x.stopped) k.takes.is
            ∙ ap (λ (x : Turned CraneProgress CraneAct). x.stopped) row.2
            ∙ ap (λ (x : Performed CraneProgress CraneAct). (turned (at_first.side Crane).progress x).stopped) blind.1,
      )

  -- the other machines go on
  goes_fine : {busy : Bool} (n : Machine) (s : Step) → same_machine Crane n ≡ false → TakesTurn c Crane busy at_first s → (s.moved.side n).stopped ≡ (at_first.side n).stopped
  goes_fine n s apart k = ap (λ (x : SideOf n). x.stopped) (k.others_moved n apart ∙ k.others_set n apart)

  blind : (ss : List Step) → IsUnread c → IsRun c at_first (turn_of Crane ∷ []) ss → in_order (statuses_in (end_of at_first ss)) ≡ Fine ∷ Fine ∷ Fine ∷ Fine ∷ Fine ∷ Sensor ∷ Fine ∷ []
  blind [] unread run = absurd run
  blind (s ∷ x ∷ ss) unread run = absurd run.1.1
  blind (s ∷ []) unread run =
      let k = run.1.0 in
      rw (goes_fine Feed s refl k, goes_fine Table s refl k, goes_fine Robot s refl k, goes_fine Press s refl k, goes_fine Deposit s refl k, (stops_blind s unread k).1, goes_fine Watch s refl k) refl

  lawful : (s : ModelState) (turns : List Turn) → Tells c s turns r → IsOfLegalHistory s r
  lawful s turns t = record {
    seen = events_in t.steps;
    start = t.told.start;
    legal = t.legal;
    journals = t.told.journals;
    end = t.told.end ∙ ap Some t.reached;
  }

  -- with no turn there are no steps, and so no counts
  two_turns_of_none : (ss : List Step) → IsRun c at_first [] ss → counts_by (counts_of 2 1 0 1 0) (counts_of 2 0 0 0 1) (counts_of 1 1 0 0 0) ≢ map (counts_in ss) all_machines
  two_turns_of_none [] run e = not_so (same_number _ _) refl (ap (turns_at 0) e)
  two_turns_of_none (s ∷ ss) run e = run

  -- a turn of the feed belt is counted, and one of the watch
  counted_once : (b : Bool) → b ≡ true → 0 ≢ 0 + cond b 1 0
  counted_once true is e = cc
  counted_once false is e = cc

  no_turn_of_one : (ss : List Step) → IsRun c at_first (turn_of Feed ∷ []) ss → map (counts_in []) all_machines ≢ map (counts_in ss) all_machines
  no_turn_of_one [] run e = run
  no_turn_of_one (s ∷ x ∷ ss) run e = run.1.1
  no_turn_of_one (s ∷ []) run e = counted_once (is_turn_of Feed s) (ap (λ taken. taken && same_machine s.machine Feed) run.1.0.taken ∙ ap (λ m. same_machine m Feed) run.0) (ap (turns_at 0) e)

  no_turn_of_watch : (ss : List Step) → IsRun c at_first (turn_of Watch ∷ []) ss → map (counts_in []) all_machines ≢ map (counts_in ss) all_machines
  no_turn_of_watch [] run e = run
  no_turn_of_watch (s ∷ x ∷ ss) run e = run.1.1
  no_turn_of_watch (s ∷ []) run e = counted_once (is_turn_of Watch s) (ap (λ taken. taken && same_machine s.machine Watch) run.1.0.taken ∙ ap (λ m. same_machine m Watch) run.0) (ap (turns_at 6) e)

  safe_with_no_turn : (w : CellState) (ss : List Step) → IsRun c w [] ss → IsSafeRun w ss → IsSafeState w
  safe_with_no_turn w [] run safe = safe
  safe_with_no_turn w (s ∷ ss) run safe = absurd run

pub record_examples : (c : CellScales) (r : RunRecord) → RecordExamples c r
record_examples c r = record {
  axes = refl;
  figures = figures r;
  recorded = recorded r;
  apart = apart r;
  wrong = wrong_records r;
  of_run = of_run r c;
  of_no_turn = of_no_turn r c;
  of_the_watch = of_the_watch r c;
  only_no_turn = λ t. of_none_only r c t.steps t.run t.told;
  unread = λ unread t. t.told.status ∙ blind r c t.steps unread t.run;
  lawful = lawful r c;
  made_up = λ k t. two_turns_of_none r c t.steps t.run (sym k.counts ∙ t.told.counts);
  left_out = λ k t. no_turn_of_one r c t.steps t.run (sym k.counts ∙ t.told.counts);
  watch_left_out = λ k t. no_turn_of_watch r c t.steps t.run (sym k.counts ∙ t.told.counts);
  begins_unsafely = λ t. not_so (is_safe (cell_at_start open_too_early)) refl (safe_with_no_turn r c _ t.steps t.run t.safe);
}
