-- What a record of six workers says.
use Rattle.cell_workers.proofs.Names.{◌≡◌, ℕ, ℤ, pos, true, false, inl, inr, [], ◌∷◌, map, get_or, Option, Some, None, Result, Ok, Err, refl, sym, ap, subst, ◌∙◌, arith, slice_get, Machine, Feed, Table, Robot, Press, Deposit, Crane, Watch, Z3, Call, Claim, Done, Event, Reply, Settled, Busy, all_machines, journal_of, SensorFault, ModelState, empty, start_state, noted, LineFault, PassAsks, Steps, step_after_reply, Performed, PerformsSensed, Turned, Turns, at_rest, turned, Off, crane_start}
use Rattle.cell_workers.proofs.Names.{crane_steps, robot_start, press_steps, moved_to, press_rig, crane_rig, CellScales, crane_end, act_or_rest, noting, side_set, side_moved, done_in, no_counts, Counts, RunRecord, Status, Fine, GateLimit, SideOf, steps_of, rig_of, positions_in, passes, GateOf, TakesTurn, HasEnded, AreCountsOf, MomentOf, first_moment, parts_at_ends, TellsAnyWork, has_worker, HadTurns, HasAtMost, Rule, by_rule, TellsNothingDone, first_call, TellsFirstTurns, RecordsTellTurns}
use Rattle.cell_workers.proofs.Names.{RecordsKeepTries, WorkersEnd, TurnsAreTaken, within, ends_fine, ends_kept_out, has_status_by, answers_along, let_in_along, few_along, once, own_at_first, noted_at_most, busy_lost, busy_counted}
use Rattle.cell_sensors.specs.Names.{Scale, IsReading}
use Rattle.cell_sensors.specs.declared.sense.CraneSense.{CraneSense}
use Rattle.cell_devices.specs.declared.motor.Motor.{Motor}
use Rattle.cell_devices.specs.declared.act.CraneAct.{CraneAct}
use Rattle.cell_belts_crane.specs.declared.crane.CraneProgress.{CraneProgress}
use Rattle.cell_belts_crane.specs.declared.crane.CraneReading.{CraneReading}
use Rattle.cell_parts.specs.declared.axis.Axis.{Axis}
use Rattle.cell_parts.specs.declared.plant.CranePlant.{CranePlant}
use Rattle.cell_plant.proofs.lemmas.Resting.{moves_rest}
use Rattle.cell_threads.proofs.lemmas.Passes.{come_same, come_counts}
use Rattle.cell_workers.proofs.Ending.{ended_at_opening}
use Rattle.cell_threads.proofs.lemmas.Answering.{side_answered, line_unchanged}
use Rattle.cell_workers.proofs.Falling.{falls}
use Rattle.cell_workers.proofs.Staying.{told}
use Rattle.cell_threads.proofs.lemmas.Telling.{no_turn_left as stays_without_turns, never_let_in as stays_if_shut}

-- equal lists of the machines' values have equal values for each machine
each_same : {A : Type 0} → (f g : Machine → A) → map f all_machines ≡ map g all_machines → (m : Machine) → f m ≡ g m
each_same f g e Feed = ap (λ xs. get_or xs 0 (f Feed)) e
each_same f g e Table = ap (λ xs. get_or xs 1 (f Table)) e
each_same f g e Robot = ap (λ xs. get_or xs 2 (f Robot)) e
each_same f g e Press = ap (λ xs. get_or xs 3 (f Press)) e
each_same f g e Deposit = ap (λ xs. get_or xs 4 (f Deposit)) e
each_same f g e Crane = ap (λ xs. get_or xs 5 (f Crane)) e
each_same f g e Watch = ap (λ xs. get_or xs 6 (f Watch)) e

module _ (c : CellScales) (opening : ModelState) (tries limit : ℕ) (lets : Rule) (r : RunRecord) where
  abbrev Works : Type 0
  Works = TellsAnyWork c opening tries limit (by_rule lets) r

  -- ---- if each machine stays at its start

  module _ (status : Status) where
    -- a worker can only stay at its start, with this status
    abbrev Rests : Type 0
    Rests = (m : Machine) (first last : MomentOf m) (s : Status) → first.side.stopped ≡ None → first.counts.turns ≡ 0 → HasEnded (passes tries) (steps_of c m) (rig_of c m) (by_rule lets m) limit first last s → (last ≡ first) × (s ≡ status)

    module _ (rests : Rests) (k : Works) where
      abbrev first : (m : Machine) → MomentOf m
      first m = first_moment k.interlock m

      rest_of : (m : Machine) → has_worker m ≡ true → (first m).side.stopped ≡ None → (k.last m ≡ first m) × (k.statuses m ≡ status)
      rest_of m e runs = rests m (first m) (k.last m) (k.statuses m) runs refl (k.works m e)

      lasts : (m : Machine) → k.last m ≡ first m
      lasts Feed = (rest_of Feed refl refl).0
      lasts Table = (rest_of Table refl refl).0
      lasts Robot = (rest_of Robot refl refl).0
      lasts Press = (rest_of Press refl refl).0
      lasts Deposit = (rest_of Deposit refl refl).0
      lasts Crane = (rest_of Crane refl refl).0
      lasts Watch = k.watch_rests.0

      counted : (m : Machine) → (k.last m).counts ≡ no_counts
      counted m = ap (λ (x : MomentOf m). x.counts) (lasts m)

      seen_nothing : (m : Machine) → journal_of r.journals m ≡ []
      seen_nothing m = k.journals m ∙ ap (λ (x : MomentOf m). noted opening x.line.seen m) (lasts m)

      pub nothing_done : TellsNothingDone opening status r
      nothing_done =
          record {
            sound = (k.lawful [] k.history refl).stays_sound;
            start = k.start;
            counts = k.counts ∙ (λ x. counted Feed x ∷ counted Table x ∷ counted Robot x ∷ counted Press x ∷ counted Deposit x ∷ counted Crane x ∷ counted Watch x ∷ []);
            status = k.status ∙ (λ x. (rest_of Feed refl refl).1 x ∷ (rest_of Table refl refl).1 x ∷ (rest_of Robot refl refl).1 x ∷ (rest_of Press refl refl).1 x ∷ (rest_of Deposit refl refl).1 x ∷ (rest_of Crane refl refl).1 x ∷ k.watch_rests.1 x ∷ []);
            journals = seen_nothing;
            end = ended_at_opening c opening tries limit (by_rule lets) r k seen_nothing;
            axes = k.axes ∙ (λ x. positions_in (parts_at_ends (λ m. lasts m x)));
          }

  -- ---- the turns of a machine

  -- its counts agree with its journal; so `counted` follows from the other fields
  counted_by_turns : (k : Works) (m : Machine) → has_worker m ≡ true → AreCountsOf (journal_of r.journals m) (k.last m).counts
  counted_by_turns k m e =
      let first = first_moment k.interlock m in
      let come = (k.works m e).come in
      let same = come_same tries (steps_of c m) (rig_of c m) (by_rule lets m) first (k.last m) come in
      subst (λ j. AreCountsOf j (k.last m).counts) ((λ i. noted (same.opening i) (k.last m).line.seen (same.machine i)) ∙ ap (λ o. noted o (k.last m).line.seen m) k.opened ∙ sym (k.journals m))
      (come_counts tries (steps_of c m) (rig_of c m) (by_rule lets m) first (k.last m) come refl refl)

  pub had_turns : (k : Works) (m : Machine) (did : Counts) (s : Status) → (k.last m).counts ≡ did → k.statuses m ≡ s → has_worker m ≡ true → HadTurns limit (lets m) did s (journal_of r.journals m)
  had_turns k m did s counts status e =
      let worked = k.works m e in
      let first = first_moment k.interlock m in
      let last = k.last m in
      let stopped = last.side.stopped in
      let came : HadTurns limit (lets m) last.counts (k.statuses m) (journal_of r.journals m) =
      record {
        within = within (by_rule lets m) limit stopped last.counts.turns (k.statuses m) worked.ends;
        let_in = λ turn less. sym (let_in_along tries (steps_of c m) (rig_of c m) (by_rule lets m) first last worked.come refl turn less);
        fine = ends_fine (by_rule lets m) limit stopped last.counts.turns (k.statuses m) worked.ends;
        kept_out = λ out. let kept = ends_kept_out (by_rule lets m) limit stopped last.counts.turns (k.statuses m) worked.ends out in (kept.0, sym kept.1);
        one_answer_each = answers_along tries (steps_of c m) (rig_of c m) (by_rule lets m) first last worked.come (omega arith);
        counted = counted_by_turns k m e;
      } in
      subst (λ d. HadTurns limit (lets m) d s (journal_of r.journals m)) counts (subst (λ x. HadTurns limit (lets m) last.counts x (journal_of r.journals m)) status came)

-- ---- no turn

module _ (c : CellScales) (tries : ℕ) (m : Machine) where
  no_turn_left : (lets : Rule) (first last : MomentOf m) (s : Status) → first.side.stopped ≡ None → first.counts.turns ≡ 0 → HasEnded (passes tries) (steps_of c m) (rig_of c m) (by_rule lets m) 0 first last s → (last ≡ first) × (s ≡ Fine)
  no_turn_left lets first last s runs none k = stays_without_turns (steps_of c m) (rig_of c m) tries (by_rule lets m) first last s runs none k

  never_let_in : (first last : MomentOf m) (s : Status) → first.side.stopped ≡ None → first.counts.turns ≡ 0 → HasEnded (passes tries) (steps_of c m) (rig_of c m) (by_rule (λ n turn. false) m) 5 first last s → (last ≡ first) × (s ≡ GateLimit)
  never_let_in first last s runs none k = stays_if_shut (steps_of c m) (rig_of c m) tries (by_rule (λ n turn. false) m) first last s runs none (λ turn e. cc) k

-- ---- the first turns in a cell without plates

-- without plates the crane's first step doesn't travel
abbrev raising : CraneProgress
raising = crane_start (start_state empty 0)

module _ (scale : Scale) where
  abbrev told_travel : Turned CraneProgress CraneAct → Motor
  told_travel w = (act_or_rest ((crane_steps scale (IsReading scale)).rest raising) w.result).travel

  module _ (same : Type 0) (asks : Call → Result Reply LineFault → Type 0) (w : Turned CraneProgress CraneAct) where
    travel_off : (sensed : Result CraneReading SensorFault) (r : Performed CraneProgress CraneAct) → PerformsSensed (crane_steps scale (IsReading scale)) sensed same asks raising r → w ≡ turned raising r → told_travel w ≡ Off
    travel_off (Err fault) r h e = ap told_travel e ∙ ap (λ x. told_travel (turned raising x)) h.1
    travel_off (Ok reading) r h e = ap told_travel e ∙ ap (λ x. told_travel (turned raising x)) h.1.2 ∙ h.1.1.travel

  noted_by_crane : (b : CranePlant) (e : Option Event) → noting (crane_rig scale) b e ≡ b
  noted_by_crane b None = refl
  noted_by_crane b (Some e) = refl

module _ (c : CellScales) (tries : ℕ) (lets : Rule) (r : RunRecord) (k : TellsAnyWork c (start_state empty 0) tries 1 (by_rule lets) r) where
  abbrev begins : (m : Machine) → MomentOf m
  begins m = first_moment k.interlock m

  called : (m : Machine) → has_worker m ≡ true → ((steps_of c m).row (begins m).side.progress).call ≡ first_call m → HasAtMost (first_call m) (journal_of r.journals m)
  called m e is =
      subst (HasAtMost (first_call m)) (sym (k.journals m))
      (noted_at_most (first_call m) (start_state empty 0) (k.last m).line.seen m
      (own_at_first tries (steps_of c m) (rig_of c m) (by_rule lets m) (first_call m) (begins m) (k.last m) (k.statuses m) refl refl is (k.works m e)))

  calls : (m : Machine) → HasAtMost (first_call m) (journal_of r.journals m)
  calls Feed = called Feed refl refl
  calls Table = called Table refl refl
  calls Robot = called Robot refl (ap (λ s. ((steps_of c Robot).row (robot_start s)).call) k.opened)
  calls Press = called Press refl refl
  calls Deposit = called Deposit refl refl
  calls Crane = called Crane refl (ap (λ s. ((steps_of c Crane).row (crane_start s)).call) k.opened)
  calls Watch = subst (HasAtMost None) (sym (k.journals Watch ∙ ap (λ (x : MomentOf Watch). noted (start_state empty 0) x.line.seen Watch) k.watch_rests.0)) tt

  abbrev crane : Steps CraneProgress CraneSense CraneReading CraneAct
  crane = crane_steps c.gripper (IsReading c.gripper)

  abbrev travelled : MomentOf Crane → ℤ
  travelled m = m.side.part.travel.position

  stands_in_turn : TakesTurn (passes tries) crane (crane_rig c.gripper) (by_rule lets Crane) (begins Crane) (k.last Crane) → travelled (k.last Crane) ≡ pos 0
  stands_in_turn turn =
      let before = begins Crane in
      let acts = turn.row.acts in
      let b = before.side.part in
      let rig = crane_rig c.gripper in
      let Row : CraneProgress → Type 0 = λ p. Turns crane ((k.last Crane).line ≡ before.line × (turn.asked ≡ None)) (λ call answer. PassAsks tries before.line call answer (k.last Crane).line × (turn.asked ≡ Some (call, answer))) None p acts.sense acts.turned in
      let row : Row raising = subst (λ s. Row (crane_start s)) k.opened acts.row in
      let off = travel_off c.gripper _ _ acts.turned row.1.sensed row.0 row.1.performs row.2 in
      let rests : (act_or_rest (crane.rest before.side.progress) acts.turned.result).travel ≡ Off = subst (λ s. (act_or_rest (crane.rest (crane_start s)) acts.turned.result).travel ≡ Off) (sym k.opened) off in
      let noted_so = noting rig b (done_in Crane turn.asked) in
      ap (λ side. side.part.travel.position) turn.row.moved
      ∙ ap (λ side. (side_moved rig side).part.travel.position) acts.is
      ∙ ap (λ motor. moved_to crane_end noted_so.travel.position motor) rests
      ∙ ap (λ (x : CranePlant). x.travel.position) (noted_by_crane c.gripper b (done_in Crane turn.asked))

  stands : travelled (k.last Crane) ≡ pos 0
  stands =
      let worked = k.works Crane refl in
      let few = within (by_rule lets Crane) 1 (k.last Crane).side.stopped (k.last Crane).counts.turns (k.statuses Crane) worked.ends in
      elim (once tries crane (crane_rig c.gripper) (by_rule lets Crane) (begins Crane) (k.last Crane) worked.come (omega (arith, few))) as (λ _. travelled (k.last Crane) ≡ pos 0) [
        | inl same ↦ ap travelled same
        | inr turn ↦ stands_in_turn turn
      ]

  pub first_turns : TellsFirstTurns r
  first_turns = record { calls = calls; crane = ap (λ xs. slice_get xs 6) k.axes ∙ ap (λ x. Some x) stands }

pub records_tell : RecordsTellTurns
records_tell =
    record {
      no_turns = λ c opening tries lets r. (
        λ k. nothing_done c opening tries 0 lets r Fine (λ m first last s. no_turn_left c tries m lets first last s) k,
        λ t. told c opening tries 0 lets r Fine (λ m. inl (refl, refl)) t,
      );
      shut = λ c opening tries r. (
        λ k. nothing_done c opening tries 5 (λ m turn. false) r GateLimit (λ m first last s. never_let_in c tries m first last s) k,
        λ t. told c opening tries 5 (λ m turn. false) r GateLimit (λ m. inr (refl, omega arith, refl)) t,
      );
      turns = λ c opening tries limit lets r did statuses k counts status m e.
          had_turns c opening tries limit lets r k m (did m) (statuses m) (each_same (λ n. (k.last n).counts) did (sym k.counts ∙ counts) m) (each_same k.statuses statuses (sym k.status ∙ status) m) e;
      exchanges = λ c opening tries limit lets r k m e. few_along tries (steps_of c m) (rig_of c m) (by_rule lets m) (first_moment k.interlock m) (k.last m) (k.works m e).come refl;
      once = λ c opening tries lets r k m e.
          let w = k.works m e in
          let few = within (by_rule lets m) 1 (k.last m).side.stopped (k.last m).counts.turns (k.statuses m) w.ends in
          once tries (steps_of c m) (rig_of c m) (by_rule lets m) (first_moment k.interlock m) (k.last m) w.come (omega (arith, few));
      first = first_turns;
    }

-- ---- the interlock, and the ends

pub keep_tries : (gate : Machine → GateOf) → RecordsKeepTries gate
keep_tries gate c opening tries limit r k = (record k { interlock = record (k.interlock) { tries = tries } }, refl)

pub workers_end : WorkersEnd
workers_end =
    record {
      status = λ c tries limit lets m first last s k. has_status_by (by_rule lets m) limit last.side.stopped last.counts.turns s k.ends;
      counted = λ call c. (λ k. (k.done, k.read, k.refused), λ h. record { done = h.0; read = h.1; refused = h.2 });
    }

-- ---- one turn

pub turns_taken : TurnsAreTaken
turns_taken =
    record {
      stopped = λ c tries lets m before now fault e turn. let lie : None ≡ Some fault = sym turn.runs ∙ e in cc;
      kept_out = λ c tries lets m before now e turn. let lie : true ≡ false = turn.let_in ∙ e in cc;
      busy = λ c tries lets m before now turn call lost stamp e.
          (busy_lost tries (steps_of c m) (rig_of c m) (by_rule lets m) before now turn call lost stamp e, busy_counted tries (steps_of c m) (rig_of c m) (by_rule lets m) before now turn call lost stamp e);
      waits = λ c tries lets m before now turn call lost stamp e.
          let is = side_answered tries (steps_of c m) (rig_of c m) (by_rule lets m) before now turn call (Ok (Busy lost stamp)) e in
          (ap (λ (s : SideOf m). s.progress) is, ap (λ (s : SideOf m). s.stopped) is);
      no_memory = λ c tries lets m before now turn call why e.
          let is = side_answered tries (steps_of c m) (rig_of c m) (by_rule lets m) before now turn call (Err why) e in
          (ap (λ (s : SideOf m). s.stopped) is, line_unchanged tries (steps_of c m) (rig_of c m) (by_rule lets m) before now turn call why e);
      rests = λ c tries lets m before now fault turn e. moves_rest c m _ _ before.side turn.asked fault now.side turn.row e;
      press = λ c tries lets before now turn runs on.
          let told = turn.motor_demands runs in
          told.motor_demands (λ off. on (ap (λ (a : Axis). a.motor) told.told ∙ off));
      claims = λ c tries lets before now turn stamp e is.
          let r : Result Reply LineFault = Ok (Settled Done stamp) in
          let led : SideOf Press → SideOf Press = λ s. side_moved press_rig (side_set press_steps press_rig s (Some (Claim Z3, r)) (turned s.progress (at_rest (press_steps.rest s.progress) (step_after_reply press_steps s.progress r)))) in
          side_answered tries press_steps press_rig (by_rule lets Press) before now turn (Claim Z3) r is ∙ ap led e;
      falls = λ c tries lets before now turn e. falls tries (by_rule lets Press) before now turn e;
    }
