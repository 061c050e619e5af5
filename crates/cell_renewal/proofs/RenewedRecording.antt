-- Rounds of six workers that go on, by the six programs: none ends as refused, and none as worn while stamps are left.
use Rattle.cell_renewal.proofs.Names.{◌≡◌, ◌≢◌, ◌≤◌, ◌<◌, ◌+◌, ◌*◌, ℕ, zero, suc, false, List, [], Option, None, Result, inl, inr, refl, sym, ap, ◌∙◌, subst, arith, length, append-nil, Machine, Feed, Table, Robot, Press, Deposit, Crane, Watch, Event, same_machine, Ghosts, ModelState, last_stamp, IsSound, after, IsLegal, done_count, own_events, restamped, sound-after, restamped_sound, InterlockView, fresh_pass, CtlFault, deposit_steps, feed_steps, CraneProgram, press_steps, PressProgress}
use Rattle.cell_renewal.proofs.Names.{TableProgram, Refused, Worn, CellScales, CellGauges, ProgressOf, steps_of, programs_of, HaveComeFrom, StandAfter, Stands, TellsWatched, WatchesOf, GateOf, SixRecord, all_along, GoingLeft, GoingOn, OpensAfter, RoundMoment, TakesRound, AllRun, GoingSix, NoneIsRefusedThrough, NoneIsWornThrough, SixLeft, MakesAtMost, by_crane, by_robot, by_table, going_gives, going_on, Shows, Sets}
use Rattle.cell_belts_crane.specs.declared.crane.CraneProgress.{CraneProgress}
use Rattle.cell_belts_crane.specs.declared.deposit.DepositProgram.{DepositProgram}
use Rattle.cell_belts_crane.specs.declared.deposit.DepositProgress.{DepositProgress}
use Rattle.cell_belts_crane.specs.declared.feed.FeedProgram.{FeedProgram}
use Rattle.cell_belts_crane.specs.declared.feed.FeedProgress.{FeedProgress}
use Rattle.cell_robot.specs.declared.robot.RobotProgram.{RobotProgram}
use Rattle.cell_robot.specs.declared.robot.RobotProgress.{RobotProgress}
use Rattle.cell_table_press.specs.declared.press.PressProgram.{PressProgram}
use Rattle.cell_table_press.specs.declared.table.TableProgress.{TableProgress}
use Rattle.cell_team.proofs.lemmas.Together.{sound_start}
use Rattle.cell_threads.specs.Results.{SixResults, outputs_in}
use Rattle.cell_renewal.specs.declared.rounds.Round.{Round}
use Rattle.cell_renewal.proofs.GoingStands.{from_step}
use Rattle.cell_renewal.proofs.RenewedTeams.{all_come, none_refused, stands_near, team_of}
use Rattle.cell_renewal.proofs.RenewedRounds.{few_calls, runs_on, stands_after, unrefused_after, worn_last}
use Rattle.cell_renewal.proofs.Wearing.{changes-are-calls}

-- the next interlock opens with a sound state whose stamp hasn't passed the mark
opened_low : (mark : ℕ) (end next : ModelState) → OpensAfter mark end next → IsSound end → IsSound next × (next.stamp ≤ mark)
opened_low mark end next (inl k) s = (subst IsSound (sym k.1) (restamped_sound end 0 (omega arith) s), subst (λ (x : ModelState). x.stamp ≤ mark) (sym k.1) (omega arith))
opened_low mark end next (inr k) s = (subst IsSound (sym k.1) s, subst (λ (x : ModelState). x.stamp ≤ mark) (sym k.1) k.0)

-- whichever stamp it is, it is in range
opened_by : (mark : ℕ) (end next : ModelState) → OpensAfter mark end next → end.stamp ≤ last_stamp → (stamp : ℕ) × (stamp ≤ last_stamp) × (next ≡ restamped end stamp)
opened_by mark end next (inl k) low = (0, omega arith, k.1)
opened_by mark end next (inr k) low = (end.stamp, low, k.1)

module _ (F1 F2 F3 F4 F5 : Type 0) (g1 : Ghosts F1) (g2 : Ghosts F2) (g3 : Ghosts F3) (g4 : Ghosts F4) (g5 : Ghosts F5) (D1 D2 D3 D4 D5 D6 H S Fault : Type 0)
    (shows1 : Shows D1 Feed) (sets1 : Sets D1 Feed) (shows2 : Shows D2 Table) (sets2 : Sets D2 Table) (shows3 : Shows D3 Robot) (sets3 : Sets D3 Robot) (shows4 : Shows D4 Press) (sets4 : Sets D4 Press) (shows5 : Shows D5 Deposit) (sets5 : Sets D5 Deposit) (shows6 : Shows D6 Crane) (sets6 : Sets D6 Crane) (watches : WatchesOf H) (takes : S → Round → Result (Unit {0}) Fault → S → Type 0) (gate : Machine → GateOf) where
  abbrev Six : Type 0
  Six = GoingSix (TableProgram F4 g4) (RobotProgram F1 F2 F3 g1 g2 g3) (CraneProgram F5 g5) D1 D2 D3 D4 D5 D6

  abbrev LeftBy : Type 0
  LeftBy = SixLeft (TableProgram F4 g4) (RobotProgram F1 F2 F3 g1 g2 g3) (CraneProgram F5 g5) D1 D2 D3 D4 D5 D6 H

  abbrev Moment : Type 0
  Moment =
      RoundMoment (GoingOn FeedProgram FeedProgress D1) (GoingOn (TableProgram F4 g4) TableProgress D2) (GoingOn (RobotProgram F1 F2 F3 g1 g2 g3) RobotProgress D3) (GoingOn PressProgram PressProgress D4)
      (GoingOn DepositProgram DepositProgress D5) (GoingOn (CraneProgram F5 g5) CraneProgress D6) H S

  abbrev Results : Type 0
  Results =
      SixResults (GoingLeft FeedProgram FeedProgress D1) (GoingLeft (TableProgram F4 g4) TableProgress D2) (GoingLeft (RobotProgram F1 F2 F3 g1 g2 g3) RobotProgress D3) (GoingLeft PressProgram PressProgress D4)
      (GoingLeft DepositProgram DepositProgress D5) (GoingLeft (CraneProgram F5 g5) CraneProgress D6)

  abbrev Record : Type 0
  Record =
      SixRecord (GoingLeft FeedProgram FeedProgress D1) (GoingLeft (TableProgram F4 g4) TableProgress D2) (GoingLeft (RobotProgram F1 F2 F3 g1 g2 g3) RobotProgress D3) (GoingLeft PressProgram PressProgress D4)
      (GoingLeft DepositProgram DepositProgress D5) (GoingLeft (CraneProgram F5 g5) CraneProgress D6)

  abbrev Told : ℕ → ℕ → Moment → Record → H → Type 0
  Told tries limit m six later =
      TellsWatched (going_gives (λ _. feed_steps) shows1 sets1) (going_gives by_table shows2 sets2) (going_gives by_robot shows3 sets3) (going_gives (λ _. press_steps) shows4 sets4) (going_gives (λ _. deposit_steps) shows5 sets5) (going_gives by_crane shows6 sets6) watches m.workers m.watch m.opening tries limit gate six later

  abbrev Turn : ℕ → ℕ → ℕ → Moment → Moment → Type 0
  Turn tries limit mark =
      TakesRound (going_gives (λ _. feed_steps) shows1 sets1) (going_gives by_table shows2 sets2) (going_gives by_robot shows3 sets3) (going_gives (λ _. press_steps) shows4 sets4) (going_gives (λ _. deposit_steps) shows5 sets5) (going_gives by_crane shows6 sets6) watches takes tries limit gate
      (λ o. o.status) (λ o. o.status) (λ o. o.status) (λ o. o.status) (λ o. o.status) (λ o. o.status) going_on going_on going_on going_on going_on going_on mark

  -- the step of each machine before a round, and after it; and what has stopped it then
  abbrev steps_in : Six → (m : Machine) → ProgressOf m
  steps_in w Feed = w.feed.machine.progress
  steps_in w Table = w.table.machine.progress
  steps_in w Robot = w.robot.machine.progress
  steps_in w Press = w.press.machine.progress
  steps_in w Deposit = w.deposit.machine.progress
  steps_in w Crane = w.crane.machine.progress
  steps_in w Watch = record { has_stopped = false }

  abbrev steps_left : Results → (m : Machine) → ProgressOf m
  steps_left r Feed = r.feed.output.machine.progress
  steps_left r Table = r.table.output.machine.progress
  steps_left r Robot = r.robot.output.machine.progress
  steps_left r Press = r.press.output.machine.progress
  steps_left r Deposit = r.deposit.output.machine.progress
  steps_left r Crane = r.crane.output.machine.progress
  steps_left r Watch = record { has_stopped = false }

  abbrev stopped_in : Results → Machine → Option CtlFault
  stopped_in r Feed = r.feed.output.machine.stopped
  stopped_in r Table = r.table.output.machine.stopped
  stopped_in r Robot = r.robot.output.machine.stopped
  stopped_in r Press = r.press.output.machine.stopped
  stopped_in r Deposit = r.deposit.output.machine.stopped
  stopped_in r Crane = r.crane.output.machine.stopped
  stopped_in r Watch = None

  -- the scales and the gauges of the programs
  abbrev scales_of : TableProgram F4 g4 → RobotProgram F1 F2 F3 g1 g2 g3 → CraneProgram F5 g5 → CellScales
  scales_of t r c = record { arm1 = r.arm1.points; arm2 = r.arm2.points; rotation = r.rotation.points; turn = t.turn.points; gripper = c.gripper.points }

  abbrev gauges_by : TableProgram F4 g4 → RobotProgram F1 F2 F3 g1 g2 g3 → CraneProgram F5 g5 → CellGauges
  gauges_by t r c = record { arm1 = g1.gives r.arm1.gauge; arm2 = g2.gives r.arm2.gauge; rotation = g3.gives r.rotation.gauge; turn = g4.gives t.turn.gauge; gripper = g5.gives c.gripper.gauge }

  -- between two rounds: all run, by the same programs, at steps to which they have come through some renewals
  pub record Standing (t0 : TableProgram F4 g4) (r0 : RobotProgram F1 F2 F3 g1 g2 g3) (c0 : CraneProgram F5 g5) (m : Moment) : Type 0 where
    pub renewals : ℕ
    pub stood : StandAfter (programs_of (scales_of t0 r0 c0)) renewals m.opening (team_of (steps_in m.workers))
    pub runs : AllRun m.workers
    pub table : m.workers.table.machine.program ≡ t0
    pub robot : m.workers.robot.machine.program ≡ r0
    pub crane : m.workers.crane.machine.program ≡ c0
    pub sound : IsSound m.opening

  -- ---- a round

  module _ (tries limit : ℕ) (m : Moment) (six : Record) (later : H) (k : Told tries limit m six later) (runs : AllRun m.workers) where
    abbrev i : InterlockView
    i = k.interlock

    legal : IsLegal i.opening k.history
    legal = subst (λ s. IsLegal s k.history) (sym k.opened) (k.lawful k.history [] (sym (append-nil k.history))).legal

    few_feed : length (own_events k.history Feed) ≤ limit
    few_feed = few_calls (λ _. feed_steps) shows1 sets1 (gate Feed) i.tries limit i k.history m.workers.feed k.results.feed runs.feed k.given.feed.1 (k.seen Feed)

    few_table : length (own_events k.history Table) ≤ limit
    few_table = few_calls by_table shows2 sets2 (gate Table) i.tries limit i k.history m.workers.table k.results.table runs.table k.given.table.1 (k.seen Table)

    few_robot : length (own_events k.history Robot) ≤ limit
    few_robot = few_calls by_robot shows3 sets3 (gate Robot) i.tries limit i k.history m.workers.robot k.results.robot runs.robot k.given.robot.1 (k.seen Robot)

    few_press : length (own_events k.history Press) ≤ limit
    few_press = few_calls (λ _. press_steps) shows4 sets4 (gate Press) i.tries limit i k.history m.workers.press k.results.press runs.press k.given.press.1 (k.seen Press)

    few_deposit : length (own_events k.history Deposit) ≤ limit
    few_deposit = few_calls (λ _. deposit_steps) shows5 sets5 (gate Deposit) i.tries limit i k.history m.workers.deposit k.results.deposit runs.deposit k.given.deposit.1 (k.seen Deposit)

    few_crane : length (own_events k.history Crane) ≤ limit
    few_crane = few_calls by_crane shows6 sets6 (gate Crane) i.tries limit i k.history m.workers.crane k.results.crane runs.crane k.given.crane.1 (k.seen Crane)

    -- so few changes are made
    few_changes : (calls : ℕ) → MakesAtMost watches calls → done_count k.history ≤ 6 * limit + calls
    few_changes calls most =
        let all = changes-are-calls k.history in
        let own : length (own_events k.history Watch) ≤ calls = subst (λ (h : List Event). length h ≤ calls) (sym (k.seen Watch).own) (most m.watch k.watched.output (fresh_pass i Watch) k.watched.pass i.tries refl k.watched_so.does) in
        omega (arith, all, few_feed, few_table, few_robot, few_press, few_deposit, few_crane, own)

    module _ (calls : ℕ) (most : MakesAtMost watches calls) (sound : IsSound m.opening) (room : m.opening.stamp + 6 * limit + calls < last_stamp) where
      sound_here : IsSound i.opening
      sound_here = subst IsSound (sym k.opened) sound

      too_few : last_stamp ≤ i.opening.stamp + done_count k.history → ⊥
      too_few used =
          let few = few_changes calls most in
          let same : i.opening.stamp ≡ m.opening.stamp = ap (λ (s : ModelState). s.stamp) k.opened in
          absurd (omega (arith, used, few, same, room))

      pub unworn_feed : k.results.feed.output.status ≢ Worn
      unworn_feed e = too_few (worn_last (λ _. feed_steps) shows1 sets1 (gate Feed) i.tries limit i k.history m.workers.feed k.results.feed runs.feed k.given.feed.1 (k.seen Feed) sound_here legal e)

      pub unworn_table : k.results.table.output.status ≢ Worn
      unworn_table e = too_few (worn_last by_table shows2 sets2 (gate Table) i.tries limit i k.history m.workers.table k.results.table runs.table k.given.table.1 (k.seen Table) sound_here legal e)

      pub unworn_robot : k.results.robot.output.status ≢ Worn
      unworn_robot e = too_few (worn_last by_robot shows3 sets3 (gate Robot) i.tries limit i k.history m.workers.robot k.results.robot runs.robot k.given.robot.1 (k.seen Robot) sound_here legal e)

      pub unworn_press : k.results.press.output.status ≢ Worn
      unworn_press e = too_few (worn_last (λ _. press_steps) shows4 sets4 (gate Press) i.tries limit i k.history m.workers.press k.results.press runs.press k.given.press.1 (k.seen Press) sound_here legal e)

      pub unworn_deposit : k.results.deposit.output.status ≢ Worn
      unworn_deposit e = too_few (worn_last (λ _. deposit_steps) shows5 sets5 (gate Deposit) i.tries limit i k.history m.workers.deposit k.results.deposit runs.deposit k.given.deposit.1 (k.seen Deposit) sound_here legal e)

      pub unworn_crane : k.results.crane.output.status ≢ Worn
      unworn_crane e = too_few (worn_last by_crane shows6 sets6 (gate Crane) i.tries limit i k.history m.workers.crane k.results.crane runs.crane k.given.crane.1 (k.seen Crane) sound_here legal e)

    module _ (t0 : TableProgram F4 g4) (r0 : RobotProgram F1 F2 F3 g1 g2 g3) (c0 : CraneProgram F5 g5) (table : m.workers.table.machine.program ≡ t0) (robot : m.workers.robot.machine.program ≡ r0) (crane : m.workers.crane.machine.program ≡ c0)
        (renewals : ℕ) (stood : StandAfter (programs_of (scales_of t0 r0 c0)) renewals m.opening (team_of (steps_in m.workers))) where
      abbrev c : CellScales
      c = scales_of t0 r0 c0

      abbrev gives : CellGauges
      gives = gauges_by t0 r0 c0

      pub stood_here : StandAfter (programs_of c) renewals i.opening (team_of (steps_in m.workers))
      stood_here = subst (λ s. StandAfter (programs_of c) renewals s (team_of (steps_in m.workers))) (sym k.opened) stood

      pub stands : (n : Machine) → same_machine n Watch ≡ false → Stands (from_step (steps_of c n) (steps_in m.workers n)) i.opening k.history (stopped_in k.results n) (steps_left k.results n)
      stands Feed e =
          stands_near c gives i.opening k.history Feed m.workers.feed.machine.progress k.results.feed.output.machine.stopped k.results.feed.output.machine.progress
          (stands_after (λ _. feed_steps) shows1 sets1 (gate Feed) i.tries limit i k.history m.workers.feed k.results.feed runs.feed k.given.feed.1 (k.seen Feed))
      stands Table e =
          stands_near c gives i.opening k.history Table m.workers.table.machine.progress k.results.table.output.machine.stopped k.results.table.output.machine.progress
          (subst (λ (p : TableProgram F4 g4). Stands (from_step (by_table p) m.workers.table.machine.progress) i.opening k.history k.results.table.output.machine.stopped k.results.table.output.machine.progress) table (stands_after by_table shows2 sets2 (gate Table) i.tries limit i k.history m.workers.table k.results.table runs.table k.given.table.1 (k.seen Table)))
      stands Robot e =
          stands_near c gives i.opening k.history Robot m.workers.robot.machine.progress k.results.robot.output.machine.stopped k.results.robot.output.machine.progress
          (subst (λ (p : RobotProgram F1 F2 F3 g1 g2 g3). Stands (from_step (by_robot p) m.workers.robot.machine.progress) i.opening k.history k.results.robot.output.machine.stopped k.results.robot.output.machine.progress) robot (stands_after by_robot shows3 sets3 (gate Robot) i.tries limit i k.history m.workers.robot k.results.robot runs.robot k.given.robot.1 (k.seen Robot)))
      stands Press e =
          stands_near c gives i.opening k.history Press m.workers.press.machine.progress k.results.press.output.machine.stopped k.results.press.output.machine.progress
          (stands_after (λ _. press_steps) shows4 sets4 (gate Press) i.tries limit i k.history m.workers.press k.results.press runs.press k.given.press.1 (k.seen Press))
      stands Deposit e =
          stands_near c gives i.opening k.history Deposit m.workers.deposit.machine.progress k.results.deposit.output.machine.stopped k.results.deposit.output.machine.progress
          (stands_after (λ _. deposit_steps) shows5 sets5 (gate Deposit) i.tries limit i k.history m.workers.deposit k.results.deposit runs.deposit k.given.deposit.1 (k.seen Deposit))
      stands Crane e =
          stands_near c gives i.opening k.history Crane m.workers.crane.machine.progress k.results.crane.output.machine.stopped k.results.crane.output.machine.progress
          (subst (λ (p : CraneProgram F5 g5). Stands (from_step (by_crane p) m.workers.crane.machine.progress) i.opening k.history k.results.crane.output.machine.stopped k.results.crane.output.machine.progress) crane (stands_after by_crane shows6 sets6 (gate Crane) i.tries limit i k.history m.workers.crane k.results.crane runs.crane k.given.crane.1 (k.seen Crane)))
      stands Watch e = cc

      pub unrefused_feed : k.results.feed.output.status ≢ Refused
      unrefused_feed = unrefused_after (λ _. feed_steps) shows1 sets1 (gate Feed) i.tries limit i k.history m.workers.feed k.results.feed runs.feed k.given.feed.1 (k.seen Feed) (none_refused c renewals i.opening k.history (steps_in m.workers) (steps_left k.results) (stopped_in k.results) stood_here legal stands Feed refl)

      pub unrefused_table : k.results.table.output.status ≢ Refused
      unrefused_table = unrefused_after by_table shows2 sets2 (gate Table) i.tries limit i k.history m.workers.table k.results.table runs.table k.given.table.1 (k.seen Table) (none_refused c renewals i.opening k.history (steps_in m.workers) (steps_left k.results) (stopped_in k.results) stood_here legal stands Table refl)

      pub unrefused_robot : k.results.robot.output.status ≢ Refused
      unrefused_robot = unrefused_after by_robot shows3 sets3 (gate Robot) i.tries limit i k.history m.workers.robot k.results.robot runs.robot k.given.robot.1 (k.seen Robot) (none_refused c renewals i.opening k.history (steps_in m.workers) (steps_left k.results) (stopped_in k.results) stood_here legal stands Robot refl)

      pub unrefused_press : k.results.press.output.status ≢ Refused
      unrefused_press = unrefused_after (λ _. press_steps) shows4 sets4 (gate Press) i.tries limit i k.history m.workers.press k.results.press runs.press k.given.press.1 (k.seen Press) (none_refused c renewals i.opening k.history (steps_in m.workers) (steps_left k.results) (stopped_in k.results) stood_here legal stands Press refl)

      pub unrefused_deposit : k.results.deposit.output.status ≢ Refused
      unrefused_deposit = unrefused_after (λ _. deposit_steps) shows5 sets5 (gate Deposit) i.tries limit i k.history m.workers.deposit k.results.deposit runs.deposit k.given.deposit.1 (k.seen Deposit) (none_refused c renewals i.opening k.history (steps_in m.workers) (steps_left k.results) (stopped_in k.results) stood_here legal stands Deposit refl)

      pub unrefused_crane : k.results.crane.output.status ≢ Refused
      unrefused_crane = unrefused_after by_crane shows6 sets6 (gate Crane) i.tries limit i k.history m.workers.crane k.results.crane runs.crane k.given.crane.1 (k.seen Crane) (none_refused c renewals i.opening k.history (steps_in m.workers) (steps_left k.results) (stopped_in k.results) stood_here legal stands Crane refl)

      pub came : HaveComeFrom (programs_of c) (team_of (steps_in m.workers)) k.history (team_of (steps_left k.results))
      came = all_come c renewals i.opening k.history (steps_in m.workers) (steps_left k.results) (stopped_in k.results) stood_here legal stands

  -- ---- from one round to the next

  module _ (tries limit mark : ℕ) (before now : Moment) (turn : Turn tries limit mark before now) (runs : AllRun before.workers) where
    abbrev told : Told tries limit before turn.ends.six turn.left.watch
    told = turn.ends.told

    outputs : turn.left.outputs ≡ outputs_in told.results
    outputs = ap (λ (l : LeftBy). l.outputs) turn.ends.is ∙ told.outputs

    ended_at : turn.left.end ≡ after before.opening told.history
    ended_at = ap (λ (l : LeftBy). l.end) turn.ends.is ∙ told.end

    left_feed : turn.left.outputs.feed ≡ told.results.feed.output
    left_feed = λ x. (outputs x).feed

    machine_feed : now.workers.feed.machine ≡ told.results.feed.output.machine
    machine_feed = turn.goes_on.feed.same_machine ∙ ap (λ (l : GoingLeft FeedProgram FeedProgress D1). l.machine) left_feed

    left_table : turn.left.outputs.table ≡ told.results.table.output
    left_table = λ x. (outputs x).table

    machine_table : now.workers.table.machine ≡ told.results.table.output.machine
    machine_table = turn.goes_on.table.same_machine ∙ ap (λ (l : GoingLeft (TableProgram F4 g4) TableProgress D2). l.machine) left_table

    left_robot : turn.left.outputs.robot ≡ told.results.robot.output
    left_robot = λ x. (outputs x).robot

    machine_robot : now.workers.robot.machine ≡ told.results.robot.output.machine
    machine_robot = turn.goes_on.robot.same_machine ∙ ap (λ (l : GoingLeft (RobotProgram F1 F2 F3 g1 g2 g3) RobotProgress D3). l.machine) left_robot

    left_press : turn.left.outputs.press ≡ told.results.press.output
    left_press = λ x. (outputs x).press

    machine_press : now.workers.press.machine ≡ told.results.press.output.machine
    machine_press = turn.goes_on.press.same_machine ∙ ap (λ (l : GoingLeft PressProgram PressProgress D4). l.machine) left_press

    left_deposit : turn.left.outputs.deposit ≡ told.results.deposit.output
    left_deposit = λ x. (outputs x).deposit

    machine_deposit : now.workers.deposit.machine ≡ told.results.deposit.output.machine
    machine_deposit = turn.goes_on.deposit.same_machine ∙ ap (λ (l : GoingLeft DepositProgram DepositProgress D5). l.machine) left_deposit

    left_crane : turn.left.outputs.crane ≡ told.results.crane.output
    left_crane = λ x. (outputs x).crane

    machine_crane : now.workers.crane.machine ≡ told.results.crane.output.machine
    machine_crane = turn.goes_on.crane.same_machine ∙ ap (λ (l : GoingLeft (CraneProgram F5 g5) CraneProgress D6). l.machine) left_crane

    pub all_run : AllRun now.workers
    all_run = record {
      feed = (λ x. (machine_feed x).stopped) ∙ runs_on (λ _. feed_steps) shows1 sets1 (gate Feed) told.interlock.tries limit told.interlock told.history before.workers.feed told.results.feed runs.feed told.given.feed.1 (told.seen Feed) (sym (ap (λ (l : GoingLeft FeedProgram FeedProgress D1). l.status) left_feed) ∙ turn.fine.feed);
      table = (λ x. (machine_table x).stopped) ∙ runs_on by_table shows2 sets2 (gate Table) told.interlock.tries limit told.interlock told.history before.workers.table told.results.table runs.table told.given.table.1 (told.seen Table) (sym (ap (λ (l : GoingLeft (TableProgram F4 g4) TableProgress D2). l.status) left_table) ∙ turn.fine.table);
      robot = (λ x. (machine_robot x).stopped) ∙ runs_on by_robot shows3 sets3 (gate Robot) told.interlock.tries limit told.interlock told.history before.workers.robot told.results.robot runs.robot told.given.robot.1 (told.seen Robot) (sym (ap (λ (l : GoingLeft (RobotProgram F1 F2 F3 g1 g2 g3) RobotProgress D3). l.status) left_robot) ∙ turn.fine.robot);
      press = (λ x. (machine_press x).stopped) ∙ runs_on (λ _. press_steps) shows4 sets4 (gate Press) told.interlock.tries limit told.interlock told.history before.workers.press told.results.press runs.press told.given.press.1 (told.seen Press) (sym (ap (λ (l : GoingLeft PressProgram PressProgress D4). l.status) left_press) ∙ turn.fine.press);
      deposit = (λ x. (machine_deposit x).stopped) ∙ runs_on (λ _. deposit_steps) shows5 sets5 (gate Deposit) told.interlock.tries limit told.interlock told.history before.workers.deposit told.results.deposit runs.deposit told.given.deposit.1 (told.seen Deposit) (sym (ap (λ (l : GoingLeft DepositProgram DepositProgress D5). l.status) left_deposit) ∙ turn.fine.deposit);
      crane = (λ x. (machine_crane x).stopped) ∙ runs_on by_crane shows6 sets6 (gate Crane) told.interlock.tries limit told.interlock told.history before.workers.crane told.results.crane runs.crane told.given.crane.1 (told.seen Crane) (sym (ap (λ (l : GoingLeft (CraneProgram F5 g5) CraneProgress D6). l.status) left_crane) ∙ turn.fine.crane);
    }

    pub sound_on : IsSound before.opening → IsSound now.opening × (now.opening.stamp ≤ mark)
    sound_on sound = opened_low mark turn.left.end now.opening turn.opens (subst IsSound (sym ended_at) (sound-after before.opening told.history sound))

    module _ (t0 : TableProgram F4 g4) (r0 : RobotProgram F1 F2 F3 g1 g2 g3) (c0 : CraneProgram F5 g5) (inv : Standing t0 r0 c0 before) where
      abbrev stamped : (stamp : ℕ) × (stamp ≤ last_stamp) × (now.opening ≡ restamped turn.left.end stamp)
      stamped = opened_by mark turn.left.end now.opening turn.opens (subst IsSound (sym ended_at) (sound-after before.opening told.history inv.sound)).stamp_in_range

      team : team_of (steps_in now.workers) ≡ team_of (steps_left told.results)
      team = λ x. record { feed = (machine_feed x).progress; table = (machine_table x).progress; robot = (machine_robot x).progress; press = (machine_press x).progress; deposit = (machine_deposit x).progress; crane = (machine_crane x).progress }

      pub standing_on : Standing t0 r0 c0 now
      standing_on = record {
        renewals = suc inv.renewals;
        stood = record {
          before = told.interlock.opening;
          first = team_of (steps_in before.workers);
          stood = stood_here tries limit before turn.ends.six turn.left.watch told inv.runs t0 r0 c0 inv.table inv.robot inv.crane inv.renewals inv.stood;
          history = told.history;
          legal = legal tries limit before turn.ends.six turn.left.watch told inv.runs;
          come = subst (λ t. HaveComeFrom (programs_of (scales_of t0 r0 c0)) (team_of (steps_in before.workers)) told.history t) (sym team) (came tries limit before turn.ends.six turn.left.watch told inv.runs t0 r0 c0 inv.table inv.robot inv.crane inv.renewals inv.stood);
          stamp = stamped.0;
          in_range = stamped.1;
          opens = stamped.2 ∙ ap (λ s. restamped s stamped.0) (ended_at ∙ ap (λ s. after s told.history) (sym told.opened));
        };
        runs = all_run;
        table = (λ x. (machine_table x).program) ∙ told.given.table.1.0 ∙ inv.table;
        robot = (λ x. (machine_robot x).program) ∙ told.given.robot.1.0 ∙ inv.robot;
        crane = (λ x. (machine_crane x).program) ∙ told.given.crane.1.0 ∙ inv.crane;
        sound = (sound_on inv.sound).0;
      }

  -- ---- all rounds

  record Low (mark : ℕ) (m : Moment) : Type 0 where
    sound : IsSound m.opening
    runs : AllRun m.workers
    low : m.opening.stamp ≤ mark

  pub none_worn : (w : Six) → NoneIsWornThrough shows1 sets1 shows2 sets2 shows3 sets3 shows4 sets4 shows5 sets5 shows6 sets6 watches takes gate w
  none_worn w tries limit mark calls watch opening begun sink left sound runs low most room k =
      let first : Moment = record { workers = w; watch = watch; opening = opening; sink = begun } in
      let stays : (before now : Moment) → Turn tries limit mark before now → Low mark before → Low mark now =
      λ before now turn inv. let on = sound_on tries limit mark before now turn inv.runs inv.sound in record { sound = on.0; runs = all_run tries limit mark before now turn inv.runs; low = on.1 } in
      let last = all_along (Turn tries limit mark) (Low mark) stays first k.last k.come (record { sound = sound; runs = runs; low = low }) in
      let told = k.ends.told in
      let six = k.ends.six in
      let outputs : left.outputs ≡ outputs_in told.results = ap (λ (l : LeftBy). l.outputs) k.ends.is ∙ told.outputs in
      let enough : k.last.opening.stamp + 6 * limit + calls < last_stamp = omega (arith, room, last.low) in
      record {
        feed = λ e. unworn_feed tries limit k.last six left.watch told last.runs calls most last.sound enough (sym (λ x. (outputs x).feed.status) ∙ e);
        table = λ e. unworn_table tries limit k.last six left.watch told last.runs calls most last.sound enough (sym (λ x. (outputs x).table.status) ∙ e);
        robot = λ e. unworn_robot tries limit k.last six left.watch told last.runs calls most last.sound enough (sym (λ x. (outputs x).robot.status) ∙ e);
        press = λ e. unworn_press tries limit k.last six left.watch told last.runs calls most last.sound enough (sym (λ x. (outputs x).press.status) ∙ e);
        deposit = λ e. unworn_deposit tries limit k.last six left.watch told last.runs calls most last.sound enough (sym (λ x. (outputs x).deposit.status) ∙ e);
        crane = λ e. unworn_crane tries limit k.last six left.watch told last.runs calls most last.sound enough (sym (λ x. (outputs x).crane.status) ∙ e);
      }

  pub none_refused_through : (w : Six) → NoneIsRefusedThrough shows1 sets1 shows2 sets2 shows3 sets3 shows4 sets4 shows5 sets5 shows6 sets6 watches takes gate w
  none_refused_through w tries limit mark watch opening before sink left start at k =
      let first : Moment = record { workers = w; watch = watch; opening = opening; sink = before } in
      let t0 = first.workers.table.machine.program in
      let r0 = first.workers.robot.machine.program in
      let c0 = first.workers.crane.machine.program in
      let begun : Standing t0 r0 c0 first = record {
        renewals = zero;
        stood = (start, λ x. record { feed = at.feed.0 x; table = at.table.0 x; robot = at.robot.0 x; press = at.press.0 x; deposit = at.deposit.0 x; crane = at.crane.0 x });
        runs = record { feed = at.feed.1; table = at.table.1; robot = at.robot.1; press = at.press.1; deposit = at.deposit.1; crane = at.crane.1 };
        table = refl;
        robot = refl;
        crane = refl;
        sound = sound_start first.opening start;
      } in
      let last = all_along (Turn tries limit mark) (Standing t0 r0 c0) (λ was now turn inv. standing_on tries limit mark was now turn inv.runs t0 r0 c0 inv) first k.last k.come begun in
      let told = k.ends.told in
      let six = k.ends.six in
      let outputs : left.outputs ≡ outputs_in told.results = ap (λ (l : LeftBy). l.outputs) k.ends.is ∙ told.outputs in
      record {
        feed = λ e. unrefused_feed tries limit k.last six left.watch told last.runs t0 r0 c0 last.table last.robot last.crane last.renewals last.stood (sym (λ x. (outputs x).feed.status) ∙ e);
        table = λ e. unrefused_table tries limit k.last six left.watch told last.runs t0 r0 c0 last.table last.robot last.crane last.renewals last.stood (sym (λ x. (outputs x).table.status) ∙ e);
        robot = λ e. unrefused_robot tries limit k.last six left.watch told last.runs t0 r0 c0 last.table last.robot last.crane last.renewals last.stood (sym (λ x. (outputs x).robot.status) ∙ e);
        press = λ e. unrefused_press tries limit k.last six left.watch told last.runs t0 r0 c0 last.table last.robot last.crane last.renewals last.stood (sym (λ x. (outputs x).press.status) ∙ e);
        deposit = λ e. unrefused_deposit tries limit k.last six left.watch told last.runs t0 r0 c0 last.table last.robot last.crane last.renewals last.stood (sym (λ x. (outputs x).deposit.status) ∙ e);
        crane = λ e. unrefused_crane tries limit k.last six left.watch told last.runs t0 r0 c0 last.table last.robot last.crane last.renewals last.stood (sym (λ x. (outputs x).crane.status) ∙ e);
      }
