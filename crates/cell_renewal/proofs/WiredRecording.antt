-- What a record tells of six workers with devices of your own, by what each gave back.
use Rattle.cell_renewal.proofs.Names.{◌≡◌, ◌≢◌, ℕ, List, [], ◌∷◌, Option, None, refl, sym, ◌∙◌, subst, All, append-nil, Machine, Feed, Table, Robot, Press, Deposit, Crane, Ghosts, IsLegal, ModelState, IsStartState, InterlockView, fresh_pass, Steps, Commands, crane_steps, deposit_steps, feed_steps, CraneProgram, press_steps, table_steps, TableProgram, Status, Fine, Refused, CellScales, CellGauges, GateOf, SixOf, WorkerResult, NoneEndsRefused, Sets, Shows, WiredTeam, IsWiredResult, wired_moment}
use Rattle.std.proofs.lemmas.List.Elements.{All-head, All-tail}
use Rattle.cell_robot.specs.Names.{gauges_of, robot_scales, robot_steps}
use Rattle.cell_robot.specs.declared.robot.RobotProgram.{RobotProgram}
use Rattle.cell_renewal.specs.WiredRecords.{RefusedIsFound, NoneIsRefused, NoneRecordedRefused, TellsWired, WiredRecord, WiredRecordsTell, WiredSix, wired_gives}
use Rattle.cell_renewal.specs.declared.wired_worker.WiredOutput.{WiredOutput}
use Rattle.cell_renewal.specs.declared.wired_worker.WiredWorker.{WiredWorker}
use Rattle.cell_renewal.proofs.WiredUnrefused.{wired-unrefused}

-- what a worker gave back that began with the interlock's opening, and whose calls may lose as many exchanges
given_as : {P D S Sense Reading Act : Type 0} → (m : Machine) (steps : P → Steps S Sense Reading Act) (shows : D → Option Sense → D → Type 0) (sets : D → Commands Act → D → Type 0) (i : InterlockView) (tries limit : ℕ) (gate : GateOf) (opening : ModelState) (w : WiredWorker P D) (r : WorkerResult (WiredOutput D))
    → i.opening ≡ opening → i.tries ≡ tries → w.opening ≡ opening → wired_gives steps shows sets w (fresh_pass i m) i.tries gate limit r
    → IsWiredResult tries (steps w.program) shows sets gate limit (wired_moment (fresh_pass i m) ((steps w.program).start i.opening) None w.devices 0 0) r.pass r.output.turns r.output.missed r.output.status r.output.devices
given_as m steps shows sets i tries limit gate opening w r opened losing begins k =
    let begun = subst (λ (s : ModelState). IsWiredResult i.tries (steps w.program) shows sets gate limit (wired_moment (fresh_pass i m) ((steps w.program).start s) None w.devices 0 0) r.pass r.output.turns r.output.missed r.output.status r.output.devices) (begins ∙ sym opened) k in
    subst (λ (n : ℕ). IsWiredResult n (steps w.program) shows sets gate limit (wired_moment (fresh_pass i m) ((steps w.program).start i.opening) None w.devices 0 0) r.pass r.output.turns r.output.missed r.output.status r.output.devices) losing begun

pub wired-tell : {F1 F2 F3 F4 F5 : Type 0} {g1 : Ghosts F1} {g2 : Ghosts F2} {g3 : Ghosts F3} {g4 : Ghosts F4} {g5 : Ghosts F5} {D1 D2 D3 D4 D5 D6 : Type 0}
    (shows1 : Shows D1 Feed) (sets1 : Sets D1 Feed) (shows2 : Shows D2 Table) (sets2 : Sets D2 Table) (shows3 : Shows D3 Robot) (sets3 : Sets D3 Robot) (shows4 : Shows D4 Press) (sets4 : Sets D4 Press) (shows5 : Shows D5 Deposit) (sets5 : Sets D5 Deposit) (shows6 : Shows D6 Crane) (sets6 : Sets D6 Crane)
    (w : WiredSix (TableProgram F4 g4) (RobotProgram F1 F2 F3 g1 g2 g3) (CraneProgram F5 g5) D1 D2 D3 D4 D5 D6) (gate : Machine → GateOf)
    → WiredRecordsTell shows1 sets1 shows2 sets2 shows3 sets3 shows4 sets4 shows5 sets5 shows6 sets6 w gate
wired-tell {g1 = g1} {g2 = g2} {g3 = g3} {g4 = g4} {g5 = g5} shows1 sets1 shows2 sets2 shows3 sets3 shows4 sets4 shows5 sets5 shows6 sets6 w gate opening tries limit r begin k =
    let i = k.interlock in
    record {
      interlock = i;
      opened = k.opened;
      results = k.results;
      outputs = k.outputs;
      feed = given_as Feed (λ _. feed_steps) shows1 sets1 i tries limit (gate Feed) opening w.feed k.results.feed k.opened k.losing begin.feed k.given.feed.1;
      table = given_as Table (λ t. table_steps t.turn.points (g4.gives t.turn.gauge)) shows2 sets2 i tries limit (gate Table) opening w.table k.results.table k.opened k.losing begin.table k.given.table.1;
      robot = given_as Robot (λ p. robot_steps (robot_scales p.arm1.points p.arm2.points p.rotation.points) (gauges_of (g1.gives p.arm1.gauge) (g2.gives p.arm2.gauge) (g3.gives p.rotation.gauge))) shows3 sets3 i tries limit (gate Robot) opening w.robot k.results.robot k.opened k.losing begin.robot k.given.robot.1;
      press = given_as Press (λ _. press_steps) shows4 sets4 i tries limit (gate Press) opening w.press k.results.press k.opened k.losing begin.press k.given.press.1;
      deposit = given_as Deposit (λ _. deposit_steps) shows5 sets5 i tries limit (gate Deposit) opening w.deposit k.results.deposit k.opened k.losing begin.deposit k.given.deposit.1;
      crane = given_as Crane (λ p. crane_steps p.gripper.points (g5.gives p.gripper.gauge)) shows6 sets6 i tries limit (gate Crane) opening w.crane k.results.crane k.opened k.losing begin.crane k.given.crane.1;
      history = k.history;
      lawful = k.lawful;
      seen = k.seen;
      start = k.start;
      journals = k.journals;
      audited = k.audited;
      end = k.end;
    }

module _ {D1 D2 D3 D4 D5 D6 : Type 0} (c : CellScales) (gives : CellGauges)
    (shows1 : Shows D1 Feed) (sets1 : Sets D1 Feed) (shows2 : Shows D2 Table) (sets2 : Sets D2 Table) (shows3 : Shows D3 Robot) (sets3 : Sets D3 Robot) (shows4 : Shows D4 Press) (sets4 : Sets D4 Press) (shows5 : Shows D5 Deposit) (sets5 : Sets D5 Deposit) (shows6 : Shows D6 Crane) (sets6 : Sets D6 Crane)
    (gate : Machine → GateOf) (devices : SixOf D1 D2 D3 D4 D5 D6) (opening : ModelState) (tries limit : ℕ) (r : WiredRecord D1 D2 D3 D4 D5 D6) (start : IsStartState opening)
    (k : TellsWired c gives shows1 sets1 shows2 sets2 shows3 sets3 shows4 sets4 shows5 sets5 shows6 sets6 devices opening tries limit gate r) where
  -- the six are a team
  abbrev team : WiredTeam c gives shows1 sets1 shows2 sets2 shows3 sets3 shows4 sets4 shows5 sets5 shows6 sets6 tries limit gate
  team = record {
    interlock = k.interlock;
    starts = subst IsStartState (sym k.opened) start;
    feed = record { first = devices.feed; kept = k.results.feed.pass; turns = k.results.feed.output.turns; missed = k.results.feed.output.missed; status = k.results.feed.output.status; devices = k.results.feed.output.devices; ended = k.feed };
    table = record { first = devices.table; kept = k.results.table.pass; turns = k.results.table.output.turns; missed = k.results.table.output.missed; status = k.results.table.output.status; devices = k.results.table.output.devices; ended = k.table };
    robot = record { first = devices.robot; kept = k.results.robot.pass; turns = k.results.robot.output.turns; missed = k.results.robot.output.missed; status = k.results.robot.output.status; devices = k.results.robot.output.devices; ended = k.robot };
    press = record { first = devices.press; kept = k.results.press.pass; turns = k.results.press.output.turns; missed = k.results.press.output.missed; status = k.results.press.output.status; devices = k.results.press.output.devices; ended = k.press };
    deposit = record { first = devices.deposit; kept = k.results.deposit.pass; turns = k.results.deposit.output.turns; missed = k.results.deposit.output.missed; status = k.results.deposit.output.status; devices = k.results.deposit.output.devices; ended = k.deposit };
    crane = record { first = devices.crane; kept = k.results.crane.pass; turns = k.results.crane.output.turns; missed = k.results.crane.output.missed; status = k.results.crane.output.status; devices = k.results.crane.output.devices; ended = k.crane };
    history = k.history;
    legal = subst (λ s. IsLegal s k.history) (sym k.opened) (k.lawful k.history [] (sym (append-nil k.history))).legal;
    feed_seen = k.seen Feed;
    table_seen = k.seen Table;
    robot_seen = k.seen Robot;
    press_seen = k.seen Press;
    deposit_seen = k.seen Deposit;
    crane_seen = k.seen Crane;
  }

  none_refused : NoneIsRefused r
  none_refused =
      let none : NoneEndsRefused c gives shows1 sets1 shows2 sets2 shows3 sets3 shows4 sets4 shows5 sets5 shows6 sets6 tries limit gate team = wired-unrefused c gives shows1 sets1 shows2 sets2 shows3 sets3 shows4 sets4 shows5 sets5 shows6 sets6 gate tries limit team in
      let e = k.outputs in
      record {
        feed = λ f. none.feed (sym (λ i. (e i).feed.status) ∙ f);
        table = λ f. none.table (sym (λ i. (e i).table.status) ∙ f);
        robot = λ f. none.robot (sym (λ i. (e i).robot.status) ∙ f);
        press = λ f. none.press (sym (λ i. (e i).press.status) ∙ f);
        deposit = λ f. none.deposit (sym (λ i. (e i).deposit.status) ∙ f);
        crane = λ f. none.crane (sym (λ i. (e i).crane.status) ∙ f);
      }

pub none-recorded : {D1 D2 D3 D4 D5 D6 : Type 0} (c : CellScales) (gives : CellGauges)
    (shows1 : Shows D1 Feed) (sets1 : Sets D1 Feed) (shows2 : Shows D2 Table) (sets2 : Sets D2 Table) (shows3 : Shows D3 Robot) (sets3 : Sets D3 Robot) (shows4 : Shows D4 Press) (sets4 : Sets D4 Press) (shows5 : Shows D5 Deposit) (sets5 : Sets D5 Deposit) (shows6 : Shows D6 Crane) (sets6 : Sets D6 Crane)
    (gate : Machine → GateOf) → NoneRecordedRefused c gives shows1 sets1 shows2 sets2 shows3 sets3 shows4 sets4 shows5 sets5 shows6 sets6 gate
none-recorded c gives shows1 sets1 shows2 sets2 shows3 sets3 shows4 sets4 shows5 sets5 shows6 sets6 gate devices opening tries limit r start k =
    none_refused c gives shows1 sets1 shows2 sets2 shows3 sets3 shows4 sets4 shows5 sets5 shows6 sets6 gate devices opening tries limit r start k

-- the fourth status is refused
pub refused-found : RefusedIsFound
refused-found r e k =
    let last : List Status = Fine ∷ Fine ∷ Fine ∷ [] in
    let all = subst (All (λ s. s ≢ Refused)) e k in
    All-head (λ s. s ≢ Refused) Refused last
    (All-tail (λ s. s ≢ Refused) Fine (Refused ∷ last) (All-tail (λ s. s ≢ Refused) Fine (Fine ∷ Refused ∷ last) (All-tail (λ s. s ≢ Refused) Fine (Fine ∷ Fine ∷ Refused ∷ last) all))) refl
