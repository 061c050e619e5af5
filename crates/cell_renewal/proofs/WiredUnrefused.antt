-- A worker with devices of your own stands at a step of its program after each turn, so none of six ends as refused.
use Rattle.cell_renewal.proofs.Names.{◌≡◌, ℕ, ◌+◌, false, inl, inr, Option, None, Result, Ok, Err, refl, sym, ap, ◌∙◌, subst, Machine, Feed, Table, Robot, Press, Deposit, Crane, Watch, same_machine, Call, Reply, LineFault, ModelState, PassView, PassAsks, IsSamePass, Steps, Turned, Turns, answered, CtlFault, Commands, turn_either, CellScales, CellGauges, ProgressOf, steps_by, Stands, Sees, sees_of, stands_on, stands_later, GateOf, ComesBy, all_along, asks_same, unchanged_pass, ended, WiredMoment}
use Rattle.cell_renewal.proofs.Names.{TakesWiredTurn, TakesCycle, Shows, Sets, WiredTeam, NoneEndsRefused, NoWiredWorkerIsRefused}
use Rattle.cell_plant.proofs.lemmas.Standing.{none_refused_by}

-- what a pass sees of its call
seen_after : (tries : ℕ) (m : Machine) (v w : PassView) (c : Call) (r : Result Reply LineFault) → v.machine ≡ m → PassAsks tries v c r w → Sees m c r v.seen w.seen
seen_after tries m v w c (Ok reply) e k = subst (λ n. Sees n c (Ok reply) v.seen w.seen) e (sees_of v.machine c (Ok reply) v.opening v.seen w.seen k.seen)
seen_after tries m v w c (Err why) e k = ap (λ x. x.seen) k

module _ {S Sense Reading Act D : Type 0} (tries : ℕ) (t : Steps S Sense Reading Act) (shows : D → Option Sense → D → Type 0) (sets : D → Commands Act → D → Type 0) (gate : GateOf) (o : ModelState) where
  pub record StandsBy (m : WiredMoment S D) : Type 0 where
    pub machine : m.pass.machine ≡ t.machine
    pub opening : m.pass.opening ≡ o
    pub stands : Stands t o m.pass.seen m.stopped m.progress

  turn_stands : (before now : WiredMoment S D) → TakesWiredTurn tries t shows sets gate before now → StandsBy before → StandsBy now
  turn_stands before now turn k =
      let v = before.pass in
      let w = now.pass in
      let turned : Turned S Act = record { result = answered turn.told.act turn.told.fault; progress = now.progress; stopped = now.stopped } in
      let same : IsSamePass v w = turn_either t (w ≡ v) (λ c r. PassAsks tries v c r w) (IsSamePass v w) (unchanged_pass v w) (asks_same tries v w) before.stopped before.progress turn.sense turned turn.row in
      let row = subst (λ x. Turns t (w ≡ v) (λ c r. PassAsks tries v c r w) x before.progress turn.sense turned) turn.runs turn.row in
      record {
        machine = same.machine ∙ k.machine;
        opening = same.opening ∙ k.opening;
        stands = stands_on t o v.seen w.seen (w ≡ v) (λ c r. PassAsks tries v c r w) (λ h. ap (λ x. x.seen) h) (λ c r h. seen_after tries t.machine v w c r k.machine h) before.progress turn.sense turned row k.stands.come;
      }

  cycle_stands : (before now : WiredMoment S D) → TakesCycle tries t shows sets gate before now → StandsBy before → StandsBy now
  cycle_stands before now (inl turn) k = turn_stands before now turn k
  cycle_stands before now (inr rest) k = subst StandsBy (sym rest.is) (record { machine = k.machine; opening = k.opening; stands = k.stands })

  pub wired_stands : (first last : WiredMoment S D) → ComesBy (TakesCycle tries t shows sets gate) first last → StandsBy first → StandsBy last
  wired_stands first last k f = all_along (TakesCycle tries t shows sets gate) StandsBy cycle_stands first last k f

module _ {D1 D2 D3 D4 D5 D6 : Type 0} (c : CellScales) (gives : CellGauges)
    (shows1 : Shows D1 Feed) (sets1 : Sets D1 Feed) (shows2 : Shows D2 Table) (sets2 : Sets D2 Table) (shows3 : Shows D3 Robot) (sets3 : Sets D3 Robot) (shows4 : Shows D4 Press) (sets4 : Sets D4 Press) (shows5 : Shows D5 Deposit) (sets5 : Sets D5 Deposit) (shows6 : Shows D6 Crane) (sets6 : Sets D6 Crane)
    (gate : Machine → GateOf) (tries limit : ℕ) (team : WiredTeam c gives shows1 sets1 shows2 sets2 shows3 sets3 shows4 sets4 shows5 sets5 shows6 sets6 tries limit gate) where
  abbrev o : ModelState
  o = team.interlock.opening

  abbrev stopped : Machine → Option CtlFault
  stopped Feed = team.feed.ended.stopped
  stopped Table = team.table.ended.stopped
  stopped Robot = team.robot.ended.stopped
  stopped Press = team.press.ended.stopped
  stopped Deposit = team.deposit.ended.stopped
  stopped Crane = team.crane.ended.stopped
  stopped Watch = None

  abbrev progress : (m : Machine) → ProgressOf m
  progress Feed = team.feed.ended.progress
  progress Table = team.table.ended.progress
  progress Robot = team.robot.ended.progress
  progress Press = team.press.ended.progress
  progress Deposit = team.deposit.ended.progress
  progress Crane = team.crane.ended.progress
  progress Watch = (steps_by c gives Watch).start o

  stands : (m : Machine) → same_machine m Watch ≡ false → Stands (steps_by c gives m) o team.history (stopped m) (progress m)
  stands Feed e =
      let t = steps_by c gives Feed in
      let last = wired_stands tries t shows1 sets1 (gate Feed) o _ _ team.feed.ended.come (record { machine = refl; opening = refl; stands = record { come = (0, refl); stopped_by = λ r f. cc; not_again = λ f. cc } }) in
      stands_later t o team.feed.kept.seen team.history team.feed_seen team.feed.ended.stopped team.feed.ended.progress last.stands
  stands Table e =
      let t = steps_by c gives Table in
      let last = wired_stands tries t shows2 sets2 (gate Table) o _ _ team.table.ended.come (record { machine = refl; opening = refl; stands = record { come = (0, refl); stopped_by = λ r f. cc; not_again = λ f. cc } }) in
      stands_later t o team.table.kept.seen team.history team.table_seen team.table.ended.stopped team.table.ended.progress last.stands
  stands Robot e =
      let t = steps_by c gives Robot in
      let last = wired_stands tries t shows3 sets3 (gate Robot) o _ _ team.robot.ended.come (record { machine = refl; opening = refl; stands = record { come = (0, refl); stopped_by = λ r f. cc; not_again = λ f. cc } }) in
      stands_later t o team.robot.kept.seen team.history team.robot_seen team.robot.ended.stopped team.robot.ended.progress last.stands
  stands Press e =
      let t = steps_by c gives Press in
      let last = wired_stands tries t shows4 sets4 (gate Press) o _ _ team.press.ended.come (record { machine = refl; opening = refl; stands = record { come = (0, refl); stopped_by = λ r f. cc; not_again = λ f. cc } }) in
      stands_later t o team.press.kept.seen team.history team.press_seen team.press.ended.stopped team.press.ended.progress last.stands
  stands Deposit e =
      let t = steps_by c gives Deposit in
      let last = wired_stands tries t shows5 sets5 (gate Deposit) o _ _ team.deposit.ended.come (record { machine = refl; opening = refl; stands = record { come = (0, refl); stopped_by = λ r f. cc; not_again = λ f. cc } }) in
      stands_later t o team.deposit.kept.seen team.history team.deposit_seen team.deposit.ended.stopped team.deposit.ended.progress last.stands
  stands Crane e =
      let t = steps_by c gives Crane in
      let last = wired_stands tries t shows6 sets6 (gate Crane) o _ _ team.crane.ended.come (record { machine = refl; opening = refl; stands = record { come = (0, refl); stopped_by = λ r f. cc; not_again = λ f. cc } }) in
      stands_later t o team.crane.kept.seen team.history team.crane_seen team.crane.ended.stopped team.crane.ended.progress last.stands
  stands Watch e = cc

  none_ends : NoneEndsRefused c gives shows1 sets1 shows2 sets2 shows3 sets3 shows4 sets4 shows5 sets5 shows6 sets6 tries limit gate team
  none_ends = record {
    feed = ended (gate Feed) limit (team.feed.turns + team.feed.missed) team.feed.ended.stopped team.feed.status team.feed.ended.ends (none_refused_by c gives o team.history stopped progress team.starts team.legal stands Feed refl) (stands Feed refl).not_again;
    table = ended (gate Table) limit (team.table.turns + team.table.missed) team.table.ended.stopped team.table.status team.table.ended.ends (none_refused_by c gives o team.history stopped progress team.starts team.legal stands Table refl) (stands Table refl).not_again;
    robot = ended (gate Robot) limit (team.robot.turns + team.robot.missed) team.robot.ended.stopped team.robot.status team.robot.ended.ends (none_refused_by c gives o team.history stopped progress team.starts team.legal stands Robot refl) (stands Robot refl).not_again;
    press = ended (gate Press) limit (team.press.turns + team.press.missed) team.press.ended.stopped team.press.status team.press.ended.ends (none_refused_by c gives o team.history stopped progress team.starts team.legal stands Press refl) (stands Press refl).not_again;
    deposit = ended (gate Deposit) limit (team.deposit.turns + team.deposit.missed) team.deposit.ended.stopped team.deposit.status team.deposit.ended.ends (none_refused_by c gives o team.history stopped progress team.starts team.legal stands Deposit refl) (stands Deposit refl).not_again;
    crane = ended (gate Crane) limit (team.crane.turns + team.crane.missed) team.crane.ended.stopped team.crane.status team.crane.ended.ends (none_refused_by c gives o team.history stopped progress team.starts team.legal stands Crane refl) (stands Crane refl).not_again;
  }

pub wired-unrefused : {D1 D2 D3 D4 D5 D6 : Type 0} (c : CellScales) (gives : CellGauges)
    (shows1 : Shows D1 Feed) (sets1 : Sets D1 Feed) (shows2 : Shows D2 Table) (sets2 : Sets D2 Table) (shows3 : Shows D3 Robot) (sets3 : Sets D3 Robot) (shows4 : Shows D4 Press) (sets4 : Sets D4 Press) (shows5 : Shows D5 Deposit) (sets5 : Sets D5 Deposit) (shows6 : Shows D6 Crane) (sets6 : Sets D6 Crane)
    (gate : Machine → GateOf) → NoWiredWorkerIsRefused c gives shows1 sets1 shows2 sets2 shows3 sets3 shows4 sets4 shows5 sets5 shows6 sets6 gate
wired-unrefused c gives shows1 sets1 shows2 sets2 shows3 sets3 shows4 sets4 shows5 sets5 shows6 sets6 gate tries limit team = none_ends c gives shows1 sets1 shows2 sets2 shows3 sets3 shows4 sets4 shows5 sets5 shows6 sets6 gate tries limit team
