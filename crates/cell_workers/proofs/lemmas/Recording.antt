-- What the six workers of a cell gave back, stated for their machines by name; and the record of it.
use Rattle.cell_workers.proofs.Names.{◌≡◌, ℕ, true, List, [], ◌∷◌, Option, Some, None, IfSome, Result, refl, sym, ap, subst, ◌∙◌, Machine, Feed, Table, Robot, Press, Deposit, Crane, Watch, Event, Entry, journal_of, SensorFault, noted, Waits, ModelState, after, IsAudited, LawfulThroughout, PassView, InterlockView, fresh_pass, Rig, Steps, IsReached, with_senses, crane_steps, robot_steps, table_steps, no_counts, Counts, RunRecord, Status, Fine, IsReady, CellScales, table_rig, robot_rig, crane_rig}
use Rattle.cell_workers.proofs.Names.{CellGauges, PartOf, any_near, robot_gauges, robot_points, steps_by, rig_of, SideOf, side_in, sides_at_start, positions_in, Lines, passes, WorkerMoment, worker_moment, GateOf, TakesTurn, AreTaken, HasEnded, IsWorkerResult, AreCountsOf, SixResults, journal_in, outputs_in, seen_in, parts_in, MomentOf, first_moment, TellsAnyWork, TellsWork, has_worker}
use Rattle.cell_control.specs.declared.fault.CtlFault.{CtlFault}
use Rattle.cell_control.proofs.lemmas.StepLemmas.{reached_first}
use Rattle.cell_belts_crane.specs.CraneProgram.{Senses as CraneSenses}
use Rattle.cell_robot.specs.RobotProgram.{Senses as RobotSenses}
use Rattle.cell_table_press.specs.TableProgram.{Senses as TableSenses}
use Rattle.cell_unit.proofs.lemmas.Turning.{acts_still}
use Rattle.cell_plant.proofs.lemmas.Gauged.{GiveAsMuch, table_as, robot_as, crane_as}
use Rattle.cell_parts.specs.declared.parts.feed.FeedPart.{FeedPart}
use Rattle.cell_parts.specs.declared.parts.table.TablePart.{TablePart}
use Rattle.cell_parts.specs.declared.parts.robot.RobotPart.{RobotPart}
use Rattle.cell_parts.specs.declared.parts.press.PressPart.{PressPart}
use Rattle.cell_parts.specs.declared.parts.deposit.DepositPart.{DepositPart}
use Rattle.cell_parts.specs.declared.parts.crane.CranePart.{CranePart}
use Rattle.cell_threads.specs.declared.worker_result.UnitOutput.{UnitOutput}

-- if less is known of the sensors, a worker has still worked
module _ {L S Sense Reading Act State : Type 0} (lines : Lines L) (t : Steps S Sense Reading Act) (rig : Rig State Sense Act) (gate : GateOf) (senses : Sense → Result Reading SensorFault → Type 0) (f : (s : Sense) (r : Result Reading SensorFault) → t.senses s r → senses s r) where
  turn_still : (before now : WorkerMoment L S State) → TakesTurn lines t rig gate before now → TakesTurn lines (with_senses t senses) rig gate before now
  turn_still before now k =
      record {
        runs = k.runs;
        let_in = k.let_in;
        asked = k.asked;
        row = record { set = k.row.set; acts = acts_still t rig senses f _ _ before.side k.row.set k.asked k.row.acts; moved = k.row.moved };
        motor_demands = λ e. let tells = k.motor_demands e in record { act = tells.act; told = tells.told; motor_demands = tells.motor_demands };
        counted = k.counted;
      }

  turns_still : (before : WorkerMoment L S State) (turns : List (WorkerMoment L S State)) → AreTaken (TakesTurn lines t rig gate) before turns → AreTaken (TakesTurn lines (with_senses t senses) rig gate) before turns
  turns_still before [] k = tt
  turns_still before (now ∷ later) k = (turn_still before now k.0, turns_still now later k.1)

-- workers by what gauges may give are workers by what others may give that give as much
module _ (c : CellScales) (gives other : CellGauges) (f : GiveAsMuch c gives other) where
  taken_as : (tries : ℕ) (gate : GateOf) (m : Machine) (before : MomentOf m) (turns : List (MomentOf m))
      → AreTaken (TakesTurn (passes tries) (steps_by c gives m) (rig_of c m) gate) before turns → AreTaken (TakesTurn (passes tries) (steps_by c other m) (rig_of c m) gate) before turns
  taken_as tries gate Feed before turns k = k
  taken_as tries gate Table before turns k =
      turns_still (passes tries) (table_steps c.turn gives.turn) (table_rig c.turn) gate (TableSenses c.turn other.turn) (table_as c.turn gives.turn other.turn f.turn) before turns k
  taken_as tries gate Robot before turns k =
      turns_still (passes tries) (robot_steps (robot_points c) (robot_gauges gives)) (robot_rig (robot_points c)) gate (RobotSenses (robot_points c) (robot_gauges other))
      (robot_as (robot_points c) (robot_gauges gives) (robot_gauges other) f.arm1 f.arm2 f.rotation) before turns k
  taken_as tries gate Press before turns k = k
  taken_as tries gate Deposit before turns k = k
  taken_as tries gate Crane before turns k =
      turns_still (passes tries) (crane_steps c.gripper gives.gripper) (crane_rig c.gripper) gate (CraneSenses c.gripper other.gripper) (crane_as c.gripper gives.gripper other.gripper f.gripper) before turns k
  taken_as tries gate Watch before turns k = k

  ended_as : (tries : ℕ) (gate : GateOf) (limit : ℕ) (m : Machine) (first last : MomentOf m) (status : Status)
      → HasEnded (passes tries) (steps_by c gives m) (rig_of c m) gate limit first last status → HasEnded (passes tries) (steps_by c other m) (rig_of c m) gate limit first last status
  ended_as tries gate limit m first last status k =
      record { come = record { turns = k.come.turns; taken = taken_as tries gate m first k.come.turns k.come.taken; last = k.come.last }; ends = k.ends }

  pub work_as : (opening : ModelState) (tries limit : ℕ) (gate : Machine → GateOf) (r : RunRecord) → TellsWork c gives opening tries limit gate r → TellsWork c other opening tries limit gate r
  work_as opening tries limit gate r k =
      record {
        interlock = k.interlock;
        opened = k.opened;
        last = k.last;
        statuses = k.statuses;
        works = λ m e. ended_as tries (gate m) limit m (first_moment k.interlock m) (k.last m) (k.statuses m) (k.works m e);
        watch_rests = k.watch_rests;
        history = k.history;
        lawful = k.lawful;
        seen = k.seen;
        start = k.start;
        counts = k.counts;
        status = k.status;
        journals = k.journals;
        counted = k.counted;
        audited = k.audited;
        end = k.end;
        axes = k.axes;
      }

-- so they are workers by readings near the lines
pub work_near : (c : CellScales) (gives : CellGauges) (opening : ModelState) (tries limit : ℕ) (gate : Machine → GateOf) (r : RunRecord) → TellsWork c gives opening tries limit gate r → TellsAnyWork c opening tries limit gate r
work_near c gives = work_as c gives (any_near c) (record { arm1 = λ raw v near given. near; arm2 = λ raw v near given. near; rotation = λ raw v near given. near; turn = λ raw v near given. near; gripper = λ raw v near given. near })

-- a result by scales that are the same
pub fitted_result : {T S Sense Reading Act State : Type 0} → (tries : ℕ) (t : T → Steps S Sense Reading Act) (rig : Rig State Sense Act) (gate : GateOf) (limit : ℕ) (first : WorkerMoment PassView S State) (kept : PassView) (journal : List Entry) (did : Counts) (status : Status) (stands : State) (points scale : T)
    → scale ≡ points → IsWorkerResult tries (t points) rig gate limit first kept journal did status stands → IsWorkerResult tries (t scale) rig gate limit first kept journal did status stands
fitted_result tries t rig gate limit first kept journal did status stands points scale e k =
    subst (λ s. IsWorkerResult tries (t s) rig gate limit first kept journal did status stands) (sym e) k

-- a machine at the beginning of its program, with a fresh pass, is ready
pub ready_at_start : {S Sense Reading Act : Type 0} → (t : Steps S Sense Reading Act) (i : InterlockView) (pass : PassView) (stopped : Option CtlFault) (progress : S) → pass ≡ fresh_pass i t.machine → progress ≡ t.start i.opening
    → (pass.machine ≡ t.machine) × IsReady t pass.opening pass.seen stopped progress
ready_at_start t i pass stopped progress e begins = (ap (λ (v : PassView). v.machine) e, λ runs. subst (λ (v : PassView). IsReached t v.opening v.seen progress) (sym e) (reached_first t progress i.opening [] refl begins))

-- what follows from a value, if there is one
pub if_some : {A : Type 0} → (P Q : A → Type 0) → ((x : A) → P x → Q x) → (r : Option A) → IfSome r P → IfSome r Q
if_some P Q f None k = tt
if_some P Q f (Some x) k = f x k

-- what the workers of a cell gave back
abbrev pub CellResults : Type 0
CellResults =
    SixResults (UnitOutput FeedPart) (UnitOutput TablePart) (UnitOutput RobotPart)
    (UnitOutput PressPart) (UnitOutput DepositPart) (UnitOutput CranePart)

-- what a machine's worker gave back, by the machine's name; it began with a fresh pass of the interlock, at its
-- machine's start
abbrev pub IsResultOf : CellScales → CellGauges → InterlockView → ℕ → (Machine → GateOf) → (m : Machine) → PassView
    → List Entry → Counts → Status → PartOf m → Type 0
IsResultOf c gives i limit gate m kept journal did status stands =
    IsWorkerResult i.tries (steps_by c gives m) (rig_of c m) (gate m) limit
    (first_moment i m) kept journal did status stands

-- likewise for each of the six
pub record AreWorkerResults (c : CellScales) (gives : CellGauges) (i : InterlockView) (limit : ℕ)
    (gate : Machine → GateOf) (results : CellResults) : Type 0 where
  pub feed : IsResultOf c gives i limit gate Feed results.feed.pass results.feed.journal.items
      results.feed.output.counts results.feed.output.status results.feed.output.part.belt
  pub table : IsResultOf c gives i limit gate Table results.table.pass results.table.journal.items
      results.table.output.counts results.table.output.status results.table.output.part.plant
  pub robot : IsResultOf c gives i limit gate Robot results.robot.pass results.robot.journal.items
      results.robot.output.counts results.robot.output.status results.robot.output.part.plant
  pub press : IsResultOf c gives i limit gate Press results.press.pass results.press.journal.items
      results.press.output.counts results.press.output.status results.press.output.part
  pub deposit : IsResultOf c gives i limit gate Deposit results.deposit.pass results.deposit.journal.items
      results.deposit.output.counts results.deposit.output.status results.deposit.output.part.belt
  pub crane : IsResultOf c gives i limit gate Crane results.crane.pass results.crane.journal.items
      results.crane.output.counts results.crane.output.status results.crane.output.part.plant

module _ (c : CellScales) (gives : CellGauges) (i : InterlockView) (limit : ℕ) (gate : Machine → GateOf) where
  -- it began with a fresh pass, at the start of its machine
  pub is_result_of : (m : Machine) (pass : PassView) (side : SideOf m) (kept : PassView) (journal : List Entry) (did : Counts) (status : Status) (stands : PartOf m) → pass ≡ fresh_pass i m → side ≡ side_in (sides_at_start i.opening) m
      → IsWorkerResult i.tries (steps_by c gives m) (rig_of c m) (gate pass.machine) limit (worker_moment pass side no_counts) kept journal did status stands → IsResultOf c gives i limit gate m kept journal did status stands
  is_result_of m pass side kept journal did status stands e f k =
      subst (λ s. IsWorkerResult i.tries (steps_by c gives m) (rig_of c m) (gate m) limit (worker_moment (fresh_pass i m) s no_counts) kept journal did status stands) f
      (subst (λ p. IsWorkerResult i.tries (steps_by c gives m) (rig_of c m) (gate p.machine) limit (worker_moment p side no_counts) kept journal did status stands) e k)

  module _ (results : CellResults) (back : AreWorkerResults c gives i limit gate results) (r : RunRecord) where
    abbrev last : (m : Machine) → MomentOf m
    last Feed = back.feed.last
    last Table = back.table.last
    last Robot = back.robot.last
    last Press = back.press.last
    last Deposit = back.deposit.last
    last Crane = back.crane.last
    last Watch = first_moment i Watch

    abbrev statuses : Machine → Status
    statuses Feed = results.feed.output.status
    statuses Table = results.table.output.status
    statuses Robot = results.robot.output.status
    statuses Press = results.press.output.status
    statuses Deposit = results.deposit.output.status
    statuses Crane = results.crane.output.status
    statuses Watch = Fine

    works : (m : Machine) → has_worker m ≡ true → HasEnded (passes i.tries) (steps_by c gives m) (rig_of c m) (gate m) limit (first_moment i m) (last m) (statuses m)
    works Feed e = back.feed.worked
    works Table e = back.table.worked
    works Robot e = back.robot.worked
    works Press e = back.press.worked
    works Deposit e = back.deposit.worked
    works Crane e = back.crane.worked
    works Watch e = cc

    -- what each machine's last pass has seen
    last_seen : (m : Machine) → (last m).line.seen ≡ seen_in results m
    last_seen Feed = ap (λ v. v.seen) back.feed.pass
    last_seen Table = ap (λ v. v.seen) back.table.pass
    last_seen Robot = ap (λ v. v.seen) back.robot.pass
    last_seen Press = ap (λ v. v.seen) back.press.pass
    last_seen Deposit = ap (λ v. v.seen) back.deposit.pass
    last_seen Crane = ap (λ v. v.seen) back.crane.pass
    last_seen Watch = refl

    journal_is : (m : Machine) → journal_in results m ≡ noted i.opening (seen_in results m) m
    journal_is Feed = back.feed.journal_is
    journal_is Table = back.table.journal_is
    journal_is Robot = back.robot.journal_is
    journal_is Press = back.press.journal_is
    journal_is Deposit = back.deposit.journal_is
    journal_is Crane = back.crane.journal_is
    journal_is Watch = refl

    counted : (m : Machine) → AreCountsOf (journal_in results m) (last m).counts
    counted Feed = subst (AreCountsOf results.feed.journal.items) (sym back.feed.counts) back.feed.counted
    counted Table = subst (AreCountsOf results.table.journal.items) (sym back.table.counts) back.table.counted
    counted Robot = subst (AreCountsOf results.robot.journal.items) (sym back.robot.counts) back.robot.counted
    counted Press = subst (AreCountsOf results.press.journal.items) (sym back.press.counts) back.press.counted
    counted Deposit = subst (AreCountsOf results.deposit.journal.items) (sym back.deposit.counts) back.deposit.counted
    counted Crane = subst (AreCountsOf results.crane.journal.items) (sym back.crane.counts) back.crane.counted
    counted Watch = record { done = refl; read = refl; refused = refl }

    -- the record of what they gave back, with the one history
    module _ (history : List Event) (lawful : LawfulThroughout i.opening history) (seen : (m : Machine) → Waits m (seen_in results m) history)
        (journals : (m : Machine) → journal_of r.journals m ≡ noted i.opening (seen_in results m) m) (audited : IsAudited i.opening (journal_of r.journals) r.end history) where
      pub tells : r.start ≡ i.opening → r.end ≡ Some (after i.opening history)
          → r.counts ≡ results.feed.output.counts ∷ results.table.output.counts ∷ results.robot.output.counts ∷ results.press.output.counts ∷ results.deposit.output.counts ∷ results.crane.output.counts ∷ no_counts ∷ []
          → r.status ≡ results.feed.output.status ∷ results.table.output.status ∷ results.robot.output.status ∷ results.press.output.status ∷ results.deposit.output.status ∷ results.crane.output.status ∷ Fine ∷ []
          → r.axes ≡ positions_in (parts_in (outputs_in results)) → TellsWork c gives i.opening i.tries limit gate r
      tells start end counts status axes =
          record {
            interlock = i;
            opened = refl;
            last = last;
            statuses = statuses;
            works = works;
            watch_rests = (refl, refl);
            history = history;
            lawful = lawful;
            seen = λ m. subst (λ h. Waits m h history) (sym (last_seen m)) (seen m);
            start = start;
            counts = counts ∙ (λ x. sym back.feed.counts x ∷ sym back.table.counts x ∷ sym back.robot.counts x ∷ sym back.press.counts x ∷ sym back.deposit.counts x ∷ sym back.crane.counts x ∷ no_counts ∷ []);
            status = status;
            journals = λ m. journals m ∙ ap (λ h. noted i.opening h m) (sym (last_seen m));
            counted = λ m. subst (λ j. AreCountsOf j (last m).counts) (journal_is m ∙ sym (journals m)) (counted m);
            audited = audited;
            end = end;
            axes = axes ∙ (λ x. positions_in (record { feed = sym back.feed.part x; table = sym back.table.part x; robot = sym back.robot.part x; press = sym back.press.part x; deposit = sym back.deposit.part x; crane = sym back.crane.part x }));
          }
