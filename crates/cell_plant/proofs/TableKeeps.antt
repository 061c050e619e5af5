-- The invariant of the table's side: it holds in every state of a run.
use Rattle.cell_plant.proofs.Names.{◌≡◌, pos, Bool, true, ◌&&◌, ◌⊎◌, inl, inr, [], ◌∷◌, Option, Some, None, Result, Ok, refl, sym, ap, ◌∙◌, subst, if◌then◌else◌, arith, ints, Z1, Z2, Posture, Moving, OpenIn, Call, Done, Reply, Scale, IsNear, IsReading, TableSense, Motor, Off, Plus, Minus, TableAct, ModelState, IsStartState, IsSound, posture_at, reply, changed, next, posture_given, LineFault, posture-foreign, posture-changed}
use Rattle.cell_plant.proofs.Names.{with_plate, by_plate, after_act, rotation_stop, table_start, table_steps, TableStep, MoveToLoading, PoseLoading, TableProgress, TableReading, IsAxisScale, IsWithin, lift_end, turn_end, table_at_start, set_axis, TableMoves, DrivesPast, RestsAtLoading, table_rig, TablePlant, set_table, moved_table, Turned, Turns, CtlFault, height_for, Finds, TableKnows, table-knowing, act_or_rest, Keeping, turn_tells, Demanding, WhileOn, demanding_while_on, TableShows}
use Rattle.cell_types.specs.declared.machine.Machine.TheVariants.{Table as TableMachine}
use Rattle.cell_table_press.specs.Names.{row_of, after_done, is_off, Senses, Acts}
use Rattle.cell_table_press.specs.declared.table.TableStep.TheVariants.{ClaimExit}
use Rattle.cell_table_press.specs.TableProgram.{row_at}
use Rattle.cell_table_press.proofs.lemmas.TableFacts.{drives_at, table_begins}
use Rattle.cell_plant.proofs.Stops.{reading_near, StopsWithin, off_within, driven_within}
use Rattle.cell_plant.proofs.WithinLemmas.{moved_within}

abbrev at_rest_act : TableAct
at_rest_act = record { height = Off; rotation = Off }

-- what its step knows of the interlock; it is within its ends; and it is ready to load while it is open to the feed
-- belt, and before it opens
pub record TableInv (z : ModelState) (p : TableProgress) (t : TablePlant) : Type 0 where
  pub knows : TableKnows p z
  pub lift_within : IsWithin lift_end t.lift.position
  pub turn_within : IsWithin turn_end t.turn.position
  pub open_in : posture_at z Z1 ≡ OpenIn → RestsAtLoading t
  pub settled : p.step ≡ PoseLoading → RestsAtLoading t

pub off_stands : (t : TablePlant) → t.lift.motor ≡ Off → t.turn.motor ≡ Off → ¬ TableMoves t
off_stands t a b (inl on) = on a
off_stands t a b (inr on) = on b

pub table-start : (s : ModelState) → IsStartState s → TableInv s (table_start s) table_at_start
table-start s k =
    let rests : RestsAtLoading table_at_start = record { lift_off = refl; turn_off = refl; bottom = omega (arith, ints); turned = omega (arith, ints) } in
    record {
      knows = table_begins s;
      lift_within = omega (arith, ints);
      turn_within = omega (arith, ints);
      open_in = λ o. rests;
      settled = λ e. rests;
    }

-- with its motors off it stays where it is
rests-off : (t : TablePlant) → RestsAtLoading t → RestsAtLoading (set_table t at_rest_act)
rests-off t r = assumption

-- its part moves: if it rests, it stays
rests-moved : (t : TablePlant) → RestsAtLoading t → RestsAtLoading (moved_table t)
rests-moved t r = record { lift_off = r.lift_off; turn_off = r.turn_off; bottom = rw r.lift_off r.bottom; turned = rw r.turn_off r.turned }

-- the posture of its zone to the feed belt after a step's call, if it has one
abbrev after_call : Option Call → Posture → Posture
after_call None q = q
after_call (Some c) q = posture_given TableMachine c Z1 q

-- among the calls of its steps only the one at the loading place opens the table to the feed belt
opened : (s : TableStep) (p : TableProgress) (q : Posture) (R : Type 0) → (q ≡ OpenIn → R) → (s ≡ PoseLoading → R) → after_call (row_at s p).call q ≡ OpenIn → R
opened PoseLoading p q R f g o = g refl
opened s p q R f g o = first_of (cc, search)

-- none of these calls leads to that step
choice_elsewhere : (loaded : Bool) (p : TableProgress) → by_plate (with_plate p loaded) ≡ PoseLoading → ⊥
choice_elsewhere loaded p q = grind arith

led_elsewhere : (s : TableStep) (p : TableProgress) (c : Call) → (row_at s p).call ≡ Some c → (row_at s p).next.step ≡ PoseLoading → ⊥
led_elsewhere ClaimExit p c e q = choice_elsewhere p.loaded p q
led_elsewhere s p c e q = cc

-- the reading is within the tolerance of the table's rotation
turn_near : (points : Scale) (t : TablePlant) (s : TableSense) (r : TableReading) → IsAxisScale turn_end points → IsWithin turn_end t.turn.position → TableShows points t s → Senses points (IsReading points) s (Ok r) → IsNear r.turn t.turn.position points.tol
turn_near points t s r k within shows senses = reading_near turn_end points t.turn.position s.turn r.turn k within shows.raw senses.near

off_at_bottom : (b : Bool) → (if b then Off else Minus) ≡ Off → b ≡ true
off_at_bottom b e = grind arith

both_off : (a b : Motor) → (is_off a && is_off b) ≡ true → (a ≡ Off) × (b ≡ Off)
both_off a b e = grind arith

-- a table that moves to the feed belt is ready to load once its motors go off there
rests-loading : (points : Scale) (t : TablePlant) (s : TableSense) (r : TableReading) (act : TableAct) → IsAxisScale turn_end points → IsWithin turn_end t.turn.position → TableShows points t s → Senses points (IsReading points) s (Ok r) → Acts points MoveToLoading r act
    → (act.height ≡ Off) × (act.rotation ≡ Off) → RestsAtLoading (set_table t act)
rests-loading points t s r act k within shows senses acts off =
    record {
      lift_off = off.0;
      turn_off = off.1;
      bottom = shows.bottom.0 (off_at_bottom s.bottom (ap (λ x. height_for MoveToLoading x) (sym senses.switches) ∙ sym acts.height ∙ off.0));
      turned = let near = turn_near points t s r k within shows senses in let there = acts.rotation.off.0 off.1 in omega (arith, ints);
    }

led_by : (b : Bool) (s : TableStep) (loaded : Bool) → (row_of (record { step = s; loaded = loaded })).call ≡ None → (if b then after_done (record { step = s; loaded = loaded }) else record { step = s; loaded = loaded }).step ≡ PoseLoading → (b ≡ true) × (s ≡ MoveToLoading)
led_by true MoveToLoading loaded e q = (refl, refl)
led_by b s loaded e q = cc

at_rest : (z : ModelState) (p : TableProgress) (t : TablePlant) → TableInv z p t → TableInv z p (set_table t at_rest_act)
at_rest z p t i = search (rests-off, i.open_in, i.settled)

module _ (points : Scale) (axis : IsAxisScale turn_end points) where
  done : (z : ModelState) (p : TableProgress) (t : TablePlant) (c : Call) → (row_of p).call ≡ Some c → reply z TableMachine c ≡ Done → IsSound z → TableInv z p t → TableInv (changed z TableMachine c) (after_done p) (set_table t at_rest_act)
  done z p t c e d sound i = record {
    knows = (table-knowing points (IsReading points)).after_done p z c e d sound i.knows;
    lift_within = i.lift_within;
    turn_within = i.turn_within;
    open_in = λ o. rests-off t (opened p.step p (posture_at z Z1) (RestsAtLoading t) i.open_in i.settled (ap (λ x. after_call x (posture_at z Z1)) e ∙ sym (posture-changed z TableMachine c Z1) ∙ o));
    settled = λ q. absurd (led_elsewhere p.step p c e q);
  }

  drive : (z : ModelState) (p : TableProgress) (t : TablePlant) (s : TableSense) (r : TableReading) (act : TableAct) → (row_of p).call ≡ None → TableShows points t s → Senses points (IsReading points) s (Ok r) → Acts points p.step r act → TableInv z p t
      → TableInv z (after_act p act) (set_table t act)
  drive z p t s r act e shows senses acts i = record {
    knows = (table-knowing points (IsReading points)).after_drive p r act z e acts i.knows;
    lift_within = i.lift_within;
    turn_within = i.turn_within;
    open_in = λ o. absurd (cc (drives_at p.step p z e i.knows).1.0);
    settled = λ q.
        let led = led_by (is_off act.height && is_off act.rotation) p.step p.loaded e q in
        rests-loading points t s r act axis i.turn_within shows senses (subst (λ x. Acts points x r act) led.1 acts) (both_off act.height act.rotation led.0);
  }

  pub table-keeping : Keeping (table_steps points (IsReading points)) (table_rig points) TableInv TableInv
  table-keeping = record {
    foreign = λ z p b n c apart sound i. assumption ((table-knowing points (IsReading points)).foreign p z n c apart sound i.knows, λ (o : posture_at (next z n c) Z1 ≡ OpenIn). i.open_in (sym (posture-foreign z n c Z1 apart) ∙ o));
    rests = λ z p b i. at_rest z p b i;
    after_done = λ z p b c e d sound i. done z p b c e d sound i;
    after_inquiry = λ z p b c owner flag posture e d sound i. at_rest z p b i;
    after_drive = λ z p b s r act e shows senses drives i. drive z p b s r act e shows senses drives i;
    told = λ z p b i. i;
    moves = λ z p b i. search (arith, ints, moved_within, rests-moved, i.open_in, i.settled);
  }

-- while it moves it holds both its zones, which move
abbrev pub TableDrives : ModelState → TableProgress → TablePlant → Type 0
TableDrives = WhileOn TableMachine TableMoves (λ p. Finds Z1 Moving ∷ Finds Z2 Moving ∷ [])

pub table-demanding : (points : Scale) → Demanding (table_steps points (IsReading points)) (table_rig points) TableInv TableInv TableDrives
table-demanding points =
    demanding_while_on (table_steps points (IsReading points)) (table_rig points) TableInv TableInv TableMoves (λ p. Finds Z1 Moving ∷ Finds Z2 Moving ∷ []) (λ p b on. off_stands (set_table b at_rest_act) refl refl on)
    (λ z p b s r act e shows senses drives i on. let at = drives_at p.step p z e i.knows in ((at.0.0, at.1.0), ((at.0.1, at.1.1), tt))) (λ b on. on)

-- No turn of the table drives it on past an end: the height by its switches, the rotation by its reading, which is
-- within the tolerance.
abbrev DrivesOut : TablePlant → Type 0
DrivesOut t = DrivesPast lift_end t.lift ⊎ DrivesPast turn_end t.turn

table_off_within : (t : TablePlant) → DrivesOut (set_table t at_rest_act) → ⊥
table_off_within t (inl past) = off_within lift_end (set_table t at_rest_act).lift refl past
table_off_within t (inr past) = off_within turn_end (set_table t at_rest_act).turn refl past

-- the height goes down only if it isn't at the bottom, and up only if it isn't at the top
lowered : (s : TableStep) (x : TableSense) → height_for s x ≡ Minus → x.bottom ≡ true → ⊥
lowered MoveToLoading x e b = grind arith
lowered s x e b = grind arith

raised : (s : TableStep) (x : TableSense) → height_for s x ≡ Plus → x.top ≡ true → ⊥
raised MoveToLoading x e b = grind arith
raised s x e b = grind arith

lift_stays : (points : Scale) (t : TablePlant) (s : TableStep) (x : TableSense) (m : Motor) → TableShows points t x → m ≡ height_for s x → DrivesPast lift_end (set_axis t.lift m) → ⊥
lift_stays points t s x m shows e (inl past) =
    let low : t.lift.position ≡ pos 0 = past.0 in
    lowered s x (sym e ∙ past.1) (shows.bottom.1 (omega (arith, ints)))
lift_stays points t s x m shows e (inr past) =
    let high : t.lift.position ≡ pos 600 = past.0 in
    raised s x (sym e ∙ past.1) (shows.top.1 (omega (arith, ints)))

-- the rotation is driven to a place between its ends
stops_within : (s : TableStep) → StopsWithin turn_end (rotation_stop s)
stops_within MoveToLoading = omega (arith, ints)
stops_within _ = omega (arith, ints)

module _ (points : Scale) (axis : IsAxisScale turn_end points) (t : TablePlant) (within : IsWithin turn_end t.turn.position) (s : TableSense) (shows : TableShows points t s) where
  acts_within : (p : TableProgress) (r : TableReading) (act : TableAct) → Senses points (IsReading points) s (Ok r) → Acts points p.step r act → DrivesOut (set_table t act) → ⊥
  acts_within p r act senses acts (inl past) = lift_stays points t p.step s act.height shows (acts.height ∙ ap (λ x. height_for p.step x) senses.switches) past
  acts_within p r act senses acts (inr past) = driven_within turn_end points t.turn (rotation_stop p.step) r.turn act.rotation axis (turn_near points t s r axis within shows senses) (stops_within p.step) acts.rotation past

  -- so in no turn is an axis driven on past an end
  pub table-ends : (same : Type 0) (asks : Call → Result Reply LineFault → Type 0) (stopped : Option CtlFault) (p : TableProgress) (w : Turned TableProgress TableAct) → Turns (table_steps points (IsReading points)) same asks stopped p s w
      → ¬ DrivesOut (set_table t (act_or_rest at_rest_act w.result))
  table-ends same asks stopped p w k = turn_tells (table_steps points (IsReading points)) same asks p s (λ act. ¬ DrivesOut (set_table t act)) (table_off_within t) (λ r act e senses drives. acts_within p r act senses drives) stopped w k
