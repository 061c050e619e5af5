-- A turn that an error ends sets the actuators to rest.
use Rattle.cell_plant.proofs.Names.{◌≡◌, Option, Some, None, Result, Ok, Err, refl, sym, ap, ◌∙◌, subst, Machine, Feed, Call, Reply, LineFault, Rig, Steps, Performed, Turned, Turns, turned, CtlFault, done_in, ActsAndMoves, act_or_rest, noting, part_set, CellScales, SideOf, ProgressOf, PartOf, steps_of, rig_of, IsAtRest, StoppedMachinesRest}
use Rattle.cell_notes.specs.Asks.{TurnCall}
use Rattle.cell_unit.specs.Sides.{Side, Acts}

module _ {S Sense Reading Act : Type 0} (t : Steps S Sense Reading Act) (same : Type 0) (asks : Call → Result Reply LineFault → Type 0) where
  fault_rests : (p : S) (r : Performed S Act) (fault : CtlFault) → (turned p r).stopped ≡ Some fault → act_or_rest (t.rest p) (turned p r).result ≡ t.rest p
  fault_rests p (Ok led) fault e = cc
  fault_rests p (Err cause) fault e = refl

  turn_rests : (stopped : Option CtlFault) (p : S) (s : Sense) (w : Turned S Act) (fault : CtlFault) → Turns t same asks stopped p s w → w.stopped ≡ Some fault → act_or_rest (t.rest p) w.result ≡ t.rest p
  turn_rests None p s w fault k e = subst (λ x. x.stopped ≡ Some fault → act_or_rest (t.rest p) x.result ≡ t.rest p) (sym k.2) (fault_rests p k.0 fault) e
  turn_rests (Some cause) p s w fault k e = subst (λ x. act_or_rest (t.rest p) x.result ≡ t.rest p) (sym k.1) refl

module _ {S Sense Reading Act State : Type 0} (t : Steps S Sense Reading Act) (rig : Rig State Sense Act) (same : Type 0) (asks : Call → Result Reply LineFault → Type 0) where
  set_to_rest : (before set : Side S State) (asked : TurnCall) (fault : CtlFault) → Acts t rig same asks before asked set → set.stopped ≡ Some fault → set.part ≡ part_set t rig before.part asked (t.rest before.progress)
  set_to_rest before set asked fault k e =
      ap (λ x. x.part) k.is ∙ ap (part_set t rig before.part asked) (turn_rests t (same × (asked ≡ None)) (λ c r. asks c r × (asked ≡ Some (c, r))) before.stopped before.progress k.sense k.turned fault k.row (sym (ap (λ x. x.stopped) k.is) ∙ e))

module _ (c : CellScales) where
  set_at_rest : (m : Machine) (p : ProgressOf m) (b : PartOf m) → IsAtRest m p ((rig_of c m).set b ((steps_of c m).rest p))
  set_at_rest Feed p b = refl
  set_at_rest _ p b = assumption

  moved_at_rest : (m : Machine) (p : ProgressOf m) (b : PartOf m) → IsAtRest m p ((rig_of c m).moves ((rig_of c m).set b ((steps_of c m).rest p)))
  moved_at_rest Feed p b = refl
  moved_at_rest _ p b = assumption

  module _ (m : Machine) (same : Type 0) (asks : Call → Result Reply LineFault → Type 0) (before : SideOf m) (asked : TurnCall) (fault : CtlFault) where
    abbrev told : PartOf m
    told = noting (rig_of c m) before.part (done_in (steps_of c m).machine asked)

    pub acts_rest : (set : SideOf m) → Acts (steps_of c m) (rig_of c m) same asks before asked set → set.stopped ≡ Some fault → IsAtRest m before.progress set.part
    acts_rest set k e = subst (IsAtRest m before.progress) (sym (set_to_rest (steps_of c m) (rig_of c m) same asks before set asked fault k e)) (set_at_rest m before.progress told)

    pub moves_rest : (now : SideOf m) → ActsAndMoves (steps_of c m) (rig_of c m) same asks before asked now → now.stopped ≡ Some fault → IsAtRest m before.progress now.part
    moves_rest now k e =
        subst (IsAtRest m before.progress)
        (sym (ap (λ x. x.part) k.moved ∙ ap (rig_of c m).moves (set_to_rest (steps_of c m) (rig_of c m) same asks before k.set asked fault k.acts (sym (ap (λ x. x.stopped) k.moved) ∙ e))))
        (moved_at_rest m before.progress told)

  pub stopped_machines_rest : StoppedMachinesRest c
  stopped_machines_rest = record {
    set = λ m busy w s fault k e. acts_rest m _ _ (w.side m) s.asked fault (s.set.side m) k.takes e;
    moved = λ m busy w s fault k e. moves_rest m _ _ (w.side m) s.asked fault (s.moved.side m) (record { set = s.set.side m; acts = k.takes; moved = k.moved }) e;
  }
