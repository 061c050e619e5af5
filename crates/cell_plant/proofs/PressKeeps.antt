-- The invariant of the press's side: it holds in every state of a run.
use Rattle.cell_plant.proofs.Names.{◌≡◌, pos, ◌≤ℤ◌, Bool, true, false, ◌⊎◌, inl, inr, [], ◌∷◌, Option, Some, None, Result, Ok, Err, refl, sym, ap, ◌∙◌, subst, if◌then◌else◌, arith, ints, false_from_ne_true, Press, Z3, Posture, Closed, Moving, OpenIn, OpenOut, Call, Done, Reply, PressSense, Clash, motor_of, Direction, Motor, Off, Plus, Minus, PressAct, ModelState, IsSound, posture_at, posture_given, reply, changed, IsStartState}
use Rattle.cell_plant.proofs.Names.{LineFault, posture-foreign, posture-changed, Turned, Turns, CtlFault, with_plates, by_plates, after_motor, press_start, press_steps, PressStep, ClaimFirst, MoveToMiddle, PoseMiddle, MoveToBottom, PoseLow, PressProgress, step_motor, act_for, clashes, Finds, PressKnows, press-knowing, act_or_rest, Keeping, turn_tells, Demanding, WhileOn, demanding_while_on, press_end, IsWithin, set_axis, press_at_start}
use Rattle.cell_plant.proofs.Names.{PressShows, IsOn, RestsAtMiddle, RestsAtBottom, DrivesPast, press_rig, Axis, set_press, moved_press}
use Rattle.cell_table_press.specs.Names.{row_at}
use Rattle.cell_table_press.specs.PressProgram.{row_of, after_done}
use Rattle.cell_table_press.proofs.lemmas.PressFacts.{drives_at, press_begins}
use Rattle.cell_plant.proofs.WithinLemmas.{moved_within}

-- what its controller knows of the interlock; it is within its ends, rests where an open posture says, and is at a
-- switch once it was driven there
pub record PressInv (z : ModelState) (p : PressProgress) (a : Axis) : Type 0 where
  pub knows : PressKnows p z
  pub within : IsWithin press_end a.position
  pub open_in : posture_at z Z3 ≡ OpenIn → RestsAtMiddle a
  pub open_out : posture_at z Z3 ≡ OpenOut → RestsAtBottom a
  pub at_middle : p.step ≡ PoseMiddle → RestsAtMiddle a
  pub at_bottom : p.step ≡ PoseLow → RestsAtBottom a

-- at the start
pub press-start : (s : ModelState) → IsStartState s → PressInv s (press_start s) press_at_start
press-start s k =
    let shut : posture_at s Z3 ≡ Closed = ap (λ x. posture_at x Z3) k.same in
    record {
      knows = press_begins s;
      within = omega (arith, ints);
      open_in = λ o. absurd (cc);
      open_out = λ o. absurd (cc);
      at_middle = λ e. cc;
      at_bottom = λ e. cc;
    }

-- once it has moved: it rests if its motor is off, and so stays
middle_moved : (a : Axis) → RestsAtMiddle a → RestsAtMiddle (moved_press a)
middle_moved a r = (r.0, rw r.0 r.1)

bottom_moved : (a : Axis) → RestsAtBottom a → RestsAtBottom (moved_press a)
bottom_moved a r = (r.0, rw r.0 r.1)

-- the posture of its zone after a step's call, if it has one
abbrev after_call : Option Call → Posture → Posture
after_call None q = q
after_call (Some c) q = posture_given Press c Z3 q

-- a Done call that leaves the press open is the pose that opened it, or the press was open before
opened_in : (s : PressStep) (p : PressProgress) (q : Posture) → after_call (row_at s p).call q ≡ OpenIn → (q ≡ OpenIn) ⊎ (s ≡ PoseMiddle)
opened_in PoseMiddle p q o = inr refl
opened_in s p q o = first_of (cc, search inl)

opened_out : (s : PressStep) (p : PressProgress) (q : Posture) → after_call (row_at s p).call q ≡ OpenOut → (q ≡ OpenOut) ⊎ (s ≡ PoseLow)
opened_out PoseLow p q o = inr refl
opened_out s p q o = first_of (cc, search inl)

-- the next step isn't one that is reached by a drive
chosen : (loaded forged : Bool) (p : PressProgress) → (by_plates (with_plates p loaded forged) ≡ PoseMiddle → ⊥) × (by_plates (with_plates p loaded forged) ≡ PoseLow → ⊥)
chosen loaded forged p = grind arith

not_driven : (s : PressStep) (p : PressProgress) (c : Call) → (row_at s p).call ≡ Some c → ((row_at s p).next.step ≡ PoseMiddle → ⊥) × ((row_at s p).next.step ≡ PoseLow → ⊥)
not_driven ClaimFirst p c e = chosen p.loaded p.forged p
not_driven s p c e = (λ q. cc, λ q. cc)

-- the next step of a drive, and when it comes
motor_at_middle : (last : Direction) (b m t : Bool) → (if m then Off else (if b then Plus else (if t then Minus else motor_of last))) ≡ Off → m ≡ true
motor_at_middle last b m t e = grind arith

motor_at_bottom : (b : Bool) → (if b then Off else Minus) ≡ Off → b ≡ true
motor_at_bottom b e = grind arith

driven_to_middle : (s : PressStep) (p : PressProgress) (last : Direction) (x : PressSense) → (row_at s p).call ≡ None → step_motor s last x ≡ Off → (row_at s p).next.step ≡ PoseMiddle → x.middle ≡ true
driven_to_middle MoveToMiddle p last x e m q = motor_at_middle last x.bottom x.middle x.top m
driven_to_middle s p last x e m q = cc

driven_to_bottom : (s : PressStep) (p : PressProgress) (last : Direction) (x : PressSense) → (row_at s p).call ≡ None → step_motor s last x ≡ Off → (row_at s p).next.step ≡ PoseLow → x.bottom ≡ true
driven_to_bottom MoveToBottom p last x e m q = motor_at_bottom x.bottom m
driven_to_bottom s p last x e m q = cc

asks_at : (s : PressStep) (p : PressProgress) → (row_at s p).call ≡ None → (s ≡ PoseMiddle → ⊥) × (s ≡ PoseLow → ⊥)
asks_at MoveToMiddle p e = (λ q. cc, λ q. cc)
asks_at s p e = (λ q. cc, λ q. cc)

module _ (z : ModelState) (p : PressProgress) (a : Axis) (i : PressInv z p a) where
  -- with its motor off
  off : PressInv z p (set_axis a Off)
  off = record {
    knows = i.knows;
    within = i.within;
    open_in = λ o. (refl, (i.open_in o).1);
    open_out = λ o. (refl, (i.open_out o).1);
    at_middle = λ e. (refl, (i.at_middle e).1);
    at_bottom = λ e. (refl, (i.at_bottom e).1);
  }

  -- a call was Done
  rests_middle : (posture_at z Z3 ≡ OpenIn) ⊎ (p.step ≡ PoseMiddle) → RestsAtMiddle (set_axis a Off)
  rests_middle (inl o) = (refl, (i.open_in o).1)
  rests_middle (inr e) = (refl, (i.at_middle e).1)

  rests_bottom : (posture_at z Z3 ≡ OpenOut) ⊎ (p.step ≡ PoseLow) → RestsAtBottom (set_axis a Off)
  rests_bottom (inl o) = (refl, (i.open_out o).1)
  rests_bottom (inr e) = (refl, (i.at_bottom e).1)

  done : (c : Call) → (row_of p).call ≡ Some c → reply z Press c ≡ Done → IsSound z → PressInv (changed z Press c) (after_done p) (set_axis a Off)
  done c e d sound =
      let leads = not_driven p.step p c e in
      let is_after : after_call (row_of p).call (posture_at z Z3) ≡ posture_at (changed z Press c) Z3 = ap (λ x. after_call x (posture_at z Z3)) e ∙ sym (posture-changed z Press c Z3) in
      record {
        knows = press-knowing.after_done p z c e d sound i.knows;
        within = i.within;
        open_in = λ o. rests_middle (opened_in p.step p (posture_at z Z3) (is_after ∙ o));
        open_out = λ o. rests_bottom (opened_out p.step p (posture_at z Z3) (is_after ∙ o));
        at_middle = λ q. absurd (leads.0 q);
        at_bottom = λ q. absurd (leads.1 q);
      }

  -- it was driven
  module _ (x : PressSense) (shows : PressShows a x) (drives : (row_of p).call ≡ None) where
    is_moving : posture_at z Z3 ≡ Moving
    is_moving = (drives_at p.step p z drives i.knows).1

    driven_middle : (m : Motor) → step_motor p.step p.direction x ≡ m → (after_motor p m).step ≡ PoseMiddle → RestsAtMiddle (set_axis a m)
    driven_middle Off e q = (refl, shows.middle.0 (driven_to_middle p.step p p.direction x drives e q))
    driven_middle _ e q = absurd ((asks_at p.step p drives).0 q)

    driven_bottom : (m : Motor) → step_motor p.step p.direction x ≡ m → (after_motor p m).step ≡ PoseLow → RestsAtBottom (set_axis a m)
    driven_bottom Off e q = (refl, shows.bottom.0 (driven_to_bottom p.step p p.direction x drives e q))
    driven_bottom _ e q = absurd ((asks_at p.step p drives).1 q)

    drive : PressInv z (after_motor p (act_for p x).press) (set_press a (act_for p x))
    drive = record {
      knows = press-knowing.after_drive p x (act_for p x) z drives refl i.knows;
      within = i.within;
      open_in = λ o. absurd (cc is_moving);
      open_out = λ o. absurd (cc is_moving);
      at_middle = driven_middle (act_for p x).press refl;
      at_bottom = driven_bottom (act_for p x).press refl;
    }

-- what the checked switches say
checked_by : (b : Bool) (x r : PressSense) → Ok r ≡ (if b then Err Clash else Ok x) → x ≡ r
checked_by b x r e = grind arith

pub press-keeping : Keeping press_steps press_rig PressInv PressInv
press-keeping = record {
  foreign = λ z p b n c apart sound i.
      let same = posture-foreign z n c Z3 apart in
      record {
        knows = press-knowing.foreign p z n c apart sound i.knows;
        within = i.within;
        open_in = λ o. i.open_in (sym same ∙ o);
        open_out = λ o. i.open_out (sym same ∙ o);
        at_middle = i.at_middle;
        at_bottom = i.at_bottom;
      };
  rests = λ z p b i. off z p b i;
  after_done = λ z p b c e d sound i. done z p b i c e d sound;
  after_inquiry = λ z p b c owner flag posture e d sound i. off z p b i;
  after_drive = λ z p b x r act e shows senses drives i.
      let is : x ≡ r = checked_by (clashes x) x r senses in
      subst (λ act. PressInv z (after_motor p act.press) (set_press b act)) (sym drives) (subst (λ y. PressInv z (after_motor p (act_for p y).press) (set_press b (act_for p y))) is (drive z p b i x shows e));
  told = λ z p b i. i;
  moves = λ z p b i. search (arith, ints, moved_within, middle_moved, bottom_moved, i.open_in, i.open_out, i.at_middle, i.at_bottom);
}

-- while its motor is on it holds its interior, which moves
abbrev pub PressMoves : ModelState → PressProgress → Axis → Type 0
PressMoves = WhileOn Press IsOn (λ p. Finds Z3 Moving ∷ [])

pub press-demanding : Demanding press_steps press_rig PressInv PressInv PressMoves
press-demanding =
    demanding_while_on press_steps press_rig PressInv PressInv IsOn (λ p. Finds Z3 Moving ∷ []) (λ p b on. on refl) (λ z p b x r act e shows senses drives i on. (drives_at p.step p z e i.knows, tt)) (λ b on. on)

-- at an end of the axis its switch is on, and the motor isn't commanded to go on
not_down : (s : PressStep) (last : Direction) (x : PressSense) → x.bottom ≡ true → x.middle ≡ false → step_motor s last x ≡ Minus → ⊥
not_down MoveToMiddle last x b m e = grind arith
not_down s last x b m e = grind arith

not_up : (s : PressStep) (last : Direction) (x : PressSense) → x.bottom ≡ false → x.middle ≡ false → x.top ≡ true → step_motor s last x ≡ Plus → ⊥
not_up MoveToMiddle last x b m t e = grind arith
not_up s last x b m t e = grind arith

module _ (a : Axis) (x : PressSense) (shows : PressShows a x) where
  low_end : a.position ≡ pos 0 → (x.bottom ≡ true) × (x.middle ≡ false)
  low_end e = (
    shows.bottom.1 (omega (arith, ints)),
    false_from_ne_true x.middle (λ on. let at : pos 490 ≤ℤ a.position = (shows.middle.0 on).0 in omega (arith, ints)),
  )

  high_end : a.position ≡ pos 1000 → (x.bottom ≡ false) × ((x.middle ≡ false) × (x.top ≡ true))
  high_end e = (
    false_from_ne_true x.bottom (λ on. let at : a.position ≤ℤ pos 10 = shows.bottom.0 on in omega (arith, ints)),
    (
      false_from_ne_true x.middle (λ on. let at : a.position ≤ℤ pos 510 = (shows.middle.0 on).1 in omega (arith, ints)),
      shows.top.1 (omega (arith, ints)),
    ),
  )

  not_past : (p : PressProgress) → ¬ DrivesPast press_end (set_press a (act_for p x))
  not_past p (inl k) = let at = low_end k.0 in not_down p.step p.direction x at.0 at.1 k.1
  not_past p (inr k) = let at = high_end k.0 in not_up p.step p.direction x at.0 at.1.0 at.1.1 k.1

  off_not_past : ¬ DrivesPast press_end (set_axis a Off)
  off_not_past (inl k) = let e : Off ≡ Minus = k.1 in cc
  off_not_past (inr k) = let e : Off ≡ Plus = k.1 in cc

  -- so in no turn is it driven on past an end
  pub press-ends : (same : Type 0) (asks : Call → Result Reply LineFault → Type 0) (stopped : Option CtlFault) (p : PressProgress) (w : Turned PressProgress PressAct) → Turns press_steps same asks stopped p x w
      → ¬ DrivesPast press_end (set_press a (act_or_rest (press_steps.rest p) w.result))
  press-ends same asks stopped p w k =
      turn_tells press_steps same asks p x (λ act. ¬ DrivesPast press_end (set_press a act)) off_not_past
      (λ r act e senses drives. subst (λ y. ¬ DrivesPast press_end (set_press a y)) (ap (act_for p) (checked_by (clashes x) x r senses) ∙ sym drives) (not_past p)) stopped w k
