-- Each machine's invariant holds of its side in every state of a run.
use Rattle.cell_plant.proofs.Names.{◌≡◌, Bool, true, false, None, refl, sym, ap, ◌∙◌, subst, Machine, Feed, same_machine, one_machine, ModelState, IsSound, RunsClear, clear_next, next_keeps, none_runs, Keeping, Changes, takes_keeps, takes_changes, others_keep, by_call, CellScales, CellGauges, ProgressOf, PartOf, any_near, steps_by, steps_of, rig_of, SideOf, CellState, Step, TakesTurn, LeadsIfBy, goes_on}

-- a turn that is taken or not, by gauges that may give any position near their lines
abbrev pub LeadsIf : Bool → CellScales → Machine → Bool → CellState → Step → Type 0
LeadsIf taken c = LeadsIfBy taken c (any_near c)

-- each program is its machine's
pub own_program_by : (c : CellScales) (gives : CellGauges) (m : Machine) → (steps_by c gives m).machine ≡ m
own_program_by c gives Feed = refl
own_program_by c gives _ = refl

pub own_program : (c : CellScales) (m : Machine) → (steps_of c m).machine ≡ m
own_program c m = own_program_by c (any_near c) m

module _ (c : CellScales) (InvOf ToldOf : (m : Machine) → ModelState → ProgressOf m → PartOf m → Type 0) (keeping : (m : Machine) → Keeping (steps_of c m) (rig_of c m) (InvOf m) (ToldOf m)) where
  abbrev Holds : (n : Machine) → ModelState → SideOf n → Type 0
  Holds n z side = InvOf n z side.progress side.part

  -- the interlock is sound, its belts run clear, and each machine's invariant holds
  pub record CellInv (w : CellState) : Type 0 where
    pub sound : IsSound w.interlock
    pub clear : RunsClear w.interlock
    pub each : (n : Machine) → Holds n w.interlock (w.side n)

  changes : (m : Machine) (busy : Bool) (w : CellState) (s : Step) → TakesTurn c m busy w s → Changes w.interlock m s.set.interlock
  changes m busy w s k =
      subst (λ x. Changes w.interlock x s.set.interlock) (own_program c m)
      (takes_changes (steps_of c m) (rig_of c m) busy w.interlock s.set.interlock (w.side m) (s.set.side m) s.asked k.takes)

  -- once the actuators are set: the machine's own side, and the others
  own_told : (m : Machine) (busy : Bool) (w : CellState) (s : Step) → TakesTurn c m busy w s → (w.side m).stopped ≡ None → CellInv w → ToldOf m s.set.interlock (s.set.side m).progress (s.set.side m).part
  own_told m busy w s k runs i = takes_keeps (steps_of c m) (rig_of c m) (InvOf m) (ToldOf m) (keeping m) busy w.interlock s.set.interlock (w.side m) (s.set.side m) s.asked k.takes runs i.sound (i.each m)

  own_side : (m n : Machine) (busy : Bool) (w : CellState) (s : Step) → m ≡ n → TakesTurn c m busy w s → (w.side m).stopped ≡ None → CellInv w → Holds n s.set.interlock (s.set.side n)
  own_side m n busy w s e k runs i = subst (λ x. Holds x s.set.interlock (s.set.side x)) e ((keeping m).told s.set.interlock (s.set.side m).progress (s.set.side m).part (own_told m busy w s k runs i))

  other_side : (m n : Machine) (busy : Bool) (w : CellState) (s : Step) → same_machine m n ≡ false → TakesTurn c m busy w s → CellInv w → Holds n s.set.interlock (s.set.side n)
  other_side m n busy w s apart k i =
      subst (λ x. Holds n s.set.interlock x) (sym (k.others_set n apart))
      (others_keep (steps_of c n) (rig_of c n) (InvOf n) (ToldOf n) (keeping n) w.interlock s.set.interlock m (w.side n).progress (w.side n).part (ap (same_machine m) (own_program c n) ∙ apart) (changes m busy w s k) i.sound (i.each n))

  by_machine : (b : Bool) (m n : Machine) (busy : Bool) (w : CellState) (s : Step) → same_machine m n ≡ b → TakesTurn c m busy w s → (w.side m).stopped ≡ None → CellInv w → Holds n s.set.interlock (s.set.side n)
  by_machine true m n busy w s e k runs i = own_side m n busy w s (one_machine m n e) k runs i
  by_machine false m n busy w s e k runs i = other_side m n busy w s e k i

  pub set_keeps : (m : Machine) (busy : Bool) (w : CellState) (s : Step) → TakesTurn c m busy w s → (w.side m).stopped ≡ None → CellInv w → CellInv s.set
  set_keeps m busy w s k runs i = record {
    sound = by_call IsSound w.interlock m s.set.interlock (changes m busy w s k) i.sound (λ call. next_keeps w.interlock m call i.sound);
    clear = by_call RunsClear w.interlock m s.set.interlock (changes m busy w s k) i.clear (λ call. clear_next w.interlock m call i.clear);
    each = λ n. by_machine (same_machine m n) m n busy w s refl k runs i;
  }

  -- once the part has moved
  own_moved : (m n : Machine) (busy : Bool) (w : CellState) (s : Step) → m ≡ n → TakesTurn c m busy w s → (w.side m).stopped ≡ None → CellInv w → Holds n s.set.interlock (s.moved.side n)
  own_moved m n busy w s e k runs i =
      subst (λ x. Holds x s.set.interlock (s.moved.side x)) e
      (subst (λ x. Holds m s.set.interlock x) (sym k.moved) ((keeping m).moves s.set.interlock (s.set.side m).progress (s.set.side m).part (own_told m busy w s k runs i)))

  moved_by : (b : Bool) (m n : Machine) (busy : Bool) (w : CellState) (s : Step) → same_machine m n ≡ b → TakesTurn c m busy w s → (w.side m).stopped ≡ None → CellInv w → CellInv s.set → Holds n s.set.interlock (s.moved.side n)
  moved_by true m n busy w s e k runs i set = own_moved m n busy w s (one_machine m n e) k runs i
  moved_by false m n busy w s e k runs i set = subst (λ x. Holds n s.set.interlock x) (sym (k.others_moved n e)) (set.each n)

  pub moved_keeps : (m : Machine) (busy : Bool) (w : CellState) (s : Step) → TakesTurn c m busy w s → (w.side m).stopped ≡ None → CellInv w → CellInv s.set → CellInv s.moved
  moved_keeps m busy w s k runs i set = record {
    sound = subst IsSound (sym k.interlock) set.sound;
    clear = subst RunsClear (sym k.interlock) set.clear;
    each = λ n. subst (λ z. Holds n z (s.moved.side n)) (sym k.interlock) (moved_by (same_machine m n) m n busy w s refl k runs i set);
  }

  -- a step keeps the invariants, in both of its states
  pub step_keeps : (b : Bool) (m : Machine) (busy : Bool) (w : CellState) (s : Step) → goes_on w m ≡ b → LeadsIf b c m busy w s → CellInv w → CellInv s.set × CellInv s.moved
  step_keeps true m busy w s e k i =
      let runs = none_runs (w.side m).stopped e in
      let set = set_keeps m busy w s k runs i in
      (set, moved_keeps m busy w s k runs i set)
  step_keeps false m busy w s e k i = (subst CellInv (sym k.set) i, subst CellInv (sym k.moved) i)
