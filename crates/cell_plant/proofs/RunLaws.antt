-- What a record says of a simulated run.
use Rattle.cell_plant.proofs.Names.{◌≡◌, ◌≤◌, ◌+◌, ℕ, Bool, true, false, ◌&&◌, cond, List, [], ◌∷◌, ◌++◌, length, count_by, Option, Some, None, is_none, refl, sym, ap, ◌∙◌, subst, arith, Machine, same_machine, one_machine, Turn, CellScales, CellGauges, CellState, Step, IsRunBy, LeadsIfBy, goes_on, end_of, is_turn_of, sum_by-cons}
use Rattle.cell_control.specs.declared.fault.CtlFault.{CtlFault}
use Rattle.cell_plant.proofs.FineRuns.{stays}
use Rattle.cell_plant.proofs.LongerRuns.{counts-push, end-push, events-push, run-push}
use Rattle.cell_plant.proofs.SafeRuns.{every_run}
use Rattle.cell_plant.proofs.Watched.{frames_push}
use Rattle.cell_plant.specs.Machines.{any_near}
use Rattle.cell_rules.specs.Names.{ModelState}
use Rattle.cell_plant.specs.CellStates.{cell_at_start}
use Rattle.cell_plant.specs.Runs.{LeadsBy}
use Rattle.cell_plant.specs.Safety.{IsSafeRun, IsSafeState, IsSafelySet}
use Rattle.cell_plant.specs.RunLaws.{ComesTo, EndsSafely, RunsAreTold, RunsGrow, turns_of}

-- the first of a list counts for one if it passes
first-counts : {X : Type 0} (p : X → Bool) (x : X) (xs : List X) (b : Bool) → p x ≡ b → count_by p (x ∷ xs) ≡ cond b 1 0 + count_by p xs
first-counts p x xs b e = sum_by-cons (λ y. cond (p y) 1 0) x xs ∙ ap (λ a. cond a 1 0 + count_by p xs) e

some-fault : (stopped : Option CtlFault) → is_none stopped ≡ false → (f : CtlFault) × (stopped ≡ Some f)
some-fault None e = absurd (cc)
some-fault (Some f) e = (f, refl)

both-false : (a b : Bool) → a ≡ false → (a && b) ≡ false
both-false a b e = rw e refl

other-false : (a b : Bool) → b ≡ false → (a && b) ≡ false
other-false true b e = e
other-false false b e = refl

module _ (c : CellScales) (gives : CellGauges) (m : Machine) where
  -- a step's turn is its machine's turn of the schedule, if it was taken
  is-turn : (t : Turn) (s : Step) (taken one : Bool) → s.machine ≡ t.machine → s.taken ≡ taken → same_machine t.machine m ≡ one → is_turn_of m s ≡ (taken && one)
  is-turn t s taken one same e f = rw (same, e, f) refl

  -- a machine that isn't stopped at the end had each of its turns
  counts-one : (w : CellState) (t : Turn) (ts : List Turn) (s : Step) (ss : List Step) (goes one : Bool) → goes_on w t.machine ≡ goes → same_machine t.machine m ≡ one
      → s.machine ≡ t.machine → LeadsIfBy goes c gives t.machine t.busy w s → IsRunBy c gives s.moved ts ss → ((end_of s.moved ss).side m).stopped ≡ None → is_turn_of m s ≡ one
  counts-one w t ts s ss true one g e same k run fine = is-turn t s true one same k.taken e
  counts-one w t ts s ss false false g e same k run fine = is-turn t s false false same k.not_taken e
  counts-one w t ts s ss false true g e same k run fine =
      let fault = some-fault (w.side t.machine).stopped g in
      let moved : (s.moved.side t.machine).stopped ≡ Some fault.0 = ap (λ (x : CellState). (x.side t.machine).stopped) k.moved ∙ fault.1 in
      let last : ((end_of s.moved ss).side t.machine).stopped ≡ Some fault.0 = stays c gives s.moved ts ss t.machine fault.0 run moved in
      let own : ((end_of s.moved ss).side m).stopped ≡ Some fault.0 = subst (λ x. ((end_of s.moved ss).side x).stopped ≡ Some fault.0) (one_machine t.machine m e) last in
      let lie : None ≡ Some fault.0 = sym fine ∙ own in
      cc

  had-all : (w : CellState) (ts : List Turn) (ss : List Step) → IsRunBy c gives w ts ss → ((end_of w ss).side m).stopped ≡ None → count_by (is_turn_of m) ss ≡ turns_of m ts
  had-all w [] [] run fine = refl
  had-all w (t ∷ ts) (s ∷ ss) run fine =
      let one = counts-one w t ts s ss (goes_on w t.machine) (same_machine t.machine m) refl refl run.0 run.1.0 run.1.1 fine in
      first-counts (is_turn_of m) s ss (same_machine t.machine m) one
      ∙ ap (λ n. cond (same_machine t.machine m) 1 0 + n) (had-all s.moved ts ss run.1.1 fine)
      ∙ sym (first-counts (λ (x : Turn). same_machine x.machine m) t ts (same_machine t.machine m) refl)
  had-all w _ _ run fine = absurd run

  -- no machine has more turns than the schedule gives it
  at-most-one : (taken one : Bool) (few many : ℕ) → few ≤ many → cond (taken && one) 1 0 + few ≤ cond one 1 0 + many
  at-most-one true true few many h = omega (arith, h)
  at-most-one false true few many h = omega (arith, h)
  at-most-one true false few many h = omega (arith, h)
  at-most-one false false few many h = omega (arith, h)

  had-no-more : (w : CellState) (ts : List Turn) (ss : List Step) → IsRunBy c gives w ts ss → count_by (is_turn_of m) ss ≤ turns_of m ts
  had-no-more w [] [] run = omega arith
  had-no-more w (t ∷ ts) (s ∷ ss) run =
      let one = same_machine t.machine m in
      let few = first-counts (is_turn_of m) s ss (s.taken && one) (is-turn t s s.taken one run.0 refl refl) in
      let many = first-counts (λ (x : Turn). same_machine x.machine m) t ts one refl in
      let rest = at-most-one s.taken one (count_by (is_turn_of m) ss) (turns_of m ts) (had-no-more s.moved ts ss run.1.1) in
      rw (few, many) rest
  had-no-more w _ _ run = absurd run

-- a run has a step for each turn
as-many : (c : CellScales) (gives : CellGauges) (w : CellState) (ts : List Turn) (ss : List Step) → IsRunBy c gives w ts ss → length ss ≡ length ts
as-many c gives w [] [] run = refl
as-many c gives w (t ∷ ts) (s ∷ ss) run = let rest = as-many c gives s.moved ts ss run.1.1 in omega (arith, rest)
as-many c gives w _ _ run = absurd run

-- the last state of a safe run is safe
last-safe : (w : CellState) (ss : List Step) → IsSafeRun w ss → IsSafeState (end_of w ss)
last-safe w [] safe = safe
last-safe w (s ∷ ss) safe = last-safe s.moved ss safe.1.1

pub runs-told : (c : CellScales) (gives : CellGauges) → RunsAreTold c gives
runs-told c gives opening turns r k =
    let w = cell_at_start opening in
    let safe = last-safe w k.steps k.safe in
    record {
      one_step_each = as-many c gives w turns k.steps k.run;
      run = k.run;
      start = k.told.start;
      legal = k.legal;
      end = k.told.end ∙ ap (λ s. Some s) k.reached;
      journals = k.told.journals;
      axes = k.told.axes;
      status = k.told.status;
      counts = k.told.counts;
      had_its_turns = λ m fine. had-all c gives m w turns k.steps k.run fine;
      had_no_more = λ m. had-no-more c gives m w turns k.steps k.run;
      clear = safe.clear;
      within = safe.within;
    }

-- the last turn of a run
only-step : (c : CellScales) (gives : CellGauges) (w : CellState) (ts : List Turn) (ss : List Step) (t : Turn) (s : Step) → length ss ≡ length ts → IsRunBy c gives w (ts ++ t ∷ []) (ss ++ s ∷ [])
    → IsRunBy c gives w ts ss × (s.machine ≡ t.machine) × LeadsBy c gives t.machine t.busy (end_of w ss) s
only-step c gives w [] [] t s same run = (tt, run.0, run.1.0)
only-step c gives w (u ∷ ts) (x ∷ ss) t s same run =
    let rest = only-step c gives x.moved ts ss t s (omega (arith, same)) run.1.1 in
    ((run.0, (run.1.0, rest.0)), rest.1, rest.2)
only-step c gives w [] (x ∷ ss) t s same run = absurd (omega (arith, same))
only-step c gives w (u ∷ ts) [] t s same run = absurd (omega (arith, same))

pub runs-grow : (c : CellScales) (gives : CellGauges) → RunsGrow c gives
runs-grow c gives = record {
  no_event = refl;
  no_count = λ m. refl;
  first_frame = λ opening. refl;
  step = run-push c gives;
  only_step = only-step c gives;
  state = end-push;
  events = events-push;
  counts = counts-push;
  frame = frames_push c gives;
  shown = λ turn asked w. refl;
}

-- the last step of a safe run is safely set
last-set : (w : CellState) (ss : List Step) (s : Step) → IsSafeRun w (ss ++ s ∷ []) → IsSafelySet (end_of w ss) s
last-set w [] s safe = safe.1.0
last-set w (x ∷ ss) s safe = last-set x.moved ss s safe.1.1

module _ (c : CellScales) where
  safe-then : (opening : ModelState) (turns : List Turn) (steps : List Step) (w : CellState) → ComesTo c opening turns steps w → IsSafeState w
  safe-then opening turns steps w k =
      subst IsSafeState (sym k.3) (last-safe (cell_at_start opening) steps (every_run c opening turns steps k.0 k.1 k.2))

  set-then : (opening : ModelState) (turns : List Turn) (steps : List Step) (w : CellState) (t : Turn) (s : Step) → ComesTo c opening turns steps w → s.machine ≡ t.machine → LeadsBy c (any_near c) t.machine t.busy w s → IsSafelySet w s
  set-then opening turns steps w t s k same leads =
      let last = subst (λ x. LeadsBy c (any_near c) t.machine t.busy x s) k.3 leads in
      let run = run-push c (any_near c) (cell_at_start opening) turns steps t s k.2 same last in
      let safe = every_run c opening (turns ++ t ∷ []) (steps ++ s ∷ []) k.0 k.1 run in
      subst (λ x. IsSafelySet x s) (sym k.3) (last-set (cell_at_start opening) steps s safe)

  pub ends-safely : EndsSafely c
  ends-safely = record {
    clear = λ opening turns steps w k. (safe-then opening turns steps w k).clear;
    within = λ opening turns steps w k. (safe-then opening turns steps w k).within;
    positions = λ opening turns steps w k. (safe-then opening turns steps w k).positions;
    motors = λ opening turns steps w k. (safe-then opening turns steps w k).motors;
    set = λ opening turns steps w t s k same leads taken. (set-then opening turns steps w t s k same leads).clear taken;
  }
