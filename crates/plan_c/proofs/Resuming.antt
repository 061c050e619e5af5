-- A machine that may go on is in place, and where turns have led it may go on.
use Rattle.std.proofs.Common.{◌≡◌, ◌≢◌, ◌<◌, ◌≤◌, ℕ, zero, suc, ◌+◌, false, true, List, [], ◌∷◌, ◌++◌, Option, Some, None, length, map, take, get_or, refl, sym, ap, ◌∙◌, subst, arith}
use Rattle.std.specs.Prelude.{slice_get, is_none}
use Rattle.std.specs.Option.{option_map}
use Rattle.std.proofs.lemmas.List.{length-map, get_or-map, map-append}
use Rattle.std.proofs.lemmas.List.Elements.{All-nil}
use Rattle.std.proofs.lemmas.Option.{slice_get-map, slice_get-get_or}
use Rattle.plan_types.specs.declared.posture.Posture.TheVariants.{Closed}
use Rattle.plan_types.specs.declared.answer.Refusal.{Refusal}
use Rattle.plan_types.specs.declared.answer.Refusal.TheVariants.{NotParty, Held, AlreadyMine, Shut, NotOwner}
use Rattle.plan_types.specs.declared.answer.Refusal.TheVariants.{PlateInZone, NoPlate, PlaceFull, WrongWay, Jump}
use Rattle.plan_types.specs.declared.answer.Refusal.TheVariants.{NoPose, Worn, Stopped, NotStopped}
use Rattle.plan_types.specs.Table.{PlanTable}
use Rattle.plan_rules.specs.declared.state.State.{State}
use Rattle.plan_rules.specs.Laws.{EveryLegalHistoryIsLawful}
use Rattle.plan_drives.specs.Course.{is_done_by}
use Rattle.plan_drives.proofs.lemmas.Going.{in_step, opens_later, stays_in_step}
use Rattle.plan_controller.specs.declared.step.Step.{Step}
use Rattle.plan_controller.specs.declared.step.Step.TheVariants.{Await}
use Rattle.plan_controller.specs.Steps.{line_of}
use Rattle.plan_controller.specs.Turns.{program_in}
use Rattle.plan_c.specs.Lines.{row_of, HasStep}
use Rattle.plan_c.specs.Turning.{stop_number}
use Rattle.plan_c.specs.Resuming.{IsProgram, IsStop, MayGoOn, ResumesInPlace, PlacesAreTakenBack, ResumesGoOn}
use Rattle.plan_c.specs.declared.line.ProgramLine.{ProgramLine}
use Rattle.plan_c.specs.declared.turn.Place.{Place}

-- ---- the numbers of stops

pub by_number : (n : ℕ) → n ≤ 15 → n ≢ 11 → IsStop n
by_number zero l apart = (None, refl)
by_number (suc zero) l apart = (Some NotParty, refl)
by_number (suc (suc zero)) l apart = (Some (Held 0), refl)
by_number (suc (suc (suc zero))) l apart = (Some AlreadyMine, refl)
by_number (suc (suc (suc (suc zero)))) l apart = (Some (Shut Closed), refl)
by_number (suc (suc (suc (suc (suc zero))))) l apart = (Some (NotOwner None), refl)
by_number (suc (suc (suc (suc (suc (suc zero)))))) l apart = (Some (PlateInZone 0), refl)
by_number (suc (suc (suc (suc (suc (suc (suc zero))))))) l apart = (Some NoPlate, refl)
by_number (suc (suc (suc (suc (suc (suc (suc (suc zero)))))))) l apart = (Some PlaceFull, refl)
by_number (suc (suc (suc (suc (suc (suc (suc (suc (suc zero))))))))) l apart = (Some WrongWay, refl)
by_number (suc (suc (suc (suc (suc (suc (suc (suc (suc (suc zero)))))))))) l apart = (Some Jump, refl)
by_number (suc (suc (suc (suc (suc (suc (suc (suc (suc (suc (suc zero))))))))))) l apart = absurd (apart refl)
by_number (suc (suc (suc (suc (suc (suc (suc (suc (suc (suc (suc (suc zero)))))))))))) l apart = (Some NoPose, refl)
by_number (suc (suc (suc (suc (suc (suc (suc (suc (suc (suc (suc (suc (suc zero))))))))))))) l apart = (Some Worn, refl)
by_number (suc (suc (suc (suc (suc (suc (suc (suc (suc (suc (suc (suc (suc (suc zero)))))))))))))) l apart = (Some Stopped, refl)
by_number (suc (suc (suc (suc (suc (suc (suc (suc (suc (suc (suc (suc (suc (suc (suc zero))))))))))))))) l apart = (Some NotStopped, refl)
by_number (suc (suc (suc (suc (suc (suc (suc (suc (suc (suc (suc (suc (suc (suc (suc (suc n)))))))))))))))) l apart = absurd (omega (arith, l))

pub numbered : (stopped : Option Refusal) → (stop_number stopped ≤ 15) × (stop_number stopped ≢ 11)
numbered None = (omega arith, λ e. omega (arith, e))
numbered (Some NotParty) = (omega arith, λ e. omega (arith, e))
numbered (Some (Held m)) = (omega arith, λ e. omega (arith, e))
numbered (Some AlreadyMine) = (omega arith, λ e. omega (arith, e))
numbered (Some (Shut q)) = (omega arith, λ e. omega (arith, e))
numbered (Some (NotOwner o)) = (omega arith, λ e. omega (arith, e))
numbered (Some (PlateInZone z)) = (omega arith, λ e. omega (arith, e))
numbered (Some NoPlate) = (omega arith, λ e. omega (arith, e))
numbered (Some PlaceFull) = (omega arith, λ e. omega (arith, e))
numbered (Some WrongWay) = (omega arith, λ e. omega (arith, e))
numbered (Some Jump) = (omega arith, λ e. omega (arith, e))
numbered (Some NoPose) = (omega arith, λ e. omega (arith, e))
numbered (Some Worn) = (omega arith, λ e. omega (arith, e))
numbered (Some Stopped) = (omega arith, λ e. omega (arith, e))
numbered (Some NotStopped) = (omega arith, λ e. omega (arith, e))

-- ---- lines

pub take_next : {A : Type 0} (xs : List A) (k : ℕ) (d : A) → k < length xs → take (suc k) xs ≡ take k xs ++ get_or xs k d ∷ []
take_next [] k d l = absurd (omega (arith, l))
take_next (x ∷ xs) zero d l = refl
take_next (x ∷ xs) (suc k) d l = ap (λ ys. x ∷ ys) (take_next xs k d (omega (arith, l)))

pub some_if : {A : Type 0} (o : Option A) → is_none o ≡ false → (x : A) × (o ≡ Some x)
some_if None e = cc
some_if (Some x) e = (x, refl)

-- the row at a line of a program of steps is that of the step there
pub row_at : (rows : List ProgramLine) (steps : List Step) (k : ℕ) (d : ProgramLine) → rows ≡ map row_of steps → k < length rows → get_or rows k d ≡ row_of (get_or steps k (Await 0))
row_at rows steps k d same l =
    let few = ap length same ∙ length-map steps row_of in
    ap (λ x. get_or x k d) same ∙ get_or-map row_of steps k (Await 0) d (omega (arith, few, l))

-- and so is the line there
pub line_at : (rows : List ProgramLine) (steps : List Step) (k : ℕ) → rows ≡ map row_of steps → k < length rows → slice_get (map line_of steps) k ≡ Some (line_of (get_or steps k (Await 0)))
line_at rows steps k same l =
    let few = ap length same ∙ length-map steps row_of in
    slice_get-map line_of steps k ∙ ap (option_map line_of) (slice_get-get_or steps k (Await 0) (omega (arith, few, l)))

-- with the row of one more step
pub one_more : (rows : List ProgramLine) (steps : List Step) (k : ℕ) (d : ProgramLine) (step : Step) → k < length rows → take k rows ≡ map row_of steps → get_or rows k d ≡ row_of step
    → take (k + 1) rows ≡ map row_of (steps ++ step ∷ [])
one_more rows steps k d step l same is =
    let one : k + 1 ≡ suc k = omega arith in
    ap (λ n. take n rows) one ∙ take_next rows k d l ∙ ap (λ r. take k rows ++ r ∷ []) is ∙ ap (λ x. x ++ row_of step ∷ []) same ∙ sym (map-append row_of steps (step ∷ []))

-- ---- who may go on

has_step : (rows : List ProgramLine) (steps : List Step) (line : ℕ) → IsProgram rows steps → line < length steps → HasStep rows steps line
has_step rows steps line program l =
    let at = slice_get-get_or steps line (Await 0) l in
    record {
      as_many = ap length program.rows_are ∙ length-map steps row_of;
      at_most = program.at_most;
      step = _;
      at_line = at;
      row = ap (λ x. slice_get x line) program.rows_are ∙ slice_get-map row_of steps line ∙ ap (option_map row_of) at;
    }

resumed : (t : PlanTable) (s : State) (m : ℕ) (rows : List ProgramLine) (place : Place) → MayGoOn t s m rows place → ResumesInPlace t s m rows place
resumed t s m rows place on = record {
  steps = on.by.steps;
  stopped = on.stop.0;
  rows_are = on.by.program.rows_are;
  step = has_step rows on.by.steps place.line on.by.program (subst (λ n. place.line < n) (length-map on.by.steps line_of) on.by.in_step.line);
  stop = on.stop.1;
  opens = on.opens;
  in_place = stays_in_step t s [] m (map line_of on.by.steps) place.line on.by.in_step (All-nil (λ e. ¬ (is_done_by m e ≡ true)));
}

taken_back : EveryLegalHistoryIsLawful → PlacesAreTakenBack
taken_back laws t opening seen c rows p sound opens legal at program l = record {
  opens = opens_later laws t opening seen p sound opens legal;
  by = record {
    steps = c.steps;
    program = program;
    in_step = in_step laws t opening seen c.machine (program_in c) c.place p sound opens legal (subst (λ n. c.place < n) (sym (length-map c.steps line_of)) l) at;
  };
  stop = (c.stopped, refl);
}

pub resumes_go_on : EveryLegalHistoryIsLawful → ResumesGoOn
resumes_go_on laws = record { resumed = resumed; taken_back = taken_back laws }
