-- Motors are on only at a step that runs them, and there they are permitted.
use Rattle.std.proofs.Common.{◌≡◌, ℕ, ◌/◌, ◌%◌, ◌^◌, Bool, true, false, ◌&&◌, nat_eq, nat_lt, if◌then◌else◌, Option, Some, None, List, ◌++◌, refl, sym, ap, ◌∙◌, subst}
use Rattle.std.proofs.Math.Nat.{zero-div}
use Rattle.plan_types.specs.declared.call.Call.{Call}
use Rattle.plan_types.specs.declared.answer.Answer.{Answer}
use Rattle.plan_types.specs.declared.answer.Refusal.{Refusal}
use Rattle.plan_types.specs.declared.answer.Event.{Event}
use Rattle.plan_types.specs.Table.{PlanTable}
use Rattle.plan_types.specs.Plan.{IsPlan}
use Rattle.plan_rules.specs.declared.state.State.{State}
use Rattle.plan_rules.specs.Sound.{IsSound}
use Rattle.plan_rules.specs.History.{after, IsLegal}
use Rattle.plan_rules.specs.Laws.{EveryLegalHistoryIsLawful}
use Rattle.plan_motors.specs.Motor.{Permits}
use Rattle.plan_motors.specs.OfPlan.{motor_at}
use Rattle.plan_drives.specs.declared.line.Line.TheVariants as line
use Rattle.plan_drives.specs.Facts.{OpensByPoses}
use Rattle.plan_drives.specs.Program.{has_bit}
use Rattle.plan_drives.specs.Course.{IsAt, IsRunning}
use Rattle.plan_drives.proofs.lemmas.Going.{courses_go_on, permitted_running}
use Rattle.plan_controller.specs.declared.step.Step.{Step}
use Rattle.plan_controller.specs.declared.step.Step.TheVariants.{Do, Await, Run}
use Rattle.plan_controller.specs.declared.outcome.Outcome.{Outcome}
use Rattle.plan_controller.specs.declared.outcome.Outcome.TheVariants as outcome
use Rattle.plan_controller.specs.Steps.{shows}
use Rattle.plan_controller.specs.Turns.{Control, step_in, program_in, advanced, Performs, TurnsBy, Turns, AreRunning, ArePermitted}
use Rattle.plan_controller.proofs.lemmas.Leading.{step_runs}

-- ---- of no motors none is on

no_bits : (i : ℕ) → has_bit 0 i ≡ true → ⊥
no_bits i bit = none (nat_lt i 64) (0 / 2 ^ i) (zero-div (2 ^ i)) bit
  where
    none : (b : Bool) (n : ℕ) → n ≡ 0 → (b && nat_eq (n % 2) 1) ≡ true → ⊥
    none true n e bit = let no : nat_eq (n % 2) 1 ≡ false = ap (λ x. nat_eq (x % 2) 1) e in cc
    none false n e bit = cc

off : (t : PlanTable) (s : State) (seen : List Event) (c : Control) (motors : ℕ) → motors ≡ 0 → AreRunning t s seen c motors
off t s seen c motors none = λ i bit. absurd (no_bits i (subst (λ x. has_bit x i ≡ true) none bit))

-- ---- a step that runs them

on : (t : PlanTable) (s : State) (seen : List Event) (c : Control) (motors until : ℕ) → step_in c ≡ Some (Run motors until)
    → IsAt t s seen c.machine (program_in c) c.place → AreRunning t s seen c motors
on t s seen c motors until is at = λ i bit. record { line = c.place; at = at; runs = (line.Run motors, step_runs c motors until is, bit) }

-- ---- a turn

pub running : (t : PlanTable) (s : State) (seen : List Event) (c now : Control) (same : Type 0) (asks : Call → Option Answer → Type 0) (sensors : Option ℕ) (motors : ℕ)
    → Turns c same asks sensors motors now → IsAt t s seen now.machine (program_in now) now.place → AreRunning t s seen now motors
running t s seen c now same asks sensors motors turn at = by_stopped c.stopped sensors turn
  where
    run : (b : Bool) (runs until : ℕ) → step_in c ≡ Some (Run runs until) → motors ≡ (if b then 0 else runs) → now ≡ advanced c (if b then outcome.GoesOn else outcome.Stays) → AreRunning t s seen now motors
    run true runs until is are led = off t s seen now motors are
    run false runs until is are led =
        let here : step_in now ≡ Some (Run runs until) = ap step_in led ∙ is in
        subst (AreRunning t s seen now) (sym are) (on t s seen now runs until here at)

    by_step : (sensors : ℕ) (o : Outcome) (step : Option Step) → step_in c ≡ step → Performs c same asks sensors step motors o → now ≡ advanced c o → AreRunning t s seen now motors
    by_step sensors o None is x led = off t s seen now motors x.1
    by_step sensors o (Some (Do call faults)) is x led = off t s seen now motors x.2
    by_step sensors o (Some (Await z)) is x led = off t s seen now motors x.2
    by_step sensors o (Some (Run runs until)) is x led = run (shows sensors until) runs until is x.1 (led ∙ ap (advanced c) x.2)

    by_stopped : (stopped : Option Refusal) (sensors : Option ℕ) → TurnsBy stopped c same asks sensors motors now → AreRunning t s seen now motors
    by_stopped None (Some sensors) x = by_step sensors x.0 (step_in c) refl x.1 x.2
    by_stopped None None x = off t s seen now motors x.1
    by_stopped (Some r) sensors x = off t s seen now motors x.1

-- ---- and what runs so is permitted

pub permitted : EveryLegalHistoryIsLawful → (t : PlanTable) (s : State) (seen : List Event) (c : Control) (motors : ℕ) → IsPlan t → IsSound t s → AreRunning t s seen c motors → ArePermitted t s seen c motors
permitted laws t s seen c motors p sound runs = λ plan same driven opens more legal stays i bit.
    let now = runs i bit in
    let later : IsRunning t s (seen ++ more) c.machine (program_in c) i = record {
      line = now.line;
      at = (courses_go_on t s seen c.machine (program_in c)).stays now.line more now.at stays;
      runs = now.runs;
    } in
    let By : PlanTable → Type 0 = λ x. IsPlan x → IsSound x s → OpensByPoses x s → IsLegal x s (seen ++ more) → IsRunning x s (seen ++ more) c.machine (program_in c) i → Permits x (after x s (seen ++ more)) (motor_at plan.motors i) in
    let by : By plan.plan = λ q k o l a. permitted_running laws plan s (seen ++ more) c.machine (program_in c) i q k o l driven a in
    subst By same by p sound opens legal later
