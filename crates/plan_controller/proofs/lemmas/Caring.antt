-- What follows of a turn.
use Rattle.std.proofs.Common.{◌≡◌, ℕ, ◌⊎◌, inl, inr, Bool, true, false, if◌then◌else◌, Option, Some, None, refl, sym, ap, ◌∙◌}
use Rattle.plan_types.specs.declared.call.Call.{Call}
use Rattle.plan_types.specs.declared.answer.Answer.{Answer}
use Rattle.plan_types.specs.declared.answer.Refusal.{Refusal}
use Rattle.plan_controller.specs.declared.step.Step.{Step}
use Rattle.plan_controller.specs.declared.step.Step.TheVariants.{Do, Await, Run}
use Rattle.plan_controller.specs.declared.outcome.Outcome.{Outcome}
use Rattle.plan_controller.specs.declared.outcome.Outcome.TheVariants as outcome
use Rattle.plan_controller.specs.Steps.{shows}
use Rattle.plan_controller.specs.Turns.{Control, step_in, next_place, advanced, Performs, TurnsBy, Turns, IsCareful}

no_refusal : (r : Refusal) → None ≡ Some r → ⊥
no_refusal r e = cc

no_sensors : (read : ℕ) → Some read ≡ None → ⊥
no_sensors read e = cc

rests : (c now : Control) (sensors : Option ℕ) (motors : ℕ) → motors ≡ 0 → now ≡ c → IsCareful c sensors motors now
rests c now sensors motors off same = record {
  runs = λ some. absurd (some off);
  stopped = λ r e. (off, same);
  unread = λ e. (off, same);
  stops = λ r e. off;
  one_step = inl (ap (λ (x : Control). x.place) same);
  machine = ap (λ (x : Control). x.machine) same;
  program = ap (λ (x : Control). x.steps) same;
}

one_step : (c : Control) (o : Outcome) → ((advanced c o).place ≡ c.place) ⊎ ((advanced c o).place ≡ next_place c)
one_step c outcome.Stays = inl refl
one_step c outcome.GoesOn = inr refl
one_step c (outcome.Stops r) = inl refl

led_by : (c now : Control) (o : Outcome) → now ≡ advanced c o → (now.place ≡ c.place) ⊎ (now.place ≡ next_place c)
led_by c now o led = elim (one_step c o) [
  | inl e ↦ inl (ap (λ (x : Control). x.place) led ∙ e)
  | inr e ↦ inr (ap (λ (x : Control). x.place) led ∙ e)
]

-- a step with all motors off
silent : (c now : Control) (read motors : ℕ) (o : Outcome) → c.stopped ≡ None → motors ≡ 0 → now ≡ advanced c o → IsCareful c (Some read) motors now
silent c now read motors o running off led = record {
  runs = λ some. absurd (some off);
  stopped = λ r e. absurd (no_refusal r (sym running ∙ e));
  unread = λ e. absurd (no_sensors read e);
  stops = λ r e. off;
  one_step = led_by c now o led;
  machine = ap (λ (x : Control). x.machine) led;
  program = ap (λ (x : Control). x.steps) led;
}

running_on : (c now : Control) (read motors until : ℕ) → c.stopped ≡ None → step_in c ≡ Some (Run motors until) → shows read until ≡ false → now ≡ advanced c outcome.Stays → IsCareful c (Some read) motors now
running_on c now read motors until running is not_yet led =
    let place = ap (λ (x : Control). x.place) led in
    record {
      runs = λ some. record { running = running; until = until; step = is; read = read; sensed = refl; not_yet = not_yet; stays = place };
      stopped = λ r e. absurd (no_refusal r (sym running ∙ e));
      unread = λ e. absurd (no_sensors read e);
      stops = λ r e. absurd (no_refusal r (sym running ∙ sym (ap (λ (x : Control). x.stopped) led) ∙ e));
      one_step = inl place;
      machine = ap (λ (x : Control). x.machine) led;
      program = ap (λ (x : Control). x.steps) led;
    }

runs : (c now : Control) (read motors run until : ℕ) (b : Bool) → c.stopped ≡ None → step_in c ≡ Some (Run run until) → shows read until ≡ b
    → motors ≡ (if b then 0 else run) → now ≡ advanced c (if b then outcome.GoesOn else outcome.Stays) → IsCareful c (Some read) motors now
runs c now read motors run until true running is shown are led = silent c now read motors outcome.GoesOn running are led
runs c now read motors run until false running is shown are led =
    running_on c now read motors until running (is ∙ ap (λ n. Some (Run n until)) (sym are)) shown led

step : (c now : Control) (same : Type 0) (asks : Call → Option Answer → Type 0) (read motors : ℕ) (o : Outcome) (s : Option Step) → c.stopped ≡ None → step_in c ≡ s
    → Performs c same asks read s motors o → now ≡ advanced c o → IsCareful c (Some read) motors now
step c now same asks read motors o None running is x led = silent c now read motors o running x.1 led
step c now same asks read motors o (Some (Do call faults)) running is x led = silent c now read motors o running x.2 led
step c now same asks read motors o (Some (Await z)) running is x led = silent c now read motors o running x.2 led
step c now same asks read motors o (Some (Run run until)) running is x led =
    runs c now read motors run until (shows read until) running is refl x.1 (led ∙ ap (advanced c) x.2)

by : (stopped : Option Refusal) (c now : Control) (same : Type 0) (asks : Call → Option Answer → Type 0) (sensors : Option ℕ) (motors : ℕ) → c.stopped ≡ stopped
    → TurnsBy stopped c same asks sensors motors now → IsCareful c sensors motors now
by None c now same asks (Some read) motors running x = step c now same asks read motors x.0 (step_in c) running refl x.1 x.2
by None c now same asks None motors running x = rests c now None motors x.1 x.2
by (Some r) c now same asks sensors motors running x = rests c now sensors motors x.1 x.2

pub careful : (c now : Control) (same : Type 0) (asks : Call → Option Answer → Type 0) (sensors : Option ℕ) (motors : ℕ) → Turns c same asks sensors motors now → IsCareful c sensors motors now
careful c now same asks sensors motors turn = by c.stopped c now same asks sensors motors refl turn
