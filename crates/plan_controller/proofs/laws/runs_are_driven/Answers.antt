use Rattle.std.proofs.Common.{◌≡◌, ◌∙◌, ℕ, Bool, true, false, if◌then◌else◌, Some, None, refl, sym, ap, subst}
use Rattle.std.specs.Prelude.{⊤}
use Rattle.plan_controller.specs.declared.outcome.Outcome.TheVariants.{Stays, GoesOn}
use Rattle.plan_controller.specs.Laws.{RunsAreDriven, RunsUntil}
use Rattle.plan_controller.specs.Steps.{shows}
use Rattle.plan_controller.specs.Turns.{Control, advanced, Performs, TurnsBy}
use Rattle.plan_controller.proofs.laws.runs_are_driven.Goals as goal

apart : true ≡ false → ⊥
apart e = cc

leads : (c now : Control) (run until read motors : ℕ) (b : Bool) → shows read until ≡ b
    → motors ≡ (if b then 0 else run) → now ≡ advanced c (if b then GoesOn else Stays)
    → RunsUntil c run until read motors now
leads c now run until read motors true shown are led = record {
  not_yet = λ e. absurd (apart (sym shown ∙ e));
  ended = λ e. (are, ap (λ (x : Control). x.place) led);
}
leads c now run until read motors false shown are led = record {
  not_yet = λ e. (are, ap (λ (x : Control). x.place) led);
  ended = λ e. absurd (apart (sym e ∙ shown));
}

driven : RunsAreDriven
driven c run until read motors now running is turn =
    let t : TurnsBy None c ⊤ (λ q a. ⊥) (Some read) motors now =
    subst (λ s. TurnsBy s c ⊤ (λ q a. ⊥) (Some read) motors now) running turn in
    let p = subst (λ o. Performs c ⊤ (λ q a. ⊥) read o motors t.0) is t.1 in
    leads c now run until read motors (shows read until) refl p.1 (t.2 ∙ ap (advanced c) p.2)

pub returns : goal.returns
returns _ = driven
