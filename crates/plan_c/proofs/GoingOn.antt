-- A machine goes on in its program by turns.
use Rattle.std.proofs.Common.{◌≡◌, ◌⊎◌, inl, inr, ℕ, if◌then◌else◌, Option, Some, None, List, [], ◌∷◌, ◌++◌, refl, sym, ap, ◌∙◌, subst}
use Rattle.std.proofs.lemmas.List.{append-nil}
use Rattle.plan_types.specs.declared.call.Call.{Call}
use Rattle.plan_types.specs.declared.call.Call.TheVariants.{Inquire}
use Rattle.plan_types.specs.declared.answer.Answer.{Answer}
use Rattle.plan_types.specs.declared.answer.Refusal.{Refusal}
use Rattle.plan_types.specs.declared.answer.Event.{Event}
use Rattle.plan_rules.specs.declared.state.State.{State}
use Rattle.plan_rules.specs.Reply.{reply, next}
use Rattle.plan_rules.specs.History.{after, IsLegal}
use Rattle.plan_rules.specs.Laws.{EveryLegalHistoryIsLawful}
use Rattle.plan_word.specs.Packed.{packed}
use Rattle.plan_drives.specs.Course.{IsAt}
use Rattle.plan_controller.specs.declared.step.Step.{Step}
use Rattle.plan_controller.specs.declared.step.Step.TheVariants.{Do, Await, Run}
use Rattle.plan_controller.specs.declared.outcome.Outcome.{Outcome}
use Rattle.plan_controller.specs.declared.outcome.Outcome.TheVariants as outcome
use Rattle.plan_controller.specs.Benches.{IsHistory}
use Rattle.plan_controller.specs.Seen.{event}
use Rattle.plan_controller.specs.Steps.{shows, after_call, after_inquiry}
use Rattle.plan_controller.specs.Turns.{Control, step_in, program_in, place_after, advanced, Performs, TurnsBy}
use Rattle.plan_controller.proofs.lemmas.Benching.{history_grows, sees_answer}
use Rattle.plan_controller.proofs.lemmas.Leading.{call_leads, inquiry_leads, run_leads}
use Rattle.plan_controller.proofs.lemmas.Permitting.{running, permitted}
use Rattle.plan_c.specs.Turning.{Silent, Asks}
use Rattle.plan_c.specs.Courses.{InPlace, GoesOn, TurnsGoOn}

pub goes_on : EveryLegalHistoryIsLawful → TurnsGoOn
goes_on laws t s seen c sensors x plan sound legal here turn = by_stopped c.stopped sensors refl turn.turn
  where
    m : ℕ
    m = c.machine

    now : Control
    now = turn.now

    state : State
    state = after t s seen

    same : Type 0
    same = Silent (packed t state) x.word x.answer

    asks : Call → Option Answer → Type 0
    asks = Asks t state m x.word x.answer

    goes : (events : List Event) → ((events ≡ []) ⊎ ((call : Call) × (events ≡ event m call (reply t state m call) ∷ []))) → IsLegal t s (seen ++ events)
        → packed t (after t s (seen ++ events)) ≡ x.word → InPlace t s (seen ++ events) now → GoesOn t s seen c now x
    goes events one l word place = record {
      events = events;
      one_call = one;
      legal = l;
      word = word;
      in_place = place;
      permitted = permitted laws t s (seen ++ events) now x.motors plan sound (running t s (seen ++ events) c now same asks sensors x.motors turn.turn place);
    }

    quiet : same → InPlace t s seen now → GoesOn t s seen c now x
    quiet silent place =
        let whole = sym (append-nil seen) in
        goes [] (inl refl) (subst (IsLegal t s) whole legal) (sym (silent.0 ∙ ap (λ h. packed t (after t s h)) whole)) (subst (λ h. InPlace t s h now) whole place)

    grown : (call : Call) → IsHistory t s (next t state m call) (seen ++ event m call (reply t state m call) ∷ [])
    grown call = history_grows t s state (next t state m call) seen m call (reply t state m call) (record { plan = plan; sound = sound; legal = legal; reached = refl }) refl refl

    made : (call : Call) → x.word ≡ packed t (next t state m call) → InPlace t s (seen ++ event m call (reply t state m call) ∷ []) now → GoesOn t s seen c now x
    made call word place =
        goes (event m call (reply t state m call) ∷ []) (inr (call, refl)) (grown call).legal (sym (word ∙ ap (packed t) (grown call).reached)) place

    there : (h : List Event) (o to : Outcome) → o ≡ to → now ≡ advanced c o → IsAt t s h m (program_in c) (place_after c to) → InPlace t s h now
    there h o to e led at =
        let known : now ≡ advanced c to = led ∙ ap (advanced c) e in
        subst (InPlace t s h) (sym known) at

    by_step : (read : ℕ) (o : Outcome) (step : Option Step) → step_in c ≡ step → Performs c same asks read step x.motors o → now ≡ advanced c o → GoesOn t s seen c now x
    by_step read o None is p led = quiet p.0 (there seen o outcome.Stays p.2 led here)
    by_step read o (Some (Do call faults)) is p led =
        let a = reply t state m call in
        let at = call_leads t s seen (seen ++ event m call a ∷ []) c call faults (Some a) is (sees_answer m call a seen) here in
        made call p.1.1 (there (seen ++ event m call a ∷ []) o (after_call (Some a) faults) (p.3 ∙ ap (λ answer. after_call answer faults) p.1.0) led at)
    by_step read o (Some (Await z)) is p led =
        let a = reply t state m (Inquire z) in
        let at = inquiry_leads t s seen (seen ++ event m (Inquire z) a ∷ []) c z (Some a) (grown (Inquire z)).legal is (sees_answer m (Inquire z) a seen) here in
        made (Inquire z) p.1.1 (there (seen ++ event m (Inquire z) a ∷ []) o (after_inquiry m (Some a)) (p.3 ∙ ap (after_inquiry m) p.1.0) led at)
    by_step read o (Some (Run run until)) is p led =
        quiet p.0 (there seen o (if shows read until then outcome.GoesOn else outcome.Stays) p.2 led (run_leads t s seen c run until (shows read until) is here))

    by_stopped : (stopped : Option Refusal) (sensed : Option ℕ) → c.stopped ≡ stopped → TurnsBy stopped c same asks sensed x.motors now → GoesOn t s seen c now x
    by_stopped None (Some read) running y = by_step read y.0 (step_in c) refl y.1 y.2
    by_stopped None None running y = quiet y.0 (subst (InPlace t s seen) (sym y.2) here)
    by_stopped (Some r) sensed running y = quiet y.0 (subst (InPlace t s seen) (sym y.2) here)
