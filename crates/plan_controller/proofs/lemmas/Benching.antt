-- A bench's history grows by the calls that its state answers.
use Rattle.std.proofs.Common.{◌≡◌, ℕ, List, [], ◌∷◌, ◌++◌, refl, sym, ap, ◌∙◌}
use Rattle.std.proofs.lemmas.List.{append-nil}
use Rattle.plan_types.specs.declared.call.Call.{Call}
use Rattle.plan_types.specs.declared.answer.Answer.{Answer}
use Rattle.plan_types.specs.declared.answer.Event.{Event}
use Rattle.plan_types.specs.Table.{PlanTable}
use Rattle.plan_rules.specs.declared.state.State.{State}
use Rattle.plan_rules.specs.Reply.{reply, next}
use Rattle.plan_rules.specs.History.{after, IsLegal}
use Rattle.plan_controller.specs.Seen.{event, SeesOthers, SeesAnswer}
use Rattle.plan_controller.specs.Benches.{IsHistory}

legal_more : (t : PlanTable) (s : State) (h : List Event) (e : Event) → IsLegal t s h → e.answer ≡ reply t (after t s h) e.machine e.call → IsLegal t s (h ++ e ∷ [])
legal_more t s [] e l is = (is, tt)
legal_more t s (x ∷ h) e l is = (l.0, legal_more t (next t s x.machine x.call) h e l.1 is)

after_more : (t : PlanTable) (s : State) (h : List Event) (e : Event) → after t s (h ++ e ∷ []) ≡ next t (after t s h) e.machine e.call
after_more t s [] e = refl
after_more t s (x ∷ h) e = after_more t (next t s x.machine x.call) h e

pub history_grows : (t : PlanTable) (o s now : State) (h : List Event) (m : ℕ) (c : Call) (a : Answer) → IsHistory t o s h → a ≡ reply t s m c → now ≡ next t s m c → IsHistory t o now (h ++ event m c a ∷ [])
history_grows t o s now h m c a k answered led = record {
  plan = k.plan;
  sound = k.sound;
  legal = legal_more t o h (event m c a) k.legal (answered ∙ ap (λ x. reply t x m c) k.reached);
  reached = led ∙ ap (λ x. next t x m c) k.reached ∙ sym (after_more t o h (event m c a));
}

pub sees_same : (m : ℕ) (h : List Event) → SeesOthers m h h
sees_same m h = record { others = []; split = sym (append-nil h); none_own = refl }

pub sees_answer : (m : ℕ) (c : Call) (a : Answer) (h : List Event) → SeesAnswer m c a h (h ++ event m c a ∷ [])
sees_answer m c a h = record { point = h; sees = sees_same m h; ends = refl }
