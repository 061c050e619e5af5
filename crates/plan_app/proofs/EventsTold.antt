-- The laws of `events_tell`.
use Rattle.std.proofs.Common.{◌≡◌, ◌++◌, codes, refl, ap}
use Rattle.plan_types.specs.declared.answer.Event.{Event}
use Rattle.plan_text.specs.Names.{Text, name_in}
use Rattle.plan_text.specs.Named.{Named}
use Rattle.plan_app.specs.Going.{outlook_words, told_outlook}
use Rattle.plan_app.specs.GoingLaws.{EventsTell, told}

by_words : (n : Named) (e : Event) (words : Text) → outlook_words e.answer ≡ words
    → told_outlook n e ≡ codes "  " ++ (name_in n.machines e.machine ++ (words ++ told n e))
by_words n e words same = ap (λ w. codes "  " ++ (name_in n.machines e.machine ++ (w ++ told n e))) same

pub events-tell : EventsTell
events-tell = record {
  line = λ n words e. refl;
  asked = λ n e. refl;
  waits = λ n e. refl;
  could = λ n e is. by_words n e (codes " could go on: ") (ap outlook_words is);
  shown = λ n e owner flag posture is. by_words n e (codes " waits: ") (ap outlook_words is);
  refused = λ n e refusal is. by_words n e (codes " waits: ") (ap outlook_words is);
}
