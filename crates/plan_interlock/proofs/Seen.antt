-- Histories of the interlock's rules are histories of the plan.
use Rattle.std.proofs.Common.{◌≡◌, List, [], ◌∷◌, ◌++◌, refl, sym, append-nil}
use Rattle.plan_types.specs.declared.answer.Event.{Event}
use Rattle.plan_types.specs.Table.{PlanTable}
use Rattle.plan_rules.specs.declared.state.State.{State}
use Rattle.plan_rules.specs.Reply.{next}
use Rattle.plan_rules.specs.History.{after, IsLegal}
use Rattle.plan_rules.proofs.lemmas.Lawful.{every_history}
use Rattle.word_interlock.specs.History.{after as after_by, IsLegal as IsLegalBy}
use Rattle.word_interlock.proofs.lemmas.Histories.{waits-foreign}
use Rattle.plan_interlock.specs.Book.{plan_book}
use Rattle.plan_interlock.specs.Laws.{EveryPassSeesLaws, RightsLast}

pub legal_here : (t : PlanTable) (s : State) (h : List Event) → IsLegalBy (plan_book t) s h → IsLegal t s h
legal_here t s [] l = tt
legal_here t s (e ∷ h) l = (l.0, legal_here t (next t s e.machine e.call) h l.1)

pub after_here : (t : PlanTable) (s : State) (h : List Event) → after_by (plan_book t) s h ≡ after t s h
after_here t s [] = refl
after_here t s (e ∷ h) = after_here t (next t s e.machine e.call) h

pub passes_see_laws : (t : PlanTable) → EveryPassSeesLaws t
passes_see_laws t s h k = record {
  laws = every_history t s h k.opened.0 k.opened.1.sound (legal_here t s h k.legal);
  state = after_here t s h;
}

pub rights_last : (t : PlanTable) → RightsLast t
rights_last t s m seen point k w =
    let all = every_history t s point k.opened.0 k.opened.1.sound (legal_here t s point k.legal) in record {
      more = w.begins.0;
      is = w.begins.1;
      foreign = waits-foreign (plan_book t) m seen point w;
      right = (all point [] whole).right_lasts seen w.begins.0 w.begins.1;
    }
  where
    whole : point ≡ point ++ []
    whole = sym (append-nil point)
