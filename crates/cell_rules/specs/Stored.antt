-- What a stored history keeps.
use Rattle.std.specs.Prelude.{◌≡◌, List, [], ◌∷◌}
use Rattle.std.specs.Coded.{×_prop, Unit-prop}
use Rattle.std.proofs.Props.{props}
use Rattle.cell_rules.specs.Types.{Answer, Event}
use Rattle.cell_rules.specs.ModelState.{ModelState}
use Rattle.cell_rules.specs.Sound.{IsSound}
use Rattle.cell_rules.specs.Reply.{reply, next}
use Rattle.cell_rules.specs.History.{after, IsLegal}

-- the history is legal, begins in a sound opening, and leads to the state
pub record IsHistory (opening state : ModelState) (history : List Event) : Type 0 where
  pub sound : IsSound opening
  pub legal : IsLegal opening history
  pub reached : state ≡ after opening history

answer_prop : (a b : Answer) → IsProp (a ≡ b)
answer_prop a b = hlevel props

pub IsSound-prop : (s : ModelState) → IsProp (IsSound s)
IsSound-prop s = hlevel props

pub IsLegal-prop : (s : ModelState) (h : List Event) → IsProp (IsLegal s h)
IsLegal-prop s [] = Unit-prop
IsLegal-prop s (e ∷ h) =
    ×_prop (answer_prop e.answer (reply s e.machine e.call)) (IsLegal-prop (next s e.machine e.call) h)
