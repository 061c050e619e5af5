-- The effect of a call on its pass, in terms of the sequential interlock.
use Rattle.std.specs.Prelude.{◌≡◌, ℕ, ◌≤◌, List, [], ◌∷◌, ◌++◌}
use Rattle.cell_types.specs.declared.machine.Machine.{Machine}
use Rattle.cell_types.specs.declared.call.Call.{Call}
use Rattle.cell_types.specs.declared.answer.Answer.{Answer}
use Rattle.cell_types.specs.declared.answer.Answer.TheVariants.{Done}
use Rattle.cell_types.specs.declared.answer.Event.{Event}
use Rattle.cell_rules.specs.Reply.{reply}
use Rattle.cell_rules.specs.History.{after, changes_by_others}
use Rattle.cell_rules.specs.Laws.{LawfulThroughout}
use Rattle.cell_rules.specs.Seen.{event, Settles, Waits}
use Rattle.cell_rules.specs.Rights.{KeepsItsOwn, IsNeverDisowned}
use Rattle.cell_interlock.specs.Views.{PassView}

-- it is the same pass: of the same interlock and machine
pub record IsSamePass (v w : PassView) : Type 0 where
  pub table : w.table ≡ v.table
  pub opening : w.opening ≡ v.opening
  pub machine : w.machine ≡ v.machine

-- The point of a call is the history before its event, which is the last that its caller sees. There the sequential
-- interlock gives this answer.
abbrev pub AnswersAtItsPoint : PassView → Call → Answer → PassView → Type 0
AnswersAtItsPoint v c a w =
    (point : List Event) → w.seen ≡ point ++ event v.machine c a ∷ []
    → a ≡ reply (after v.opening point) v.machine c

-- At the point of its call a machine still has what it had before. If it held each zone that the call needs, it isn't
-- refused because of a zone's owner.
pub record LastingRight (v : PassView) (c : Call) (a : Answer) (w : PassView) : Type 0 where
  pub keeps : (point : List Event) → w.seen ≡ point ++ event v.machine c a ∷ []
      → KeepsItsOwn v.opening v.machine v.seen point
  pub never_disowned : IsNeverDisowned v.opening v.machine c a v.seen

-- a call was answered
pub record IsSettled (v : PassView) (c : Call) (a : Answer) (stamp : ℕ) (w : PassView) : Type 0 where
  pub pass : IsSamePass v w
  pub lawful : LawfulThroughout v.opening w.seen
  pub seen : Settles v.machine c a v.seen w.seen
  pub stamped : stamp ≡ (after v.opening w.seen).stamp
  pub answer : AnswersAtItsPoint v c a w
  pub right : LastingRight v c a w

-- a pass has seen more, and nothing new of its own
pub record HasSeenMore (v w : PassView) : Type 0 where
  pub pass : IsSamePass v w
  pub lawful : LawfulThroughout v.opening w.seen
  pub seen : Waits v.machine v.seen w.seen

-- a call would be Done after what a pass has now seen
abbrev pub WouldBeDone : PassView → Call → PassView → Type 0
WouldBeDone v c w = reply (after v.opening w.seen) v.machine c ≡ Done

-- a call wasn't made, but would be Done
pub record IsUnmade (v : PassView) (c : Call) (w : PassView) : Type 0 where
  pub more : HasSeenMore v w
  pub ready : WouldBeDone v c w

-- after what was seen earlier, at least n Done events of other machines have now been seen
pub record HasChanges (m : Machine) (earlier now : List Event) (n : ℕ) : Type 0 where
  pub more : List Event
  pub is : now ≡ earlier ++ more
  pub many : n ≤ changes_by_others more m

-- a call that would be Done has lost as many exchanges as it may, and other machines made at least as many changes
-- after what was seen earlier
pub record IsOvertaken (v : PassView) (earlier : List Event) (c : Call) (tries lost : ℕ) (w : PassView) : Type 0 where
  pub all_lost : lost ≡ tries
  pub ready : WouldBeDone v c w
  pub changed : HasChanges v.machine earlier w.seen tries
