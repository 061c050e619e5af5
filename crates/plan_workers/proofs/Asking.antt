-- What a caller has seen after a call of its line.
use Rattle.std.proofs.Common.{ℕ, List}
use Rattle.plan_types.specs.declared.call.Call.{Call}
use Rattle.plan_types.specs.declared.answer.Answer.{Answer}
use Rattle.plan_types.specs.declared.answer.Event.{Event}
use Rattle.plan_types.specs.Table.{PlanTable}
use Rattle.plan_controller.specs.Seen.{SeenAfter, SeesOthers}
use Rattle.word_interlock.specs.declared.reply.Reply.{Reply}
use Rattle.word_interlock.specs.declared.reply.Reply.TheVariants.{Settled, Busy}
use Rattle.word_interlock.specs.History.{Waits}
use Rattle.word_interlock.specs.Seen.{WaitsToItsPoint}
use Rattle.word_interlock.specs.Calls.{IfSettled, SeenAfter as SeenAfterBy}
use Rattle.word_interlock.proofs.lemmas.Histories.{waits-foreign}
use Rattle.plan_interlock.specs.Book.{plan_book}
use Rattle.plan_workers.specs.Lines.{PlanPassView, answer_in}

pub sees_others : (t : PlanTable) (m : ℕ) (before now : List Event) → Waits (plan_book t) m before now → SeesOthers m before now
sees_others t m before now w =
    record { others = w.begins.0; split = w.begins.1; none_own = waits-foreign (plan_book t) m before now w }

pub sees : (t : PlanTable) (v w : PlanPassView) (c : Call) (r : Reply Answer)
    → SeenAfterBy (plan_book t) v.actor c r v.opening v.seen w.seen
    → IfSettled r (λ answer. WaitsToItsPoint (plan_book t) v c answer w)
    → SeenAfter v.actor c (answer_in r) v.seen w.seen
sees t v w c (Settled a stamp) seen right =
    let s = seen.0 in
    record { point = s.point; sees = sees_others t v.actor v.seen s.point (right s.point s.ends); ends = s.ends }
sees t v w c (Busy lost stamp) seen right = sees_others t v.actor v.seen w.seen seen.0
