-- A stop of the watch, and its resumption, reach each word.
use Rattle.std.proofs.Common.{◌≡◌, ℕ, Bool, true, false, not, List, [], ◌∷◌, ◌++◌, get_or, refl, sym, ap, ◌∙◌, subst, arith}
use Rattle.std.specs.Option.{option_or}
use Rattle.std.specs.Bool.{then_some}
use Rattle.std.specs.Prelude.{nat_lt}
use Rattle.plan_types.specs.declared.call.Call.{Call}
use Rattle.plan_types.specs.declared.call.Call.TheVariants.{Stop, Resume}
use Rattle.plan_types.specs.declared.answer.Refusal.TheVariants.{Worn, Stopped, NotStopped}
use Rattle.plan_types.specs.declared.answer.Answer.{Answer}
use Rattle.plan_types.specs.declared.answer.Answer.TheVariants.{Done}
use Rattle.plan_types.specs.declared.answer.Event.{Event}
use Rattle.plan_types.specs.Table.{PlanTable, watch}
use Rattle.plan_rules.specs.declared.state.State.{State}
use Rattle.plan_rules.specs.State.{last_stamp}
use Rattle.plan_rules.specs.Reply.{reply, next, next_by, answer_by}
use Rattle.plan_rules.specs.History.{after, is_done_answer}
use Rattle.word_interlock.specs.declared.reply.Reply.{Reply}
use Rattle.word_interlock.specs.declared.reply.Reply.TheVariants.{Settled, Busy}
use Rattle.word_interlock.specs.History.{after as after_by}
use Rattle.word_interlock.proofs.lemmas.Histories.{after-append}
use Rattle.plan_interlock.specs.Book.{plan_book, plan_of}
use Rattle.plan_interlock.specs.Plant.{WordView, RightView}
use Rattle.plan_interlock.specs.PlantCalls.{AskedBy}
use Rattle.plan_interlock.specs.PlantStops.{StopSays, ResumeSays, CameLast, StopTells, ResumeTells, ReachesEachWord, StopsReachEachWord}
use Rattle.plan_interlock.proofs.Rights.{many_rights}
use Rattle.plan_interlock.proofs.Seen.{after_here}

-- ---- the watch's answers: by whether the plant is stopped, and whether the stamp is the last one
abbrev stop_answer : Bool → Bool → Answer
stop_answer stopped worn = answer_by (option_or (then_some stopped Stopped) (then_some worn Worn)) Done

abbrev resume_answer : Bool → Bool → Answer
resume_answer stopped worn = answer_by (option_or (then_some (not stopped) NotStopped) (then_some worn Worn)) Done

stop_by : (b worn : Bool) (t : PlanTable) (s left : State) → s.stopped ≡ b → left ≡ next_by (stop_answer b worn) t s watch Stop → StopSays (stop_answer b worn) s left
stop_by true worn t s left e f = (e, f)
stop_by false true t s left e f = (e, f)
stop_by false false t s left e f = (e, ap (λ x. x.stopped) f)

resume_by : (b worn : Bool) (t : PlanTable) (s left : State) → s.stopped ≡ b → left ≡ next_by (resume_answer b worn) t s watch Resume → ResumeSays (resume_answer b worn) s left
resume_by false worn t s left e f = (e, f)
resume_by true true t s left e f = (e, f)
resume_by true false t s left e f = (e, ap (λ x. x.stopped) f)

stop_ready : (b worn : Bool) → is_done_answer (stop_answer b worn) ≡ true → b ≡ false
stop_ready true worn e = cc
stop_ready false worn e = refl

resume_ready : (b worn : Bool) → is_done_answer (resume_answer b worn) ≡ true → b ≡ true
resume_ready false worn e = cc
resume_ready true worn e = refl

abbrev is_worn : State → Bool
is_worn s = not (nat_lt s.stamp last_stamp)

stop_says : (t : PlanTable) (s left : State) (a : Answer) → a ≡ reply t s watch Stop → left ≡ next t s watch Stop → StopSays a s left
stop_says t s left a e f = subst (λ x. StopSays x s left) (sym e) (stop_by s.stopped (is_worn s) t s left refl f)

resume_says : (t : PlanTable) (s left : State) (a : Answer) → a ≡ reply t s watch Resume → left ≡ next t s watch Resume → ResumeSays a s left
resume_says t s left a e f = subst (λ x. ResumeSays x s left) (sym e) (resume_by s.stopped (is_worn s) t s left refl f)

-- ---- one word
module _ (call : Call) (i : WordView) (v w : RightView) (own : v.actor ≡ watch) where
  abbrev t : PlanTable
  t = plan_of i.rules

  abbrev call_of : Answer → Event
  call_of a = record { machine = watch; call = call; answer = a }

  same_state : (h : List Event) → w.opening ≡ v.opening → after_by (plan_book t) v.opening h ≡ after t w.opening h
  same_state h same = after_here t v.opening h ∙ ap (λ o. after t o h) (sym same)

  one_more : (h : List Event) (a : Answer) → after t w.opening (h ++ call_of a ∷ []) ≡ next t (after t w.opening h) watch call
  one_more h a =
      sym (after_here t w.opening (h ++ call_of a ∷ []))
      ∙ (after-append (plan_book t) w.opening h (call_of a ∷ []) ∙ ap (λ s. next t s watch call) (after_here t w.opening h))

  came_last : (says : Answer → State → State → Type 0) → ((t : PlanTable) (s left : State) (a : Answer) → a ≡ reply t s watch call → left ≡ next t s watch call → says a s left)
      → (a : Answer) (stamp : ℕ) → AskedBy call (Settled a stamp) i v w → CameLast t call a w (says a)
  came_last says law a stamp asked =
      let at = asked.seen.0 in
      let last : w.seen ≡ at.point ++ call_of a ∷ [] = at.ends ∙ ap (λ m. at.point ++ record { machine = m; call = call; answer = a } ∷ []) own in
      let found = after t w.opening at.point in
      let answered : a ≡ reply t found watch call = asked.answer at.point at.ends ∙ (ap (λ s. reply t s v.actor call) (same_state at.point asked.pass.opening) ∙ ap (λ m. reply t found m call) own) in
      record { earlier = at.point; last = last; states = law t found (after t w.opening w.seen) a answered (ap (after t w.opening) last ∙ one_more at.point a) }

  is_ready : (lost stamp : ℕ) → AskedBy call (Busy lost stamp) i v w → is_done_answer (reply t (after t w.opening w.seen) watch call) ≡ true
  is_ready lost stamp asked =
      let now = after t w.opening w.seen in
      sym (ap is_done_answer (ap (λ s. reply t s v.actor call) (same_state w.seen asked.pass.opening) ∙ ap (λ m. reply t now m call) own)) ∙ asked.busy.ready

stop_tells : (i : WordView) (v w : RightView) (reply : Reply Answer) → v.actor ≡ watch → AskedBy Stop reply i v w → StopTells reply (plan_of i.rules) w
stop_tells i v w (Settled a stamp) own asked = came_last Stop i v w own StopSays stop_says a stamp asked
stop_tells i v w (Busy lost stamp) own asked =
    let now = after (plan_of i.rules) w.opening w.seen in
    stop_ready now.stopped (is_worn now) (is_ready Stop i v w own lost stamp asked)

resume_tells : (i : WordView) (v w : RightView) (reply : Reply Answer) → v.actor ≡ watch → AskedBy Resume reply i v w → ResumeTells reply (plan_of i.rules) w
resume_tells i v w (Settled a stamp) own asked = came_last Resume i v w own ResumeSays resume_says a stamp asked
resume_tells i v w (Busy lost stamp) own asked =
    let now = after (plan_of i.rules) w.opening w.seen in
    resume_ready now.stopped (is_worn now) (is_ready Resume i v w own lost stamp asked)

-- ---- each word
reaches : (call : Call) (tells : Reply Answer → PlanTable → RightView → Type 0) → ((i : WordView) (v w : RightView) (reply : Reply Answer) → v.actor ≡ watch → AskedBy call reply i v w → tells reply (plan_of i.rules) w)
    → ReachesEachWord call tells
reaches call tells law words before now replies pass asked n i w low =
    let many = many_rights words before.rights pass.plant in
    let one = asked n low in
    let own = pass.own n w (omega (arith, many, low)) in
    (one.0, one.1, law (get_or words n i) (get_or before.rights n w) (get_or now.rights n w) one.0 own (one.2 i w w))

pub stops_reach_each_word : StopsReachEachWord
stops_reach_each_word = record { stop = reaches Stop StopTells stop_tells; resume = reaches Resume ResumeTells resume_tells }
