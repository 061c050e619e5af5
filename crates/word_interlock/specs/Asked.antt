-- The clauses of a call in one, for what `ask` and `ask_after` have in common.
use Rattle.std.specs.Prelude.{◌≡◌, ℕ, ◌+◌, ◌≤◌, List}
use Rattle.word_interlock.specs.RuleBook.{RuleBook}
use Rattle.word_interlock.specs.History.{IsLawful}
use Rattle.word_interlock.specs.declared.reply.Reply.{Reply}
use Rattle.word_interlock.specs.declared.views.HistoryView.{HistoryView}
use Rattle.word_interlock.specs.declared.tries.Look.{Look}
use Rattle.word_interlock.specs.Views.{PassView}
use Rattle.word_interlock.specs.Seen.{IsSamePass, AnswersAtItsPoint, WaitsToItsPoint, HasChanges, IsOvertaken}
use Rattle.word_interlock.specs.Calls.{IfSettled, IfBusy, SeenAfter}
use Rattle.word_interlock.specs.Tries.{Looked, after_look}
use Rattle.word_interlock.specs.Timing.{IsTimed, IsLookTimed}

module _ {R S M C A E : Type 0} (b : RuleBook S M C A E) where
  -- the effect of a call on its pass: the clauses of `ask`; and it began after all that these receipts tell
  pub record Asked (heard : List (HistoryView S M E)) (v : PassView R S M E) (c : C) (tries : ℕ) (reply : Reply A)
      (w : PassView R S M E) : Type 0 where
    pub pass : IsSamePass v w
    pub lawful : IsLawful b v.opening w.seen
    pub seen : SeenAfter b v.actor c reply v.opening v.seen w.seen
    pub answer : IfSettled reply (λ answer. AnswersAtItsPoint b v c answer w)
    pub right : IfSettled reply (λ answer. WaitsToItsPoint b v c answer w)
    pub busy : IfBusy reply (λ lost. IsOvertaken b v v.seen c tries lost w)
    pub one_load : w.loads ≡ v.loads + 1
    pub few_exchanges : w.exchanges ≤ v.exchanges + tries
    pub all_lost : IfBusy reply (λ n. w.exchanges ≡ v.exchanges + n)
    pub since : IfBusy reply (HasChanges b v.actor w.since w.seen)
    pub real_time : IsTimed b heard v c reply w

  -- likewise the first step of a call: the clauses of `look`
  pub record LookedAt (heard : List (HistoryView S M E)) (v : PassView R S M E) (c : C) (tries : ℕ)
      (look : Look R S M C A E) : Type 0 where
    pub looked : Looked b v c tries look
    pub one_load : (after_look look).loads ≡ v.loads + 1
    pub no_exchange : (after_look look).exchanges ≡ v.exchanges
    pub real_time : IsLookTimed b heard v c look
