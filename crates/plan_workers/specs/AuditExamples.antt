-- Literal journals of two machines at a press: what each notes of a history, and what an audit says of them.
use Rattle.std.specs.Prelude.{◌≡◌, ℕ, List, [], ◌∷◌, ◌++◌, replicate, get_or, Option, Some, None}
use Rattle.plan_types.specs.declared.posture.Posture.TheVariants.{Closed}
use Rattle.plan_types.specs.declared.call.Call.TheVariants.{Claim, SetPose}
use Rattle.plan_types.specs.declared.answer.Answer.TheVariants.{Done, Refused}
use Rattle.plan_types.specs.declared.answer.Refusal.TheVariants.{AlreadyMine, Shut}
use Rattle.plan_types.specs.declared.answer.Event.{Event}
use Rattle.word_interlock.specs.declared.reply.Reply.TheVariants.{Settled, Busy}
use Rattle.plan_types.specs.Examples.{press_table}
use Rattle.plan_rules.specs.declared.state.State.{State}
use Rattle.plan_rules.specs.Examples.{event, press_start}
use Rattle.plan_rules.specs.Reply.{next}
use Rattle.plan_workers.specs.declared.journal.PlanEntry.{PlanEntry}
use Rattle.plan_workers.specs.Journals.{IsJournal, entry, journal_of}
use Rattle.plan_workers.specs.Audited.{AreInOrder, HasNoHistory, IsAudited, Journals}
use Rattle.plan_workers.specs.Recording.{entries_in}
use Rattle.plan_workers.specs.Paces.{HaveHad}

-- the loader finds the press shut; the press claims its zone, tries to claim it again, and travels
abbrev pub shut : Event
shut = event 0 (Claim 0) (Refused (Shut Closed))

abbrev pub claimed : Event
claimed = event 1 (Claim 0) Done

abbrev pub again : Event
again = event 1 (Claim 0) (Refused AlreadyMine)

abbrev pub travels : Event
travels = event 1 (SetPose 3) Done

-- each with its stamp
abbrev pub shut_at : ℕ → PlanEntry
shut_at stamp = entry (Claim 0) (Refused (Shut Closed)) stamp

abbrev pub claimed_at : ℕ → PlanEntry
claimed_at stamp = entry (Claim 0) Done stamp

abbrev pub again_at : ℕ → PlanEntry
again_at stamp = entry (Claim 0) (Refused AlreadyMine) stamp

abbrev pub travels_at : ℕ → PlanEntry
travels_at stamp = entry (SetPose 3) Done stamp

abbrev pub Keeps : List Event → List Event → List PlanEntry → Type 0
Keeps before seen journal = IsJournal 5 1 before seen journal

pub record JournalExamples : Type 0 where
  -- its own events alone, each with the stamp after it
  pub of_press : journal_of 5 (shut ∷ claimed ∷ again ∷ travels ∷ []) 1 ≡ claimed_at 6 ∷ again_at 6 ∷ travels_at 7 ∷ []
  pub of_loader : journal_of 5 (claimed ∷ again ∷ shut ∷ []) 0 ≡ shut_at 6 ∷ []
  pub of_nobody : journal_of 5 (claimed ∷ shut ∷ []) 2 ≡ []
  -- since a moment: the done calls before it count, but aren't noted
  pub since : Keeps (claimed ∷ []) (claimed ∷ shut ∷ travels ∷ []) (travels_at 7 ∷ [])
  pub nothing_since : Keeps (claimed ∷ []) (claimed ∷ shut ∷ []) []
  pub not_before : ¬ Keeps (claimed ∷ []) (claimed ∷ travels ∷ []) (claimed_at 6 ∷ travels_at 7 ∷ [])
  pub not_the_stamp_before : ¬ Keeps [] (claimed ∷ []) (claimed_at 5 ∷ [])
  pub not_twice : ¬ Keeps [] (claimed ∷ []) (claimed_at 6 ∷ claimed_at 6 ∷ [])
  pub not_left_out : ¬ Keeps [] (claimed ∷ again ∷ []) (claimed_at 6 ∷ [])
  pub not_done : ¬ Keeps [] (claimed ∷ again ∷ []) (claimed_at 6 ∷ claimed_at 6 ∷ [])
  pub not_of_others : ¬ Keeps [] (shut ∷ claimed ∷ []) (shut_at 5 ∷ claimed_at 6 ∷ [])
  -- a call that was answered is noted, and a Busy one isn't
  pub answered : entries_in (Claim 0) (Settled Done 6) ≡ claimed_at 6 ∷ []
  pub busy : entries_in (Claim 0) (Busy 8 6) ≡ []

-- at one stamp by machine; a done event may come before one of any machine, and after
pub record OrderExamples : Type 0 where
  pub by_machine : AreInOrder (shut ∷ again ∷ again ∷ [])
  pub done_between : AreInOrder (again ∷ travels ∷ shut ∷ again ∷ [])
  pub not_by_machine : ¬ AreInOrder (claimed ∷ again ∷ shut ∷ [])
  pub not_at_the_end : ¬ AreInOrder (shut ∷ again ∷ shut ∷ [])

-- how many turns machines have had
pub record PaceExamples : Type 0 where
  pub all : HaveHad 3 4 (4 ∷ 5 ∷ 4 ∷ [])
  pub of_run : HaveHad 2 4 (4 ∷ 5 ∷ 0 ∷ [])
  pub not_the_first : ¬ HaveHad 2 4 (3 ∷ 5 ∷ [])
  pub not_the_last : ¬ HaveHad 31 4 (replicate 30 4 ++ 3 ∷ [])

-- the journals of these machines, from the first on
abbrev pub these : List (List PlanEntry) → Journals
these journals m = get_or journals m []

abbrev pub IsAccepted : List (List PlanEntry) → Option State → List Event → Type 0
IsAccepted journals end history = IsAudited press_table press_start (these journals) end history

abbrev pub IsRefused : List (List PlanEntry) → Option State → Type 0
IsRefused journals end = HasNoHistory press_table press_start (these journals) end

abbrev pub own : List PlanEntry → List (List PlanEntry)
own journal = [] ∷ journal ∷ []

abbrev pub both : List PlanEntry → List (List PlanEntry)
both journal = (shut_at 0 ∷ []) ∷ journal ∷ []

-- the press has its zone
abbrev pub claimed_state : State
claimed_state = next press_table press_start 1 (Claim 0)

pub record AuditExamples : Type 0 where
  pub right : IsAccepted (both (claimed_at 1 ∷ again_at 1 ∷ travels_at 2 ∷ [])) None
      (shut ∷ claimed ∷ again ∷ travels ∷ [])
  pub right_end : IsAccepted (own (claimed_at 1 ∷ [])) (Some claimed_state) (claimed ∷ [])
  pub nothing : IsAccepted [] (Some press_start) []
  pub two_done : IsRefused (own (claimed_at 1 ∷ travels_at 1 ∷ [])) None
  pub two_machines_done : IsRefused ((claimed_at 1 ∷ []) ∷ (claimed_at 1 ∷ []) ∷ []) None
  pub gap : IsRefused (own (claimed_at 2 ∷ [])) None
  pub other_answer : IsRefused ((claimed_at 1 ∷ []) ∷ []) None
  pub too_early : IsRefused (own (claimed_at 0 ∷ [])) None
  pub too_late : IsRefused ((shut_at 1 ∷ []) ∷ []) None
  pub out_of_turn : IsRefused (own (again_at 1 ∷ claimed_at 1 ∷ [])) None
  pub other_end : IsRefused (own (claimed_at 1 ∷ [])) (Some press_start)
  pub stranger : HasNoHistory press_table press_start (λ m. get_or (own []) m (shut_at 0 ∷ [])) None
