-- The history of an interlock that has ended explains the journals of its passes.
use Rattle.std.proofs.Common.{◌≡◌, ℕ, ◌⊎◌, inl, inr, List, [], ◌∷◌, refl, sym, ap, ◌∙◌, subst, arith}
use Rattle.std.proofs.lemmas.Bool.{cases_eq}
use Rattle.plan_types.specs.declared.answer.Event.{Event}
use Rattle.plan_types.specs.Table.{PlanTable}
use Rattle.plan_rules.specs.declared.state.State.{State}
use Rattle.plan_rules.specs.Reply.{next}
use Rattle.plan_rules.specs.History.{after}
use Rattle.word_interlock.specs.History.{after as after_by}
use Rattle.word_interlock.specs.Bunches.{AllHavePart}
use Rattle.plan_interlock.specs.Book.{plan_book}
use Rattle.plan_workers.specs.declared.journal.PlanEntry.{PlanEntry}
use Rattle.plan_workers.specs.Lines.{legal_here}
use Rattle.plan_workers.specs.Journals.{IsJournal, journal_of}
use Rattle.plan_workers.specs.Audited.{Journals}
use Rattle.plan_workers.specs.Closing.{AreKept, ClosedJournalsAreExplained, IsOneOf, Passes}
use Rattle.plan_workers.proofs.Asking.{sees_others}
use Rattle.plan_workers.proofs.Journaling.{journal_of_others, others_seen}

pub after_here : (t : PlanTable) (s : State) (h : List Event) → after_by (plan_book t) s h ≡ after t s h
after_here t s [] = refl
after_here t s (e ∷ h) = after_here t (next t s e.machine e.call) h

-- a journal of the whole history
of_all : (n m : ℕ) (h : List Event) (journal : List PlanEntry) → IsJournal n m [] h journal → journal_of n h m ≡ journal
of_all n m h journal j = ap (λ es. journal_of n es m) j.split ∙ (ap (λ k. journal_of k j.since m) (omega arith) ∙ sym j.is)

module _ (t : PlanTable) (opening : State) (journals : Journals) (h : List Event) where
  explains : (passes : Passes) (m : ℕ) → AllHavePart (plan_book t) opening h passes → AreKept opening.stamp passes journals
      → (journal_of opening.stamp h m ≡ journals m) ⊎ (¬ IsOneOf m passes)
  explains [] m parts kept = inr (λ one. one)
  explains (p ∷ rest) m parts kept =
      elim (cases_eq p.actor m) [
        | inl is ↦
            let whole = of_all opening.stamp p.actor h (journals p.actor) (others_seen opening.stamp p.actor [] p.seen h (journals p.actor) kept.0 (sees_others t p.actor p.seen h parts.0.seen)) in
            inl (subst (λ k. journal_of opening.stamp h k ≡ journals k) is whole)
        | inr isnt ↦ elim (explains rest m parts.1 kept.1) [
          | inl own ↦ inl own
          | inr none ↦ inr (λ one. elim one [ inl here ↦ isnt here | inr there ↦ none there ])
        ]
      ]

pub explained : ClosedJournalsAreExplained
explained t opening s passes journals end kept nobody = record {
  legal = legal_here t opening end.history end.lawful.legal;
  callers = nobody.callers;
  own = λ m. elim (explains t opening journals end.history passes m end.parts kept) [
    | inl own ↦ own
    | inr none ↦ journal_of_others end.history opening.stamp m (nobody.events m none) ∙ sym (nobody.empty m none)
  ];
  ends = sym (after_here t opening end.history) ∙ sym end.reached;
}
