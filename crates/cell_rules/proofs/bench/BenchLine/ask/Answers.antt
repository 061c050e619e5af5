use Rattle.cell_rules.proofs.Names.{ap, refl, ◌∙◌, ∥∥₁_map}
use Rattle.cell_rules.proofs.lemmas.SeenLemmas.{history-push, settles-push, state_reached, last-push}
use Rattle.cell_rules.proofs.bench.BenchLine.ask.Goals as goal

pub invariant_of-self-in-Ok : goal.invariant_of-self-in-Ok
invariant_of-self-in-Ok c =
    record { kept = ∥∥₁_map c.args.self.now.kept (λ k. rw c.in-Ok.ensures.items (history-push _ _ _ _ _ _ _ k c.answer-answer.ensures c.apply_answer.ensures)) }

pub returns-in-Ok-clause-seen : goal.returns-in-Ok-clause-seen
returns-in-Ok-clause-seen c =
    rw c.in-Ok.ensures.items (
      settles-push _ _ _ _,
      c.stamp-in-Ok.ensures.stamp
          ∙ ap (λ s. s.stamp) (state_reached _ _ _ (∥∥₁_map c.args.self.now.kept (λ k. history-push _ _ _ _ _ _ _ k c.answer-answer.ensures c.apply_answer.ensures))),
    )

pub returns-in-Ok-clause-heard : goal.returns-in-Ok-clause-heard
returns-in-Ok-clause-heard c =
    rw (c.in-Ok.ensures.items, c.stamp-in-Ok.ensures.stamp, last-push c.args.self.now.history.items (record { machine = c.args.self.now.machine; call = c.args.call; answer = c.answer-answer.result })) refl
