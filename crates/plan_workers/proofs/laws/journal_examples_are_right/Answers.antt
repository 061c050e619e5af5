use Rattle.std.proofs.Common.{◌≡◌, [], ◌∷◌, refl, ◌∙◌, ap, sym, arith}
use Rattle.plan_workers.specs.declared.journal.PlanEntry.{PlanEntry}
use Rattle.plan_workers.specs.Journals.{journal_of}
use Rattle.plan_workers.specs.AuditExamples.{again, again_at, claimed, claimed_at, shut, shut_at, travels, travels_at}
use Rattle.plan_workers.proofs.laws.journal_examples_are_right.Goals as goal

pub returns : goal.returns
returns c = record {
  of_press = refl;
  of_loader = refl;
  of_nobody = refl;
  since = record { since = shut ∷ travels ∷ []; split = refl; is = refl };
  nothing_since = record { since = shut ∷ []; split = refl; is = refl };
  not_before = λ k. let split = k.split in let same : k.since ≡ travels ∷ [] = cc in let is : claimed_at 6 ∷ travels_at 7 ∷ [] ≡ travels_at 7 ∷ [] = k.is ∙ ap (λ es. journal_of 6 es 1) same in cc;
  not_the_stamp_before = λ k. let same : claimed ∷ [] ≡ k.since = k.split in let is : claimed_at 5 ∷ [] ≡ claimed_at 6 ∷ [] = k.is ∙ ap (λ es. journal_of 5 es 1) (sym same) in let entries : claimed_at 5 ≡ claimed_at 6 = cc in let stamp = ap (λ (x : PlanEntry). x.stamp) entries in omega (arith, stamp);
  not_twice = λ k. let same : claimed ∷ [] ≡ k.since = k.split in let is : claimed_at 6 ∷ claimed_at 6 ∷ [] ≡ claimed_at 6 ∷ [] = k.is ∙ ap (λ es. journal_of 5 es 1) (sym same) in cc;
  not_left_out = λ k. let same : claimed ∷ again ∷ [] ≡ k.since = k.split in let is : claimed_at 6 ∷ [] ≡ claimed_at 6 ∷ again_at 6 ∷ [] = k.is ∙ ap (λ es. journal_of 5 es 1) (sym same) in cc;
  not_done = λ k. let same : claimed ∷ again ∷ [] ≡ k.since = k.split in let is : claimed_at 6 ∷ claimed_at 6 ∷ [] ≡ claimed_at 6 ∷ again_at 6 ∷ [] = k.is ∙ ap (λ es. journal_of 5 es 1) (sym same) in let entries : claimed_at 6 ≡ again_at 6 = cc in let answers = ap (λ (x : PlanEntry). x.answer) entries in cc;
  not_of_others = λ k. let same : shut ∷ claimed ∷ [] ≡ k.since = k.split in let is : shut_at 5 ∷ claimed_at 6 ∷ [] ≡ claimed_at 6 ∷ [] = k.is ∙ ap (λ es. journal_of 5 es 1) (sym same) in cc;
  answered = refl;
  busy = refl;
}
