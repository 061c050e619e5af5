use Rattle.std.proofs.Common.{◌≡◌, ◌∷◌, ◌++◌, [], ◌∙◌, List, All, ap, sym, subst}
use Rattle.std.proofs.lemmas.List.Elements.{All-nil, All-cons}
use Rattle.plan_workers.specs.declared.run.PlanJob.{PlanJob}
use Rattle.plan_workers.specs.Jobs.{IsReady, PlanInterlockView}
use Rattle.plan_tests.proofs.workers.jobs_of_two.Goals as goal

both_ready : {D : Type 0} (i : PlanInterlockView) (none one two : List (PlanJob D)) (a b : PlanJob D) → none ≡ [] → one ≡ none ++ a ∷ [] → two ≡ one ++ b ∷ [] → IsReady i a → IsReady i b → All (λ job. IsReady i job) two
both_ready i none one two a b empty first second x y =
    let is : two ≡ a ∷ b ∷ [] = second ∙ ap (λ js. js ++ b ∷ []) (first ∙ ap (λ js. js ++ a ∷ []) empty) in
    subst (All (λ job. IsReady i job)) (sym is) (All-cons (λ job. IsReady i job) a (b ∷ []) x (All-cons (λ job. IsReady i job) b [] y (All-nil (λ job. IsReady i job))))

pub returns : goal.returns
returns g c =
    let i = c.args._interlock.now in
    both_ready i c.new-jobs.result.items c.push.new.self.items c.push-2.new.self.items c.new-loader.result c.new-press.result c.new-jobs.ensures.items c.in_ok-push.ensures.items c.in_ok-push-2.ensures.items
    (c.new-loader.ensures.ready i c.requires.loader) (c.new-press.ensures.ready i c.requires.press)
