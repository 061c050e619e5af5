use Rattle.std.proofs.Common.{List, ◌≡◌, ◌++◌, ◌∷◌, [], ◌∙◌, ap, map, sym}
use Rattle.std.proofs.lemmas.List.{map-append}
use Rattle.word_interlock.specs.Views.{view_of}
use Rattle.plan_workers.specs.Renewing.{left_by}
use Rattle.plan_workers.proofs.Renewing.{given_more}
use Rattle.plan_workers.proofs.renewed.take_apart.Goals as goal

more_of : {A B : Type 0} (f : A → B) (xs : List A) (x : A) (ys more : List B) → ys ≡ map f xs → more ≡ ys ++ f x ∷ [] → more ≡ map f (xs ++ x ∷ [])
more_of f xs x ys more all pushed = pushed ∙ (ap (λ zs. zs ++ f x ∷ []) all ∙ sym (map-append f xs (x ∷ [])))

pub backs-preserved : goal.backs-preserved
backs-preserved g c =
    let back = c.in-Some.back in
    let old = c.backs.invariant in record {
      table = c.give_back.ensures.same ∙ old.table;
      passes = c.give_back.ensures.given ∙ (ap (λ ps. view_of back.worked.pass ∷ ps) old.passes ∙ sym (given_more c.args.passes.now.actors c.backs.yielded back));
      machines = more_of left_by c.backs.yielded back c.backs.machines.items c.push.new.self.items old.machines c.in_ok-push.ensures.items;
      journals = more_of (λ b. b.journal) c.backs.yielded back c.backs.journals.items c.push-in-backs.new.self.items old.journals c.in_ok-push-2.ensures.items;
    }
