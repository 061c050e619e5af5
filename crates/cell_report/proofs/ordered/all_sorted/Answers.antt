use Rattle.cell_report.proofs.Names.{rules, subst, List, IsNonDecreasingBy-from_sort_by_key, answers_always, Noted, InOrder, key_at}
use Rattle.cell_report.proofs.ordered.all_sorted.Goals as goal

pub returns : goal.returns
returns c =
    let P : List Noted → Type 0 = λ l. InOrder l c.sort_by_key.new.self.items in
    subst P c.in_ok-sorted.ensures
    (record {
      same = c.sort_by_key.ensures.permutation;
      rising = IsNonDecreasingBy-from_sort_by_key key_at _ c.in_ok-sort_by_key.ensures.sorted (λ a r q k. search rules);
      stable = c.sort_by_key.ensures.stable key_at (answers_always _ _ _ (λ f a r g h. search rules));
    })
