-- std's finite map and set of a function's values at each key, if a list has every key.
use Rattle.cell_rules.proofs.Names.{◌≡◌, ◌≢◌, Bool, true, false, cond, ◌&&◌, ◌||◌, not, Some, None, List, [], ◌∷◌, refl, sym, ap, subst, ◌∙◌, list_any, any-filter_same, IsTotalOrder, tied_itself, Equal-is, eq_by_cmp, is_eq, Ordering, IsAntisymmetric}
use Rattle.std.proofs.Common.{map as list_map}
use Rattle.std.specs.List.{filter}
use Rattle.std.specs.FinMap as map
use Rattle.std.specs.FinSet as set

and_true : (b c : Bool) → c ≡ true → (b && c) ≡ b
and_true true c e = e
and_true false c e = refl

module _ {K : Type 0} {R : K → K → Ordering} (o : IsTotalOrder R) (one : IsAntisymmetric R) where
  -- by whether two keys are the same
  by_key : (P : Bool → Type 0) (q k : K) → (q ≡ k → P true) → (q ≢ k → P false) → P (eq_by_cmp R q k)
  by_key P q k same other =
      elim (eq_by_cmp R q k) as (λ b. eq_by_cmp R q k ≡ b → P b) [
        | true ↦ λ e. same (one q k ((Equal-is (R q k)).0 e))
        | false ↦ λ e. other (λ p. let itself : eq_by_cmp R q k ≡ true = subst (λ x. eq_by_cmp R q x ≡ true) p (ap is_eq (tied_itself o q)) in cc)
      ] refl

  module _ (keys : List K) (every : (q : K) → list_any (eq_by_cmp R q) keys ≡ true) where
    module _ {X : Type 0} where
      abbrev table : (K → X) → List K → List (K × X)
      table f ks = list_map (λ k. (k, f k)) ks

      find-table : (f : K → X) (q : K) (ks : List K) → map.find R q (table f ks) ≡ cond (list_any (eq_by_cmp R q) ks) (Some (f q)) None
      find-table f q [] = refl
      find-table f q (k ∷ ks) =
          by_key (λ b. cond b (Some (f k)) (map.find R q (table f ks)) ≡ cond (b || list_any (eq_by_cmp R q) ks) (Some (f q)) None) q k (λ e. ap (λ x. Some (f x)) (sym e)) (λ _. find-table f q ks)

      pub get-table : (f : K → X) (q : K) → map.get (map.from_entries {R = R} (table f keys)) q ≡ Some (f q)
      get-table f q = map.get-from_entries o (table f keys) q ∙ find-table f q keys ∙ ap (λ b. cond b (Some (f q)) None) (every q)

      -- if g is f except at one key, its map is that of f with this key put
      pub table-put : (f g : K → X) (k : K) (v : X) → g k ≡ v → ((q : K) → q ≢ k → g q ≡ f q) → map.from_entries {R = R} (table g keys) ≡ map.insert (map.from_entries (table f keys)) k v
      table-put f g k v here else =
          map.same_map o one _ _ (λ q.
          get-table g q
          ∙ by_key (λ b. Some (g q) ≡ cond b (Some v) (Some (f q))) q k (λ e. ap (λ x. Some (g x)) e ∙ ap Some here) (λ ne. ap Some (else q ne))
          ∙ ap (cond (eq_by_cmp R q k) (Some v)) (sym (get-table f q)) ∙ sym (map.get-insert o _ k v q))

    pub contains-members : (f : K → Bool) (q : K) → set.contains (set.from_list {R = R} (filter f keys)) q ≡ f q
    contains-members f q =
        set.contains-from_list o (filter f keys) q ∙ any-filter_same (eq_by_cmp R q) f (f q) (λ k e. ap f (sym (one q k ((Equal-is (R q k)).0 e)))) keys ∙ and_true (f q) _ (every q)

    pub members-insert : (f g : K → Bool) (k : K) → g k ≡ true → ((q : K) → q ≢ k → g q ≡ f q) → set.from_list {R = R} (filter g keys) ≡ set.insert (set.from_list (filter f keys)) k
    members-insert f g k here else =
        set.same_set o one _ _ (λ q.
        contains-members g q ∙ by_key (λ b. g q ≡ (b || f q)) q k (λ e. ap g e ∙ here) (else q) ∙ ap (λ b. eq_by_cmp R q k || b) (sym (contains-members f q)) ∙ sym (set.contains-insert o _ k q))

    pub members-remove : (f g : K → Bool) (k : K) → g k ≡ false → ((q : K) → q ≢ k → g q ≡ f q) → set.from_list {R = R} (filter g keys) ≡ set.remove (set.from_list (filter f keys)) k
    members-remove f g k here else =
        set.same_set o one _ _ (λ q.
        contains-members g q ∙ by_key (λ b. g q ≡ (not b && f q)) q k (λ e. ap g e ∙ here) (else q) ∙ ap (λ b. not (eq_by_cmp R q k) && b) (sym (contains-members f q)) ∙ sym (set.contains-remove o _ k q))
