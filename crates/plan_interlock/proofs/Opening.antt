-- The words of a plant are opened one after another, and then its passes are taken, one on each word for each machine.
use Rattle.std.proofs.Common.{◌≡◌, ℕ, suc, ◌+◌, ◌-◌, ◌<◌, ◌≤◌, min, true, false, nat_eq, nat_lt, None, List, [], ◌∷◌, ◌++◌, All, length, get_or, set, take, drop, map, refl, sym, ap, ◌∙◌, subst, arith, append_assoc}
use Rattle.std.proofs.lemmas.Bool.Decides.{nat_tests}
use Rattle.std.proofs.lemmas.List.{map_push, map_more, length-map, length-take-le, drop_more, get_or_at, set_at}
use Rattle.std.proofs.lemmas.List.Elements.{All-push, All-map, All-weaker, All-head, All-tail}
use Rattle.std.proofs.lemmas.List.Sums.{list_all-from_AllPass}
use Rattle.std.proofs.lemmas.List.FromFn.{map-range_with_len_more}
use Rattle.std.proofs.Math.Nat.{min-eq_left}
use Rattle.std.specs.List.{range_with_len}
use Rattle.plan_types.specs.Table.{watch}
use Rattle.plan_types.specs.declared.answer.Event.{Event}
use Rattle.plan_rules.specs.declared.state.State.{State}
use Rattle.word_interlock.specs.declared.views.ActorView.{ActorView}
use Rattle.word_interlock.specs.Views.{PassesView, pass_of, view_of}
use Rattle.word_interlock.specs.Rule.{new_view}
use Rattle.word_interlock.specs.Bunches.{fresh_passes}
use Rattle.plan_interlock.specs.declared.rules.PlanRules.{PlanRules}
use Rattle.plan_interlock.specs.declared.plant_make.WordOpening.{WordOpening}
use Rattle.plan_interlock.specs.Book.{callers_of, plan_of}
use Rattle.plan_interlock.specs.Plant.{IsOfPlant, WordView, RightView, PlantPassView}
use Rattle.plan_interlock.specs.PlantMake.{AreOpened, all_passes, callers, have_same_machines, machines_in, machines_of, new_pass, new_right, passes_left, plant_fault}

abbrev Passes : Type 0
Passes = PassesView PlanRules State ℕ Event

-- ---- faults

module _ (n : ℕ) where
  first_has : (words : List WordOpening) → 1 ≤ length words → All (λ w. machines_of w ≡ n) words → machines_in words ≡ n
  first_has [] some all = absurd (omega (arith, some))
  first_has (w ∷ rest) some all = All-head (λ w. machines_of w ≡ n) w rest all

  all_same : (words : List WordOpening) → 1 ≤ length words → All (λ w. machines_of w ≡ n) words → have_same_machines words ≡ true
  all_same words some all =
      let first = first_has words some all in
      list_all-from_AllPass (λ w. nat_eq (machines_of w) (machines_in words)) words (All-weaker (λ w. machines_of w ≡ n) (λ w. nat_eq (machines_of w) (machines_in words) ≡ true) (λ w e. grind (arith, nat_tests, e, first)) words all)

  pub first_machines : (words : List WordOpening) → 1 ≤ length words → All (λ w. machines_of w ≡ n) words → n ≡ machines_in words
  first_machines words some all = sym (first_has words some all)

  pub no_fault : (words : List WordOpening) (tries : ℕ) → 1 ≤ tries → tries ≤ 64 → 1 ≤ length words → length words ≤ 16 → All (λ w. machines_of w ≡ n) words → plant_fault words tries ≡ None
  no_fault words tries low high some few all =
      let a : nat_lt tries 1 ≡ false = grind (arith, nat_tests, low) in
      let b : nat_lt 64 tries ≡ false = grind (arith, nat_tests, high) in
      let d : nat_eq (length words) 0 ≡ false = grind (arith, nat_tests, some) in
      let e : nat_lt 16 (length words) ≡ false = grind (arith, nat_tests, few) in
      let f = all_same words some all in
      rw (a, b, d, e, f) refl

-- ---- words

-- one more of two lists that are mapped alike
push_both : {X Y Z : Type 0} (f : X → Z) (g : Y → Z) (xs : List X) (ys : List Y) (x : X) (y : Y) → map f xs ≡ map g ys → f x ≡ g y → map f (xs ++ x ∷ []) ≡ map g (ys ++ y ∷ [])
push_both f g xs ys x y all one = map_push f xs x ∙ (ap (λ zs. zs ++ f x ∷ []) all ∙ (ap (λ z. map g ys ++ z ∷ []) one ∙ sym (map_push g ys y)))

pub opened_more : (words : List WordOpening) (w : WordOpening) (tries : ℕ) (interlocks more : List WordView) (i : WordView) → AreOpened words tries interlocks → more ≡ interlocks ++ i ∷ []
    → i.rules ≡ w.rules → i.opening ≡ w.state → i.tries ≡ tries → AreOpened (words ++ w ∷ []) tries more
opened_more words w tries interlocks more i are pushed rules opening limit = subst (AreOpened (words ++ w ∷ []) tries) (sym pushed) (record {
  rules = push_both (λ i. i.rules) (λ w. w.rules) interlocks words i w are.rules rules;
  opening = push_both (λ i. i.opening) (λ w. w.state) interlocks words i w are.opening opening;
  limit = All-push (λ i. i.tries ≡ tries) interlocks i are.limit limit;
})

pub passes_more : (interlocks more : List WordView) (i : WordView) (rules : PlanRules) (passes later : List Passes) (all : Passes) → passes ≡ map all_passes interlocks → more ≡ interlocks ++ i ∷ [] → later ≡ passes ++ all ∷ []
    → i.rules ≡ rules → all ≡ fresh_passes i (callers_of (plan_of rules)) → later ≡ map all_passes more
passes_more interlocks more i rules passes later all are pushed taken by is =
    let own : all ≡ all_passes i = is ∙ ap (λ r. fresh_passes i (callers_of (plan_of r))) (sym by) in
    taken ∙ (ap (λ ps. ps ++ all ∷ []) are ∙ (ap (λ p. map all_passes interlocks ++ p ∷ []) own ∙ (sym (map_push all_passes interlocks i) ∙ ap (map all_passes) (sym pushed))))

-- all words have the callers of this number of machines
pub all_left : (n : ℕ) (interlocks : List WordView) (words : List WordOpening) → n ≤ 30 → map (λ i. i.rules) interlocks ≡ map (λ w. w.rules) words → All (λ w. machines_of w ≡ n) words
    → map all_passes interlocks ≡ passes_left interlocks (callers n)
all_left n [] words few by all = refl
all_left n (i ∷ rest) [] few by all = absurd cc
all_left n (i ∷ rest) (w ∷ others) few by all =
    let head : i.rules ≡ w.rules = cc in
    let tail : map (λ i. i.rules) rest ≡ map (λ w. w.rules) others = cc in
    let many : (plan_of i.rules).machines ≡ n = ap (λ r. (plan_of r).machines) head ∙ All-head (λ w. machines_of w ≡ n) w others all in
    let same : min (plan_of i.rules).machines 30 ≡ n = ap (λ k. min k 30) many ∙ min-eq_left few in
    let one : all_passes i ≡ fresh_passes i (callers n) = ap (λ k. fresh_passes i (range_with_len 0 k ++ watch ∷ [])) same in
    let more = all_left n rest others few tail (All-tail (λ w. machines_of w ≡ n) w others all) in
    ap (λ p. p ∷ map all_passes rest) one ∙ ap (λ ps. fresh_passes i (callers n) ∷ ps) more

-- ---- rights

abbrev Actors : Type 0
Actors = List (ActorView PlanRules State ℕ Event)

-- the first pass of a word is taken
record IsTaken (i : WordView) (actor : ℕ) (rest : List ℕ) (right : RightView) (q : Passes) : Type 0 where
  pub own : right ≡ new_right actor i
  pub others : q ≡ fresh_passes i rest

takes : (i : WordView) (actor : ℕ) (rest : List ℕ) (p q : Passes) (right : RightView) → p ≡ fresh_passes i (actor ∷ rest) → p.actors ≡ view_of right ∷ q.actors → right.table ≡ p.table → q.table ≡ p.table → IsTaken i actor rest right q
takes i actor rest p q right is took table same =
    let both : new_view i.rules i.opening actor ∷ map (new_view i.rules i.opening) rest ≡ view_of right ∷ q.actors = sym (ap (λ x. x.actors) is) ∙ took in
    let head : new_view i.rules i.opening actor ≡ view_of right = cc in
    let tail : map (new_view i.rules i.opening) rest ≡ q.actors = cc in
    let here : p.table ≡ i.table = ap (λ x. x.table) is in
    let whole : pass_of right.table (view_of right) ≡ new_right actor i = ap (λ v. pass_of right.table v) (sym head) ∙ ap (λ x. pass_of x (new_view i.rules i.opening actor)) (table ∙ here) in
    let passes : Passes → Passes = λ x. record { table = x.table; actors = x.actors } in
    let left : passes q ≡ fresh_passes i rest = ap (λ (x : Actors). record { table = q.table; actors = x }) (sym tail) ∙ ap (λ x. record { table = x; actors = map (new_view i.rules i.opening) rest }) (same ∙ here) in
    record { own = whole; others = left }

module _ (interlocks : List WordView) (word actor : ℕ) (i : WordView) (low : word < length interlocks) (is : i ≡ get_or interlocks word i) where
  -- the words before this one have handed the machine's pass out, the others haven't
  abbrev so_far : List ℕ → List Passes
  so_far rest = passes_left (take word interlocks) rest ++ passes_left (drop word interlocks) (actor ∷ rest)

  parted : (rest : List ℕ) → so_far rest ≡ passes_left (take word interlocks) rest ++ fresh_passes i (actor ∷ rest) ∷ passes_left (drop (word + 1) interlocks) (actor ∷ rest)
  parted rest =
      ap (λ is. passes_left (take word interlocks) rest ++ passes_left is (actor ∷ rest)) (drop_more interlocks word i low)
      ∙ ap (λ x. passes_left (take word interlocks) rest ++ fresh_passes x (actor ∷ rest) ∷ passes_left (drop (word + 1) interlocks) (actor ∷ rest)) (sym is)

  many : (rest : List ℕ) → length (passes_left (take word interlocks) rest) ≡ word
  many rest = length-map (take word interlocks) (λ i. fresh_passes i rest) ∙ length-take-le word interlocks (omega (arith, low))

  of_word : (rest : List ℕ) (passes : List Passes) (p : Passes) → passes ≡ so_far rest → p ≡ get_or passes word p → p ≡ fresh_passes i (actor ∷ rest)
  of_word rest passes p are read =
      read ∙ (ap (λ ps. get_or ps word p) (are ∙ parted rest) ∙ get_or_at (passes_left (take word interlocks) rest) (fresh_passes i (actor ∷ rest)) (passes_left (drop (word + 1) interlocks) (actor ∷ rest)) p word (many rest))

  pub rights_more : (rest : List ℕ) (passes : List Passes) (p q : Passes) (right : RightView) (rights more : List RightView) → passes ≡ so_far rest → p ≡ get_or passes word p → p.actors ≡ view_of right ∷ q.actors → right.table ≡ p.table
      → q.table ≡ p.table → rights ≡ map (new_right actor) (take word interlocks) → more ≡ rights ++ right ∷ [] → more ≡ map (new_right actor) (take (word + 1) interlocks)
  rights_more rest passes p q right rights more are read took table same so pushed =
      let one = takes i actor rest p q right (of_word rest passes p are read) took table same in
      pushed
      ∙ (ap (λ rs. rs ++ right ∷ []) so
      ∙ (ap (λ r. map (new_right actor) (take word interlocks) ++ r ∷ []) (one.own ∙ ap (new_right actor) is) ∙ sym (map_more (new_right actor) interlocks word i low)))

  pub left_more : (rest : List ℕ) (passes : List Passes) (p q : Passes) (right : RightView) → passes ≡ so_far rest → p ≡ get_or passes word p → p.actors ≡ view_of right ∷ q.actors → right.table ≡ p.table → q.table ≡ p.table
      → set passes word q ≡ passes_left (take (word + 1) interlocks) rest ++ passes_left (drop (word + 1) interlocks) (actor ∷ rest)
  left_more rest passes p q right are read took table same =
      let one = takes i actor rest p q right (of_word rest passes p are read) took table same in
      let before = passes_left (take word interlocks) rest in
      let later = passes_left (drop (word + 1) interlocks) (actor ∷ rest) in
      ap (λ ps. set ps word q) (are ∙ parted rest)
      ∙ (set_at before (fresh_passes i (actor ∷ rest)) later q word (many rest)
      ∙ (ap (λ x. before ++ x ∷ later) (one.others ∙ ap (λ x. fresh_passes x rest) is)
      ∙ (sym (append_assoc before (fresh_passes (get_or interlocks word i) rest ∷ []) later)
      ∙ ap (λ ps. ps ++ later) (sym (map_more (λ i. fresh_passes i rest) interlocks word i low)))))

-- ---- passes

pub rights_of : (m : ℕ) (words : List WordView) (rights : List RightView) → rights ≡ map (new_right m) words → All (λ v. v.actor ≡ m) rights
rights_of m words rights are = subst (All (λ v. v.actor ≡ m)) (sym are) (All-map (λ v. v.actor ≡ m) (new_right m) words (λ k d low. refl))

next_callers : (m n : ℕ) → m < n → range_with_len m (n - m) ++ watch ∷ [] ≡ m ∷ (range_with_len (m + 1) (n - (m + 1)) ++ watch ∷ [])
next_callers m n few = let one : n - m ≡ suc (n - (m + 1)) = omega arith in ap (λ k. range_with_len m k ++ watch ∷ []) one

pub its_turn : (words : List WordView) (m n : ℕ) (passes : List Passes) → m < n → passes ≡ passes_left words (range_with_len m (n - m) ++ watch ∷ [])
    → passes ≡ passes_left words (m ∷ (range_with_len (m + 1) (n - (m + 1)) ++ watch ∷ []))
its_turn words m n passes few are = are ∙ ap (passes_left words) (next_callers m n few)

pub made_more : (words : List WordView) (m : ℕ) (made more : List PlantPassView) (pass : PlantPassView) (rights : List RightView) → made ≡ map (new_pass words) (range_with_len 0 m) → rights ≡ map (new_right m) words
    → pass ≡ record { actor = m; rights = rights } → more ≡ made ++ pass ∷ [] → more ≡ map (new_pass words) (range_with_len 0 (m + 1))
made_more words m made more pass rights so are is pushed =
    let own : pass ≡ new_pass words m = is ∙ ap (λ rs. record { actor = m; rights = rs }) are in
    pushed
    ∙ (ap (λ ps. ps ++ pass ∷ []) so
    ∙ (ap (λ p. map (new_pass words) (range_with_len 0 m) ++ p ∷ []) own ∙ sym (map-range_with_len_more (new_pass words) 0 m m (omega arith))))

-- each is of the interlock
of_plant : (words : List WordView) (m : ℕ) → IsOfPlant words (new_pass words m)
of_plant [] m = refl
of_plant (i ∷ rest) m = ap (λ ts. i.table ∷ ts) (of_plant rest m)

pub all_of_plant : (words : List WordView) (callers : List ℕ) (passes : List PlantPassView) → passes ≡ map (new_pass words) callers → All (IsOfPlant words) passes
all_of_plant words callers passes are = subst (All (IsOfPlant words)) (sym are) (All-map (IsOfPlant words) (new_pass words) callers (λ k d low. of_plant words (get_or callers k d)))
