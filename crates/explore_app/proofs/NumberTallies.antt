-- Tallies and bounds, whatever their numbers are.
use Rattle.std.proofs.Common.{◌≡◌, ◌≢◌, ◌≤◌, ◌<◌, ◌+◌, ◌-◌, ◌==◌, ℕ, Bool, true, false, ◌&&◌, ◌||◌, if◌then◌else◌, List, [], ◌++◌, append_assoc, append-nil, codes, nat_lt, refl, sym, ap, ◌∙◌, arith}
use Rattle.std.specs.Prelude.{max, min}
use Rattle.std.specs.Fmt.{decimal}
use Rattle.std.proofs.Math.Nat.{le-max_left, le-max_right, max-eq_left, max-eq_right, max-le, max_comm, min-eq_left, min-eq_right}
use Rattle.std.proofs.lemmas.Bool.Decides.{nat_tests}
use Rattle.explore_app.specs.declared.liveness.Liveness.{Liveness}
use Rattle.explore_app.specs.declared.liveness.Liveness.TheVariants.{Starves, Unknown, Within}
use Rattle.explore_app.specs.declared.tally.Tally.{Tally}
use Rattle.explore_app.specs.Bounds.{Text, bound_words, either_bound}
use Rattle.explore_app.specs.Liveness.{both, liveness_of, liveness_of_each, may_starve}
use Rattle.explore_app.specs.Tallies.{counted, found_words, free_words, going_words, refused_words, situations_words, standing_words, starving_words, tally_line, turns_words, unknown, unknown_words, within_words}
use Rattle.explore_app.specs.TalliesByNumber.{GoingByNumber, IsCount, IsGreater, IsSmaller, LivenessByNumber, TalliesByNumber, TallyLines, TallyLinesByNumber, starving_part, unknown_part}
use Rattle.explore_app.proofs.NumberLines.{within}

-- ---- two numbers

greater : (a b : ℕ) → IsGreater a b (max a b)
greater a b = record { is_left = max-eq_left; is_right = max-eq_right }

smaller : (a b : ℕ) → IsSmaller a b (min a b)
smaller a b = record { is_left = min-eq_left; is_right = min-eq_right }

count : (a b : ℕ) → IsCount a b (counted (a + b))
count a b = record { is_sum = min-eq_left; is_most = min-eq_right }

pub tallies : TalliesByNumber
tallies = record {
  within = λ situations b. refl;
  starves = λ situations. refl;
  unknown = λ situations. refl;
  standstill = λ way. refl;
  refusal = λ way. refl;
  both = λ a b. record {
    starts = count a.starts b.starts;
    free = count a.free b.free;
    refused = count a.refused b.refused;
    bounded = count a.bounded b.bounded;
    plain = greater a.bound.plain b.bound.plain;
    helped = greater a.bound.helped b.bound.helped;
    starving = count a.starving b.starving;
    most_situations = greater a.most_situations b.most_situations;
    fewest_turns = smaller a.fewest_turns b.fewest_turns;
    most_turns = greater a.most_turns b.most_turns;
  };
}

-- ---- lines

-- two tests of numbers
no_equal : (a b : ℕ) → a ≢ b → (a == b) ≡ false
no_equal a b apart = by (a == b) refl where
  by : (r : Bool) → (a == b) ≡ r → (a == b) ≡ false
  by true e = absurd (apart (grind (arith, nat_tests)))
  by false e = e

equal : (a b : ℕ) → a ≡ b → (a == b) ≡ true
equal a b is = grind (arith, nat_tests)

-- in whatever order the pieces are joined
abbrev front : List ℕ → List ℕ → List ℕ
front p s = codes "plates " ++ p ++ codes " starts " ++ s ++ codes ": "

free_shape : (head p s n g : List ℕ) → head ++ p ++ codes " starts " ++ s ++ codes ": " ++ (codes "no standstill before the last stamp; at most " ++ n ++ codes " situations" ++ g) ++ codes "\n"
    ≡ head ++ (p ++ (codes " starts " ++ (s ++ (codes ": " ++ (codes "no standstill before the last stamp; at most " ++ (n ++ (codes " situations" ++ (g ++ codes "\n"))))))))
free_shape head p s n g = simp append_assoc

still_shape : (head p s n f m : List ℕ) → head ++ p ++ codes " starts " ++ s ++ codes ": " ++ (n ++ codes " stand still" ++ [] ++ (codes " after " ++ f ++ codes " to " ++ m ++ codes " turns")) ++ codes "\n"
    ≡ head ++ (p ++ (codes " starts " ++ (s ++ (codes ": " ++ (n ++ (codes " stand still" ++ (codes " after " ++ (f ++ (codes " to " ++ (m ++ codes " turns\n"))))))))))
still_shape head p s n f m = simp (append_assoc, append-nil)

refused_shape : (head p s n r f m : List ℕ)
    → head ++ p ++ codes " starts " ++ s ++ codes ": " ++ (n ++ codes " stand still" ++ (codes ", and in " ++ r ++ codes " a machine is stopped by a refusal,") ++ (codes " after " ++ f ++ codes " to " ++ m ++ codes " turns")) ++ codes "\n"
    ≡ head ++ (p ++ (codes " starts " ++ (s ++ (codes ": " ++ (n ++ (codes " stand still, and in " ++ (r ++ (codes " a machine is stopped by a refusal," ++ (codes " after " ++ (f ++ (codes " to " ++ (m ++ codes " turns\n"))))))))))))
refused_shape head p s n r f m = simp append_assoc

module _ (plates : ℕ) (t : Tally) where
  -- by what was found, and by whether some are refused
  found : (is_free : Bool) → (t.free == t.starts) ≡ is_free
      → tally_line plates t ≡ codes "plates " ++ decimal plates ++ codes " starts " ++ decimal t.starts ++ codes ": " ++ (if is_free then free_words t else (standing_words t ++ refused_words t ++ turns_words t)) ++ codes "\n"
  unfolding tally_line found_words
  found is_free e = ap (λ b. codes "plates " ++ decimal plates ++ codes " starts " ++ decimal t.starts ++ codes ": " ++ (if b then free_words t else (standing_words t ++ refused_words t ++ turns_words t)) ++ codes "\n") e

  some_refused : (none : Bool) → (t.refused == 0) ≡ none → refused_words t ≡ (if none then [] else codes ", and in " ++ decimal t.refused ++ codes " a machine is stopped by a refusal,")
  unfolding refused_words
  some_refused none e = ap (λ b. if b then [] else codes ", and in " ++ decimal t.refused ++ codes " a machine is stopped by a refusal,") e

  abbrev standing : ℕ → List ℕ → Text
  standing n refused = codes "plates " ++ decimal plates ++ codes " starts " ++ decimal t.starts ++ codes ": " ++ (decimal n ++ codes " stand still" ++ refused ++ turns_words t) ++ codes "\n"

  line : TallyLines plates t
  unfolding free_words situations_words standing_words turns_words
  line = record {
    free = λ is. found true (equal t.free t.starts is) ∙ free_shape (codes "plates ") (decimal plates) (decimal t.starts) (decimal t.most_situations) (going_words t);
    still = λ still apart none sum.
        let n : t.starts - t.free - t.refused ≡ still = omega (arith, sum, none) in
        found false (no_equal t.free t.starts apart) ∙ ap (λ r. standing (t.starts - t.free - t.refused) r) (some_refused true (equal t.refused 0 none)) ∙ ap (λ k. standing k []) n
        ∙ still_shape (codes "plates ") (decimal plates) (decimal t.starts) (decimal still) (decimal t.fewest_turns) (decimal t.most_turns);
    refused = λ still apart some sum.
        let n : t.starts - t.free - t.refused ≡ still = omega (arith, sum) in
        let words = codes ", and in " ++ decimal t.refused ++ codes " a machine is stopped by a refusal," in
        found false (no_equal t.free t.starts apart) ∙ ap (λ r. standing (t.starts - t.free - t.refused) r) (some_refused false (no_equal t.refused 0 (λ e. omega (arith, e, some)))) ∙ ap (λ k. standing k words) n
        ∙ refused_shape (codes "plates ") (decimal plates) (decimal t.starts) (decimal still) (decimal t.refused) (decimal t.fewest_turns) (decimal t.most_turns);
  }

-- ---- what is said of the plates

and_false : (b : Bool) → (b && false) ≡ false
and_false true = refl
and_false false = refl

module _ (t : Tally) (unknown_count : ℕ) (sum : t.free ≡ t.bounded + t.starving + unknown_count) where
  some_unknown : (none : Bool) → (unknown t == 0) ≡ none → unknown_words t ≡ (if none then [] else codes "; of " ++ decimal (unknown t) ++ codes " it isn't known whether each machine moves plates for ever")
  unfolding unknown_words
  some_unknown none e = ap (λ b. if b then [] else codes "; of " ++ decimal (unknown t) ++ codes " it isn't known whether each machine moves plates for ever") e

  some_starve : (none : Bool) → (t.starving == 0) ≡ none → starving_words t ≡ (if none then [] else codes "; from " ++ decimal t.starving ++ codes " a machine may move no plate for ever")
  unfolding starving_words
  some_starve none e = ap (λ b. if b then [] else codes "; from " ++ decimal t.starving ++ codes " a machine may move no plate for ever") e

  some_within : (all : Bool) → (nat_lt 0 t.bounded && (t.bounded == t.free)) ≡ all → within_words t ≡ (if all then codes "; each machine moves a plate within " ++ bound_words t.bound else [])
  unfolding within_words
  some_within all e = ap (λ b. if b then codes "; each machine moves a plate within " ++ bound_words t.bound else []) e

  left : unknown t ≡ unknown_count
  left = omega (arith, sum)

  none_unknown : unknown_count ≡ 0 → unknown_words t ≡ []
  none_unknown none = some_unknown true (equal (unknown t) 0 (left ∙ none))

  of_unknown : 0 < unknown_count → unknown_words t ≡ unknown_part unknown_count
  of_unknown some = some_unknown false (no_equal (unknown t) 0 (λ e. let n = left in omega (arith, some, n, e))) ∙ ap unknown_part left

  none_starve : t.starving ≡ 0 → starving_words t ≡ []
  none_starve none = some_starve true (equal t.starving 0 none)

  of_starving : 0 < t.starving → starving_words t ≡ starving_part t
  of_starving some = some_starve false (no_equal t.starving 0 (λ e. omega (arith, some, e)))

  not_all : t.bounded ≢ t.free → within_words t ≡ []
  not_all apart = some_within false (rw (no_equal t.bounded t.free apart) (and_false (nat_lt 0 t.bounded)))

  none_bounded : t.bounded ≡ 0 → within_words t ≡ []
  none_bounded none = some_within false (rw none refl)

  all_bounded : 0 < t.bounded → t.bounded ≡ t.free → within_words t ≡ codes "; each machine moves a plate within " ++ bound_words t.bound
  all_bounded some all =
      let below : nat_lt 0 t.bounded ≡ true = grind (arith, nat_tests) in
      some_within true (rw (below, equal t.bounded t.free all) refl)

  in_parts : (a b c : List ℕ) → starving_words t ≡ a → unknown_words t ≡ b → within_words t ≡ c → going_words t ≡ a ++ b ++ c
  unfolding going_words
  in_parts a b c is_a is_b is_c = λ i. is_a i ++ is_b i ++ is_c i

  going : GoingByNumber t unknown_count
  going = record {
    no_start = λ none.
        let no_bound : t.bounded ≡ 0 = omega (arith, sum, none) in
        let no_starving : t.starving ≡ 0 = omega (arith, sum, none) in
        let no_unknown : unknown_count ≡ 0 = omega (arith, sum, none) in
        in_parts [] [] [] (none_starve no_starving) (none_unknown no_unknown) (none_bounded no_bound);
    all_go_on = λ no_starving no_unknown some.
        let all : t.bounded ≡ t.free = omega (arith, sum, no_starving, no_unknown) in
        let some_bounded : 0 < t.bounded = omega (arith, all, some) in
        let words = codes "; each machine moves a plate within " in
        in_parts [] [] (words ++ bound_words t.bound) (none_starve no_starving) (none_unknown no_unknown) (all_bounded some_bounded all) ∙ sym (append-nil (words ++ bound_words t.bound)) ∙ within words [] t.bound;
    some_starve = λ some no_unknown.
        let apart : t.bounded ≢ t.free = λ e. omega (arith, sum, some, e) in
        in_parts (starving_part t) [] [] (of_starving some) (none_unknown no_unknown) (not_all apart) ∙ append-nil (starving_part t ++ []) ∙ append-nil (starving_part t);
    some_unknown = λ no_starving some.
        let apart : t.bounded ≢ t.free = λ e. omega (arith, sum, some, e) in
        in_parts [] (unknown_part unknown_count) [] (none_starve no_starving) (of_unknown some) (not_all apart) ∙ append-nil (unknown_part unknown_count);
    some_of_each = λ starving some.
        let apart : t.bounded ≢ t.free = λ e. omega (arith, sum, some, e) in
        in_parts (starving_part t) (unknown_part unknown_count) [] (of_starving starving) (of_unknown some) (not_all apart) ∙ append-nil (starving_part t ++ unknown_part unknown_count);
  }

pub lines : (t : Tally) → TallyLinesByNumber t
lines t = record { line = λ plates. line plates t; going = λ unknown sum. going t unknown sum }

-- ---- whether plates go on

greatest : (a b c : ℕ) → max (max a b) c ≡ max a (max b c)
greatest a b c =
    let l = le-max_left a b in
    let r = le-max_right a b in
    let m = le-max_left b c in
    let n = le-max_right b c in
    let p = le-max_left a (max b c) in
    let q = le-max_right a (max b c) in
    let s = le-max_left (max a b) c in
    let u = le-max_right (max a b) c in
    let left : max (max a b) c ≤ max a (max b c) = max-le (max-le p (omega (arith, m, q))) (omega (arith, n, q)) in
    let right : max a (max b c) ≤ max (max a b) c = max-le (omega (arith, l, s)) (max-le (omega (arith, r, s)) u) in
    omega (arith, left, right)

one_after_another : (x y z : Liveness) → both (both x y) z ≡ both x (both y z)
one_after_another Starves y z = refl
one_after_another (Within a) Starves z = refl
one_after_another (Within a) Unknown Starves = refl
one_after_another (Within a) Unknown Unknown = refl
one_after_another (Within a) Unknown (Within c) = refl
one_after_another (Within a) (Within b) Starves = refl
one_after_another (Within a) (Within b) Unknown = refl
one_after_another (Within a) (Within b) (Within c) = λ i. Within (record { plain = greatest a.plain b.plain c.plain i; helped = greatest a.helped b.helped c.helped i })
one_after_another Unknown Starves z = refl
one_after_another Unknown Unknown Starves = refl
one_after_another Unknown Unknown Unknown = refl
one_after_another Unknown Unknown (Within c) = refl
one_after_another Unknown (Within b) Starves = refl
one_after_another Unknown (Within b) Unknown = refl
one_after_another Unknown (Within b) (Within c) = refl

either_first : (x y : Liveness) → both x y ≡ both y x
either_first Starves Starves = refl
either_first Starves Unknown = refl
either_first Starves (Within b) = refl
either_first Unknown Starves = refl
either_first Unknown Unknown = refl
either_first Unknown (Within b) = refl
either_first (Within a) Starves = refl
either_first (Within a) Unknown = refl
either_first (Within a) (Within b) = λ i. Within (record { plain = max_comm a.plain b.plain i; helped = max_comm a.helped b.helped i })

six : (f t r p d c : Liveness) → both (both (both f d) (both t r)) (both p c) ≡ both f (both t (both r (both p (both d c))))
six f t r p d c =
    one_after_another (both f d) (both t r) (both p c) ∙ one_after_another f d (both (both t r) (both p c))
    ∙ ap (both f)
    (either_first d (both (both t r) (both p c)) ∙ ap (λ x. both x d) (one_after_another t r (both p c)) ∙ one_after_another t (both r (both p c)) d
    ∙ ap (both t) (one_after_another r (both p c) d ∙ ap (both r) (one_after_another p c d ∙ ap (both p) (either_first c d))))

starves_beside : (l : Liveness) → both l Starves ≡ Starves
starves_beside Starves = refl
starves_beside Unknown = refl
starves_beside (Within b) = refl

pub liveness : LivenessByNumber
liveness = record {
  within = λ plain helped. refl;
  both_within = λ a b. (either_bound a b, refl, greater a.plain b.plain, greater a.helped b.helped);
  one_unknown = λ b. (refl, refl);
  one_starves = λ l. (refl, starves_beside l);
  each = λ p. six (liveness_of p.feed) (liveness_of p.table) (liveness_of p.robot) (liveness_of p.press) (liveness_of p.deposit) (liveness_of p.crane);
  within_warns_not = λ b. refl;
  none_warns = λ p any each. ap (λ b. b || may_starve (liveness_of_each p)) any ∙ each;
}
