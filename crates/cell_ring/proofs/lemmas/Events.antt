-- What one event of a legal history does to the plates on the ring, and where it takes each of them.
use Rattle.cell_ring.proofs.Names.{◌≡◌, ◌≢◌, ℕ, ◌+◌, ◌≤◌, Bool, true, false, ◌&&◌, cond, ◌⊎◌, inl, inr, refl, sym, ap, ◌∙◌, arith, count_by, Machine, Call, Give, Take, Advance, Event, ModelState, IsSound, reply, next, is_done, one_if, never, event_cases}
use Rattle.cell_ring.specs.Lap.{Position, all_positions, same_position}
use Rattle.cell_ring.specs.Plates.{has_plate, takes_away, moves_plate, GoesOn}
use Rattle.cell_ring.proofs.Ring.{one_position, not_same}
use Rattle.cell_ring.proofs.Sums.{sum_plus, sum_le, sum_here, some_counted}
use Rattle.cell_ring.proofs.Calls.{follows}

-- ---- a test that one position alone passes

abbrev unit : Bool → ℕ
unit b = cond b 1 0

passed_there : (P : Position → Bool) (p r : Position) → P p ≡ true → same_position p r ≡ true → unit (P r) ≡ 1
passed_there P p r a e = ap unit (ap P (sym (one_position p r e)) ∙ a)

both_at_most : (P : Position → Bool) (p q : Position) → P p ≡ true → P q ≡ true → same_position p q ≡ false → (r : Position)
    → unit (same_position p r) + unit (same_position q r) ≤ unit (P r)
both_at_most P p q a b apart r =
    let At : Bool → Bool → Type 0 = λ x y. same_position p r ≡ x → same_position q r ≡ y → unit x + unit y ≤ unit (P r) in
    elim (same_position p r) as (λ x. At x (same_position q r)) [
      | true ↦ elim (same_position q r) as (At true) [
        | true ↦ λ e f. absurd (never (sym (ap (same_position p) (one_position q r f) ∙ e) ∙ apart))
        | false ↦ λ e f. omega (arith, passed_there P p r a e)
      ]
      | false ↦ elim (same_position q r) as (At false) [
        | true ↦ λ e f. omega (arith, passed_there P q r b f)
        | false ↦ λ e f. omega arith
      ]
    ] refl refl

only_one : (P : Position → Bool) (p q : Position) → count_by P all_positions ≡ 1 → P p ≡ true → P q ≡ true → p ≢ q → ⊥
only_one P p q one a b apart =
    let two = sum_plus (λ r. cond (same_position p r) 1 0) (λ r. cond (same_position q r) 1 0) all_positions in
    let less = sum_le (λ r. cond (same_position p r) 1 0 + cond (same_position q r) 1 0) (λ r. cond (P r) 1 0) (both_at_most P p q a b (not_same p q apart)) all_positions in
    omega (arith, two, less, one, sum_here p 1, sum_here q 1)

-- ---- an event, of which `done` says whether it is Done, moves no plate, or that of one position

pub record Stays (done : Bool) (s t : ModelState) (m : Machine) (c : Call) : Type 0 where
  pub nobody : (p : Position) → (done && takes_away m c p) ≡ false
  pub same : (p : Position) → has_plate t p ≡ has_plate s p
  pub no_move : (done && moves_plate c) ≡ false

pub record Moves (done : Bool) (s t : ModelState) (m : Machine) (c : Call) : Type 0 where
  pub who : Position
  pub moves : (done && takes_away m c who) ≡ true
  pub others : (p : Position) → p ≢ who → (done && takes_away m c p) ≡ false
  pub on : GoesOn s t who
  pub move : (done && moves_plate c) ≡ true

abbrev pub Happens : Bool → ModelState → ModelState → Machine → Call → Type 0
Happens done s t m c = Stays done s t m c ⊎ Moves done s t m c

nobody_takes : (m : Machine) (c : Call) (p : Position) → moves_plate c ≡ false → takes_away m c p ≡ false
nobody_takes m (Give z) p e = cc
nobody_takes m (Take z) p e = cc
nobody_takes m Advance p e = cc
nobody_takes m _ p e = refl

not_true_is : (b : Bool) → (b ≡ true → ⊥) → b ≡ false
not_true_is true f = absurd (f refl)
not_true_is false f = refl

done_happens : (s : ModelState) (m : Machine) (c : Call) → IsSound s → (t : ModelState) → ((p : Position) → takes_away m c p ≡ true → GoesOn s t p)
    → (moves_plate c ≡ false → (p : Position) → has_plate t p ≡ has_plate s p) → count_by (takes_away m c) all_positions ≡ one_if (moves_plate c) → Happens true s t m c
done_happens s m c h t on still one =
    let At : Bool → Type 0 = λ b. moves_plate c ≡ b → Happens true s t m c in
    elim (moves_plate c) as At [
      | true ↦ λ e.
          let once = one ∙ ap one_if e in
          let found = some_counted (takes_away m c) all_positions once in
          inr (record {
            who = found.0;
            moves = found.1;
            others = λ p apart. not_true_is (takes_away m c p) (λ mine. only_one (takes_away m c) p found.0 once mine found.1 apart);
            on = on found.0 found.1;
            move = e;
          })
      | false ↦ λ e. inl (record { nobody = λ p. nobody_takes m c p e; same = still e; no_move = e })
    ] refl

pub happens : (s : ModelState) (e : Event) → IsSound s → e.answer ≡ reply s e.machine e.call → Happens (is_done e) s (next s e.machine e.call) e.machine e.call
happens s e h l =
    let m = e.machine in
    let c = e.call in
    event_cases (λ b t. Happens b s t m c) s e l
    (λ d. let f = follows s m c h d in done_happens s m c h _ f.goes_on f.still f.one_plate)
    (inl (record { nobody = λ p. refl; same = λ p. refl; no_move = refl }))
