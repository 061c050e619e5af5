-- Plates followed along a legal history.
use Rattle.cell_ring.proofs.Names.{◌≡◌, ◌≢◌, ℕ, suc, ◌+◌, ◌≤◌, ◌<◌, Bool, true, false, cond, inl, inr, if◌then◌else◌, refl, sym, ap, subst, ◌∙◌, arith, List, [], ◌∷◌, sum_by, sum_by-cons, sum-map, Event, ModelState, IsSound, IsLegal, next, after, is_done, one_if, never, next_keeps}
use Rattle.cell_ring.specs.Lap.{Position, next_position, all_positions, same_position, distance, position_on}
use Rattle.cell_ring.specs.Plates.{has_plate, plates_in, GoesOn}
use Rattle.cell_ring.specs.Following.{is_plate_move, is_move_from, position_after_event, position_after, plate_moves, moves_of, PlatesAreFollowed, NoneOvertakes}
use Rattle.cell_ring.proofs.Ring.{one_position, not_same, same-self, reached}
use Rattle.cell_ring.proofs.Sums.{bit, sum_plus, sum_same, sum_here, sum_times, sum_filter}
use Rattle.cell_ring.proofs.Journeys.{nearer, farther, far, between, to_itself}
use Rattle.cell_ring.proofs.lemmas.Events.{Moves, Happens, happens}

differ : (p q : Position) → same_position p q ≡ false → p ≢ q
differ p q f e = never (sym (same-self p) ∙ ap (same_position p) e ∙ f)

moved_yes : (p : Position) (e : Event) → is_move_from p e ≡ true → position_after_event p e ≡ next_position p
moved_yes p e h = ap (λ b. if b then next_position p else p) h

moved_no : (p : Position) (e : Event) → is_move_from p e ≡ false → position_after_event p e ≡ p
moved_no p e h = ap (λ b. if b then next_position p else p) h

abbrev After : Event → ModelState → ModelState → Type 0
After e s t = Happens (is_done e) s t e.machine e.call

-- ---- one plate, after one event

not_next : (s t : ModelState) (w p : Position) → GoesOn s t w → has_plate s p ≡ true → p ≢ next_position w
not_next s t w p on there e = never (sym there ∙ ap (has_plate s) e ∙ on.room)

there_after : (s t : ModelState) (e : Event) → After e s t → (p : Position) → has_plate s p ≡ true → has_plate t (position_after_event p e) ≡ true
there_after s t e (inl k) p there = ap (has_plate t) (moved_no p e (k.nobody p)) ∙ k.same p ∙ there
there_after s t e (inr k) p there =
    let At : Bool → Type 0 = λ b. same_position p k.who ≡ b → has_plate t (position_after_event p e) ≡ true in
    elim (same_position p k.who) as At [
      | true ↦ λ f. subst (λ x. has_plate t (position_after_event x e) ≡ true) (sym (one_position p k.who f)) (ap (has_plate t) (moved_yes k.who e k.moves) ∙ k.on.come)
      | false ↦ λ f. let apart = differ p k.who f in ap (has_plate t) (moved_no p e (k.others p apart)) ∙ k.on.others p apart (not_next s t k.who p k.on there) ∙ there
    ] refl

-- where the plate at a position came from
abbrev ComesFrom : ModelState → Event → Position → Type 0
ComesFrom s e q = (p : Position) × (has_plate s p ≡ true) × (position_after_event p e ≡ q)

came_from : (s t : ModelState) (e : Event) → After e s t → (q : Position) → has_plate t q ≡ true → ComesFrom s e q
came_from s t e (inl k) q there = (q, sym (k.same q) ∙ there, moved_no q e (k.nobody q))
came_from s t e (inr k) q there =
    let n = next_position k.who in
    let At : Bool → Type 0 = λ b. same_position q n ≡ b → ComesFrom s e q in
    elim (same_position q n) as At [
      | true ↦ λ f. (k.who, k.on.there, moved_yes k.who e k.moves ∙ sym (one_position q n f))
      | false ↦ λ f.
          let not_who : q ≢ k.who = λ x. never (sym there ∙ ap (has_plate t) x ∙ k.on.gone) in
          (q, sym (k.on.others q not_who (differ q n f)) ∙ there, moved_no q e (k.others q not_who))
    ] refl

-- ---- two plates, after one event

record Pair (e : Event) (p q : Position) : Type 0 where
  apart : position_after_event p e ≢ position_after_event q e
  gap : distance (position_after_event p e) (position_after_event q e) + one_if (is_move_from p e) ≡ distance p q + one_if (is_move_from q e)

neither : (e : Event) (p q : Position) → p ≢ q → is_move_from p e ≡ false → is_move_from q e ≡ false → Pair e p q
neither e p q apart a b = record {
  apart = λ x. apart (sym (moved_no p e a) ∙ x ∙ moved_no q e b);
  gap = (λ i. distance (moved_no p e a i) (moved_no q e b i) + one_if (a i)) ∙ (λ i. distance p q + one_if (sym b i));
}

first_moves : (s t : ModelState) (e : Event) (p q : Position) → p ≢ q → is_move_from p e ≡ true → is_move_from q e ≡ false → GoesOn s t p → has_plate s q ≡ true → Pair e p q
first_moves s t e p q apart a b on there = record {
  apart = λ x. not_next s t p q on there (sym (moved_no q e b) ∙ sym x ∙ moved_yes p e a);
  gap = (λ i. distance (moved_yes p e a i) (moved_no q e b i) + one_if (a i)) ∙ let here = nearer p q apart in let now : distance (next_position p) q + 1 ≡ distance p q + 0 = omega arith in now ∙ (λ i. distance p q + one_if (sym b i));
}

second_moves : (s t : ModelState) (e : Event) (p q : Position) → p ≢ q → is_move_from p e ≡ false → is_move_from q e ≡ true → GoesOn s t q → has_plate s p ≡ true → Pair e p q
second_moves s t e p q apart a b on there =
    let clear : p ≢ next_position q = not_next s t q p on there in
    record {
      apart = λ x. clear (sym (moved_no p e a) ∙ x ∙ moved_yes q e b);
      gap = (λ i. distance (moved_no p e a i) (moved_yes q e b i) + one_if (a i)) ∙ let here = farther p q (λ x. clear (sym x)) in let now : distance p (next_position q) + 0 ≡ distance p q + 1 = omega arith in now ∙ (λ i. distance p q + one_if (sym b i));
    }

pair_after : (s t : ModelState) (e : Event) → After e s t → (p q : Position) → has_plate s p ≡ true → has_plate s q ≡ true → p ≢ q → Pair e p q
pair_after s t e (inl k) p q a b apart = neither e p q apart (k.nobody p) (k.nobody q)
pair_after s t e (inr k) p q a b apart =
    let w = k.who in
    let First : Bool → Type 0 = λ x. same_position p w ≡ x → Pair e p q in
    elim (same_position p w) as First [
      | true ↦ λ f.
          let here = one_position p w f in
          let not_who : q ≢ w = λ x. apart (here ∙ sym x) in
          first_moves s t e p q apart (ap (λ x. is_move_from x e) here ∙ k.moves) (k.others q not_who) (subst (GoesOn s t) (sym here) k.on) b
      | false ↦ λ f.
          let Second : Bool → Type 0 = λ x. same_position q w ≡ x → Pair e p q in
          elim (same_position q w) as Second [
            | true ↦ λ g.
                let here = one_position q w g in
                second_moves s t e p q apart (k.others p (differ p w f)) (ap (λ x. is_move_from x e) here ∙ k.moves) (subst (GoesOn s t) (sym here) k.on) a
            | false ↦ λ g. neither e p q apart (k.others p (differ p w f)) (k.others q (differ q w g))
          ] refl
    ] refl

-- ---- along a history

there_along : (s : ModelState) (h : List Event) → IsSound s → IsLegal s h → (p : Position) → has_plate s p ≡ true → has_plate (after s h) (position_after p h) ≡ true
there_along s [] k l p there = there
there_along s (e ∷ h) k l p there =
    let t = next s e.machine e.call in
    there_along t h (next_keeps s e.machine e.call k) l.1 (position_after_event p e) (there_after s t e (happens s e k l.0) p there)

record PairAlong (h : List Event) (p q : Position) : Type 0 where
  apart : position_after p h ≢ position_after q h
  gap : distance (position_after p h) (position_after q h) + moves_of p h ≡ distance p q + moves_of q h

pair_along : (s : ModelState) (h : List Event) → IsSound s → IsLegal s h → (p q : Position) → has_plate s p ≡ true → has_plate s q ≡ true → p ≢ q → PairAlong h p q
pair_along s [] k l p q a b apart = record { apart = apart; gap = refl }
pair_along s (e ∷ h) k l p q a b apart =
    let t = next s e.machine e.call in
    let event = happens s e k l.0 in
    let here = pair_after s t e event p q a b apart in
    let rest = pair_along t h (next_keeps s e.machine e.call k) l.1 (position_after_event p e) (position_after_event q e) (there_after s t e event p a) (there_after s t e event q b) here.apart in
    record { apart = rest.apart; gap = omega (arith, rest.gap, here.gap) }

apart_along : (s : ModelState) (h : List Event) → IsSound s → IsLegal s h → (p q : Position) → has_plate s p ≡ true → has_plate s q ≡ true → position_after p h ≡ position_after q h → p ≡ q
apart_along s h k l p q a b e =
    let At : Bool → Type 0 = λ x. same_position p q ≡ x → p ≡ q in
    elim (same_position p q) as At [
      | true ↦ λ f. one_position p q f
      | false ↦ λ f. absurd ((pair_along s h k l p q a b (differ p q f)).apart e)
    ] refl

from_along : (s : ModelState) (h : List Event) → IsSound s → IsLegal s h → (q : Position) → has_plate (after s h) q ≡ true → (p : Position) × (has_plate s p ≡ true) × (position_after p h ≡ q)
from_along s [] k l q there = (q, there, refl)
from_along s (e ∷ h) k l q there =
    let t = next s e.machine e.call in
    let rest = from_along t h (next_keeps s e.machine e.call k) l.1 q there in
    let here = came_from s t e (happens s e k l.0) rest.0 rest.1 in
    (here.0, here.1, ap (λ x. position_after x h) here.2 ∙ rest.2)

-- ---- each move is of one plate

-- the moves of the plate at a position, if there is one
abbrev pub moves_at : ModelState → List Event → Position → ℕ
moves_at s h p = cond (has_plate s p) (moves_of p h) 0

nothing_more : (n : ℕ) → 0 + n ≡ n
nothing_more n = omega arith

shared_stays : (s t : ModelState) (e : Event) (h : List Event) → (p : Position) → is_move_from p e ≡ false → has_plate t p ≡ has_plate s p → moves_at s (e ∷ h) p ≡ moves_at t h p
shared_stays s t e h p none same =
    (λ i. cond (has_plate s p) (one_if (none i) + moves_of (moved_no p e none i) h) 0) ∙ (λ i. cond (sym same i) (nothing_more (moves_of p h) i) 0)

-- the moves of the plate that an event moves go from the position that it leaves to the one to which it comes
abbrev Shared : ModelState → ModelState → Event → List Event → Position → Position → Type 0
Shared s t e h w r =
    let n = next_position w in
    let left = moves_of n h in
    moves_at s (e ∷ h) r + cond (same_position n r) left 0 ≡ moves_at t h r + cond (same_position w r) (1 + left) 0

counted_as : (b c : Bool) (n : ℕ) → b ≡ c → cond b n 0 ≡ cond c n 0
counted_as b c n e = ap (λ x. cond x n 0) e

shared_from : (s t : ModelState) (e : Event) (h : List Event) → (w : Position) → is_move_from w e ≡ true → GoesOn s t w → Shared s t e h w w
shared_from s t e h w moves on =
    let n = next_position w in
    let left = moves_of n h in
    let gone : moves_at t h w ≡ 0 = ap (λ b. cond b (moves_of w h) 0) on.gone in
    let here : moves_at s (e ∷ h) w ≡ 1 + left = λ i. cond (on.there i) (one_if (moves i) + moves_of (moved_yes w e moves i) h) 0 in
    let not_there : same_position n w ≡ false = not_same n w (λ x. never (sym on.there ∙ ap (has_plate s) (sym x) ∙ on.room)) in
    omega (arith, here, gone, counted_as (same_position n w) false left not_there, counted_as (same_position w w) true (1 + left) (same-self w))

shared_to : (s t : ModelState) (e : Event) (h : List Event) → (w : Position) → GoesOn s t w → Shared s t e h w (next_position w)
shared_to s t e h w on =
    let n = next_position w in
    let left = moves_of n h in
    let none : moves_at s (e ∷ h) n ≡ 0 = ap (λ b. cond b (moves_of n (e ∷ h)) 0) on.room in
    let here : moves_at t h n ≡ left = ap (λ b. cond b left 0) on.come in
    let not_here : same_position w n ≡ false = not_same w n (λ x. never (sym on.there ∙ ap (has_plate s) x ∙ on.room)) in
    omega (arith, none, here, counted_as (same_position w n) false (1 + left) not_here, counted_as (same_position n n) true left (same-self n))

shared_moves : (s t : ModelState) (e : Event) (h : List Event) (k : Moves (is_done e) s t e.machine e.call) → (r : Position) → Shared s t e h k.who r
shared_moves s t e h k r =
    let w = k.who in
    let n = next_position w in
    let left = moves_of n h in
    let From : Bool → Type 0 = λ b. same_position w r ≡ b → Shared s t e h w r in
    elim (same_position w r) as From [
      | true ↦ λ f. subst (Shared s t e h w) (one_position w r f) (shared_from s t e h w k.moves k.on)
      | false ↦ λ f.
          let To : Bool → Type 0 = λ b. same_position n r ≡ b → Shared s t e h w r in
          elim (same_position n r) as To [
            | true ↦ λ g. subst (Shared s t e h w) (one_position n r g) (shared_to s t e h w k.on)
            | false ↦ λ g.
                let not_from : r ≢ w = λ x. differ w r f (sym x) in
                let not_to : r ≢ n = λ x. differ n r g (sym x) in
                let same = shared_stays s t e h r (k.others r not_from) (k.on.others r not_from not_to) in
                omega (arith, same, counted_as (same_position w r) false (1 + left) f, counted_as (same_position n r) false left g)
          ] refl
    ] refl

moves_after : (s t : ModelState) (e : Event) (h : List Event) → After e s t → sum_by (moves_at s (e ∷ h)) all_positions ≡ one_if (is_plate_move e) + sum_by (moves_at t h) all_positions
moves_after s t e h (inl k) =
    let same = sum_same (moves_at s (e ∷ h)) (moves_at t h) (λ p. shared_stays s t e h p (k.nobody p) (k.same p)) all_positions in
    omega (arith, same, ap one_if k.no_move)
moves_after s t e h (inr k) =
    let w = k.who in
    let n = next_position w in
    let left = moves_of n h in
    let to = λ (r : Position). cond (same_position n r) left 0 in
    let from = λ (r : Position). cond (same_position w r) (1 + left) 0 in
    let same = sum_same (λ r. moves_at s (e ∷ h) r + to r) (λ r. moves_at t h r + from r) (shared_moves s t e h k) all_positions in
    let a = sum_plus (moves_at s (e ∷ h)) to all_positions in
    let b = sum_plus (moves_at t h) from all_positions in
    omega (arith, same, a, b, sum_here n left, sum_here w (1 + left), ap one_if k.move)

pub moves_along : (s : ModelState) (h : List Event) → IsSound s → IsLegal s h → sum_by (moves_at s h) all_positions ≡ plate_moves h
moves_along s [] k l = omega (arith, sum_times (has_plate s) 0 all_positions)
moves_along s (e ∷ h) k l =
    let t = next s e.machine e.call in
    let here = moves_after s t e h (happens s e k l.0) in
    let rest = moves_along t h (next_keeps s e.machine e.call k) l.1 in
    let more = sum_by-cons (λ (x : Event). cond (is_plate_move x) 1 0) e h in
    omega (arith, here, rest, more, bit (is_plate_move e))

-- ---- a plate is as many positions on as it has made moves

walked_once : (b : Bool) (n : ℕ) (p : Position) → position_on n (if b then next_position p else p) ≡ position_on (one_if b + n) p
walked_once true n p = let more : suc n ≡ 1 + n = omega arith in ap (λ k. position_on k p) more
walked_once false n p = ap (λ k. position_on k p) (sym (nothing_more n))

walked_along : (p : Position) (h : List Event) → position_after p h ≡ position_on (moves_of p h) p
walked_along p [] = refl
walked_along p (e ∷ h) = walked_along (position_after_event p e) h ∙ walked_once (is_move_from p e) (moves_of (position_after_event p e) h) p

-- ---- the laws

pub plates_are_followed : (s : ModelState) (h : List Event) → IsSound s → IsLegal s h → PlatesAreFollowed s h
plates_are_followed s h k l = record {
  there = there_along s h k l;
  apart = apart_along s h k l;
  no_other = from_along s h k l;
  walked = λ p. walked_along p h;
  counted = sym (sum-map (λ p. moves_of p h) (plates_in s) ∙ sum_filter (has_plate s) (λ p. moves_of p h) all_positions ∙ moves_along s h k l);
}

order_along : (s : ModelState) (h : List Event) → IsSound s → IsLegal s h → (p q r : Position) → has_plate s p ≡ true → has_plate s q ≡ true → has_plate s r ≡ true
    → distance p q < distance p r → distance (position_after p h) (position_after q h) < distance (position_after p h) (position_after r h)
order_along s h k l p q r a b c less =
    let At : Bool → Type 0 = λ x. same_position p q ≡ x → distance (position_after p h) (position_after q h) < distance (position_after p h) (position_after r h) in
    let p_r : p ≢ r = λ e. absurd (let none = to_itself p in let same = ap (distance p) e in omega arith) in
    let q_r : q ≢ r = λ e. absurd (let same = ap (distance p) e in omega arith) in
    let pr = pair_along s h k l p r a c p_r in
    let qr = pair_along s h k l q r b c q_r in
    elim (same_position p q) as At [
      | true ↦ λ f.
          let same = ap (λ x. distance (position_after p h) (position_after x h)) (one_position p q f) in
          omega (arith, same, to_itself (position_after p h), far (position_after p h) (position_after r h) pr.apart)
      | false ↦ λ f.
          let pq = pair_along s h k l p q a b (differ p q f) in
          omega (arith, pq.gap, pr.gap, qr.gap, between p q r less, far (position_after q h) (position_after r h) qr.apart)
    ] refl

pub lead_along : (s : ModelState) (h : List Event) → IsSound s → IsLegal s h → (p q : Position) → has_plate s p ≡ true → has_plate s q ≡ true → moves_of p h ≤ moves_of q h + 15
lead_along s h k l p q a b =
    let At : Bool → Type 0 = λ x. same_position p q ≡ x → moves_of p h ≤ moves_of q h + 15 in
    elim (same_position p q) as At [
      | true ↦ λ f. let same = ap (λ x. moves_of x h) (one_position p q f) in omega arith
      | false ↦ λ f.
          let pq = pair_along s h k l p q a b (differ p q f) in
          omega (arith, pq.gap, (reached p q).0, far (position_after p h) (position_after q h) pq.apart)
    ] refl

pub none_overtakes : (s : ModelState) (h : List Event) → IsSound s → IsLegal s h → NoneOvertakes s h
none_overtakes s h k l = record { gap = λ p q a b apart. (pair_along s h k l p q a b apart).gap; order = order_along s h k l; lead = λ p q a b. omega (arith, lead_along s h k l p q a b) }
