-- Where plates go on moving, each arrives.
use Rattle.cell_ring.proofs.Names.{◌≡◌, ℕ, ◌+◌, ◌-◌, ◌*◌, ◌≤◌, ◌<◌, Bool, true, false, cond, refl, sym, ap, subst, ◌∙◌, arith, List, [], ◌∷◌, ◌++◌, count_by, Event, ModelState, IsSound, IsLegal, next, after, plates_of, sound-after, legal-left, append-nil, plates-kept, IsStartState}
use Rattle.cell_ring.specs.Lap.{Position, all_positions, same_position, lap_length}
use Rattle.cell_ring.specs.Plates.{has_plate}
use Rattle.cell_ring.specs.Following.{InEachStretch, plate_moves, moves_of, position_after, arrivals}
use Rattle.cell_ring.specs.Arriving.{where_forged, where_delivered, ArriveAgain, EachPlateMoves, EachPlateArrives, moves_for_each}
use Rattle.cell_ring.proofs.Ring.{one_position, reached}
use Rattle.cell_ring.proofs.Sums.{sum_plus, sum_le, sum_here, sum_times}
use Rattle.cell_ring.proofs.OnRing.{on_ring}
use Rattle.cell_ring.proofs.Journeys.{come, in_turn}
use Rattle.cell_ring.proofs.Followed.{moves_at, moves_along, lead_along, plates_are_followed}

-- ---- while one plate makes k moves, each other makes at most 15 more

-- the moves of each plate, with 15 added for the one that is compared
share : (b same : Bool) (n k : ℕ) → (b ≡ true → n ≤ k + 15) → (same ≡ true → (b ≡ true) × (n ≡ k)) → cond b n 0 + cond same 15 0 ≤ cond b (k + 15) 0
share true true n k most own = let e = (own refl).1 in omega arith
share true false n k most own = let e = most refl in omega arith
share false true n k most own = let e = (own refl).0 in cc
share false false n k most own = omega arith

all_share : (s : ModelState) (h : List Event) → IsSound s → IsLegal s h → (p : Position) → has_plate s p ≡ true → plate_moves h + 15 ≤ plates_of s * (moves_of p h + 15)
all_share s h k l p there =
    let n = moves_of p h in
    let own = λ (q : Position). cond (same_position p q) 15 0 in
    let each = λ (q : Position). share (has_plate s q) (same_position p q) (moves_of q h) n (λ e. lead_along s h k l q p e there)
    (λ e. (sym (ap (has_plate s) (one_position p q e)) ∙ there, sym (ap (λ x. moves_of x h) (one_position p q e)))) in
    let less = sum_le (λ q. moves_at s h q + own q) (λ q. cond (has_plate s q) (n + 15) 0) each all_positions in
    let plus = sum_plus (moves_at s h) own all_positions in
    let counted : count_by (has_plate s) all_positions * (n + 15) ≡ plates_of s * (n + 15) = ap (λ c. c * (n + 15)) (on_ring s k).counted in
    omega (arith, less, plus, sum_here p 15, moves_along s h k l, sum_times (has_plate s) (n + 15) all_positions, counted)

enough : (n x k m : ℕ) → m + 15 ≤ n * (x + 15) → moves_for_each k n ≤ m → k ≤ x
enough n x k m most least = grind arith

some_plates : (n x m : ℕ) → m + 15 ≤ n * (x + 15) → 0 < n
some_plates n x m most = grind arith

pub each_plate_moves : (s : ModelState) (h : List Event) → IsSound s → IsLegal s h → EachPlateMoves s h
each_plate_moves s h k l =
    let share = λ (p : Position) (there : has_plate s p ≡ true). all_share s h k l p there in
    record {
      while_one_stays = λ p there stays. let most = share p there in let n : plates_of s * (moves_of p h + 15) ≡ plates_of s * 15 = ap (λ x. plates_of s * (x + 15)) stays in omega arith;
      has_moved = λ p there many. let most = share p there in let some : 0 < plates_of s = some_plates _ _ _ most in enough (plates_of s) (moves_of p h) 1 (plate_moves h) most (omega arith);
      often = λ p n there many. enough (plates_of s) (moves_of p h) n (plate_moves h) (share p there) many;
    }

-- ---- and so each comes to each position

pub each_plate_arrives : (s : ModelState) (h : List Event) → IsSound s → IsLegal s h → EachPlateArrives s h
each_plate_arrives s h k l =
    let everywhere = λ (p q : Position) (n : ℕ) (there : has_plate s p ≡ true) (many : n * lap_length * plates_of s + 14 * (plates_of s - 1) ≤ plate_moves h).
    let laps : n * lap_length ≤ moves_of p h = enough (plates_of s) (moves_of p h) (n * lap_length) (plate_moves h) (all_share s h k l p there) many in
    let all : n ≤ arrivals p h q = omega (arith, come p q h, (reached q (position_after p h)).0, (reached q p).0) in
    all in
    record {
      everywhere = everywhere;
      forged = λ p n there many. everywhere p where_forged n there many;
      delivered = λ p n there many. everywhere p where_delivered n there many;
      in_turn = λ p there. in_turn p h;
    }

-- ---- from a start, again and again

start_plates : (s : ModelState) → IsStartState s → plates_of s ≤ 6
start_plates s start = let most = start.start.six_plates_at_most in let same = ap plates_of start.same in omega arith

few_moves : (n : ℕ) → n ≤ 6 → 1 * lap_length * n + 14 * (n - 1) ≤ 172
few_moves n few = omega arith

pub arrive_again : (s : ModelState) (h : List Event) → IsSound s → IsStartState s → IsLegal s h → InEachStretch EachPlateArrives s h → ArriveAgain s h
arrive_again s h k start l arrives before since e many p there =
    let t = after s before in
    let q = position_after p before in
    let legal = legal-left s before since (subst (IsLegal s) e l) in
    let now = (plates_are_followed s before k legal).there p there in
    let few : plates_of t ≤ 6 = let same = (plates-kept s before k legal).total in let most = start_plates s start in omega arith in
    let suffice : moves_for_each (1 * lap_length) (plates_of t) ≤ plate_moves since = let six = few_moves (plates_of t) few in omega arith in
    let law = arrives before since [] (e ∙ sym (append-nil (before ++ since))) in
    let forged = law.forged q 1 now suffice in
    let delivered = law.delivered q 1 now suffice in
    (omega arith, omega arith)

-- ---- in each stretch of a history

legal-right : (s : ModelState) (a b : List Event) → IsLegal s (a ++ b) → IsLegal (after s a) b
legal-right s [] b l = l
legal-right s (e ∷ a) b l = legal-right (next s e.machine e.call) a b l.1

pub in_each_stretch : (Law : ModelState → List Event → Type 0) → ((s : ModelState) (h : List Event) → IsSound s → IsLegal s h → Law s h) → (s : ModelState) (h : List Event) → IsSound s → IsLegal s h → InEachStretch Law s h
in_each_stretch Law each s h k l before stretch rest e =
    each (after s before) stretch (sound-after s before k) (legal-right s before stretch (legal-left s (before ++ stretch) rest (subst (IsLegal s) e l)))
