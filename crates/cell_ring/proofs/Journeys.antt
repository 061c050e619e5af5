-- Where a history takes a plate.
use Rattle.cell_ring.proofs.Names.{◌≡◌, ◌≢◌, ◌+◌, ◌*◌, ◌<◌, Bool, true, false, ◌&&◌, not, if◌then◌else◌, refl, arith, List, [], ◌∷◌, nat_eq, nat_lt, lt-ltb, ltb-true, eqb-true, Event, one_if, implies, implied, not_true, holds2, holds3}
use Rattle.cell_ring.specs.Lap.{Position, next_position, same_position, distance}
use Rattle.cell_ring.specs.Following.{is_move_from, position_after_event, position_after, moves_of, arrivals}
use Rattle.cell_ring.specs.Arriving.{where_forged, where_delivered, is_undelivered, forgings, deliveries}
use Rattle.cell_ring.proofs.Ring.{positions, not_same}

-- ---- distances on the ring

nearer_test : (p q : Position) → implies (not (same_position p q)) (nat_eq (distance (next_position p) q + 1) (distance p q)) ≡ true
nearer_test = holds2 positions positions (λ p q. implies (not (same_position p q)) (nat_eq (distance (next_position p) q + 1) (distance p q))) refl

pub nearer : (p q : Position) → p ≢ q → distance (next_position p) q + 1 ≡ distance p q
nearer p q apart = eqb-true _ _ (implied (not (same_position p q)) _ (nearer_test p q) (not_true _ (not_same p q apart)))

farther_test : (p q : Position) → implies (not (same_position (next_position q) p)) (nat_eq (distance p (next_position q)) (distance p q + 1)) ≡ true
farther_test = holds2 positions positions (λ p q. implies (not (same_position (next_position q) p)) (nat_eq (distance p (next_position q)) (distance p q + 1))) refl

pub farther : (p q : Position) → next_position q ≢ p → distance p (next_position q) ≡ distance p q + 1
farther p q apart = eqb-true _ _ (implied (not (same_position (next_position q) p)) _ (farther_test p q) (not_true _ (not_same (next_position q) p apart)))

far_test : (p q : Position) → implies (not (same_position p q)) (nat_lt 0 (distance p q)) ≡ true
far_test = holds2 positions positions (λ p q. implies (not (same_position p q)) (nat_lt 0 (distance p q))) refl

pub far : (p q : Position) → p ≢ q → 0 < distance p q
far p q apart = ltb-true _ _ (implied (not (same_position p q)) _ (far_test p q) (not_true _ (not_same p q apart)))

pub to_itself : (p : Position) → distance p p ≡ 0
to_itself p = eqb-true _ _ (positions.holds (λ p. nat_eq (distance p p) 0) refl p)

between_test : (p q r : Position) → implies (nat_lt (distance p q) (distance p r)) (nat_eq (distance p q + distance q r) (distance p r)) ≡ true
between_test = holds3 positions positions positions (λ p q r. implies (nat_lt (distance p q) (distance p r)) (nat_eq (distance p q + distance q r) (distance p r))) refl

pub between : (p q r : Position) → distance p q < distance p r → distance p q + distance q r ≡ distance p r
between p q r less = eqb-true _ _ (implied (nat_lt (distance p q) (distance p r)) _ (between_test p q r) (lt-ltb _ _ less))

-- ---- how often a plate comes to a position

comes_test : (p q : Position) → nat_eq (1 + distance q p) (17 * one_if (same_position (next_position p) q) + distance q (next_position p)) ≡ true
comes_test = holds2 positions positions (λ p q. nat_eq (1 + distance q p) (17 * one_if (same_position (next_position p) q) + distance q (next_position p))) refl

come_once : (b : Bool) (p q : Position) → one_if b + distance q p ≡ 17 * one_if (b && same_position (next_position p) q) + distance q (if b then next_position p else p)
come_once true p q = eqb-true _ _ (comes_test p q)
come_once false p q = omega arith

pub come : (p q : Position) (h : List Event) → moves_of p h + distance q p ≡ 17 * arrivals p h q + distance q (position_after p h)
come p q [] = omega arith
come p q (e ∷ h) = omega (arith, come (position_after_event p e) q h, come_once (is_move_from p e) p q)

-- ---- a plate is forged and delivered in turn

forged_test : (p : Position) → nat_eq (one_if (is_undelivered p) + one_if (same_position (next_position p) where_forged)) (one_if (same_position (next_position p) where_delivered) + one_if (is_undelivered (next_position p))) ≡ true
forged_test = positions.holds (λ p. nat_eq (one_if (is_undelivered p) + one_if (same_position (next_position p) where_forged)) (one_if (same_position (next_position p) where_delivered) + one_if (is_undelivered (next_position p)))) refl

forged_once : (b : Bool) (p : Position)
    → one_if (is_undelivered p) + one_if (b && same_position (next_position p) where_forged) ≡ one_if (b && same_position (next_position p) where_delivered) + one_if (is_undelivered (if b then next_position p else p))
forged_once true p = eqb-true _ _ (forged_test p)
forged_once false p = omega arith

pub in_turn : (p : Position) (h : List Event) → one_if (is_undelivered p) + forgings p h ≡ deliveries p h + one_if (is_undelivered (position_after p h))
in_turn p [] = omega arith
in_turn p (e ∷ h) = omega (arith, in_turn (position_after_event p e) h, forged_once (is_move_from p e) p)
