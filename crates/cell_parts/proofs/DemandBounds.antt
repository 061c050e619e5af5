-- What positions and motors demand, in numbers.
use Rattle.std.proofs.Common.{rules, ◌≡◌, ◌≢◌, ◌↔◌, ◌∙◌, sym, ap, cond, ℕ, ◌<◌, ◌≤◌, false, Some, ◌⊎◌, inl, inr, refl, arith}
use Rattle.std.proofs.lemmas.Bool.{false_from_ne_true}
use Rattle.cell_rules.specs.Types.{Machine, Feed, Table, Robot, Press, Deposit, Crane, Watch, Zone, Z1, Z2, Z3, Z4, Z5, Z6, Posture, OpenIn, OpenOut, same_zone}
use Rattle.cell_types.proofs.lemmas.SameLemmas.{one_zone}
use Rattle.cell_types.specs.declared.place.Place.TheVariants as place
use Rattle.cell_rules.specs.Names.{ModelState, zone_at, is_owned_by, owns, owner_of}
use Rattle.cell_rules.specs.declared.zones.ZoneState.{ZoneState}
use Rattle.cell_rules.proofs.lemmas.Puts.{each_zone, zone_in-put}
use Rattle.cell_rules.proofs.lemmas.Holders.{owner_is}
use Rattle.cell_parts.specs.Names.{HoldsIn, Rests, FromTo, empty_cell, all_free, with_zone}
use Rattle.cell_parts.specs.Examples.{with_feed, with_deposit, zone_of}
use Rattle.cell_parts.specs.DemandExamples.{AsksFor, WorksAt, Arm1WorksAt, Arm2WorksAt, GripperWorksAt, EndPlateStands, PositionDemandBounds, feed_end_full, MotorDemandBounds, DrivingBounds, RestingBounds, EachDemand}
use Rattle.cell_parts.proofs.Contrasts.{neither, false_true}
use Rattle.cell_parts.proofs.Figures.{same, always, never, both, either, due, given, order, past, below, not_past, clash, inside, driven, some}

in_out : ¬ (OpenIn ≡ OpenOut)
in_out e = cc

out_in : ¬ (OpenOut ≡ OpenIn)
out_in e = cc

-- ---- whose zone is demanded, which one, and in which posture

one_owner : (n m : Machine) → Some n ≡ Some m → n ≡ m
one_owner n m e = cc

other_zone : (z y : Zone) → y ≢ z → same_zone y z ≡ false
other_zone z y other = false_from_ne_true (same_zone y z) (λ same. other (one_zone y z same))

put_here : (s : ModelState) (m : Machine) (q : Posture) (z : Zone) → zone_at (with_zone s m z q) z ≡ zone_of m q
put_here s m q = each_zone (λ z. zone_at (with_zone s m z q) z ≡ zone_of m q) refl refl refl refl refl refl

put_elsewhere : (s : ModelState) (m : Machine) (q : Posture) (z y : Zone) → y ≢ z → zone_at (with_zone s m y q) z ≡ zone_at s z
put_elsewhere s m q z y other = zone_in-put s.zones (zone_of m q) y z ∙ ap (λ b. cond b (zone_of m q) (zone_at s z)) (other_zone z y other)

-- what demands no less asks for the zone, if the machine doesn't hold it yet
module _ (s : ModelState) (m : Machine) (z : Zone) (q : Posture) (Demands : ModelState → Type 0) where
  asks_for : Demands (with_zone s m z q) → ((t : ModelState) → Demands t → HoldsIn q t m z) → owns s m z ≡ false → AsksFor s m z q Demands
  asks_for met need before = record {
    met = met;
    of_nobody = λ d. false_true (sym before ∙ (need s d).0);
    of_no_other = λ n other d.
        let owner = owner_is (owner_of (with_zone s n z q) z) m (need (with_zone s n z q) d).0 in
        other (one_owner n m (sym (ap (λ (v : ZoneState). v.owner) (put_here s n q z)) ∙ owner));
    at_no_other = λ y other d.
        let same = ap (λ (v : ZoneState). is_owned_by v.owner m) (put_elsewhere s m q z y other) in
        false_true (sym before ∙ (sym same ∙ (need (with_zone s m y q) d).0));
    in_no_other = λ r other d. other (sym (ap (λ (v : ZoneState). v.posture) (put_here s m r z)) ∙ (need (with_zone s m z r) d).1);
  }

-- ---- what works at two places

module _ (m : Machine) (First : ℕ → Type 0) (y : Zone) (q : Posture) (Second : ℕ → Type 0) (z : Zone) (r : Posture) (Demands : ℕ → ModelState → Type 0) where
  works_at : ((p : ℕ) (s : ModelState) → Demands p s ↔ ((First p × HoldsIn q s m y) ⊎ (Second p × HoldsIn r s m z))) → ((p : ℕ) → First p → Second p → ⊥)
      → HoldsIn q (with_zone all_free m y q) m y → HoldsIn r (with_zone all_free m z r) m z → owns all_free m y ≡ false → owns all_free m z ≡ false
      → WorksAt m First y q Second z r Demands
  works_at demands apart had other_had free other_free = record {
    first = λ p at. asks_for all_free m y q (Demands p) ((demands p (with_zone all_free m y q)).1 (inl (at, had))) (λ t d. elim ((demands p t).0 d) [ inl h ↦ h.1 | inr h ↦ absurd (apart p at h.0) ]) free;
    second = λ p at. asks_for all_free m z r (Demands p) ((demands p (with_zone all_free m z r)).1 (inr (at, other_had))) (λ t d. elim ((demands p t).0 d) [ inl h ↦ absurd (apart p h.0 at) | inr h ↦ h.1 ]) other_free;
    elsewhere = λ p not_first not_second s d. neither (λ h. not_first h.0) (λ h. not_second h.0) ((demands p s).0 d);
  }

far : (last first p : ℕ) → last < first → p ≤ last → first ≤ p → ⊥
far last first p apart low high = omega arith

arm1_works : (Demands : ℕ → ModelState → Type 0) → ((p : ℕ) (s : ModelState) → Demands p s ↔ ((FromTo 200 400 p × HoldsIn OpenOut s Robot Z2) ⊎ (FromTo 1400 1600 p × HoldsIn OpenIn s Robot Z3))) → Arm1WorksAt Demands
arm1_works Demands demands = works_at Robot (FromTo 200 400) Z2 OpenOut (FromTo 1400 1600) Z3 OpenIn Demands demands (λ p a b. far 400 1400 p (omega arith) a.1 b.0) (refl, refl) (refl, refl) refl refl

arm2_works : (Demands : ℕ → ModelState → Type 0) → ((p : ℕ) (s : ModelState) → Demands p s ↔ ((FromTo 500 700 p × HoldsIn OpenOut s Robot Z3) ⊎ (FromTo 1700 1900 p × HoldsIn OpenIn s Robot Z4))) → Arm2WorksAt Demands
arm2_works Demands demands = works_at Robot (FromTo 500 700) Z3 OpenOut (FromTo 1700 1900) Z4 OpenIn Demands demands (λ p a b. far 700 1700 p (omega arith) a.1 b.0) (refl, refl) (refl, refl) refl refl

gripper_works : (Demands : ℕ → ModelState → Type 0) → ((p : ℕ) (s : ModelState) → Demands p s ↔ (((p ≤ 200) × HoldsIn OpenOut s Crane Z5) ⊎ ((1800 ≤ p) × HoldsIn OpenIn s Crane Z6))) → GripperWorksAt Demands
gripper_works Demands demands = works_at Crane (λ p. p ≤ 200) Z5 OpenOut (λ p. 1800 ≤ p) Z6 OpenIn Demands demands (λ p a b. far 200 1800 p (omega arith) a b) (refl, refl) (refl, refl) refl refl

-- ---- positions

feed_plate : EndPlateStands place.FeedEnd with_feed
feed_plate = search (rules, always, never)

deposit_plate : EndPlateStands place.DepEnd with_deposit
deposit_plate = search (rules, always, never)

pub position_demands : PositionDemandBounds
position_demands = record {
  arm1_in = λ s arm rotation low out. clash arm 50 low ((past 50 arm).0 out);
  arm1_out = λ arm out. arm1_works _ (λ rotation s. due ((past 50 arm).1 out) (either (both (inside 200 400 rotation) same) (both (inside 1400 1600 rotation) same)));
  arm2_in = λ s arm rotation low out. clash arm 50 low ((past 50 arm).0 out);
  arm2_out = λ arm out. arm2_works _ (λ rotation s. due ((past 50 arm).1 out) (either (both (inside 500 700 rotation) same) (both (inside 1700 1900 rotation) same)));
  gripper_up = λ s travel gripper up down. clash gripper 799 ((below gripper 799).0 down) up;
  gripper_down = λ gripper down. gripper_works _ (λ travel s. due ((below gripper 799).1 down) (either (both (order travel 200) same) (both (order 1800 travel) same)));
  press_for_arm1 = λ s press motor is. (λ d. ((d.0 is).0, (inside 490 510 press).0 (d.0 is).1), λ k. (λ e. (k.0, (inside 490 510 press).1 k.1), λ e. absurd (in_out (sym is ∙ e))));
  press_for_arm2 = λ s press motor is. (λ d. ((d.1 is).0, (order press 10).0 (d.1 is).1), λ k. (λ e. absurd (out_in (sym is ∙ e)), λ e. (k.0, (order press 10).1 k.1)));
  press_for_nobody = λ s p not_in not_out. (λ e. absurd (not_in e), λ e. absurd (not_out e));
  rests_at_loading = λ lift turn height turning. (λ k. (k.lift_off, k.turn_off, (order lift 10).0 k.bottom, (order turn 20).0 k.turned), λ k. record { lift_off = k.0; turn_off = k.1; bottom = (order lift 10).1 k.2; turned = (order turn 20).1 k.3 });
  table_for_feed = λ s p is. due is same;
  table_for_nobody = λ s p closed e. absurd (closed e);
  feed_plate = feed_plate;
  deposit_plate = deposit_plate;
  at_start = search rules;
}

-- ---- motors

pub motor_demands : MotorDemandBounds
motor_demands = record {
  nothing_driven = λ errand s p rests. record {
    press = λ on. absurd (on (rests Press));
    table = λ on. absurd (neither (λ lift. lift (rests Table).0) (λ turn. turn (rests Table).1) on);
    feed = λ runs. absurd (false_true (sym (rests Feed) ∙ runs));
    deposit = λ runs. absurd (false_true (sym (rests Deposit) ∙ runs));
    arm1 = λ on. absurd (on (rests Robot).0);
    arm2 = λ on. absurd (on (rests Robot).1);
    gripper = λ on. absurd (on (rests Crane).1);
  };
  press = λ press motor way. asks_for _ _ _ _ _ (λ on. (refl, refl)) (λ t d. d ((driven motor).1 way)) refl;
  table_at_z1 = λ lift turn height turning way. asks_for _ _ _ _ _ (λ on. ((refl, refl), (refl, refl))) (λ t d. (d ((either (driven height) (driven turning)).1 way)).0) refl;
  table_at_z2 = λ lift turn height turning way. asks_for _ _ _ _ _ (λ on. ((refl, refl), (refl, refl))) (λ t d. (d ((either (driven height) (driven turning)).1 way)).1) refl;
  feed_at_z6 = λ entry last. asks_for _ _ _ _ _ (λ runs. ((refl, refl), λ full. absurd (false_true full))) (λ t d. (d refl).0) refl;
  feed_at_z1 = λ entry last q runs. ((refl, refl), λ full. refl);
  z1_of_another = λ entry last q m other d. other (one_owner m Feed (owner_is (owner_of (with_zone feed_end_full m Z1 q) Z1) Feed ((d refl).1 refl)));
  z1_of_nobody = λ entry last d. false_true ((d refl).1 refl);
  deposit_at_z4 = λ entry last. asks_for _ _ _ _ _ (λ runs. ((refl, refl), (refl, refl))) (λ t d. (d refl).0) refl;
  deposit_at_z5 = λ entry last. asks_for _ _ _ _ _ (λ runs. ((refl, refl), (refl, refl))) (λ t d. (d refl).1) refl;
  arm1 = λ arm motor way. arm1_works _ (λ rotation s. due ((driven motor).1 way) (either (both (inside 200 400 rotation) same) (both (inside 1400 1600 rotation) same)));
  arm2 = λ arm motor way. arm2_works _ (λ rotation s. due ((driven motor).1 way) (either (both (inside 500 700 rotation) same) (both (inside 1700 1900 rotation) same)));
  gripper_for_travel = λ s p on. tt;
  gripper_at_deposit = λ travel gripper motor way. asks_for _ _ _ _ _ (λ on. (refl, refl)) (λ t d. d ((driven motor).1 way)) refl;
  gripper_at_feed = λ travel gripper motor way. asks_for _ _ _ _ _ (λ on. (refl, refl)) (λ t d. d ((driven motor).1 way)) refl;
  travels_high = λ travel gripper motor. given (driven motor) (not_past gripper 800);
  rotates_retracted = λ arm1 arm2 rotation motor. (
    λ k way. let on = (driven motor).1 way in ((not_past 50 arm1).0 (k.arm1 on), (not_past 50 arm2).0 (k.arm2 on)),
    λ k. record { arm1 = λ on. (not_past 50 arm1).1 (k ((driven motor).0 on)).0; arm2 = λ on. (not_past 50 arm2).1 (k ((driven motor).0 on)).1 },
  );
}

pub driving : DrivingBounds
driving = search (rules, driven, inside, both, either, same, some)

all_rest : (m : Machine) → Rests empty_cell m
all_rest Watch = tt
all_rest m = search rules

pub resting : RestingBounds
resting = search (rules, all_rest, same)

pub each_demand : EachDemand
each_demand = search rules
