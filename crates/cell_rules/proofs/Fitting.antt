-- What holds in the state before a Done event.
use Rattle.cell_rules.proofs.Names.{◌≡◌, ◌≢◌, Bool, true, false, ◌&&◌, not, Option, Some, None, unwrap_or, List, [], ◌∷◌, ◌++◌, sym, ap, ◌∙◌, subst, IsTrue, not-false, false_from_ne_true, and_parts, or_parts, or_right, Machine, Feed, Press, Deposit, Zone, Z3, Z4, Z5, Z6, Transfer, PressIn, PressOut, Posture, Closed, Moving, OpenIn, Pose, Call, SetPose, Advance, Done, Event, Jump, PlaceFull, NotOwner, host_of, transfer_of, posture_of}
use Rattle.cell_rules.proofs.Names.{same_machine, same_posture, one_posture, ModelState, is_full, is_onto_full, owns, owner_of, posture_at, is_moving_pose, passes_through_moving, moves_at, is_blocked, opens_onto_plate, pose_refusal, advance_refusal, reply, next, after, IsLegal, Holds, Throughout, EventsFit, done, all_move}
use Rattle.cell_rules.specs.Refusals as refusals
use Rattle.cell_rules.proofs.lemmas.Tables.{and_both, implied, from_zones}
use Rattle.cell_rules.proofs.lemmas.DoneCalls.{none_then, no_zone, not_true, advance_done}
use Rattle.cell_rules.proofs.lemmas.Moves.{concerns_posture, pose_owned}
use Rattle.cell_rules.proofs.lemmas.Soundness.{done_none}
use Rattle.cell_rules.proofs.lemmas.Holders.{same_machine-self}
use Rattle.cell_rules.proofs.Accepted.{pose_fits}

-- ---- an event's answer is the reply at the state before it

pub legal_at : (s : ModelState) (before : List Event) (e : Event) (rest : List Event) → IsLegal s (before ++ e ∷ rest) → e.answer ≡ reply (after s before) e.machine e.call
legal_at s [] e rest l = l.0
legal_at s (x ∷ before) e rest l = legal_at (next s x.machine x.call) before e rest l.1

pub replies_done : (s : ModelState) (h before : List Event) (m : Machine) (c : Call) (rest : List Event) → IsLegal s h → h ≡ before ++ done m c ∷ rest → reply (after s before) m c ≡ Done
replies_done s h before m c rest l e = sym (legal_at s before (done m c) rest (subst (IsLegal s) e l))

-- ---- a pose

unless_false : (a b : Bool) → (a && b) ≡ false → a ≡ true → b ≡ false
unless_false true b e f = e
unless_false false b e f = cc

differs : (p q : Posture) → p ≢ q → same_posture p q ≡ false
differs p q ne = false_from_ne_true (same_posture p q) (λ e. ne (one_posture p q e))

all_of_host : (s : ModelState) (m : Machine) → all_move s m ≡ true → (z : Zone) → moves_at s m z ≡ true
all_of_host s m = from_zones (moves_at s m)

pub no_jump : (s : ModelState) (m : Machine) (p : Pose) → pose_refusal s m p ≡ None → passes_through_moving m ≡ true → not (is_moving_pose p) ≡ true → (z : Zone) → host_of z ≡ m → posture_at s z ≡ Moving
no_jump s m p e passes still z host =
    let moves = not-false (all_move s m) (unless_false (passes_through_moving m && not (is_moving_pose p)) (not (all_move s m)) (none_then _ Jump (pose_fits s m p e).0) (and_both _ _ passes still)) in
    let hosts : same_machine (host_of z) m ≡ true = ap (same_machine (host_of z)) (sym host) ∙ same_machine-self (host_of z) in
    one_posture (posture_at s z) Moving (implied (same_machine (host_of z) m) (same_posture (posture_at s z) Moving) (all_of_host s m moves z) hosts)

-- a zone that opens inward isn't blocked
unblocked : (s : ModelState) (m : Machine) (p : Pose) → pose_refusal s m p ≡ None → (z : Zone) → posture_of m p z ≡ Some OpenIn → posture_at s z ≢ OpenIn → is_blocked s z ≡ false
unblocked s m p e z opens shut =
    let to : same_posture (unwrap_or (posture_of m p z) (posture_at s z)) OpenIn ≡ true = ap (λ (q : Option Posture). same_posture (unwrap_or q (posture_at s z)) OpenIn) opens in
    let opened : refusals.opens s m p z ≡ true = and_both _ _ to (not_true _ (differs (posture_at s z) OpenIn shut)) in
    unless_false (refusals.opens s m p z) (is_blocked s z) (none_then _ PlaceFull (no_zone (opens_onto_plate s m p) (pose_fits s m p e).1 z)) opened

onto_empty : (s : ModelState) (z : Zone) (row : Transfer) → is_blocked s z ≡ false → transfer_of z OpenIn ≡ Some row → is_full s row.to ≡ false
onto_empty s Z3 row e way = sym (ap (is_onto_full s.full) way) ∙ (or_parts (is_full s PressIn) (is_full s PressOut) e).0
onto_empty s z row e way = sym (ap (is_onto_full s.full) way) ∙ e

-- a pose changes only what its machine owns
changed_owned : (s : ModelState) (m : Machine) (p : Pose) → pose_refusal s m p ≡ None → (z : Zone) (q : Posture) → posture_of m p z ≡ Some q → posture_at s z ≢ q → owns s m z ≡ true
changed_owned s m p e z q gives differ =
    let other : not (same_posture q (posture_at s z)) ≡ true = not_true _ (differs q (posture_at s z) (λ same. differ (sym same))) in
    let concern : concerns_posture (posture_of m p z) (posture_at s z) ≡ true = ap (λ (o : Option Posture). concerns_posture o (posture_at s z)) gives ∙ or_right (same_posture q Moving) _ other in
    not-false (owns s m z) (unless_false _ (not (owns s m z)) (pose_owned s m p z e) concern)

-- ---- an advance

feed_works : (s : ModelState) → advance_refusal s Feed ≡ None → posture_at s Z6 ≡ Moving
feed_works s e = one_posture (posture_at s Z6) Moving (advance_done s Feed e).2

deposit_works : (s : ModelState) → advance_refusal s Deposit ≡ None → (posture_at s Z4 ≡ Moving) × (posture_at s Z5 ≡ Moving)
deposit_works s e =
    let both = and_parts (same_posture (posture_at s Z4) Moving) (same_posture (posture_at s Z5) Moving) (advance_done s Deposit e).2 in
    (one_posture (posture_at s Z4) Moving both.0, one_posture (posture_at s Z5) Moving both.1)

pub press_works : (s : ModelState) → advance_refusal s Press ≡ None → (owns s Press Z3 ≡ true) × (posture_at s Z3 ≡ Closed)
press_works s e =
    let may = advance_done s Press e in
    (not-false (owns s Press Z3) (none_then _ (NotOwner (owner_of s Z3)) may.1), one_posture (posture_at s Z3) Closed may.2)

-- a machine that owns a zone after a history holds it by the events
abbrev pub OwnersHold : ModelState → List Event → Type 0
OwnersHold s h = (m : Machine) (z : Zone) → IsTrue (owns (after s h) m z) → Holds s h m z

pub fits : (s : ModelState) (h : List Event) → Throughout (OwnersHold s) h → IsLegal s h → EventsFit s h
fits s h holders l = record {
  no_jump = λ before rest m p split. no_jump (after s before) m p (done_none _ (replies_done s h before m (SetPose p) rest l split));
  opens_onto_empty = λ before rest m p split z row opens shut. onto_empty (after s before) z row (unblocked (after s before) m p (done_none _ (replies_done s h before m (SetPose p) rest l split)) z opens shut);
  press_opens_empty = λ before rest m p split opens shut. or_parts _ _ (unblocked (after s before) m p (done_none _ (replies_done s h before m (SetPose p) rest l split)) Z3 opens shut);
  pose_by_holder = λ before rest m p split z q gives differ.
      holders before (done m (SetPose p) ∷ rest) split m z (changed_owned (after s before) m p (done_none _ (replies_done s h before m (SetPose p) rest l split)) z q gives differ);
  feed_works_running = λ before rest split. feed_works (after s before) (done_none _ (replies_done s h before Feed Advance rest l split));
  deposit_works_running = λ before rest split. deposit_works (after s before) (done_none _ (replies_done s h before Deposit Advance rest l split));
  press_works_closed = λ before rest split.
      let works = press_works (after s before) (done_none _ (replies_done s h before Press Advance rest l split)) in
      (holders before (done Press Advance ∷ rest) split Press Z3 works.0, works.1);
}
