-- Jumps, handovers, refusals and changes along a history.
use Rattle.cell_rules.proofs.Names.{◌≡◌, ◌≢◌, ℕ, ◌+◌, Bool, true, false, cond, ◌&&◌, not, None, is_some, List, [], ◌∷◌, ◌++◌, refl, sym, ap, arith, subst, and-true, and-false, sum_by-cons, Machine, Press, Table, Zone, Z1, Z2, Z3, Moving, Pose, Turning, Loading, Unloading, Travelling, Middle, Low, Top, Call, Give, Yield, Take, Release, SetPose, Event, same_machine, Done, ModelState, IsSound, reply, owns, owner_of, posture_at, pose_refusal}
use Rattle.cell_rules.proofs.Names.{after, IsLegal, own_events, is_done, done_count, changes_by_others, Throughout, HandoverByHolder, done, NoJump, HasZone, ChangesAreCounted, RefusalsTellAlong, refused}
use Rattle.cell_rules.proofs.lemmas.Tables.{never}
use Rattle.cell_rules.proofs.lemmas.Soundness.{done_none}
use Rattle.cell_rules.proofs.lemmas.Histories.{sound-after}
use Rattle.cell_rules.proofs.lemmas.Holders.{owner_is, give_owned, yield_owned, take_owned, release_owned}
use Rattle.cell_rules.proofs.Fitting.{OwnersHold, legal_at, replies_done, no_jump}
use Rattle.cell_rules.proofs.Refusing.{refusals_tell}

-- ---- jumps

table_moves : (s : ModelState) (p : Pose) → pose_refusal s Table p ≡ None → p ≢ Turning → (posture_at s Z1 ≡ Moving) × (posture_at s Z2 ≡ Moving)
table_moves s Turning e other = absurd (other refl)
table_moves s Loading e other = (no_jump s Table Loading e refl refl Z1 refl, no_jump s Table Loading e refl refl Z2 refl)
table_moves s Unloading e other = (no_jump s Table Unloading e refl refl Z1 refl, no_jump s Table Unloading e refl refl Z2 refl)
table_moves s _ e other = absurd (never (ap is_some e))

press_moves : (s : ModelState) (p : Pose) → pose_refusal s Press p ≡ None → p ≢ Travelling → posture_at s Z3 ≡ Moving
press_moves s Travelling e other = absurd (other refl)
press_moves s Middle e other = no_jump s Press Middle e refl refl Z3 refl
press_moves s Low e other = no_jump s Press Low e refl refl Z3 refl
press_moves s Top e other = no_jump s Press Top e refl refl Z3 refl
press_moves s _ e other = absurd (never (ap is_some e))

pub no_jump_along : (s : ModelState) (h : List Event) → IsLegal s h → NoJump s h
no_jump_along s h l = record {
  table = λ before rest p split. table_moves (after s before) p (done_none _ (replies_done s h before Table (SetPose p) rest l split));
  press = λ before rest p split. press_moves (after s before) p (done_none _ (replies_done s h before Press (SetPose p) rest l split));
}

-- ---- handovers

-- a call that only the owner of its zone makes is by the zone's holder
by_holder : (s : ModelState) (h : List Event) → Throughout (OwnersHold s) h → IsLegal s h → (call : Zone → Call) → ((s : ModelState) (m : Machine) (z : Zone) → reply s m (call z) ≡ Done → owns s m z ≡ true)
    → (before rest : List Event) (m : Machine) (z : Zone) → h ≡ before ++ done m (call z) ∷ rest → HasZone s before m z
by_holder s h holders l call owned before rest m z split =
    let mine = owned (after s before) m z (replies_done s h before m (call z) rest l split) in
    (holders before (done m (call z) ∷ rest) split m z mine, owner_is (owner_of (after s before) z) m mine)

pub handover_along : (s : ModelState) (h : List Event) → Throughout (OwnersHold s) h → IsLegal s h → HandoverByHolder s h
handover_along s h holders l = record {
  give = by_holder s h holders l Give give_owned;
  yield = by_holder s h holders l Yield yield_owned;
  take = by_holder s h holders l Take take_owned;
  release = by_holder s h holders l Release release_owned;
}

-- ---- refusals

pub refusals_along : (s : ModelState) (h : List Event) → IsSound s → IsLegal s h → RefusalsTellAlong s h
refusals_along s h k l before rest m c r split =
    refusals_tell.cause (after s before) m c r (sound-after s before k) (sym (legal_at s before (refused m c r) rest (subst (IsLegal s) split l)))

-- ---- changes

abbrev once : Bool → ℕ
once b = cond b 1 0

pub changes_counted : (h : List Event) → ChangesAreCounted h
changes_counted [] m = refl
changes_counted (e ∷ h) m =
    let own = own_events h m in
    let rest = changes_counted h m in
    let all = sum_by-cons (λ (x : Event). cond (is_done x) 1 0) e h in
    let mine = sum_by-cons (λ (x : Event). cond (is_done x) 1 0) e own in
    let others = sum_by-cons (λ (x : Event). cond (is_done x && not (same_machine x.machine m)) 1 0) e h in
    let At : Bool → Type 0 = λ b. done_count (cond b (e ∷ own) own) + (once (is_done e && not b) + changes_by_others h m) ≡ once (is_done e) + done_count h in
    let none = ap once (and-false (is_done e)) in
    let one = ap once (and-true (is_done e)) in
    let by : (b : Bool) → At b = λ b. elim b as At [
      | true ↦ omega (arith, rest, mine, none)
      | false ↦ omega (arith, rest, one)
    ] in
    let here = by (same_machine e.machine m) in
    omega (arith, here, all, others)
