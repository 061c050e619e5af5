-- The belts run clear: each call keeps this, so by the events it holds after a history.
use Rattle.cell_rules.proofs.Names.{◌≡◌, pos, Bool, true, false, ◌&&◌, ◌||◌, not, is_some, unwrap_or, List, [], ◌∷◌, ◌⊎◌, inl, inr, refl, sym, ap, ◌∙◌, if◌then◌else◌, or_cases, Machine, Feed, Deposit, Zone, Z1, Z4, Z5, Z6, Place, FeedEnd, DepEnd, Posture, Closed, Moving, OpenIn, Pose, Running, Call, Claim, Give, Yield, Take, Release, SetPose, Advance, Done, Event, PlaceFull, InUse, host_of, transfer_of, posture_of, same_machine, same_zone}
use Rattle.cell_rules.proofs.Names.{same_posture, same_pose, one_posture, PlaceSet, has, ModelState, zone_at, is_full, one_if, implies, is_party, owns, owner_of, posture_at, transfer_given, given_by, give_refusal, yield_refusal, release_refusal, pose_refusal, reply, changed, next, emptied, filled, is_belt_of, after, posture_given, plates_at, OneHolder, PlatesAreKept, PostureByEvents, RunsClear, BeltsRunClear}
use Rattle.cell_rules.proofs.lemmas.Tables.{never, and_both, implied, all_machines, all_poses, all_postures, machines, poses, postures, holds3}
use Rattle.cell_rules.proofs.lemmas.DoneCalls.{none_then, give_done}
use Rattle.cell_rules.proofs.lemmas.Plates.{fourth, emptied_fewer}
use Rattle.cell_rules.proofs.lemmas.Soundness.{done_none, next_cases}
use Rattle.cell_rules.proofs.lemmas.Holders.{owned_as, claim_unowned, yield_owned, release_owned}
use Rattle.cell_rules.proofs.lemmas.Postures.{posture-changed}
use Rattle.cell_rules.proofs.Accepted.{yield_out_of_use, release_out_of_use, pose_fits}

-- ---- z1

-- unless z1 is in use, feed doesn't leave it while running with a plate at its end
unless_in_use : (feed : Bool) (belt : Posture) (at_end any : Bool) → (feed && same_zone Z1 Z1 && same_posture belt Moving && at_end) ≡ false → feed ≡ true → belt ≡ Moving → at_end ≡ true → any ≡ true
unless_in_use feed belt at_end any none is_feed moving full =
    let in_use : (feed && same_zone Z1 Z1 && same_posture belt Moving && at_end) ≡ true =
    and_both (feed && same_zone Z1 Z1 && same_posture belt Moving) at_end (and_both (feed && same_zone Z1 Z1) (same_posture belt Moving) (and_both feed (same_zone Z1 Z1) is_feed refl) (ap (λ q. same_posture q Moving) moving)) full in
    absurd (never (sym in_use ∙ none))

-- ---- places

-- no plate is taken to the end of a belt
unfilled : (full : PlaceSet) (z : Zone) (q : Posture) → (has (filled full (transfer_of z q)) FeedEnd ≡ has full FeedEnd) × (has (filled full (transfer_of z q)) DepEnd ≡ has full DepEnd)
unfilled full Z1 OpenIn = (refl, refl)
unfilled full _ OpenIn = (refl, refl)
unfilled full _ _ = (refl, refl)

-- what is given through z1 comes from the feed belt's end
gone : (full : PlaceSet) (q : Posture) (m : Machine) → is_some (given_by m (transfer_of Z1 q)) ≡ true → has (emptied full (given_by m (transfer_of Z1 q))) FeedEnd ≡ false
gone full OpenIn Feed e = refl
gone full OpenIn m e = absurd (never (sym e))
gone full _ m e = absurd (never (sym e))

-- ---- a belt starts

-- a zone moves after a pose only if it moved before, or if the pose is running, by its own machine
abbrev starts : Machine → Zone → Machine → Pose → Posture → Bool
starts n z m p now = implies (same_posture (unwrap_or (posture_of m p z) now) Moving) (same_posture now Moving || (same_pose p Running && same_machine m n))

abbrev starts_table : Machine → Zone → Bool
starts_table n z = all_machines (λ m. all_poses (λ p. all_postures (starts n z m p)))

moved_or_runs : (n : Machine) (z : Zone) → starts_table n z ≡ true → (m : Machine) (p : Pose) (now : Posture) → unwrap_or (posture_of m p z) now ≡ Moving → (now ≡ Moving) ⊎ ((same_pose p Running && same_machine m n) ≡ true)
moved_or_runs n z table m p now moving =
    let moves : same_posture (unwrap_or (posture_of m p z) now) Moving ≡ true = ap (λ q. same_posture q Moving) moving in
    let test = holds3 machines poses postures (starts n z) table m p now in
    let runs = same_pose p Running && same_machine m n in
    elim (or_cases (same_posture now Moving) runs (implied (same_posture (unwrap_or (posture_of m p z) now) Moving) (same_posture now Moving || runs) test moves))
    [ inl moved ↦ inl (one_posture now Moving moved) | inr started ↦ inr started ]

feed_starts : (run onto feed feed_end own : Bool) → (run && (onto || (feed && feed_end && not own))) ≡ false → (run && feed) ≡ true → feed_end ≡ true → own ≡ true
feed_starts true false true true true e r f = refl
feed_starts _ _ _ _ _ e r f = cc

deposit_starts : (run deposit dep_end onto : Bool) → (run && ((deposit && dep_end) || onto)) ≡ false → (run && deposit) ≡ true → dep_end ≡ false
deposit_starts true true false onto e r = refl
deposit_starts _ _ _ onto e r = cc

-- ---- a call that is Done

-- a place that is full after a give was full
was_full : (s : ModelState) (m : Machine) (z : Zone) (p : Place) → is_full (changed s m (Give z)) p ≡ true → is_full s p ≡ true
was_full s m z p e = implied (is_full (changed s m (Give z)) p) (is_full s p) (emptied_fewer s.full (transfer_given s m z) p) e

feed_clear : (s : ModelState) (m : Machine) (c : Call) → RunsClear s → reply s m c ≡ Done → posture_given m c Z6 (posture_at s Z6) ≡ Moving → is_full (changed s m c) FeedEnd ≡ true → owns (changed s m c) Feed Z1 ≡ true
feed_clear s m (Claim Z1) r e moving full = absurd (never (sym (r.feed moving full) ∙ claim_unowned s m Z1 e Feed))
feed_clear s m (Give Z1) r e moving full =
    let may = (give_done s m Z1 (done_none (give_refusal s m Z1) e)).0 in
    let empty = gone s.full (posture_at s Z1) m (fourth (is_party m Z1) (owns s m Z1) (not (zone_at s Z1).flag) (is_some (transfer_given s m Z1)) may) in
    absurd (never (sym full ∙ empty))
feed_clear s m (Give z) r e moving full = r.feed moving (was_full s m z FeedEnd full)
feed_clear s m (Yield Z1) r e moving full =
    let is_feed = sym (owned_as (owner_of s Z1) m Feed (yield_owned s m Z1 e)) ∙ r.feed moving full in
    unless_in_use (same_machine m Feed) (posture_at s Z6) (is_full s FeedEnd) _ (none_then _ InUse (yield_out_of_use s m Z1 (done_none (yield_refusal s m Z1) e))) is_feed moving full
feed_clear s m (Release Z1) r e moving full =
    let is_feed = sym (owned_as (owner_of s Z1) m Feed (release_owned s m Z1 e)) ∙ r.feed moving full in
    unless_in_use (same_machine m Feed) (posture_at s Z6) (is_full s FeedEnd) _ (none_then _ InUse (release_out_of_use s m Z1 (done_none (release_refusal s m Z1) e))) is_feed moving full
feed_clear s m (Take Z1) r e moving full = r.feed moving (sym (unfilled s.full Z1 (posture_at s Z1)).0 ∙ full)
feed_clear s m (Take z) r e moving full = r.feed moving (sym (unfilled s.full z (posture_at s z)).0 ∙ full)
feed_clear s m (SetPose p) r e moving full =
    elim (moved_or_runs Feed Z6 refl m p (posture_at s Z6) moving) [
      | inl moved ↦ r.feed moved full
      | inr runs ↦ feed_starts (same_pose p Running) (same_machine m Deposit && is_full s DepEnd) (same_machine m Feed) (is_full s FeedEnd) (owns s Feed Z1) (none_then _ PlaceFull (pose_fits s m p (done_none (pose_refusal s m p) e)).2) runs full
    ]
feed_clear s Feed Advance r e moving full = absurd (never (sym (ap (λ q. same_posture q Moving) moving)))
feed_clear s m _ r e moving full = r.feed moving full

-- while a zone of the deposit belt moves, the belt's end is empty
abbrev EndIsEmpty : ModelState → Zone → Type 0
EndIsEmpty s z = posture_at s z ≡ Moving → is_full s DepEnd ≡ false

no_longer : (a b : Bool) → (a ≡ true → b ≡ true) → b ≡ false → a ≡ false
no_longer true b f e = sym (f refl) ∙ e
no_longer false b f e = refl

-- an advance stops its own belt, and no other
stopped : (t : Bool) (now : Posture) (b : Bool) → t ≡ true → (if t then Closed else now) ≡ Moving → b ≡ false
stopped true now b e moving = cc
stopped false now b e moving = cc

moved_on : (t : Bool) (now : Posture) → t ≡ false → (if t then Closed else now) ≡ Moving → now ≡ Moving
moved_on true now e moving = cc
moved_on false now e moving = moving

deposit_clear : (z : Zone) → host_of z ≡ Deposit → starts_table Deposit z ≡ true → (s : ModelState) (m : Machine) (c : Call) → EndIsEmpty s z → reply s m c ≡ Done → posture_given m c z (posture_at s z) ≡ Moving → is_full (changed s m c) DepEnd ≡ false
deposit_clear z host table s m (Give y) r e moving = no_longer _ _ (was_full s m y DepEnd) (r moving)
deposit_clear z host table s m (Take y) r e moving = (unfilled s.full y (posture_at s y)).1 ∙ r moving
deposit_clear z host table s m (SetPose p) r e moving =
    elim (moved_or_runs Deposit z table m p (posture_at s z) moving) [
      | inl moved ↦ r moved
      | inr runs ↦ deposit_starts (same_pose p Running) (same_machine m Deposit) (is_full s DepEnd) (same_machine m Feed && is_full s FeedEnd && not (owns s Feed Z1)) (none_then _ PlaceFull (pose_fits s m p (done_none (pose_refusal s m p) e)).2) runs
    ]
deposit_clear z host table s Deposit Advance r e moving = stopped (is_belt_of Deposit z) (posture_at s z) _ (ap (λ n. same_machine n Deposit) host) moving
deposit_clear z host table s Feed Advance r e moving = r (moved_on (is_belt_of Feed z) (posture_at s z) (ap (λ n. same_machine n Feed) host) moving)
deposit_clear z host table s m _ r e moving = r moving

clear_changed : (s : ModelState) (m : Machine) (c : Call) → RunsClear s → reply s m c ≡ Done → RunsClear (changed s m c)
clear_changed s m c r e = record {
  feed = λ moving full. feed_clear s m c r e (sym (posture-changed s m c Z6) ∙ moving) full;
  entry = λ moving. deposit_clear Z4 refl refl s m c r.entry e (sym (posture-changed s m c Z4) ∙ moving);
  end = λ moving. deposit_clear Z5 refl refl s m c r.end e (sym (posture-changed s m c Z5) ∙ moving);
}

pub clear_next : (s : ModelState) (m : Machine) (c : Call) → RunsClear s → RunsClear (next s m c)
clear_next s m c r = next_cases (λ b t. RunsClear t) s m c (reply s m c) (clear_changed s m c r) r

pub clear-after : (s : ModelState) (h : List Event) → RunsClear s → RunsClear (after s h)
clear-after s [] r = r
clear-after s (e ∷ h) r = clear-after (next s e.machine e.call) h (clear_next s e.machine e.call r)

-- ---- by the events

full_if : (b : Bool) → pos (one_if b) ≡ pos 1 → b ≡ true
full_if true e = refl
full_if false e = cc

pub belts_by_events : (s : ModelState) (h : List Event) → PostureByEvents s h → PlatesAreKept s h → OneHolder s h → RunsClear (after s h) → BeltsRunClear s h
belts_by_events s h postures plates holders clear =
    let t = after s h in
    let empty : (is_full t DepEnd ≡ false) → plates_at s h DepEnd ≡ pos 0 = λ none. plates.at_place DepEnd ∙ ap (λ (b : Bool). pos (one_if b)) none in
    record {
      feed = λ moves one. (holders.owner Feed Z1).1 (clear.feed (sym (postures Z6) ∙ moves) (full_if (is_full t FeedEnd) (sym (plates.at_place FeedEnd) ∙ one)));
      entry = λ moves. empty (clear.entry (sym (postures Z4) ∙ moves));
      end = λ moves. empty (clear.end (sym (postures Z5) ∙ moves));
      state = clear;
    }
