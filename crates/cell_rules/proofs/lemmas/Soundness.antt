-- Each call keeps a sound state sound.
use Rattle.cell_rules.proofs.Names.{◌≡◌, ℕ, ◌+◌, ◌≤◌, Bool, true, false, Option, None, refl, sym, subst, arith, Machine, Call, Claim, Give, Yield, Take, Release, SetPose, Advance, Inquire, Stop, Resume, Refusal, Answer, Done, Event, ModelState, IsSound, claim_refusal, give_refusal, yield_refusal, take_refusal, release_refusal, pose_refusal, advance_refusal, stop_refusal, resume_refusal, reply, changed, next, next_by, done_unless, is_done_answer}
use Rattle.cell_rules.proofs.Names.{is_done, ZoneMap, PlaceSet, model_state, zones_after, places_after, stopped_after}
use Rattle.cell_rules.proofs.lemmas.DoneCalls.{stop_done, resume_done}
use Rattle.cell_rules.proofs.lemmas.SoundAfterCalls.{claim_keeps, yield_keeps, release_keeps}
use Rattle.cell_rules.proofs.lemmas.Plates.{give_keeps, take_keeps}
use Rattle.cell_rules.proofs.lemmas.Moves.{pose_keeps, advance_keeps}

-- a call that is Done isn't refused
pub done_none : (r : Option Refusal) → done_unless r ≡ Done → r ≡ None
done_none None e = refl
done_none r e = cc

-- with another stamp in range, stopped or not
pub stamped : (s : ModelState) (stamp : ℕ) (b : Bool) → IsSound s → stamp ≤ 1048575 → IsSound (record s { stamp = stamp; stopped = b })
stamped s stamp b h small = assumption

pub changed_keeps : (s : ModelState) (m : Machine) (c : Call) → IsSound s → reply s m c ≡ Done → IsSound (changed s m c)
changed_keeps s m (Claim z) h e = claim_keeps s m z h (done_none (claim_refusal s m z) e)
changed_keeps s m (Give z) h e = give_keeps s m z h (done_none (give_refusal s m z) e)
changed_keeps s m (Yield z) h e = yield_keeps s m z h (done_none (yield_refusal s m z) e)
changed_keeps s m (Take z) h e = take_keeps s m z h (done_none (take_refusal s m z) e)
changed_keeps s m (Release z) h e = release_keeps s m z h (done_none (release_refusal s m z) e)
changed_keeps s m (SetPose p) h e = pose_keeps s m p h (done_none (pose_refusal s m p) e)
changed_keeps s m Advance h e = advance_keeps s m h (done_none (advance_refusal s m) e)
changed_keeps s m (Inquire z) h e = cc
changed_keeps s m Stop h e = let less = (stop_done s m (done_none (stop_refusal s m) e)).2 in stamped s _ _ h (omega arith)
changed_keeps s m Resume h e = let less = (resume_done s m (done_none (resume_refusal s m) e)).2 in stamped s _ _ h (omega arith)

-- also with its parts computed one by one
pub changed_stays : (s : ModelState) (m : Machine) (c : Call) (zones : ZoneMap) (full : PlaceSet) (stamp : ℕ) (stopped : Bool) → IsSound s → reply s m c ≡ Done → zones ≡ zones_after s m c → full ≡ places_after s m c → stamp ≡ s.stamp → stopped ≡ stopped_after s c
    → IsSound (model_state zones full (stamp + 1) stopped)
changed_stays s m c zones full stamp stopped h e of_zones of_full of_stamp of_stopped =
    let same : model_state zones full (stamp + 1) stopped ≡ changed s m c = λ i. model_state (of_zones i) (of_full i) (of_stamp i + 1) (of_stopped i) in
    subst IsSound (sym same) (changed_keeps s m c h e)

-- what holds after a call, by whether it is Done
pub next_cases : (P : Bool → ModelState → Type 0) (s : ModelState) (m : Machine) (c : Call) (a : Answer) → (a ≡ Done → P true (changed s m c)) → P false s → P (is_done_answer a) (next_by a s m c)
next_cases P s m c Done done same = done refl
next_cases P s m c _ done same = same

pub next_keeps : (s : ModelState) (m : Machine) (c : Call) → IsSound s → IsSound (next s m c)
next_keeps s m c h = next_cases (λ b t. IsSound t) s m c (reply s m c) (changed_keeps s m c h) h

-- what holds after an event, by whether it is Done
pub event_cases : (P : Bool → ModelState → Type 0) (s : ModelState) (e : Event) → e.answer ≡ reply s e.machine e.call → (reply s e.machine e.call ≡ Done → P true (changed s e.machine e.call)) → P false s
    → P (is_done e) (next s e.machine e.call)
event_cases P s e l done same = subst (λ a. P (is_done_answer a) (next s e.machine e.call)) (sym l) (next_cases P s e.machine e.call (reply s e.machine e.call) done same)
