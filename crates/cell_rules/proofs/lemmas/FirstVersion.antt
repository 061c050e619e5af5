-- While the cell isn't stopped, no condition that asks for it applies.
use Rattle.cell_rules.proofs.Names.{◌≡◌, ◌+◌, Bool, true, false, ◌&&◌, Option, None, refl, ap, ◌∙◌, then_some, Machine, Call, Claim, Give, SetPose, Inquire, Stop, Resume, Refusal, Stopped, Answer, Done, ModelState, refusal, reply, next_by, done_unless, stopped_after, zones_after, places_after}
use Rattle.cell_rules.specs.Refusals
use Rattle.cell_rules.specs.FirstVersion as first

-- what is asked second never applies
passed : (a : Option Refusal) (b : Bool) → b ≡ false → Refusals.◌or◌ a (then_some b Stopped) ≡ a
passed None true e = cc
passed _ _ e = refl

no_move : (a b : Bool) → b ≡ false → (a && b) ≡ false
no_move true b e = e
no_move false b e = refl

same_refusal : (s : ModelState) (m : Machine) (c : Call) → s.stopped ≡ false → first.has_call c ≡ true → refusal s m c ≡ first.refusal s m c
same_refusal s m (Claim z) e k =
    ap (λ o. Refusals.◌or◌ (Refusals.◌or◌ (Refusals.◌or◌ (Refusals.◌or◌ o (Refusals.already_mine s m z)) (Refusals.held s m z)) (Refusals.shut_to_guest s m z)) (Refusals.worn s)) (passed (Refusals.not_party m z) s.stopped e)
same_refusal s m (Give z) e k =
    let row = Refusals.transfer_given s m z in
    ap (λ o. Refusals.◌or◌ (Refusals.◌or◌ (Refusals.◌or◌ (Refusals.◌or◌ (Refusals.◌or◌ (Refusals.◌or◌ o (Refusals.not_owner s m z)) (Refusals.plate_in_zone s z)) (Refusals.wrong_way row)) (Refusals.nothing_to_give s row)) (Refusals.no_room s row)) (Refusals.worn s)) (passed (Refusals.not_party m z) s.stopped e)
same_refusal s m (SetPose p) e k =
    ap (λ o. Refusals.◌or◌ (Refusals.◌or◌ (Refusals.◌or◌ (Refusals.◌or◌ (Refusals.◌or◌ (Refusals.◌or◌ o (Refusals.first_zone (Refusals.unowned_by_pose s m p))) (Refusals.first_zone (Refusals.plate_under_pose s m p))) (Refusals.jump s m p)) (Refusals.first_zone (Refusals.opens_onto_plate s m p))) (Refusals.runs_onto_plate s m p)) (Refusals.worn s))
    (passed (Refusals.lacks_pose m p) (Refusals.is_moving_pose p && s.stopped) (no_move (Refusals.is_moving_pose p) s.stopped e))
same_refusal s m _ e k = cc

same_reply : (s : ModelState) (m : Machine) (c : Call) → s.stopped ≡ false → first.has_call c ≡ true → reply s m c ≡ first.reply s m c
same_reply s m (Inquire z) e k = refl
same_reply s m c e k = ap done_unless (same_refusal s m c e k)

-- none of these calls touches the mark
mark_kept : (s : ModelState) (c : Call) → first.has_call c ≡ true → stopped_after s c ≡ s.stopped
mark_kept s Stop k = cc
mark_kept s Resume k = cc
mark_kept s _ k = refl

left_by : (a : Answer) (s : ModelState) (m : Machine) (c : Call) → first.has_call c ≡ true → next_by a s m c ≡ first.next_by a s m c
left_by Done s m c k = λ i. record { zones = zones_after s m c; full = places_after s m c; stamp = s.stamp + 1; stopped = mark_kept s c k i }
left_by _ s m c k = refl

mark_left : (a : Answer) (s : ModelState) (m : Machine) (c : Call) → s.stopped ≡ false → first.has_call c ≡ true → (next_by a s m c).stopped ≡ false
mark_left Done s m c e k = mark_kept s c k ∙ e
mark_left _ s m c e k = e

pub first_version : first.FirstVersionStays
first_version s m c e k =
    let answer = same_reply s m c e k in
    record {
      answer = answer;
      left = left_by (reply s m c) s m c k ∙ ap (λ a. first.next_by a s m c) answer;
      unmarked = mark_left (reply s m c) s m c e k;
    }
