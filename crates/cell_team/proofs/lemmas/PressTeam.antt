-- The press is never refused.
use Rattle.cell_team.proofs.Names.{◌≡◌, ◌&&◌, Bool, true, false, not, [], ◌∷◌, Option, Some, None, refl, sym, ap, ◌∙◌, subst, ⊤, ◌||◌, Press, Zone, Z3, PressIn, PressOut, Closed, Moving, OpenIn, OpenOut, Travelling, Middle, Low, Top, Call, Claim, Give, Take, SetPose, NotOwner, Done, transfer_of, same_posture, then_some, Off, Plus, Minus, has, ModelState, is_full, IsSound, owns, owner_of, posture_at, given_by, moves_at, reply, changed, emptied, filled, IsStartState, take_owned, and_left}
use Rattle.cell_team.proofs.Names.{and_right, and_both, full-foreign, Never, UntilRoom, PressStep, PressProgress}
use Rattle.cell_devices.specs.declared.motor.Motor.{Motor}
use Rattle.cell_table_press.specs.Names.{with_plates, by_plates, row_at, after_motor, press_start, press_steps}
use Rattle.cell_table_press.specs.declared.press.PressStep.TheVariants.{ClaimFirst, MoveToMiddle, PoseMiddle, ReleaseInterior, TakePlate, MoveToTop, PoseTop, Forge, MoveToBottom, PoseLow, GivePlate, ClaimBack}
use Rattle.cell_table_press.specs.PressProgram.{row_of, keeps_at, zones_at, are_there}
use Rattle.cell_table_press.proofs.lemmas.PressFacts as known
use Rattle.cell_control.specs.Keeping.{unposed}
use Rattle.cell_control.specs.declared.share.Share.TheVariants.{Clear}
use Rattle.cell_control.proofs.lemmas.SharedZones.{AreSure, AreShared}
use Rattle.cell_team.proofs.Waiting.{Heeds, Clears, HasRoom, may, has_room, no_jump, first_claim, claim_back, take_back, give_only, release_only, pose_only, advance_only}
use Rattle.cell_team.proofs.lemmas.Shares.{shared_foreign, unowned, free_of, claimed_clear, noted_empty, noted_full}
use Rattle.cell_team.proofs.lemmas.Reaching.{KnowingMore, asks_no_yield}

-- what the step keeps, if nobody hands over an empty zone
pub record MoreAt (s : PressStep) (loaded forged : Bool) (z : ModelState) : Type 0 where
  pub shares : AreShared Press z (zones_at s)
  pub plates : are_there (keeps_at s).plates loaded forged ≡ true
  pub in_noted : is_full z PressIn ≡ loaded
  pub out_noted : is_full z PressOut ≡ forged

abbrev pub PressMore : PressProgress → ModelState → Type 0
PressMore p z = MoreAt p.step p.loaded p.forged z

-- after a drive
done_drive : (s : PressStep) (p : PressProgress) (z : ModelState) → (row_at s p).call ≡ None → MoreAt s p.loaded p.forged z → PressMore (row_at s p).next z
done_drive MoveToMiddle p z e k = record { shares = k.shares; plates = k.plates; in_noted = k.in_noted; out_noted = k.out_noted }
done_drive _ p z e k = first_of (assumption, cc)

drive_on : (m : Motor) (p : PressProgress) (z : ModelState) → (row_of p).call ≡ None → PressMore p z → PressMore (after_motor p m) z
drive_on Off p z e k = done_drive p.step p z e k
drive_on Plus p z e k = k
drive_on Minus p z e k = k

at_choice : (loaded forged : Bool) (p : PressProgress) (z : ModelState) → AreShared Press z ((Z3, unposed Clear) ∷ []) → not (loaded && forged) ≡ true → is_full z PressIn ≡ loaded → is_full z PressOut ≡ forged → MoreAt (by_plates (with_plates p loaded forged)) loaded forged z
at_choice true true p z k e i o = cc
at_choice false true p z k e i o = record { shares = k; plates = refl; in_noted = i; out_noted = o }
at_choice true false p z k e i o = record { shares = k; plates = refl; in_noted = i; out_noted = o }
at_choice false false p z k e i o = record { shares = k; plates = refl; in_noted = i; out_noted = o }

-- a plate comes into the press, is forged, and leaves it
abbrev InPress : ModelState → Bool → Bool → Type 0
InPress z loaded forged = (is_full z PressIn ≡ loaded) × (is_full z PressOut ≡ forged)

taken_in : (z : ModelState) → posture_at z Z3 ≡ OpenIn → InPress (changed z Press (Take Z3)) true (is_full z PressOut)
taken_in z opens = (ap (λ q. has (filled z.full (transfer_of Z3 q)) PressIn) opens, ap (λ q. has (filled z.full (transfer_of Z3 q)) PressOut) opens)

given_out : (z : ModelState) → posture_at z Z3 ≡ OpenOut → InPress (changed z Press (Give Z3)) (is_full z PressIn) false
given_out z opens = (ap (λ q. has (emptied z.full (given_by Press (transfer_of Z3 q))) PressIn) opens, ap (λ q. has (emptied z.full (given_by Press (transfer_of Z3 q))) PressOut) opens)

-- after a call that is done
abbrev AfterCall : ModelState → Option Call → PressProgress → Type 0
AfterCall z None q = ⊤
AfterCall z (Some c) q = reply z Press c ≡ Done → PressMore q (changed z Press c)

after_call : (s : PressStep) (p : PressProgress) (z : ModelState) → IsSound z → AreSure Press z (zones_at s) → MoreAt s p.loaded p.forged z → AfterCall z (row_at s p).call (row_at s p).next
after_call ClaimFirst p z sound f k = λ d. at_choice p.loaded p.forged p (changed z Press (Claim Z3)) ((refl, claimed_clear z Press Z3 sound d), tt) k.plates k.in_noted k.out_noted
after_call MoveToMiddle p z sound f k = tt
after_call ReleaseInterior p z sound f k = λ d. record { shares = (λ o. cc, tt); plates = k.plates; in_noted = k.in_noted; out_noted = k.out_noted }
after_call TakePlate p z sound f k = λ d.
    let places = taken_in z f.0.1 in
    record { shares = ((take_owned z Press Z3 d, refl), tt); plates = and_right (not p.loaded) (not p.forged) k.plates; in_noted = places.0; out_noted = places.1 ∙ k.out_noted }
after_call MoveToTop p z sound f k = tt
after_call Forge p z sound f k = λ d. record { shares = k.shares; plates = refl; in_noted = refl; out_noted = refl }
after_call MoveToBottom p z sound f k = tt
after_call GivePlate p z sound f k = λ d.
    let places = given_out z f.0.1 in
    record { shares = (λ o. cc, tt); plates = and_both (not p.loaded) true (and_left (not p.loaded) p.forged k.plates) refl; in_noted = places.0 ∙ k.in_noted; out_noted = places.1 }
after_call ClaimBack p z sound f k = λ d. record { shares = ((refl, claimed_clear z Press Z3 sound d), tt); plates = k.plates; in_noted = k.in_noted; out_noted = k.out_noted }
after_call _ p z sound f k = λ d. record { shares = k.shares; plates = k.plates; in_noted = k.in_noted; out_noted = k.out_noted }

pub press-more : KnowingMore press_steps known.PressKnows PressMore
press-more = record {
  foreign = λ p z n c apart sound polite k. record {
    shares = shared_foreign Press n c z (zones_at p.step) (known.press_firm p.step) apart sound polite k.shares;
    plates = k.plates;
    in_noted = full-foreign z n c PressIn sound apart ∙ k.in_noted;
    out_noted = full-foreign z n c PressOut sound apart ∙ k.out_noted;
  };
  after_drive = λ p s act z e d k. drive_on act.press p z e k;
  after_done = λ p z c e d sound f k. subst (λ o. AfterCall z o (row_of p).next) e (after_call p.step p z sound f k) d;
  after_inquiry = λ p z c owner flag posture e d sound f k. k;
}

not_both : (b : Bool) → b ≡ false → not b ≡ true
not_both true e = cc
not_both false e = refl

pub press_begins : (z : ModelState) → IsStartState z → PressMore (press_start z) z
press_begins z k =
    let At : ModelState → Type 0 = λ x. not (is_full x PressIn && is_full x PressOut) ≡ true → PressMore (press_start x) x in
    subst At (sym k.same) (λ e. record { shares = ((λ o. cc, refl), tt); plates = e; in_noted = refl; out_noted = refl }) (not_both _ k.start.one_in_press_at_most)

pub never_yields : (s : PressStep) (p : PressProgress) → asks_no_yield (row_at s p).call ≡ true
never_yields ClaimFirst p = refl
never_yields _ p = refl

-- ---- what it asks

clears : (z : ModelState) → AreShared Press z ((Z3, unposed Clear) ∷ []) → Clears z Press
clears z k Z3 e = k.0
clears z k y e = cc

room : (z : ModelState) → is_full z PressIn ≡ false → is_full z PressOut ≡ false → HasRoom z Press Middle
room z first second Z3 e = ap (λ b. b || is_full z PressOut) first ∙ second
room z first second y e = cc

-- it arrives only while its zone moves
moves : (z : ModelState) → posture_at z Z3 ≡ Moving → (y : Zone) → moves_at z Press y ≡ true
moves z e Z3 = ap (λ q. same_posture q Moving) e
moves z e _ = refl

owned_not : (owned : Bool) (z : ModelState) → owned ≡ true → then_some (not owned) (NotOwner (owner_of z Z3)) ≡ None
owned_not true z e = refl
owned_not false z e = cc

leaves : (z : ModelState) → AreShared Press z ((Z3, unposed Clear) ∷ []) → Heeds Never z Press (Some (SetPose Travelling))
leaves z k = pose_only z Press Travelling refl (clears z k) refl (has_room z Press Travelling refl) refl

heeds_at : (s : PressStep) (p : PressProgress) (z : ModelState) → IsSound z → AreSure Press z (zones_at s) → MoreAt s p.loaded p.forged z → Heeds (row_at s p).waits z Press (row_at s p).call
heeds_at ClaimFirst p z sound f k = let mine = unowned z Press Z3 Closed sound k.shares.0.1 refl k.shares.0.0 in first_claim z Press Z3 refl refl mine (free_of z Z3 sound k.shares.0.1 mine)
heeds_at MoveToMiddle p z sound f k = tt
heeds_at PoseMiddle p z sound f k =
    pose_only z Press Middle refl (clears z k.shares) (no_jump z Press (moves z f.0.1))
    (room z (noted_empty _ _ k.in_noted (and_left (not p.loaded) (not p.forged) k.plates)) (noted_empty _ _ k.out_noted (and_right (not p.loaded) (not p.forged) k.plates))) refl
heeds_at ReleaseInterior p z sound f k = release_only z Press Z3 refl k.shares.0.0 k.shares.0.1 (ap (λ q. same_posture q Moving) f.0.1) refl
heeds_at TakePlate p z sound f k = take_back z Press Z3 refl k.shares.0
heeds_at MoveToTop p z sound f k = tt
heeds_at PoseTop p z sound f k = pose_only z Press Top refl (clears z k.shares) (no_jump z Press (moves z f.0.1)) (has_room z Press Top refl) refl
heeds_at Forge p z sound f k =
    advance_only z Press (PressIn, PressOut) refl (owned_not (owns z Press Z3) z f.0.0) (ap (λ q. same_posture q Closed) f.0.1)
    (noted_full _ _ k.in_noted (and_left p.loaded (not p.forged) k.plates)) (noted_empty _ _ k.out_noted (and_right p.loaded (not p.forged) k.plates))
heeds_at MoveToBottom p z sound f k = tt
heeds_at PoseLow p z sound f k = pose_only z Press Low refl (clears z k.shares) (no_jump z Press (moves z f.0.1)) (has_room z Press Low refl) refl
heeds_at GivePlate p z sound f k =
    give_only UntilRoom z Press Z3 _ refl k.shares.0.0 k.shares.0.1 (ap (λ q. given_by Press (transfer_of Z3 q)) f.0.1)
    (noted_full _ _ k.out_noted (and_right (not p.loaded) p.forged k.plates)) (may UntilRoom _ _ refl)
heeds_at ClaimBack p z sound f k = claim_back z Press Z3 refl refl (unowned z Press Z3 OpenOut sound f.0.1 refl k.shares.0)
heeds_at _ p z sound f k = leaves z k.shares

pub press_heeds : (p : PressProgress) (z : ModelState) → IsSound z → known.PressKnows p z → PressMore p z → Heeds (row_of p).waits z Press (row_of p).call
press_heeds p z sound f k = heeds_at p.step p z sound f k
