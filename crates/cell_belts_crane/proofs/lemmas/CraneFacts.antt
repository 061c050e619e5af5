-- What the crane knows of the state at each step of its program.
use Rattle.std.proofs.Common.{◌≡◌, ℕ, ℤ, Bool, true, false, if◌then◌else◌, List, Option, Some, None, refl, ap}
use Rattle.cell_rules.specs.Types.{Machine, Crane, Z5, Z6, Posture, OpenIn, OpenOut, Call, Claim, Give, Take, Release, Inquire, Done, Shown, Event, transfer_of}
use Rattle.cell_sensors.specs.Scale.{Scale}
use Rattle.cell_rules.specs.Names.{ModelState, is_full, IsSound, is_owned_by, is_open, is_received_by, is_of_some_pose, posture_at, next, reply, changed, after, IsLegal}
use Rattle.cell_types.specs.declared.place.Place.TheVariants.{Crane as OnCrane}
use Rattle.cell_control.specs.Names.{IsReached, HoldsIn}
use Rattle.cell_control.proofs.lemmas.StepLemmas.{Knowing, reached_knows}
use Rattle.cell_control.proofs.lemmas.Facts.{found, Stands, stands, handed, entered, posed}
use Rattle.cell_control.proofs.lemmas.SharedZones.{AreSure, AreFirm, are_sure_same, foreign_same}
use Rattle.cell_belts_crane.specs.CraneProgram.{zones_at}
use Rattle.cell_belts_crane.specs.Names.{row_at, row_of, step_after_inquiry, first_step, crane_start, after_done, is_done, gripper_zone, crane_steps}
use Rattle.cell_belts_crane.specs.declared.crane.CraneStep.{CraneStep}
use Rattle.cell_belts_crane.specs.declared.crane.CraneStep.TheVariants.{RaiseToFetch, AwaitPlate, LowerToPlate, RaiseWithPlate, ReleaseDeposit, ClaimFeed, LowerToFeed, RaiseFromFeed}
use Rattle.cell_belts_crane.specs.declared.crane.CraneProgress.{CraneProgress}
use Rattle.cell_belts_crane.specs.declared.crane.CraneStep.TheVariants.{TakePlate, GivePlate}

-- what no other machine changes of what the step keeps
abbrev pub CraneKnows : CraneProgress → ModelState → Type 0
CraneKnows p z = AreSure Crane z (zones_at p.step)

begins : (loaded : Bool) (z : ModelState) → AreSure Crane z (zones_at (first_step loaded))
begins true z = ((tt, tt), ((tt, tt), tt))
begins false z = ((tt, tt), ((tt, tt), tt))

pub crane_begins : (z : ModelState) → CraneKnows (crane_start z) z
crane_begins z = begins (is_full z OnCrane) z

-- after a drive, or after switching the magnet
done_drive : (s : CraneStep) (p : CraneProgress) (z : ModelState) → (row_at s p).call ≡ None → AreSure Crane z (zones_at s) → CraneKnows (row_at s p).next z
done_drive RaiseToFetch p z e k = k
done_drive _ p z e k = first_of (assumption, cc)

drive_on : (b : Bool) (p : CraneProgress) (z : ModelState) → (row_of p).call ≡ None → CraneKnows p z → CraneKnows (if b then after_done p else p) z
drive_on true p z e k = done_drive p.step p z e k
drive_on false p z e k = k

-- a plate comes to the crane only while the deposit belt's zone is open outward
gives_out : (q : Posture) → is_received_by (Some Crane) (transfer_of Z5 q) ≡ true → q ≡ OpenOut
gives_out OpenOut e = refl
gives_out _ e = cc

-- the feed belt opens its zone to the crane only inward
opens_in : (q : Posture) → is_open q ≡ true → is_of_some_pose Z6 q ≡ true → q ≡ OpenIn
opens_in OpenIn e f = refl
opens_in _ e f = cc

-- after a call that is done
done_call : (s : CraneStep) (p : CraneProgress) (c : Call) (z : ModelState) → (row_at s p).call ≡ Some c → reply z Crane c ≡ Done → IsSound z → AreSure Crane z (zones_at s) → CraneKnows (row_at s p).next (changed z Crane c)
done_call TakePlate p (Take Z5) z e d sound k = ((k.0.0, k.0.1), k.1)
done_call ReleaseDeposit p (Release Z5) z e d sound k = ((tt, tt), k.1)
done_call ClaimFeed p (Claim Z6) z e d sound k = (k.0, ((refl, opens_in (posture_at z Z6) (entered z Z6 Crane d refl) (posed z Z6 sound)), tt))
done_call GivePlate p (Give Z6) z e d sound k = (k.0, ((tt, tt), tt))
done_call AwaitPlate p c z e d sound k = k
done_call s p c z e d sound k = cc

-- after an inquiry that showed this
at_deposit : (z : ModelState) (o : Option Machine) (f : Bool) (q : Posture) → IsSound z → Stands z Z5 o f q → AreSure Crane z (zones_at (step_after_inquiry AwaitPlate o f))
at_deposit z (Some Crane) true q sound k = ((ap (λ x. is_owned_by x Crane) k.owner, gives_out (posture_at z Z5) (handed z Z5 Crane sound k.owner k.flag)), ((tt, tt), tt))
at_deposit z o f q sound k = ((tt, tt), ((tt, tt), tt))

shown_call : (s : CraneStep) (p : CraneProgress) (c : Call) (z : ModelState) (o : Option Machine) (f : Bool) (q : Posture) → (row_at s p).call ≡ Some c → reply z Crane c ≡ Shown o f q → IsSound z → AreSure Crane z (zones_at s) → AreSure Crane z (zones_at (step_after_inquiry s o f))
shown_call AwaitPlate p (Inquire Z5) z o f q e d sound k = at_deposit z o f q sound (stands z Crane Z5 o f q d)
shown_call AwaitPlate p c z o f q e d sound k = cc
shown_call s p c z o f q e d sound k = k

-- its postures are of zones that it holds
pub crane_firm : (s : CraneStep) → AreFirm Crane (zones_at s)
crane_firm LowerToPlate = (refl, (refl, tt))
crane_firm _ = (refl, (refl, tt))

pub crane-knowing : (points : Scale) (gives : ℕ → ℤ → Type 0) → Knowing (crane_steps points gives) CraneKnows
crane-knowing points gives = record {
  foreign = λ p z n c apart sound k. are_sure_same Crane z (next z n c) (foreign_same Crane n c z apart sound) (zones_at p.step) (crane_firm p.step) k;
  after_drive = λ p r act z e d k. drive_on (is_done p.step r.high act) p z e k;
  after_done = λ p z c e d sound k. done_call p.step p c z e d sound k;
  after_inquiry = λ p z c o f q e d sound k. shown_call p.step p c z o f q e d sound k;
  same_for = λ p z w same k. are_sure_same Crane z w same (zones_at p.step) (crane_firm p.step) k;
}

-- so in each step the crane holds the gripper's zone
pub holds_at : (s : CraneStep) (o : ModelState) (h : List Event) → IsLegal o h → AreSure Crane (after o h) (zones_at s) → HoldsIn Crane o h (gripper_zone s)
holds_at LowerToPlate o h legal k = found o h Crane Z5 OpenOut legal k.0
holds_at RaiseWithPlate o h legal k = found o h Crane Z5 OpenOut legal k.0
holds_at LowerToFeed o h legal k = found o h Crane Z6 OpenIn legal k.1.0
holds_at RaiseFromFeed o h legal k = found o h Crane Z6 OpenIn legal k.1.0
holds_at _ o h legal k = tt

pub holds-zone : (points : Scale) (gives : ℕ → ℤ → Type 0) (opening : ModelState) (seen : List Event) (p : CraneProgress) → IsSound opening → IsLegal opening seen → IsReached (crane_steps points gives) opening seen p
    → HoldsIn Crane opening seen (gripper_zone p.step)
holds-zone points gives opening seen p sound legal r =
    holds_at p.step opening seen legal (reached_knows (crane_steps points gives) CraneKnows (crane-knowing points gives) crane_begins opening seen p sound legal r)
