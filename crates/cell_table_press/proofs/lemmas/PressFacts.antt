-- What the press knows of the state at each step of its program.
use Rattle.std.proofs.Common.{◌≡◌, Bool, true, false, List, Option, Some, None, refl, subst}
use Rattle.std.specs.Prelude.{⊤}
use Rattle.cell_rules.specs.Types.{Press, Zone, Z3, Moving, Call, Claim, Done, Event}
use Rattle.cell_rules.specs.Names.{ModelState, IsSound, owns, posture_at, next, reply, changed, after, IsLegal, Holds, PressMoves}
use Rattle.cell_rules.proofs.lemmas.Holders.{take_owned}
use Rattle.cell_control.specs.Steps.{IsReached}
use Rattle.cell_control.proofs.lemmas.StepLemmas.{Knowing, reached_knows}
use Rattle.cell_control.proofs.lemmas.Facts.{seen_held, seen_in}
use Rattle.cell_control.specs.declared.share.ZoneShare.{ZoneShare}
use Rattle.cell_control.proofs.lemmas.SharedZones.{AreSure, AreFirm, are_sure_same, foreign_same}
use Rattle.cell_devices.specs.declared.motor.Motor.{Motor}
use Rattle.cell_devices.specs.declared.motor.Motor.TheVariants.{Off, Plus, Minus}
use Rattle.cell_table_press.specs.Names.{with_plates, by_plates, row_at, after_motor, press_start, press_steps}
use Rattle.cell_table_press.specs.declared.press.PressStep.{PressStep}
use Rattle.cell_table_press.specs.declared.press.PressStep.TheVariants.{ClaimFirst, MoveToMiddle, ReleaseInterior, TakePlate, MoveToTop, Forge, MoveToBottom, GivePlate, ClaimBack}
use Rattle.cell_table_press.specs.declared.press.PressProgress.{PressProgress}
use Rattle.cell_table_press.specs.PressProgram.{row_of, zones_at}

-- what no other machine changes of what the step keeps
abbrev pub PressKnows : PressProgress → ModelState → Type 0
PressKnows p z = AreSure Press z (zones_at p.step)

pub press_begins : (z : ModelState) → PressKnows (press_start z) z
press_begins z = ((tt, tt), tt)

-- after a drive
done_drive : (s : PressStep) (p : PressProgress) (z : ModelState) → (row_at s p).call ≡ None → AreSure Press z (zones_at s) → PressKnows (row_at s p).next z
done_drive MoveToMiddle p z e k = k
done_drive MoveToTop p z e k = k
done_drive MoveToBottom p z e k = k
done_drive _ p z e _ = cc

drive_on : (m : Motor) (p : PressProgress) (z : ModelState) → (row_of p).call ≡ None → PressKnows p z → PressKnows (after_motor p m) z
drive_on Off p z e k = done_drive p.step p z e k
drive_on Plus p z e k = k
drive_on Minus p z e k = k

-- after a call that is done
at_choice : (loaded forged : Bool) (p : PressProgress) (z : ModelState) → owns z Press Z3 ≡ true → AreSure Press z (zones_at (by_plates (with_plates p loaded forged)))
at_choice loaded true p z o = ((o, tt), tt)
at_choice true false p z o = ((o, tt), tt)
at_choice false false p z o = ((o, tt), tt)

abbrev AfterCall : ModelState → Option Call → List (Zone × ZoneShare) → Type 0
AfterCall z None zones = ⊤
AfterCall z (Some c) zones = reply z Press c ≡ Done → AreSure Press (changed z Press c) zones

after_call : (s : PressStep) (p : PressProgress) (z : ModelState) → AreSure Press z (zones_at s) → AfterCall z (row_at s p).call (zones_at (row_at s p).next.step)
after_call ClaimFirst p z k = λ d. at_choice p.loaded p.forged p (changed z Press (Claim Z3)) refl
after_call MoveToMiddle p z k = tt
after_call ReleaseInterior p z k = λ d. ((tt, k.0.1), tt)
after_call TakePlate p z k = λ d. ((take_owned z Press Z3 d, tt), tt)
after_call MoveToTop p z k = tt
after_call Forge p z k = λ d. ((k.0.0, tt), tt)
after_call MoveToBottom p z k = tt
after_call GivePlate p z k = λ d. ((tt, k.0.1), tt)
after_call ClaimBack p z k = λ d. ((refl, tt), tt)
after_call _ p z k = λ d. ((k.0.0, refl), tt)

done_call : (p : PressProgress) (c : Call) (z : ModelState) → (row_of p).call ≡ Some c → reply z Press c ≡ Done → PressKnows p z → PressKnows (row_of p).next (changed z Press c)
done_call p c z e d k = subst (λ o. AfterCall z o (zones_at (row_of p).next.step)) e (after_call p.step p z k) d

-- it hosts its zone
pub press_firm : (s : PressStep) → AreFirm Press (zones_at s)
press_firm s = (refl, tt)

pub press-knowing : Knowing press_steps PressKnows
press-knowing = record {
  foreign = λ p z n c apart sound k. are_sure_same Press z (next z n c) (foreign_same Press n c z apart sound) (zones_at p.step) (press_firm p.step) k;
  after_drive = λ p s act z e d k. drive_on act.press p z e k;
  after_done = λ p z c e d sound k. done_call p c z e d k;
  after_inquiry = λ p z c owner flag posture e d sound k. k;
  same_for = λ p z w same k. are_sure_same Press z w same (zones_at p.step) (press_firm p.step) k;
}

-- so in a step that drives the press holds its interior, which moves
pub drives_at : (s : PressStep) (p : PressProgress) (z : ModelState) → (row_at s p).call ≡ None → AreSure Press z (zones_at s) → (owns z Press Z3 ≡ true) × (posture_at z Z3 ≡ Moving)
drives_at MoveToMiddle p z e k = k.0
drives_at MoveToTop p z e k = k.0
drives_at MoveToBottom p z e k = k.0
drives_at _ p z e _ = cc

pub drives-held : (opening : ModelState) (seen : List Event) (p : PressProgress) → IsSound opening → IsLegal opening seen → IsReached press_steps opening seen p → (row_of p).call ≡ None
    → Holds opening seen Press Z3 × PressMoves opening seen
drives-held opening seen p sound legal r e =
    let at = drives_at p.step p (after opening seen) e (reached_knows press_steps PressKnows press-knowing press_begins opening seen p sound legal r) in
    (seen_held opening seen Press Z3 legal at.0, seen_in opening seen Z3 Moving legal at.1)
