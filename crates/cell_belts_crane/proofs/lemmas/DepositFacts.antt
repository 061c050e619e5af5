-- What the deposit belt knows of the state at each step of its program.
use Rattle.std.proofs.Common.{◌≡◌, Bool, true, false, if◌then◌else◌, List, Some, None, refl}
use Rattle.cell_rules.specs.Types.{Deposit, Z4, Z5, Moving, Landing, Running, Offering, Call, Claim, Give, Take, Release, SetPose, Advance, Done, Event}
use Rattle.cell_rules.specs.Names.{ModelState, IsSound, owns, posture_at, next, reply, changed, after, IsLegal}
use Rattle.cell_rules.proofs.lemmas.Holders.{take_owned}
use Rattle.cell_control.specs.Steps.{IsReached}
use Rattle.cell_control.proofs.lemmas.StepLemmas.{Knowing, reached_knows}
use Rattle.cell_control.proofs.lemmas.Facts.{seen_held, seen_in}
use Rattle.cell_control.proofs.lemmas.SharedZones.{AreSure, AreFirm, are_sure_same, foreign_same}
use Rattle.cell_belts_crane.specs.Names.{with_plates, by_plates, deposit_steps}
use Rattle.cell_belts_crane.specs.declared.deposit.DepositStep.{DepositStep}
use Rattle.cell_belts_crane.specs.declared.deposit.DepositStep.TheVariants.{ClaimEntry, PoseLanding, ReleaseEntry, TakePlate, StartRun, RunIn, RunOut, MoveOn, PoseOffering, GivePlate, ClaimBack}
use Rattle.cell_belts_crane.specs.declared.deposit.DepositProgress.{DepositProgress}
use Rattle.cell_belts_crane.specs.declared.deposit.DepositStep.TheVariants.{ClaimExit}
use Rattle.cell_belts_crane.specs.DepositProgram.{row_at, row_of, zones_at, after_done, HoldsForRun}

-- what no other machine changes of what the step keeps
abbrev pub DepositKnows : DepositProgress → ModelState → Type 0
DepositKnows p z = AreSure Deposit z (zones_at p.step)

pub deposit_begins : (z : ModelState) → DepositKnows (deposit_steps.start z) z
deposit_begins z = ((tt, tt), ((tt, tt), tt))

-- after a drive
done_drive : (s : DepositStep) (p : DepositProgress) (z : ModelState) → (row_at s p).call ≡ None → AreSure Deposit z (zones_at s) → DepositKnows (row_at s p).next z
done_drive RunIn p z e k = k
done_drive RunOut p z e k = k
done_drive _ p z e k = cc

-- after a call that is done
at_choice : (entry last : Bool) (p : DepositProgress) (z : ModelState) → owns z Deposit Z4 ≡ true → owns z Deposit Z5 ≡ true → AreSure Deposit z (zones_at (by_plates (with_plates p entry last)))
at_choice entry true p z o u = ((o, tt), ((u, tt), tt))
at_choice true false p z o u = ((o, tt), ((u, tt), tt))
at_choice false false p z o u = ((o, tt), ((u, tt), tt))

done_call : (s : DepositStep) (p : DepositProgress) (c : Call) (z : ModelState) → (row_at s p).call ≡ Some c → reply z Deposit c ≡ Done → AreSure Deposit z (zones_at s) → DepositKnows (row_at s p).next (changed z Deposit c)
done_call ClaimEntry p (Claim Z4) z e d k = ((refl, tt), k.1)
done_call ClaimExit p (Claim Z5) z e d k = at_choice p.entry p.last p (changed z Deposit (Claim Z5)) k.0.0 refl
done_call PoseLanding p (SetPose Landing) z e d k = ((k.0.0, refl), ((k.1.0.0, refl), tt))
done_call ReleaseEntry p (Release Z4) z e d k = ((tt, k.0.1), k.1)
done_call TakePlate p (Take Z4) z e d k = ((take_owned z Deposit Z4 d, tt), ((k.1.0.0, tt), tt))
done_call StartRun p (SetPose Running) z e d k = ((k.0.0, refl), ((k.1.0.0, refl), tt))
done_call MoveOn p Advance z e d k = ((k.0.0, tt), ((k.1.0.0, tt), tt))
done_call PoseOffering p (SetPose Offering) z e d k = ((k.0.0, refl), ((k.1.0.0, refl), tt))
done_call GivePlate p (Give Z5) z e d k = (k.0, ((tt, k.1.0.1), tt))
done_call ClaimBack p (Claim Z5) z e d k = at_choice p.entry p.last p (changed z Deposit (Claim Z5)) k.0.0 refl
done_call s p c z e d k = cc

-- it hosts both its zones
pub deposit_firm : (s : DepositStep) → AreFirm Deposit (zones_at s)
deposit_firm s = (refl, (refl, tt))

pub deposit-knowing : Knowing deposit_steps DepositKnows
deposit-knowing = record {
  foreign = λ p z n c apart sound k. are_sure_same Deposit z (next z n c) (foreign_same Deposit n c z apart sound) (zones_at p.step) (deposit_firm p.step) k;
  after_drive = λ p s act z e d k. elim act.belt as (λ on. DepositKnows (if on then p else after_done p) z) [ true ↦ k | false ↦ done_drive p.step p z e k ];
  after_done = λ p z c e d sound k. done_call p.step p c z e d k;
  after_inquiry = λ p z c owner flag posture e d sound k. k;
  same_for = λ p z w same k. are_sure_same Deposit z w same (zones_at p.step) (deposit_firm p.step) k;
}

-- so in a step that drives the belt holds both its zones, which move
pub drives_at : (s : DepositStep) (p : DepositProgress) (z : ModelState) → (row_at s p).call ≡ None → AreSure Deposit z (zones_at s)
    → ((owns z Deposit Z4 ≡ true) × (owns z Deposit Z5 ≡ true)) × ((posture_at z Z4 ≡ Moving) × (posture_at z Z5 ≡ Moving))
drives_at RunIn p z e k = ((k.0.0, k.1.0.0), (k.0.1, k.1.0.1))
drives_at RunOut p z e k = ((k.0.0, k.1.0.0), (k.0.1, k.1.0.1))
drives_at _ p z e k = cc

pub drives-held : (opening : ModelState) (seen : List Event) (p : DepositProgress) → IsSound opening → IsLegal opening seen → IsReached deposit_steps opening seen p → (row_of p).call ≡ None → HoldsForRun opening seen
drives-held opening seen p sound legal r e =
    let at = drives_at p.step p (after opening seen) e (reached_knows deposit_steps DepositKnows deposit-knowing deposit_begins opening seen p sound legal r) in
    record {
      entry = seen_held opening seen Deposit Z4 legal at.0.0;
      exit = seen_held opening seen Deposit Z5 legal at.0.1;
      entry_moves = seen_in opening seen Z4 Moving legal at.1.0;
      exit_moves = seen_in opening seen Z5 Moving legal at.1.1;
    }
