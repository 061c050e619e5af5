-- What the deposit belt knows at its step tells that it is in step, and the other way round.
use Rattle.cell_resume.proofs.Names.{◌≡◌, true, Deposit, DepEntry, ModelState, is_full, same_flag, and_left, and_right, and_both, DepositProgress, one_flag, own_flag}
use Rattle.cell_control.specs.Keeping.{are_kept}
use Rattle.cell_control.proofs.lemmas.SharedZones.{all_kept_of, of_all_kept}
use Rattle.cell_belts_crane.specs.BeltShares.{are_there}
use Rattle.cell_belts_crane.specs.DepositProgram.{keeps_at, zones_at, in_step}
use Rattle.cell_belts_crane.proofs.lemmas.DepositFacts.{DepositKnows}
use Rattle.cell_team.proofs.lemmas.DepositTeam as team
use Rattle.cell_resume.proofs.DepositResumes.{deposit_resumable}

pub deposit_knows : (p : DepositProgress) (z : ModelState) → in_step p z ≡ true → DepositKnows p z × team.DepositMore p z
deposit_knows p z e =
    let rest = and_right (are_kept (zones_at p.step) Deposit z) _ e in
    let noted = and_right (are_there (keeps_at p.step).plates p.entry p.last) _ rest in (
      deposit_resumable.enters p z e,
      record {
        shares = (all_kept_of (zones_at p.step) Deposit z (and_left _ _ e)).1;
        plates = and_left _ _ rest;
        entry_noted = one_flag _ _ (and_left _ _ noted);
        last_noted = one_flag _ _ (and_right (same_flag (is_full z DepEntry) p.entry) _ noted);
      },
    )

pub deposit_stands : (p : DepositProgress) (z : ModelState) → DepositKnows p z × team.DepositMore p z → in_step p z ≡ true
deposit_stands p z k =
    and_both _ _ (of_all_kept (zones_at p.step) Deposit z k.0 k.1.shares) (and_both _ _ k.1.plates (and_both _ _ (own_flag _ _ k.1.entry_noted) (own_flag _ _ k.1.last_noted)))
