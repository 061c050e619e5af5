-- The deposit belt may go on at each step that is in step with a state.
use Rattle.cell_resume.proofs.Names.{Deposit, Z4, Z5, Moving, after, and_left, seen_held, seen_in, deposit_steps, IsResumable}
use Rattle.cell_control.proofs.lemmas.SharedZones.{all_kept_of}
use Rattle.cell_belts_crane.specs.DepositProgram.{zones_at, in_step}
use Rattle.cell_belts_crane.proofs.lemmas.DepositFacts.{DepositKnows, deposit-knowing, deposit_begins, drives_at}

pub deposit_resumable : IsResumable deposit_steps in_step DepositKnows
deposit_resumable = record {
  begins = deposit_begins;
  enters = λ p z e. (all_kept_of (zones_at p.step) Deposit z (and_left _ _ e)).0;
  knowing = deposit-knowing;
  demands = λ p reading act opening seen asks drives sound legal k on.
      let at = drives_at p.step p (after opening seen) asks k in
      record {
        entry = seen_held opening seen Deposit Z4 legal at.0.0;
        exit = seen_held opening seen Deposit Z5 legal at.0.1;
        entry_moves = seen_in opening seen Z4 Moving legal at.1.0;
        exit_moves = seen_in opening seen Z5 Moving legal at.1.1;
      };
}
