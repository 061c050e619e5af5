-- The programs of the feed belt and the deposit belt meet the rows of their examples.
use Rattle.std.proofs.Common.{◌≡◌, Bool, true, false, refl, None}
use Rattle.cell_types.specs.declared.answer.Refusal.{Refusal}
use Rattle.cell_control.specs.Names.{waits_on, is_inquiry}
use Rattle.cell_control.specs.declared.row.Row.{Row}
use Rattle.cell_control.proofs.lemmas.WaitLemmas.{stays_never, stays_until_free, stays_until_free_and_open, stays_until_owner, stays_until_room}
use Rattle.cell_belts_crane.specs.declared.feed.FeedStep.{FeedStep}
use Rattle.cell_belts_crane.specs.declared.feed.FeedStep.TheVariants as feed
use Rattle.cell_belts_crane.specs.declared.feed.FeedProgress.{FeedProgress}
use Rattle.cell_belts_crane.specs.FeedProgram as feed_program
use Rattle.cell_belts_crane.specs.FeedExamples as feed_examples
use Rattle.cell_belts_crane.specs.declared.deposit.DepositStep.{DepositStep}
use Rattle.cell_belts_crane.specs.declared.deposit.DepositStep.TheVariants as deposit
use Rattle.cell_belts_crane.specs.declared.deposit.DepositProgress.{DepositProgress}
use Rattle.cell_belts_crane.specs.DepositProgram as deposit_program
use Rattle.cell_belts_crane.specs.DepositExamples as deposit_examples

-- answers that can't come: no step inquires, and one that drives isn't refused
abbrev IsPlain : {S : Type 0} → Row S → Type 0
IsPlain row = (is_inquiry row.call ≡ true → ⊥) × ((r : Refusal) → row.call ≡ None → waits_on row.waits r ≡ false)

-- ---- the feed belt

feed_begins : (entry last : Bool) → feed_examples.at feed.ClaimEntry entry last ≡ feed_examples.begins_with entry last
feed_begins false false = refl
feed_begins true false = refl
feed_begins _ _ = refl

feed_plain : (s : FeedStep) (p : FeedProgress) → IsPlain (feed_program.row_at s p)
feed_plain feed.RunIn p = (λ e. cc, λ r e. refl)
feed_plain _ p = (λ e. cc, λ r e. first_of (assumption, cc))

pub feed_rows : feed_examples.FeedRowsAreMet
feed_rows = record {
  starts = record { whose = refl; by_places = λ s. feed_begins s.full.feed_entry s.full.feed_end };
  asks = λ entry last. assumption (stays_never, stays_until_owner, stays_until_free_and_open);
  drives = λ entry last. assumption;
  checks = λ s. record { says = refl; says_only = λ other k. k };
  no_other_answers = record { not_done = λ p e. absurd ((feed_plain p.step p).0 e); not_shown = λ p owner flag posture e. refl; not_refused = λ p. (feed_plain p.step p).1 };
  rests = λ p. refl;
  demands = λ p opening seen k. let at = k refl in record { holds_entry = at.entry; entry_moves = at.moves; holds_exit = at.exit };
}

-- ---- the deposit belt

deposit_begins : (entry last : Bool) → deposit_examples.at deposit.ClaimEntry entry last ≡ deposit_examples.begins_with entry last
deposit_begins false false = refl
deposit_begins true false = refl
deposit_begins _ _ = refl

deposit_plain : (s : DepositStep) (p : DepositProgress) → IsPlain (deposit_program.row_at s p)
deposit_plain deposit.RunIn p = (λ e. cc, λ r e. refl)
deposit_plain _ p = (λ e. cc, λ r e. first_of (assumption, cc))

pub deposit_rows : deposit_examples.DepositRowsAreMet
deposit_rows = record {
  starts = record { whose = refl; by_places = λ s. deposit_begins s.full.dep_entry s.full.dep_end };
  asks = λ entry last. assumption (stays_never, stays_until_owner, stays_until_room, stays_until_free);
  drives = λ entry last. assumption;
  checks = λ s. record { says = refl; says_only = λ other k. k };
  no_other_answers = record { not_done = λ p e. absurd ((deposit_plain p.step p).0 e); not_shown = λ p owner flag posture e. refl; not_refused = λ p. (deposit_plain p.step p).1 };
  rests = λ p. refl;
  demands = λ p opening seen k. let at = k refl in record { holds_entry = at.entry; holds_exit = at.exit; entry_moves = at.entry_moves; exit_moves = at.exit_moves };
}
