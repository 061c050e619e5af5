-- Each step is found by its number.
use Rattle.std.proofs.Common.{◌≡◌, Some, refl, slice_get}
use denote.Enum.Declared.{tag_of}
use Rattle.cell_belts_crane.specs.contracts.feed.FeedStep.{the_type as feed_type}
use Rattle.cell_belts_crane.specs.contracts.deposit.DepositStep.{the_type as deposit_type}
use Rattle.cell_belts_crane.specs.contracts.crane.CraneStep.{the_type as crane_type}
use Rattle.cell_belts_crane.specs.declared.feed.FeedStep.{FeedStep}
use Rattle.cell_belts_crane.specs.declared.feed.FeedStep.TheVariants as feed_step
use Rattle.cell_belts_crane.specs.declared.deposit.DepositStep.{DepositStep}
use Rattle.cell_belts_crane.specs.declared.deposit.DepositStep.TheVariants as deposit_step
use Rattle.cell_belts_crane.specs.declared.crane.CraneStep.{CraneStep}
use Rattle.cell_belts_crane.specs.declared.crane.CraneStep.TheVariants as crane_step
use Rattle.cell_belts_crane.specs.CraneProgram as crane
use Rattle.cell_belts_crane.specs.DepositProgram as deposit
use Rattle.cell_belts_crane.specs.FeedProgram as feed

pub feed_tag : (s : FeedStep) → tag_of feed_type s ≡ feed.number_at s
feed_tag feed_step.ClaimEntry = refl
feed_tag _ = refl

pub feed_found : (s : FeedStep) → slice_get feed.steps (feed.number_at s) ≡ Some s
feed_found feed_step.ClaimEntry = refl
feed_found _ = refl

pub deposit_tag : (s : DepositStep) → tag_of deposit_type s ≡ deposit.number_at s
deposit_tag deposit_step.ClaimEntry = refl
deposit_tag _ = refl

pub deposit_found : (s : DepositStep) → slice_get deposit.steps (deposit.number_at s) ≡ Some s
deposit_found deposit_step.ClaimEntry = refl
deposit_found _ = refl

pub crane_tag : (s : CraneStep) → tag_of crane_type s ≡ crane.number_at s
crane_tag crane_step.RaiseToFetch = refl
crane_tag _ = refl

pub crane_found : (s : CraneStep) → slice_get crane.steps (crane.number_at s) ≡ Some s
crane_found crane_step.RaiseToFetch = refl
crane_found _ = refl
