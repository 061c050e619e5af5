-- What belts and crane have at each step: they are in step with a state exactly if they have this.
use Rattle.std.specs.Prelude.{◌≡◌, Bool, ◌&&◌, ◌||◌, not, map}
use Rattle.std.specs.List.{range_with_len}
use Rattle.cell_types.specs.declared.machine.Machine.{Machine}
use Rattle.cell_types.specs.declared.machine.Machine.TheVariants.{Crane}
use Rattle.cell_types.specs.declared.place.Place.TheVariants.{Crane as OnCrane}
use Rattle.cell_rules.specs.Types.{Feed, Deposit, Z1, Z4, Z5, Z6, FeedEntry, FeedEnd, DepEntry, DepEnd}
use Rattle.cell_rules.specs.Types.{Posture, Closed, OpenIn, OpenOut, Moving, same_posture}
use Rattle.cell_rules.specs.Names.{ModelState, is_full, is_owned_by, same_flag, zone_at}
use Rattle.cell_rules.specs.declared.zones.ZoneState.{ZoneState}
use Rattle.cell_belts_crane.specs.declared.feed.FeedStep.{FeedStep}
use Rattle.cell_belts_crane.specs.declared.feed.FeedStep.TheVariants as feed
use Rattle.cell_belts_crane.specs.declared.deposit.DepositStep.{DepositStep}
use Rattle.cell_belts_crane.specs.declared.deposit.DepositStep.TheVariants as deposit
use Rattle.cell_belts_crane.specs.declared.crane.CraneStep.{CraneStep}
use Rattle.cell_belts_crane.specs.declared.crane.CraneStep.TheVariants as crane
use Rattle.cell_belts_crane.specs.FeedProgram as feed_program
use Rattle.cell_belts_crane.specs.DepositProgram as deposit_program
use Rattle.cell_belts_crane.specs.CraneProgram as crane_program
use Rattle.cell_belts_crane.specs.FeedExamples.{at as feed_at}
use Rattle.cell_belts_crane.specs.DepositExamples.{at as deposit_at}
use Rattle.cell_belts_crane.specs.CraneExamples.{at as crane_at}

-- a machine has the zone; no plate is on its way there, or one is; and if it has the zone, one is
abbrev pub has : Machine → ZoneState → Bool
has m v = is_owned_by v.owner m

abbrev pub has_empty : Machine → ZoneState → Bool
has_empty m v = has m v && not v.flag

abbrev pub has_loaded : Machine → ZoneState → Bool
has_loaded m v = has m v && v.flag

abbrev pub lends : Machine → ZoneState → Bool
lends m v = not (has m v) || v.flag

abbrev pub stands : ZoneState → Posture → Bool
stands v posture = same_posture v.posture posture

-- by the zone at a belt's front and the one at its back, and whether a plate is at its entry and at its end
abbrev pub feed_is_at : FeedStep → ZoneState → ZoneState → Bool → Bool → Bool
feed_is_at feed.ClaimEntry front back entry last = (lends Feed front && stands front Closed) && lends Feed back
feed_is_at feed.PoseLanding front back entry last =
    (has_empty Feed front && lends Feed back) && (not entry && not last)
feed_is_at feed.ReleaseEntry front back entry last =
    ((has_empty Feed front && stands front OpenIn) && lends Feed back) && (not entry && not last)
feed_is_at feed.TakePlate front back entry last =
    ((lends Feed front && stands front OpenIn) && lends Feed back) && (not entry && not last)
feed_is_at feed.StartIn front back entry last = (has_empty Feed front && lends Feed back) && (entry && not last)
feed_is_at feed.RunIn front back entry last =
    ((has_empty Feed front && stands front Moving) && lends Feed back) && (entry && not last)
feed_is_at feed.MoveOn front back entry last =
    ((has_empty Feed front && stands front Moving) && lends Feed back) && (entry && not last)
feed_is_at feed.ClaimExit front back entry last = (has_empty Feed front && lends Feed back) && last
feed_is_at feed.StartOut front back entry last =
    (has_empty Feed front && (has Feed back && stands back OpenIn)) && last
feed_is_at feed.RunOut front back entry last =
    ((has_empty Feed front && stands front Moving) && (has Feed back && stands back OpenIn)) && last
feed_is_at feed.Halt front back entry last =
    ((has_empty Feed front && stands front Moving) && (has Feed back && stands back OpenIn)) && last
feed_is_at feed.GivePlate front back entry last =
    ((has_empty Feed front && stands front Closed) && (has Feed back && stands back OpenIn)) && last

abbrev pub deposit_is_at : DepositStep → ZoneState → ZoneState → Bool → Bool → Bool
deposit_is_at deposit.ClaimEntry front back entry last =
    (lends Deposit front && stands front Closed) && (lends Deposit back && stands back Closed)
deposit_is_at deposit.ClaimExit front back entry last =
    has_empty Deposit front && (lends Deposit back && stands back Closed)
deposit_is_at deposit.PoseLanding front back entry last =
    (has_empty Deposit front && has_empty Deposit back) && (not entry && not last)
deposit_is_at deposit.ReleaseEntry front back entry last =
    ((has_empty Deposit front && stands front OpenIn) && (has_empty Deposit back && stands back Closed))
    && (not entry && not last)
deposit_is_at deposit.TakePlate front back entry last =
    ((lends Deposit front && stands front OpenIn) && (has_empty Deposit back && stands back Closed))
    && (not entry && not last)
deposit_is_at deposit.StartRun front back entry last =
    (has_empty Deposit front && has_empty Deposit back) && (entry && not last)
deposit_is_at deposit.RunIn front back entry last =
    ((has_empty Deposit front && stands front Moving) && (has_empty Deposit back && stands back Moving))
    && (entry && not last)
deposit_is_at deposit.RunOut front back entry last =
    ((has_empty Deposit front && stands front Moving) && (has_empty Deposit back && stands back Moving))
    && (entry && not last)
deposit_is_at deposit.MoveOn front back entry last =
    ((has_empty Deposit front && stands front Moving) && (has_empty Deposit back && stands back Moving))
    && (entry && not last)
deposit_is_at deposit.PoseOffering front back entry last = (has_empty Deposit front && has_empty Deposit back) && last
deposit_is_at deposit.GivePlate front back entry last =
    ((has_empty Deposit front && stands front Closed) && (has_empty Deposit back && stands back OpenOut)) && last
deposit_is_at deposit.ClaimBack front back entry last =
    ((has_empty Deposit front && stands front Closed) && (lends Deposit back && stands back OpenOut)) && not last

-- by the zone at the deposit belt's back and the one at the feed belt's front, whether the crane has a plate, and whether
-- its magnet is on
abbrev pub crane_is_at : CraneStep → ZoneState → ZoneState → Bool → Bool → Bool
crane_is_at crane.RaiseToFetch back front loaded magnet = lends Crane front && not magnet
crane_is_at crane.TravelToDeposit back front loaded magnet = lends Crane front && not magnet
crane_is_at crane.AwaitPlate back front loaded magnet = lends Crane front && not magnet
crane_is_at crane.LowerToPlate back front loaded magnet =
    ((has_loaded Crane back && stands back OpenOut) && lends Crane front) && not magnet
crane_is_at crane.GripPlate back front loaded magnet =
    ((has_loaded Crane back && stands back OpenOut) && lends Crane front) && not magnet
crane_is_at crane.RaiseWithPlate back front loaded magnet =
    ((has_loaded Crane back && stands back OpenOut) && lends Crane front) && magnet
crane_is_at crane.TakePlate back front loaded magnet =
    ((has_loaded Crane back && stands back OpenOut) && lends Crane front) && magnet
crane_is_at crane.ReleaseDeposit back front loaded magnet =
    (((has_empty Crane back && stands back OpenOut) && lends Crane front) && loaded) && magnet
crane_is_at crane.TravelToFeed back front loaded magnet = (lends Crane front && loaded) && magnet
crane_is_at crane.ClaimFeed back front loaded magnet = (lends Crane front && loaded) && magnet
crane_is_at crane.LowerToFeed back front loaded magnet =
    ((has Crane front && stands front OpenIn) && loaded) && magnet
crane_is_at crane.DropPlate back front loaded magnet = ((has Crane front && stands front OpenIn) && loaded) && magnet
crane_is_at crane.RaiseFromFeed back front loaded magnet =
    ((has Crane front && stands front OpenIn) && loaded) && not magnet
crane_is_at crane.GivePlate back front loaded magnet =
    ((has Crane front && stands front OpenIn) && loaded) && not magnet

-- the notes of plates are as the places
abbrev pub feed_noted : ModelState → Bool → Bool → Bool
feed_noted z entry last = same_flag (is_full z FeedEntry) entry && same_flag (is_full z FeedEnd) last

abbrev pub deposit_noted : ModelState → Bool → Bool → Bool
deposit_noted z entry last = same_flag (is_full z DepEntry) entry && same_flag (is_full z DepEnd) last

-- the steps are numbered from 0, in the order of the program
pub record NumberExamples : Type 0 where
  pub feed_steps : map feed_program.number_at feed_program.steps ≡ range_with_len 0 12
  pub feed_claims : feed_program.number_at feed.ClaimEntry ≡ 0
  pub feed_runs_in : feed_program.number_at feed.RunIn ≡ 5
  pub feed_claims_exit : feed_program.number_at feed.ClaimExit ≡ 7
  pub feed_gives : feed_program.number_at feed.GivePlate ≡ 11
  pub deposit_steps : map deposit_program.number_at deposit_program.steps ≡ range_with_len 0 12
  pub deposit_claims : deposit_program.number_at deposit.ClaimEntry ≡ 0
  pub deposit_takes : deposit_program.number_at deposit.TakePlate ≡ 4
  pub deposit_runs_out : deposit_program.number_at deposit.RunOut ≡ 7
  pub deposit_claims_back : deposit_program.number_at deposit.ClaimBack ≡ 11
  pub crane_steps : map crane_program.number_at crane_program.steps ≡ range_with_len 0 14
  pub crane_raises : crane_program.number_at crane.RaiseToFetch ≡ 0
  pub crane_takes : crane_program.number_at crane.TakePlate ≡ 6
  pub crane_claims : crane_program.number_at crane.ClaimFeed ≡ 9
  pub crane_gives : crane_program.number_at crane.GivePlate ≡ 13

pub record KeepsAreMet : Type 0 where
  pub numbers : NumberExamples
  pub feed : (z : ModelState) (step : FeedStep) (entry last : Bool)
      → feed_program.in_step (feed_at step entry last) z
      ≡ (feed_is_at step (zone_at z Z6) (zone_at z Z1) entry last && feed_noted z entry last)
  pub deposit : (z : ModelState) (step : DepositStep) (entry last : Bool)
      → deposit_program.in_step (deposit_at step entry last) z
      ≡ (deposit_is_at step (zone_at z Z4) (zone_at z Z5) entry last && deposit_noted z entry last)
  pub crane : (z : ModelState) (step : CraneStep) (magnet : Bool)
      → crane_program.in_step (crane_at step magnet) z
      ≡ crane_is_at step (zone_at z Z5) (zone_at z Z6) (is_full z OnCrane) magnet
