-- What belts and crane keep at each step is what the examples say.
use Rattle.std.proofs.Common.{◌≡◌, Bool, true, false, ◌&&◌, not, refl}
use Rattle.cell_types.specs.declared.machine.Machine.TheVariants.{Crane}
use Rattle.cell_types.specs.declared.place.Place.TheVariants.{Crane as OnCrane}
use Rattle.cell_rules.specs.Types.{Feed, Deposit, Z1, Z4, Z5, Z6}
use Rattle.cell_rules.specs.Types.{Closed, OpenIn, OpenOut, Moving}
use Rattle.cell_rules.specs.Names.{ModelState, is_full, zone_at}
use Rattle.cell_belts_crane.specs.declared.feed.FeedStep.{FeedStep}
use Rattle.cell_belts_crane.specs.declared.feed.FeedStep.TheVariants as feed
use Rattle.cell_belts_crane.specs.declared.deposit.DepositStep.{DepositStep}
use Rattle.cell_belts_crane.specs.declared.deposit.DepositStep.TheVariants as deposit
use Rattle.cell_belts_crane.specs.declared.crane.CraneStep.{CraneStep}
use Rattle.cell_belts_crane.specs.declared.crane.CraneStep.TheVariants as crane
use Rattle.cell_belts_crane.specs.FeedProgram as feed_program
use Rattle.cell_belts_crane.specs.DepositProgram as deposit_program
use Rattle.cell_belts_crane.specs.CraneProgram as crane_program
use Rattle.cell_belts_crane.specs.FeedExamples.{at as feed_at}
use Rattle.cell_belts_crane.specs.DepositExamples.{at as deposit_at}
use Rattle.cell_belts_crane.specs.CraneExamples.{at as crane_at}
use Rattle.cell_belts_crane.specs.KeepExamples.{has, has_empty, has_loaded, lends, stands, feed_is_at, deposit_is_at, crane_is_at, feed_noted, deposit_noted, KeepsAreMet}

-- one zone, in a posture or in any; `p` is of the plates, `n` of what is noted or of the magnet
posed : (a p n : Bool) → ((a && true) && (p && n)) ≡ ((a && p) && n)
posed true p n = refl
posed false p n = refl

unposed : (a p n : Bool) → (((a && true) && true) && (p && n)) ≡ ((a && p) && n)
unposed true p n = refl
unposed false p n = refl

posed0 : (a n : Bool) → ((a && true) && n) ≡ (a && n)
posed0 true n = refl
posed0 false n = refl

unposed0 : (a n : Bool) → (((a && true) && true) && n) ≡ (a && n)
unposed0 true n = refl
unposed0 false n = refl

-- two zones
pp : (a b p n : Bool) → ((a && (b && true)) && (p && n)) ≡ (((a && b) && p) && n)
pp true b p n = posed b p n
pp false b p n = refl

pu : (a b p n : Bool) → ((a && ((b && true) && true)) && (p && n)) ≡ (((a && b) && p) && n)
pu true b p n = unposed b p n
pu false b p n = refl

up : (a b p n : Bool) → (((a && true) && (b && true)) && (p && n)) ≡ (((a && b) && p) && n)
up true b p n = posed b p n
up false b p n = refl

uu : (a b p n : Bool) → (((a && true) && ((b && true) && true)) && (p && n)) ≡ (((a && b) && p) && n)
uu true b p n = unposed b p n
uu false b p n = refl

pp0 : (a b n : Bool) → ((a && (b && true)) && n) ≡ ((a && b) && n)
pp0 true b n = posed0 b n
pp0 false b n = refl

pu0 : (a b n : Bool) → ((a && ((b && true) && true)) && n) ≡ ((a && b) && n)
pu0 true b n = unposed0 b n
pu0 false b n = refl

up0 : (a b n : Bool) → (((a && true) && (b && true)) && n) ≡ ((a && b) && n)
up0 true b n = posed0 b n
up0 false b n = refl

feed_keeps : (z : ModelState) (step : FeedStep) (entry last : Bool)
    → feed_program.in_step (feed_at step entry last) z ≡ (feed_is_at step (zone_at z Z6) (zone_at z Z1) entry last && feed_noted z entry last)
feed_keeps z feed.ClaimEntry entry last = pu0 ((lends Feed (zone_at z Z6) && stands (zone_at z Z6) Closed)) (lends Feed (zone_at z Z1)) (feed_noted z entry last)
feed_keeps z feed.PoseLanding entry last = uu (has_empty Feed (zone_at z Z6)) (lends Feed (zone_at z Z1)) ((not entry && not last)) (feed_noted z entry last)
feed_keeps z feed.ReleaseEntry entry last = pu ((has_empty Feed (zone_at z Z6) && stands (zone_at z Z6) OpenIn)) (lends Feed (zone_at z Z1)) ((not entry && not last)) (feed_noted z entry last)
feed_keeps z feed.TakePlate entry last = pu ((lends Feed (zone_at z Z6) && stands (zone_at z Z6) OpenIn)) (lends Feed (zone_at z Z1)) ((not entry && not last)) (feed_noted z entry last)
feed_keeps z feed.StartIn entry last = uu (has_empty Feed (zone_at z Z6)) (lends Feed (zone_at z Z1)) ((entry && not last)) (feed_noted z entry last)
feed_keeps z feed.RunIn entry last = pu ((has_empty Feed (zone_at z Z6) && stands (zone_at z Z6) Moving)) (lends Feed (zone_at z Z1)) ((entry && not last)) (feed_noted z entry last)
feed_keeps z feed.MoveOn entry last = pu ((has_empty Feed (zone_at z Z6) && stands (zone_at z Z6) Moving)) (lends Feed (zone_at z Z1)) ((entry && not last)) (feed_noted z entry last)
feed_keeps z feed.ClaimExit entry last = uu (has_empty Feed (zone_at z Z6)) (lends Feed (zone_at z Z1)) (last) (feed_noted z entry last)
feed_keeps z feed.StartOut entry last = up (has_empty Feed (zone_at z Z6)) ((has Feed (zone_at z Z1) && stands (zone_at z Z1) OpenIn)) (last) (feed_noted z entry last)
feed_keeps z feed.RunOut entry last = pp ((has_empty Feed (zone_at z Z6) && stands (zone_at z Z6) Moving)) ((has Feed (zone_at z Z1) && stands (zone_at z Z1) OpenIn)) (last) (feed_noted z entry last)
feed_keeps z feed.Halt entry last = pp ((has_empty Feed (zone_at z Z6) && stands (zone_at z Z6) Moving)) ((has Feed (zone_at z Z1) && stands (zone_at z Z1) OpenIn)) (last) (feed_noted z entry last)
feed_keeps z feed.GivePlate entry last = pp ((has_empty Feed (zone_at z Z6) && stands (zone_at z Z6) Closed)) ((has Feed (zone_at z Z1) && stands (zone_at z Z1) OpenIn)) (last) (feed_noted z entry last)

deposit_keeps : (z : ModelState) (step : DepositStep) (entry last : Bool)
    → deposit_program.in_step (deposit_at step entry last) z ≡ (deposit_is_at step (zone_at z Z4) (zone_at z Z5) entry last && deposit_noted z entry last)
deposit_keeps z deposit.ClaimEntry entry last = pp0 ((lends Deposit (zone_at z Z4) && stands (zone_at z Z4) Closed)) ((lends Deposit (zone_at z Z5) && stands (zone_at z Z5) Closed)) (deposit_noted z entry last)
deposit_keeps z deposit.ClaimExit entry last = up0 (has_empty Deposit (zone_at z Z4)) ((lends Deposit (zone_at z Z5) && stands (zone_at z Z5) Closed)) (deposit_noted z entry last)
deposit_keeps z deposit.PoseLanding entry last = uu (has_empty Deposit (zone_at z Z4)) (has_empty Deposit (zone_at z Z5)) ((not entry && not last)) (deposit_noted z entry last)
deposit_keeps z deposit.ReleaseEntry entry last = pp ((has_empty Deposit (zone_at z Z4) && stands (zone_at z Z4) OpenIn)) ((has_empty Deposit (zone_at z Z5) && stands (zone_at z Z5) Closed)) ((not entry && not last)) (deposit_noted z entry last)
deposit_keeps z deposit.TakePlate entry last = pp ((lends Deposit (zone_at z Z4) && stands (zone_at z Z4) OpenIn)) ((has_empty Deposit (zone_at z Z5) && stands (zone_at z Z5) Closed)) ((not entry && not last)) (deposit_noted z entry last)
deposit_keeps z deposit.StartRun entry last = uu (has_empty Deposit (zone_at z Z4)) (has_empty Deposit (zone_at z Z5)) ((entry && not last)) (deposit_noted z entry last)
deposit_keeps z deposit.RunIn entry last = pp ((has_empty Deposit (zone_at z Z4) && stands (zone_at z Z4) Moving)) ((has_empty Deposit (zone_at z Z5) && stands (zone_at z Z5) Moving)) ((entry && not last)) (deposit_noted z entry last)
deposit_keeps z deposit.RunOut entry last = pp ((has_empty Deposit (zone_at z Z4) && stands (zone_at z Z4) Moving)) ((has_empty Deposit (zone_at z Z5) && stands (zone_at z Z5) Moving)) ((entry && not last)) (deposit_noted z entry last)
deposit_keeps z deposit.MoveOn entry last = pp ((has_empty Deposit (zone_at z Z4) && stands (zone_at z Z4) Moving)) ((has_empty Deposit (zone_at z Z5) && stands (zone_at z Z5) Moving)) ((entry && not last)) (deposit_noted z entry last)
deposit_keeps z deposit.PoseOffering entry last = uu (has_empty Deposit (zone_at z Z4)) (has_empty Deposit (zone_at z Z5)) (last) (deposit_noted z entry last)
deposit_keeps z deposit.GivePlate entry last = pp ((has_empty Deposit (zone_at z Z4) && stands (zone_at z Z4) Closed)) ((has_empty Deposit (zone_at z Z5) && stands (zone_at z Z5) OpenOut)) (last) (deposit_noted z entry last)
deposit_keeps z deposit.ClaimBack entry last = pp ((has_empty Deposit (zone_at z Z4) && stands (zone_at z Z4) Closed)) ((lends Deposit (zone_at z Z5) && stands (zone_at z Z5) OpenOut)) (not last) (deposit_noted z entry last)

crane_keeps : (z : ModelState) (step : CraneStep) (magnet : Bool)
    → crane_program.in_step (crane_at step magnet) z ≡ crane_is_at step (zone_at z Z5) (zone_at z Z6) (is_full z OnCrane) magnet
crane_keeps z crane.RaiseToFetch magnet = unposed0 (lends Crane (zone_at z Z6)) (not magnet)
crane_keeps z crane.TravelToDeposit magnet = unposed0 (lends Crane (zone_at z Z6)) (not magnet)
crane_keeps z crane.AwaitPlate magnet = unposed0 (lends Crane (zone_at z Z6)) (not magnet)
crane_keeps z crane.LowerToPlate magnet = pu0 ((has_loaded Crane (zone_at z Z5) && stands (zone_at z Z5) OpenOut)) (lends Crane (zone_at z Z6)) (not magnet)
crane_keeps z crane.GripPlate magnet = pu0 ((has_loaded Crane (zone_at z Z5) && stands (zone_at z Z5) OpenOut)) (lends Crane (zone_at z Z6)) (not magnet)
crane_keeps z crane.RaiseWithPlate magnet = pu0 ((has_loaded Crane (zone_at z Z5) && stands (zone_at z Z5) OpenOut)) (lends Crane (zone_at z Z6)) (magnet)
crane_keeps z crane.TakePlate magnet = pu0 ((has_loaded Crane (zone_at z Z5) && stands (zone_at z Z5) OpenOut)) (lends Crane (zone_at z Z6)) (magnet)
crane_keeps z crane.ReleaseDeposit magnet = pu ((has_empty Crane (zone_at z Z5) && stands (zone_at z Z5) OpenOut)) (lends Crane (zone_at z Z6)) (is_full z OnCrane) (magnet)
crane_keeps z crane.TravelToFeed magnet = unposed (lends Crane (zone_at z Z6)) (is_full z OnCrane) (magnet)
crane_keeps z crane.ClaimFeed magnet = unposed (lends Crane (zone_at z Z6)) (is_full z OnCrane) (magnet)
crane_keeps z crane.LowerToFeed magnet = posed ((has Crane (zone_at z Z6) && stands (zone_at z Z6) OpenIn)) (is_full z OnCrane) (magnet)
crane_keeps z crane.DropPlate magnet = posed ((has Crane (zone_at z Z6) && stands (zone_at z Z6) OpenIn)) (is_full z OnCrane) (magnet)
crane_keeps z crane.RaiseFromFeed magnet = posed ((has Crane (zone_at z Z6) && stands (zone_at z Z6) OpenIn)) (is_full z OnCrane) (not magnet)
crane_keeps z crane.GivePlate magnet = posed ((has Crane (zone_at z Z6) && stands (zone_at z Z6) OpenIn)) (is_full z OnCrane) (not magnet)

pub keeps_are_met : KeepsAreMet
keeps_are_met = record {
  numbers = record {
    feed_steps = refl;
    feed_claims = refl;
    feed_runs_in = refl;
    feed_claims_exit = refl;
    feed_gives = refl;
    deposit_steps = refl;
    deposit_claims = refl;
    deposit_takes = refl;
    deposit_runs_out = refl;
    deposit_claims_back = refl;
    crane_steps = refl;
    crane_raises = refl;
    crane_takes = refl;
    crane_claims = refl;
    crane_gives = refl;
  };
  feed = feed_keeps;
  deposit = deposit_keeps;
  crane = crane_keeps;
}
