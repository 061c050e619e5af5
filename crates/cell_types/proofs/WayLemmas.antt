-- The tables of the cell, computed.
use Rattle.std.proofs.Common.{◌≡◌, refl, rules, IfSome, count_by}
use Rattle.cell_types.specs.declared.machine.Machine.{Machine}
use Rattle.cell_types.specs.declared.zone.Zone.{Zone}
use Rattle.cell_types.specs.declared.zone.Zone.TheVariants.{Z3}
use Rattle.cell_types.specs.declared.place.Place.TheVariants.{FeedEntry}
use Rattle.cell_types.specs.declared.posture.Posture.{Posture}
use Rattle.cell_types.specs.declared.posture.Posture.TheVariants.{OpenIn, OpenOut}
use Rattle.cell_types.specs.Ways.{GoesRound, JoinsKeepers, OneRowEach, all_ways, keeper_of, own_move_of}
use Rattle.cell_types.specs.Tables.{transfer_of}
use Rattle.cell_types.specs.Same.{same_place}
use Rattle.cell_types.specs.declared.place.Place.{Place}

giver_row : (z : Zone) (q r : Posture) → IfSome (transfer_of z q) (λ a. IfSome (transfer_of z r) (λ b. a.giver ≡ b.giver → q ≡ r))
giver_row Z3 OpenIn OpenOut = λ e. cc
giver_row Z3 OpenOut OpenIn = λ e. cc
giver_row _ _ _ = search rules

receiver_row : (z : Zone) (q r : Posture) → IfSome (transfer_of z q) (λ a. IfSome (transfer_of z r) (λ b. a.receiver ≡ b.receiver → q ≡ r))
receiver_row Z3 OpenIn OpenOut = λ e. cc
receiver_row Z3 OpenOut OpenIn = λ e. cc
receiver_row _ _ _ = search rules

pub one_row_each : OneRowEach
one_row_each = record { giver = giver_row; receiver = receiver_row }

joined : (z : Zone) (q : Posture) → IfSome (transfer_of z q) (λ row. (keeper_of row.from ≡ row.giver) × (keeper_of row.to ≡ row.receiver))
joined _ _ = search rules

moved : (m : Machine) → IfSome (own_move_of m) (λ way. (keeper_of way.0 ≡ m) × (keeper_of way.1 ≡ m))
moved _ = search rules

pub joins_keepers : JoinsKeepers
joins_keepers = record { row = joined; own_move = moved }

left : (p : Place) → count_by (λ way. same_place way.0 p) all_ways ≡ 1
left FeedEntry = refl
left _ = refl

entered : (p : Place) → count_by (λ way. same_place way.1 p) all_ways ≡ 1
entered FeedEntry = refl
entered _ = refl

pub goes_round : GoesRound
goes_round = record { left = left; entered = entered }
