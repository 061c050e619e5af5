-- What the laws of refusals say of the cell's plan with the last stamp.
use Rattle.std.proofs.Common.{◌≡◌, ◌≢◌, inl, inr, ℕ, ◌<◌, ◌≤◌, zero, suc, true, false, Some, refl, sym, ap, ◌∙◌, subst, arith}
use Rattle.plan_types.specs.declared.posture.Posture.TheVariants.{Closed, Moving, OpenIn}
use Rattle.plan_types.specs.declared.call.Call.TheVariants.{SetPose}
use Rattle.plan_types.specs.declared.answer.Refusal.TheVariants.{NotParty, Stopped, NoPose, Worn}
use Rattle.plan_types.specs.Table.{host_of, posture_of, transfer_of}
use Rattle.plan_rules.specs.declared.state.State.{State}
use Rattle.plan_rules.specs.State.{zone_at, owner_of, space_has_plate}
use Rattle.plan_rules.specs.SayLaws.{Jumps, LacksRoom}
use Rattle.plan_rules.specs.PoseLaws.{BarsByOwner, BarsByPlate}
use Rattle.plan_cell.specs.CellPlan.{cell_table}
use Rattle.plan_cell.specs.LastStamp.{LastStampTells}
use Rattle.plan_cell.proofs.Alone.{alone}

-- the press hosts zone 2 alone
press_zone : (z : ℕ) → z < 6 → host_of cell_table z ≡ 3 → z ≡ 2
press_zone zero l e = absurd (omega (arith, e))
press_zone (suc zero) l e = absurd (omega (arith, e))
press_zone (suc (suc zero)) l e = refl
press_zone (suc (suc (suc zero))) l e = absurd (omega (arith, e))
press_zone (suc (suc (suc (suc zero)))) l e = absurd (omega (arith, e))
press_zone (suc (suc (suc (suc (suc zero))))) l e = absurd (omega (arith, e))
press_zone (suc (suc (suc (suc (suc (suc z)))))) l e = absurd (omega arith)

-- pose 3 opens nothing inward
opens_none : (z : ℕ) → z < 6 → posture_of cell_table 3 z ≢ Some OpenIn
opens_none zero l e = cc
opens_none (suc zero) l e = cc
opens_none (suc (suc zero)) l e = cc
opens_none (suc (suc (suc zero))) l e = cc
opens_none (suc (suc (suc (suc zero)))) l e = cc
opens_none (suc (suc (suc (suc (suc zero))))) l e = cc
opens_none (suc (suc (suc (suc (suc (suc z)))))) l e = absurd (omega arith)

no_owner : (s : State) → owner_of s 2 ≡ Some 3 → (z : ℕ) → ¬ BarsByOwner cell_table s 3 3 z
no_owner s owner z bars = bars.1 (subst (λ y. owner_of s y ≡ Some 3) (sym (press_zone z bars.0.0 bars.0.1)) owner)

no_plate : (s : State) → (zone_at s 2).flag ≡ false → (z : ℕ) → ¬ BarsByPlate cell_table s 3 3 z
no_plate s clear z bars =
    let e : false ≡ true = sym (subst (λ y. (zone_at s y).flag ≡ false) (sym (press_zone z bars.0.0 bars.0.1)) clear) ∙ sym ((alone s z).plate bars.0.0) ∙ bars.1 in
    cc

-- zone 2 is a space by itself
empty_space : (s : State) → (zone_at s 2).flag ≡ false → space_has_plate cell_table s 2 ≡ false
empty_space s clear = (alone s 2).plate (omega arith) ∙ clear

no_jump : (s : State) → ¬ Jumps cell_table s 3 (SetPose 3)
no_jump s jumps = let e : false ≡ true = jumps.0 in cc

has_room : (s : State) → ¬ LacksRoom cell_table s 3 (SetPose 3)
has_room s lacks = opens_none lacks.0 lacks.1 lacks.2

pub last_stamp_tells : (s : State) (last : s.stamp ≡ 1048575) → LastStampTells s last
last_stamp_tells s last = record {
  claim = λ law runs free. (law cell_table s 3 2 Worn).claim.1 ((((omega arith, inl refl), runs), free, (λ e. absurd (omega (arith, e))), worn));
  guest = λ law runs free opened. (law cell_table s 2 2 Worn).claim.1 ((((omega arith, inr refl), runs), free, (λ e. inl opened), worn));
  give = λ law runs owns room. (law cell_table s 2 2 Worn).give.1
      ((((omega arith, inr refl), owns.0, empty_space s owns.1), runs, (record { giver = 2; receiver = 3; from = 3; to = 4 }, ap (transfer_of cell_table 2) room.0, refl, (room.1, room.2)), worn));
  yield = λ law owns opened. (law cell_table s 3 2 Worn).yield.1 ((((omega arith, inl refl), owns.0, empty_space s owns.1), inl opened, worn));
  take = λ law owner flag. (law cell_table s 3 2 Worn).take.1 ((((omega arith, inl refl), owner, flag), worn));
  release = λ law owns closed. (law cell_table s 3 2 Worn).release.1
      ((((omega arith, inl refl), owns.0, empty_space s owns.1), (λ moves. let e : Closed ≡ Moving = sym closed ∙ moves in cc), worn));
  stop = λ law runs. (law cell_table s 30 2 Worn).stop.1 ((refl, runs, worn));
  resume = λ law stopped. (law cell_table s 30 2 Worn).resume.1 ((refl, stopped, worn));
  pose = λ law runs owns. (law cell_table s 3 3 Worn).1
      ((((((omega arith, refl), λ _. runs), no_owner s owns.0), no_plate s owns.1), no_jump s, has_room s, worn));
  inquire = λ m law e. (law cell_table s m 2 Worn).inquire.0 e;
  no_zone = λ m law. (law cell_table s m 6 NotParty).inquire.1 (omega arith);
  stopped_claim = λ law stopped. (law cell_table s 3 2 Stopped).claim.1 ((omega arith, inl refl), stopped);
  stopped_pose = λ law stopped. (law cell_table s 3 3 Stopped).1 ((omega arith, refl), (2, refl), stopped);
  no_pose = λ m law other. (law cell_table s m 3 NoPose).1 (λ own. other (sym own.1));
}
  where
    worn : 1048575 ≤ s.stamp
    worn = omega (arith, last)
