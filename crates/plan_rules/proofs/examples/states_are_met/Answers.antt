use Rattle.std.proofs.Common.{List, [], ◌∷◌, replicate, ◌≡◌, ℕ, ◌≤◌, Bool, true, false, Option, Some, None, refl, ap, length, arith}
use Rattle.plan_types.specs.declared.posture.Posture.TheVariants.{Closed, Moving, OpenIn}
use Rattle.plan_rules.specs.declared.state.State.{State}
use Rattle.plan_rules.specs.State.{zone_at, owner_of, posture_at}
use Rattle.plan_rules.proofs.PartRows.{parts}
use Rattle.plan_types.specs.declared.call.Call.TheVariants.{Claim, Give, Yield, SetPose, Stop}
use Rattle.plan_types.specs.declared.answer.Event.{Event}
use Rattle.plan_types.specs.Table.{watch}
use Rattle.plan_types.specs.Examples.{press_table}
use Rattle.plan_types.proofs.lemmas.Checked.{is_plan}
use Rattle.plan_rules.specs.Sound.{IsSound}
use Rattle.plan_rules.specs.State.{start_state}
use Rattle.plan_rules.specs.History.{after}
use Rattle.plan_rules.specs.Examples.{did}
use Rattle.plan_rules.proofs.Histories.{sound-after}
use Rattle.plan_rules.proofs.lemmas.Starts.{start_is_sound}
use Rattle.plan_rules.proofs.examples.states_are_met.Goals as goal

-- what a start of the press leads to is sound
reached : (full : List Bool) (stamp : ℕ) → length full ≡ 16 → stamp ≤ 1048575 → (h : List Event) → IsSound press_table (after press_table (start_state full stamp) h)
reached full stamp sixteen few h =
    let plan = is_plan press_table refl in
    sound-after press_table (start_state full stamp) h plan
    (start_is_sound press_table (start_state full stamp) plan (record { stamp_in_range = few; has_sixteen_places = sixteen; same = refl }))

pub returns-clause-states : goal.returns-clause-states
returns-clause-states c = record {
  say = record { zone = refl; no_zone = refl; owner = refl; posture = refl; full = refl; empty = refl; no_place = refl; last_stamp = refl; start = refl; comes_up = refl; none_comes = refl; both_come = refl; for_above = refl; for_below = refl; for_lift = refl; shut = refl; plates = refl; guest = refl; host = refl; lower_guest = refl };
  calls_leave = record { claim = refl; claim_by_guest = refl; give = refl; give_outward = refl; yield = refl; yield_back = refl; take = refl; take_outward = refl; release = refl; pose = refl; pose_of_one = refl; stop = refl; resume = refl; refused = refl; shown = refl; shows = refl; shows_lower = refl };
  unsound = record {
    stamp = λ sound. let e : 1048576 ≤ 1048575 = sound.stamp_in_range in absurd (omega arith);
    nine_zones = λ sound. let e : 9 ≡ 10 = sound.has_ten_zones in absurd (omega arith);
    eleven_zones = λ sound. let e : 11 ≡ 10 = sound.has_ten_zones in absurd (omega arith);
    fifteen_places = λ sound. let e : 15 ≡ 16 = sound.has_sixteen_places in absurd (omega arith);
    seventeen_places = λ sound. let e : 17 ≡ 16 = sound.has_sixteen_places in absurd (omega arith);
    stranger = λ sound. let e : false ≡ true = (sound.zone_is_lawful 0 (omega arith)).owner_is_party in cc;
    plate_in_shut_zone = λ sound. let e : false ≡ true = (sound.zone_is_lawful 0 (omega arith)).flag_has_transfer in cc;
    giver_owns = λ sound. let e : false ≡ true = (sound.zone_is_lawful 0 (omega arith)).flag_has_transfer in cc;
    press_gives_and_owns = λ sound. let e : false ≡ true = (sound.zone_is_lawful 0 (omega arith)).flag_has_transfer in cc;
    nobody_owns = λ sound. let e : false ≡ true = (sound.zone_is_lawful 0 (omega arith)).flag_has_transfer in cc;
    guest_in_shut_zone = λ sound. let e : false ≡ true = (sound.zone_is_lawful 0 (omega arith)).guest_only_while_open in cc;
    moves_unowned = λ sound. let e : false ≡ true = (sound.zone_is_lawful 0 (omega arith)).moving_belongs_to_host in cc;
    plate_onto_plate = λ sound. let e : 2 ≤ 1 = sound.one_plate_a_place 1 in absurd (omega arith);
    second_zone = λ sound. let e : false ≡ true = (sound.zone_is_lawful 1 (omega arith)).owner_is_party in cc;
    two_plates_come = λ sound. let e : 2 ≤ 1 = sound.one_plate_a_place 0 in absurd (omega arith);
    plate_onto_last = λ sound. let e : 2 ≤ 1 = sound.one_plate_a_place 2 in absurd (omega arith);
    second_plate = λ sound. let e : false ≡ true = (sound.zone_is_lawful 1 (omega arith)).flag_has_transfer in cc;
    second_guest = λ sound. let e : false ≡ true = (sound.zone_is_lawful 1 (omega arith)).guest_only_while_open in cc;
    second_moves = λ sound. let e : false ≡ true = (sound.zone_is_lawful 1 (omega arith)).moving_belongs_to_host in cc;
  };
  sound = record {
    given = reached (true ∷ replicate 15 false) 2 refl (omega arith) (did 1 (Claim 0) ∷ did 1 (SetPose 3) ∷ did 1 (SetPose 0) ∷ did 1 (Yield 0) ∷ did 0 (Give 0) ∷ []);
    late = reached (true ∷ true ∷ replicate 14 false) 1048572 refl (omega arith) (did 1 (Claim 0) ∷ did 1 (SetPose 3) ∷ did watch Stop ∷ []);
    moves = reached (true ∷ true ∷ replicate 14 false) 5 refl (omega arith) (did 1 (Claim 0) ∷ did 1 (SetPose 3) ∷ []);
  };
  no_starts = record {
    stamp = λ start. let e : 1048576 ≤ 1048575 = start.stamp_in_range in absurd (omega arith);
    stopped = λ start. let e : true ≡ false = ap (λ (s : State). s.stopped) start.same in cc;
    moves = λ start. let e : Moving ≡ Closed = ap (λ (s : State). posture_at s 0) start.same in cc;
    fifteen_places = λ start. let e : 15 ≡ 16 = start.has_sixteen_places in absurd (omega arith);
    seventeen_places = λ start. let e : 17 ≡ 16 = start.has_sixteen_places in absurd (omega arith);
    last_zone_open = λ start. let e : OpenIn ≡ Closed = ap (λ (s : State). posture_at s 9) start.same in cc;
    owned = λ start. let e : ◌≡◌ {A = Option ℕ} (Some 1) None = ap (λ (s : State). owner_of s 0) start.same in cc;
    plate = λ start. let e : true ≡ false = ap (λ (s : State). (zone_at s 0).flag) start.same in cc;
    eleven_zones = λ start. let e : 11 ≡ 10 = ap (λ (s : State). length s.zones) start.same in absurd (omega arith);
    some_places = record { stamp_in_range = omega arith; has_sixteen_places = refl; same = refl };
    free = record { stamp_in_range = omega arith; has_sixteen_places = refl; same = refl };
  };
}

pub returns-clause-parts : goal.returns-clause-parts
returns-clause-parts c = parts
