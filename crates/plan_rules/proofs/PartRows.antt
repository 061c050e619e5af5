-- The rows of parts.
use Rattle.std.proofs.Common.{◌≡◌, ℕ, Option, Bool, true, false, IsTrue, Some, None, [], ◌∷◌, ◌≤◌, replicate, refl, arith}
use Rattle.plan_types.specs.declared.posture.Posture.TheVariants.{Closed, Moving, OpenIn, OpenOut}
use Rattle.plan_types.specs.Same.{same_posture}
use Rattle.plan_types.specs.Table.{transfer_of}
use Rattle.plan_types.specs.Examples.{lift_table}
use Rattle.plan_types.specs.declared.call.Call.TheVariants.{Claim, Yield, SetPose}
use Rattle.plan_types.proofs.lemmas.Checked.{is_plan}
use Rattle.plan_rules.specs.State.{start_state}
use Rattle.plan_rules.specs.Examples.{did}
use Rattle.plan_rules.specs.CauseExamples.{eight_table, last_zone}
use Rattle.plan_rules.specs.OrderExamples.{interior}
use Rattle.plan_rules.proofs.Histories.{sound-after}
use Rattle.plan_rules.proofs.lemmas.Starts.{start_is_sound}
use Rattle.plan_types.specs.declared.posture.Posture.{Posture}
use Rattle.plan_rules.specs.Sound.{implies, is_open, is_owned_by, is_received_by, IsSound, is_entrant}
use Rattle.plan_rules.specs.PartExamples.{Lawful, FarZone, RefusalParts, WayParts, PoseParts, CauseParts, ChangeParts, ZoneRules, PartsAreMet}

refusal_parts : RefusalParts
refusal_parts = record {
  owns = refl;
  owns_not = refl;
  owns_free = refl;
  stranger = refl;
  guest = refl;
  host = refl;
  mine = refl;
  not_mine = refl;
  held_by = refl;
  held = refl;
  held_by_caller = refl;
  held_by_nobody = refl;
  shut_to_guest = refl;
  open_to_host = refl;
  worn = refl;
  stopped = refl;
  not_stopped = refl;
  not_watch = refl;
  not_owner = refl;
  owner = refl;
  no_owner = refl;
  plate = refl;
  no_plate = refl;
  moving = refl;
  shut = refl;
}

way_parts : WayParts
way_parts = record {
  by_giver = refl;
  by_receiver = refl;
  by_nobody = refl;
  by_lift = refl;
  by_guest = refl;
  inward = refl;
  shut = refl;
  wrong = refl;
  nothing = refl;
  taken = refl;
  onto = refl;
  no_room = refl;
}

pose_parts : PoseParts
pose_parts = record {
  second_zone = refl;
  first_zone = refl;
  no_zone = refl;
  lacks = refl;
  anothers = refl;
  stopped = refl;
  going = refl;
  gives = refl;
  leaves = refl;
  concerned = refl;
  moves_both = refl;
  moves_one = refl;
  opens_one = refl;
  not_host = refl;
  unowned = refl;
  unowned_lower = refl;
  owned = refl;
  plate = refl;
  plate_left = refl;
  stands = refl;
  stands_for_host = refl;
  jump = refl;
  no_jump = refl;
  onto_plate = refl;
  onto_plate_below = refl;
  onto_empty = refl;
  open_already = refl;
  outward = refl;
  inquired = refl;
}

cause_parts : CauseParts
cause_parts = record {
  owned_as = refl;
  owned_by_nobody = refl;
  owner = refl;
  plate = refl;
  posture = refl;
  shut = refl;
  worn = refl;
  anothers = refl;
  own = refl;
  nobodys = refl;
  on_way = refl;
  on_gift = refl;
  on_no_gift = refl;
  filled = refl;
  other = refl;
  at_stake = refl;
  moves_both = refl;
  moves_one = refl;
  opens_one = refl;
  not_host = refl;
  lowest = refl;
  on_zone = refl;
  opened = refl;
  opened_before = refl;
  lacks_room = refl;
  lacks_room_below = refl;
  has_room = refl;
  from_on = refl;
}

change_parts : ChangeParts
change_parts = record {
  accepted = refl;
  shown = refl;
  answered = refl;
  stranger = refl;
  emptied = refl;
  filled = refl;
  left = refl;
  left_too = refl;
  with_owner = refl;
  without_owner = refl;
  posed = refl;
  left_alone = refl;
  all_posed = refl;
  zones_left = refl;
  places_left = refl;
  going_on = refl;
  stopped = refl;
  stop = refl;
  resume = refl;
}

-- the upper zone's host is 0, its guest 2: the rules are kept if they compute so
lawful : (o : Option ℕ) (q : Posture) (f : Bool)
    → IsTrue (is_entrant lift_table 1 o)
    → IsTrue (implies f (is_received_by o (transfer_of lift_table 1 q)))
    → IsTrue (implies (is_owned_by o 2) (is_open q))
    → IsTrue (implies (same_posture q Moving) (is_owned_by o 0))
    → Lawful o q f
lawful o q f party plate guest host = record {
  owner_is_party = party;
  flag_has_transfer = plate;
  guest_only_while_open = guest;
  moving_belongs_to_host = host;
}

zone_rules : ZoneRules
zone_rules = record {
  implied = refl;
  implied_by_nothing = refl;
  opens = refl;
  owned = refl;
  owned_by_first = refl;
  received = refl;
  not_received = refl;
  plates = refl;
  leads = refl;
  leads_nowhere = refl;
  comes = refl;
  comes_below = refl;
  no_plate_comes = refl;
  closed = lawful None Closed false refl refl refl refl;
  open_in = lawful None OpenIn false refl refl refl refl;
  open_out = lawful None OpenOut false refl refl refl refl;
  closed_by_host = lawful (Some 0) Closed false refl refl refl refl;
  moved_by_host = lawful (Some 0) Moving false refl refl refl refl;
  opened_by_host = lawful (Some 0) OpenIn false refl refl refl refl;
  opened_outward_by_host = lawful (Some 0) OpenOut false refl refl refl refl;
  guest_gives = lawful (Some 2) OpenIn false refl refl refl refl;
  guest_waits = lawful (Some 2) OpenOut false refl refl refl refl;
  given_to_host = lawful (Some 0) OpenIn true refl refl refl refl;
  given_to_guest = lawful (Some 2) OpenOut true refl refl refl refl;
  stranger = λ law. let e : false ≡ true = law.owner_is_party in cc;
  far_stranger = λ law. let e : false ≡ true = law.owner_is_party in cc;
  giver_owns = λ law. let e : false ≡ true = law.flag_has_transfer in cc;
  host_gives_and_owns = λ law. let e : false ≡ true = law.flag_has_transfer in cc;
  nobody_receives = λ law. let e : false ≡ true = law.flag_has_transfer in cc;
  plate_in_closed = λ law. let e : false ≡ true = law.flag_has_transfer in cc;
  plate_in_moving = λ law. let e : false ≡ true = law.flag_has_transfer in cc;
  guest_in_closed = λ law. let e : false ≡ true = law.guest_only_while_open in cc;
  moves_alone = λ law. let e : false ≡ true = law.moving_belongs_to_host in cc;
}

far_sound : IsSound eight_table (last_zone (interior (Some 2) OpenIn false) false)
far_sound =
    let full = false ∷ true ∷ replicate 14 false in
    let plan = is_plan eight_table refl in
    sound-after eight_table (start_state full 3) (did 3 (Claim 7) ∷ did 3 (SetPose 0) ∷ did 3 (SetPose 1) ∷ did 3 (Yield 7) ∷ []) plan
    (start_is_sound eight_table (start_state full 3) plan (record { stamp_in_range = omega arith; has_sixteen_places = refl; same = refl }))

far_zone : FarZone
far_zone = record {
  claim = refl;
  give = refl;
  take = refl;
  yield = refl;
  release = refl;
  pose = refl;
  shown = refl;
  comes = refl;
  comes_outward = refl;
  plates = refl;
  sound = far_sound;
  stranger = λ sound. let e : false ≡ true = (sound.zone_is_lawful 7 (omega arith)).owner_is_party in cc;
  two_plates = λ sound. let e : 2 ≤ 1 = sound.one_plate_a_place 2 in absurd (omega arith);
  posture = refl;
}

pub parts : PartsAreMet
parts = record {
  far = far_zone;
  refusals = refusal_parts;
  ways = way_parts;
  poses = pose_parts;
  causes = cause_parts;
  changes = change_parts;
  zones = zone_rules;
}
