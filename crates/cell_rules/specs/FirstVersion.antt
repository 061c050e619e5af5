-- The interlock of the first version, which couldn't be stopped: the order of each call's conditions, its reply and the
-- state that it leaves. The orders are written out. The law below says that no order has changed, that no call has a
-- new refusal, and that nothing else changes in the state. It doesn't say what a condition means: the conditions and
-- changes are those of `Refusals` and `Reply`, which `refusals_tell_causes` and the other laws hold.
use Rattle.std.specs.Prelude.{◌≡◌, ◌+◌, Bool, true, false, Option, None, IsTrue}
use Rattle.cell_rules.specs.Types.{Machine, Call, Claim, Give, Yield, Take, Release, SetPose, Advance, Inquire, Stop}
use Rattle.cell_rules.specs.Types.{Resume, Refusal, Answer, Done, Shown, Refused, own_move_of}
use Rattle.cell_rules.specs.ModelState.{ModelState, zone_at}
use Rattle.cell_rules.specs.Refusals.{◌or◌, not_party, already_mine, held, shut_to_guest, worn, not_owner}
use Rattle.cell_rules.specs.Refusals.{plate_in_zone, transfer_given, wrong_way, nothing_to_give, no_room, shut, in_use}
use Rattle.cell_rules.specs.Refusals.{no_plate_in_zone, shut_while_moving, lacks_pose, first_zone, unowned_by_pose}
use Rattle.cell_rules.specs.Refusals.{plate_under_pose, jump, opens_onto_plate, runs_onto_plate, has_no_work}
use Rattle.cell_rules.specs.Refusals.{press_unowned, not_at_work, nothing_to_work, no_room_for_work}
use Rattle.cell_rules.specs.Reply as now
use Rattle.cell_rules.specs.Reply.{done_unless, zones_after, places_after}

-- the calls of the first version
abbrev pub has_call : Call → Bool
has_call Stop = false
has_call Resume = false
has_call _ = true

abbrev pub refusal : ModelState → Machine → Call → Option Refusal
refusal s m (Claim z) = not_party m z or already_mine s m z or held s m z or shut_to_guest s m z or worn s
refusal s m (Give z) =
    not_party m z
    or not_owner s m z
    or plate_in_zone s z
    or wrong_way (transfer_given s m z)
    or nothing_to_give s (transfer_given s m z)
    or no_room s (transfer_given s m z)
    or worn s
refusal s m (Yield z) =
    not_party m z or not_owner s m z or plate_in_zone s z or shut s z or in_use s m z or worn s
refusal s m (Take z) = not_party m z or not_owner s m z or no_plate_in_zone s z or worn s
refusal s m (Release z) =
    not_party m z or not_owner s m z or plate_in_zone s z or shut_while_moving s z or in_use s m z or worn s
refusal s m (SetPose p) =
    lacks_pose m p
    or first_zone (unowned_by_pose s m p)
    or first_zone (plate_under_pose s m p)
    or jump s m p
    or first_zone (opens_onto_plate s m p)
    or runs_onto_plate s m p
    or worn s
refusal s m Advance =
    has_no_work m
    or press_unowned s m
    or not_at_work s m
    or nothing_to_work s (own_move_of m)
    or no_room_for_work s (own_move_of m)
    or worn s
refusal s m _ = None

abbrev pub reply : ModelState → Machine → Call → Answer
reply s m (Inquire z) = Shown (zone_at s z).owner (zone_at s z).flag (zone_at s z).posture
reply s m c = done_unless (refusal s m c)

-- zones, places and the stamp change; there was nothing else
abbrev pub next_by : Answer → ModelState → Machine → Call → ModelState
next_by Done s m c = record s { zones = zones_after s m c; full = places_after s m c; stamp = s.stamp + 1 }
next_by (Refused _) s m c = s
next_by (Shown _ _ _) s m c = s

abbrev pub next : ModelState → Machine → Call → ModelState
next s m c = next_by (reply s m c) s m c

-- a call of the first version has the first version's reply, leaves its state, and doesn't stop the cell
pub record IsAsInFirstVersion (s : ModelState) (m : Machine) (c : Call) : Type 0 where
  pub answer : now.reply s m c ≡ reply s m c
  pub left : now.next s m c ≡ next s m c
  pub unmarked : (now.next s m c).stopped ≡ false

abbrev pub FirstVersionStays : Type 0
FirstVersionStays =
    (s : ModelState) (m : Machine) (c : Call) → s.stopped ≡ false → IsTrue (has_call c) → IsAsInFirstVersion s m c
