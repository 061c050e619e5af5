-- Which frames of a run a picture shows.
use Rattle.std.specs.Prelude.{ℕ, ◌+◌, Bool, true, false, ◌&&◌, List, [], ◌∷◌, take, drop, Option, Some, None, Ok}
use Rattle.std.specs.Prelude.{if◌then◌else◌}
use Rattle.cell_rules.specs.Types.{Done, Take, Feed, Z6, Call, same_machine}
use Rattle.cell_notes.specs.Names.{TurnCall, is_done_reply}
use Rattle.cell_notes.specs.declared.schedule.Turn.{Turn}
use Rattle.cell_plant.specs.declared.frame.Frame.{Frame}

-- a plate is taken out of the sixth zone
abbrev pub is_take : Call → Bool
is_take (Take Z6) = true
is_take _ = false

abbrev pub took_plate : TurnCall → Bool
took_plate None = false
took_plate (Some call) = is_take call.0 && is_done_reply call.1

abbrev pub is_feed : Option Turn → Bool
is_feed None = false
is_feed (Some t) = same_machine t.machine Feed

-- the feed belt has just taken a plate from the crane
unfoldable pub takes_plate : Frame → Bool
takes_plate f = is_feed f.turn && took_plate f.asked

-- the place of the last such frame, if there is one
abbrev pub one_on : Option ℕ → Bool → Option ℕ
one_on (Some i) here = Some (i + 1)
one_on None here = if here then Some 0 else None

unfoldable pub last_take : List Frame → Option ℕ
last_take [] = None
last_take (f ∷ fs) = one_on (last_take fs) (takes_plate f)

-- what is shown of all frames, by those before the last such frame and the place of the last such frame among these
abbrev pub part_from : List Frame → List Frame → Option ℕ → List Frame
part_from frames earlier None = frames
part_from frames earlier (Some first) = drop first earlier

abbrev pub part_up_to : List Frame → Option ℕ → List Frame
part_up_to frames None = frames
part_up_to frames (Some next) = part_from frames (take next frames) (last_take (take next frames))

-- from one plate that is taken to the next, the last such two; all frames if there are fewer
unfoldable pub shown_part : List Frame → List Frame
shown_part frames = part_up_to frames (last_take frames)
