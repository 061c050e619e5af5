-- Examples of states that aren't sound, and of starts: each of them is wrong in one thing.
use Rattle.std.specs.Prelude.{ℕ, true, false, [], ◌∷◌, Some}
use Rattle.cell_rules.specs.Types.{Machine, Feed, Robot, Press, Zone, Z1, Z3, PressIn, PressOut, Posture}
use Rattle.cell_rules.specs.Types.{Closed, Moving, OpenIn, OpenOut}
use Rattle.cell_rules.specs.declared.zones.ZoneState.{ZoneState}
use Rattle.cell_rules.specs.ZoneMap.{free_zone, everywhere, put_zone}
use Rattle.cell_rules.specs.PlaceSet.{PlaceSet, empty, insert_place}
use Rattle.cell_rules.specs.ModelState.{ModelState, model_state}
use Rattle.cell_rules.specs.Sound.{IsSound}
use Rattle.cell_rules.specs.Start.{IsStart, places_of, start_state}

-- a zone in a posture: free, or held by a machine; and with a plate
abbrev pub free_in : Posture → ZoneState
free_in q = record free_zone { posture = q }

abbrev pub held_in : Machine → Posture → ZoneState
held_in m q = record free_zone { owner = Some m; posture = q }

abbrev pub with_plate : ZoneState → ZoneState
with_plate v = record v { flag = true }

-- every zone but one is free and Closed, with these places full
abbrev pub cell_with : Zone → ZoneState → PlaceSet → ModelState
cell_with z v full = model_state (put_zone (everywhere free_zone) z v) full 0 false

pub record SoundExamples : Type 0 where
  pub stamp_too_great : ¬ IsSound (start_state empty 1048576)
  pub owned_by_stranger : ¬ IsSound (cell_with Z3 (held_in Feed OpenIn) empty)
  pub plate_without_way : ¬ IsSound (cell_with Z3 (with_plate (held_in Press Closed)) empty)
  pub plate_with_its_giver : ¬ IsSound (cell_with Z3 (with_plate (held_in Robot OpenIn)) empty)
  pub plate_onto_plate : ¬ IsSound (cell_with Z3 (with_plate (held_in Press OpenIn)) (insert_place empty PressIn))
  pub guest_in_closed_zone : ¬ IsSound (cell_with Z3 (held_in Robot Closed) empty)
  pub moves_unheld : ¬ IsSound (cell_with Z3 (free_in Moving) empty)
  pub posture_of_no_pose : ¬ IsSound (cell_with Z1 (free_in OpenOut) empty)
  pub two_in_press : ¬ IsSound (cell_with Z3 free_zone (insert_place (insert_place empty PressIn) PressOut))
  pub opens_onto_forged : ¬ IsSound (cell_with Z3 (free_in OpenIn) (insert_place empty PressOut))

pub record StartExamples : Type 0 where
  pub six_plates : IsStart (places_of (true ∷ true ∷ true ∷ true ∷ true ∷ false ∷ true ∷ [])) 1048575
  pub seven_plates : ¬ IsStart (places_of (true ∷ true ∷ true ∷ true ∷ true ∷ false ∷ true ∷ true ∷ [])) 0
  pub two_in_press : ¬ IsStart (insert_place (insert_place empty PressIn) PressOut) 0
  pub stamp_too_great : ¬ IsStart empty 1048576
