-- A plant with places cut, as a builder lists them.
use Rattle.std.specs.Prelude.{ℕ, ◌+◌, ◌<◌, ◌⊎◌, Bool, nat_eq, List, ◌++◌, map, drop, length, ⊤}
use Rattle.std.specs.List.{list_any, range_with_len}
use Rattle.plan_types.specs.declared.table.PlanPlace.{PlanPlace}
use Rattle.plan_types.specs.declared.table.PlanZone.{PlanZone}
use Rattle.plan_types.specs.Table.{PlanTable, zone_count, place_count, zone_row, host_of, guest_of, joins}
use Rattle.plan_words.specs.declared.fault.Limit.TheVariants.{Zones, Places}
use Rattle.plan_words.specs.declared.fault.PlantFault.{PlantFault}
use Rattle.plan_words.specs.declared.fault.PlantFault.TheVariants.{TooMany, OfRow, OfWord, OutOfMemory}
use Rattle.plan_words.specs.Cut.{Cut}
use Rattle.plan_words.specs.CutTable.{is_inside, cut_at, place_cut, exit_row, entry_row, start_cut, end_cut, ends_in}
use Rattle.plan_words.specs.CutTable.{way_cut}

-- a place is among those that a builder lists
abbrev pub is_chosen : List ℕ → ℕ → Bool
is_chosen places p = list_any (nat_eq p) places

-- of these the sources and sinks aren't cut
abbrev pub cuts_at : PlanTable → List ℕ → ℕ → Bool
cuts_at t places = is_inside t (is_chosen places)

abbrev pub cut_of : PlanTable → List ℕ → Cut
cut_of t places = cut_at t (is_chosen places)

-- why a plant isn't cut: it has more zones than a plant may have, or more places, by itself or with the exits
abbrev pub SaysOfCut : PlanTable → List ℕ → PlantFault → Type 0
SaysOfCut t places (TooMany Zones) = 40 < zone_count t
SaysOfCut t places (TooMany Places) =
    (64 < place_count t) ⊎ (144 < place_count t + length (cut_of t places).exits)
SaysOfCut t places (TooMany _) = ⊥
SaysOfCut t places (OfRow fault) = ⊥
SaysOfCut t places (OfWord first fault) = ⊥
SaysOfCut t places OutOfMemory = ⊤

-- other ways that end at a place come later
abbrev pub later_ends : PlanTable → ℕ → ℕ → Bool
later_ends t z = ends_in (drop (z + 1) t.zones)

-- the row of a zone, with the next exit and the next entry
abbrev pub row_cut : PlanTable → List ℕ → ℕ → ℕ → ℕ → PlanZone
row_cut t places z q e = record {
  host = host_of t z;
  guest = guest_of t z;
  joins = joins t z;
  inward = way_cut (cuts_at t places) (later_ends t z) q e (zone_row t z).inward;
  outward = way_cut (cuts_at t places) (later_ends t z)
      (q + length (start_cut (cuts_at t places) (zone_row t z).inward))
      (e + length (end_cut (cuts_at t places) (later_ends t z) (zone_row t z).inward)) (zone_row t z).outward;
}

-- the next exit and the next entry after it
abbrev pub exit_after : PlanTable → List ℕ → ℕ → ℕ → ℕ
exit_after t places z q =
    q + length (start_cut (cuts_at t places) (zone_row t z).inward)
    + length (start_cut (cuts_at t places) (zone_row t z).outward)

abbrev pub entry_after : PlanTable → List ℕ → ℕ → ℕ → ℕ
entry_after t places z e =
    e + length (end_cut (cuts_at t places) (later_ends t z) (zone_row t z).inward)
    + length (end_cut (cuts_at t places) (later_ends t z) (zone_row t z).outward)

-- the rows of the places, of the exits, and of the entries
abbrev pub rows_cut : PlanTable → List ℕ → List ℕ → List PlanPlace
rows_cut t exits entries =
    map (place_cut t exits entries) (range_with_len 0 (place_count t))
    ++ (map (exit_row t) exits ++ map (entry_row t) entries)
