-- A plan with chosen places cut: each way from such a place starts at an exit of its own; and of the ways to it the
-- last one ends at the place itself, and each other one at an entry of its own.
use Rattle.std.specs.Prelude.{ℕ, ◌+◌, Bool, true, false, ◌&&◌, ◌||◌, not, nat_eq, List, [], ◌∷◌, ◌++◌, length, map}
use Rattle.std.specs.Prelude.{Option}
use Rattle.std.specs.Prelude.{Some, None, if◌then◌else◌}
use Rattle.std.specs.List.{range_with_len, list_any}
use Rattle.plan_types.specs.declared.table.Way.{Way}
use Rattle.plan_types.specs.declared.table.PlanZone.{PlanZone}
use Rattle.plan_types.specs.declared.table.PlanPlace.{PlanPlace}
use Rattle.plan_types.specs.Table.{PlanTable, whole_table, place_count, place_row, keeper_of, is_source, is_sink}
use Rattle.plan_words.specs.Groups.{IsLargePlan}
use Rattle.plan_words.specs.Cut.{Cut, IsCut}

-- the place at which a way starts, if it is cut; and that at which it ends, if it is cut and other ways end there
abbrev pub start_cut : (ℕ → Bool) → Option Way → List ℕ
start_cut cut None = []
start_cut cut (Some w) = if cut w.from then w.from ∷ [] else []

abbrev pub end_cut : (ℕ → Bool) → (ℕ → Bool) → Option Way → List ℕ
end_cut cut others None = []
end_cut cut others (Some w) = if cut w.to && others w.to then w.to ∷ [] else []

abbrev pub ends_at : ℕ → Option Way → Bool
ends_at p None = false
ends_at p (Some w) = nat_eq p w.to

-- ways through some zones end at a place
abbrev pub ends_in : List PlanZone → ℕ → Bool
ends_in zones p = list_any (λ (row : PlanZone). ends_at p row.inward || ends_at p row.outward) zones

-- to which places the exits belong, and the entries
abbrev pub exits_of : (ℕ → Bool) → List PlanZone → List ℕ
exits_of cut [] = []
exits_of cut (row ∷ zones) = start_cut cut row.inward ++ (start_cut cut row.outward ++ exits_of cut zones)

abbrev pub entries_of : (ℕ → Bool) → List PlanZone → List ℕ
entries_of cut [] = []
entries_of cut (row ∷ zones) =
    end_cut cut (ends_in zones) row.inward ++ (end_cut cut (ends_in zones) row.outward ++ entries_of cut zones)

-- a way, with the next exit and the next entry
abbrev pub way_cut : (ℕ → Bool) → (ℕ → Bool) → ℕ → ℕ → Option Way → Option Way
way_cut cut others exit entry None = None
way_cut cut others exit entry (Some w) =
    Some (record { from = if cut w.from then exit else w.from; to = if cut w.to && others w.to then entry else w.to })

abbrev pub zones_cut : (ℕ → Bool) → ℕ → ℕ → List PlanZone → List PlanZone
zones_cut cut exit entry [] = []
zones_cut cut exit entry (row ∷ zones) =
    let next_exit = exit + length (start_cut cut row.inward) in
    let next_entry = entry + length (end_cut cut (ends_in zones) row.inward) in
    record {
      host = row.host;
      guest = row.guest;
      joins = row.joins;
      inward = way_cut cut (ends_in zones) exit entry row.inward;
      outward = way_cut cut (ends_in zones) next_exit next_entry row.outward;
    } ∷ zones_cut cut (next_exit + length (start_cut cut row.outward))
    (next_entry + length (end_cut cut (ends_in zones) row.outward)) zones

-- a place that is cut is a sink, and a source too if it has other entries
abbrev pub place_cut : PlanTable → List ℕ → List ℕ → ℕ → PlanPlace
place_cut t exits entries p =
    if list_any (nat_eq p) (exits ++ entries)
    then record { keeper = keeper_of t p; source = list_any (nat_eq p) entries; sink = true } else place_row t p

abbrev pub exit_row : PlanTable → ℕ → PlanPlace
exit_row t p = record { keeper = keeper_of t p; source = true; sink = false }

abbrev pub entry_row : PlanTable → ℕ → PlanPlace
entry_row t p = record { keeper = keeper_of t p; source = true; sink = true }

-- of the chosen places, the sources and sinks of the plan aren't cut
abbrev pub is_inside : PlanTable → (ℕ → Bool) → ℕ → Bool
is_inside t chosen p = chosen p && not (is_source t p || is_sink t p)

abbrev pub cut_table : PlanTable → (ℕ → Bool) → PlanTable
cut_table t chosen =
    let cut = is_inside t chosen in
    let exits = exits_of cut t.zones in
    let entries = entries_of cut t.zones in
    whole_table t.machines (zones_cut cut (place_count t) (place_count t + length exits) t.zones) t.poses
    (map (place_cut t exits entries) (range_with_len 0 (place_count t))
    ++ (map (exit_row t) exits ++ map (entry_row t) entries))

abbrev pub cut_at : PlanTable → (ℕ → Bool) → Cut
cut_at t chosen = record {
  plan = t;
  cut = cut_table t chosen;
  exits = exits_of (is_inside t chosen) t.zones;
  entries = entries_of (is_inside t chosen) t.zones;
}

abbrev pub all_places : ℕ → Bool
all_places p = true

-- whatever places of a plan are chosen, the plan is cut there; and a cut plan is a plan but for limits
pub record CutsAreCut : Type 0 where
  pub cut : (t : PlanTable) (chosen : ℕ → Bool) → IsLargePlan t → IsCut (cut_at t chosen)
  pub large : (c : Cut) → IsCut c → IsLargePlan c.plan → IsLargePlan c.cut
