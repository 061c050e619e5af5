-- Each row of a document, wherever it stands, has its names in the plan: places and zones.
use Rattle.std.proofs.Common.{◌≡◌, ◌∙◌, ◌+◌, ℕ, List, length, get_or, refl, sym, ap, subst, string_bytes}
use Rattle.std.proofs.Common.{Option, Some, None}
use Rattle.std.proofs.lemmas.List.{length-map}
use Rattle.std.specs.Prelude.{String}
use Rattle.std.specs.declared.alloc.Global.{Global}
use Rattle.plan_types.specs.declared.table.Way.{Way}
use Rattle.plan_types.specs.Table.{no_place, no_zone, place_row, zone_row}
use Rattle.plan_text.specs.Named.{Named}
use Rattle.plan_text.specs.Names.{Text, name_in, number_in}
use Rattle.plan_document.specs.declared.document.MachineRow.{MachineRow}
use Rattle.plan_document.specs.declared.document.WayRow.{WayRow}
use Rattle.plan_document.specs.declared.document.ZoneRow.{ZoneRow}
use Rattle.plan_document.specs.Names.{AreDistinct, place_names, places_in, space_name}
use Rattle.plan_document.specs.PlanLaws.{PlacesAreKept, StandsAt, WayHasNames, ZoneHasNames, ZonesHaveNames}
use Rattle.plan_document.specs.Saying.{IsWayOf, IsZoneOf, ends_in, place_of, place_rows}
use Rattle.plan_document.proofs.Standing.{flat_at, mapped, moved, name_of, named_at, numbered_flat, own_number, read_at, same_number, zip_at}

-- ---- places

-- a place that a row names has its number
pub own_place : (places : List Text) (machines : List MachineRow) → AreDistinct places → places ≡ place_names machines → (machine : ℕ) (row : MachineRow) (here : StandsAt machines machine row) (nth : ℕ) (name : String Global) → StandsAt row.places.items nth name
    → number_in places (string_bytes name) ≡ Some (length (place_names here.before) + nth)
own_place places machines distinct is machine row here nth name named =
    own_number places _ (string_bytes name) distinct
    (moved places (place_names machines) _ _ (string_bytes name) is refl
    (flat_at places_in machines machine row here nth (string_bytes name) (mapped string_bytes row.places.items nth name named)))

-- its row is that of its name in the machine's row
own_row : (machines : List MachineRow) (machine : ℕ) (row : MachineRow) (here : StandsAt machines machine row) (nth : ℕ) (name : String Global) → StandsAt row.places.items nth name
    → get_or (place_rows machines) (length (place_names here.before) + nth) no_place ≡ place_of machine row (string_bytes name)
own_row machines machine row here nth name named =
    read_at (place_rows machines) _ (place_of machine row (string_bytes name)) no_place
    (numbered_flat (λ (r : ℕ × MachineRow). ends_in r.0 r.1) places_in
    (λ k r. length-map r.places.items (λ (other : String Global). place_of k r (string_bytes other)) ∙ sym (length-map r.places.items string_bytes))
    machines machine row here nth (place_of machine row (string_bytes name)) (mapped (λ (other : String Global). place_of machine row (string_bytes other)) row.places.items nth name named))

pub kept : PlacesAreKept
kept d n is machine row here nth name named place has =
    let own = own_place n.places d.machines.items is.distinct_places is.named_places machine row here nth name named in
    let same : place ≡ length (place_names here.before) + nth = same_number _ _ (sym has ∙ own) in
    ap (place_row n.plan) same
    ∙ ap (λ rows. get_or rows (length (place_names here.before) + nth) no_place) is.places
    ∙ own_row d.machines.items machine row here nth name named

-- ---- zones

way_names : (places : List Text) (o : Option WayRow) (w : Option Way) (row : WayRow) (way : Way) → IsWayOf places o w → o ≡ Some row → w ≡ Some way → WayHasNames places row way
way_names places o w row way is left right =
    let h : IsWayOf places (Some row) (Some way) = subst (λ v. IsWayOf places (Some row) v) right (subst (λ v. IsWayOf places v w) left is) in
    record {
      from = name_of places (string_bytes row.from) way.from h.0;
      to = name_of places (string_bytes row.to) way.to h.1;
    }

no_way : (places : List Text) (o : Option WayRow) (w : Option Way) → IsWayOf places o w → o ≡ None → w ≡ None
no_way places None None is e = refl
no_way places None (Some w) is e = absurd is
no_way places (Some r) w is e = absurd (cc)

no_row : (places : List Text) (o : Option WayRow) (w : Option Way) → IsWayOf places o w → w ≡ None → o ≡ None
no_row places None w is e = refl
no_row places (Some r) None is e = absurd is
no_row places (Some r) (Some w) is e = absurd (cc)

zone_has : (n : Named) (zone : ℕ) (row : ZoneRow) → name_in n.zones zone ≡ string_bytes row.name → name_in n.spaces zone ≡ space_name row → IsZoneOf n.machines n.places row (zone_row n.plan zone) → ZoneHasNames n zone row
zone_has n zone row named spaced at =
    let z = zone_row n.plan zone in
    record {
      name = named;
      space = spaced;
      joins = at.joins;
      host = name_of n.machines (string_bytes row.host) z.host at.host;
      guest = name_of n.machines (string_bytes row.guest) z.guest at.guest;
      inward = λ r w. way_names n.places row.inward z.inward r w at.inward;
      outward = λ r w. way_names n.places row.outward z.outward r w at.outward;
      no_inward = no_way n.places row.inward z.inward at.inward;
      no_outward = no_way n.places row.outward z.outward at.outward;
      an_inward = no_row n.places row.inward z.inward at.inward;
      an_outward = no_row n.places row.outward z.outward at.outward;
    }

pub zoned : ZonesHaveNames
zoned d n is zone row here =
    zone_has n zone row
    (named_at (λ (r : ZoneRow). string_bytes r.name) d.zones.items n.zones zone row is.named_zones here)
    (named_at space_name d.zones.items n.spaces zone row is.named_spaces here)
    (zip_at (IsZoneOf n.machines n.places) d.zones.items n.plan.zones zone row no_zone is.zones here)
