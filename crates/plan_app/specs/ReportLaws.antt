-- What each line of a report says, for all names, zones and places: in the plan's own words.
use Rattle.std.specs.Prelude.{◌≡◌, ◌≢◌, ◌<◌, ℕ, ◌+◌, false, List, [], ◌++◌, codes, flat_map, length}
use Rattle.std.specs.Fmt.{decimal}
use Rattle.std.specs.List.{range_with_len}
use Rattle.std.specs.Str.{bytes_eq}
use Rattle.plan_types.specs.Table.{place_count, space_of, zone_count}
use Rattle.plan_word.specs.Layout.{bits_of, counts_of, zones_end}
use Rattle.plan_word.specs.declared.layout.Field.TheVariants.{Zone, Stamp, Stop}
use Rattle.plan_text.specs.Names.{Text, name_in}
use Rattle.plan_text.specs.Named.{Named}
use Rattle.plan_app.specs.Reports as report
use Rattle.plan_app.specs.Reports.{space_bits}
use Rattle.plan_app.specs.Words.{counted}

-- a field by its lowest bit, how many bits it has, and what it is
abbrev pub has_bits : ℕ → Text → Text → Text
has_bits first many what =
    codes "bit " ++ (decimal first ++ (codes ", " ++ (many ++ (codes ": " ++ (what ++ codes "\n")))))

-- where the zones end
abbrev pub zones_of : Named → ℕ
zones_of n = zones_end (counts_of n.plan) (zone_count n.plan)

-- the bits of each zone, one for each place, twenty for the stamp, and one for the stop
pub record ReportsTell : Type 0 where
  pub zone : (n : Named) (k : ℕ) → k < zone_count n.plan
      → report.zone_line n k
      ≡ has_bits (zones_end (counts_of n.plan) k) (counted (bits_of (counts_of n.plan) (Zone k)) (codes "bit"))
      (codes "zone " ++ name_in n.zones k)
  -- of a space with a name of its own the bits of all its zones stand before its first zone
  pub space : (n : Named) (k : ℕ) → k < zone_count n.plan → space_of n.plan k ≡ k
      → bytes_eq (name_in n.spaces k) (name_in n.zones k) ≡ false
      → report.space_line n k
      ≡ has_bits (zones_end (counts_of n.plan) k) (counted (space_bits n.plan k) (codes "bit"))
      (codes "space " ++ name_in n.spaces k)
  pub no_space : (n : Named) (k : ℕ) → name_in n.spaces k ≡ name_in n.zones k → report.space_line n k ≡ []
  pub place : (n : Named) (k : ℕ) → k < place_count n.plan
      → report.place_line n k
      ≡ has_bits (zones_of n + k) (counted 1 (codes "bit")) (codes "place " ++ name_in n.places k)
  pub stamp : (n : Named)
      → report.field_line (counts_of n.plan) Stamp (codes "stamp")
      ≡ has_bits (zones_of n + place_count n.plan) (counted 20 (codes "bit")) (codes "stamp")
  pub stop : (n : Named)
      → report.field_line (counts_of n.plan) Stop (codes "stop")
      ≡ has_bits (zones_of n + place_count n.plan + 20) (counted 1 (codes "bit")) (codes "stop")
  pub width : (n : Named)
      → report.width_line (counts_of n.plan)
      ≡ codes "a word of " ++ (decimal (zones_of n + place_count n.plan + 21) ++ codes " bits\n")
  -- a colon before the first name of a kind, and a blank before each other one
  pub first_name : (names : List Text) (k : ℕ) → k ≡ 0 → report.listed names k ≡ codes ": " ++ name_in names k
  pub next_name : (names : List Text) (k : ℕ) → k ≢ 0 → report.listed names k ≡ codes " " ++ name_in names k
  -- all names of a kind, and the lines of all zones and places
  pub names : (kind : Text) (names : List Text)
      → report.names_line kind names
      ≡ counted (length names) kind ++ (flat_map (report.listed names) (range_with_len 0 (length names)) ++ codes "\n")
  pub fields : (n : Named)
      → report.field_lines n
      ≡ flat_map (λ zone. report.space_line n zone ++ report.zone_line n zone) (range_with_len 0 (length n.zones))
      ++ (flat_map (report.place_line n) (range_with_len 0 (length n.places))
      ++ (report.field_line (counts_of n.plan) Stamp (codes "stamp")
      ++ report.field_line (counts_of n.plan) Stop (codes "stop")))
