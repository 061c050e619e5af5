-- A compiled plan, and how it is kept.
use Rattle.std.specs.Prelude.{◌≡◌, ℕ, ◌+◌, ◌≤◌, List}
use Rattle.std.proofs.Common.{sym, ap, ap₂, ◌∙◌}
use Rattle.std.specs.List.{All}
use Rattle.plan_types.specs.Table.{PlanTable, zone_count}
use Rattle.plan_types.specs.Plan.{IsPlan}
use Rattle.plan_word.specs.declared.layout.Field.TheVariants.{Stamp}
use Rattle.plan_word.specs.Layout.{Counts, counts_of, zones_end, start_of}
use Rattle.plan_compiled.specs.declared.told.Ends.{Ends}
use Rattle.plan_compiled.specs.declared.compiled.Compiled.TheInside.{Inside}
use Rattle.plan_compiled.specs.Ends.{IsTable}
use Rattle.plan_compiled.specs.Row.{Row}
use Rattle.plan_compiled.specs.Rows.{IsRight}

-- its tables; its rows, and where those of each call begin, by the call's slot; and what each code of a zone says
pub record CompiledPlan : Type 0 where
  pub table : PlanTable
  pub rows : List Row
  pub starts : List ℕ
  pub ends : List Ends

-- what holds of its parts
pub record IsCompiled (a : Inside) : Type 0 where
  pub plan : IsPlan a.plan
  pub layout_is : a.layout ≡ counts_of a.plan
  pub stamp_bit_is : a.stamp_bit ≡ start_of (counts_of a.plan) Stamp
  pub stamp_in_word : a.stamp_bit + 20 ≤ 64
  pub place_bit_is : a.place_bit ≡ zones_end (counts_of a.plan) (zone_count a.plan)
  pub table_is : IsTable a.plan (zone_count a.plan) a.ends
  pub rows_are_right : All (IsRight a.plan) a.rows

abbrev pub plan_in : Inside → CompiledPlan
plan_in a = record { table = a.plan; rows = a.rows; starts = a.starts; ends = a.ends }

abbrev pub kept_with : CompiledPlan → Counts → ℕ → ℕ → Inside
kept_with k layout stamp_bit place_bit = record {
  plan = k.table;
  layout = layout;
  stamp_bit = stamp_bit;
  place_bit = place_bit;
  ends = k.ends;
  starts = k.starts;
  rows = k.rows;
}

abbrev pub kept : CompiledPlan → Inside
kept k =
    kept_with k (counts_of k.table) (start_of (counts_of k.table) Stamp)
    (zones_end (counts_of k.table) (zone_count k.table))

pub kept_back : (a : Inside) → IsCompiled a → kept (plan_in a) ≡ a
kept_back a is =
    ap₂ (kept_with (plan_in a) (counts_of a.plan)) (sym is.stamp_bit_is) (sym is.place_bit_is)
    ∙ ap (λ (c : Counts). kept_with (plan_in a) c a.stamp_bit a.place_bit) (sym is.layout_is)
