-- What a Done advance says of its place.
use Rattle.std.proofs.Common.{◌≡◌, ℕ, ◌+◌, ◌≤◌, Bool, true, false, ◌&&◌, ◌||◌, not, refl, ap, arith}
use Rattle.std.proofs.lemmas.Bool.{lt-ltb}
use Rattle.plan_types.specs.Table.{PlanTable, is_source, is_sink}
use Rattle.plan_rules.specs.declared.state.State.{State}
use Rattle.plan_rules.specs.State.{is_full, one_if, coming, plates_for}
use Rattle.plan_rules.specs.Sound.{IsSound}
use Rattle.plan_rules.specs.Refusals.{is_taken}
use Rattle.plan_rules.proofs.lemmas.DoneCalls.{Advances}
use Rattle.plan_rules.proofs.lemmas.Plates.{no_plates}

source_by : (source full : Bool) → (not source && not full) ≡ false → full ≡ false → source ≡ true
source_by true full e f = refl
source_by false true e f = cc
source_by false false e f = cc

room_by : (source taken sink full : Bool) → (source && (taken && not (sink && full))) ≡ false → source ≡ true → full ≡ false → taken ≡ false
room_by true false sink full e s f = refl
room_by true true true false e s f = cc
room_by true true false false e s f = cc
room_by true true sink true e s f = cc
room_by false taken sink full e s f = cc

sink_by : (source taken sink full : Bool) → (source || sink) ≡ true → (source && (taken && not (sink && full))) ≡ false → full ≡ true → taken ≡ true → sink ≡ true
sink_by source taken true full o e f h = refl
sink_by true true false full o e f h = cc
sink_by true false false full o e f h = cc
sink_by false taken false full o e f h = cc

-- a place that has a plate is taken
pub full_is_taken : (t : PlanTable) (s : State) (p : ℕ) → is_full s p ≡ true → is_taken t s p ≡ true
full_is_taken t s p full =
    let one : one_if (is_full s p) ≡ 1 = ap one_if full in lt-ltb 0 (plates_for t s p) (omega (arith, one))

pub comes : (t : PlanTable) (s : State) (m p : ℕ) → Advances t s m p → is_full s p ≡ false → (is_source t p ≡ true) × (plates_for t s p ≡ 0)
comes t s m p d empty =
    let source = source_by (is_source t p) (is_full s p) d.plate empty in
    (source, no_plates (plates_for t s p) (room_by (is_source t p) (is_taken t s p) (is_sink t p) (is_full s p) d.room source empty))

pub goes : (t : PlanTable) (s : State) (m p : ℕ) → Advances t s m p → is_full s p ≡ true → is_sink t p ≡ true
goes t s m p d full = sink_by (is_source t p) (is_taken t s p) (is_sink t p) (is_full s p) d.ends d.room full (full_is_taken t s p full)

-- one plate at most is at the place after it, or comes to it
pub one_at_most : (t : PlanTable) (s : State) (m p : ℕ) → Advances t s m p → IsSound t s → (full : Bool) → is_full s p ≡ full
    → one_if (not full) + coming t s p ≤ 1
one_at_most t s m p d k true e = let one = ap one_if e in let most = k.one_plate_a_place p in omega (arith, one, most)
one_at_most t s m p d k false e = let none = (comes t s m p d e).1 in omega (arith, none)
