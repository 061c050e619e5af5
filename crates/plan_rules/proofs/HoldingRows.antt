-- Who holds a zone, and whether the plant is stopped: in a legal history as the state after it says.
use Rattle.std.proofs.Common.{◌≡◌, ◌≤◌, ℕ, Bool, true, false, List, [], ◌∷◌, replicate, length, refl, sym, ◌∙◌, arith}
use Rattle.plan_types.specs.declared.posture.Posture.TheVariants.{Closed, Moving}
use Rattle.plan_types.specs.declared.call.Call.TheVariants.{Claim, Give, Yield, Release, SetPose, Stop, Resume}
use Rattle.plan_types.specs.declared.answer.Refusal.TheVariants.{NotParty, Held, Shut}
use Rattle.plan_types.specs.declared.answer.Event.{Event}
use Rattle.plan_types.specs.Table.{watch}
use Rattle.plan_types.specs.Examples.{press_table, lift_table}
use Rattle.plan_types.proofs.lemmas.Checked.{is_plan}
use Rattle.plan_rules.specs.declared.state.State.{State}
use Rattle.plan_rules.specs.State.{start_state}
use Rattle.plan_rules.specs.Sound.{IsSound}
use Rattle.plan_rules.specs.Refusals.{owns}
use Rattle.plan_rules.specs.History.{after, IsStopped}
use Rattle.plan_rules.specs.Examples.{did, refused, lift_start, lifting}
use Rattle.plan_rules.specs.OrderExamples.{free, open_outward, with_stop}
use Rattle.plan_rules.specs.HoldingExamples.{HoldsPress, ZonesHeld, PlantStopped, HoldingIsMet}
use Rattle.plan_rules.proofs.lemmas.Starts.{start_is_sound}
use Rattle.plan_rules.proofs.Histories.{sound-after}
use Rattle.plan_rules.proofs.Holders.{holds_iff_owns}
use Rattle.plan_rules.proofs.Stopping.{stopped_along}
use Rattle.plan_rules.proofs.Literal.{legal_by, answers_in, answers_to}

start_sound : (full : List Bool) (stamp : ℕ) → length full ≡ 16 → stamp ≤ 1048575 → IsSound press_table (start_state full stamp)
start_sound full stamp sixteen few = start_is_sound press_table (start_state full stamp) (is_plan press_table refl) (record { stamp_in_range = few; has_sixteen_places = sixteen; same = refl })

free_sound : IsSound press_table free
free_sound = start_sound (true ∷ replicate 15 false) 7 refl (omega arith)

open_sound : IsSound press_table open_outward
open_sound = sound-after press_table (start_state (false ∷ true ∷ replicate 14 false) 4) (did 1 (Claim 0) ∷ did 1 (SetPose 3) ∷ did 1 (SetPose 1) ∷ []) (is_plan press_table refl) (start_sound (false ∷ true ∷ replicate 14 false) 4 refl (omega arith))

holds : (s : State) (h : List Event) (m : ℕ) → IsSound press_table s → answers_in h ≡ answers_to press_table s h → owns (after press_table s h) m 0 ≡ true → HoldsPress s h m
holds s h m sound same owned = (holds_iff_owns press_table s h m 0 (is_plan press_table refl) sound (legal_by press_table s h same)).1 owned

holds_not : (s : State) (h : List Event) (m : ℕ) → IsSound press_table s → answers_in h ≡ answers_to press_table s h → owns (after press_table s h) m 0 ≡ false → ¬ HoldsPress s h m
holds_not s h m sound same owned held =
    let e : true ≡ false = sym ((holds_iff_owns press_table s h m 0 (is_plan press_table refl) sound (legal_by press_table s h same)).0 held) ∙ owned in
    cc

lift_start_sound : IsSound lift_table lift_start
lift_start_sound = start_is_sound lift_table lift_start (is_plan lift_table refl) (record { stamp_in_range = omega arith; has_sixteen_places = refl; same = refl })

zones : ZonesHeld
zones = record {
  at_first = holds open_outward [] 1 open_sound refl refl;
  not_at_first = holds_not free [] 1 free_sound refl refl;
  claimed = holds free (did 1 (Claim 0) ∷ []) 1 free_sound refl refl;
  refused_claim = holds_not free (refused 0 (Claim 0) (Shut Closed) ∷ []) 0 free_sound refl refl;
  claimed_between = holds free (refused 0 (Claim 0) (Shut Closed) ∷ did 1 (Claim 0) ∷ refused 0 (Claim 0) (Held 1) ∷ []) 1 free_sound refl refl;
  yielded = holds open_outward (did 1 (Yield 0) ∷ []) 0 open_sound refl refl;
  lost_by_yield = holds_not open_outward (did 1 (Yield 0) ∷ []) 1 open_sound refl refl;
  given = holds open_outward (did 1 (Give 0) ∷ []) 0 open_sound refl refl;
  lost_by_give = holds_not open_outward (did 1 (Give 0) ∷ []) 1 open_sound refl refl;
  lost_by_release = holds_not open_outward (did 1 (Release 0) ∷ []) 1 open_sound refl refl;
  refused_release = holds open_outward (did 1 (SetPose 3) ∷ refused 1 (Release 0) (Shut Moving) ∷ []) 1 open_sound refl refl;
  claimed_again = holds open_outward (did 1 (Release 0) ∷ did 1 (Claim 0) ∷ []) 1 open_sound refl refl;
  lost_again = holds_not open_outward (did 1 (Release 0) ∷ did 0 (Claim 0) ∷ did 0 (Release 0) ∷ []) 0 open_sound refl refl;
  lift = (holds_iff_owns lift_table lift_start lifting 0 1 (is_plan lift_table refl) lift_start_sound (legal_by lift_table lift_start lifting refl)).1 refl;
  upper_floor = λ held.
      let e : false ≡ true = (holds_iff_owns lift_table lift_start lifting 2 1 (is_plan lift_table refl) lift_start_sound (legal_by lift_table lift_start lifting refl)).0 held in
      cc;
}

stands : (s : State) (h : List Event) → answers_in h ≡ answers_to press_table s h → (after press_table s h).stopped ≡ true → IsStopped s h
stands s h same stopped = (stopped_along press_table s h (legal_by press_table s h same)).mark.1 stopped

goes_on : (s : State) (h : List Event) → answers_in h ≡ answers_to press_table s h → (after press_table s h).stopped ≡ false → ¬ IsStopped s h
goes_on s h same going stopped =
    let e : true ≡ false = sym ((stopped_along press_table s h (legal_by press_table s h same)).mark.0 stopped) ∙ going in
    cc

plant : PlantStopped
plant = record {
  at_first = stands (with_stop free) [] refl refl;
  not_at_first = goes_on free [] refl refl;
  stopped = stands free (did watch Stop ∷ []) refl refl;
  resumed = goes_on free (did watch Stop ∷ did watch Resume ∷ []) refl refl;
  again = stands free (did watch Stop ∷ did watch Resume ∷ did watch Stop ∷ []) refl refl;
  refused_resume = stands free (did watch Stop ∷ refused 1 Resume NotParty ∷ []) refl refl;
  refused_stop = goes_on free (refused 1 Stop NotParty ∷ []) refl refl;
  resumed_at_first = goes_on (with_stop free) (did watch Resume ∷ did 1 (Claim 0) ∷ []) refl refl;
  others_go_on = stands (with_stop open_outward) (did 1 (Yield 0) ∷ did 0 (Release 0) ∷ []) refl refl;
}

pub holding : HoldingIsMet
holding = record { zones = zones; stops = plant }
