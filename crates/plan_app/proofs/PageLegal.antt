-- The laws of `pages_tell`: above all that each answer on a page is the interlock's own.
use Rattle.std.proofs.Common.{◌≡◌, ◌∙◌, ◌<◌, ◌≤◌, ◌+◌, ◌++◌, ℕ, zero, suc, Bool, true, false, not, List, [], ◌∷◌, Option, Some, None, flat_map, length, inl, inr, ap, refl, subst, sym, arith}
use Rattle.std.proofs.Common.{if◌then◌else◌}
use Rattle.std.proofs.lemmas.Bool.{lt-ltb}
use Rattle.std.specs.Prelude.{cond, set, slice_get, ⊤}
use Rattle.std.specs.Bool.{then_some}
use Rattle.std.specs.List.{cons_option, filter_map, range_with_len}
use Rattle.std.specs.Option.{option_and_then, option_to_list}
use Rattle.plan_types.specs.declared.call.Call.{Call}
use Rattle.plan_types.specs.declared.call.Call.TheVariants.{Claim, Give, Yield, Take, Release, SetPose, Inquire, Stop, Resume, Advance}
use Rattle.plan_types.specs.declared.answer.Refusal.TheVariants.{Worn}
use Rattle.plan_types.specs.declared.answer.Answer.{Answer}
use Rattle.plan_types.specs.declared.answer.Answer.TheVariants.{Done, Shown, Refused}
use Rattle.plan_types.specs.declared.answer.Event.{Event}
use Rattle.plan_types.specs.Table.{PlanTable}
use Rattle.plan_rules.specs.declared.state.State.{State}
use Rattle.plan_rules.specs.State.{last_stamp}
use Rattle.plan_rules.specs.Refusals as refusals
use Rattle.plan_rules.specs.Refusals.{◌or◌}
use Rattle.plan_rules.specs.Reply.{refusal, accepted, answer_by, reply, changed, next, next_by}
use Rattle.plan_rules.specs.History.{IsLegal}
use Rattle.plan_explorer.specs.declared.situation.Situation.{Situation}
use Rattle.plan_explorer.specs.Programs.{PlanPrograms, program_of}
use Rattle.plan_explorer.specs.Situations.{IsStandstill, after_turns, call_of, first_situation, lets_on, step_after, step_of, steps_after, turn_by, turn_of, unstamped}
use Rattle.plan_explorer.specs.Walks.{event_by, event_of, events_of}
use Rattle.plan_liveness.specs.declared.answer.FairOrder.{FairOrder}
use Rattle.plan_liveness.specs.declared.answer.Liveness.{Liveness}
use Rattle.plan_liveness.specs.declared.answer.Liveness.TheVariants as liveness
use Rattle.plan_liveness.specs.declared.answer.Progress.{Progress}
use Rattle.plan_liveness.specs.declared.answer.Progress.TheVariants as progress
use Rattle.plan_liveness.specs.Answers.{IsLiveness}
use Rattle.plan_text.specs.Named.{Named}
use Rattle.plan_text.specs.Names.{Text}
use Rattle.plan_app.specs.Going.{after_all, asked_line, outlook_at, same_outlook, walk_text}
use Rattle.plan_app.specs.PageLaws.{PagesTell}
use Rattle.plan_app.specs.Pages.{Shows, cycle_events, first_starving, if_any, in_vain, max_turns, order_by, order_of, page_text, repeated, rest_of, watched_events}
use Rattle.plan_app.specs.Screens.{AreAnswers, MayRest, outlook_after}

-- ---- without the stamp a call is answered alike, unless it is worn

module _ (t : PlanTable) (s : State) (m : ℕ) (fresh : refusals.worn s ≡ None) where
  same_refusal : (c : Call) → refusal t (unstamped s) m c ≡ refusal t s m c
  same_refusal (Claim z) = ap (λ w. refusals.not_party t m z or refusals.while_stopped s or refusals.already_mine s m z or refusals.held s m z or refusals.shut_to_guest t s m z or w) (sym fresh)
  same_refusal (Give z) =
      ap (λ w. refusals.not_party t m z or refusals.while_stopped s or refusals.not_owner s m z or refusals.plate_in_zone t s z or refusals.wrong_way (refusals.transfer_given t s m z)
      or refusals.nothing_to_give s (refusals.transfer_given t s m z) or refusals.no_room t s (refusals.transfer_given t s m z) or w) (sym fresh)
  same_refusal (Yield z) = ap (λ w. refusals.not_party t m z or refusals.not_owner s m z or refusals.plate_in_zone t s z or refusals.shut s z or w) (sym fresh)
  same_refusal (Take z) = ap (λ w. refusals.not_party t m z or refusals.not_owner s m z or refusals.no_plate_in_zone s z or w) (sym fresh)
  same_refusal (Release z) = ap (λ w. refusals.not_party t m z or refusals.not_owner s m z or refusals.plate_in_zone t s z or refusals.shut_while_moving s z or w) (sym fresh)
  same_refusal (SetPose p) =
      ap (λ w. refusals.lacks_pose t m p or refusals.moves_while_stopped t s p or refusals.first_zone t (refusals.unowned_by_pose t s m p) or refusals.first_zone t (refusals.plate_under_pose t s m p)
      or refusals.jump t s m p or refusals.first_zone t (refusals.opens_onto_plate t s p) or w) (sym fresh)
  same_refusal (Inquire z) = refl
  same_refusal Stop = ap (λ w. refusals.not_watch m or refusals.while_stopped s or w) (sym fresh)
  same_refusal Resume = ap (λ w. refusals.not_watch m or refusals.not_stopped s or w) (sym fresh)
  same_refusal (Advance p) = ap (λ w. refusals.not_own_end t m p or refusals.while_stopped s or refusals.source_taken t s p or refusals.sink_empty t s p or w) (sym fresh)

  same_accepted : (c : Call) → accepted (unstamped s) c ≡ accepted s c
  same_accepted (Claim z) = refl
  same_accepted (Give z) = refl
  same_accepted (Yield z) = refl
  same_accepted (Take z) = refl
  same_accepted (Release z) = refl
  same_accepted (SetPose p) = refl
  same_accepted (Inquire z) = refl
  same_accepted Stop = refl
  same_accepted Resume = refl
  same_accepted (Advance p) = refl

  same_reply : (c : Call) → reply t (unstamped s) m c ≡ reply t s m c
  same_reply c = ap (λ r. answer_by r (accepted (unstamped s) c)) (same_refusal c) ∙ ap (answer_by (refusal t s m c)) (same_accepted c)

same_change : (t : PlanTable) (s : State) (m : ℕ) (c : Call) → unstamped (changed t (unstamped s) m c) ≡ unstamped (changed t s m c)
same_change t s m (Claim z) = refl
same_change t s m (Give z) = refl
same_change t s m (Yield z) = refl
same_change t s m (Take z) = refl
same_change t s m (Release z) = refl
same_change t s m (SetPose p) = refl
same_change t s m (Inquire z) = refl
same_change t s m Stop = refl
same_change t s m Resume = refl
same_change t s m (Advance p) = refl

same_next : (a : Answer) (t : PlanTable) (s : State) (m : ℕ) (c : Call) → unstamped (next_by a t (unstamped s) m c) ≡ unstamped (next_by a t s m c)
same_next Done t s m c = same_change t s m c
same_next (Shown o f q) t s m c = refl
same_next (Refused r) t s m c = refl

one_more_at_most : (a : Answer) (t : PlanTable) (s : State) (m : ℕ) (c : Call) → (next_by a t s m c).stamp ≤ s.stamp + 1
one_more_at_most Done t s m c = omega arith
one_more_at_most (Shown o f q) t s m c = omega arith
one_more_at_most (Refused r) t s m c = omega arith

fresh_stamp : (s : State) → s.stamp < last_stamp → refusals.worn s ≡ None
fresh_stamp s l = ap (λ b. then_some (not b) Worn) (lt-ltb s.stamp last_stamp l)

-- ---- events that are told in states without stamps, one after the other

abbrev Bare : PlanTable → State → List Event → Type 0
Bare t u [] = ⊤
Bare t u (e ∷ events) = (e.answer ≡ reply t u e.machine e.call) × Bare t (unstamped (next t u e.machine e.call)) events

abbrev bare_end : PlanTable → State → List Event → State
bare_end t u [] = u
bare_end t u (e ∷ events) = bare_end t (unstamped (next t u e.machine e.call)) events

legal : (t : PlanTable) (s : State) (events : List Event) → s.stamp + length events ≤ last_stamp → Bare t (unstamped s) events → IsLegal t s events
legal t s [] few told = tt
legal t s (e ∷ events) few told =
    let below : s.stamp < last_stamp = omega (arith, few) in
    let same : reply t (unstamped s) e.machine e.call ≡ reply t s e.machine e.call = same_reply t s e.machine (fresh_stamp s below) e.call in
    let there : unstamped (next t (unstamped s) e.machine e.call) ≡ unstamped (next t s e.machine e.call) =
    ap (λ a. unstamped (next_by a t (unstamped s) e.machine e.call)) same ∙ same_next (reply t s e.machine e.call) t s e.machine e.call in
    let small = one_more_at_most (reply t s e.machine e.call) t s e.machine e.call in
    (told.0 ∙ same, legal t (next t s e.machine e.call) events (omega (arith, few, small)) (subst (λ u. Bare t u events) there told.1))

bare_append : (t : PlanTable) (u : State) (xs ys : List Event) → Bare t u xs → Bare t (bare_end t u xs) ys → Bare t u (xs ++ ys)
bare_append t u [] ys told more = more
bare_append t u (e ∷ xs) ys told more = (told.0, bare_append t (unstamped (next t u e.machine e.call)) xs ys told.1 more)

end_append : (t : PlanTable) (u : State) (xs ys : List Event) → bare_end t u (xs ++ ys) ≡ bare_end t (bare_end t u xs) ys
end_append t u [] ys = refl
end_append t u (e ∷ xs) ys = end_append t (unstamped (next t u e.machine e.call)) xs ys

-- events that lead from a state to another
record Piece (t : PlanTable) (u v : State) (events : List Event) : Type 0 where
  told : Bare t u events
  end : bare_end t u events ≡ v

nothing : (t : PlanTable) (u : State) → Piece t u u []
nothing t u = record { told = tt; end = refl }

join : (t : PlanTable) (u v w : State) (xs ys : List Event) → Piece t u v xs → Piece t v w ys → Piece t u w (xs ++ ys)
join t u v w xs ys a b = record {
  told = bare_append t u xs ys a.told (subst (λ s. Bare t s ys) (sym a.end) b.told);
  end = end_append t u xs ys ∙ (ap (λ s. bare_end t s ys) a.end ∙ b.end);
}

-- ---- turns

module _ (t : PlanTable) (ps : PlanPrograms) where
  -- a situation without a stamp
  abbrev IsBare : Situation → Type 0
  IsBare at = unstamped at.state ≡ at.state

  bare_turn : (at : Situation) (m : ℕ) (c : Option Call) → IsBare at → IsBare (turn_by t ps at m c)
  bare_turn at m None bare = bare
  bare_turn at m (Some c) bare = refl

  bare_after : (at : Situation) (turns : List ℕ) → IsBare at → IsBare (after_turns t ps at turns)
  bare_after at [] bare = bare
  bare_after at (m ∷ ms) bare = bare_after (turn_of t ps at m) ms (bare_turn at m (call_of ps at m) bare)

  one_turn : (at : Situation) (m : ℕ) (c : Option Call) → Piece t at.state (turn_by t ps at m c).state (option_to_list (event_by t at m c))
  one_turn at m None = nothing t at.state
  one_turn at m (Some c) = record { told = (refl, tt); end = refl }

  of_turns : (at : Situation) (turns : List ℕ) → Piece t at.state (after_turns t ps at turns).state (events_of t ps at turns)
  of_turns at [] = nothing t at.state
  of_turns at (m ∷ ms) =
      join t at.state (turn_of t ps at m).state (after_turns t ps at (m ∷ ms)).state _ _ (one_turn at m (call_of ps at m)) (of_turns (turn_of t ps at m) ms)

  -- who isn't let on leaves the state as it is
  still_by : (a : Answer) (s : State) (m : ℕ) (c : Call) → lets_on m a ≡ false → next_by a t s m c ≡ s
  still_by Done s m c off = absurd (cc)
  still_by (Shown o f q) s m c off = refl
  still_by (Refused r) s m c off = refl

  kept : (at : Situation) (m : ℕ) (c : Call) → IsBare at → lets_on m (reply t at.state m c) ≡ false
      → Piece t at.state at.state (record { machine = m; call = c; answer = reply t at.state m c } ∷ [])
  kept at m c bare off = record { told = (refl, tt); end = ap unstamped (still_by (reply t at.state m c) at.state m c off) ∙ bare }

  -- ---- the machines that ask at a standstill

  one_asks : (at : Situation) (m : ℕ) (c : Option Call) → IsBare at → ((x : Call) → c ≡ Some x → lets_on m (reply t at.state m x) ≡ false)
      → Piece t at.state at.state (option_to_list (event_by t at m c))
  one_asks at m None bare off = nothing t at.state
  one_asks at m (Some c) bare off = kept at m c bare (off c refl)

  added : (u : State) (o : Option Event) (events : List Event) → Piece t u u (option_to_list o) → Piece t u u events → Piece t u u (cons_option o events)
  added u None events one more = more
  added u (Some e) events one more = join t u u u (e ∷ []) events one more

  each_asks : (at : Situation) (ms : List ℕ) → IsBare at → ((m : ℕ) (c : Call) → call_of ps at m ≡ Some c → lets_on m (reply t at.state m c) ≡ false)
      → Piece t at.state at.state (filter_map (event_of t ps at) ms)
  each_asks at [] bare off = nothing t at.state
  each_asks at (m ∷ ms) bare off =
      added at.state (event_of t ps at m) (filter_map (event_of t ps at) ms) (one_asks at m (call_of ps at m) bare (off m)) (each_asks at ms bare off)

  -- ---- rounds

  rounds : (u : State) (cycle : List Event) (n : ℕ) → Piece t u u cycle → Piece t u u (repeated n cycle)
  rounds u cycle zero one = nothing t u
  rounds u cycle (suc n) one = join t u u u (repeated n cycle) cycle (rounds u cycle n one) one

-- ---- what a machine that starves asks in vain

module _ (n : Named) (ps : PlanPrograms) where
  in_vain_if : (at : Situation) (m : ℕ) (c : Call) (on : Bool) → IsBare n.plan ps at → lets_on m (reply n.plan at.state m c) ≡ on
      → Piece n.plan at.state at.state (option_to_list (then_some (not on) (record { machine = m; call = c; answer = reply n.plan at.state m c })))
  in_vain_if at m c true bare is = nothing n.plan at.state
  in_vain_if at m c false bare is = kept n.plan ps at m c bare is

  asked_in_vain : (at : Situation) (m : ℕ) (c : Option Call) → IsBare n.plan ps at
      → Piece n.plan at.state at.state (if_any (option_and_then in_vain (event_by n.plan at m c)))
  asked_in_vain at m None bare = nothing n.plan at.state
  asked_in_vain at m (Some c) bare = in_vain_if at m c (lets_on m (reply n.plan at.state m c)) bare refl

  of_outlook : (at : Situation) (who : Option ℕ) → IsBare n.plan ps at
      → Piece n.plan at.state at.state (if_any (option_and_then in_vain (outlook_at n ps who at)))
  of_outlook at None bare = nothing n.plan at.state
  of_outlook at (Some m) bare = asked_in_vain at m (call_of ps at m) bare

  unless : (u : State) (b : Bool) (o : Option Event) → Piece n.plan u u (if_any o) → Piece n.plan u u (if_any (if b then None else o))
  unless u true o piece = nothing n.plan u
  unless u false o piece = piece

  of_watched : (at : Situation) (who : Option ℕ) (last : Option Event) (turns : List ℕ) → IsBare n.plan ps at
      → Piece n.plan at.state (after_turns n.plan ps at turns).state (watched_events n ps who at last turns)
  of_watched at who last [] bare = nothing n.plan at.state
  of_watched at who last (m ∷ ms) bare =
      let after = turn_of n.plan ps at m in
      let now = outlook_at n ps who at in
      let more = of_watched after who now ms (bare_turn n.plan ps at m (call_of ps at m) bare) in
      join n.plan at.state at.state (after_turns n.plan ps after ms).state _ _
      (unless at.state (same_outlook now last) (option_and_then in_vain now) (of_outlook at who bare))
      (join n.plan at.state after.state (after_turns n.plan ps after ms).state _ _ (one_turn n.plan ps at m (call_of ps at m)) more)

  -- ---- a standstill, and an order whose cycle leads back

  whole_still : (opening : State) (turns : List ℕ) → IsStandstill n.plan ps (after_turns n.plan ps (first_situation opening) turns)
      → Bare n.plan (unstamped opening)
      (events_of n.plan ps (first_situation opening) turns ++ (outlook_after n ps opening turns ++ outlook_after n ps opening turns))
  whole_still opening turns still =
      let first = first_situation opening in
      let end = after_turns n.plan ps first turns in
      let bare = bare_after n.plan ps first turns refl in
      let asked = each_asks n.plan ps end (range_with_len 0 (length ps)) bare still.none_let_on in
      (join n.plan first.state end.state end.state _ _ (of_turns n.plan ps first turns) (join n.plan end.state end.state end.state _ _ asked asked)).told

  abbrev leads_back : (opening : State) (order : FairOrder) → Type 0
  leads_back opening order =
      after_turns n.plan ps (after_all n ps opening order.stem.items) order.cycle.items ≡ after_all n ps opening order.stem.items

  whole_order : (opening : State) (who : Option ℕ) (order : FairOrder) → leads_back opening order
      → Bare n.plan (unstamped opening) (events_of n.plan ps (first_situation opening) order.stem.items ++ repeated 8 (cycle_events n ps opening who order))
  whole_order opening who order back =
      let first = first_situation opening in
      let at = after_all n ps opening order.stem.items in
      let bare = bare_after n.plan ps first order.stem.items refl in
      let cycle : Piece n.plan at.state at.state (cycle_events n ps opening who order) =
      subst (λ (s : State). Piece n.plan at.state s (cycle_events n ps opening who order)) (ap (λ (x : Situation). x.state) back) (of_watched at who None order.cycle.items bare) in
      (join n.plan first.state at.state at.state _ _ (of_turns n.plan ps first order.stem.items) (rounds n.plan ps at.state _ 8 cycle)).told

  -- the order that is shown leads back, by what explorations answer

  machine_back : (opening : State) (m : ℕ) (found : Liveness) (order : FairOrder) → IsLiveness n.plan ps (first_situation opening) m found → order_of found ≡ Some order
      → leads_back opening order
  machine_back opening m liveness.Silent order is at = absurd (cc)
  machine_back opening m (liveness.Always bound) order is at = absurd (cc)
  machine_back opening m (liveness.IfOne strong bound x) order is at = let same : x ≡ order = cc in subst (leads_back opening) same is.1.back
  machine_back opening m (liveness.IfAll bound x) order is at = let same : x ≡ order = cc in subst (leads_back opening) same is.1.back
  machine_back opening m (liveness.IfTwo relay x) order is at = let same : x ≡ order = cc in subst (leads_back opening) same is.1.back
  machine_back opening m (liveness.Starves x) order is at = let same : x ≡ order = cc in subst (leads_back opening) same is.back
  machine_back opening m (liveness.Unknown reason) order is at = absurd (cc)

  found_back : (opening : State) (answers : List Liveness) (plates : Progress) (m : ℕ) (o : Option Liveness) (order : FairOrder)
      → AreAnswers n ps opening answers plates → slice_get answers m ≡ o → option_and_then order_of o ≡ Some order → leads_back opening order
  found_back opening answers plates m None order are there at = absurd (cc)
  found_back opening answers plates m (Some found) order are there at = machine_back opening m found order (are.each m found there) at

  plates_back : (opening : State) (plates : Progress) (order : FairOrder) → MayRest n ps opening plates → rest_of plates ≡ Some order → leads_back opening order
  plates_back opening (progress.Within bound) order may at = absurd (cc)
  plates_back opening (progress.Starves x) order may at = let same : x ≡ order = cc in subst (leads_back opening) same may.back
  plates_back opening (progress.Unknown reason) order may at = absurd (cc)

  plates_if : (opening : State) (plates : Progress) (order : FairOrder) (b : Bool) → MayRest n ps opening plates → (if b then None else rest_of plates) ≡ Some order → leads_back opening order
  plates_if opening plates order true may at = absurd (cc)
  plates_if opening plates order false may at = plates_back opening plates order may at

  order_back : (opening : State) (answers : List Liveness) (plates : Progress) (who : Option ℕ) (order : FairOrder) → AreAnswers n ps opening answers plates
      → order_by n answers plates who ≡ Some order → leads_back opening order
  order_back opening answers plates (Some m) order are at = found_back opening answers plates m (slice_get answers m) order are refl at
  order_back opening answers plates None order are at = plates_if opening plates order _ are.resting at

-- ---- the laws

pages_legal : (n : Named) (ps : PlanPrograms) (opening : State) (note : Text) (events : List Event) → Shows n ps opening note events → length events ≤ 100000
    → IsLegal n.plan (unstamped opening) events
pages_legal n ps opening note events (inl still) few =
    legal n.plan (unstamped opening) events (omega (arith, few)) (subst (Bare n.plan (unstamped opening)) (sym still.told) (whole_still n ps opening still.turns still.lead))
pages_legal n ps opening note events (inr shown) few =
    let who = first_starving ps shown.answers in
    let back = order_back n ps opening shown.answers shown.plates who shown.order shown.are shown.is in
    legal n.plan (unstamped opening) events (omega (arith, few)) (subst (Bare n.plan (unstamped opening)) (sym shown.told) (whole_order n ps opening who shown.order back))

asked_each : (n : Named) (o : Option Event) (rest : List Event) → asked_line n o ++ flat_map (λ e. asked_line n (Some e)) rest ≡ flat_map (λ e. asked_line n (Some e)) (option_to_list o ++ rest)
asked_each n None rest = refl
asked_each n (Some e) rest = refl

walk_told : (n : Named) (ps : PlanPrograms) (at : Situation) (turns : List ℕ) → walk_text n ps None at None turns ≡ flat_map (λ e. asked_line n (Some e)) (events_of n.plan ps at turns)
walk_told n ps at [] = refl
walk_told n ps at (m ∷ ms) =
    ap (λ l. asked_line n (event_of n.plan ps at m) ++ l) (walk_told n ps (turn_of n.plan ps at m) ms)
    ∙ asked_each n (event_of n.plan ps at m) (events_of n.plan ps (turn_of n.plan ps at m) ms)

no_news : (b : Bool) → if_any (if b then None else None) ≡ []
no_news true = refl
no_news false = refl

nobody : (n : Named) (ps : PlanPrograms) (at : Situation) (last : Option Event) (turns : List ℕ) → watched_events n ps None at last turns ≡ events_of n.plan ps at turns
nobody n ps at last [] = refl
nobody n ps at last (m ∷ ms) =
    ap (λ l. l ++ (if_any (event_of n.plan ps at m) ++ watched_events n ps None (turn_of n.plan ps at m) None ms)) (no_news (same_outlook None last))
    ∙ ap (λ l. if_any (event_of n.plan ps at m) ++ l) (nobody n ps (turn_of n.plan ps at m) None ms)

-- who asks in vain isn't let on, and stays
not_on : (on : Bool) (e f : Event) → then_some (not on) e ≡ Some f → on ≡ false
not_on true e f is = absurd (cc)
not_on false e f is = refl

put_back : (at : Situation) → unstamped at.state ≡ at.state → record { state = unstamped at.state; steps = at.steps } ≡ at
put_back at bare i = record at { state = bare i }

stays_by : (t : PlanTable) (ps : PlanPrograms) (at : Situation) (m : ℕ) (c : Call) (a : Answer) → unstamped at.state ≡ at.state → lets_on m a ≡ false
    → record { state = unstamped (next_by a t at.state m c); steps = steps_after ps at m a } ≡ at
stays_by t ps at m c Done bare off = absurd (cc)
stays_by t ps at m c (Shown o f q) bare off =
    ap (λ b. record { state = unstamped at.state; steps = cond b (set at.steps m (step_after (program_of ps m) (step_of at m))) at.steps }) off ∙ put_back at bare
stays_by t ps at m c (Refused r) bare off = put_back at bare

stays : (t : PlanTable) (ps : PlanPrograms) (at : Situation) (m : ℕ) (c : Option Call) (e : Event) → unstamped at.state ≡ at.state → event_by t at m c ≡ Some e → in_vain e ≡ Some e
    → turn_by t ps at m c ≡ at
stays t ps at m None e bare is vain = absurd (cc)
stays t ps at m (Some c) e bare is vain =
    let same : record { machine = m; call = c; answer = reply t at.state m c } ≡ e = cc in
    let off : lets_on m (reply t at.state m c) ≡ false = not_on (lets_on m (reply t at.state m c)) _ _ (subst (λ (x : Event). in_vain x ≡ Some x) (sym same) vain) in
    stays_by t ps at m c (reply t at.state m c) bare off

pub pages-tell : PagesTell
unfolding page_text max_turns
pages-tell = record {
  whole = λ plan opening text tells. record {
    note = tells.note;
    events = tells.events;
    shows = tells.shows;
    few = tells.few;
    told = tells.told;
  };
  legal = pages_legal;
  run = λ plan turns start fine text shown. shown.is.audited.legal;
  told = λ n ps opening turns. walk_told n ps (first_situation opening) turns;
  vain = λ n ps at m e bare is vain. stays n.plan ps at m (call_of ps at m) e bare is vain;
  nobody = nobody;
}
