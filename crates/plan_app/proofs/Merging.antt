-- The steps of a machine on all words of a plant, one after another: they are the only ones, and no more than a limit.
use Rattle.std.proofs.Common.{◌≡◌, ◌∙◌, ◌+◌, ◌<◌, ◌≤◌, ◌++◌, ◌∷◌, [], ℕ, zero, suc, Bool, true, false, nat_eq, List, length, get_or, take, slice_get, Option, Some, None, IsNone, IsSome, refl, ap, sym, subst, arith}
use Rattle.std.specs.List.{filter_map}
use Rattle.std.specs.Prelude.{if◌then◌else◌}
use Rattle.std.proofs.lemmas.Bool.{eq-eqb}
use Rattle.std.proofs.lemmas.List.{append_assoc, append-nil, length-take, length_push, take_all, take_more}
use Rattle.std.proofs.lemmas.List.Elements.{All-push, filter_map-append}
use Rattle.std.proofs.lemmas.Option.{get_or_from_slice_get, same_Some, slice_get_within}
use Rattle.plan_types.specs.declared.call.Call.{Call}
use Rattle.plan_types.specs.declared.call.Call.TheVariants.{Inquire}
use Rattle.plan_controller.specs.declared.faults.Faults.{Faults}
use Rattle.plan_controller.specs.declared.step.Step.{Step}
use Rattle.plan_controller.specs.declared.step.Step.TheVariants as step
use Rattle.plan_explorer.specs.PlantPrograms.{AreOnWords as CallsAreOnWords, RoutedPrograms, routed_of}
use Rattle.plan_explorer.specs.declared.plant_programs.RoutedCall.{RoutedCall}
use Rattle.plan_document.specs.declared.resolving.ProgrammedPlan.{ProgrammedPlan}
use Rattle.plan_workers.specs.PlantSteps.{step_on, steps_on, word_of}
use Rattle.plan_workers.specs.PlantTurns.{IsOnWords}
use Rattle.plan_workers.specs.declared.routed_step.RoutedStep.{RoutedStep}
use Rattle.plan_workers.specs.declared.routed_step.RoutedStep.TheVariants.{Do, Await, Run}
use Rattle.plan_app.specs.WholePrograms.{AreFirst, HasNoNext, IsNext, IsWhole, calls_of, call_of, program_on, routed, word_by}

-- ---- lists that are taken from one

-- one more is taken, or none
grown : {X Y : Type 0} (h : Y → Option X) (y : Y) (own all more : List X) → own ≡ take (length own) all
    → ((x : X) → h y ≡ Some x → slice_get all (length own) ≡ Some x) → more ≡ own ++ filter_map h (y ∷ []) → more ≡ take (length more) all
grown {X} h y own all more first next is = by (h y) refl
  where
    by : (o : Option X) → h y ≡ o → more ≡ take (length more) all
    by None e =
        let none : filter_map h (y ∷ []) ≡ [] = rw e refl in
        let same : more ≡ own = is ∙ ap (λ l. own ++ l) none ∙ append-nil own in
        subst (λ l. l ≡ take (length l) all) (sym same) first
    by (Some x) e =
        let one : filter_map h (y ∷ []) ≡ x ∷ [] = rw e refl in
        let at : slice_get all (length own) ≡ Some x = next x e in
        let few : length own < length all = slice_get_within all (length own) x at in
        let pushed : more ≡ own ++ x ∷ [] = is ∙ ap (λ l. own ++ l) one in
        let count : length more ≡ length own + 1 = ap length pushed ∙ length_push own x in
        pushed ∙ sym (ap (λ n. take n all) count ∙ take_more all (length own) x few
        ∙ ap (λ l. l ++ get_or all (length own) x ∷ []) (sym first)
        ∙ ap (λ z. own ++ z ∷ []) (get_or_from_slice_get all (length own) x x at))

-- what comes after the first ones that are taken
after_first : {X : Type 0} (own all rest : List X) (x : X) (n : ℕ) → own ++ x ∷ rest ≡ take n all → slice_get all (length own) ≡ Some x
after_first own all rest x zero e = absurd (nothing own rest x e)
  where
    nothing : {X : Type 0} (own rest : List X) (x : X) → own ++ x ∷ rest ≡ [] → ⊥
    nothing [] rest x e = cc
    nothing (o ∷ own) rest x e = cc
after_first own [] rest x (suc n) e = absurd (nothing own rest x e)
  where
    nothing : {X : Type 0} (own rest : List X) (x : X) → own ++ x ∷ rest ≡ [] → ⊥
    nothing [] rest x e = cc
    nothing (o ∷ own) rest x e = cc
after_first [] (y ∷ all) rest x (suc n) e = let same : x ≡ y = cc in ap Some (sym same)
after_first (o ∷ own) (y ∷ all) rest x (suc n) e = after_first own all rest x n (cc)

-- of what is picked from a list
pick_next : {X Y : Type 0} (h : Y → Option X) (before after : List Y) (y : Y) (all : List X) (n : ℕ)
    → filter_map h (before ++ y ∷ after) ≡ take n all → (x : X) → h y ≡ Some x → slice_get all (length (filter_map h before)) ≡ Some x
pick_next h before after y all n is x e =
    let own : filter_map h (y ∷ after) ≡ x ∷ filter_map h after = rw e refl in
    after_first (filter_map h before) all (filter_map h after) x n
    (sym (filter_map-append h before (y ∷ after) ∙ ap (λ l. filter_map h before ++ l) own) ∙ is)

-- ---- the first steps

module _ (plans : List ProgrammedPlan) (calls : List RoutedCall) (m : ℕ) where
  pub none_yet : AreFirst plans calls m []
  none_yet = record { on_words = λ word few. refl; asks = refl; there = λ k d few. absurd (omega arith) }

  pub one_more : (done more : List RoutedStep) (next : RoutedStep) → AreFirst plans calls m done → IsNext plans calls m done next → more ≡ done ++ next ∷ []
      → AreFirst plans calls m more
  one_more done more next first is pushed = subst (AreFirst plans calls m) (sym pushed) (record {
    on_words = λ word few.
        grown (step_on word) next (steps_on word done) (program_on plans m word) (steps_on word (done ++ next ∷ [])) (first.on_words word few)
        (λ own e. is.on_words word own few e) (filter_map-append (step_on word) done (next ∷ []));
    asks = grown call_of next (calls_of done) calls (calls_of (done ++ next ∷ [])) first.asks is.asks (filter_map-append call_of done (next ∷ []));
    there = All-push (λ x. IsOnWords (length plans) (word_of x)) done next first.there is.there;
  })

  -- ---- the next one

  on_own : (word : ℕ) (own : Step) → (if nat_eq word word then Some own else None) ≡ Some own
  on_own word own = rw (eq-eqb word word refl) refl

  -- how a next step is found: by the next call, and by what the call's word has next
  abbrev pub IsFound : RoutedStep → Option RoutedCall → Option Step → Type 0
  IsFound (Do word call faults) next own = (next ≡ Some (routed word call)) × (own ≡ Some (step.Do call faults))
  IsFound (Await word zone) next own = (next ≡ Some (routed word (Inquire zone))) × (own ≡ Some (step.Await zone))
  IsFound (Run motors until) next own = own ≡ Some (step.Run motors until)

  abbrev at_word : List RoutedStep → Option RoutedCall → Option Step
  at_word done next = slice_get (program_on plans m (word_by next)) (length (steps_on (word_by next) done))

  found : (done : List RoutedStep) (next : RoutedStep) (call : Option RoutedCall) → call ≡ slice_get calls (length (calls_of done)) → word_by call < length plans
      → IsNext plans calls m done next → IsFound next call (at_word done call)
  found done (Do word c f) call e few is =
      let asks : call ≡ Some (routed word c) = e ∙ is.asks (routed word c) refl in
      let at : at_word done (Some (routed word c)) ≡ Some (step.Do c f) = is.on_words word (step.Do c f) is.there (on_own word (step.Do c f)) in
      (asks, subst (λ k. at_word done k ≡ Some (step.Do c f)) (sym asks) at)
  found done (Await word zone) call e few is =
      let asks : call ≡ Some (routed word (Inquire zone)) = e ∙ is.asks (routed word (Inquire zone)) refl in
      let at : at_word done (Some (routed word (Inquire zone))) ≡ Some (step.Await zone) = is.on_words word (step.Await zone) is.there (on_own word (step.Await zone)) in
      (asks, subst (λ k. at_word done k ≡ Some (step.Await zone)) (sym asks) at)
  found done (Run motors until) call e few is = is.on_words (word_by call) (step.Run motors until) few refl

  pub found_as : (done : List RoutedStep) (next : RoutedStep) (call : Option RoutedCall) (own : Option Step) (word : ℕ)
      → call ≡ slice_get calls (length (calls_of done)) → word ≡ word_by call → word_by call < length plans
      → own ≡ slice_get (program_on plans m word) (length (steps_on word done)) → IsNext plans calls m done next → IsFound next call own
  found_as done next call own word e w few at is =
      subst (λ o. IsFound next call o) (sym (at ∙ ap (λ k. slice_get (program_on plans m k) (length (steps_on k done))) w)) (found done next call e few is)

  -- a call, a wait and a run are found in no other way
  pub found_do : (next : RoutedStep) (call : Option RoutedCall) (own : Option Step) (c : Call) (f : Faults) → own ≡ Some (step.Do c f) → IsFound next call own
      → call ≡ Some (routed (word_by call) c)
  found_do (Do word d g) call own c f e (asks, at) =
      let same : d ≡ c = let both : Some (step.Do d g) ≡ Some (step.Do c f) = sym at ∙ e in cc in
      asks ∙ (λ i. Some (routed (word_by (sym asks i)) (same i)))
  found_do (Await word zone) call own c f e (asks, at) = let lie : Some (step.Await zone) ≡ Some (step.Do c f) = sym at ∙ e in absurd (cc)
  found_do (Run motors until) call own c f e at = let lie : Some (step.Run motors until) ≡ Some (step.Do c f) = sym at ∙ e in absurd (cc)

  pub found_await : (next : RoutedStep) (call : Option RoutedCall) (own : Option Step) (z : ℕ) → own ≡ Some (step.Await z) → IsFound next call own
      → call ≡ Some (routed (word_by call) (Inquire z))
  found_await (Do word d g) call own z e (asks, at) = let lie : Some (step.Do d g) ≡ Some (step.Await z) = sym at ∙ e in absurd (cc)
  found_await (Await word zone) call own z e (asks, at) =
      let same : zone ≡ z = let both : Some (step.Await zone) ≡ Some (step.Await z) = sym at ∙ e in cc in
      asks ∙ (λ i. Some (routed (word_by (sym asks i)) (Inquire (same i))))
  found_await (Run motors until) call own z e at = let lie : Some (step.Run motors until) ≡ Some (step.Await z) = sym at ∙ e in absurd (cc)

  pub found_run : (next : RoutedStep) (call : Option RoutedCall) (own : Option Step) (motors until : ℕ) → own ≡ Some (step.Run motors until) → IsFound next call own
      → next ≡ Run motors until
  found_run (Do word d g) call own motors until e (asks, at) = let lie : Some (step.Do d g) ≡ Some (step.Run motors until) = sym at ∙ e in absurd (cc)
  found_run (Await word zone) call own motors until e (asks, at) = let lie : Some (step.Await zone) ≡ Some (step.Run motors until) = sym at ∙ e in absurd (cc)
  found_run (Run these this) call own motors until e at = let both : Some (step.Run these this) ≡ Some (step.Run motors until) = sym at ∙ e in cc

  pub found_none : (next : RoutedStep) (call : Option RoutedCall) (own : Option Step) → own ≡ None → IsFound next call own → ⊥
  found_none (Do word d g) call own e (asks, at) = let lie : Some (step.Do d g) ≡ None = sym at ∙ e in cc
  found_none (Await word zone) call own e (asks, at) = let lie : Some (step.Await zone) ≡ None = sym at ∙ e in cc
  found_none (Run motors until) call own e at = let lie : Some (step.Run motors until) ≡ None = sym at ∙ e in cc

  -- no two steps are the next one
  do_or_await : (done : List RoutedStep) (w v z : ℕ) (c : Call) (f : Faults) → IsNext plans calls m done (Do w c f) → IsNext plans calls m done (Await v z) → ⊥
  do_or_await done w v z c f one two =
      let asks : Some (routed w c) ≡ Some (routed v (Inquire z)) = sym (one.asks (routed w c) refl) ∙ two.asks (routed v (Inquire z)) refl in
      let word : w ≡ v = ap (λ (r : RoutedCall). r.word) (same_Some (routed w c) (routed v (Inquire z)) asks) in
      let at : slice_get (program_on plans m w) (length (steps_on w done)) ≡ Some (step.Do c f) = one.on_words w (step.Do c f) one.there (on_own w (step.Do c f)) in
      let also : slice_get (program_on plans m v) (length (steps_on v done)) ≡ Some (step.Await z) = two.on_words v (step.Await z) two.there (on_own v (step.Await z)) in
      let lie : Some (step.Do c f) ≡ Some (step.Await z) = sym at ∙ ap (λ k. slice_get (program_on plans m k) (length (steps_on k done))) word ∙ also in
      cc

  do_or_run : (done : List RoutedStep) (w motors until : ℕ) (c : Call) (f : Faults) → IsNext plans calls m done (Do w c f) → IsNext plans calls m done (Run motors until) → ⊥
  do_or_run done w motors until c f one two =
      let at : slice_get (program_on plans m w) (length (steps_on w done)) ≡ Some (step.Do c f) = one.on_words w (step.Do c f) one.there (on_own w (step.Do c f)) in
      let lie : Some (step.Do c f) ≡ Some (step.Run motors until) = sym at ∙ two.on_words w (step.Run motors until) one.there refl in
      cc

  await_or_run : (done : List RoutedStep) (w z motors until : ℕ) → IsNext plans calls m done (Await w z) → IsNext plans calls m done (Run motors until) → ⊥
  await_or_run done w z motors until one two =
      let at : slice_get (program_on plans m w) (length (steps_on w done)) ≡ Some (step.Await z) = one.on_words w (step.Await z) one.there (on_own w (step.Await z)) in
      let lie : Some (step.Await z) ≡ Some (step.Run motors until) = sym at ∙ two.on_words w (step.Run motors until) one.there refl in
      cc

  one_next : (done : List RoutedStep) (s t : RoutedStep) → 0 < length plans → IsNext plans calls m done s → IsNext plans calls m done t → s ≡ t
  one_next done (Do w c f) (Do v d g) some one two =
      let asks : Some (routed w c) ≡ Some (routed v d) = sym (one.asks (routed w c) refl) ∙ two.asks (routed v d) refl in
      let same : routed w c ≡ routed v d = same_Some (routed w c) (routed v d) asks in
      let word : w ≡ v = ap (λ (r : RoutedCall). r.word) same in
      let call : c ≡ d = ap (λ (r : RoutedCall). r.call) same in
      let at : slice_get (program_on plans m w) (length (steps_on w done)) ≡ Some (step.Do c f) = one.on_words w (step.Do c f) one.there (on_own w (step.Do c f)) in
      let also : slice_get (program_on plans m v) (length (steps_on v done)) ≡ Some (step.Do d g) = two.on_words v (step.Do d g) two.there (on_own v (step.Do d g)) in
      let both : Some (step.Do c f) ≡ Some (step.Do d g) = sym at ∙ ap (λ k. slice_get (program_on plans m k) (length (steps_on k done))) word ∙ also in
      let faults : f ≡ g = cc in
      λ i. Do (word i) (call i) (faults i)
  one_next done (Do w c f) (Await v z) some one two = absurd (do_or_await done w v z c f one two)
  one_next done (Do w c f) (Run motors until) some one two = absurd (do_or_run done w motors until c f one two)
  one_next done (Await w z) (Do v d g) some one two = absurd (do_or_await done v w z d g two one)
  one_next done (Await w y) (Await v z) some one two =
      let asks : Some (routed w (Inquire y)) ≡ Some (routed v (Inquire z)) = sym (one.asks (routed w (Inquire y)) refl) ∙ two.asks (routed v (Inquire z)) refl in
      let same : routed w (Inquire y) ≡ routed v (Inquire z) = same_Some (routed w (Inquire y)) (routed v (Inquire z)) asks in
      let word : w ≡ v = ap (λ (r : RoutedCall). r.word) same in
      let zone : y ≡ z = let call : Inquire y ≡ Inquire z = ap (λ (r : RoutedCall). r.call) same in cc in
      λ i. Await (word i) (zone i)
  one_next done (Await w z) (Run motors until) some one two = absurd (await_or_run done w z motors until one two)
  one_next done (Run motors until) (Do w c f) some one two = absurd (do_or_run done w motors until c f two one)
  one_next done (Run motors until) (Await w z) some one two = absurd (await_or_run done w z motors until two one)
  one_next done (Run motors until) (Run these this) some one two =
      let both : Some (step.Run motors until) ≡ Some (step.Run these this) =
      sym (one.on_words 0 (step.Run motors until) some refl) ∙ two.on_words 0 (step.Run these this) some refl in
      cc

  -- ---- no other program

  -- of the first steps each is the next one after those before it
  next_of : (before after : List RoutedStep) (s : RoutedStep) → AreFirst plans calls m (before ++ s ∷ after) → IsNext plans calls m before s
  next_of before after s first = record {
    on_words = λ word own few e. pick_next (step_on word) before after s (program_on plans m word) _ (first.on_words word few) own e;
    asks = pick_next call_of before after s calls _ first.asks;
    there =
        let at = first.there (length before) s (omega (arith, length_of before after s)) in
        subst (λ x. IsOnWords (length plans) (word_of x)) (get_or_at before after s) at;
  }
    where
      length_of : (before after : List RoutedStep) (s : RoutedStep) → length before < length (before ++ s ∷ after)
      length_of [] after s = omega arith
      length_of (b ∷ before) after s = omega (arith, length_of before after s)

      get_or_at : (before after : List RoutedStep) (s : RoutedStep) → get_or (before ++ s ∷ after) (length before) s ≡ s
      get_or_at [] after s = refl
      get_or_at (b ∷ before) after s = get_or_at before after s

  first_of : (steps : List RoutedStep) → IsWhole plans calls m steps → AreFirst plans calls m steps
  first_of steps whole = record {
    on_words = λ word few.
        let is = whole.on_words word few in
        is ∙ sym (take_all (length (steps_on word steps)) (program_on plans m word) (omega (arith, ap length is)));
    asks = whole.asks ∙ sym (take_all (length (calls_of steps)) calls (omega (arith, ap length whole.asks)));
    there = whole.there;
  }

  -- after the whole program no step comes
  past_end : (own all : List Step) (s : Step) → own ≡ all → slice_get all (length own) ≡ Some s → ⊥
  past_end own all s is at =
      let few : length own < length all = slice_get_within all (length own) s at in
      omega (arith, few, ap length is)

  none_after : (steps : List RoutedStep) (s : RoutedStep) → 0 < length plans → IsWhole plans calls m steps → IsNext plans calls m steps s → ⊥
  none_after steps (Do w c f) some whole next =
      past_end (steps_on w steps) (program_on plans m w) (step.Do c f) (whole.on_words w next.there) (next.on_words w (step.Do c f) next.there (on_own w (step.Do c f)))
  none_after steps (Await w z) some whole next =
      past_end (steps_on w steps) (program_on plans m w) (step.Await z) (whole.on_words w next.there) (next.on_words w (step.Await z) next.there (on_own w (step.Await z)))
  none_after steps (Run motors until) some whole next =
      past_end (steps_on 0 steps) (program_on plans m 0) (step.Run motors until) (whole.on_words 0 some) (next.on_words 0 (step.Run motors until) some refl)

  -- two lists of first steps, of which one is whole, and after the other no step comes, are one
  same_end : (before a b : List RoutedStep) → 0 < length plans → AreFirst plans calls m (before ++ a) → IsWhole plans calls m (before ++ b)
      → HasNoNext plans calls m (before ++ a) → before ++ b ≡ before ++ a
  same_end before [] [] some first whole none = refl
  same_end before [] (t ∷ b) some first whole none =
      absurd (none t (subst (λ l. IsNext plans calls m l t) (sym (append-nil before)) (next_of before b t (first_of (before ++ t ∷ b) whole))))
  same_end before (s ∷ a) [] some first whole none =
      absurd (none_after before s some (subst (IsWhole plans calls m) (append-nil before) whole) (next_of before a s first))
  same_end before (s ∷ a) (t ∷ b) some first whole none =
      let same : s ≡ t = one_next before s t some (next_of before a s first) (next_of before b t (first_of (before ++ t ∷ b) whole)) in
      let left : before ++ s ∷ a ≡ (before ++ s ∷ []) ++ a = sym (append_assoc before (s ∷ []) a) in
      let right : before ++ t ∷ b ≡ (before ++ s ∷ []) ++ b = ap (λ x. before ++ x ∷ b) (sym same) ∙ sym (append_assoc before (s ∷ []) b) in
      right ∙ same_end (before ++ s ∷ []) a b some (subst (AreFirst plans calls m) left first) (subst (IsWhole plans calls m) right whole)
      (subst (HasNoNext plans calls m) left none) ∙ sym left

  pub no_program : (done : List RoutedStep) → 0 < length plans → AreFirst plans calls m done → HasNoNext plans calls m done → ¬ IsWhole plans calls m done
      → (steps : List RoutedStep) → ¬ IsWhole plans calls m steps
  no_program done some first none unended steps whole =
      unended (subst (IsWhole plans calls m) (same_end [] done steps some first whole none) whole)

  -- ---- how many there are

  -- one that may stand on word 0, too
  with_own : (word : ℕ) (own : Step) (steps : List RoutedStep) (count : ℕ) (more : List Step)
      → length steps ≤ count + length (steps_on 0 steps) → more ≡ filter_map (λ s. if nat_eq word 0 then Some s else None) (own ∷ []) ++ steps_on 0 steps
      → length steps + 1 ≤ count + 1 + length more
  with_own word own steps count more few is = by (nat_eq word 0) is
    where
      by : (b : Bool) → more ≡ filter_map (λ s. if b then Some s else None) (own ∷ []) ++ steps_on 0 steps → length steps + 1 ≤ count + 1 + length more
      by true e = omega (arith, few, ap length e)
      by false e = omega (arith, few, ap length e)

  each_counts : (steps : List RoutedStep) → length steps ≤ length (calls_of steps) + length (steps_on 0 steps)
  each_counts [] = omega arith
  each_counts (Do w c f ∷ steps) =
      let more = steps_on 0 (Do w c f ∷ steps) in
      let is = filter_map-append (step_on 0) (Do w c f ∷ []) steps in
      omega (arith, with_own w (step.Do c f) steps (length (calls_of steps)) more (each_counts steps) (is ∙ by (nat_eq w 0) refl))
    where
      by : (b : Bool) → nat_eq w 0 ≡ b
          → filter_map (step_on 0) (Do w c f ∷ []) ++ steps_on 0 steps ≡ filter_map (λ s. if nat_eq w 0 then Some s else None) (step.Do c f ∷ []) ++ steps_on 0 steps
      by true e = rw e refl
      by false e = rw e refl
  each_counts (Await w z ∷ steps) =
      let more = steps_on 0 (Await w z ∷ steps) in
      let is = filter_map-append (step_on 0) (Await w z ∷ []) steps in
      omega (arith, with_own w (step.Await z) steps (length (calls_of steps)) more (each_counts steps) (is ∙ by (nat_eq w 0) refl))
    where
      by : (b : Bool) → nat_eq w 0 ≡ b
          → filter_map (step_on 0) (Await w z ∷ []) ++ steps_on 0 steps ≡ filter_map (λ s. if nat_eq w 0 then Some s else None) (step.Await z ∷ []) ++ steps_on 0 steps
      by true e = rw e refl
      by false e = rw e refl
  each_counts (Run motors until ∷ steps) = omega (arith, each_counts steps)

  taken_few : {X : Type 0} (own all : List X) → own ≡ take (length own) all → length own ≤ length all
  taken_few own all is = omega (arith, ap length is, length-take (length own) all)

  pub few_steps : (done : List RoutedStep) → 0 < length plans → AreFirst plans calls m done → length done ≤ length calls + length (program_on plans m 0)
  few_steps done some first =
      omega (arith, each_counts done, taken_few (calls_of done) calls first.asks, taken_few (steps_on 0 done) (program_on plans m 0) (first.on_words 0 some))

-- ---- of a plant

-- the word of the next call is there
pub next_word : (plans : List ProgrammedPlan) (ps : RoutedPrograms) (words m k : ℕ) (call : Option RoutedCall) → CallsAreOnWords words ps → words ≡ length plans
    → 0 < length plans → call ≡ slice_get (routed_of ps m) k → word_by call < length plans
next_word plans ps words m k None on same some is = some
next_word plans ps words m k (Some c) on same some is = subst (λ n. c.word < n) same (on.words_there m k c (sym is))

pub not_both : {A : Type 0} (o : Option A) → IsNone o → IsSome o → ⊥
not_both None none some = cc
not_both (Some x) none some = cc
