-- A turn of a controller on several words, as each word's controller takes it.
use Rattle.std.proofs.Common.{◌≡◌, ◌≢◌, ℕ, nat_eq, Bool, true, false, if◌then◌else◌, List, length, set, ◌<◌, Option, Some, None, refl, sym, ap, ◌∙◌, subst}
use Rattle.std.specs.Prelude.{IfSome, slice_get, slice_index_or, option_and_then, option_map}
use Rattle.std.proofs.lemmas.List.{get_or-set_other, get_or-set_same, get_or_default, length-map}
use Rattle.std.proofs.lemmas.Option.{get_or_from_slice_get, slice_get-map, slice_get_within, same_Some}
use Rattle.std.proofs.lemmas.Bool.{eq-eqb, eqb-true, ne_eqb}
use Rattle.plan_types.specs.declared.call.Call.{Call}
use Rattle.plan_types.specs.declared.call.Call.TheVariants.{Inquire}
use Rattle.plan_types.specs.declared.answer.Answer.{Answer}
use Rattle.plan_types.specs.declared.answer.Refusal.{Refusal}
use Rattle.plan_controller.specs.declared.step.Step.{Step}
use Rattle.plan_controller.specs.declared.step.Step.TheVariants as step
use Rattle.plan_controller.specs.declared.outcome.Outcome.{Outcome}
use Rattle.plan_controller.specs.declared.outcome.Outcome.TheVariants as outcome
use Rattle.plan_controller.specs.Turns.{Control, control, step_in, next_place, Performs, TurnsBy, Turns}
use Rattle.plan_controller.specs.Turns as turns
use Rattle.plan_workers.specs.declared.routed_step.RoutedStep.{RoutedStep}
use Rattle.plan_workers.specs.declared.routed_step.RoutedStep.TheVariants.{Do, Await, Run}
use Rattle.plan_workers.specs.PlantSteps.{word_of, step_of, step_on, place_on}
use Rattle.plan_workers.specs.PlantTurns.{AreOnWords, IsOnWords, PlantControl, Asking, AsksOneWord, IsSameProgram, advanced, asked_on, control_on, here_on, if_here, sensors_on, whole}
use Rattle.plan_workers.proofs.PlacesOnWords.{next, stands, next_here, next_not}

-- ---- records

control_is : (k x : Control) → k.machine ≡ x.machine → k.steps ≡ x.steps → k.place ≡ x.place → k.stopped ≡ x.stopped → k ≡ x
control_is k x a b d e i = record { machine = a i; steps = b i; place = d i; stopped = e i }

plant_is : (c x : PlantControl) → IsSameProgram x c → c.place ≡ x.place → c.stopped ≡ x.stopped → c ≡ x
plant_is c x same d e i = record { machine = same.machine i; words = same.words i; steps = same.steps i; place = d i; stopped = e i }

-- ---- where a step stands

step_is : (w : ℕ) (x : RoutedStep) (s : Step) → step_on w x ≡ Some s → step_of x ≡ s
step_is w (Do k call faults) s e = by (nat_eq k w) e
  where
    by : (b : Bool) → (if b then Some (step.Do call faults) else None) ≡ Some s → step.Do call faults ≡ s
    by true e = same_Some _ _ e
    by false e = cc
step_is w (Await k z) s e = by (nat_eq k w) e
  where
    by : (b : Bool) → (if b then Some (step.Await z) else None) ≡ Some s → step.Await z ≡ s
    by true e = same_Some _ _ e
    by false e = cc
step_is w (Run motors until) s e = same_Some _ _ e

some_none : {A : Type 0} {x : A} → Some x ≡ None → ⊥
some_none e = cc

if_none : {A : Type 0} (h : Option Step) → if_here {A = A} h None ≡ None
if_none None = refl
if_none (Some s) = refl

not_here : {A : Type 0} (h : Option Step) (x : Option A) → h ≡ None → if_here h x ≡ None
not_here None x e = refl
not_here (Some s) x e = cc

is_here : {A : Type 0} (h : Option Step) (s : Step) (x : Option A) → h ≡ Some s → if_here h x ≡ x
is_here None s x e = cc
is_here (Some t) s x e = refl

quiet : (h : Option Step) (stopped : Option Refusal) (sensors : Option ℕ) (r : Refusal) → stopped ≡ Some r → if_here h stopped ≡ None → if_here h sensors ≡ None
quiet None stopped sensors r e f = refl
quiet (Some s) stopped sensors r e f = cc

module _ (c : PlantControl) (w : ℕ) where
  next_in_whole : next_place (whole c) ≡ next (length c.steps) c.place
  next_in_whole = ap (λ n. next n c.place) (length-map c.steps step_of)

  -- a word on which the step isn't goes on as it is
  stays_there : (x : RoutedStep) (o : Outcome) → slice_get c.steps c.place ≡ Some x → step_on w x ≡ None → c.stopped ≡ None → control_on w (advanced c o) ≡ control_on w c
  stays_there x outcome.Stays at apart running = refl
  stays_there x outcome.GoesOn at apart running =
      control_is _ _ refl refl (ap (place_on w c.steps) next_in_whole ∙ next_not (step_on w) c.steps c.place x at apart)
      (ap (if_here (here_on w (advanced c outcome.GoesOn))) running ∙ (if_none (here_on w (advanced c outcome.GoesOn)) ∙ sym (ap (if_here (here_on w c)) running ∙ if_none (here_on w c))))
  stays_there x (outcome.Stops r) at apart running =
      let away : here_on w c ≡ None = ap (option_and_then (step_on w)) at ∙ apart in
      control_is _ _ refl refl refl (not_here (here_on w c) (Some r) away ∙ sym (not_here (here_on w c) c.stopped away))

  -- and one on which it is goes on by the same outcome
  goes_there : (x : RoutedStep) (s : Step) (o : Outcome) → slice_get c.steps c.place ≡ Some x → step_on w x ≡ Some s → c.stopped ≡ None → control_on w (advanced c o) ≡ turns.advanced (control_on w c) o
  goes_there x s outcome.Stays at is running = refl
  goes_there x s outcome.GoesOn at is running =
      control_is _ _ refl refl (ap (place_on w c.steps) next_in_whole ∙ next_here (step_on w) c.steps c.place x s at is)
      (ap (if_here (here_on w (advanced c outcome.GoesOn))) running ∙ (if_none (here_on w (advanced c outcome.GoesOn)) ∙ sym (ap (if_here (here_on w c)) running ∙ if_none (here_on w c))))
  goes_there x s (outcome.Stops r) at is running =
      control_is _ _ refl refl refl (is_here (here_on w c) s (Some r) (ap (option_and_then (step_on w)) at ∙ is))

  -- ---- a turn, where what is known of the lines of the whole plant says this of the word's
  module _ (same same_w : Type 0) (asks asks_w : Call → Option Answer → Type 0) (stay : same → same_w)
      (mine : (s : Step) (call : Call) (a : Option Answer) → here_on w c ≡ Some s → asks call a → asks_w call a)
      (others : (call : Call) (a : Option Answer) → here_on w c ≡ None → asks call a → same_w) where
    rests : (stopped : Option Refusal) (k now : Control) (sensors : Option ℕ) (motors : ℕ) → k.stopped ≡ stopped → (stopped ≡ None → sensors ≡ None) → same_w → motors ≡ 0 → now ≡ k → Turns k same_w asks_w sensors motors now
    rests None k now sensors motors is off as_before dark still =
        subst (λ st. TurnsBy st k same_w asks_w sensors motors now) (sym is) (subst (λ ss. TurnsBy None k same_w asks_w ss motors now) (sym (off refl)) (as_before, dark, still))
    rests (Some r) k now sensors motors is off as_before dark still = subst (λ st. TurnsBy st k same_w asks_w sensors motors now) (sym is) (as_before, dark, still)

    -- the step's own part of a turn
    performs : (s : Step) (read motors : ℕ) (o : Outcome) (t : Step) → here_on w c ≡ Some s → Performs (whole c) same asks read (Some t) motors o → Performs (control_on w c) same_w asks_w read (Some t) motors o
    performs s read motors o (step.Do call faults) is p = (p.0, mine s call p.0 is p.1, p.2, p.3)
    performs s read motors o (step.Await z) is p = (p.0, mine s (Inquire z) p.0 is p.1, p.2, p.3)
    performs s read motors o (step.Run run until) is p = (stay p.0, p.1, p.2)

    -- another word's step leaves this word's line, and has apart motors on
    passes : (x : RoutedStep) (read motors : ℕ) (o : Outcome) → here_on w c ≡ None → step_on w x ≡ None → Performs (whole c) same asks read (Some (step_of x)) motors o → same_w × (motors ≡ 0)
    passes (Do k call faults) read motors o away apart p = (others call p.0 away p.1, p.2)
    passes (Await k z) read motors o away apart p = (others (Inquire z) p.0 away p.1, p.2)
    passes (Run run until) read motors o away apart p = cc

    by_place : (at : Option RoutedStep) (on : Option Step) (read motors : ℕ) (o : Outcome) → slice_get c.steps c.place ≡ at → here_on w c ≡ on → c.stopped ≡ None → Performs (whole c) same asks read (step_in (whole c)) motors o
        → Turns (control_on w c) same_w asks_w (sensors_on w c (Some read)) motors (control_on w (advanced c o))
    by_place None on read motors o at is running p =
        let away : here_on w c ≡ None = ap (option_and_then (step_on w)) at in
        let q = subst (λ s. Performs (whole c) same asks read s motors o) (slice_get-map step_of c.steps c.place ∙ ap (option_map step_of) at) p in
        rests None _ _ _ motors (ap (if_here (here_on w c)) running ∙ if_none (here_on w c)) (λ _. not_here (here_on w c) (Some read) away) (stay q.0) q.1 (ap (λ y. control_on w (advanced c y)) q.2)
    by_place (Some x) None read motors o at is running p =
        let q = subst (λ s. Performs (whole c) same asks read s motors o) (slice_get-map step_of c.steps c.place ∙ ap (option_map step_of) at) p in
        let apart : step_on w x ≡ None = sym (ap (option_and_then (step_on w)) at) ∙ is in
        let far = passes x read motors o is apart q in
        rests None _ _ _ motors (ap (if_here (here_on w c)) running ∙ if_none (here_on w c)) (λ _. not_here (here_on w c) (Some read) is) far.0 far.1 (stays_there x o at apart running)
    by_place (Some x) (Some s) read motors o at is running p =
        let q = subst (λ s. Performs (whole c) same asks read s motors o) (slice_get-map step_of c.steps c.place ∙ ap (option_map step_of) at) p in
        let on : step_on w x ≡ Some s = sym (ap (option_and_then (step_on w)) at) ∙ is in
        let there : step_in (control_on w c) ≡ Some (step_of x) = stands (step_on w) c.steps c.place x s at on ∙ ap (λ y. Some y) (sym (step_is w x s on)) in
        let done = subst (λ y. Performs (control_on w c) same_w asks_w read y motors o) (sym there) (performs s read motors o (step_of x) is q) in
        subst (λ st. TurnsBy st (control_on w c) same_w asks_w (sensors_on w c (Some read)) motors (control_on w (advanced c o))) (sym (ap (if_here (here_on w c)) running ∙ if_none (here_on w c)))
        (subst (λ ss. TurnsBy None (control_on w c) same_w asks_w ss motors (control_on w (advanced c o))) (sym (is_here (here_on w c) s (Some read) is)) (o, done, goes_there x s o at on running))

    by_whole : (stopped : Option Refusal) (sensors : Option ℕ) (motors : ℕ) (now : PlantControl) → c.stopped ≡ stopped → IsSameProgram c now → TurnsBy stopped (whole c) same asks sensors motors (whole now)
        → Turns (control_on w c) same_w asks_w (sensors_on w c sensors) motors (control_on w now)
    by_whole None (Some read) motors now running program t =
        let is : now ≡ advanced c t.0 = plant_is now (advanced c t.0) (record { machine = program.machine; words = program.words; steps = program.steps }) (ap (λ (x : Control). x.place) t.2) (ap (λ (x : Control). x.stopped) t.2) in
        subst (λ x. Turns (control_on w c) same_w asks_w (sensors_on w c (Some read)) motors (control_on w x)) (sym is) (by_place (slice_get c.steps c.place) (here_on w c) read motors t.0 refl refl running t.1)
    by_whole None None motors now running program t =
        let is : now ≡ c = plant_is now c program (ap (λ (x : Control). x.place) t.2) (ap (λ (x : Control). x.stopped) t.2) in
        rests (if_here (here_on w c) c.stopped) _ _ _ motors refl (λ _. if_none (here_on w c)) (stay t.0) t.1 (ap (control_on w) is)
    by_whole (Some r) sensors motors now running program t =
        let is : now ≡ c = plant_is now c program (ap (λ (x : Control). x.place) t.2) (ap (λ (x : Control). x.stopped) t.2) in
        rests (if_here (here_on w c) c.stopped) _ _ _ motors refl (quiet (here_on w c) c.stopped sensors r running) (stay t.0) t.1 (ap (control_on w) is)

    pub turn_on : (sensors : Option ℕ) (motors : ℕ) (now : PlantControl) → IsSameProgram c now → Turns (whole c) same asks sensors motors (whole now)
        → Turns (control_on w c) same_w asks_w (sensors_on w c sensors) motors (control_on w now)
    turn_on sensors motors now program t = by_whole c.stopped sensors motors now refl program t

-- ---- the lines of all words

-- a step that stands on a word, and has a word, has this one; and one that doesn't stand there has another
own_word : (w k : ℕ) (at : Option RoutedStep) (s : Step) → option_and_then (step_on w) at ≡ Some s → option_and_then word_of at ≡ Some k → k ≡ w
own_word w k None s on of = cc
own_word w k (Some (Do j call faults)) s on of = by (nat_eq j w) refl on
  where
    by : (b : Bool) → nat_eq j w ≡ b → (if b then Some (step.Do call faults) else None) ≡ Some s → k ≡ w
    by true e on = sym (same_Some _ _ of) ∙ eqb-true j w e
    by false e on = cc
own_word w k (Some (Await j z)) s on of = by (nat_eq j w) refl on
  where
    by : (b : Bool) → nat_eq j w ≡ b → (if b then Some (step.Await z) else None) ≡ Some s → k ≡ w
    by true e on = sym (same_Some _ _ of) ∙ eqb-true j w e
    by false e on = cc
own_word w k (Some (Run motors until)) s on of = cc

other_word : (w k : ℕ) (at : Option RoutedStep) → option_and_then (step_on w) at ≡ None → option_and_then word_of at ≡ Some k → w ≢ k
other_word w k None off of = cc
other_word w k (Some (Do j call faults)) off of = λ same. some_none (sym (ap (λ (b : Bool). if b then Some (step.Do call faults) else None) (eq-eqb j w (same_Some _ _ of ∙ sym same))) ∙ off)
other_word w k (Some (Await j z)) off of = λ same. some_none (sym (ap (λ (b : Bool). if b then Some (step.Await z) else None) (eq-eqb j w (same_Some _ _ of ∙ sym same))) ∙ off)
other_word w k (Some (Run motors until)) off of = cc

module _ {L : Type 0} (asks : L → Call → Option Answer → L → Type 0) (old new : List L) (c now : PlantControl) (asked : Asking) where
  is_asked : (w k : ℕ) (call : Call) (a : Option Answer) → asked ≡ Some (k, call, a) → k ≡ w → asked_on w asked ≡ Some (call, a)
  is_asked w k call a is same = ap (asked_on w) is ∙ ap (λ (b : Bool). if b then Some (call, a) else None) (eq-eqb k w same)

  isnt_asked : (w k : ℕ) (call : Call) (a : Option Answer) → asked ≡ Some (k, call, a) → w ≢ k → asked_on w asked ≡ None
  isnt_asked w k call a is apart = ap (asked_on w) is ∙ ap (λ (b : Bool). if b then Some (call, a) else None) (ne_eqb k w (λ e. apart (sym e)))

  pub each_turn : (w : ℕ) (l : L) (sensors : Option ℕ) (motors : ℕ) → IsSameProgram c now → Turns (whole c) ((new ≡ old) × (asked ≡ None)) (λ call answer. AsksOneWord asks old new c call answer asked) sensors motors (whole now)
      → Turns (control_on w c) ((slice_index_or new w l ≡ slice_index_or old w l) × (asked_on w asked ≡ None)) (λ call a. asks (slice_index_or old w l) call a (slice_index_or new w l) × (asked_on w asked ≡ Some (call, a))) (sensors_on w c sensors) motors (control_on w now)
  each_turn w l sensors motors program t =
      turn_on c w _ _ _ _ (λ p. (ap (λ xs. slice_index_or xs w l) p.0, ap (asked_on w) p.1))
      (λ s call a here it.
      let same = own_word w it.word (slice_get c.steps c.place) s here it.own in
      (subst (λ k. asks (slice_index_or old k l) call a (slice_index_or new k l)) same (it.line l), is_asked w it.word call a it.is same))
      (λ call a away it.
      let apart = other_word w it.word (slice_get c.steps c.place) away it.own in
      (it.others w l apart, isnt_asked w it.word call a it.is apart))
      sensors motors now program t

-- a step of a program that stands on these words does so
pub stands_on_words : (words : ℕ) (steps : List RoutedStep) (place : ℕ) (at : Option RoutedStep) → AreOnWords words steps → at ≡ slice_get steps place → IfSome at (λ x. IsOnWords words (word_of x))
stands_on_words words steps place None all is = tt
stands_on_words words steps place (Some x) all is =
    let found = sym is in
    subst (λ y. IsOnWords words (word_of y)) (get_or_from_slice_get steps place x x found) (all place x (slice_get_within steps place x found))

-- ---- the whole program's step

pub performs_at : (c : PlantControl) (at : Option RoutedStep) (same : Type 0) (asks : Call → Option Answer → Type 0) (sensors motors : ℕ) (o : Outcome) → slice_get c.steps c.place ≡ at → Performs (whole c) same asks sensors (option_map step_of at) motors o
    → Performs (whole c) same asks sensors (step_in (whole c)) motors o
performs_at c at same asks sensors motors o is p = subst (λ s. Performs (whole c) same asks sensors s motors o) (sym (slice_get-map step_of c.steps c.place ∙ ap (option_map step_of) is)) p

pub asks_one : {L : Type 0} (asks : L → Call → Option Answer → L → Type 0) (lines : List L) (c : PlantControl) (word : ℕ) (x : RoutedStep) (call : Call) (answer : Option Answer) (line new : L)
    → slice_get c.steps c.place ≡ Some x → word_of x ≡ Some word → word < length lines → asks (slice_index_or lines word line) call answer new → AsksOneWord asks lines (set lines word new) c call answer (Some (word, call, answer))
asks_one asks lines c word x call answer line new at of low asked = record {
  word = word;
  own = ap (option_and_then word_of) at ∙ of;
  is = refl;
  line = λ l. subst (λ y. asks y call answer (slice_index_or (set lines word new) word l)) (get_or_default lines word line l low) (subst (λ y. asks (slice_index_or lines word line) call answer y) (sym (get_or-set_same lines word new l low)) asked);
  others = λ k l apart. get_or-set_other lines word k new l apart;
}
