-- A machine has one turn, if its sensors show one thing, their check says one thing, and a drive has one command.
use Rattle.cell_plant.proofs.Names.{◌≡◌, ◌≢◌, ℕ, Bool, Option, Some, None, Result, Ok, Err, refl, sym, ap, ◌∙◌, subst, Machine, Call, Answer, Reply, Settled, Busy, SensorFault, ModelState, LineFault, Rig, Steps, step_after_reply, Performed, PerformsCall, PerformsSensed, Turned, Turns, at_rest, turned, CtlFault, Side, side_set, Answers, Takes}
use Rattle.cell_notes.specs.Asks.{TurnCall}

abbrev pub GotMemory : TurnCall → Type 0
GotMemory asked = (call : Call) (fault : LineFault) → asked ≢ Some (call, Err fault)

-- what was asked and came back, and the state of the interlock after it
pub record SameAsk (asked asked' : TurnCall) (y y' : ModelState) : Type 0 where
  pub asked_is : asked' ≡ asked
  pub state_is : y' ≡ y

abbrev settled : Answer → ℕ → Result Reply LineFault
settled a stamp = Ok (Settled a stamp)

abbrev busy_with : ℕ → ℕ → Result Reply LineFault
busy_with lost stamp = Ok (Busy lost stamp)

settled_is : (a b : Answer) (m n : ℕ) → a ≡ b → m ≡ n → settled a m ≡ settled b n
settled_is a b m n e f = λ i. settled (e i) (f i)

busy_is : (a b m n : ℕ) → a ≡ b → m ≡ n → busy_with a m ≡ busy_with b n
busy_is a b m n e f = λ i. busy_with (e i) (f i)

-- a call has one answer, if it isn't out of memory
one_answer : (z : ModelState) (m : Machine) (busy : Bool) (c : Call) (r r' : Result Reply LineFault) (y y' : ModelState)
    → ((fault : LineFault) → r ≢ Err fault) → ((fault : LineFault) → r' ≢ Err fault) → Answers z m busy c r y → Answers z m busy c r' y' → (r' ≡ r) × (y' ≡ y)
one_answer z m busy c (Err fault) r' y y' got got' k k' = absurd (got fault refl)
one_answer z m busy c (Ok r) (Err fault) y y' got got' k k' = absurd (got' fault refl)
one_answer z m busy c (Ok (Settled a stamp)) (Ok (Settled b next)) y y' got got' k k' =
    let same : y' ≡ y = k'.3 ∙ sym k.3 in
    (settled_is b a next stamp (k'.1 ∙ sym k.1) (k'.2 ∙ ap (λ (s : ModelState). s.stamp) same ∙ sym k.2), same)
one_answer z m busy c (Ok (Settled a stamp)) (Ok (Busy lost next)) y y' got got' k k' = absurd (cc)
one_answer z m busy c (Ok (Busy lost stamp)) (Ok (Settled b next)) y y' got got' k k' = absurd (cc)
one_answer z m busy c (Ok (Busy lost stamp)) (Ok (Busy more next)) y y' got got' k k' =
    (busy_is more lost next stamp (k'.1 ∙ sym k.1) (k'.2 ∙ sym k.2), k'.3 ∙ sym k.3)

-- its sensors show one thing in each state of its part, their check says one thing, and a drive has one command
pub record HasOneWay {S Sense Reading Act State : Type 0} (t : Steps S Sense Reading Act) (rig : Rig State Sense Act) : Type 0 where
  pub shows : (b : State) (s s' : Sense) → rig.shows b s → rig.shows b s' → s' ≡ s
  pub senses : (s : Sense) (r r' : Result Reading SensorFault) → t.senses s r → t.senses s r' → r' ≡ r
  pub drives : (p : S) (r : Reading) (a a' : Act) → t.drives p r a → t.drives p r a' → a' ≡ a

module _ {S Sense Reading Act State : Type 0} (t : Steps S Sense Reading Act) (rig : Rig State Sense Act) (way : HasOneWay t rig) (busy : Bool) (z : ModelState) where
  abbrev SameFor : ModelState → TurnCall → Type 0
  SameFor y asked = (y ≡ z) × (asked ≡ None)

  abbrev AsksFor : ModelState → TurnCall → Call → Result Reply LineFault → Type 0
  AsksFor y asked c r = Answers z t.machine busy c r y × (asked ≡ Some (c, r))

  same_quiet : (asked asked' : TurnCall) (y y' : ModelState) → SameFor y asked → SameFor y' asked' → SameAsk asked asked' y y'
  same_quiet asked asked' y y' k k' = record { asked_is = k'.1 ∙ sym k.1; state_is = k'.0 ∙ sym k.0 }

  module _ (asked asked' : TurnCall) (y y' : ModelState) (got : GotMemory asked) (got' : GotMemory asked') where
    one_call : (o : Option Call) (p : S) (reading : Reading) (r r' : Performed S Act)
        → PerformsCall t o (SameFor y asked) (AsksFor y asked) p reading r → PerformsCall t o (SameFor y' asked') (AsksFor y' asked') p reading r' → SameAsk asked asked' y y' × (r' ≡ r)
    one_call None p reading r r' k k' =
        let act = way.drives p reading k.1.0 k'.1.0 k.1.1 k'.1.1 in
        (same_quiet asked asked' y y' k.0 k'.0, k'.1.2 ∙ ap (λ (a : Act). Ok (t.after_drive p reading a, a)) act ∙ sym k.1.2)
    one_call (Some c) p reading r r' k k' =
        let one = one_answer z t.machine busy c k.0 k'.0 y y' (λ fault e. got c fault (k.1.1 ∙ ap (λ x. Some (c, x)) e)) (λ fault e. got' c fault (k'.1.1 ∙ ap (λ x. Some (c, x)) e)) k.1.0 k'.1.0 in (
          record { asked_is = k'.1.1 ∙ ap (λ x. Some (c, x)) one.0 ∙ sym k.1.1; state_is = one.1 },
          k'.2 ∙ ap (λ x. at_rest (t.rest p) (step_after_reply t p x)) one.0 ∙ sym k.2,
        )

    one_sensed : (sensed : Result Reading SensorFault) (p : S) (r r' : Performed S Act)
        → PerformsSensed t sensed (SameFor y asked) (AsksFor y asked) p r → PerformsSensed t sensed (SameFor y' asked') (AsksFor y' asked') p r' → SameAsk asked asked' y y' × (r' ≡ r)
    one_sensed (Err fault) p r r' k k' = (same_quiet asked asked' y y' k.0 k'.0, k'.1 ∙ sym k.1)
    one_sensed (Ok reading) p r r' k k' = one_call (t.row p).call p reading r r' k k'

    one_turn : (stopped : Option CtlFault) (p : S) (s : Sense) (w w' : Turned S Act)
        → Turns t (SameFor y asked) (AsksFor y asked) stopped p s w → Turns t (SameFor y' asked') (AsksFor y' asked') stopped p s w' → SameAsk asked asked' y y' × (w' ≡ w)
    one_turn (Some fault) p s w w' k k' = (same_quiet asked asked' y y' k.0 k'.0, k'.1 ∙ sym k.1)
    one_turn None p s w w' k k' =
        let sensed = way.senses s k.1.sensed k'.1.sensed k.1.senses k'.1.senses in
        let one = one_sensed k.1.sensed p k.0 k'.0 k.1.performs (subst (λ x. PerformsSensed t x (SameFor y' asked') (AsksFor y' asked') p k'.0) sensed k'.1.performs) in
        (one.0, k'.2 ∙ ap (turned p) one.1 ∙ sym k.2)

    pub one_take : (before set set' : Side S State) → Takes t rig busy z before asked y set → Takes t rig busy z before asked' y' set' → SameAsk asked asked' y y' × (set' ≡ set)
    one_take before set set' k k' =
        let sense = way.shows before.part k.sense k'.sense k.shows k'.shows in
        let one = one_turn before.stopped before.progress k.sense k.turned k'.turned k.row (subst (λ x. Turns t (SameFor y' asked') (AsksFor y' asked') before.stopped before.progress x k'.turned) sense k'.row) in
        (one.0, k'.is ∙ (λ i. side_set t rig before (one.0.asked_is i) (one.1 i)) ∙ sym k.is)
