-- The motors' demands hold in every state of a run, also for motors that an earlier turn has left on.
use Rattle.std.proofs.Common.{List, ◌≡◌, false, None, Ok}
use Rattle.cell_rules.specs.Types.{Machine, Call, same_machine}
use Rattle.cell_rules.specs.Names.{ModelState, IsSound, next}
use Rattle.cell_control.proofs.lemmas.Facts.{Fact, AreSo, are_foreign}
use Rattle.cell_control.specs.Names.{Rig, Steps}
use Rattle.cell_unit.proofs.lemmas.Keeping.{Keeping}

-- What a machine proves of its motors' demands. They are a fact about the interlock, the machine's step and its part.
-- Inv and Told are what else it keeps of its side.
pub record Demanding {S Sense Reading Act State : Type 0} (t : Steps S Sense Reading Act) (rig : Rig State Sense Act) (Inv Told Demands : ModelState → S → State → Type 0) : Type 0 where
  -- its motors may stay on during other machines' turns
  pub foreign : (z : ModelState) (p : S) (b : State) (n : Machine) (c : Call) → same_machine n t.machine ≡ false → IsSound z → Inv z p b → Demands z p b → Demands (next z n c) p b
  -- actuators at rest demand nothing, at any next step
  pub rests : (z : ModelState) (p q : S) (b : State) → Demands z q (rig.set b (t.rest p))
  -- a drive meets the demands of its commands
  pub after_drive : (z : ModelState) (p : S) (b : State) (s : Sense) (reading : Reading) (act : Act) → (t.row p).call ≡ None → rig.shows b s → t.senses s (Ok reading) → t.drives p reading act → Inv z p b
      → Demands z (t.after_drive p reading act) (rig.set b act)
  -- its part may move
  pub moves : (z : ModelState) (p : S) (b : State) → Told z p b → Demands z p b → Demands z p (rig.moves b)

-- the demands, together with what else it keeps
abbrev pub With : {S State : Type 0} → (ModelState → S → State → Type 0) → (ModelState → S → State → Type 0) → ModelState → S → State → Type 0
With Inv Demands z p b = Inv z p b × Demands z p b

pub demands_kept : {S Sense Reading Act State : Type 0} → (t : Steps S Sense Reading Act) (rig : Rig State Sense Act) (Inv Told Demands : ModelState → S → State → Type 0)
    → Keeping t rig Inv Told → Demanding t rig Inv Told Demands → Keeping t rig (With Inv Demands) (With Told Demands)
demands_kept t rig Inv Told Demands k d =
    record {
      foreign = λ z p b n c apart sound i. (k.foreign z p b n c apart sound i.0, d.foreign z p b n c apart sound i.0 i.1);
      rests = λ z p b i. (k.rests z p b i.0, d.rests z p p b);
      after_done = λ z p b c e done sound i. (k.after_done z p b c e done sound i.0, d.rests _ p (t.row p).next _);
      after_inquiry = λ z p b c owner flag posture e shown sound i. (k.after_inquiry z p b c owner flag posture e shown sound i.0, d.rests z p (t.after_inquiry p owner flag posture) b);
      after_drive = λ z p b s reading act e shows senses drives i. (k.after_drive z p b s reading act e shows senses drives i.0, d.after_drive z p b s reading act e shows senses drives i.0);
      told = λ z p b i. (k.told z p b i.0, i.1);
      moves = λ z p b i. (k.moves z p b i.0, d.moves z p b i.0 i.1);
    }

-- The demands of most motors: while one is on, these facts about the interlock hold, by the machine's step.
abbrev pub WhileOn : {S State : Type 0} → Machine → (State → Type 0) → (S → List Fact) → ModelState → S → State → Type 0
WhileOn m on facts z p b = on b → AreSo m z (facts p)

-- no other machine changes them; it is enough that rest turns the motor off, a drive has them, a tick turns none on
pub demanding_while_on : {S Sense Reading Act State : Type 0} → (t : Steps S Sense Reading Act) (rig : Rig State Sense Act) (Inv Told : ModelState → S → State → Type 0) (on : State → Type 0) (facts : S → List Fact)
    → ((p : S) (b : State) → on (rig.set b (t.rest p)) → ⊥)
    → ((z : ModelState) (p : S) (b : State) (s : Sense) (reading : Reading) (act : Act) → (t.row p).call ≡ None → rig.shows b s → t.senses s (Ok reading) → t.drives p reading act → Inv z p b
    → on (rig.set b act) → AreSo t.machine z (facts (t.after_drive p reading act)))
    → ((b : State) → on (rig.moves b) → on b)
    → Demanding t rig Inv Told (WhileOn t.machine on facts)
demanding_while_on t rig Inv Told on facts off drives ticks =
    record {
      foreign = λ z p b n c apart sound i k. λ is_on. are_foreign t.machine n c z (facts p) apart sound (k is_on);
      rests = λ z p q b. λ is_on. absurd (off p b is_on);
      after_drive = drives;
      moves = λ z p b told k. λ is_on. k (ticks b is_on);
    }
