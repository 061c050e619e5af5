-- A program that goes on where it stood meets what its motors demand.
use Rattle.cell_resume.proofs.Names.{◌≡◌, Bool, true, false, if◌then◌else◌, List, None, refl, Event, ModelState, IsSound, IsLegal, Steps, IsReached, resumed_steps, IsResumable}
use Rattle.cell_control.proofs.lemmas.StepLemmas.{Knowing, reached_knows}

-- what steps know doesn't depend on where a program begins
again : {S Sense Reading Act : Type 0} → (t : Steps S Sense Reading Act) (in_step : S → ModelState → Bool) (stood : S) (Knows : S → ModelState → Type 0) → Knowing t Knows → Knowing (resumed_steps t in_step stood) Knows
again t in_step stood Knows k = record {
  foreign = k.foreign;
  after_drive = k.after_drive;
  after_done = k.after_done;
  after_inquiry = k.after_inquiry;
  same_for = k.same_for;
}

begins_by : {S : Type 0} → (b : Bool) (stood first : S) (z : ModelState) (Knows : S → ModelState → Type 0) → (b ≡ true → Knows stood z) → Knows first z → Knows (if b then stood else first) z
begins_by true stood first z Knows in_step begins = in_step refl
begins_by false stood first z Knows in_step begins = begins

pub demands_met : {S Sense Reading Act : Type 0} → (t : Steps S Sense Reading Act) (in_step : S → ModelState → Bool) (Knows : S → ModelState → Type 0) → IsResumable t in_step Knows
    → (stood p : S) (reading : Reading) (act : Act) (opening : ModelState) (seen : List Event) → (t.row p).call ≡ None → t.drives p reading act → IsSound opening → IsLegal opening seen
    → IsReached (resumed_steps t in_step stood) opening seen p → t.motor_demands p act opening seen
demands_met t in_step Knows k stood p reading act opening seen asks drives sound legal r =
    k.demands p reading act opening seen asks drives sound legal
    (reached_knows (resumed_steps t in_step stood) Knows (again t in_step stood Knows k.knowing) (λ z. begins_by (in_step stood z) stood (t.start z) z Knows (k.enters stood z) (k.begins z)) opening seen p sound legal r)
