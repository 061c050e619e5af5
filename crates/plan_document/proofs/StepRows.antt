-- What literal lines of programs say.
use Rattle.std.proofs.Common.{◌≡◌, ◌∙◌, ◌-◌, ◌<◌, ◌≤◌, ◌⊎◌, ◌++◌, ◌∷◌, [], ℕ, zero, suc, Bool, true, false, nat_eq, List, codes, length, drop, take, filter, slice_get, slice_index, refl, sym, ap, subst, arith, append_assoc, length-append, Option, Some, None, is_some, inl, inr}
use Rattle.std.proofs.Math.Seq.{take-append_seam}
use Rattle.std.specs.Bool.{then_some}
use Rattle.std.specs.List.{list_all, list_any, range_with_len}
use Rattle.std.specs.Option.{option_and_then, option_eq}
use Rattle.plan_types.specs.declared.call.Call.TheVariants.{Give as GiveCall}
use Rattle.plan_motors.specs.declared.motor.Motor.{Motor}
use Rattle.plan_drives.specs.Program.{has_bit}
use Rattle.plan_controller.specs.declared.faults.Faults.{Faults}
use Rattle.plan_controller.specs.declared.step.Step.{Step}
use Rattle.plan_controller.specs.declared.step.Step.TheVariants.{Do, Await, Run}
use Rattle.plan_controller.specs.Faults.{no_faults}
use Rattle.plan_text.specs.Calls.{verb_word}
use Rattle.plan_text.specs.Named.{Named}
use Rattle.plan_text.specs.Names.{Text, number_in}
use Rattle.plan_text.specs.declared.calls.Verb.{Verb}
use Rattle.plan_text.specs.declared.calls.Verb.TheVariants.{Claim, Give, Yield, Take, Release, Inquire, Pose, Advance}
use Rattle.plan_document.specs.declared.motors.NamedMotors.{NamedMotors}
use Rattle.plan_document.specs.StepExamples.{AreOfLift, IsRead, StepsAreMet, StepsAreOfLines, StepsAreRead, StepsAreTold, driven_by}
use Rattle.plan_document.specs.Saying.{AreMotorsIn, Asks, Awaits, HasFaults, IsCallOf, Runs, is_driven_by, own_motor, words_in}
use Rattle.plan_document.specs.WordExamples.{parked}
use Rattle.plan_document.proofs.PlanRows.{asked, impossible}
use Rattle.plan_document.proofs.Standing.{name_of, same_number}

abbrev sensors : List Text
sensors = codes "top" ∷ codes "until" ∷ []

abbrev has_byte : ℕ → ℕ → Text → Bool
has_byte i byte text = nat_eq (slice_index text i) byte

-- ---- which kind a line is of

-- no verb begins as `await` does, and the second letter of none is that of `run`
no_await : (v : Verb) (name rest : Text) → codes "await " ++ rest ≡ verb_word v ++ codes " " ++ name → ⊥
no_await Claim name rest e = impossible (sym (ap (has_byte 0 97) e))
no_await Give name rest e = impossible (sym (ap (has_byte 0 97) e))
no_await Yield name rest e = impossible (sym (ap (has_byte 0 97) e))
no_await Take name rest e = impossible (sym (ap (has_byte 0 97) e))
no_await Release name rest e = impossible (sym (ap (has_byte 0 97) e))
no_await Inquire name rest e = impossible (sym (ap (has_byte 0 97) e))
no_await Pose name rest e = impossible (sym (ap (has_byte 0 97) e))
no_await Advance name rest e = impossible (sym (ap (has_byte 1 119) e))

no_run : (v : Verb) (name rest : Text) → codes "run " ++ rest ≡ verb_word v ++ codes " " ++ name → ⊥
no_run Claim name rest e = impossible (sym (ap (has_byte 1 117) e))
no_run Give name rest e = impossible (sym (ap (has_byte 1 117) e))
no_run Yield name rest e = impossible (sym (ap (has_byte 1 117) e))
no_run Take name rest e = impossible (sym (ap (has_byte 1 117) e))
no_run Release name rest e = impossible (sym (ap (has_byte 1 117) e))
no_run Inquire name rest e = impossible (sym (ap (has_byte 1 117) e))
no_run Pose name rest e = impossible (sym (ap (has_byte 1 117) e))
no_run Advance name rest e = impossible (sym (ap (has_byte 1 117) e))

-- what a line asks begins with a verb, also where faults come after it
as_asked : (line ask name : Text) (v : Verb) (faults : Faults) → ask ≡ verb_word v ++ codes " " ++ name → HasFaults line ask faults → (rest : Text) × (line ≡ verb_word v ++ codes " " ++ rest)
as_asked line ask name v faults is (inl one) = (name, one.0 ∙ is)
as_asked line ask name v faults is (inr one) = (
  name ++ codes " or stop on " ++ one.0,
  one.1
      ∙ ap (λ t. t ++ codes " or stop on " ++ one.0) is
      ∙ ap (λ t. t ++ one.0) (append_assoc (verb_word v ++ codes " ") name (codes " or stop on "))
      ∙ append_assoc (verb_word v ++ codes " ") (name ++ codes " or stop on ") one.0,
)

begun : (m : NamedMotors) (machine : ℕ) (line : Text) (s : Step) → Asks parked machine line s → (v : Verb) × (rest : Text) × (line ≡ verb_word v ++ codes " " ++ rest)
begun m machine line s one =
    let at = as_asked line one.ask one.call_is.name one.call_is.verb one.faults one.call_is.line_is one.faults_are in
    (one.call_is.verb, at.0, at.1)

a_wait : (m : NamedMotors) (machine : ℕ) (rest : Text) (s : Step) → IsRead m machine (codes "await " ++ rest) s → Awaits parked sensors machine rest s
a_wait m machine rest s (inl one) = let b = begun m machine _ s one in absurd (no_await b.0 b.1 rest b.2)
a_wait m machine rest s (inr (inl one)) = subst (λ name. Awaits parked sensors machine name s) (sym (ap (drop 6) one.1)) one.2
a_wait m machine rest s (inr (inr one)) = absurd (impossible (sym (ap (has_byte 0 97) one.1)))

a_run : (m : NamedMotors) (machine : ℕ) (rest : Text) (s : Step) → IsRead m machine (codes "run " ++ rest) s → Runs m sensors machine rest s
a_run m machine rest s (inl one) = let b = begun m machine _ s one in absurd (no_run b.0 b.1 rest b.2)
a_run m machine rest s (inr (inl one)) = absurd (impossible (sym (ap (has_byte 0 114) one.1)))
a_run m machine rest s (inr (inr one)) = subst (λ words. Runs m sensors machine words s) (sym (ap (drop 4) one.1)) one.2

a_call : (m : NamedMotors) (s : Step) → IsRead m 2 (codes "give above") s → s ≡ Do (GiveCall 1) no_faults
a_call m s (inl one) = by one.faults_are
  where
    by : HasFaults (codes "give above") one.ask one.faults → s ≡ Do (GiveCall 1) no_faults
    by (inl bare) =
        let h : Some (GiveCall 1) ≡ Some one.call = asked 2 (codes "above") one.call (subst (λ t. IsCallOf parked 2 t one.call) (sym bare.0) one.call_is) in
        let same : one.call ≡ GiveCall 1 = cc in
        one.step_is ∙ ap (λ c. Do c one.faults) same ∙ ap (Do (GiveCall 1)) bare.1
    by (inr more) =
        absurd (omega (arith, ap length more.1, length-append (one.ask ++ codes " or stop on ") more.0, length-append one.ask (codes " or stop on ")))
a_call m s (inr (inl one)) = absurd (impossible (sym (ap (has_byte 0 103) one.1)))
a_call m s (inr (inr one)) = absurd (impossible (sym (ap (has_byte 0 103) one.1)))

-- ---- waits

waits_for_zone : (s : Step) → Awaits parked sensors 2 (codes "above") s → s ≡ Await 1
waits_for_zone (Do c faults) is = absurd is
waits_for_zone (Await z) is = let h : Some 1 ≡ Some z = is.0 in ap (λ k. Await k) (let same : z ≡ 1 = cc in same)
waits_for_zone (Run motors until) is = let h : None ≡ Some until = is.1 in absurd (cc)

strangers : (s : Step) → Awaits parked sensors 1 (codes "above") s → ⊥
strangers (Do c faults) is = is
strangers (Await z) is =
    let h : Some 1 ≡ Some z = is.0 in
    let same : z ≡ 1 = cc in
    let no : false ≡ true = rw same at is.1 in
    impossible no
strangers (Run motors until) is = let h : None ≡ Some until = is.1 in (cc)

waits_for_sensor : (s : Step) → Awaits parked sensors 2 (codes "until") s → s ≡ Run 0 1
waits_for_sensor (Do c faults) is = absurd is
waits_for_sensor (Await z) is = let h : None ≡ Some z = is.0 in absurd (cc)
waits_for_sensor (Run motors until) is =
    let h : Some 1 ≡ Some until = is.1 in
    let same : until ≡ 1 = cc in
    let none = is.0 in
    cc

waits_for_nothing : (name : Text) (s : Step) → number_in parked.zones name ≡ None → number_in sensors name ≡ None → Awaits parked sensors 2 name s → ⊥
waits_for_nothing name (Do c faults) no_zone no_sensor is = is
waits_for_nothing name (Await z) no_zone no_sensor is = let h = is.0 in (cc)
waits_for_nothing name (Run motors until) no_zone no_sensor is = let h = is.1 in (cc)

-- ---- runs

one_of_two : (name : Text) (until : ℕ) → number_in sensors name ≡ Some until → ((until ≡ 0) × (name ≡ codes "top")) ⊎ ((until ≡ 1) × (name ≡ codes "until"))
one_of_two name zero e = inl (refl, sym (name_of sensors name 0 e))
one_of_two name (suc zero) e = inr (refl, sym (name_of sensors name 1 e))
one_of_two name (suc (suc k)) e =
    let none : name ≡ [] = sym (name_of sensors name (suc (suc k)) e) in
    let h : None ≡ Some (suc (suc k)) = sym (ap (number_in sensors) none) ∙ e in
    absurd (cc)

before_tail : (words names tail : Text) → words ≡ names ++ tail → names ≡ take (length words - length tail) words
before_tail words names tail e =
    let count : length words - length tail ≡ length names = omega (arith, ap length e, length-append names tail) in
    sym (take-append_seam names tail) ∙ ap (take (length names)) (sym e) ∙ ap (λ k. take k words) (sym count)

-- what a line runs and until when, if it ends with one of the two sensors
ending : (m : NamedMotors) (machine : ℕ) (words : Text) (s : Step) (runs : Runs m sensors machine words s) (name : Text) (until : ℕ) → runs.until ≡ until → runs.sensor ≡ name
    → (words ≡ take (length words - length (codes " until " ++ name)) words ++ (codes " until " ++ name))
    × AreMotorsIn m machine (take (length words - length (codes " until " ++ name)) words) runs.motors
    × (s ≡ Run runs.motors until)
ending m machine words s runs name until same sensor =
    let e : words ≡ runs.names ++ (codes " until " ++ name)
    = runs.words_are ∙ ap (λ t. runs.names ++ codes " until " ++ t) sensor ∙ append_assoc runs.names (codes " until ") name in
    let names = before_tail words runs.names (codes " until " ++ name) e in (
      e ∙ ap (λ t. t ++ (codes " until " ++ name)) names,
      subst (λ t. AreMotorsIn m machine t runs.motors) names runs.motors_are,
      runs.step_is ∙ ap (Run runs.motors) same,
    )

-- by these motors
abbrev lift_motors : List Motor
lift_motors = driven_by 0 ∷ driven_by 1 ∷ driven_by 0 ∷ driven_by 0 ∷ []

abbrev own_of_lift : ℕ → Text → Option ℕ
own_of_lift machine name =
    option_and_then (λ motor. then_some (is_driven_by machine (slice_get lift_motors motor)) motor)
    (number_in (codes "hoist" ∷ codes "gate" ∷ codes "fan" ∷ codes "lamp" ∷ []) name)

own_is : (m : NamedMotors) → AreOfLift m → (machine : ℕ) (name : Text) → own_motor m machine name ≡ own_of_lift machine name
own_is m is machine name =
    ap (λ (ms : List Motor). option_and_then (λ motor. then_some (is_driven_by machine (slice_get ms motor)) motor) (number_in m.names name)) is.motors
    ∙ ap (λ names. option_and_then (λ motor. then_some (is_driven_by machine (slice_get lift_motors motor)) motor) (number_in names name)) is.names

bits_are : (m : NamedMotors) (is : AreOfLift m) (machine : ℕ) (text : Text) (motors : ℕ) → AreMotorsIn m machine text motors
    → filter (has_bit motors) (range_with_len 0 64) ≡ filter (λ motor. list_any (λ name. option_eq nat_eq (own_of_lift machine name) (Some motor)) (words_in text)) (range_with_len 0 64)
bits_are m is machine text motors are =
    ap (λ test. filter test (range_with_len 0 64))
    (λ k motor. (are.bits motor ∙ ap (λ (own : Text → Option ℕ). list_any (λ name. option_eq nat_eq (own name) (Some motor)) (words_in text)) (λ j name. own_is m is machine name j)) k)

known_are : (m : NamedMotors) (is : AreOfLift m) (machine : ℕ) (text : Text) (motors : ℕ) → AreMotorsIn m machine text motors
    → list_all (λ name. is_some (own_of_lift machine name)) (words_in text) ≡ true
known_are m is machine text motors are =
    sym (ap (λ (own : Text → Option ℕ). list_all (λ name. is_some (own name)) (words_in text)) (λ j name. own_is m is machine name j)) ∙ are.known

gate_runs : (m : NamedMotors) (is : AreOfLift m) (s : Step) → Runs m sensors 1 (codes "gate until until") s
    → (motors : ℕ) × (s ≡ Run motors 1) × (filter (has_bit motors) (range_with_len 0 64) ≡ 1 ∷ [])
gate_runs m is s runs = elim (one_of_two runs.sensor runs.until runs.until_is) [
  | inl top ↦ absurd (impossible (sym (ap (has_byte 15 108) (ending m 1 _ s runs _ 0 top.0 top.1).0)))
  | inr low ↦ let end = ending m 1 _ s runs _ 1 low.0 low.1 in (runs.motors, end.2, bits_are m is 1 (codes "gate") runs.motors end.1)
]

both_run : (m : NamedMotors) (is : AreOfLift m) (s : Step) → Runs m sensors 0 (codes "fan hoist until top") s
    → (motors : ℕ) × (s ≡ Run motors 0) × (filter (has_bit motors) (range_with_len 0 64) ≡ 0 ∷ 2 ∷ [])
both_run m is s runs = elim (one_of_two runs.sensor runs.until runs.until_is) [
  | inl top ↦ let end = ending m 0 _ s runs _ 0 top.0 top.1 in (runs.motors, end.2, bits_are m is 0 (codes "fan hoist") runs.motors end.1)
  | inr low ↦ absurd (impossible (sym (ap (has_byte 18 112) (ending m 0 _ s runs _ 1 low.0 low.1).0)))
]

three_run : (m : NamedMotors) (is : AreOfLift m) (s : Step) → Runs m sensors 0 (codes "lamp fan hoist until top") s
    → (motors : ℕ) × (s ≡ Run motors 0) × (filter (has_bit motors) (range_with_len 0 64) ≡ 0 ∷ 2 ∷ 3 ∷ [])
three_run m is s runs = elim (one_of_two runs.sensor runs.until runs.until_is) [
  | inl top ↦ let end = ending m 0 _ s runs _ 0 top.0 top.1 in (runs.motors, end.2, bits_are m is 0 (codes "lamp fan hoist") runs.motors end.1)
  | inr low ↦ absurd (impossible (sym (ap (has_byte 23 112) (ending m 0 _ s runs _ 1 low.0 low.1).0)))
]

others_motor : (m : NamedMotors) (is : AreOfLift m) (s : Step) → Runs m sensors 0 (codes "gate until top") s → ⊥
others_motor m is s runs = elim (one_of_two runs.sensor runs.until runs.until_is) [
  | inl top ↦ impossible (known_are m is 0 (codes "gate") runs.motors (ending m 0 _ s runs _ 0 top.0 top.1).1)
  | inr low ↦ impossible (sym (ap (has_byte 13 112) (ending m 0 _ s runs _ 1 low.0 low.1).0))
]

no_sensor : (m : NamedMotors) (s : Step) → Runs m sensors 0 (codes "fan until low") s → ⊥
no_sensor m s runs = elim (one_of_two runs.sensor runs.until runs.until_is) [
  | inl top ↦ impossible (sym (ap (has_byte 12 119) (ending m 0 _ s runs _ 0 top.0 top.1).0))
  | inr low ↦ impossible (sym (ap (has_byte 12 119) (ending m 0 _ s runs _ 1 low.0 low.1).0))
]

-- what runs has a motor, `until` and a sensor, so ten bytes at least
too_short : (m : NamedMotors) (words : Text) (s : Step) → Runs m sensors 0 words s → length words < 10 → ⊥
too_short m words s runs short = elim (one_of_two runs.sensor runs.until runs.until_is) [
  | inl top ↦ long 3 (ap length top.1) (omega arith)
  | inr low ↦ long 5 (ap length low.1) (omega arith)
]
  where
    long : (n : ℕ) → length runs.sensor ≡ n → 3 ≤ n → ⊥
    long n count most =
        omega (arith, ap length runs.words_are, length-append (runs.names ++ codes " until ") runs.sensor, length-append runs.names (codes " until "), count, short, most)

read_rows : (m : NamedMotors) (is : AreOfLift m) (s : Step) → StepsAreRead m is s
read_rows m is s = record {
  call = a_call m s;
  zone = λ read. waits_for_zone s (a_wait m 2 (codes "above") s read);
  strangers = λ read. strangers s (a_wait m 1 (codes "above") s read);
  sensor = λ read. waits_for_sensor s (a_wait m 2 (codes "until") s read);
  nothing = λ read. waits_for_nothing (codes "attic") s refl refl (a_wait m 2 (codes "attic") s read);
  waits_on_faults = λ read. waits_for_nothing (codes "above or stop on held") s refl refl (a_wait m 2 (codes "above or stop on held") s read);
  blanks = λ read. waits_for_nothing (codes " top") s refl refl (a_wait m 2 (codes " top") s read);
  runs = λ read. gate_runs m is s (a_run m 1 (codes "gate until until") s read);
  both = λ read. both_run m is s (a_run m 0 (codes "fan hoist until top") s read);
  three = λ read. three_run m is s (a_run m 0 (codes "lamp fan hoist until top") s read);
  others = λ read. others_motor m is s (a_run m 0 (codes "gate until top") s read);
  no_sensor = λ read. no_sensor m s (a_run m 0 (codes "fan until low") s read);
  no_motor = λ read. too_short m (codes "until top") s (a_run m 0 (codes "until top") s read) (omega arith);
  no_until = λ read. too_short m (codes "fan top") s (a_run m 0 (codes "fan top") s read) (omega arith);
}

lined_rows : (n : Named) (m : NamedMotors) (names : List Text) (machine : ℕ) → StepsAreOfLines n m names machine
lined_rows n m names machine = record {
  line_lost = λ line is. is;
  step_added = λ step is. is;
  in_order = λ a b x y is. (is.0, is.1.0);
}

told_rows : (zones : List Text) → StepsAreTold zones
told_rows zones = record {
  no_zone = λ is. impossible is.apart;
  twice = λ is. let e = same_number 0 1 (is.distinct 1 (omega arith)) in absurd (omega (arith, e));
  no_name = λ is. impossible is.spelled;
  few = λ is. absurd (omega (arith, is.few));
  asked = refl;
}

pub step_rows : StepsAreMet
step_rows = record { read = read_rows; steps = lined_rows; told = told_rows }
