-- The laws of `turns_tell`, and the examples of `turn_lines_are_met`.
use Rattle.std.proofs.Common.{◌≡◌, ℕ, suc, true, false, ◌||◌, List, [], ◌∷◌, ◌++◌, codes, flat_map, length, nat_eq, nat_lt, ap, refl, arith, append_assoc, append-nil}
use Rattle.std.proofs.Common.{if◌then◌else◌}
use Rattle.std.proofs.lemmas.Bool.{eqb-true, false_from_ne_true, lt-ltb}
use Rattle.std.specs.Fmt.{digits}
use Rattle.plan_controller.specs.declared.step.Step.{Step}
use Rattle.plan_text.specs.Names.{Text}
use Rattle.plan_text.specs.Named.{Named}
use Rattle.plan_header.specs.Turns as turns
use Rattle.plan_header.specs.TurnExamples.{TurnLines}
use Rattle.plan_header.specs.TurnLaws.{TurnsTell}

pub turn-lines : TurnLines
unfolding digits
turn-lines = record {
  lists = refl;
  no_motors = refl;
  motors = refl;
  sensors = refl;
  programs = refl;
  rows = refl;
  faults = refl;
  faultless = refl;
  no_programs = refl;
  one_program = refl;
  wait = refl;
}

-- a machine with a line has a program
some : (n : Named) (sensors : List (List Text)) (m : ℕ) (step : Step) (later : List Step)
    → turns.program_lines n sensors m (step ∷ later) ≡ turns.some_lines n sensors m (step ∷ later)
some n sensors m step later =
    let no : nat_eq (length (step ∷ later)) 0 ≡ false =
    false_from_ne_true (nat_eq (length (step ∷ later)) 0)
    (λ is. let none : length (step ∷ later) ≡ 0 = eqb-true (length (step ∷ later)) 0 is in absurd (omega (arith, none))) in
    ap (λ none. if none then [] else turns.some_lines n sensors m (step ∷ later)) no

-- a program with a line has some
a_line : (n : ℕ) (later : List (List Step)) → (nat_lt 0 (suc n) || turns.have_lines later) ≡ true
a_line n later = ap (λ b. b || turns.have_lines later) (lt-ltb 0 (suc n) (omega arith))

pub turns-tell : TurnsTell
turns-tell = record {
  lists = record { kinds = λ n motors. refl };
  words = record {
    zone = λ n k. refl;
    place = λ n k. refl;
    pose = λ n k. refl;
    sensor = λ n sensors machine k. refl;
    named = λ n sensors machine k. refl;
    sensors = λ n sensors. refl;
    motors = λ motors. refl;
  };
  lines = λ n sensors m. record {
    claim = λ z f. refl;
    give = λ z f. refl;
    yield = λ z f. refl;
    take = λ z f. refl;
    release = λ z f. refl;
    pose = λ p f. refl;
    inquire = λ z f. refl;
    stop = λ f. refl;
    resume = λ f. refl;
    advance = λ p f. refl;
    await = λ z. refl;
    run = λ motors until. refl;
  };
  faults = record {
    none = refl;
    one = λ fault. append-nil (turns.fault_bit fault);
    later = λ first next later.
        ap (λ t. turns.fault_bit first ++ t)
        (append_assoc (codes " | ") (turns.fault_bit next) (flat_map (λ fault. codes " | " ++ turns.fault_bit fault) later));
    all = λ f. refl;
  };
  programs = λ n sensors. record {
    none = λ m. refl;
    next = λ m step later. refl;
    no_lines = λ m. refl;
    lines = λ m step later. some n sensors m step later;
    some = λ programs have. ap (λ b. if b then turns.some_programs n sensors programs else []) have;
    without = λ programs have. ap (λ b. if b then turns.some_programs n sensors programs else []) have;
  };
  there = record {
    nobody = refl;
    not_first = λ later. refl;
    first = λ step steps later. a_line (length steps) later;
  };
  whole = λ n motors sensors programs. refl;
}
