-- Steps of a program of a plant: on which word each stands, and what each word has of the program.
use Rattle.std.specs.Prelude.{ℕ, nat_eq, nat_lt, if◌then◌else◌, List, length, take, Option, Some, None}
use Rattle.std.specs.List.{filter_map}
use Rattle.plan_controller.specs.declared.step.Step.{Step}
use Rattle.plan_controller.specs.declared.step.Step.TheVariants as step
use Rattle.plan_workers.specs.declared.routed_step.RoutedStep.{RoutedStep}
use Rattle.plan_workers.specs.declared.routed_step.RoutedStep.TheVariants.{Do, Await, Run}

-- the word of a step, which a run has none of
abbrev pub word_of : RoutedStep → Option ℕ
word_of (Do w call faults) = Some w
word_of (Await w z) = Some w
word_of (Run motors until) = None

-- the step, by the numbers of its word
abbrev pub step_of : RoutedStep → Step
step_of (Do w call faults) = step.Do call faults
step_of (Await w z) = step.Await z
step_of (Run motors until) = step.Run motors until

-- the step on a word, if it stands there: a run stands on every word, and each other step on its own
abbrev pub step_on : ℕ → RoutedStep → Option Step
step_on w (Do k call faults) = if nat_eq k w then Some (step.Do call faults) else None
step_on w (Await k z) = if nat_eq k w then Some (step.Await z) else None
step_on w (Run motors until) = Some (step.Run motors until)

-- the program of a word: the steps that stand there, in their order
abbrev pub steps_on : ℕ → List RoutedStep → List Step
steps_on w steps = filter_map (step_on w) steps

-- the place in a word's program while a machine is at a place in the whole one: that of the next step that stands
-- there. After the word's last step that is its first one
abbrev pub place_on : ℕ → List RoutedStep → ℕ → ℕ
place_on w steps place =
    let before = length (steps_on w (take place steps)) in
    if nat_lt before (length (steps_on w steps)) then before else 0
