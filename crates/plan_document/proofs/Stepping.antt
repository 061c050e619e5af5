-- Steps of programs, one line after another.
use Rattle.std.proofs.Common.{◌≡◌, ◌+◌, ◌<◌, ◌++◌, ◌∷◌, [], ℕ, List, length, map, take, get_or, subst, string_bytes, Option, Some, None, Result, Ok, Err, IfOk, IfSome}
use Rattle.std.specs.List.{AllZip}
use Rattle.std.specs.Prelude.{String}
use Rattle.std.specs.declared.alloc.Global.{Global}
use Rattle.plan_controller.specs.declared.step.Step.{Step}
use Rattle.plan_text.specs.Named.{Named}
use Rattle.plan_text.specs.Names.{Text}
use Rattle.plan_document.specs.declared.document.MachineRow.{MachineRow}
use Rattle.plan_document.specs.declared.motors.NamedMotors.{NamedMotors}
use Rattle.plan_document.specs.Names.{numbered, sensors_in}
use Rattle.plan_document.specs.Saying.{AreSensors, AreStepsOf, IsProgramOf, IsStepOf}
use Rattle.plan_document.proofs.Growing.{mapped_more, numbered_zip_more}

-- by motors that may be given
module _ {B : Type 0} (o : Option B) (of : B → NamedMotors) where
  pub steps_more : (n : Named) (sensors : List Text) (machine number : ℕ) (lines : List (String Global)) (i : ℕ) (line : String Global) (text : Text) (steps after : List Step) (step : Step) → number ≡ machine → text ≡ string_bytes line → i < length lines → line ≡ get_or lines i line
      → IfSome o (λ known. AreStepsOf n (of known) sensors machine (take i lines) steps) → IfSome o (λ known. IsStepOf n (of known) sensors number text step) → after ≡ steps ++ step ∷ []
      → IfSome o (λ known. AreStepsOf n (of known) sensors machine (take (i + 1) lines) after)
  steps_more n sensors machine number lines i line text steps after step same read h is all one pushed = by o all one
    where
      by : (p : Option B) → IfSome p (λ known. AreStepsOf n (of known) sensors machine (take i lines) steps) → IfSome p (λ known. IsStepOf n (of known) sensors number text step)
          → IfSome p (λ known. AreStepsOf n (of known) sensors machine (take (i + 1) lines) after)
      by None a b = tt
      by (Some known) a b =
          mapped_more string_bytes (IsStepOf n (of known) sensors machine) lines i line steps after step h is a
          (subst (λ t. IsStepOf n (of known) sensors machine t step) read (subst (λ k. IsStepOf n (of known) sensors k text step) same b))
          pushed

  pub programs_more : {X : Type 0} (items : X → List Step) (n : Named) (rows : List MachineRow) (i : ℕ) (row : MachineRow) (lists after : List X) (one : X) → i < length rows → row ≡ get_or rows i row
      → IfSome o (λ known. AllZip (IsProgramOf n (of known)) (numbered (take i rows)) (map items lists)) → IfSome o (λ known. IsProgramOf n (of known) (i, row) (items one)) → after ≡ lists ++ one ∷ []
      → IfSome o (λ known. AllZip (IsProgramOf n (of known)) (numbered (take (i + 1) rows)) (map items after))
  programs_more items n rows i row lists after one h is all read pushed = by o all read
    where
      by : (p : Option B) → IfSome p (λ known. AllZip (IsProgramOf n (of known)) (numbered (take i rows)) (map items lists)) → IfSome p (λ known. IsProgramOf n (of known) (i, row) (items one))
          → IfSome p (λ known. AllZip (IsProgramOf n (of known)) (numbered (take (i + 1) rows)) (map items after))
      by None a b = tt
      by (Some known) a b = numbered_zip_more (IsProgramOf n (of known)) items rows i row lists after one h is a b pushed

  -- sensors and steps are a program
  pub program_made : {X E : Type 0} (items : X → List Step) (n : Named) (machine : ℕ) (row : MachineRow) (zones sensors : List Text) (lines : List (String Global)) (r : Result X E) → zones ≡ n.zones → sensors ≡ sensors_in row → AreSensors zones sensors
      → lines ≡ row.program.items → IfOk r (λ steps. IfSome o (λ known. AreStepsOf n (of known) sensors machine lines (items steps)))
      → IfOk r (λ steps. IfSome o (λ known. IsProgramOf n (of known) (machine, row) (items steps)))
  program_made items n machine row zones sensors lines (Err e) its same are read all = tt
  program_made items n machine row zones sensors lines (Ok steps) its same are read all = by o all
    where
      by : (p : Option B) → IfSome p (λ known. AreStepsOf n (of known) sensors machine lines (items steps)) → IfSome p (λ known. IsProgramOf n (of known) (machine, row) (items steps))
      by None a = tt
      by (Some known) a = record {
        sensors = subst (λ zs. AreSensors zs (sensors_in row)) its (subst (AreSensors zones) same are);
        steps_are = subst (λ texts. AreStepsOf n (of known) (sensors_in row) machine texts (items steps)) read (subst (λ ns. AreStepsOf n (of known) ns machine lines (items steps)) same a);
      }
