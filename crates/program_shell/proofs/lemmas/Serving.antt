-- What is said of a run, by how it ends.
use Rattle.std.proofs.Common.{◌≡◌, ◌≢◌, ℕ, List, [], Option, Some, None, IfSome, refl, arith}
use Rattle.std.specs.Io.KnownBytes.{Appends, Consumes}
use Rattle.text_io.specs.Input.{TakesAtMost}
use Rattle.text_io.specs.Output.{WrotePrefix}
use Rattle.program_shell.specs.Exits.{exit_status}
use Rattle.program_shell.specs.Printed.{Prints}
use Rattle.program_shell.specs.Served.{Served}
use Rattle.program_shell.specs.declared.exit.Exit.{Exit}
use Rattle.program_shell.specs.declared.exit.Exit.TheVariants.{Well, Failed, Refused}
use Rattle.program_shell.proofs.lemmas.Exits.{is_below, is_failed, is_well, never_well, not_refused}

consumes_none : (o : Option (List ℕ)) → Consumes o o []
consumes_none None = tt
consumes_none (Some xs) = refl

pub nothing_taken : (o : Option (List ℕ)) (most : ℕ) → TakesAtMost o o most
nothing_taken o most = ([], omega arith, consumes_none o)

-- what holds of any bytes holds of the known ones
pub if_known : (P : List ℕ → Type 0) → (o : Option (List ℕ)) → ((bytes : List ℕ) → P bytes) → IfSome o P
if_known P None k = tt
if_known P (Some bytes) k = k bytes

module _ (WentWell : Option (List ℕ) → Option (List ℕ) → Option (List ℕ) → Type 0) (Fails : List ℕ → Option (List ℕ) → Option (List ℕ) → Type 0) (most : ℕ) where
  module _ (e : Exit) (n : ℕ) (is : n ≡ exit_status e) where
    pub served : (input rest old new : Option (List ℕ)) → e ≢ Refused → (e ≡ Well → WentWell input old new) → (e ≡ Failed → IfSome input (λ bytes. Fails bytes old new)) → TakesAtMost input rest most
        → Served WentWell Fails most n input rest old new
    served input rest old new other well failed taken =
        record { status = is_below e n is other; well = λ k. well (is_well e n is k); failed = λ k. failed (is_failed e n is k); taken = taken }

    -- nothing was read
    pub unread : (input old new : Option (List ℕ)) → e ≡ Failed → ((bytes : List ℕ) → Fails bytes old new) → Served WentWell Fails most n input input old new
    unread input old new k fails =
        served input input old new (not_refused e k) (never_well e k) (λ same. if_known (λ bytes. Fails bytes old new) input fails) (nothing_taken input most)

  -- a text was printed
  pub printed : (n : ℕ) (text : List ℕ) (input rest old new : Option (List ℕ)) → Prints n old new text → (Appends old new text → WentWell input old new)
      → (WrotePrefix old new text → IfSome input (λ bytes. Fails bytes old new)) → TakesAtMost input rest most
      → Served WentWell Fails most n input rest old new
  printed n text input rest old new p whole part taken =
      record { status = p.status; well = λ k. whole (p.well k); failed = λ k. part (p.failed k); taken = taken }
