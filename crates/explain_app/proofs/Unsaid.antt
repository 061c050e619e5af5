-- What is left unsaid after a fault.
use Rattle.std.proofs.Common.{◌≢◌, ℕ, List, Option, Some, None, Result, Ok, Err, IfErr, refl}
use Rattle.std.specs.Io.KnownBytes.{Keeps}
use Rattle.explain_app.specs.Explained.{LeavesUnsaid}
use Rattle.cell_replay.specs.declared.fault.ReplayFault.{ReplayFault}
use Rattle.explain_app.specs.declared.verdict.Verdict.{Verdict}
use Rattle.cell_replay.specs.declared.fault.ReplayFault.TheVariants.{Read, Write, Memory}

keeps_same : (known : Option (List ℕ)) → Keeps known known
keeps_same None = tt
keeps_same (Some bytes) = refl

-- where no write failed, nothing was written
pub left_unsaid : (IsText : List ℕ → Type 0) (fault : ReplayFault) (known : Option (List ℕ)) → fault ≢ Write → LeavesUnsaid IsText fault known known
left_unsaid IsText Read known other = keeps_same known
left_unsaid IsText Memory known other = keeps_same known
left_unsaid IsText Write known other = absurd (other refl)

-- what is said of one kind of text holds of another that has all of its texts
unsaid_by : (IsText IsOther : List ℕ → Type 0) → ((text : List ℕ) → IsText text → IsOther text) → (fault : ReplayFault) (old new : Option (List ℕ)) → LeavesUnsaid IsText fault old new → LeavesUnsaid IsOther fault old new
unsaid_by IsText IsOther f Read old new k = k
unsaid_by IsText IsOther f Memory old new k = k
unsaid_by IsText IsOther f Write old new k = (k.0, (f k.0 k.1.0, k.1.1))

pub unsaid_after : (IsText IsOther : List ℕ → Type 0) → ((text : List ℕ) → IsText text → IsOther text) → (r : Result Verdict ReplayFault) (old new : Option (List ℕ))
    → IfErr r (λ fault. LeavesUnsaid IsText fault old new) → IfErr r (λ fault. LeavesUnsaid IsOther fault old new)
unsaid_after IsText IsOther f (Ok verdict) old new k = tt
unsaid_after IsText IsOther f (Err fault) old new k = unsaid_by IsText IsOther f fault old new k
