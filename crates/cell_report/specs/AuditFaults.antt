-- Why an audit refuses journals: the least stamp of each refusal, over all entries.
use Rattle.std.specs.Prelude.{◌≡◌, ℕ, ◌<◌, ◌≤◌, nat_eq, max, count_by, List, [], ◌∷◌, ◌++◌, map, Option, Some, None}
use Rattle.std.specs.Prelude.{IsTrue, ◌⊎◌, ⊤}
use Rattle.cell_rules.specs.Types.{Machine, Entry}
use Rattle.cell_rules.specs.Names.{ModelState, reply, next, after, EndsIn}
use Rattle.cell_report.specs.declared.ordered.Noted.{Noted}
use Rattle.cell_report.specs.declared.audit_faults.AuditFault.{AuditFault}
use Rattle.cell_report.specs.declared.audit_faults.AuditFault.TheVariants.{Twice, Gap, Differs, End, Memory}
use Rattle.cell_report.specs.Order.{all_noted, InOrder, event_of, stamp_of, is_done_noted, done_at, greatest}

-- how often a stamp occurs in a list of stamps
abbrev pub times : List ℕ → ℕ → ℕ
times stamps s = count_by (λ r. nat_eq r s) stamps

-- the least stamp that is counted twice
pub record IsTwice (count : ℕ → ℕ) (stamp : ℕ) : Type 0 where
  pub twice : 2 ≤ count stamp
  pub least : (r : ℕ) → r < stamp → count r ≤ 1

abbrev pub HasNoTwice : (ℕ → ℕ) → Type 0
HasNoTwice count = (r : ℕ) → count r ≤ 1

-- the least stamp after the start's, up to the top, that isn't counted
pub record IsGap (start top : ℕ) (count : ℕ → ℕ) (stamp : ℕ) : Type 0 where
  pub later : start < stamp
  pub within : stamp ≤ top
  pub missing : count stamp ≡ 0
  pub least : (r : ℕ) → start < r → r < stamp → 0 < count r

abbrev pub HasNoGap : ℕ → ℕ → (ℕ → ℕ) → Type 0
HasNoGap start top count = (r : ℕ) → start < r → r ≤ top → 0 < count r

-- the stamp of the end, if one is given
abbrev pub end_stamp : Option ModelState → ℕ
end_stamp None = 0
end_stamp (Some end) = end.stamp

-- the top: the greatest of the stamps of the start, of the given end, and of all entries
abbrev pub top_of : ModelState → Option ModelState → List Noted → ℕ
top_of start end all = greatest (max start.stamp (end_stamp end)) all

-- all entries in the order, if each stamp after the start's, up to the top, belongs to exactly one Done entry
pub record HasStamps (start top : ℕ) (all ordered : List Noted) : Type 0 where
  pub order : InOrder all ordered
  pub no_twice : HasNoTwice (done_at all)
  pub no_gap : HasNoGap start top (done_at all)

-- a stamp below the start's or, for a Done entry, not above it
abbrev pub IsTooEarly : ℕ → Noted → Type 0
IsTooEarly start x = (stamp_of x < start) ⊎ (IsTrue (is_done_noted x) × (stamp_of x ≤ start))

-- an entry that is in turn, isn't too early, and has the interlock's answer at its point
pub record Fits (start now : ModelState) (x : Noted) : Type 0 where
  pub in_turn : IsTrue x.in_turn
  pub in_time : ¬ IsTooEarly start.stamp x
  pub answer : x.entry.answer ≡ reply now x.machine x.entry.call

abbrev pub AllFit : ModelState → ModelState → List Noted → Type 0
AllFit start now [] = ⊤
AllFit start now (x ∷ rest) = Fits start now x × AllFit start (next now x.machine x.entry.call) rest

-- the stamp of the first entry that doesn't fit
pub record IsMisfit (start : ModelState) (ordered : List Noted) (stamp : ℕ) : Type 0 where
  pub before : List Noted
  pub x : Noted
  pub rest : List Noted
  pub split : ordered ≡ before ++ x ∷ rest
  pub fit : AllFit start start before
  pub misfit : ¬ Fits start (after start (map event_of before)) x
  pub is : stamp ≡ stamp_of x

-- all entries fit, but don't lead to the given end
pub record MissesEnd (start : ModelState) (ordered : List Noted) (end : Option ModelState) : Type 0 where
  pub fit : AllFit start start ordered
  pub misses : ¬ EndsIn (after start (map event_of ordered)) end

-- the faults of the stamps alone
abbrev pub IsStampFault : ℕ → ℕ → List Noted → AuditFault → Type 0
IsStampFault start top all (Twice stamp) = IsTwice (done_at all) stamp
IsStampFault start top all (Gap stamp) = HasNoTwice (done_at all) × IsGap start top (done_at all) stamp
IsStampFault start top all (Differs _) = ⊥
IsStampFault start top all End = ⊥
IsStampFault start top all Memory = ⊤

-- what each fault says, if no fault before it applies
abbrev pub IsFaultOf : ModelState → Option ModelState → List Noted → AuditFault → Type 0
IsFaultOf start end all (Twice stamp) = IsTwice (done_at all) stamp
IsFaultOf start end all (Gap stamp) =
    HasNoTwice (done_at all) × IsGap start.stamp (top_of start end all) (done_at all) stamp
IsFaultOf start end all (Differs stamp) =
    (ordered : List Noted) × HasStamps start.stamp (top_of start end all) all ordered
    × IsMisfit start ordered stamp
IsFaultOf start end all End =
    (ordered : List Noted) × HasStamps start.stamp (top_of start end all) all ordered
    × MissesEnd start ordered end
IsFaultOf start end all Memory = ⊤

abbrev pub IsFault : ModelState → (Machine → List Entry) → Option ModelState → AuditFault → Type 0
IsFault start journals end fault = IsFaultOf start end (all_noted journals) fault
