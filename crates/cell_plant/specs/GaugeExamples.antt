-- Which gauges give one position, which calls have memory, and what two records don't say alike: by examples.
use Rattle.std.specs.Prelude.{◌≡◌, ◌≢◌, pos, ◌∷◌, [], ℕ, ℤ, ⊤}
use Rattle.cell_rules.specs.Types.{Machine, journal_of}
use Rattle.cell_notes.specs.declared.run_record.RunRecord.{RunRecord}
use Rattle.cell_notes.specs.declared.status.Status.TheVariants.{Fine, Refused, Worn}
use Rattle.cell_plant.specs.GaugeLaws.{GiveOne, GivesOne, HadMemory, SayTheSame}
use Rattle.cell_plant.specs.Records.{NoneRefused}
use Rattle.cell_plant.specs.RunExamples.{claims_entry, finds_busy, finds_no_room, is_refused}

-- a gauge that gives a raw value itself, and one that gives any position
abbrev pub by_raw : ℕ → ℤ → Type 0
by_raw raw v = v ≡ pos raw

abbrev pub any : ℕ → ℤ → Type 0
any raw v = ⊤

pub record OneRunIsTold : Type 0 where
  pub gives_one : GivesOne by_raw
  pub gives_any : ¬ GivesOne any
  pub give_one : GiveOne (record { arm1 = by_raw; arm2 = by_raw; rotation = by_raw; turn = by_raw; gripper = by_raw })
  -- a turn that is busy or refused has memory
  pub had_memory : HadMemory (claims_entry ∷ finds_busy ∷ is_refused ∷ [])
  pub had_none : ¬ HadMemory (claims_entry ∷ finds_no_room ∷ [])
  -- records that differ in one thing
  pub start : (r s : RunRecord) → s.start ≢ r.start → ¬ SayTheSame r s
  pub counts : (r s : RunRecord) → s.counts ≢ r.counts → ¬ SayTheSame r s
  pub status : (r s : RunRecord) → s.status ≢ r.status → ¬ SayTheSame r s
  pub journals : (r s : RunRecord) (m : Machine) → journal_of s.journals m ≢ journal_of r.journals m → ¬ SayTheSame r s
  pub end : (r s : RunRecord) → s.end ≢ r.end → ¬ SayTheSame r s
  pub axes : (r s : RunRecord) → s.axes ≢ r.axes → ¬ SayTheSame r s
  -- the last of these machines was refused
  pub none_refused : (r : RunRecord) → r.status ≡ Fine ∷ Worn ∷ [] → NoneRefused r
  pub one_refused : (r : RunRecord) → r.status ≡ Fine ∷ Worn ∷ Refused ∷ [] → ¬ NoneRefused r
