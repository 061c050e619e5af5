-- Rounds of six workers and a watch, whatever the tries, the turns and the mark are.
use Rattle.std.specs.Prelude.{◌≡◌, ◌≢◌, ◌+◌, ◌≤◌, ℕ, true}
use Rattle.cell_types.specs.Same.{same_machine}
use Rattle.cell_rules.specs.Types.{Machine, Feed, Table, Robot, Press, Deposit, Crane, Watch}
use Rattle.cell_notes.specs.declared.status.Status.{Status}
use Rattle.cell_notes.specs.declared.status.Status.TheVariants.{Fine}
use Rattle.cell_threads.specs.Promises.{GivesOf}
use Rattle.cell_threads.specs.Watching.{WatchesOf}
use Rattle.cell_renewal.specs.Renewing.{EndsRound, GoesOnBy, RunsRenewed, TakesRound}
use Rattle.cell_renewal.specs.RenewalExamples.{six}
use Rattle.cell_renewal.specs.RoundExamples.{Counting, Left, SixEnds, all_but, each_goes, ends_as, gate, gives, how}
use Rattle.cell_renewal.specs.RoundExamples.{takes, tells_tries, watches}

-- each worker but one's is as it likes; that of this machine gives back only if it was told these tries and turns
abbrev pub told_of : ℕ → ℕ → Machine → Machine → GivesOf (Unit {0}) Status
told_of tries limit m k worker pass told gate most result =
    same_machine k m ≡ true → ¬ ((pass.machine ≡ m) × (told ≡ tries) × (most ≡ limit))

abbrev pub any_gives : Machine → GivesOf (Unit {0}) Status
any_gives m = gives

-- a round is over, by what each worker gives and by what the watch does
abbrev pub IsRound : ℕ → ℕ → (Machine → GivesOf (Unit {0}) Status) → WatchesOf ℕ → Counting → Left → ℕ → Type 0
IsRound tries limit of by before left sink =
    EndsRound (of Feed) (of Table) (of Robot) (of Press) (of Deposit) (of Crane) by takes tries limit gate before left
    sink

-- one round leads to the next, by whether each machine may go on
abbrev pub IsNext : ℕ → ℕ → ℕ → (Machine → GoesOnBy Status (Unit {0})) → Counting → Counting → Type 0
IsNext tries limit mark by before now =
    TakesRound gives gives gives gives gives gives watches takes tries limit gate how how how how how how (by Feed)
    (by Table) (by Robot) (by Press) (by Deposit) (by Crane) mark before now

abbrev pub AreRenewed : ℕ → ℕ → ℕ → Counting → Left → ℕ → Type 0
AreRenewed tries limit mark first left sink =
    RunsRenewed gives gives gives gives gives gives watches takes tries limit gate how how how how how how
    (each_goes Feed) (each_goes Table) (each_goes Robot) (each_goes Press) (each_goes Deposit) (each_goes Crane) mark
    first left sink

pub record RoundsByNumber (tries limit mark : ℕ) : Type 0 where
  pub watch_tries : (before : Counting) (left : Left) (sink : ℕ)
      → IsRound tries limit any_gives tells_tries before left sink → left.watch ≡ tries
  pub told : (m : Machine) → m ≢ Watch → (before : Counting) (left : Left) (sink : ℕ)
      → ¬ IsRound tries limit (told_of tries limit m) watches before left sink
  pub given : (each : SixEnds) (before : Counting) (left : Left) (sink : ℕ)
      → IsRound tries limit (ends_as each) watches before left sink → left.outputs ≡ each
  pub taken : (before : Counting) (left : Left) (sink : ℕ) → IsRound tries limit any_gives watches before left sink
      → (left.watch ≡ before.watch + 1) × (sink ≡ before.sink + 1)
  pub counted : (before now : Counting) → IsNext tries limit mark each_goes before now
      → (now.watch ≡ before.watch + 1) × (now.sink ≡ before.sink + 1)
  pub low_stamp : (before now : Counting) → IsNext tries limit mark each_goes before now → now.opening.stamp ≤ mark
  pub all_fine_before : (before now : Counting) (k : IsNext tries limit mark each_goes before now)
      → k.left.outputs ≡ six Fine Fine Fine Fine Fine Fine
  pub one_stays : (m : Machine) → m ≢ Watch → (before now : Counting) → ¬ IsNext tries limit mark (all_but m) before now
  pub not_all_fine : (first : Counting) (left : Left) (sink : ℕ) → AreRenewed tries limit mark first left sink
      → left.outputs ≢ six Fine Fine Fine Fine Fine Fine
