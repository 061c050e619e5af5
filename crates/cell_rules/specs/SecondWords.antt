-- Laws of stamps, stops, the first version and refusals in other words; and a small program.
use Rattle.std.specs.Prelude.{◌≡◌, ℕ, zero, suc, ◌+◌, ◌<◌, ◌≤◌, true, false, [], ◌∷◌, Option, Some, None, Err, IsTrue}
use Rattle.cell_rules.specs.Types.{Machine, Feed, Robot, Press, Zone, Z3, Pose, Call, Yield, Take}
use Rattle.cell_rules.specs.Types.{Release, SetPose, Advance, Stop, Refusal, Answer, Done, Refused}
use Rattle.cell_rules.specs.Types.{NotOwner, NotAtWork, Held}
use Rattle.cell_rules.specs.declared.heard.LineFault.TheVariants.{Memory}
use Rattle.cell_rules.specs.FirstVersion as first
use Rattle.cell_rules.specs.FirstVersion.{has_call}
use Rattle.cell_rules.specs.BreakExamples.{feed_waits, press_claims, tries}
use Rattle.cell_rules.specs.LawExamples.{unused, only}
use Rattle.cell_rules.specs.ModelState.{ModelState, last_stamp}
use Rattle.cell_rules.specs.Programs.{Hears, MovesIn, Program, Reached}
use Rattle.cell_rules.specs.Refusals.{is_moving_pose}
use Rattle.cell_rules.specs.Reply.{reply, next}
use Rattle.cell_rules.specs.Rights.{IsNeverDisowned, NamesNoOwner}
use Rattle.cell_rules.specs.Seen.{event, heard_nothing}
use Rattle.cell_rules.specs.Sound.{IsSound}
use Rattle.cell_rules.specs.StopLaws.{running}

-- two states that differ in their stamps alone
pub record DifferInStamps (s t : ModelState) : Type 0 where
  pub zones : s.zones ≡ t.zones
  pub places : s.full ≡ t.full
  pub mark : s.stopped ≡ t.stopped

-- neither of them the last, such states answer alike, and a call leaves two that again differ in their stamps alone;
-- and both are sound, or neither
pub record StampsDoNotTell (s t : ModelState) : Type 0 where
  pub answers : (m : Machine) (c : Call) → IsSound s → s.stamp < last_stamp → t.stamp < last_stamp
      → reply t m c ≡ reply s m c
  pub leaves : (m : Machine) (c : Call) → IsSound s → s.stamp < last_stamp → t.stamp < last_stamp
      → DifferInStamps (next t m c) (next s m c)
  pub sound : IsSound s → t.stamp ≤ last_stamp → IsSound t

abbrev pub stopped_cell : ModelState → ModelState
stopped_cell s = record s { stopped = true }

-- what comes to its rest is answered alike in a stopped cell and in one that runs
pub record RestsAlike (s : ModelState) (m : Machine) : Type 0 where
  pub take : (z : Zone) → reply (stopped_cell s) m (Take z) ≡ reply (running s) m (Take z)
  pub release : (z : Zone) → reply (stopped_cell s) m (Release z) ≡ reply (running s) m (Release z)
  pub yield : (z : Zone) → reply (stopped_cell s) m (Yield z) ≡ reply (running s) m (Yield z)
  pub work : reply (stopped_cell s) m Advance ≡ reply (running s) m Advance
  pub pose : (p : Pose) → is_moving_pose p ≡ false
      → reply (stopped_cell s) m (SetPose p) ≡ reply (running s) m (SetPose p)

-- the state that a call of the first version leaves is the first version's
abbrev pub LeavesAlikeWhileRunning : Type 0
LeavesAlikeWhileRunning =
    (s : ModelState) (m : Machine) (c : Call) → IsTrue (has_call c) → next (running s) m c ≡ first.next (running s) m c

-- a program of numbers: at 0 it asks, and goes on at 5 if that is done; elsewhere it counts
abbrev pub call_at : ℕ → Option Call
call_at zero = Some Advance
call_at (suc n) = None

abbrev pub counting : Program ℕ
counting = record {
  machine = Robot;
  call = call_at;
  leads = λ n a k. (a ≡ Done) × (k ≡ n + 5);
  moves = λ n k. k ≡ n + 1;
}

abbrev pub advanced : Answer → ℕ → Type 0
advanced a n = Reached counting 0 (event Robot Advance a ∷ []) n

pub record ProgramExamples : Type 0 where
  pub none_moved : MovesIn counting 0 3 3
  pub two_moved : MovesIn counting 2 3 5
  pub not_in_one : ¬ MovesIn counting 1 3 5
  pub not_in_none : ¬ MovesIn counting 0 3 4
  pub goes_on : Reached counting 2 [] 4
  pub asks : advanced Done 7
  pub answered_otherwise : (r : Refusal) (n : ℕ) → ¬ advanced (Refused r) n
  pub hears_nothing : Hears None heard_nothing heard_nothing
  pub hears_a_call : Hears (Some Stop) heard_nothing (record { asks = 1; last = Some (Stop, Err Memory) })
  pub hears_without_a_call : ¬ Hears None heard_nothing (record { asks = 1; last = Some (Stop, Err Memory) })
  pub hears_twice : ¬ Hears (Some Stop) heard_nothing (record { asks = 2; last = Some (Stop, Err Memory) })

pub record OwnerExamples : Type 0 where
  pub done : NamesNoOwner Done
  pub held : NamesNoOwner (Refused (Held Robot))
  pub nobody : ¬ NamesNoOwner (Refused (NotOwner None))
  pub another : ¬ NamesNoOwner (Refused (NotOwner (Some Feed)))
  pub not_held : IsNeverDisowned unused Press (Release Z3) (Refused (NotOwner None)) []
  pub other_refusal : IsNeverDisowned unused Press Advance (Refused NotAtWork) (only Press (Release Z3))
  -- feed saw the press's claim, which is missing now; and its own call isn't the last that it sees
  pub forgotten : ¬ tries (press_claims ∷ []) (feed_waits ∷ [])
  pub not_the_last : ¬ tries [] (feed_waits ∷ press_claims ∷ [])

pub record SecondWords : Type 0 where
  pub stamps : (s t : ModelState) → DifferInStamps s t → StampsDoNotTell s t
  pub rests : (s : ModelState) (m : Machine) → IsSound s → RestsAlike s m
  pub first_version : LeavesAlikeWhileRunning
  pub programs : ProgramExamples
  pub owners : OwnerExamples
