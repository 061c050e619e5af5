-- What literal answers and sensors lead to, and literal turns of a small program of the press.
use Rattle.std.specs.Prelude.{◌≡◌, ⊤, ℕ, true, false, List, [], ◌∷◌, Option, Some, None}
use Rattle.plan_types.specs.declared.posture.Posture.TheVariants.{Closed, Moving, OpenIn}
use Rattle.plan_types.specs.declared.call.Call.{Call}
use Rattle.plan_types.specs.declared.call.Call.TheVariants.{Claim, SetPose, Inquire, Yield}
use Rattle.plan_types.specs.declared.answer.Answer.{Answer}
use Rattle.plan_types.specs.declared.answer.Answer.TheVariants.{Done, Shown, Refused}
use Rattle.plan_types.specs.declared.answer.Refusal.{Refusal}
use Rattle.plan_types.specs.declared.answer.Refusal.TheVariants.{NotParty, Held, AlreadyMine, Shut, NotOwner}
use Rattle.plan_types.specs.declared.answer.Refusal.TheVariants.{PlateInZone, NoPlate, PlaceFull, WrongWay, Jump}
use Rattle.plan_types.specs.declared.answer.Refusal.TheVariants.{NoPose, Worn, Stopped, NotStopped}
use Rattle.plan_drives.specs.declared.line.Line.TheVariants as line
use Rattle.plan_controller.specs.declared.faults.Faults.{Faults}
use Rattle.plan_controller.specs.declared.step.Step.{Step}
use Rattle.plan_controller.specs.declared.step.Step.TheVariants.{Do, Await, Run}
use Rattle.plan_controller.specs.declared.outcome.Outcome.{Outcome}
use Rattle.plan_controller.specs.declared.outcome.Outcome.TheVariants.{Stays, GoesOn, Stops}
use Rattle.plan_controller.specs.Faults.{no_faults}
use Rattle.plan_controller.specs.Steps.{shows, after_call, after_inquiry}
use Rattle.plan_controller.specs.Turns.{Control, control, Turns, program_in}

abbrev pub refusal_leads : Refusal → Outcome → Type 0
refusal_leads r o = (after_call (Some (Refused r)) no_faults ≡ o) × (after_inquiry 1 (Some (Refused r)) ≡ o)

pub record OutcomesAreRight : Type 0 where
  pub done : after_call (Some Done) no_faults ≡ GoesOn
  pub not_made : after_call None no_faults ≡ Stays
  pub shown : after_call (Some (Shown (Some 1) false OpenIn)) no_faults ≡ Stays
  pub mine : after_inquiry 1 (Some (Shown (Some 1) false OpenIn)) ≡ GoesOn
  pub with_plate : after_inquiry 1 (Some (Shown (Some 1) true OpenIn)) ≡ GoesOn
  pub others : after_inquiry 1 (Some (Shown (Some 0) false OpenIn)) ≡ Stays
  pub nobodys : after_inquiry 1 (Some (Shown None false Closed)) ≡ Stays
  pub not_asked : after_inquiry 1 None ≡ Stays
  -- others' calls mend these
  pub held : refusal_leads (Held 1) Stays
  pub shut : refusal_leads (Shut Moving) Stays
  pub not_owner : refusal_leads (NotOwner None) Stays
  pub plate_in_zone : refusal_leads (PlateInZone 0) Stays
  pub no_plate : refusal_leads NoPlate Stays
  pub place_full : refusal_leads PlaceFull Stays
  pub wrong_way : refusal_leads WrongWay Stays
  pub stopped : refusal_leads Stopped Stays
  -- and never these
  pub not_party : refusal_leads NotParty (Stops NotParty)
  pub already_mine : refusal_leads AlreadyMine (Stops AlreadyMine)
  pub jump : refusal_leads Jump (Stops Jump)
  pub no_pose : refusal_leads NoPose (Stops NoPose)
  pub worn : refusal_leads Worn (Stops Worn)
  pub not_stopped : refusal_leads NotStopped (Stops NotStopped)
  -- sensors
  pub first : shows 1 0 ≡ true
  pub second_alone : shows 2 0 ≡ false
  pub second : shows 2 1 ≡ true
  pub last : shows 2147483648 31 ≡ true
  pub none : shows 0 31 ≡ false
  pub past_the_last : shows 4294967295 32 ≡ false

-- the press claims its zone, moves, runs its ram until sensor 4 shows, and awaits its zone
abbrev pub steps : List Step
steps = Do (Claim 0) no_faults ∷ Do (SetPose 3) no_faults ∷ Run 1 4 ∷ Await 0 ∷ []

abbrev pub at : ℕ → Control
at place = control 1 steps place None

-- it gives its zone back, unless that is held, and then claims it
abbrev pub if_held : Faults
if_held = record no_faults { held = true }

abbrev pub faulty : List Step
faulty = Do (Yield 0) if_held ∷ Do (Claim 0) no_faults ∷ []

abbrev pub at_faulty : ℕ → Option Refusal → Control
at_faulty place stopped = control 1 faulty place stopped

-- the turn of a line that gives this answer to this call, and of one that isn't asked
abbrev pub Answered : Control → Call → Option Answer → Option ℕ → ℕ → Control → Type 0
Answered c call answer sensors motors now = Turns c ⊥ (λ q a. (q ≡ call) × (a ≡ answer)) sensors motors now

abbrev pub Silent : Control → Option ℕ → ℕ → Control → Type 0
Silent c sensors motors now = Turns c ⊤ (λ q a. ⊥) sensors motors now

pub record TurnsAreRight : Type 0 where
  pub claims : Answered (at 0) (Claim 0) (Some Done) (Some 0) 0 (at 1)
  pub refused : Answered (at 0) (Claim 0) (Some (Refused (Held 0))) (Some 0) 0 (at 0)
  pub stops : Answered (at 0) (Claim 0) (Some (Refused Worn)) (Some 0) 0 (control 1 steps 0 (Some Worn))
  pub busy : Answered (at 1) (SetPose 3) None (Some 16) 0 (at 1)
  pub runs : Silent (at 2) (Some 0) 1 (at 2)
  pub other_sensor : Silent (at 2) (Some 15) 1 (at 2)
  pub ends : Silent (at 2) (Some 16) 0 (at 3)
  pub waits : Answered (at 3) (Inquire 0) (Some (Shown (Some 0) false OpenIn)) (Some 0) 0 (at 3)
  -- after the last step comes the first
  pub owns : Answered (at 3) (Inquire 0) (Some (Shown (Some 1) false OpenIn)) (Some 0) 0 (at 0)
  pub unread : Silent (at 2) None 0 (at 2)
  pub stopped : Silent (control 1 steps 2 (Some Worn)) (Some 0) 0 (control 1 steps 2 (Some Worn))
  pub no_program : Silent (control 1 [] 0 None) (Some 0) 0 (control 1 [] 0 None)
  -- a fault of its own line stops it, and no other refusal that others' calls may mend does, nor the next line's
  pub fault : Answered (at_faulty 0 None) (Yield 0) (Some (Refused (Held 0))) (Some 0) 0 (at_faulty 0 (Some (Held 0)))
  pub no_fault : Answered (at_faulty 0 None) (Yield 0) (Some (Refused (NotOwner None))) (Some 0) 0 (at_faulty 0 None)
  pub next_line : Answered (at_faulty 1 None) (Claim 0) (Some (Refused (Held 0))) (Some 0) 0 (at_faulty 1 None)
  pub not_asked_again : ¬ Answered (at_faulty 0 None) (Yield 0) (Some (Refused (Held 0))) (Some 0) 0 (at_faulty 0 None)
  pub not_stopped_so : ¬ Answered (at_faulty 1 None) (Claim 0) (Some (Refused (Held 0))) (Some 0) 0
      (at_faulty 1 (Some (Held 0)))
  pub by_fault : Silent (at_faulty 0 (Some (Held 0))) (Some 0) 0 (at_faulty 0 (Some (Held 0)))
  -- a turn that leaves the ram on when its sensor shows, one with the ram off before, one that asks while it runs, and
  -- one that asks another call
  pub not_on : ¬ Silent (at 2) (Some 16) 1 (at 2)
  pub not_off : ¬ Silent (at 2) (Some 0) 0 (at 2)
  pub not_asked : (call : Call) (answer : Option Answer) → ¬ Answered (at 2) call answer (Some 0) 1 (at 2)
  pub not_silent : ¬ Silent (at 0) (Some 0) 0 (at 0)
  pub other_call : ¬ Answered (at 0) (Yield 0) (Some Done) (Some 0) 0 (at 1)
  pub lines : program_in (at 0) ≡ line.Do (Claim 0) ∷ line.Do (SetPose 3) ∷ line.Run 1 ∷ line.Await 0 ∷ []
