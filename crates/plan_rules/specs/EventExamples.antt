-- Literal events: who gains and loses a zone by them, what stops and resumes, the postures that they give, and
-- histories that aren't legal.
use Rattle.std.specs.Prelude.{◌≡◌, ℕ, true, false, List, [], ◌∷◌, filter, Some, None}
use Rattle.plan_types.specs.declared.posture.Posture.TheVariants.{Closed, Moving, OpenIn, OpenOut}
use Rattle.plan_types.specs.declared.call.Call.{Call}
use Rattle.plan_types.specs.declared.call.Call.TheVariants.{Claim, Give, Yield, Take, Release, SetPose, Inquire, Stop}
use Rattle.plan_types.specs.declared.call.Call.TheVariants.{Resume}
use Rattle.plan_types.specs.declared.answer.Refusal.TheVariants.{Shut, Held, NotParty, Stopped}
use Rattle.plan_types.specs.declared.answer.Answer.TheVariants.{Shown}
use Rattle.plan_types.specs.Table.{watch}
use Rattle.plan_types.specs.Examples.{press_table, lift_table}
use Rattle.plan_rules.specs.History.{after, IsLegal, done_count, gains, loses, is_gain, is_loss, Holds, is_stop}
use Rattle.plan_rules.specs.History.{is_resume, IsStopped, posture_by_events}
use Rattle.plan_rules.specs.Examples.{event, did, refused, press_start, loading, lift_start, doors_table, doors_start}
use Rattle.plan_rules.specs.OrderExamples.{interior, press_state, free, moving, with_stop}

-- which machines gain a zone of the lift by a call of machine `n` that is done, and which lose it
abbrev pub gainers : ℕ → Call → ℕ → List ℕ
gainers n c z = filter (λ m. gains lift_table n c m z) (0 ∷ 1 ∷ 2 ∷ [])

abbrev pub losers : ℕ → Call → ℕ → List ℕ
losers n c z = filter (λ m. loses lift_table n c m z) (0 ∷ 1 ∷ 2 ∷ [])

-- the upper zone, 1, has the parties 0 and 2
pub record ZonesGained : Type 0 where
  pub claim : gainers 2 (Claim 1) 1 ≡ 2 ∷ []
  pub claim_of_other : gainers 2 (Claim 1) 0 ≡ []
  pub give : gainers 0 (Give 1) 1 ≡ 2 ∷ []
  pub give_back : gainers 2 (Give 1) 1 ≡ 0 ∷ []
  pub give_of_other : gainers 0 (Give 1) 0 ≡ []
  pub give_by_stranger : gainers 1 (Give 1) 1 ≡ []
  pub yield : gainers 0 (Yield 1) 1 ≡ 2 ∷ []
  pub yield_back : gainers 2 (Yield 1) 1 ≡ 0 ∷ []
  pub yield_of_other : gainers 0 (Yield 1) 0 ≡ []
  pub yield_by_stranger : gainers 1 (Yield 1) 1 ≡ []
  pub take : gainers 2 (Take 1) 1 ≡ []
  pub release : gainers 2 (Release 1) 1 ≡ []
  pub pose : gainers 0 (SetPose 1) 1 ≡ []
  pub inquire : gainers 2 (Inquire 1) 1 ≡ []
  pub stop : gainers 2 Stop 1 ≡ []
  pub resume : gainers 2 Resume 1 ≡ []

pub record ZonesLost : Type 0 where
  pub claim : losers 2 (Claim 1) 1 ≡ []
  pub give : losers 2 (Give 1) 1 ≡ 2 ∷ []
  pub give_of_other : losers 2 (Give 1) 0 ≡ []
  pub yield : losers 2 (Yield 1) 1 ≡ 2 ∷ []
  pub yield_of_other : losers 2 (Yield 1) 0 ≡ []
  pub release : losers 2 (Release 1) 1 ≡ 2 ∷ []
  pub release_of_other : losers 2 (Release 1) 0 ≡ []
  pub take : losers 2 (Take 1) 1 ≡ []
  pub pose : losers 0 (SetPose 1) 1 ≡ []
  pub inquire : losers 2 (Inquire 1) 1 ≡ []
  pub stop : losers 2 Stop 1 ≡ []
  pub resume : losers 2 Resume 1 ≡ []

-- only a call that is done gains, loses, stops or resumes
pub record DoneAlone : Type 0 where
  pub claimed : is_gain press_table (did 0 (Claim 0)) 0 0 ≡ true
  pub claim_refused : is_gain press_table (refused 0 (Claim 0) (Shut Closed)) 0 0 ≡ false
  pub released : is_loss press_table (did 0 (Release 0)) 0 0 ≡ true
  pub release_refused : is_loss press_table (refused 0 (Release 0) (Shut Moving)) 0 0 ≡ false
  pub stopped : is_stop (did watch Stop) ≡ true
  pub stop_refused : is_stop (refused watch Stop Stopped) ≡ false
  pub resume_is_no_stop : is_stop (did watch Resume) ≡ false
  pub resumed : is_resume (did watch Resume) ≡ true
  pub resume_refused : is_resume (refused 1 Resume NotParty) ≡ false
  pub stop_is_no_resume : is_resume (did watch Stop) ≡ false
  pub claim_is_neither : is_stop (did 0 (Claim 0)) ≡ false
  -- whoever made it
  pub stopped_by_other : is_stop (did 1 Stop) ≡ true
  pub resumed_by_other : is_resume (did 1 Resume) ≡ true
  -- six calls of `loading` are done; an inquiry isn't
  pub count : done_count loading ≡ 6
  pub inquiry : done_count (event 1 (Inquire 0) (Shown None false Closed) ∷ did 1 (Claim 0) ∷ []) ≡ 1

-- the posture by the last pose that is done, for each zone that it gives one
pub record PosturesGiven : Type 0 where
  pub opening : posture_by_events press_table moving [] 0 ≡ Moving
  pub last : posture_by_events press_table free (did 1 (SetPose 3) ∷ did 1 (SetPose 1) ∷ []) 0 ≡ OpenOut
  pub refused : posture_by_events press_table free (refused 1 (SetPose 3) Stopped ∷ []) 0 ≡ Closed
  pub other_call : posture_by_events press_table moving (did 1 (Release 0) ∷ []) 0 ≡ Moving
  pub first_zone : posture_by_events lift_table lift_start (did 0 (SetPose 1) ∷ []) 0 ≡ OpenIn
  pub second_zone : posture_by_events lift_table lift_start (did 0 (SetPose 2) ∷ []) 1 ≡ OpenOut
  pub left : posture_by_events doors_table doors_start (did 0 (SetPose 3) ∷ did 0 (SetPose 1) ∷ []) 0 ≡ OpenOut
  pub given : posture_by_events doors_table doors_start (did 0 (SetPose 3) ∷ did 0 (SetPose 1) ∷ []) 1 ≡ OpenIn
  pub state : after press_table press_start (did 1 (Claim 0) ∷ did 1 (SetPose 3) ∷ [])
      ≡ record (press_state (interior (Some 1) Moving false) true false) { stamp = 2 }

pub record NotLegal : Type 0 where
  pub first : ¬ IsLegal press_table free (did 0 (Claim 0) ∷ [])
  pub second : ¬ IsLegal press_table free (did 1 (Claim 0) ∷ did 0 (Claim 0) ∷ [])
  pub wrong_posture : ¬ IsLegal press_table free (refused 0 (Claim 0) (Shut Moving) ∷ [])
  pub other_refusal : ¬ IsLegal press_table free (refused 0 (Claim 0) NotParty ∷ [])
  pub third : ¬ IsLegal press_table free (did 1 (Claim 0) ∷ refused 0 (Claim 0) (Held 1) ∷ did 0 (Claim 0) ∷ [])
  pub not_shown : ¬ IsLegal press_table free (event 0 (Inquire 0) (Shown None true Closed) ∷ [])
  -- by its events a machine has lost the zone, though the release is refused in the state; and the plant goes on
  pub released : ¬ Holds press_table moving (did 1 (Release 0) ∷ []) 1 0
  pub resumed : ¬ IsStopped (with_stop free) (did 1 Resume ∷ [])

pub record EventsAreMet : Type 0 where
  pub gained : ZonesGained
  pub lost : ZonesLost
  pub done_alone : DoneAlone
  pub postures : PosturesGiven
  pub not_legal : NotLegal
