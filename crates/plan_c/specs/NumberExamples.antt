-- The numbers for C of all postures, calls, refusals and answers; and what bytes and words have to be, in other words.
use Rattle.std.specs.Prelude.{◌≡◌, ◌≢◌, ℕ, ◌<◌, Bool, true, false, List, [], ◌∷◌, map, Some, None}
use Rattle.plan_types.specs.declared.posture.Posture.{Posture}
use Rattle.plan_types.specs.declared.posture.Posture.TheVariants.{Closed, Moving, OpenIn, OpenOut}
use Rattle.plan_types.specs.declared.call.Call.{Call}
use Rattle.plan_types.specs.declared.call.Call.TheVariants.{Claim, Give, Yield, Take, Release, SetPose, Inquire, Stop}
use Rattle.plan_types.specs.declared.call.Call.TheVariants.{Resume, Advance}
use Rattle.plan_types.specs.declared.answer.Answer.TheVariants.{Done, Shown, Refused}
use Rattle.plan_types.specs.declared.answer.Refusal.TheVariants.{NotParty, Held, AlreadyMine, Shut, NotOwner}
use Rattle.plan_types.specs.declared.answer.Refusal.TheVariants.{PlateInZone, NoPlate, PlaceFull, WrongWay, Jump}
use Rattle.plan_types.specs.declared.answer.Refusal.TheVariants.{NoPose, Worn, Stopped, NotStopped}
use Rattle.plan_types.specs.Bytes.{bytes_of, HasWholeRows, IsPlanOf, NoPlan}
use Rattle.plan_types.specs.Plan.{IsPlan}
use Rattle.plan_types.specs.Table.{PlanTable}
use Rattle.plan_rules.specs.declared.state.State.{State}
use Rattle.plan_word.specs.OfPlan.{IsOfPlan}
use Rattle.plan_word.specs.Packed.{packed}
use Rattle.plan_c.specs.declared.reply.Reply.{Reply}
use Rattle.plan_c.specs.Given.{IsWordOf, NoState}
use Rattle.plan_c.specs.Laws.{NoStateHasNoWord}
use Rattle.plan_c.specs.Numbers.{posture_number, verb_number, object_number, IsCall, NoCall}
use Rattle.plan_c.specs.Replies.{bare_reply, nothing, no_call, no_plan, no_stamp, no_state, no_word}
use Rattle.plan_c.specs.Replies.{refusal_number, reply_of}

abbrev pub reply : ℕ → ℕ → ℕ → ℕ → ℕ → Bool → Reply
reply next answer owner zone posture plate =
    record { next = next; answer = answer; owner = owner; zone = zone; posture = posture; plate = plate }

pub record NumbersAreMet : Type 0 where
  pub postures : map posture_number (Closed ∷ Moving ∷ OpenIn ∷ OpenOut ∷ []) ≡ 0 ∷ 1 ∷ 2 ∷ 3 ∷ []
  pub verbs : map verb_number
      (Claim 9 ∷ Give 9 ∷ Yield 9 ∷ Take 9 ∷ Release 9 ∷ SetPose 9 ∷ Inquire 9 ∷ Stop ∷ Resume
      ∷ Advance 9 ∷ []) ≡ 1 ∷ 2 ∷ 3 ∷ 4 ∷ 5 ∷ 6 ∷ 8 ∷ 9 ∷ 10 ∷ 11 ∷ []
  pub objects : map object_number
      (Claim 11 ∷ Give 12 ∷ Yield 13 ∷ Take 14 ∷ Release 15 ∷ SetPose 63 ∷ Inquire 17 ∷ Stop ∷ Resume
      ∷ Advance 15 ∷ []) ≡ 11 ∷ 12 ∷ 13 ∷ 14 ∷ 15 ∷ 63 ∷ 17 ∷ 0 ∷ 0 ∷ 15 ∷ []
  pub refusals : map refusal_number
      (NotParty ∷ Held 7 ∷ AlreadyMine ∷ Shut OpenIn ∷ NotOwner (Some 7) ∷ PlateInZone 7 ∷ NoPlate ∷ PlaceFull
      ∷ WrongWay ∷ Jump ∷ NoPose ∷ Worn ∷ Stopped ∷ NotStopped ∷ [])
      ≡ 1 ∷ 2 ∷ 3 ∷ 4 ∷ 5 ∷ 6 ∷ 7 ∷ 8 ∷ 9 ∷ 10 ∷ 12 ∷ 13 ∷ 14 ∷ 15 ∷ []
  pub others : no_call ∷ no_state ∷ no_plan ∷ nothing ∷ no_stamp ∷ no_word ∷ []
      ≡ 64 ∷ 65 ∷ 67 ∷ 255 ∷ 4294967295 ∷ 0x8000000000000002 ∷ []

-- the two numbers of each call, and numbers of none: the cell's Advance, a stop of a zone, verbs before and past all
pub record CallsAreMet : Type 0 where
  pub claim : (z : ℕ) → IsCall 1 z (Claim z)
  pub give : (z : ℕ) → IsCall 2 z (Give z)
  pub yield : (z : ℕ) → IsCall 3 z (Yield z)
  pub take : (z : ℕ) → IsCall 4 z (Take z)
  pub release : (z : ℕ) → IsCall 5 z (Release z)
  pub pose : (p : ℕ) → IsCall 6 p (SetPose p)
  pub inquire : (z : ℕ) → IsCall 8 z (Inquire z)
  pub stop : IsCall 9 0 Stop
  pub resume : IsCall 10 0 Resume
  pub advance : (p : ℕ) → IsCall 11 p (Advance p)
  -- they are no other's
  pub one_call : (verb object : ℕ) (a b : Call) → IsCall verb object a → IsCall verb object b → a ≡ b
  pub resume_of_zone : ¬ IsCall 10 1 Resume
  pub some_stop : ¬ NoCall 9 0
  pub some_claim : ¬ NoCall 1 255
  pub other_verb : ¬ IsCall 5 63 (SetPose 63)
  pub other_object : ¬ IsCall 6 62 (SetPose 63)
  pub some_call : ¬ NoCall 6 63
  pub no_verb : (object : ℕ) → NoCall 0 object
  pub advance_of_cell : (object : ℕ) → NoCall 7 object
  pub stop_of_zone : (object : ℕ) → object ≢ 0 → NoCall 9 object
  pub none_to_resume : (object : ℕ) → object ≢ 0 → NoCall 10 object
  pub past_all : (verb object : ℕ) → 11 < verb → NoCall verb object

-- an answer's number, the machine, the zone and the posture that it names, and whether it shows a plate: of each answer
-- and each word after it
pub record RepliesAreMet (word : ℕ) : Type 0 where
  pub done : reply_of Done word ≡ reply word 0 255 255 255 false
  pub shown : (m : ℕ) (plate : Bool) (q : Posture)
      → reply_of (Shown (Some m) plate q) word ≡ reply word 32 m 255 (posture_number q) plate
  pub shown_free : (plate : Bool) (q : Posture)
      → reply_of (Shown None plate q) word ≡ reply word 32 255 255 (posture_number q) plate
  pub held : (m : ℕ) → reply_of (Refused (Held m)) word ≡ reply word 2 m 255 255 false
  pub shut : (q : Posture) → reply_of (Refused (Shut q)) word ≡ reply word 4 255 255 (posture_number q) false
  pub another : (m : ℕ) → reply_of (Refused (NotOwner (Some m))) word ≡ reply word 5 m 255 255 false
  pub nobody : reply_of (Refused (NotOwner None)) word ≡ reply word 5 255 255 255 false
  pub plate : (z : ℕ) → reply_of (Refused (PlateInZone z)) word ≡ reply word 6 255 z 255 false
  -- all refusals that name nothing; and the postures by their numbers
  pub naming_nothing : map (λ r. reply_of (Refused r) word)
      (NotParty ∷ AlreadyMine ∷ NoPlate ∷ PlaceFull ∷ WrongWay ∷ Jump ∷ NoPose ∷ Worn ∷ Stopped ∷ NotStopped ∷ [])
      ≡ map (λ n. reply word n 255 255 255 false) (1 ∷ 3 ∷ 7 ∷ 8 ∷ 9 ∷ 10 ∷ 12 ∷ 13 ∷ 14 ∷ 15 ∷ [])
  pub naming_posture : map (λ q. reply_of (Refused (Shut q)) word) (Closed ∷ Moving ∷ OpenIn ∷ OpenOut ∷ [])
      ≡ map (λ n. reply word 4 255 255 n false) (0 ∷ 1 ∷ 2 ∷ 3 ∷ [])
  pub bare : (answer : ℕ) → bare_reply answer word ≡ reply word answer 255 255 255 false
  -- literal ones
  pub zone_of_five : reply_of (Shown (Some 5) true OpenOut) 71 ≡ reply 71 32 5 255 3 true
  pub held_by_last : reply_of (Refused (Held 29)) 82 ≡ reply 82 2 29 255 255 false

-- nothing else is asked of a plan's bytes and of a state's word, and nothing less
pub record GivenIsMet : Type 0 where
  pub plan : (t : PlanTable) → HasWholeRows t → IsPlan t → IsPlanOf (bytes_of t) t
  pub of_plan : (bytes : List ℕ) (t : PlanTable) → IsPlanOf bytes t
      → (bytes_of t ≡ bytes) × HasWholeRows t × IsPlan t
  pub no_plan : (bytes : List ℕ) → ((t : PlanTable) → HasWholeRows t → IsPlan t → bytes_of t ≢ bytes)
      → NoPlan bytes
  pub some_plan : (t : PlanTable) → HasWholeRows t → IsPlan t → ¬ NoPlan (bytes_of t)
  pub word : (t : PlanTable) (s : State) → IsOfPlan t s → IsWordOf t (packed t s) s
  pub of_word : (t : PlanTable) (word : ℕ) (s : State) → IsWordOf t word s → IsOfPlan t s × (packed t s ≡ word)
  pub no_state : (t : PlanTable) (word : ℕ) → ((s : State) → IsOfPlan t s → packed t s ≢ word) → NoState t word
  pub some_state : (t : PlanTable) (s : State) → IsOfPlan t s → ¬ NoState t (packed t s)
  -- of each plan and each state of it
  pub no_word : NoStateHasNoWord → (t : PlanTable) (s : State) → IsPlan t → IsOfPlan t s
      → packed t s ≢ 9223372036854775810
