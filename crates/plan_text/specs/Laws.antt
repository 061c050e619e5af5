-- Laws of words: a word is read as what it is told for, words of scripts are taken, and own poses come first.
use Rattle.std.specs.Prelude.{◌≡◌, ◌≢◌, ℕ, suc, ◌<◌, true, false, List, [], ◌∷◌, ◌++◌, codes, length, map, Some, None}
use Rattle.std.specs.Prelude.{is_some, IsTrue}
use Rattle.plan_types.specs.Table.{machine_of, watch}
use Rattle.plan_types.specs.declared.call.Call.{Call}
use Rattle.plan_types.specs.declared.call.Call.TheVariants.{SetPose}
use Rattle.plan_types.specs.declared.call.Call.TheVariants as call
use Rattle.plan_types.specs.declared.posture.Posture.{Posture}
use Rattle.plan_types.specs.declared.posture.Posture.TheVariants.{Closed, Moving, OpenIn, OpenOut}
use Rattle.plan_types.specs.declared.answer.Answer.TheVariants.{Done, Shown, Refused}
use Rattle.plan_types.specs.declared.answer.Refusal.TheVariants.{NotParty, Held, AlreadyMine, Shut, NotOwner}
use Rattle.plan_types.specs.declared.answer.Refusal.TheVariants.{PlateInZone, NoPlate, PlaceFull, WrongWay, Jump}
use Rattle.plan_types.specs.declared.answer.Refusal.TheVariants.{NoPose, Worn, Stopped, NotStopped}
use Rattle.plan_text.specs.Names.{Text, is_reserved, name_in, number_in}
use Rattle.plan_text.specs.Named.{Named}
use Rattle.plan_text.specs.Answers.{answer_text, posture_of, posture_word}
use Rattle.plan_text.specs.Calls.{call_of, call_text, caller_of, own_pose, verb_of, verb_word, words}
use Rattle.plan_text.specs.declared.calls.Verb.{Verb}
use Rattle.plan_text.specs.declared.calls.Verb.TheVariants.{Claim, Give, Yield, Take, Release, Inquire, Pose, Advance}

-- a word tells a verb, and is read as the verb
pub record IsWordOf (verb : Verb) (word : Text) : Type 0 where
  pub told : verb_word verb ≡ word
  pub read : verb_of word ≡ Some verb

pub record VerbsHaveWords : Type 0 where
  pub claim : IsWordOf Claim (codes "claim")
  pub give : IsWordOf Give (codes "give")
  pub yield : IsWordOf Yield (codes "yield")
  pub take : IsWordOf Take (codes "take")
  pub release : IsWordOf Release (codes "release")
  pub inquire : IsWordOf Inquire (codes "inquire")
  pub pose : IsWordOf Pose (codes "pose")
  pub advance : IsWordOf Advance (codes "advance")

-- the same of postures
pub record IsWordOfPosture (posture : Posture) (word : Text) : Type 0 where
  pub told : posture_word posture ≡ word
  pub read : posture_of word ≡ Some posture

pub record PosturesHaveWords : Type 0 where
  pub closed : IsWordOfPosture Closed (codes "closed")
  pub moving : IsWordOfPosture Moving (codes "moving")
  pub openin : IsWordOfPosture OpenIn (codes "openin")
  pub openout : IsWordOfPosture OpenOut (codes "openout")

-- the text of a call has the words of which the call is read
pub record CallsAreToldAsRead : Type 0 where
  pub same : (n : Named) (machine : ℕ) (verb : Verb) (name : Text) (c : Call)
      → call_of n machine verb name ≡ Some c → call_text n c ≡ words verb name

-- `watch`, `free`, `start` and the words of calls, which name no machine; others do
pub record WordsAreTaken : Type 0 where
  pub watch : is_reserved (codes "watch") ≡ true
  pub free : is_reserved (codes "free") ≡ true
  pub start : is_reserved (codes "start") ≡ true
  pub claim : is_reserved (codes "claim") ≡ true
  pub give : is_reserved (codes "give") ≡ true
  pub yield : is_reserved (codes "yield") ≡ true
  pub take : is_reserved (codes "take") ≡ true
  pub release : is_reserved (codes "release") ≡ true
  pub inquire : is_reserved (codes "inquire") ≡ true
  pub pose : is_reserved (codes "pose") ≡ true
  pub advance : is_reserved (codes "advance") ≡ true
  pub stop : is_reserved (codes "stop") ≡ true
  pub resume : is_reserved (codes "resume") ≡ true
  pub press : is_reserved (codes "press") ≡ false
  pub take_out : is_reserved (codes "take_out") ≡ false

-- a machine means one of its own poses, if any has the name, also where another machine's pose has it
pub record OwnPosesComeFirst : Type 0 where
  pub first : (n : Named) (machine pose : ℕ) (name : Text)
      → own_pose n machine name ≡ Some pose → call_of n machine Pose name ≡ Some (SetPose pose)
  pub own : (n : Named) (machine pose : ℕ) (name : Text)
      → own_pose n machine name ≡ Some pose → machine_of n.plan pose ≡ machine
  pub found : (n : Named) (machine pose : ℕ) → pose < length n.poses → machine_of n.plan pose ≡ machine
      → IsTrue (is_some (own_pose n machine (name_in n.poses pose)))

-- whom a name means, and which pose where the machine has none of that name
pub record OthersHaveNames (n : Named) (machine pose : ℕ) (name : Text) : Type 0 where
  pub watch_calls : caller_of n (codes "watch") ≡ Some watch
  pub machine_calls : name ≢ codes "watch" → caller_of n name ≡ number_in n.machines name
  pub other_pose : own_pose n machine name ≡ None → number_in n.poses name ≡ Some pose
      → call_of n machine Pose name ≡ Some (SetPose pose)

-- what these two laws say of a machine 4, of any plan and any names
pub record LawsOfWords (n : Named) (name : Text) (c : Call) : Type 0 where
  pub claim : CallsAreToldAsRead → call_of n 4 Claim name ≡ Some c → call_text n c ≡ codes "claim " ++ name
  pub give : CallsAreToldAsRead → call_of n 4 Give name ≡ Some c → call_text n c ≡ codes "give " ++ name
  pub yield : CallsAreToldAsRead → call_of n 4 Yield name ≡ Some c → call_text n c ≡ codes "yield " ++ name
  pub take : CallsAreToldAsRead → call_of n 4 Take name ≡ Some c → call_text n c ≡ codes "take " ++ name
  pub release : CallsAreToldAsRead → call_of n 4 Release name ≡ Some c → call_text n c ≡ codes "release " ++ name
  pub inquire : CallsAreToldAsRead → call_of n 4 Inquire name ≡ Some c → call_text n c ≡ codes "inquire " ++ name
  pub pose : CallsAreToldAsRead → call_of n 4 Pose name ≡ Some c → call_text n c ≡ codes "pose " ++ name
  pub advance : CallsAreToldAsRead → call_of n 4 Advance name ≡ Some c → call_text n c ≡ codes "advance " ++ name
  pub comes_first : OwnPosesComeFirst → own_pose n 4 name ≡ Some 7 → call_of n 4 Pose name ≡ Some (SetPose 7)
  pub is_own : OwnPosesComeFirst → own_pose n 4 name ≡ Some 7 → machine_of n.plan 7 ≡ 4
  pub is_found : OwnPosesComeFirst → 7 < length n.poses → machine_of n.plan 7 ≡ 4
      → own_pose n 4 (name_in n.poses 7) ≢ None

-- the name with a number, of any names
pub record NamesAreInOrder (name : Text) (names : List Text) (number : ℕ) : Type 0 where
  pub first : name_in (name ∷ names) 0 ≡ name
  pub next : name_in (name ∷ names) (suc number) ≡ name_in names number
  pub past : name_in [] number ≡ []

-- a number that a name has is the number of this name, and each name has one
pub record NamesHaveNumbers (names : List Text) (name : Text) (number : ℕ) : Type 0 where
  pub of_it : number_in names name ≡ Some number → name_in names number ≡ name
  pub found : number < length names → IsTrue (is_some (number_in names (name_in names number)))

-- the text of a call about a zone or a pose with some number, and of what it is read
pub record CallsByNumber (n : Named) (number : ℕ) : Type 0 where
  pub claim : call_text n (call.Claim number) ≡ codes "claim " ++ name_in n.zones number
  pub give : call_text n (call.Give number) ≡ codes "give " ++ name_in n.zones number
  pub yield : call_text n (call.Yield number) ≡ codes "yield " ++ name_in n.zones number
  pub take : call_text n (call.Take number) ≡ codes "take " ++ name_in n.zones number
  pub release : call_text n (call.Release number) ≡ codes "release " ++ name_in n.zones number
  pub inquire : call_text n (call.Inquire number) ≡ codes "inquire " ++ name_in n.zones number
  pub pose : call_text n (SetPose number) ≡ codes "pose " ++ name_in n.poses number
  pub advance : call_text n (call.Advance number) ≡ codes "advance " ++ name_in n.places number
  pub stop : call_text n call.Stop ≡ codes "stop"
  pub resume : call_text n call.Resume ≡ codes "resume"
  pub read : (machine : ℕ) (name : Text) → number_in n.zones name ≡ Some number
      → map (λ verb. call_of n machine verb name) (Claim ∷ Give ∷ Yield ∷ Take ∷ Release ∷ Inquire ∷ [])
      ≡ Some (call.Claim number) ∷ Some (call.Give number) ∷ Some (call.Yield number) ∷ Some (call.Take number)
      ∷ Some (call.Release number) ∷ Some (call.Inquire number) ∷ []

-- the text of an answer that names a machine or a zone with some number, or a posture; and of one that names nothing
pub record AnswersByNumber (n : Named) (number : ℕ) (posture : Posture) : Type 0 where
  pub held : answer_text n (Refused (Held number)) ≡ codes "held " ++ name_in n.machines number
  pub shut : answer_text n (Refused (Shut posture)) ≡ codes "shut " ++ posture_word posture
  pub not_owner : answer_text n (Refused (NotOwner (Some number))) ≡ codes "notowner " ++ name_in n.machines number
  pub no_owner : answer_text n (Refused (NotOwner None)) ≡ codes "notowner free"
  pub plate_in : answer_text n (Refused (PlateInZone number)) ≡ codes "platein " ++ name_in n.zones number
  pub full : answer_text n (Shown (Some number) true posture)
      ≡ codes "zone " ++ name_in n.machines number ++ codes " 1 " ++ posture_word posture
  pub empty : answer_text n (Shown (Some number) false posture)
      ≡ codes "zone " ++ name_in n.machines number ++ codes " 0 " ++ posture_word posture
  pub free_full : answer_text n (Shown None true posture) ≡ codes "zone free 1 " ++ posture_word posture
  pub free_empty : answer_text n (Shown None false posture) ≡ codes "zone free 0 " ++ posture_word posture
  pub done : answer_text n Done ≡ codes "done"
  pub bare : map (λ refusal. answer_text n (Refused refusal))
      (NotParty ∷ AlreadyMine ∷ NoPlate ∷ PlaceFull ∷ WrongWay ∷ Jump ∷ NoPose ∷ Worn ∷ Stopped ∷ NotStopped ∷ [])
      ≡ codes "notparty" ∷ codes "already" ∷ codes "noplate" ∷ codes "placefull" ∷ codes "wrongway" ∷ codes "jump"
      ∷ codes "nopose" ∷ codes "worn" ∷ codes "stopped" ∷ codes "notstopped" ∷ []
