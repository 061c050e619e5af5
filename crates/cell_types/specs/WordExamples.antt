-- Examples of words: each value's word, and each kind of refusal, call and answer with whatever it names, spelt out.
use Rattle.std.specs.Prelude.{◌≡◌, true, false, List, [], ◌∷◌, codes, map, Some, None}
use Rattle.cell_types.specs.declared.machine.Machine.TheVariants.{Robot, Press, Deposit}
use Rattle.cell_types.specs.declared.machine.Machine.TheVariants.{Table as TableMachine, Crane as CraneMachine}
use Rattle.cell_types.specs.declared.zone.Zone.TheVariants.{Z1, Z2, Z3, Z4, Z5, Z6}
use Rattle.cell_types.specs.declared.posture.Posture.TheVariants.{Closed, Moving, OpenIn, OpenOut}
use Rattle.cell_types.specs.declared.pose.Pose.TheVariants.{Middle, Standing, Travelling}
use Rattle.cell_types.specs.declared.call.Call.{Call}
use Rattle.cell_types.specs.declared.call.Call.TheVariants.{Claim, Give, Yield, Take, Release, SetPose, Advance}
use Rattle.cell_types.specs.declared.call.Call.TheVariants.{Inquire, Stop, Resume}
use Rattle.cell_types.specs.declared.answer.Refusal.{Refusal}
use Rattle.cell_types.specs.declared.answer.Refusal.TheVariants.{NotParty, Held, AlreadyMine, Shut, NotOwner}
use Rattle.cell_types.specs.declared.answer.Refusal.TheVariants.{PlateInZone, NoPlate, PlaceFull, WrongWay, Jump}
use Rattle.cell_types.specs.declared.answer.Refusal.TheVariants.{NotAtWork, NoPose, Worn, Stopped, NotStopped, InUse}
use Rattle.cell_types.specs.declared.answer.Answer.TheVariants.{Done, Shown, Refused}
use Rattle.cell_types.specs.Everything.{all_machines, all_zones, all_places, all_postures, all_poses}
use Rattle.cell_types.specs.Words.{machine_word, zone_word, place_word, posture_word, pose_word, named}
use Rattle.cell_types.specs.Answers.{owner_word, flag_word, refusal_word, answer_text}
use Rattle.cell_types.specs.CallWords.{verb_of, call_fields, call_text}

-- the values of each type in their order, by their words
pub record NameExamples : Type 0 where
  pub machines : map machine_word all_machines
      ≡ codes "feed" ∷ codes "table" ∷ codes "robot" ∷ codes "press" ∷ codes "deposit" ∷ codes "crane" ∷ codes "watch"
      ∷ []
  pub zones : map zone_word all_zones
      ≡ codes "z1" ∷ codes "z2" ∷ codes "z3" ∷ codes "z4" ∷ codes "z5" ∷ codes "z6" ∷ []
  pub places : map place_word all_places
      ≡ codes "p1" ∷ codes "p2" ∷ codes "p3" ∷ codes "p4" ∷ codes "p5" ∷ codes "p6" ∷ codes "p7" ∷ codes "p8"
      ∷ codes "p9" ∷ codes "p10" ∷ []
  pub postures : map posture_word all_postures ≡ codes "closed" ∷ codes "moving" ∷ codes "openin" ∷ codes "openout" ∷ []
  pub poses : map pose_word all_poses
      ≡ codes "turning" ∷ codes "loading" ∷ codes "unloading" ∷ codes "travelling" ∷ codes "middle" ∷ codes "low"
      ∷ codes "top" ∷ codes "running" ∷ codes "landing" ∷ codes "halted" ∷ codes "offering" ∷ codes "standing" ∷ []
  pub found : named zone_word all_zones (codes "z4") ≡ Some Z4
  pub not_found : named machine_word all_machines (codes "Press") ≡ None
  pub shorter_is_another : named posture_word all_postures (codes "open") ≡ None
  pub first_of_two : named (λ z. codes "zone") (Z5 ∷ Z2 ∷ []) (codes "zone") ≡ Some Z5

-- refusals that name nothing
abbrev pub plain_refusals : List Refusal
plain_refusals =
    NotParty ∷ AlreadyMine ∷ NoPlate ∷ PlaceFull ∷ WrongWay ∷ Jump ∷ NotAtWork ∷ NoPose ∷ Worn ∷ Stopped ∷ NotStopped
    ∷ InUse ∷ []

pub record RefusalExamples : Type 0 where
  pub plain : map refusal_word plain_refusals
      ≡ codes "notparty" ∷ codes "already" ∷ codes "noplate" ∷ codes "placefull" ∷ codes "wrongway" ∷ codes "jump"
      ∷ codes "notatwork" ∷ codes "nopose" ∷ codes "worn" ∷ codes "stopped" ∷ codes "notstopped" ∷ codes "inuse" ∷ []
  pub held : map (λ m. refusal_word (Held m)) all_machines
      ≡ codes "held feed" ∷ codes "held table" ∷ codes "held robot" ∷ codes "held press" ∷ codes "held deposit"
      ∷ codes "held crane" ∷ codes "held watch" ∷ []
  pub shut : map (λ q. refusal_word (Shut q)) all_postures
      ≡ codes "shut closed" ∷ codes "shut moving" ∷ codes "shut openin" ∷ codes "shut openout" ∷ []
  pub free : refusal_word (NotOwner None) ≡ codes "notowner free"
  pub not_owner : map (λ m. refusal_word (NotOwner (Some m))) all_machines
      ≡ codes "notowner feed" ∷ codes "notowner table" ∷ codes "notowner robot" ∷ codes "notowner press"
      ∷ codes "notowner deposit" ∷ codes "notowner crane" ∷ codes "notowner watch" ∷ []
  pub plate_in_zone : map (λ z. refusal_word (PlateInZone z)) all_zones
      ≡ codes "platein z1" ∷ codes "platein z2" ∷ codes "platein z3" ∷ codes "platein z4" ∷ codes "platein z5"
      ∷ codes "platein z6" ∷ []

-- the owner, the flag and the posture of a zone that is shown, one by one and together
pub record AnswerExamples : Type 0 where
  pub free : owner_word None ≡ codes "free"
  pub owners : map (λ m. owner_word (Some m)) all_machines
      ≡ codes "feed" ∷ codes "table" ∷ codes "robot" ∷ codes "press" ∷ codes "deposit" ∷ codes "crane" ∷ codes "watch"
      ∷ []
  pub flags : map flag_word (false ∷ true ∷ []) ≡ codes "0" ∷ codes "1" ∷ []
  pub done : answer_text Done ≡ codes "done"
  pub shown : answer_text (Shown (Some Robot) true OpenIn) ≡ codes "zone robot 1 openin"
  pub shown_free : answer_text (Shown None false Closed) ≡ codes "zone free 0 closed"
  pub shown_to_crane : answer_text (Shown (Some CraneMachine) false OpenOut) ≡ codes "zone crane 0 openout"
  pub shown_moving : answer_text (Shown (Some Deposit) true Moving) ≡ codes "zone deposit 1 moving"
  pub refused : answer_text (Refused (NotOwner (Some TableMachine))) ≡ codes "notowner table"
  pub refused_plainly : answer_text (Refused Jump) ≡ codes "jump"

-- a call of each kind
abbrev pub some_calls : List Call
some_calls =
    Claim Z1 ∷ Give Z2 ∷ Yield Z3 ∷ Take Z4 ∷ Release Z5 ∷ SetPose Travelling ∷ Advance ∷ Inquire Z6 ∷ Stop ∷ Resume
    ∷ []

pub record CallExamples : Type 0 where
  pub verbs : map verb_of some_calls
      ≡ codes "claim" ∷ codes "give" ∷ codes "yield" ∷ codes "take" ∷ codes "release" ∷ codes "pose" ∷ codes "advance"
      ∷ codes "inquire" ∷ codes "stop" ∷ codes "resume" ∷ []
  pub texts : map call_text some_calls
      ≡ codes "claim z1" ∷ codes "give z2" ∷ codes "yield z3" ∷ codes "take z4" ∷ codes "release z5"
      ∷ codes "pose travelling" ∷ codes "advance" ∷ codes "inquire z6" ∷ codes "stop" ∷ codes "resume" ∷ []
  pub fields : map call_fields some_calls
      ≡ (codes "claim" ∷ codes "z1" ∷ [])
      ∷ (codes "give" ∷ codes "z2" ∷ [])
      ∷ (codes "yield" ∷ codes "z3" ∷ [])
      ∷ (codes "take" ∷ codes "z4" ∷ [])
      ∷ (codes "release" ∷ codes "z5" ∷ [])
      ∷ (codes "pose" ∷ codes "travelling" ∷ [])
      ∷ (codes "advance" ∷ [])
      ∷ (codes "inquire" ∷ codes "z6" ∷ [])
      ∷ (codes "stop" ∷ [])
      ∷ (codes "resume" ∷ [])
      ∷ []
  pub claims : map (λ z. call_text (Claim z)) all_zones
      ≡ codes "claim z1" ∷ codes "claim z2" ∷ codes "claim z3" ∷ codes "claim z4" ∷ codes "claim z5" ∷ codes "claim z6"
      ∷ []
  pub gives : map (λ z. call_text (Give z)) all_zones
      ≡ codes "give z1" ∷ codes "give z2" ∷ codes "give z3" ∷ codes "give z4" ∷ codes "give z5" ∷ codes "give z6" ∷ []
  pub yields : map (λ z. call_text (Yield z)) all_zones
      ≡ codes "yield z1" ∷ codes "yield z2" ∷ codes "yield z3" ∷ codes "yield z4" ∷ codes "yield z5" ∷ codes "yield z6"
      ∷ []
  pub takes : map (λ z. call_text (Take z)) all_zones
      ≡ codes "take z1" ∷ codes "take z2" ∷ codes "take z3" ∷ codes "take z4" ∷ codes "take z5" ∷ codes "take z6" ∷ []
  pub releases : map (λ z. call_text (Release z)) all_zones
      ≡ codes "release z1" ∷ codes "release z2" ∷ codes "release z3" ∷ codes "release z4" ∷ codes "release z5"
      ∷ codes "release z6" ∷ []
  pub inquiries : map (λ z. call_text (Inquire z)) all_zones
      ≡ codes "inquire z1" ∷ codes "inquire z2" ∷ codes "inquire z3" ∷ codes "inquire z4" ∷ codes "inquire z5"
      ∷ codes "inquire z6" ∷ []
  pub poses : map (λ p. call_text (SetPose p)) (Middle ∷ Standing ∷ [])
      ≡ codes "pose middle" ∷ codes "pose standing" ∷ []

pub record WordExamples : Type 0 where
  pub names : NameExamples
  pub refusals : RefusalExamples
  pub answers : AnswerExamples
  pub calls : CallExamples
