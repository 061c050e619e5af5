-- Literal examples of names and calls, by a lift between two floors where poses of two machines have one name.
use Rattle.std.specs.Prelude.{◌≡◌, ℕ, true, false, List, [], ◌∷◌, ◌++◌, codes, filter, length, map, replicate}
use Rattle.std.specs.Prelude.{Option, Some, None}
use Rattle.std.specs.List.{range_with_len}
use Rattle.plan_types.specs.Table.{PlanTable, plan_table}
use Rattle.plan_types.specs.Examples.{lift_zones, pose}
use Rattle.plan_types.specs.declared.call.Call.{Call}
use Rattle.plan_types.specs.declared.call.Call.TheVariants as call
use Rattle.plan_types.specs.declared.posture.Posture.TheVariants.{Closed, Moving, OpenIn, OpenOut}
use Rattle.plan_types.specs.declared.answer.Answer.TheVariants.{Shown, Refused}
use Rattle.plan_types.specs.declared.answer.Refusal.TheVariants.{Held, Shut, NotOwner, PlateInZone}
use Rattle.plan_text.specs.Answers.{all_postures, answer_text, flag_text, owner_word, posture_of}
use Rattle.plan_text.specs.Calls.{call_of, call_text, caller_of, own_pose, pose_if, pose_named, verb_of}
use Rattle.plan_text.specs.Named.{Named, named}
use Rattle.plan_text.specs.Names.{Text, is_name, is_name_byte, is_reserved, name_in, number_if, number_in}
use Rattle.plan_text.specs.Names.{script_words}
use Rattle.plan_text.specs.Requests.{request, request_of, stop_by}
use Rattle.plan_text.specs.declared.calls.Verb.TheVariants as verbs
use Rattle.plan_text.specs.declared.request.Request.{Request}

-- ---- names

abbrev pub three : List Text
three = codes "lift" ∷ codes "lifts" ∷ codes "lift" ∷ []

pub record NamesAreFound : Type 0 where
  -- the first of two that are the same, and a whole name, not its beginning
  pub first : number_in three (codes "lift") ≡ Some 0
  pub second : number_in three (codes "lifts") ≡ Some 1
  pub part : number_in three (codes "lif") ≡ None
  pub longer : number_in three (codes "liftss") ≡ None
  pub empty : number_in three [] ≡ None
  pub no_names : number_in [] (codes "lift") ≡ None
  pub last_of_most : number_in (replicate 63 (codes "a") ++ codes "b" ∷ []) (codes "b") ≡ Some 63
  pub named_second : name_in three 1 ≡ codes "lifts"
  pub named_past : name_in three 3 ≡ []

-- of all bytes, those that a name may have, and those that it may begin with
pub record BytesOfNames : Type 0 where
  pub bytes : filter is_name_byte (range_with_len 0 256) ≡ codes "0123456789_abcdefghijklmnopqrstuvwxyz"
  pub first_bytes : filter (λ byte. is_name (byte ∷ [])) (range_with_len 0 256) ≡ codes "abcdefghijklmnopqrstuvwxyz"

-- no other words are taken
pub record OtherWordsAreFree : Type 0 where
  pub count : length script_words ≡ 13
  pub empty : is_reserved [] ≡ false
  pub part : is_reserved (codes "watc") ≡ false
  pub longer : is_reserved (codes "watchs") ≡ false

-- ---- calls

-- poses: 0 "away" of the lift, 1 "open" of the lower floor, 2 "open" and 3 "away" of the upper one
abbrev pub floors_table : PlanTable
floors_table =
    plan_table 3 lift_zones
    (pose 0 false None None ∷ pose 1 false None None ∷ pose 2 false None None ∷ pose 2 false None None ∷ [])
    (0 ∷ 1 ∷ 2 ∷ [])

abbrev pub floors : Named
floors =
    named floors_table (codes "lift" ∷ codes "low" ∷ codes "high" ∷ []) (codes "below" ∷ codes "above" ∷ [])
    (codes "cabin" ∷ codes "ground" ∷ codes "attic" ∷ [])
    (codes "away" ∷ codes "open" ∷ codes "open" ∷ codes "away" ∷ [])

abbrev pub three_words : Text → Text → Text → Option Request
three_words who verb name = request_of floors (who ∷ verb ∷ name ∷ [])

abbrev pub two_words : Text → Text → Option Request
two_words who verb = request_of floors (who ∷ verb ∷ [])

abbrev pub asks : ℕ → Call → Option Request
asks machine call = Some (request machine call)

-- a record's call: who asks, by which verb, about which zone or pose
pub record RequestsAreRead : Type 0 where
  pub claim : three_words (codes "low") (codes "claim") (codes "below") ≡ asks 1 (call.Claim 0)
  pub give : three_words (codes "high") (codes "give") (codes "above") ≡ asks 2 (call.Give 1)
  pub yield : three_words (codes "lift") (codes "yield") (codes "above") ≡ asks 0 (call.Yield 1)
  pub take : three_words (codes "lift") (codes "take") (codes "below") ≡ asks 0 (call.Take 0)
  pub release : three_words (codes "high") (codes "release") (codes "above") ≡ asks 2 (call.Release 1)
  pub inquire : three_words (codes "watch") (codes "inquire") (codes "above") ≡ asks 30 (call.Inquire 1)
  pub advance : three_words (codes "lift") (codes "advance") (codes "attic") ≡ asks 0 (call.Advance 2)
  -- the own pose of that name, or else the first of another machine
  pub own : three_words (codes "high") (codes "pose") (codes "away") ≡ asks 2 (call.SetPose 3)
  pub own_second : three_words (codes "high") (codes "pose") (codes "open") ≡ asks 2 (call.SetPose 2)
  pub others : three_words (codes "low") (codes "pose") (codes "away") ≡ asks 1 (call.SetPose 0)
  pub by_watch : three_words (codes "watch") (codes "pose") (codes "open") ≡ asks 30 (call.SetPose 1)
  pub stop : two_words (codes "watch") (codes "stop") ≡ asks 30 call.Stop
  pub resume : two_words (codes "high") (codes "resume") ≡ asks 2 call.Resume
  pub stop_by_low : two_words (codes "low") (codes "stop") ≡ asks 1 call.Stop
  pub resume_by_watch : two_words (codes "watch") (codes "resume") ≡ asks 30 call.Resume
  pub give_by_watch : three_words (codes "watch") (codes "give") (codes "below") ≡ asks 30 (call.Give 0)
  pub stop_alone : map stop_by (codes "stop" ∷ codes "resume" ∷ codes "stops" ∷ [] ∷ [])
      ≡ Some call.Stop ∷ Some call.Resume ∷ None ∷ None ∷ []
  pub callers : map (caller_of floors) (codes "watch" ∷ codes "lift" ∷ codes "low" ∷ codes "high" ∷ codes "attic" ∷ [])
      ≡ Some 30 ∷ Some 0 ∷ Some 1 ∷ Some 2 ∷ None ∷ []

pub record NoRequests : Type 0 where
  pub no_fields : request_of floors [] ≡ None
  pub caller_alone : request_of floors (codes "low" ∷ []) ≡ None
  pub fourth : request_of floors (codes "low" ∷ codes "claim" ∷ codes "below" ∷ [] ∷ []) ≡ None
  pub place_asks : three_words (codes "ground") (codes "claim") (codes "below") ≡ None
  pub nobody : three_words [] (codes "claim") (codes "below") ≡ None
  pub no_name : two_words (codes "low") (codes "claim") ≡ None
  pub empty_name : three_words (codes "low") (codes "claim") [] ≡ None
  -- a verb about a name of another kind
  pub claim_place : three_words (codes "low") (codes "claim") (codes "ground") ≡ None
  pub give_machine : three_words (codes "low") (codes "give") (codes "lift") ≡ None
  pub yield_pose : three_words (codes "low") (codes "yield") (codes "open") ≡ None
  pub take_place : three_words (codes "low") (codes "take") (codes "ground") ≡ None
  pub release_pose : three_words (codes "low") (codes "release") (codes "open") ≡ None
  pub inquire_machine : three_words (codes "low") (codes "inquire") (codes "high") ≡ None
  pub advance_zone : three_words (codes "low") (codes "advance") (codes "below") ≡ None
  pub advance_alone : two_words (codes "low") (codes "advance") ≡ None
  pub pose_zone : three_words (codes "low") (codes "pose") (codes "below") ≡ None
  pub no_verb : three_words (codes "low") (codes "claims") (codes "below") ≡ None
  pub capital : three_words (codes "low") (codes "Claim") (codes "below") ≡ None
  pub no_word : two_words (codes "low") (codes "wait") ≡ None
  pub stop_about : three_words (codes "low") (codes "stop") (codes "below") ≡ None
  pub empty_verb : verb_of [] ≡ None
  pub empty_posture : posture_of [] ≡ None
  pub other_posture : posture_of (codes "open") ≡ None

-- the poses of that name that a machine has itself
pub record OwnPoses : Type 0 where
  pub of_high : own_pose floors 2 (codes "away") ≡ Some 3
  pub of_low : own_pose floors 1 (codes "open") ≡ Some 1
  pub others : own_pose floors 0 (codes "open") ≡ None
  pub watch_has_none : own_pose floors 30 (codes "away") ≡ None
  pub zone : own_pose floors 0 (codes "below") ≡ None
  pub read : call_of floors 0 verbs.Pose (codes "open") ≡ Some (call.SetPose 1)
  pub tried : map (pose_if floors 2 (codes "open")) (0 ∷ 1 ∷ 2 ∷ 3 ∷ []) ≡ None ∷ None ∷ Some 2 ∷ None ∷ []
  pub named : map (λ m. pose_named floors m (codes "away")) (0 ∷ 1 ∷ 2 ∷ 30 ∷ [])
      ≡ Some 0 ∷ Some 0 ∷ Some 3 ∷ Some 0 ∷ []
  pub numbered : map (number_if three (codes "lift")) (0 ∷ 1 ∷ 2 ∷ 3 ∷ []) ≡ Some 0 ∷ None ∷ Some 2 ∷ None ∷ []

-- ---- texts

pub record CallsAreTold : Type 0 where
  pub claim : call_text floors (call.Claim 1) ≡ codes "claim above"
  pub give : call_text floors (call.Give 0) ≡ codes "give below"
  pub yield : call_text floors (call.Yield 1) ≡ codes "yield above"
  pub take : call_text floors (call.Take 0) ≡ codes "take below"
  pub release : call_text floors (call.Release 1) ≡ codes "release above"
  pub inquire : call_text floors (call.Inquire 0) ≡ codes "inquire below"
  pub pose : call_text floors (call.SetPose 3) ≡ codes "pose away"
  pub other_pose : call_text floors (call.SetPose 1) ≡ codes "pose open"
  pub stop : call_text floors call.Stop ≡ codes "stop"
  pub resume : call_text floors call.Resume ≡ codes "resume"
  pub advance : call_text floors (call.Advance 1) ≡ codes "advance ground"

-- what an answer names: each machine, each zone, each posture
pub record AnswersName : Type 0 where
  pub held_first : answer_text floors (Refused (Held 0)) ≡ codes "held lift"
  pub held_last : answer_text floors (Refused (Held 2)) ≡ codes "held high"
  pub owner_second : answer_text floors (Refused (NotOwner (Some 1))) ≡ codes "notowner low"
  pub owner_last : answer_text floors (Refused (NotOwner (Some 2))) ≡ codes "notowner high"
  pub first_zone : answer_text floors (Refused (PlateInZone 0)) ≡ codes "platein below"
  pub second_zone : answer_text floors (Refused (PlateInZone 1)) ≡ codes "platein above"
  pub closed : answer_text floors (Refused (Shut Closed)) ≡ codes "shut closed"
  pub open_in : answer_text floors (Refused (Shut OpenIn)) ≡ codes "shut openin"
  pub open_out : answer_text floors (Refused (Shut OpenOut)) ≡ codes "shut openout"
  pub shown : answer_text floors (Shown (Some 2) true Moving) ≡ codes "zone high 1 moving"
  pub shown_low : answer_text floors (Shown (Some 1) false OpenIn) ≡ codes "zone low 0 openin"
  pub postures : map (λ posture. answer_text floors (Shown None false posture)) all_postures
      ≡ codes "zone free 0 closed" ∷ codes "zone free 0 moving" ∷ codes "zone free 0 openin"
      ∷ codes "zone free 0 openout" ∷ []
  pub flags : map flag_text (false ∷ true ∷ []) ≡ codes " 0 " ∷ codes " 1 " ∷ []
  pub owners : map (owner_word floors) (None ∷ Some 0 ∷ Some 1 ∷ Some 2 ∷ [])
      ≡ codes "free" ∷ codes "lift" ∷ codes "low" ∷ codes "high" ∷ []
