-- Literal examples: the texts of answers, which starts are read, and which texts are names.
use Rattle.std.specs.Prelude.{◌≡◌, ℕ, true, false, List, [], ◌∷◌, ◌++◌, codes, filter, map, replicate}
use Rattle.std.specs.Prelude.{Option, Some, None}
use Rattle.std.specs.List.{range_with_len}
use Rattle.plan_types.specs.Examples.{press_table}
use Rattle.plan_types.specs.declared.posture.Posture.TheVariants.{Closed, Moving, OpenIn, OpenOut}
use Rattle.plan_types.specs.declared.answer.Answer.{Answer}
use Rattle.plan_types.specs.declared.answer.Answer.TheVariants.{Done, Shown, Refused}
use Rattle.plan_types.specs.declared.answer.Refusal.{Refusal}
use Rattle.plan_types.specs.declared.answer.Refusal.TheVariants.{NotParty, Held, AlreadyMine, Shut, NotOwner}
use Rattle.plan_types.specs.declared.answer.Refusal.TheVariants.{PlateInZone, NoPlate, PlaceFull, WrongWay, Jump}
use Rattle.plan_types.specs.declared.answer.Refusal.TheVariants.{NoPose, Worn, Stopped, NotStopped}
use Rattle.plan_rules.specs.declared.state.State.{State}
use Rattle.plan_rules.specs.State.{start_state}
use Rattle.plan_text.specs.Answers.{answer_text}
use Rattle.plan_text.specs.Names.{Text, is_name}
use Rattle.plan_text.specs.Named.{Named, named}
use Rattle.plan_text.specs.Starts.{are_places, full_places, is_flag, is_one, stamp_in, start_of}

-- a loader and a press, with two zones
abbrev pub press_names : Named
press_names =
    named press_table (codes "loader" ∷ codes "press" ∷ []) (codes "interior" ∷ codes "tray" ∷ []) [] []

abbrev pub told : Answer → Text
told answer = answer_text press_names answer

abbrev pub refused : Refusal → Text
refused refusal = told (Refused refusal)

pub record AnswersAreTold : Type 0 where
  pub done : told Done ≡ codes "done"
  -- the owner, whether a plate is in the zone, and the posture
  pub full : told (Shown None true OpenIn) ≡ codes "zone free 1 openin"
  pub empty : told (Shown (Some 1) false Closed) ≡ codes "zone press 0 closed"
  pub loaders : told (Shown (Some 0) true OpenOut) ≡ codes "zone loader 1 openout"
  pub moving : told (Shown None false Moving) ≡ codes "zone free 0 moving"
  pub no_party : refused NotParty ≡ codes "notparty"
  pub held : refused (Held 1) ≡ codes "held press"
  pub already : refused AlreadyMine ≡ codes "already"
  pub shut : refused (Shut Moving) ≡ codes "shut moving"
  pub not_owner : refused (NotOwner (Some 0)) ≡ codes "notowner loader"
  pub no_owner : refused (NotOwner None) ≡ codes "notowner free"
  pub plate_in : refused (PlateInZone 1) ≡ codes "platein tray"
  pub no_plate : refused NoPlate ≡ codes "noplate"
  pub place_full : refused PlaceFull ≡ codes "placefull"
  pub wrong_way : refused WrongWay ≡ codes "wrongway"
  pub jump : refused Jump ≡ codes "jump"
  pub no_pose : refused NoPose ≡ codes "nopose"
  pub worn : refused Worn ≡ codes "worn"
  pub stopped : refused Stopped ≡ codes "stopped"
  pub not_stopped : refused NotStopped ≡ codes "notstopped"

abbrev pub sixteen : List ℕ → Option State
sixteen digits = start_of 16 digits (Some 7)

pub record StartsAreRead : Type 0 where
  -- of sixteen places the first and the last, all, or none
  pub ends : sixteen (codes "1000000000000001") ≡ Some (start_state (true ∷ replicate 14 false ++ true ∷ []) 7)
  pub all : sixteen (codes "1111111111111111") ≡ Some (start_state (replicate 16 true) 7)
  pub empty : sixteen (codes "0000000000000000") ≡ Some (start_state (replicate 16 false) 7)
  pub one_less : sixteen (codes "100000000000000") ≡ None
  pub one_more : sixteen (codes "10000000000000000") ≡ None
  pub no_flag : sixteen (codes "1000000000000002") ≡ None
  pub last_stamp : start_of 1 (codes "1") (Some 1048575) ≡ Some (start_state (true ∷ replicate 15 false) 1048575)
  pub past_last : start_of 1 (codes "1") (Some 1048576) ≡ None
  pub no_stamp : start_of 1 (codes "1") None ≡ None
  pub flags : filter is_flag (range_with_len 0 256) ≡ codes "01"
  pub counted : map (λ count. are_places count (codes "010")) (2 ∷ 3 ∷ 4 ∷ []) ≡ false ∷ true ∷ false ∷ []
  pub flagged : map (are_places 3) (codes "210" ∷ codes "020" ∷ codes "01 " ∷ codes "111" ∷ [])
      ≡ false ∷ false ∷ false ∷ true ∷ []
  pub each : full_places (codes "0110100110010111")
      ≡ false ∷ true ∷ true ∷ false ∷ true ∷ false ∷ false ∷ true ∷ true ∷ false ∷ false ∷ true ∷ false ∷ true
      ∷ true ∷ true ∷ []
  pub none_past_the_end : map (is_one (codes "101")) (0 ∷ 1 ∷ 2 ∷ 3 ∷ []) ≡ true ∷ false ∷ true ∷ false ∷ []
  pub absent : stamp_in None ≡ Some 0

pub record NamesAreJudged : Type 0 where
  pub short : is_name (codes "a") ≡ true
  pub mixed : is_name (codes "z_9") ≡ true
  pub longest : is_name (replicate 32 97) ≡ true
  pub too_long : is_name (replicate 33 97) ≡ false
  pub empty : is_name [] ≡ false
  pub digit_first : is_name (codes "9z") ≡ false
  pub underscore_first : is_name (codes "_z") ≡ false
  pub capital : is_name (codes "aZ") ≡ false
  pub capital_first : is_name (codes "Az") ≡ false
  pub hyphen : is_name (codes "a-z") ≡ false
  pub dot_last : is_name (codes "gate_7.") ≡ false
  pub space_within : is_name (codes "gate 7") ≡ false
  pub long : is_name (codes "abcdefghijklmnopqrstuvw_012345_9") ≡ true
