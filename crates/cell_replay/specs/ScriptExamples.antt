-- Scripts with the whole text that answers each, and how it ends.
use Rattle.std.specs.Prelude.{◌≡◌, ℕ, Bool, true, false, List, [], ◌∷◌, ◌++◌, codes}
use Rattle.std.specs.List.{concat}
use Rattle.csv_rows.specs.Rows.{Row}
use Rattle.csv_rows.specs.declared.script_end.ScriptFault.TheVariants.{NoStart, BadStart, BadRow, Long}
use Rattle.csv_rows.specs.declared.script_end.Outcome.{Outcome}
use Rattle.csv_rows.specs.declared.script_end.Outcome.TheVariants.{Clean, Refused}
use Rattle.cell_replay.specs.Script.{rows_lines, rows_outcome, script_outcome, script_text, used}

abbrev pub IsAnswered : List ℕ → List ℕ → Outcome → Type 0
IsAnswered script text outcome = (script_text script ≡ text) × (script_outcome script ≡ outcome)

-- ---- answers

abbrev pub opens : List ℕ
opens = codes "start,0000000000\n"

abbrev pub opened : List ℕ
opened = codes "0 0 start 0\n"

pub record AnswerExamples : Type 0 where
  pub stamp_rises : IsAnswered (codes "start,0100000000,7\nfeed,claim,z1\ntable,claim,z1\nwatch,inquire,z1\n")
      (codes "0 7 start 1\n1 7 shut closed\n2 8 done\n3 8 zone table 0 closed\n") Clean
  pub pose_and_give :
      IsAnswered (opens ++ codes "press,claim,z3\npress,pose,travelling\npress,advance\npress,give,z3\n")
      (opened ++ codes "1 1 done\n2 2 done\n3 2 notatwork\n4 2 wrongway\n") Clean
  pub hand_back : IsAnswered (opens ++ codes "deposit,claim,z4\ndeposit,take,z4\ndeposit,yield,z4\ndeposit,release,z4")
      (opened ++ codes "1 1 done\n2 1 noplate\n3 1 shut closed\n4 2 done\n") Clean
  pub other_places : IsAnswered (codes "start,0101101010,65537\n") (codes "0 65537 start 5\n") Clean
  pub six_plates : IsAnswered (codes "start,1110010101,77\n") (codes "0 77 start 6\n") Clean
  pub start_alone : IsAnswered (codes "start,1010010101,1048570\n") (codes "0 1048570 start 5\n") Clean
  pub no_request : IsAnswered (opens ++ codes "watch,inquire,z2\nfeed,claim,z7\nwatch,inquire,z2\n")
      (opened ++ codes "1 0 zone free 0 closed\nfault badrow 2\n") (Refused (BadRow 2))
  pub no_stop : IsAnswered (opens ++ codes "watch,stop\n") (opened ++ codes "fault badrow 1\n") (Refused (BadRow 1))
  pub no_resume : IsAnswered (opens ++ codes "watch,resume\n") (opened ++ codes "fault badrow 1\n") (Refused (BadRow 1))

-- ---- record 0

abbrev pub HasStamp : List ℕ → List ℕ → Type 0
HasStamp stamp number =
    IsAnswered (codes "start,0000000000," ++ stamp ++ codes "\n") (codes "0 " ++ number ++ codes " start 0\n") Clean

abbrev pub HasNoStart : List ℕ → Type 0
HasNoStart script = IsAnswered script (codes "fault nostart\n") (Refused NoStart)

abbrev pub HasBadStart : List ℕ → Type 0
HasBadStart script = IsAnswered script (codes "fault badstart\n") (Refused BadStart)

abbrev pub HasBadStamp : List ℕ → Type 0
HasBadStamp stamp = HasBadStart (codes "start,0000000000," ++ stamp)

pub record StartExamples : Type 0 where
  pub one_digit : HasStamp (codes "9") (codes "9")
  pub seven_digits : HasStamp (codes "0000012") (codes "12")
  pub last_stamp : HasStamp (codes "1048575") (codes "1048575")
  pub nothing : HasNoStart []
  pub no_record : HasNoStart (codes "\n\n")
  pub other_word : HasNoStart (codes "press,claim,z3\n")
  pub no_places : HasBadStart (codes "start\n")
  pub nine_places : HasBadStart (codes "start,000000000\n")
  pub eleven_places : HasBadStart (codes "start,00000000000\n")
  pub other_digit : HasBadStart (codes "start,0000000002\n")
  pub seven_plates : HasBadStart (codes "start,1111101001\n")
  pub no_digit : HasBadStamp []
  pub eight_digits : HasBadStamp (codes "00000012")
  pub sign : HasBadStamp (codes "+5")
  pub below_digits : HasBadStamp (codes "5/")
  pub above_digits : HasBadStamp (codes "5:")
  pub beyond_last : HasBadStamp (codes "1048576")
  pub field_more : HasBadStamp (codes "5,\n")

-- ---- the second version

abbrev pub opens2 : List ℕ
opens2 = codes "start2,0000000000\n"

abbrev pub opened2 : List ℕ
opened2 = codes "0 0 start2 0\n"

abbrev pub stop_and_resume : List ℕ
stop_and_resume =
    opens2 ++ codes "press,claim,z3\nwatch,stop\npress,pose,travelling\nrobot,claim,z1\n"
    ++ codes "press,release,z3\nwatch,stop\npress,resume\nwatch,resume\nwatch,resume\n"

abbrev pub stopped_and_resumed : List ℕ
stopped_and_resumed =
    opened2 ++ codes "1 1 done\n2 2 done\n3 2 stopped\n4 2 notparty\n"
    ++ codes "5 3 done\n6 3 stopped\n7 3 notparty\n8 4 done\n9 4 notstopped\n"

pub record StopExamples : Type 0 where
  pub stop_lasts_until_resumed : IsAnswered stop_and_resume stopped_and_resumed Clean
  pub stop_by_another : IsAnswered (opens2 ++ codes "press,stop\n")
      (opened2 ++ codes "1 0 notparty\n") Clean
  pub stop_of_a_zone : IsAnswered (opens2 ++ codes "watch,stop,z1\n")
      (opened2 ++ codes "fault badrow 1\n") (Refused (BadRow 1))
  pub start_alone : IsAnswered (codes "start2,0100000000,7\n") (codes "0 7 start2 1\n") Clean
  pub two_plates : IsAnswered (codes "start2,0000101000,3\n") (codes "0 3 start2 2\n") Clean
  pub five_plates : IsAnswered (codes "start2,1010010101,1048570\n") (codes "0 1048570 start2 5\n") Clean
  pub six_plates : IsAnswered (codes "start2,1101101010,524288\n") (codes "0 524288 start2 6\n") Clean
  pub no_places : HasBadStart (codes "start2\n")
  pub nine_places : HasBadStart (codes "start2,000000000\n")
  pub seven_plates : HasBadStart (codes "start2,1111101001\n")
  pub beyond_last : HasBadStart (codes "start2,0000000000,1048576\n")
  pub field_more : HasBadStart (codes "start2,0000000000,5,\n")
  pub other_version : HasNoStart (codes "start3,0000000000\n")
  pub longer_word : HasNoStart (codes "start22,0000000000\n")

-- ---- cut scripts: the last record isn't used

abbrev pub first : Row
first = codes "start" ∷ codes "0000000000" ∷ []

abbrev pub asks : Row
asks = codes "watch" ∷ codes "inquire" ∷ codes "z1" ∷ []

abbrev pub nonsense : Row
nonsense = codes "watch" ∷ []

abbrev pub Ends : Bool → List Row → List ℕ → Outcome → Type 0
Ends is_cut rows lines outcome = (concat (rows_lines is_cut rows) ≡ lines) × (rows_outcome is_cut rows ≡ outcome)

pub record CutExamples : Type 0 where
  pub last_left_out : used true (first ∷ asks ∷ nonsense ∷ []) ≡ first ∷ asks ∷ []
  pub all_used : used false (first ∷ asks ∷ nonsense ∷ []) ≡ first ∷ asks ∷ nonsense ∷ []
  pub cut : Ends true (first ∷ asks ∷ []) (opened ++ codes "1 0 zone free 0 closed\n") (Refused Long)
  pub cut_to_nothing : Ends true [] [] (Refused Long)
  pub no_start_before_cut : Ends true (asks ∷ asks ∷ []) [] (Refused NoStart)
  pub bad_start_before_cut : Ends true ((codes "start" ∷ []) ∷ asks ∷ []) [] (Refused BadStart)
  pub bad_row_before_cut : Ends true (first ∷ nonsense ∷ asks ∷ []) opened (Refused (BadRow 1))

pub record ScriptsAreMet : Type 0 where
  pub answers : AnswerExamples
  pub starts : StartExamples
  pub stops : StopExamples
  pub cuts : CutExamples
