-- The steps of an answer, one by one: versions, requests, ends, what is left, and what is written.
use Rattle.std.specs.Prelude.{◌≡◌, ◌<◌, ◌≤◌, ◌+◌, ◌-◌, ◌++◌, ℕ, Bool, true, false, List, [], ◌∷◌, length, map, codes}
use Rattle.std.specs.Prelude.{Option, Some, None, Ok, Err}
use Rattle.std.specs.Fmt.{decimal}
use Rattle.std.specs.Io.KnownBytes.{Appends}
use Rattle.csv.specs.declared.reader.Reader.{Reader}
use Rattle.cell_rules.specs.Types.{Feed, Table, Robot, Press, Deposit, Crane, Watch, Z1, Z2, Z3, Z4, Z5, Z6}
use Rattle.cell_rules.specs.Types.{Claim, Give, Yield, Take, Release, SetPose, Advance, Inquire, Stop, Resume}
use Rattle.cell_rules.specs.Types.{Travelling}
use Rattle.cell_types.specs.declared.pose.Pose.TheVariants.{Standing}
use Rattle.cell_rules.specs.Names.{ModelState, PlaceSet, empty, next, places_in, places_of, plates_of, reply}
use Rattle.cell_rules.specs.Names.{start_state}
use Rattle.cell_types.specs.Answers.{answer_text}
use Rattle.cell_rules.specs.Start.{IsStart}
use Rattle.csv_rows.specs.Numbers.{number_in}
use Rattle.csv_rows.specs.Rows.{HasRows, Row}
use Rattle.csv_rows.specs.declared.script_end.ScriptFault.{ScriptFault}
use Rattle.csv_rows.specs.declared.script_end.ScriptFault.TheVariants.{BadRow, BadStart, Long, NoStart}
use Rattle.csv_rows.specs.declared.script_end.Outcome.{Outcome}
use Rattle.csv_rows.specs.declared.script_end.Outcome.TheVariants.{Clean, Refused}
use Rattle.text_io.specs.declared.input.InputFault.TheVariants as input
use Rattle.cell_replay.specs.Faults.{Leaves, replay_fault_of}
use Rattle.cell_replay.specs.FirstVersion.{begins_with_start2}
use Rattle.cell_replay.specs.Limited.{IsNoted, IsTaken, bytes_left, room_of}
use Rattle.cell_replay.specs.Records.{GivesRow, RowsLeft}
use Rattle.cell_replay.specs.Requests.{machine_of, request, request_by, request_fields, request_of}
use Rattle.cell_replay.specs.Script.{byte_limit, end_of, event_lines, events_from, history_of, is_cut_of, line_of}
use Rattle.cell_replay.specs.Script.{lines_from, outcome_from, requests_in, rows_start, script_outcome, script_text}
use Rattle.cell_replay.specs.Script.{start_at, start_fields, start_in, start_line, used, without_last}
use Rattle.cell_replay.specs.ScriptExamples.{asks, first, nonsense}
use Rattle.cell_replay.specs.Versions.{all_versions, further_calls, has_call, version_of, version_word}
use Rattle.cell_replay.specs.Writing.{IsGrown, Writes, WritesEnd, WritesLine, WritesScript, lines_after, lines_left}
use Rattle.cell_replay.specs.Writing.{outcome_left, requests_left}
use Rattle.cell_replay.specs.declared.fault.ReplayFault.{ReplayFault}
use Rattle.cell_replay.specs.declared.fault.ReplayFault.TheVariants.{Read, Write, Memory}
use Rattle.cell_replay.specs.declared.request.Request.{Request}
use Rattle.cell_replay.specs.declared.version.Version.{Version}
use Rattle.cell_replay.specs.declared.version.Version.TheVariants.{First, Second}

pub record VersionExamples : Type 0 where
  pub words : map version_word all_versions ≡ codes "start" ∷ codes "start2" ∷ []
  pub word_of_first : version_of (codes "start") ≡ Some First
  pub word_of_second : version_of (codes "start2") ≡ Some Second
  pub no_word : version_of [] ≡ None
  pub capital_word : version_of (codes "Start") ≡ None
  pub shorter_word : version_of (codes "star") ≡ None
  pub none_further : further_calls First ≡ []
  pub two_further : further_calls Second ≡ Stop ∷ Resume ∷ []
  pub no_stop : has_call First Stop ≡ false
  pub no_resume : has_call First Resume ≡ false
  pub give : has_call First (Give Z6) ≡ true
  pub advance : has_call First Advance ≡ true
  pub stop : has_call Second Stop ≡ true
  pub resume : has_call Second Resume ≡ true
  pub claim : has_call Second (Claim Z1) ≡ true
  pub begins : begins_with_start2 ((codes "start2" ∷ codes "x" ∷ []) ∷ asks ∷ []) ≡ true
  pub begins_with_first : begins_with_start2 (first ∷ (codes "start2" ∷ []) ∷ []) ≡ false
  pub begins_longer : begins_with_start2 ((codes "start22" ∷ []) ∷ []) ≡ false
  pub begins_with_no_field : begins_with_start2 ([] ∷ (codes "start2" ∷ []) ∷ []) ≡ false
  pub begins_with_nothing : begins_with_start2 [] ≡ false

-- a record of each verb, and of each machine
abbrev pub some_rows : List Row
some_rows =
    (codes "feed" ∷ codes "claim" ∷ codes "z1" ∷ []) ∷ (codes "table" ∷ codes "give" ∷ codes "z2" ∷ [])
    ∷ (codes "robot" ∷ codes "yield" ∷ codes "z3" ∷ []) ∷ (codes "press" ∷ codes "take" ∷ codes "z4" ∷ [])
    ∷ (codes "deposit" ∷ codes "release" ∷ codes "z5" ∷ []) ∷ (codes "crane" ∷ codes "inquire" ∷ codes "z6" ∷ [])
    ∷ (codes "press" ∷ codes "pose" ∷ codes "travelling" ∷ []) ∷ (codes "crane" ∷ codes "pose" ∷ codes "standing" ∷ [])
    ∷ (codes "table" ∷ codes "advance" ∷ []) ∷ []

abbrev pub some_requests : List Request
some_requests =
    request Feed (Claim Z1) ∷ request Table (Give Z2) ∷ request Robot (Yield Z3) ∷ request Press (Take Z4)
    ∷ request Deposit (Release Z5) ∷ request Crane (Inquire Z6) ∷ request Press (SetPose Travelling)
    ∷ request Crane (SetPose Standing) ∷ request Table Advance ∷ []

abbrev pub stop_rows : List Row
stop_rows = (codes "watch" ∷ codes "stop" ∷ []) ∷ (codes "feed" ∷ codes "resume" ∷ []) ∷ []

abbrev pub stop_requests : List Request
stop_requests = request Watch Stop ∷ request Feed Resume ∷ []

pub record RequestExamples : Type 0 where
  pub fields : map request_fields some_requests ≡ some_rows
  pub fields_of_stop : map request_fields stop_requests ≡ stop_rows
  pub of_first : map (request_of First) some_rows ≡ map Some some_requests
  pub of_second : map (request_of Second) some_rows ≡ map Some some_requests
  pub stops : map (request_of Second) stop_rows ≡ map Some stop_requests
  pub no_stops : map (request_of First) stop_rows ≡ None ∷ None ∷ []
  pub all : requests_in Second (some_rows) ≡ some_requests
  pub until_no_request : requests_in Second (asks ∷ nonsense ∷ asks ∷ []) ≡ request Watch (Inquire Z1) ∷ []
  pub no_field : request_of Second [] ≡ None
  pub machine_alone : request_of Second (codes "press" ∷ []) ≡ None
  pub no_machine : request_of Second (codes "belt" ∷ codes "claim" ∷ codes "z1" ∷ []) ≡ None
  pub no_zone : request_of Second (codes "feed" ∷ codes "claim" ∷ codes "z7" ∷ []) ≡ None
  pub field_more : request_of Second (codes "feed" ∷ codes "claim" ∷ codes "z1" ∷ codes "z1" ∷ []) ≡ None
  pub no_object : request_of Second (codes "feed" ∷ codes "claim" ∷ []) ≡ None
  pub object_more : request_of Second (codes "table" ∷ codes "advance" ∷ codes "z1" ∷ []) ≡ None
  pub capital_machine : machine_of (codes "Feed") ≡ None
  pub last_machine : machine_of (codes "watch") ≡ Some Watch
  pub both : request_by (Some Crane) (Some Advance) ≡ Some (request Crane Advance)
  pub no_call : request_by (Some Crane) None ≡ None
  pub call_alone : request_by None (Some Advance) ≡ None
  pub neither : request_by None None ≡ None

-- A start's fields, of any places and any stamp: the state that they open with, or the start is refused. The version
-- changes nothing of it.
pub record StartSteps : Type 0 where
  pub opens : (full : PlaceSet) (stamp : ℕ) → IsStart full stamp → start_at full stamp ≡ Ok (start_state full stamp)
  pub refused : (full : PlaceSet) (stamp : ℕ) → ¬ IsStart full stamp → start_at full stamp ≡ Err BadStart
  pub by_fields : (places stamp : List ℕ) (flags : List Bool) (number : ℕ) → places_in places ≡ Some flags
      → number_in stamp ≡ Some number → start_fields (places ∷ stamp ∷ []) ≡ start_at (places_of flags) number
  pub unstamped : (places : List ℕ) → start_fields (places ∷ []) ≡ start_fields (places ∷ codes "0" ∷ [])
  pub no_number : (places stamp : List ℕ) → number_in stamp ≡ None
      → start_fields (places ∷ stamp ∷ []) ≡ Err BadStart
  pub field_more : (places stamp more : List ℕ) (rest : Row)
      → start_fields (places ∷ stamp ∷ more ∷ rest) ≡ Err BadStart
  pub state_of_any : (version : Version) (fields : Row) (s : ModelState) → start_fields fields ≡ Ok s
      → start_in (version_word version ∷ fields) ≡ Ok (record { version = version; state = s })
  pub refused_of_any : (version : Version) (fields : Row) (fault : ScriptFault) → start_fields fields ≡ Err fault
      → start_in (version_word version ∷ fields) ≡ Err fault
  pub no_version : (word : List ℕ) (fields : Row) → version_of word ≡ None → start_in (word ∷ fields) ≡ Err NoStart

abbrev pub bare : ModelState
bare = start_state empty 7

abbrev pub claims : List Request
claims = request Press (Claim Z3) ∷ request Table (Claim Z3) ∷ request Feed (Claim Z6) ∷ []

pub record EndExamples : Type 0 where
  pub all_answered : end_of false 3 3 ≡ Clean
  pub all_answered_of_cut : end_of true 3 3 ≡ Refused Long
  pub first_bad : end_of false 0 1 ≡ Refused (BadRow 1)
  pub later_bad : end_of true 2 5 ≡ Refused (BadRow 3)
  pub last_bad : end_of false 65535 65536 ≡ Refused (BadRow 65536)
  pub one_too_many : end_of false 65536 65537 ≡ Refused Long
  pub most : end_of false 65536 65536 ≡ Clean
  pub no_start : outcome_from false (Err NoStart) 4 9 ≡ Refused NoStart
  pub cut_without_rows : rows_start true [] ≡ Err Long
  pub no_rows : rows_start false [] ≡ Err NoStart
  pub no_events : events_from (Err BadStart) (asks ∷ []) ≡ []
  pub no_lines : lines_from (Err BadStart) [] ≡ []
  pub most_bytes : (bytes : List ℕ) → length bytes ≡ 4194304 → is_cut_of bytes ≡ false
  pub byte_more : (bytes : List ℕ) → length bytes ≡ 4194305 → is_cut_of bytes ≡ true
  pub limit : byte_limit ≡ 4194304
  pub no_last : without_last [] ≡ []
  pub without_last_of_one : used true (first ∷ []) ≡ []
  pub one_line : line_of 12 345 (codes "done") ≡ codes "12 345 done\n"
  pub line_of_start : start_line (record { version = Second; state = bare }) ≡ codes "0 7 start2 0\n"
  pub three_lines : event_lines bare (history_of bare claims)
      ≡ codes "1 8 done\n" ∷ codes "2 8 notparty\n" ∷ codes "3 9 done\n" ∷ []
  pub lines_after_five : lines_after 5 bare claims
      ≡ codes "6 8 done\n" ∷ codes "7 8 notparty\n" ∷ codes "8 9 done\n" ∷ []
  pub no_lines_after : lines_after 5 bare [] ≡ []
  pub last_request_left : requests_left Second 65535 (asks ∷ asks ∷ []) ≡ request Watch (Inquire Z1) ∷ []
  pub no_request_left : requests_left Second 65536 (asks ∷ asks ∷ []) ≡ []
  pub lines_of_rows : lines_left First 2 bare (asks ∷ nonsense ∷ []) ≡ codes "3 7 zone free 0 closed\n" ∷ []
  pub no_row_left : outcome_left First false 2 [] ≡ Clean
  pub cut_left : outcome_left First true 2 (asks ∷ []) ≡ Refused Long
  pub bad_left : outcome_left Second true 2 (asks ∷ nonsense ∷ asks ∷ []) ≡ Refused (BadRow 4)
  pub too_many_left : outcome_left Second false 65535 (asks ∷ asks ∷ []) ≡ Refused Long

-- lines and ends, whatever the numbers are
pub record EndsByNumber : Type 0 where
  pub line : (number stamp : ℕ) (text : List ℕ) → line_of number stamp text
      ≡ decimal number ++ (codes " " ++ (decimal stamp ++ (codes " " ++ (text ++ codes "\n"))))
  pub first_line : (version : Version) (s : ModelState) → start_line (record { version = version; state = s })
      ≡ codes "0 " ++ (decimal s.stamp ++ (codes " " ++ (version_word version ++ (codes " "
      ++ (decimal (plates_of s) ++ codes "\n")))))
  pub next_line : (done : ℕ) (s : ModelState) (r : Request) (later : List Request) → lines_after done s (r ∷ later)
      ≡ line_of (done + 1) (next s r.machine r.call).stamp (answer_text (reply s r.machine r.call))
      ∷ lines_after (done + 1) (next s r.machine r.call) later
  pub all_answered : (count : ℕ) → end_of false count count ≡ Clean
  pub all_answered_of_cut : (count : ℕ) → end_of true count count ≡ Refused Long
  pub bad_row : (is_cut : Bool) (answered count : ℕ) → answered < count → answered < 65536
      → end_of is_cut answered count ≡ Refused (BadRow (answered + 1))
  pub too_many : (is_cut : Bool) (count : ℕ) → 65536 < count → end_of is_cut 65536 count ≡ Refused Long
  pub whole : (bytes : List ℕ) → length bytes ≤ 4194304 → is_cut_of bytes ≡ false
  pub cut : (bytes : List ℕ) → 4194304 < length bytes → is_cut_of bytes ≡ true
  pub room : (taken : ℕ) → room_of None taken ≡ 4194304 - taken
  pub no_room : (is_cut : Bool) (taken : ℕ) → room_of (Some is_cut) taken ≡ 0

-- of the lines ab and c, which have this end
abbrev pub two_lines : List (List ℕ)
two_lines = codes "ab\n" ∷ codes "c\n" ∷ []

abbrev pub WritesTwo : List ℕ → Outcome → Type 0
WritesTwo written said = Writes two_lines Clean (Some (codes "x")) (Some written) (Ok said)

abbrev pub FailsTwo : List ℕ → ReplayFault → Type 0
FailsTwo written fault = Writes two_lines Clean (Some (codes "x")) (Some written) (Err fault)

pub record WritingExamples : Type 0 where
  pub whole : WritesTwo (codes "xab\nc\n") Clean
  pub other_end : ¬ WritesTwo (codes "xab\nc\n") (Refused Long)
  pub line_left_out : ¬ WritesTwo (codes "xab\n") Clean
  pub one_line_read : FailsTwo (codes "xab\n") Read
  pub no_line_for_memory : FailsTwo (codes "x") Memory
  pub part_written : FailsTwo (codes "xab\nc") Write
  pub whole_line : WritesLine (codes "ab\n") (Some (codes "x")) (Some (codes "xab\n")) (Ok tt)
  pub no_line : ¬ WritesLine (codes "ab\n") (Some (codes "x")) (Some (codes "x")) (Ok tt)
  pub no_read_of_line : ¬ WritesLine (codes "ab\n") (Some (codes "x")) (Some (codes "x")) (Err Read)
  pub no_memory_for_line : WritesLine (codes "ab\n") (Some (codes "x")) (Some (codes "x")) (Err Memory)
  pub memory_for_line : ¬ WritesLine (codes "ab\n") (Some (codes "x")) (Some (codes "xab\n")) (Err Memory)
  pub part_of_line : WritesLine (codes "ab\n") (Some (codes "x")) (Some (codes "xa")) (Err Write)
  pub whole_end : WritesEnd (Refused Long) (Some (codes "x")) (Some (codes "xfault long\n")) (Ok (Refused Long))
  pub no_end : ¬ WritesEnd (Refused Long) (Some []) (Some []) (Ok (Refused Long))
  pub other_outcome : ¬ WritesEnd (Refused Long) (Some []) (Some (codes "fault long\n")) (Ok Clean)
  pub nothing_if_clean : WritesEnd Clean (Some (codes "x")) (Some (codes "x")) (Ok Clean)
  pub no_read_of_end : ¬ WritesEnd (Refused Long) (Some []) (Some []) (Err Read)
  pub no_memory_for_end : WritesEnd (Refused Long) (Some (codes "x")) (Some (codes "x")) (Err Memory)
  pub part_of_end : WritesEnd (Refused Long) (Some []) (Some (codes "fault lo")) (Err Write)
  pub script : (bytes : List ℕ) (old new : Option (List ℕ)) (said : Outcome) → WritesScript bytes old new (Ok said)
      → (said ≡ script_outcome bytes) × Appends old new (script_text bytes)
  pub script_fails : (bytes : List ℕ) (old new : Option (List ℕ)) (fault : ReplayFault)
      → WritesScript bytes old new (Err fault) → Leaves fault bytes old new
  pub grown : IsGrown (Some (codes "ab")) (Some (codes "abc"))
  pub not_grown : IsGrown (Some (codes "ab")) (Some (codes "ab"))
  pub changed : ¬ IsGrown (Some (1 ∷ 2 ∷ [])) (Some (2 ∷ 1 ∷ 2 ∷ []))
  pub lost : ¬ IsGrown (Some (codes "ab")) None
  pub failed_read : replay_fault_of input.Read ≡ Read
  pub no_memory : replay_fault_of input.Memory ≡ Memory

abbrev pub Known : Type 0
Known = Reader (List ℕ)

pub record LeftExamples : Type 0 where
  pub two_taken : IsTaken (Some (1 ∷ 2 ∷ 3 ∷ [])) (Some (3 ∷ [])) 2
  pub others_taken : ¬ IsTaken (Some (1 ∷ 2 ∷ 3 ∷ [])) (Some (1 ∷ [])) 2
  pub too_many_taken : ¬ IsTaken (Some (1 ∷ [])) (Some []) 2
  pub none_known : ¬ IsTaken (Some (1 ∷ [])) None 1
  pub noted : IsNoted (Some (7 ∷ [])) (Some false)
  pub noted_wrongly : ¬ IsNoted (Some (7 ∷ [])) (Some true)
  pub not_noted : IsNoted (Some (7 ∷ [])) None
  pub whole_room : room_of None 0 ≡ 4194304
  pub less_room : room_of None 4194300 ≡ 4
  pub no_room : room_of None 4194304 ≡ 0
  pub no_room_once_noted : room_of (Some false) 7 ≡ 0
  pub no_room_once_cut : room_of (Some true) 0 ≡ 0
  pub two_bytes : bytes_left (Some (1 ∷ 2 ∷ 3 ∷ [])) None 4194302 ≡ Some (1 ∷ 2 ∷ [])
  pub no_bytes : bytes_left (Some (1 ∷ 2 ∷ 3 ∷ [])) (Some false) 0 ≡ Some []
  pub unknown_bytes : bytes_left None None 0 ≡ None
  pub given : GivesRow true first (first ∷ asks ∷ []) false true (λ rest. rest ≡ asks ∷ [])
  pub other_given : ¬ GivesRow true asks (first ∷ asks ∷ []) false false (λ rest. rest ≡ asks ∷ [])
  pub other_rest : ¬ GivesRow true first (first ∷ asks ∷ []) false false (λ rest. rest ≡ [])
  pub none_given : GivesRow false first [] true true (λ rest. rest ≡ asks ∷ [])
  pub none_given_of_one : ¬ GivesRow false first (first ∷ []) true true (λ rest. rest ≡ [])
  pub none_given_unnoted : ¬ GivesRow false first [] false true (λ rest. rest ≡ [])
  pub none_held : (reader : Known) → RowsLeft Some true reader false first true []
  pub none_held_unnoted : (reader : Known) → ¬ RowsLeft Some true reader false first false []
  pub none_held_but_left : (reader : Known) → ¬ RowsLeft Some false reader false first false (asks ∷ [])
  pub held : (reader : Known) → HasRows Some reader (asks ∷ asks ∷ [])
      → RowsLeft Some false reader true first false (first ∷ asks ∷ asks ∷ [])
  pub held_of_cut : (reader : Known) → HasRows Some reader (asks ∷ asks ∷ [])
      → RowsLeft Some true reader true first true (first ∷ asks ∷ [])
  pub what_is_held : (reader : Known) (held : Row) (left : List Row) → RowsLeft Some true reader true held false left
      → (rows : List Row) × HasRows Some reader rows × (left ≡ without_last (held ∷ rows))

pub record StepsAreMet : Type 0 where
  pub versions : VersionExamples
  pub requests : RequestExamples
  pub starts : StartSteps
  pub ends : EndExamples
  pub ends_by_number : EndsByNumber
  pub writings : WritingExamples
  pub left : LeftExamples
