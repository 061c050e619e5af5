-- Histories with their scripts.
use Rattle.std.specs.Prelude.{◌≡◌, ℕ, true, false, List, [], ◌∷◌, codes, map, None}
use Rattle.cell_types.specs.declared.place.Place.{Place}
use Rattle.cell_rules.specs.Types.{Machine, Feed, Table, Robot, Press, Deposit, Crane, Watch, Z1, Z2, Z3, Z4, Z5, Z6}
use Rattle.cell_rules.specs.Types.{Travelling, Closed, Call, Claim, Give, Yield, Take, Release, Inquire, Advance}
use Rattle.cell_rules.specs.Types.{SetPose, Stop, Resume, Held, NotParty, Answer, Done, Refused, Shown, Event}
use Rattle.cell_rules.specs.Types.{all_places}
use Rattle.cell_rules.specs.Names.{ModelState, empty, insert_place, place_set, start_state}
use Rattle.cell_replay.specs.declared.version.Version.TheVariants.{First, Second}
use Rattle.history_app.specs.Scripts.{digits_of, event_row, line_of_row, opening_row, rows_of, script_of, version_for}

abbrev pub event : Machine → Call → Answer → Event
event machine call answer = record { machine = machine; call = call; answer = answer }

abbrev pub bare : ModelState
bare = start_state empty 0

abbrev pub two_plates : ModelState
two_plates = start_state (place_set false true false false false false false false false true) 1048570

-- the digits of a cell in which one place is full
abbrev pub digits_at : Place → List ℕ
digits_at place = digits_of (insert_place empty place)

-- an event of each verb, and of each machine
abbrev pub each_verb : List Event
each_verb =
    event Feed (Claim Z1) Done ∷ event Table (Give Z2) Done ∷ event Robot (Yield Z3) Done ∷ event Press (Take Z4) Done
    ∷ event Deposit (Release Z5) Done ∷ event Crane (Inquire Z6) Done ∷ event Press (SetPose Travelling) Done
    ∷ event Table Advance Done ∷ event Watch Stop Done ∷ event Feed Resume Done ∷ []

abbrev pub plain_event : Event
plain_event = event Feed (Claim Z6) Done

-- done and refused calls are written alike
pub record ScriptExamples : Type 0 where
  pub nothing : script_of two_plates [] ≡ codes "start,0100000001,1048570\n"
  pub three_events :
      script_of bare
      (event Press (Claim Z3) Done ∷ event Robot (Claim Z3) (Refused (Held Press))
      ∷ event Press (SetPose Travelling) Done ∷ [])
      ≡ codes "start,0000000000,0\npress,claim,z3\nrobot,claim,z3\npress,pose,travelling\n"
  pub stop :
      script_of bare (event Watch Stop Done ∷ event Watch (Inquire Z3) (Shown None false Closed) ∷ [])
      ≡ codes "start2,0000000000,0\nwatch,stop\nwatch,inquire,z3\n"
  pub digits : map digits_at all_places
      ≡ codes "1000000000" ∷ codes "0100000000" ∷ codes "0010000000" ∷ codes "0001000000" ∷ codes "0000100000"
      ∷ codes "0000010000" ∷ codes "0000001000" ∷ codes "0000000100" ∷ codes "0000000010" ∷ codes "0000000001" ∷ []
  pub lines : map (λ e. line_of_row (event_row e)) each_verb
      ≡ codes "feed,claim,z1\n" ∷ codes "table,give,z2\n" ∷ codes "robot,yield,z3\n" ∷ codes "press,take,z4\n"
      ∷ codes "deposit,release,z5\n" ∷ codes "crane,inquire,z6\n" ∷ codes "press,pose,travelling\n"
      ∷ codes "table,advance\n" ∷ codes "watch,stop\n" ∷ codes "feed,resume\n" ∷ []
  pub no_field : line_of_row [] ≡ codes "\n"
  pub one_field : line_of_row (codes "ab" ∷ []) ≡ codes "ab\n"
  pub empty_field : line_of_row (codes "ab" ∷ [] ∷ codes "c" ∷ []) ≡ codes "ab,,c\n"
  pub stop_at_last : version_for (plain_event ∷ plain_event ∷ event Watch Stop Done ∷ []) ≡ Second
  pub resume_alone : version_for (event Watch Resume Done ∷ []) ≡ Second
  pub resume_at_first : version_for (event Watch Resume Done ∷ plain_event ∷ []) ≡ Second
  pub no_stop : version_for (plain_event ∷ event Table Advance Done ∷ []) ≡ First
  pub no_event : version_for [] ≡ First
  pub refused_stop : version_for (event Press Stop (Refused NotParty) ∷ []) ≡ Second
  pub opening : opening_row two_plates (event Watch Stop Done ∷ [])
      ≡ codes "start2" ∷ codes "0100000001" ∷ codes "1048570" ∷ []
  pub rows : rows_of bare (plain_event ∷ event Table Advance Done ∷ [])
      ≡ (codes "start" ∷ codes "0000000000" ∷ codes "0" ∷ []) ∷ (codes "feed" ∷ codes "claim" ∷ codes "z6" ∷ [])
      ∷ (codes "table" ∷ codes "advance" ∷ []) ∷ []
