-- The lines of a film: one for its start, and one for each turn.
use Rattle.std.specs.Prelude.{ℕ, Bool, ◌&&◌, List, [], ◌∷◌, ◌++◌, codes, Option, Some, None, if◌then◌else◌}
use Rattle.std.specs.Str.{bytes_eq}
use Rattle.cell_rules.specs.Types.{Machine, Feed, Table, Robot, Press, Deposit, Crane}
use Rattle.cell_notes.specs.Names.{TurnCall, at_machine, each_machine, with_machine}
use Rattle.cell_notes.specs.declared.by_machine.ByMachine.{ByMachine}
use Rattle.cell_notes.specs.declared.schedule.Turn.{Turn}
use Rattle.cell_plant.specs.declared.frame.Frame.{Frame}
use Rattle.cell_config.specs.Letters.{letter_word}
use Rattle.film_app.specs.Fields.{answered_text, asked_text, by_commas, by_semicolons, part_text, step_text, word_text}

-- what each machine asked in its last turn so far
abbrev pub LastCalls : Type 0
LastCalls = ByMachine TurnCall

abbrev pub nothing_said : LastCalls
nothing_said = each_machine None

-- ---- the line of the start

-- a machine with its step and its part
unfoldable pub machine_text : Machine → Frame → List ℕ
machine_text m f = by_commas (step_text m f ∷ part_text m f.plant ∷ [])

abbrev pub start_line : Frame → List ℕ
start_line f =
    by_semicolons (codes "start" ∷ word_text f.state ∷ machine_text Feed f ∷ machine_text Table f ∷ machine_text Robot f
    ∷ machine_text Press f ∷ machine_text Deposit f ∷ machine_text Crane f ∷ [])

-- ---- the line of a turn

-- what a line says of the machine whose turn it was
pub record Fields : Type 0 where
  pub step : List ℕ
  pub call : List ℕ
  pub answer : List ℕ
  pub word : List ℕ
  pub part : List ℕ

-- of a frame, and what was asked
abbrev pub fields_of : Machine → TurnCall → Frame → Fields
fields_of m asked f =
    record {
      step = step_text m f;
      call = asked_text asked;
      answer = answered_text asked;
      word = word_text f.state;
      part = part_text m f.plant;
    }

-- before the first frame there was nothing
abbrev pub fields_before : Machine → TurnCall → Option Frame → Fields
fields_before m asked None = record {
  step = [];
  call = asked_text asked;
  answer = answered_text asked;
  word = [];
  part = [];
}
fields_before m asked (Some f) = fields_of m asked f

-- all is as it was
abbrev pub is_same : Fields → Fields → Bool
is_same old new =
    bytes_eq old.step new.step && (bytes_eq old.call new.call && (bytes_eq old.answer new.answer
    && (bytes_eq old.word new.word && bytes_eq old.part new.part)))

-- what is as it was is left out
abbrev pub if_new : List ℕ → List ℕ → List ℕ
if_new old new = if bytes_eq old new then [] else new

-- what changed, with what was asked
abbrev pub changes_text : Fields → Fields → List ℕ
changes_text old new =
    by_semicolons (if_new old.step new.step ∷ new.call ∷ new.answer ∷ if_new old.word new.word
    ∷ if_new old.part new.part ∷ [])

-- the turn's letter, and what changed, if anything did
abbrev pub turn_line : List ℕ → Fields → Fields → List ℕ
turn_line letter old new = letter ++ (if is_same old new then [] else codes ";" ++ changes_text old new)

-- ---- the lines of frames

-- the line of a frame, by the frame before it and what each machine asked last
abbrev pub line_by : Option Turn → Option Frame → LastCalls → Frame → List ℕ
line_by None before said f = start_line f
line_by (Some t) before said f =
    turn_line (letter_word t.busy t.machine) (fields_before t.machine (at_machine said t.machine) before)
    (fields_of t.machine f.asked f)

abbrev pub frame_line : Option Frame → LastCalls → Frame → List ℕ
frame_line before said f = line_by f.turn before said f ++ codes "\n"

-- what each machine asked last, after a frame
abbrev pub said_by_turn : Option Turn → LastCalls → TurnCall → LastCalls
said_by_turn None said asked = said
said_by_turn (Some t) said asked = with_machine said t.machine asked

abbrev pub said_after : LastCalls → Frame → LastCalls
said_after said f = said_by_turn f.turn said f.asked

abbrev pub lines_after : Option Frame → LastCalls → List Frame → List ℕ
lines_after before said [] = []
lines_after before said (f ∷ fs) = frame_line before said f ++ lines_after (Some f) (said_after said f) fs

-- the lines of a film
abbrev pub film_lines : List Frame → List ℕ
film_lines frames = lines_after None nothing_said frames

-- ---- the same, as it is made

-- what is kept of a film so far: its lines, the last frame, and what each machine asked last
pub record FilmSoFar : Type 0 where
  pub lines : List ℕ
  pub before : Option Frame
  pub said : LastCalls

abbrev pub no_film : FilmSoFar
no_film = record { lines = []; before = None; said = nothing_said }

abbrev pub shown_next : FilmSoFar → Frame → FilmSoFar
shown_next s f = record { lines = s.lines ++ frame_line s.before s.said f; before = Some f; said = said_after s.said f }
