-- Fields of lines, in literal text: moving axes, words with letters, each machine's status, and what a film keeps.
use Rattle.std.specs.Prelude.{◌≡◌, ℕ, pos, true, false, List, [], ◌∷◌, ◌++◌, codes, map, replicate, Some, None, Ok, Err}
use Rattle.cell_rules.specs.Types.{Feed, Press, Crane, Watch, Refused, Done, Worn, Settled, Busy}
use Rattle.cell_rules.specs.Names.{ModelState, place_set, start_state}
use Rattle.cell_rules.specs.declared.heard.LineFault.TheVariants.{Memory}
use Rattle.cell_notes.specs.Names.{at_machine, each_machine, with_machine}
use Rattle.cell_notes.specs.declared.status.Status.TheVariants as status
use Rattle.cell_devices.specs.declared.motor.Motor.{Motor}
use Rattle.cell_devices.specs.declared.motor.Motor.TheVariants.{Off, Plus, Minus}
use Rattle.cell_plant.specs.Names.{starts, has_claimed, turn_of}
use Rattle.cell_plant.specs.declared.frame.Frame.{Frame}
use Rattle.cell_plant.specs.FrameExamples.{steps_entered}
use Rattle.film_app.specs.Fields.{asked_text, axis_text, crane_text, motor_text, plate_text, reply_text, robot_text}
use Rattle.film_app.specs.Fields.{step_text, word_text}
use Rattle.film_app.specs.LineExamples.{apart, axis, starts_text, text_of}
use Rattle.film_app.specs.Lines.{Fields, film_lines, if_new, is_same, no_film, nothing_said, said_after, shown_next}
use Rattle.film_app.specs.Lines.{start_line}
use Rattle.film_app.specs.Pages.{cut_line, page_text}
use Rattle.film_app.specs.Plain.{are_plain, is_plain}
use Rattle.film_app.specs.declared.page_head.TheConstants.{PAGE_HEAD}
use Rattle.film_app.specs.declared.page_tail.TheConstants.{PAGE_TAIL}

-- the press falls, stops and rises
abbrev pub press_at : ℕ → Motor → Frame
press_at height motor = record starts {
  turn = Some (turn_of Press);
  plant = record starts.plant { press = record (axis height) { motor = motor } };
}

abbrev pub press_moves : List Frame
press_moves =
    starts ∷ press_at 980 Minus ∷ press_at 960 Minus ∷ press_at 960 Minus ∷ press_at 960 Off ∷ press_at 980 Plus
    ∷ press_at 1000 Plus ∷ []

abbrev pub press_lines : List ℕ
press_lines =
    text_of
    (starts_text ∷ codes "p;;;;;980-" ∷ codes "p;;;;;960-" ∷ codes "p" ∷ codes "p;;;;;960" ∷ codes "p;;;;;980+"
    ∷ codes "p;;;;;1000+" ∷ [])

-- each machine but the feed belt has stopped, for another cause; and no part is as another
abbrev pub all_stopped : Frame
all_stopped = record starts {
  steps = steps_entered;
  status = record (each_machine status.Fine) {
    table = status.Worn;
    robot = status.Sensor;
    press = status.Refused;
    deposit = status.Memory;
    crane = status.GateLimit;
    watch = status.Worn;
  };
  plant = apart;
}

-- seven places are full, at a stamp: the hexadecimal word has all letters
abbrev pub lettered : ModelState
lettered = start_state (place_set true true true true false true false true false true) 3567

abbrev pub fields : Fields
fields = record { step = codes "a"; call = codes "b"; answer = codes "c"; word = codes "d"; part = codes "e" }

pub record FieldsAreTold : Type 0 where
  pub press : film_lines press_moves ≡ press_lines
  -- a first line may be that of a turn: then all is told
  pub no_start : film_lines (has_claimed ∷ []) ≡ codes "f;claim exit;claim z6;done;10082000000;,900,0\n"
  pub start : start_line all_stopped
      ≡ codes "start;80000000;claim exit,20,,1;claim entry!worn,40+,60-;turn to table!sensor,80,100+,120-,1,0;"
      ++ codes "claim first!refused,140-;claim entry!memory,160,1100,0;raise to fetch!gatelimit,180+,200,1"
  pub steps : map (λ m. step_text m all_stopped) (Feed ∷ Crane ∷ Watch ∷ [])
      ≡ codes "claim exit" ∷ codes "raise to fetch!gatelimit" ∷ codes "!worn" ∷ []
  pub word : word_text lettered ≡ codes "defabc0000000"
  pub motors : map motor_text (Off ∷ Plus ∷ Minus ∷ []) ≡ [] ∷ codes "+" ∷ codes "-" ∷ []
  pub axes : map axis_text (axis 0 ∷ record (axis 0) { motor = Minus } ∷ record (axis 2000) { motor = Plus } ∷ [])
      ≡ codes "0" ∷ codes "0-" ∷ codes "2000+" ∷ []
  pub plates : map plate_text (None ∷ Some (pos 0) ∷ Some (pos 900) ∷ []) ≡ [] ∷ codes "0" ∷ codes "900" ∷ []
  pub second_magnet : robot_text (record apart.robot { magnet1 = false; magnet2 = true }) ≡ codes "80,100+,120-,0,1"
  pub no_magnet : crane_text (record apart.crane { magnet = false }) ≡ codes "180+,200,0"
  pub replies :
      map reply_text (Ok (Settled Done 5) ∷ Ok (Settled (Refused Worn) 1048575) ∷ Ok (Busy 3 9) ∷ Err Memory ∷ [])
      ≡ codes "done" ∷ codes "worn" ∷ codes "busy" ∷ codes "memory" ∷ []
  pub nothing_asked : asked_text None ≡ []
  -- all five fields are compared
  pub same : map (is_same fields) (fields ∷ record fields { step = [] } ∷ record fields { call = [] }
      ∷ record fields { answer = [] } ∷ record fields { word = [] } ∷ record fields { part = [] } ∷ [])
      ≡ true ∷ replicate 5 false
  pub new : if_new (codes "old") (codes "older") ≡ codes "older"
  pub not_new : if_new (codes "old") (codes "old") ≡ []
  -- what a film keeps so far: each machine's own last call
  pub silence : map (at_machine nothing_said) (Feed ∷ Crane ∷ Watch ∷ []) ≡ None ∷ None ∷ None ∷ []
  pub said :
      map (at_machine (said_after (said_after nothing_said has_claimed) (press_at 980 Minus))) (Feed ∷ Press ∷ [])
      ≡ has_claimed.asked ∷ None ∷ []
  pub so_far : shown_next (shown_next no_film starts) has_claimed
      ≡ record {
        lines = text_of (starts_text ∷ codes "f;claim exit;claim z6;done;10082000000;" ∷ []);
        before = Some has_claimed;
        said = with_machine nothing_said Feed has_claimed.asked;
      }
  -- the page of a schedule that isn't cut
  pub whole : page_text (codes "x\n") 99999 ≡ PAGE_HEAD.now ++ (codes "x\n" ++ PAGE_TAIL.now)
  pub long_cut : cut_line 987654 ≡ codes "cut 987654\n"
  -- which bytes are plain: the first and the last of each range, those beside them, and the others
  pub plain : map is_plain (96 ∷ 97 ∷ 122 ∷ 123 ∷ 64 ∷ 65 ∷ 90 ∷ 91 ∷ 47 ∷ 48 ∷ 57 ∷ 58 ∷ [])
      ≡ false ∷ true ∷ true ∷ false ∷ false ∷ true ∷ true ∷ false ∷ false ∷ true ∷ true ∷ false ∷ []
  pub signs : are_plain (codes "! +,-;\n") ≡ true
  pub last_is_not : are_plain (codes "ab<") ≡ false
  pub first_is_not : are_plain (codes ".ab") ≡ false
