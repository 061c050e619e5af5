-- Frames with their lines, in literal text.
use Rattle.std.specs.Prelude.{◌≡◌, ℕ, pos, true, false, List, [], ◌∷◌, ◌++◌, codes, map, Some, None, Ok}
use Rattle.std.specs.List.{concat, list_any}
use Rattle.cell_rules.specs.Types.{Refused, Held, Claim, Machine, Feed, Table, Robot, Press, Deposit, Crane, Watch}
use Rattle.cell_rules.specs.Types.{Settled, Z2, Z3}
use Rattle.cell_notes.specs.Names.{each_machine, with_machine}
use Rattle.cell_notes.specs.declared.status.Status.TheVariants as status
use Rattle.cell_robot.specs.declared.robot.RobotStep.TheVariants.{AwaitPlate}
use Rattle.cell_devices.specs.declared.motor.Motor.TheVariants.{Off, Plus, Minus}
use Rattle.cell_parts.specs.declared.axis.Axis.{Axis}
use Rattle.cell_parts.specs.declared.plant.PlantState.{PlantState}
use Rattle.cell_plant.specs.Names.{starts, has_claimed, turn_of}
use Rattle.cell_plant.specs.declared.frame.Frame.{Frame}
use Rattle.cell_plant.specs.FrameExamples.{film, steps_entered}
use Rattle.cell_plant.specs.RunExamples.{busy_turn_of, stopped}
use Rattle.film_app.specs.Fields.{part_text}
use Rattle.film_app.specs.Lines.{film_lines}
use Rattle.film_app.specs.Pages.{cut_line, page_text}
use Rattle.film_app.specs.Plain.{is_plain}
use Rattle.film_app.specs.StepWords.{stopped_text}
use Rattle.film_app.specs.declared.page_head.TheConstants.{PAGE_HEAD}
use Rattle.film_app.specs.declared.page_tail.TheConstants.{PAGE_TAIL}

abbrev pub text_of : List (List ℕ) → List ℕ
text_of lines = concat (map (λ line. line ++ codes "\n") lines)

-- the line of the beginning
abbrev pub starts_text : List ℕ
starts_text =
    codes "start;80000000;claim entry,,900,0;claim entry,0,0;turn to table,0,0,300,0,0;"
    ++ codes "claim first,1000;claim entry,,,0;raise to fetch,0,900,0"

-- The feed belt claims its entry; the press finds the interlock busy; the feed belt is refused its exit; there is no
-- memory for the press's call, so that it stops; its next turn isn't taken; the watch stops the cell.
abbrev pub film_text : List ℕ
film_text =
    text_of
    (starts_text
    ∷ codes "f;claim exit;claim z6;done;10082000000;"
    ∷ codes "P;;claim z3;busy;;"
    ∷ codes "f;;claim z1;shut closed;;"
    ∷ codes "p;claim first!memory;claim z3;memory;;"
    ∷ codes "p;;;;;"
    ∷ codes "w;;stop;done;1000020082000000;"
    ∷ [])

-- Another is refused again in the same words, at another stamp; then in other words; and then it asks another thing. In
-- between a machine has a turn that changes nothing, which is told of none but itself.
abbrev pub refused_at : ℕ → Frame
refused_at stamp = record has_claimed {
  turn = Some (turn_of Robot);
  asked = Some (Claim Z3, Ok (Settled (Refused (Held Press)) stamp));
}

abbrev pub refused_otherwise : Frame
refused_otherwise = record has_claimed {
  turn = Some (turn_of Robot);
  asked = Some (Claim Z3, Ok (Settled (Refused (Held Watch)) 1));
}

abbrev pub waits : List Frame
waits =
    starts ∷ has_claimed ∷ refused_at 1 ∷ record has_claimed { turn = Some (turn_of Table); asked = None }
    ∷ refused_at 2
    ∷ record (refused_at 2) { turn = Some (busy_turn_of Robot) } ∷ refused_otherwise
    ∷ record has_claimed { turn = Some (turn_of Robot); asked = None }
    ∷ record has_claimed { turn = Some (turn_of Robot); asked = None } ∷ []

abbrev pub waits_text : List ℕ
waits_text =
    text_of
    (starts_text
    ∷ codes "f;claim exit;claim z6;done;10082000000;"
    ∷ codes "r;;claim z3;held press;;"
    ∷ codes "t"
    ∷ codes "r"
    ∷ codes "R"
    ∷ codes "r;;claim z3;held watch;;"
    ∷ codes "r;;;;;"
    ∷ codes "r"
    ∷ [])

-- no two axes, plates or switches of a part are alike
abbrev pub axis : ℕ → Axis
axis n = record { position = pos n; motor = Off }

abbrev pub apart : PlantState
apart =
    record {
      feed = record { entry = Some (pos 20); last = None; runs = true };
      table = record { lift = record (axis 40) { motor = Plus }; turn = record (axis 60) { motor = Minus } };
      robot = record {
        arm1 = axis 80;
        arm2 = record (axis 100) { motor = Plus };
        rotation = record (axis 120) { motor = Minus };
        magnet1 = true;
        magnet2 = false;
      };
      press = record (axis 140) { motor = Minus };
      deposit = record { entry = Some (pos 160); last = Some (pos 1100); runs = false };
      crane = record { travel = record (axis 180) { motor = Plus }; gripper = axis 200; magnet = true };
    }

-- the robot asks another thing; then, while it asks the same, the interlock's word alone has changed, then the part
-- alone, the step alone, and the status alone
abbrev pub asks_other : Frame
asks_other = record (refused_at 1) { asked = Some (Claim Z2, Ok (Settled (Refused (Held Press)) 1)) }

abbrev pub has_moved : Frame
has_moved = record asks_other { state = stopped; plant = apart }

abbrev pub awaits : Frame
awaits = record has_moved { steps = record steps_entered { robot = AwaitPlate } }

abbrev pub changes : List Frame
changes =
    starts ∷ has_claimed ∷ refused_at 1 ∷ asks_other ∷ record asks_other { state = stopped } ∷ has_moved ∷ awaits
    ∷ record awaits { status = with_machine (each_machine status.Fine) Robot status.Worn } ∷ []

abbrev pub changes_told : List ℕ
changes_told =
    text_of
    (starts_text
    ∷ codes "f;claim exit;claim z6;done;10082000000;"
    ∷ codes "r;;claim z3;held press;;"
    ∷ codes "r;;claim z2;held press;;"
    ∷ codes "r;;claim z2;held press;1000020082000000;"
    ∷ codes "r;;claim z2;held press;;80,100+,120-,1,0"
    ∷ codes "r;await plate;claim z2;held press;;"
    ∷ codes "r;await plate!worn;claim z2;held press;;"
    ∷ [])

-- Busy turns have capital letters. In them nothing is asked, and nothing changes.
abbrev pub busy_turn : Machine → Frame
busy_turn m = record starts { turn = Some (busy_turn_of m) }

abbrev pub busy_turns : List Frame
busy_turns = starts ∷ map busy_turn (Feed ∷ Table ∷ Robot ∷ Press ∷ Deposit ∷ Crane ∷ Watch ∷ [])

abbrev pub busy_text : List ℕ
busy_text =
    text_of
    (starts_text
    ∷ codes "F" ∷ codes "T" ∷ codes "R" ∷ codes "P" ∷ codes "D" ∷ codes "C" ∷ codes "W" ∷ [])

pub record LineExamples : Type 0 where
  pub none : film_lines [] ≡ []
  pub literal : film_lines film ≡ film_text
  pub waiting : film_lines waits ≡ waits_text
  pub one_change : film_lines changes ≡ changes_told
  pub busy : film_lines busy_turns ≡ busy_text
  pub feed : part_text Feed apart ≡ codes "20,,1"
  pub table : part_text Table apart ≡ codes "40+,60-"
  pub robot : part_text Robot apart ≡ codes "80,100+,120-,1,0"
  pub press : part_text Press apart ≡ codes "140-"
  pub deposit : part_text Deposit apart ≡ codes "160,1100,0"
  pub crane : part_text Crane apart ≡ codes "180+,200,1"
  pub watch : part_text Watch apart ≡ []
  pub stopped :
      map stopped_text
      (status.Fine ∷ status.Worn ∷ status.Sensor ∷ status.Refused ∷ status.Memory ∷ status.GateLimit ∷ [])
      ≡ [] ∷ codes "!worn" ∷ codes "!sensor" ∷ codes "!refused" ∷ codes "!memory" ∷ codes "!gatelimit" ∷ []
  pub escaped : list_any is_plain (codes "<>&\"'/\\=`") ≡ false
  pub uncut : cut_line 100000 ≡ []
  pub cut : cut_line 100001 ≡ codes "cut 100001\n"
  pub page : page_text (codes "x\n") 100001 ≡ PAGE_HEAD.now ++ (codes "x\n" ++ (codes "cut 100001\n" ++ PAGE_TAIL.now))
