-- Whole screens in literal text; and what the program's words ask for.
use Rattle.std.specs.Prelude.{◌≡◌, ℕ, true, false, List, [], ◌∷◌, ◌++◌, codes, length, map, Option, Some, None}
use Rattle.std.specs.Global.{Vec}
use Rattle.cell_types.specs.declared.machine.Machine.{Machine}
use Rattle.cell_rules.specs.Types.{Feed, Table, Robot, Press, Deposit, Crane, Watch, Call, Claim, Yield, Take, Release}
use Rattle.cell_rules.specs.Types.{Inquire, Advance, Stop, Resume, Closed, Refused, Shut, Held, Z1, Z2, Z3, Z4, Z5, Z6}
use Rattle.cell_notes.specs.ByMachine.{each_machine}
use Rattle.cell_notes.specs.declared.by_machine.ByMachine.{ByMachine}
use Rattle.cell_notes.specs.declared.schedule.Turn.{Turn}
use Rattle.cell_explorer.specs.declared.turning.Prospect.{Prospect}
use Rattle.cell_explorer.specs.declared.turning.Prospect.TheVariants.{Acts, Waits, Stops}
use Rattle.cell_explorer.specs.declared.exploring.Explored.TheVariants as explored
use Rattle.cell_explorer.specs.declared.walk.NextTurn.{NextTurn}
use Rattle.cell_explorer.specs.declared.walk.Walk.{Walk}
use Rattle.cell_liveness.specs.declared.answers.Plates.{Plates}
use Rattle.cell_liveness.specs.declared.answers.Progress.TheVariants.{Within, Starves, Unknown}
use Rattle.explore_app.specs.declared.ending.Ending.TheVariants as ending
use Rattle.explore_app.specs.declared.liveness.Liveness.TheVariants as liveness
use Rattle.explore_app.specs.declared.request.Request.{Request}
use Rattle.explore_app.specs.declared.request.Request.TheVariants as request
use Rattle.explore_app.specs.declared.step.Step.{Step}
use Rattle.explore_app.specs.Liveness.{any_starves, liveness_of, liveness_of_each}
use Rattle.explore_app.specs.LineExamples.{bound, none, other_bound, two_plates}
use Rattle.explore_app.specs.Requests.{request_of}
use Rattle.explore_app.specs.Rings.{party_awaited, zone_of}
use Rattle.explore_app.specs.Screens.{ending_screen, free_screen}
use Rattle.explore_app.specs.Starving.{going_turns, is_idle, round_screen, weak_screen}
use Rattle.explore_app.specs.Tallies.{both_tallies, no_tally, tally_line, tally_of}

-- ---- whole screens

-- the feed belt and the robot wait, the press is refused, the deposit belt acts, and others drive
abbrev pub asks : Call → Prospect → NextTurn
asks call prospect = record { call = Some call; prospect = prospect }

abbrev pub next_turns : ByMachine NextTurn
next_turns = record (each_machine (record { call = None; prospect = Acts })) {
  feed = asks (Claim Z6) Waits;
  robot = asks (Claim Z3) Waits;
  press = asks (Take Z3) Stops;
  deposit = asks (Claim Z4) Acts;
}

abbrev pub at_two : Walk → Walk
at_two walk = record walk { end = record walk.end { state = two_plates }; next = next_turns }

abbrev pub turns : List Turn
turns = record { machine = Feed; busy = false } ∷ record { machine = Press; busy = true } ∷ []

-- each machine moves plates by another bound
abbrev pub each_moves : Plates
each_moves = record {
  any = Within 90 91;
  feed = Within 10 20;
  table = Within 11 21;
  robot = Within 12 22;
  press = Within 13 23;
  deposit = Within 14 24;
  crane = Within 15 25;
}

-- in a round the feed belt goes on, and the robot waits
abbrev pub round : Walk → List Step
round walk =
    record { machine = Feed; call = Claim Z6; goes_on = true; walk = at_two walk }
    ∷ record { machine = Robot; call = Claim Z3; goes_on = false; walk = at_two walk } ∷ []

pub record ScreensAreMet : Type 0 where
  pub free :
      free_screen two_plates 700 each_moves
      ≡ codes "# plates 2\n"
      ++ codes "# no standstill in any schedule before the last stamp: 700 situations\n"
      ++ codes "# plates go on: a plate moves within k * 90 + k * k * 91 steps of a fair schedule\n"
      ++ codes "# each machine moves a plate within k * 15 + k * k * 25 steps\n"
      ++ codes "start = \"0100000001\"\n"
  pub standstill : (walk : Walk)
      → ending_screen two_plates ending.Standstill 3 (at_two walk) turns
      ≡ codes "# plates 2\n# a standstill after 3 turns, and no fewer\n"
      ++ codes "# feed waits for crane: claim z6: done\n"
      ++ codes "# robot waits for press: claim z3: shut closed\n"
      ++ codes "start = \"0100000001\"\nschedule = \"fP\"\n"
  pub refusal : (walk : Walk)
      → ending_screen two_plates ending.Refusal 4 (at_two walk) turns
      ≡ codes "# plates 2\n# a refusal that stops a machine after 4 turns, and no fewer\n"
      ++ codes "# press is refused: take z3: notowner free\n"
      ++ codes "start = \"0100000001\"\nschedule = \"fP\"\n"
  pub starving : (walk : Walk)
      → round_screen two_plates 127 (round walk) turns
      ≡ codes "# plates 2\n# no plate moves any more, if after 127 turns these go on for ever:\n"
      ++ codes "# feed goes on: claim z6: done\n"
      ++ codes "# robot waits for press: claim z3: shut closed\n"
      ++ codes "start = \"0100000001\"\nschedule = \"fP\"\n"
  pub weak :
      weak_screen two_plates (Some bound)
      ≡ codes "# plates 2\n# a plate moves within k * 26 + k * k * 2 steps of each weakly fair schedule\n"
      ++ codes "start = \"0100000001\"\n"
  pub going : (walk : Walk) → going_turns (round walk) ≡ (Feed, Claim Z6, (at_two walk).end) ∷ []
  pub no_turn_is_idle : (walk : Walk) → is_idle (at_two walk) [] ≡ true
  pub waiting_is_idle : (walk : Walk) → is_idle (at_two walk) (Feed ∷ Deposit ∷ []) ≡ true
  pub acting_is_not : (walk : Walk) → is_idle (at_two walk) (Deposit ∷ Feed ∷ []) ≡ false

-- ---- of each machine, zone and tally

-- a call of a zone's other party is awaited, if no owner is told
abbrev pub party : Machine → Call → Option Machine
party m c = party_awaited m c (Refused (Shut Closed))

pub record EachIsMet : Type 0 where
  pub slowest :
      map liveness_of_each
      (record each_moves { feed = Within 50 2 } ∷ record each_moves { table = Within 51 2 }
      ∷ record each_moves { robot = Within 52 2 } ∷ record each_moves { press = Within 53 2 }
      ∷ record each_moves { deposit = Within 54 2 } ∷ record each_moves { crane = Within 55 26 } ∷ [])
      ≡ liveness.Within (record { plain = 50; helped = 25 }) ∷ liveness.Within (record { plain = 51; helped = 25 })
      ∷ liveness.Within (record { plain = 52; helped = 25 }) ∷ liveness.Within (record { plain = 53; helped = 25 })
      ∷ liveness.Within (record { plain = 54; helped = 25 }) ∷ liveness.Within (record { plain = 55; helped = 26 })
      ∷ []
  pub unknown : (reason : _)
      → map liveness_of_each
      (record each_moves { feed = Unknown reason } ∷ record each_moves { table = Unknown reason }
      ∷ record each_moves { robot = Unknown reason } ∷ record each_moves { press = Unknown reason }
      ∷ record each_moves { deposit = Unknown reason } ∷ record each_moves { crane = Unknown reason } ∷ [])
      ≡ liveness.Unknown ∷ liveness.Unknown ∷ liveness.Unknown ∷ liveness.Unknown ∷ liveness.Unknown
      ∷ liveness.Unknown ∷ []
  pub starve : (reason : _) (stem cycle : Vec Machine)
      → map liveness_of_each
      (record each_moves { feed = Starves stem cycle } ∷ record each_moves { table = Starves stem cycle }
      ∷ record each_moves { robot = Starves stem cycle } ∷ record each_moves { press = Starves stem cycle }
      ∷ record each_moves { deposit = Starves stem cycle }
      ∷ record each_moves { crane = Starves stem cycle; feed = Unknown reason } ∷ [])
      ≡ liveness.Starves ∷ liveness.Starves ∷ liveness.Starves ∷ liveness.Starves ∷ liveness.Starves
      ∷ liveness.Starves ∷ []
  -- status 1 comes where plates or one machine starve, and else not
  pub starving_plates_warn : (stem cycle : Vec Machine)
      → any_starves (record each_moves { any = Starves stem cycle }) ≡ true
  pub starving_machine_warns : (reason : _) (stem cycle : Vec Machine)
      → any_starves (record each_moves { any = Unknown reason; table = Starves stem cycle }) ≡ true
  pub each_warns : (p : Plates) → liveness_of_each p ≡ liveness.Starves → any_starves p ≡ true
  pub any_warns : (p : Plates) → liveness_of p.any ≡ liveness.Starves → any_starves p ≡ true
  pub unknown_warns_not : (reason : _)
      → any_starves (record each_moves { any = Unknown reason; robot = Unknown reason }) ≡ false
  pub going_warns_not : any_starves each_moves ≡ false
  pub zones :
      map zone_of (Yield Z4 ∷ Release Z5 ∷ Inquire Z6 ∷ Advance ∷ Stop ∷ Resume ∷ [])
      ≡ Some Z4 ∷ Some Z5 ∷ Some Z6 ∷ None ∷ None ∷ None ∷ []
  pub parties :
      party Feed (Claim Z1) ∷ party Table (Release Z1) ∷ party Table (Yield Z2) ∷ party Robot (Inquire Z2)
      ∷ party Robot (Claim Z4) ∷ party Deposit (Claim Z5) ∷ party Crane (Claim Z6) ∷ party Watch Stop ∷ []
      ≡ Some Table ∷ Some Feed ∷ Some Robot ∷ Some Table ∷ Some Deposit ∷ Some Crane ∷ Some Feed ∷ None ∷ []
  pub owner_awaited : party_awaited Robot (Claim Z3) (Refused (Held Watch)) ≡ Some Watch
  pub stuck : (way : Vec Machine) → length way.items ≡ 3
      → tally_line 0 (tally_of (explored.Standstill way) liveness.Unknown)
      ≡ codes "plates 0 starts 1: 1 stand still after 3 to 3 turns\n"
  pub stopped : (way : Vec Machine) → length way.items ≡ 5
      → tally_line 4 (tally_of (explored.Refusal way) liveness.Unknown)
      ≡ codes "plates 4 starts 1: 0 stand still, and in 1 a machine is stopped by a refusal, after 5 to 5 turns\n"
  pub bounded :
      tally_line 1 (tally_of (explored.Free 700) (liveness.Within bound))
      ≡ codes "plates 1 starts 1: no standstill before the last stamp; at most 700 situations; "
      ++ codes "each machine moves a plate within k * 26 + k * k * 2 steps\n"
  pub fewest : no_tally.fewest_turns ≡ 18446744073709551615
  pub both :
      both_tallies
      (record {
        starts = 1;
        free = 2;
        refused = 3;
        bounded = 4;
        bound = bound;
        starving = 8;
        most_situations = 5;
        fewest_turns = 6;
        most_turns = 7;
      })
      (record {
        starts = 10;
        free = 20;
        refused = 30;
        bounded = 40;
        bound = other_bound;
        starving = 80;
        most_situations = 50;
        fewest_turns = 5;
        most_turns = 70;
      })
      ≡ record {
        starts = 11;
        free = 22;
        refused = 33;
        bounded = 44;
        bound = record { plain = 26; helped = 3 };
        starving = 88;
        most_situations = 50;
        fewest_turns = 5;
        most_turns = 70;
      }
  pub counted :
      both_tallies
      (record none { free = 4294967295; refused = 4294967294; bounded = 4294967295; starving = 4294967293 })
      (record none { free = 1; refused = 2; bounded = 3; starving = 4 })
      ≡ record none { free = 4294967295; refused = 4294967295; bounded = 4294967295; starving = 4294967295 }

-- ---- the program's words

-- these words after the program's name ask for this
abbrev pub asked_after_name : List (List ℕ) → Option Request
asked_after_name words = request_of (codes "explore" ∷ words)

pub record RequestsAreMet : Type 0 where
  pub no_name : request_of [] ≡ None
  pub nothing : asked_after_name [] ≡ Some request.Start
  pub all : asked_after_name (codes "--all" ∷ []) ≡ Some request.All
  pub starve : asked_after_name (codes "--starve" ∷ []) ≡ Some request.Starve
  pub help : asked_after_name (codes "--help" ∷ []) ≡ Some request.Help
  pub help_of_all : asked_after_name (codes "--all" ∷ codes "--help" ∷ []) ≡ Some request.Help
  pub help_of_starve : asked_after_name (codes "--starve" ∷ codes "--help" ∷ []) ≡ Some request.Help
  pub help_of_other_word : asked_after_name (codes "--loop" ∷ codes "--help" ∷ []) ≡ None
  pub version : asked_after_name (codes "--version" ∷ []) ≡ Some request.Version
  pub other_word : asked_after_name (codes "--al" ∷ []) ≡ None
  pub word_more : asked_after_name (codes "--all" ∷ codes "--starve" ∷ []) ≡ None
