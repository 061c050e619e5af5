-- The lines of screens and of tallies, in literal text; and tallies of a few starts.
use Rattle.std.specs.Prelude.{◌≡◌, true, false, [], ◌∷◌, ◌++◌, codes, Some, None}
use Rattle.cell_rules.specs.Types.{Feed, Table, Robot, Press}
use Rattle.cell_rules.specs.Types.{Claim, Give, Take, SetPose, Middle, Z1, Z2, Z3}
use Rattle.cell_rules.specs.Types.{Done, Refused, Held, NotOwner, PlaceFull}
use Rattle.cell_rules.specs.Names.{ModelState, empty, place_set, start_state}
use Rattle.cell_explorer.specs.declared.turning.Prospect.TheVariants.{Acts, Waits, Stops}
use Rattle.cell_explorer.specs.declared.exploring.Explored.TheVariants as explored
use Rattle.cell_liveness.specs.declared.answers.Progress.TheVariants.{Within, Starves, Unknown}
use Rattle.explore_app.specs.declared.bound.Bound.{Bound}
use Rattle.explore_app.specs.declared.tally.Tally.{Tally}
use Rattle.explore_app.specs.declared.ending.Ending.TheVariants as ending
use Rattle.explore_app.specs.declared.liveness.Liveness.{Liveness}
use Rattle.explore_app.specs.declared.liveness.Liveness.TheVariants as liveness
use Rattle.explore_app.specs.Liveness.{both, going_line, liveness_of, machines_line, may_starve}
use Rattle.explore_app.specs.Rings.{going_on_line, is_about, refused_line, waiting_line}
use Rattle.explore_app.specs.Screens.{ending_line, free_line, plates_line, schedule_key, start_key}
use Rattle.explore_app.specs.Starving.{acts, is_of_round, stem_line, weak_line}
use Rattle.explore_app.specs.Tallies.{both_tallies, no_tally, tally_line, tally_of}

abbrev pub bound : Bound
bound = record { plain = 26; helped = 2 }

abbrev pub other_bound : Bound
other_bound = record { plain = 9; helped = 3 }

-- plates at the feed belt's end and on the crane
abbrev pub two_plates : ModelState
two_plates = start_state (place_set false true false false false false false false false true) 0

-- no start; one with 700 situations and a bound; one with 800 from which a machine may starve; one with 900 of which
-- that isn't known
abbrev pub none : Tally
none = no_tally

abbrev pub bounded : Tally
bounded = tally_of (explored.Free 700) (liveness.Within bound)

abbrev pub starving : Tally
starving = tally_of (explored.Free 800) liveness.Starves

abbrev pub unknown : Tally
unknown = tally_of (explored.Free 900) liveness.Unknown

-- of two starts one stands still, after 3 turns; from the other a machine is refused, after 5
abbrev pub stuck : Tally
stuck = record none { starts = 1; fewest_turns = 3; most_turns = 3 }

abbrev pub refused : Tally
refused = record none { starts = 1; refused = 1; fewest_turns = 5; most_turns = 5 }

-- a number of starts that is too large to be counted, and one more
abbrev pub many : Tally
many = record none { starts = 4294967295 }

pub record LinesAreMet : Type 0 where
  pub plates : plates_line two_plates ≡ codes "# plates 2\n"
  pub start : start_key two_plates ≡ codes "start = \"0100000001\"\n"
  pub schedule :
      schedule_key (record { machine = Feed; busy = false } ∷ record { machine = Press; busy = true } ∷ [])
      ≡ codes "schedule = \"fP\"\n"
  pub free :
      free_line 49902 ≡ codes "# no standstill in any schedule before the last stamp: 49902 situations\n"
  pub standstill : ending_line ending.Standstill 59 ≡ codes "# a standstill after 59 turns, and no fewer\n"
  pub refusal :
      ending_line ending.Refusal 2 ≡ codes "# a refusal that stops a machine after 2 turns, and no fewer\n"
  pub waits_for_owner :
      waiting_line Feed (Claim Z1) (Refused (Held Table)) ≡ codes "# feed waits for table: claim z1: held table\n"
  pub waits_for_lender :
      waiting_line Press (Take Z3) (Refused (NotOwner (Some Robot)))
      ≡ codes "# press waits for robot: take z3: notowner robot\n"
  pub waits_for_party :
      waiting_line Press (Take Z3) (Refused (NotOwner None)) ≡ codes "# press waits for robot: take z3: notowner free\n"
  pub waits_for_host :
      waiting_line Robot (Give Z3) (Refused PlaceFull) ≡ codes "# robot waits for press: give z3: placefull\n"
  pub waits_for_nobody :
      waiting_line Press (SetPose Middle) (Refused PlaceFull)
      ≡ codes "# press waits for nobody: pose middle: placefull\n"
  pub is_refused :
      refused_line Table (Give Z2) (Refused PlaceFull) ≡ codes "# table is refused: give z2: placefull\n"
  pub goes_on : going_on_line Robot (Claim Z3) Done ≡ codes "# robot goes on: claim z3: done\n"
  pub stem :
      stem_line 127 ≡ codes "# no plate moves any more, if after 127 turns these go on for ever:\n"
  pub weak :
      weak_line (Some bound)
      ≡ codes "# a plate moves within k * 26 + k * k * 2 steps of each weakly fair schedule\n"
  pub weak_unknown : weak_line None ≡ codes "# it isn't known whether plates starve\n"
  pub going :
      going_line (liveness.Within bound)
      ≡ codes "# plates go on: a plate moves within k * 26 + k * k * 2 steps of a fair schedule\n"
  pub going_starves : going_line liveness.Starves ≡ codes "# in some fair schedule plates may stand for ever\n"
  pub going_unknown : going_line liveness.Unknown ≡ codes "# it isn't known whether plates move for ever\n"
  pub machines :
      machines_line (liveness.Within other_bound)
      ≡ codes "# each machine moves a plate within k * 9 + k * k * 3 steps\n"
  pub machines_starve :
      machines_line liveness.Starves ≡ codes "# in some fair schedule a machine may move no plate for ever\n"
  pub machines_unknown :
      machines_line liveness.Unknown ≡ codes "# it isn't known whether each machine moves plates for ever\n"

-- what is told of two answers, which machines an ending is about, and which turns are of a round
pub record ChoicesAreMet : Type 0 where
  pub within : liveness_of (Within 26 2) ≡ liveness.Within bound
  pub starve : (stem cycle : _) → liveness_of (Starves stem cycle) ≡ liveness.Starves
  pub unknown : (reason : _) → liveness_of (Unknown reason) ≡ liveness.Unknown
  -- a machine that is known to starve says more than one of which it isn't known
  pub both_within :
      both (liveness.Within bound) (liveness.Within other_bound)
      ≡ liveness.Within (record { plain = 26; helped = 3 })
  pub first_unknown : both liveness.Unknown (liveness.Within bound) ≡ liveness.Unknown
  pub second_unknown : both (liveness.Within bound) liveness.Unknown ≡ liveness.Unknown
  pub both_unknown : both liveness.Unknown liveness.Unknown ≡ liveness.Unknown
  pub first_starves : both liveness.Starves (liveness.Within bound) ≡ liveness.Starves
  pub second_starves : both (liveness.Within bound) liveness.Starves ≡ liveness.Starves
  pub starves_beside_unknown : both liveness.Starves liveness.Unknown ≡ liveness.Starves
  pub unknown_beside_starves : both liveness.Unknown liveness.Starves ≡ liveness.Starves
  pub both_starve : both liveness.Starves liveness.Starves ≡ liveness.Starves
  -- status 1 comes where something starves, and not where that isn't known
  pub starving_warns : may_starve liveness.Starves ≡ true
  pub unknown_does_not : may_starve liveness.Unknown ≡ false
  pub going_does_not : may_starve (liveness.Within other_bound) ≡ false
  pub standstill_waits : is_about ending.Standstill Waits ≡ true
  pub standstill_acts : is_about ending.Standstill Acts ≡ false
  pub standstill_stops : is_about ending.Standstill Stops ≡ false
  pub refusal_stops : is_about ending.Refusal Stops ≡ true
  pub refusal_waits : is_about ending.Refusal Waits ≡ false
  pub round_waits : is_of_round false Waits ≡ true
  pub round_acts : is_of_round false Acts ≡ false
  pub round_stops : is_of_round false Stops ≡ false
  pub act : acts Acts ≡ true
  pub waits_act : acts Waits ≡ false

-- the lines of tallies
pub record TalliesAreMet : Type 0 where
  pub no_start :
      tally_line 7 none ≡ codes "plates 7 starts 0: no standstill before the last stamp; at most 0 situations\n"
  pub all_go_on :
      tally_line 1 (both_tallies none bounded)
      ≡ codes "plates 1 starts 1: no standstill before the last stamp; at most 700 situations; "
      ++ codes "each machine moves a plate within k * 26 + k * k * 2 steps\n"
  pub one_may_not :
      tally_line 3 (both_tallies bounded starving)
      ≡ codes "plates 3 starts 2: no standstill before the last stamp; at most 800 situations; "
      ++ codes "from 1 a machine may move no plate for ever\n"
  pub two_may_not :
      tally_line 3 (both_tallies starving starving)
      ≡ codes "plates 3 starts 2: no standstill before the last stamp; at most 800 situations; "
      ++ codes "from 2 a machine may move no plate for ever\n"
  pub one_is_unknown :
      tally_line 2 (both_tallies unknown bounded)
      ≡ codes "plates 2 starts 2: no standstill before the last stamp; at most 900 situations; "
      ++ codes "of 1 it isn't known whether each machine moves plates for ever\n"
  pub one_of_each :
      tally_line 5 (both_tallies (both_tallies unknown starving) (both_tallies bounded unknown))
      ≡ codes "plates 5 starts 4: no standstill before the last stamp; at most 900 situations; "
      ++ codes "from 1 a machine may move no plate for ever; "
      ++ codes "of 2 it isn't known whether each machine moves plates for ever\n"
  pub one_stands : tally_line 0 stuck ≡ codes "plates 0 starts 1: 1 stand still after 3 to 3 turns\n"
  pub two_end :
      tally_line 4 (both_tallies (both_tallies stuck refused) bounded)
      ≡ codes "plates 4 starts 3: 1 stand still, and in 1 a machine is stopped by a refusal, after 3 to 5 turns\n"
  pub counted : both_tallies many stuck ≡ record stuck { starts = 4294967295 }
