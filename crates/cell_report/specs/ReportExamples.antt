-- Whole reports of runs, in which no number and no word is the same as its neighbour, and the line of each audit.
use Rattle.std.specs.Prelude.{◌≡◌, ℕ, pos, negsuc, Bool, true, false, List, [], ◌∷◌, ◌++◌, codes, map, Option, Some}
use Rattle.std.specs.Prelude.{None}
use Rattle.cell_rules.specs.Types.{Machine, Feed, Table, Robot, Crane, Watch, Posture, Closed, Moving, OpenIn, OpenOut}
use Rattle.cell_rules.specs.Types.{Journals, Z4, all_machines, all_places}
use Rattle.cell_types.specs.declared.place.Place.{Place}
use Rattle.cell_rules.specs.Names.{empty, everywhere, free_zone, insert_place, zone_map, place_set, ModelState}
use Rattle.cell_rules.specs.Names.{model_state}
use Rattle.cell_rules.specs.declared.zones.ZoneState.{ZoneState}
use Rattle.cell_notes.specs.declared.counts.Counts.{Counts}
use Rattle.cell_notes.specs.declared.status.Status.TheVariants.{Fine, Worn, Sensor, Refused, GateLimit}
use Rattle.cell_notes.specs.declared.run_record.RunRecord.{RunRecord}
use Rattle.cell_notes.specs.declared.status.Status.TheVariants.{Memory as NoMemory}
use Rattle.cell_report.specs.declared.audit_faults.AuditFault.TheVariants.{Twice, Gap, Differs, End, Memory}
use Rattle.cell_report.specs.Report.{audit_line, axes_line, machine_line, machine_lines, places_line, report_text}
use Rattle.cell_report.specs.Report.{spaced, stamp_line, start_line, text_of_lines, where_known, zone_line}

abbrev pub counts : ℕ → ℕ → ℕ → ℕ → ℕ → Counts
counts turns done read refused busy = record { turns = turns; done = done; read = read; refused = refused; busy = busy }

abbrev pub zone : Option Machine → Bool → Posture → ZoneState
zone owner flag posture = record { owner = owner; flag = flag; posture = posture }

-- five plates at the start
abbrev pub first : ModelState
first =
    model_state (everywhere free_zone) (place_set true false true false false true false true false true) 1048570 false

-- six at the end, two of them in zones, and the cell is stopped or not
abbrev pub last : Bool → ModelState
last stopped =
    model_state
    (zone_map (zone (Some Table) false Moving) (zone (Some Robot) true OpenOut) (zone None false OpenIn)
    (zone (Some Robot) false OpenIn) (zone (Some Crane) true OpenOut) (zone (Some Feed) false Closed))
    (place_set true true false false true false true false false false) 1048575 stopped

-- a run with the counts of seven machines
abbrev pub run : Option ModelState → Journals → RunRecord
run end journals = record {
  start = first;
  counts =
      counts 10 11 12 13 14 ∷ counts 20 21 22 23 24 ∷ counts 30 31 32 33 34 ∷ counts 40 41 42 43 44
      ∷ counts 50 51 52 53 54 ∷ counts 60 61 62 63 18446744073709551615 ∷ counts 70 71 72 73 74 ∷ [];
  status = Worn ∷ Sensor ∷ Refused ∷ NoMemory ∷ GateLimit ∷ Fine ∷ Worn ∷ [];
  journals = journals;
  end = end;
  axes = pos 0 ∷ pos 1 ∷ pos 20 ∷ pos 300 ∷ negsuc 3 ∷ pos 500 ∷ pos 2000 ∷ negsuc 2147483647 ∷ [];
}

abbrev pub start_and_machines : List ℕ
start_and_machines =
    codes "version 2\n"
    ++ codes "start 1010010101 1048570\n"
    ++ codes "feed turns 10 done 11 read 12 refused 13 busy 14 worn\n"
    ++ codes "table turns 20 done 21 read 22 refused 23 busy 24 sensor\n"
    ++ codes "robot turns 30 done 31 read 32 refused 33 busy 34 refused\n"
    ++ codes "press turns 40 done 41 read 42 refused 43 busy 44 memory\n"
    ++ codes "deposit turns 50 done 51 read 52 refused 53 busy 54 gatelimit\n"
    ++ codes "crane turns 60 done 61 read 62 refused 63 busy 18446744073709551615 ok\n"
    ++ codes "watch turns 70 done 71 read 72 refused 73 busy 74 worn\n"

abbrev pub zones_and_places : List ℕ
zones_and_places =
    codes "zone z1 table 0 moving\n"
    ++ codes "zone z2 robot 1 openout\n"
    ++ codes "zone z3 free 0 openin\n"
    ++ codes "zone z4 robot 0 openin\n"
    ++ codes "zone z5 crane 1 openout\n"
    ++ codes "zone z6 feed 0 closed\n"
    ++ codes "places 1100101000\n"

abbrev pub axes : List ℕ
axes = codes "axes press 0 arm1 1 arm2 20 rotation 300 lift -4 turn 500 crane 2000 gripper -2147483648\n"

-- the first line of a cell in which one place is full
abbrev pub one_at : Place → List ℕ
one_at place = start_line (model_state (everywhere free_zone) (insert_place empty place) 0 false)

-- the line of a zone that this machine owns
abbrev pub zone_of : Machine → List ℕ
zone_of owner = zone_line (model_state (everywhere (zone (Some owner) true Closed)) empty 0 false) Z4

pub record ReportsAreMet : Type 0 where
  pub places : map one_at all_places
      ≡ codes "start 1000000000 0" ∷ codes "start 0100000000 0" ∷ codes "start 0010000000 0"
      ∷ codes "start 0001000000 0" ∷ codes "start 0000100000 0" ∷ codes "start 0000010000 0"
      ∷ codes "start 0000001000 0" ∷ codes "start 0000000100 0" ∷ codes "start 0000000010 0"
      ∷ codes "start 0000000001 0" ∷ []
  pub owners : map zone_of all_machines
      ≡ codes "zone z4 feed 1 closed" ∷ codes "zone z4 table 1 closed" ∷ codes "zone z4 robot 1 closed"
      ∷ codes "zone z4 press 1 closed" ∷ codes "zone z4 deposit 1 closed" ∷ codes "zone z4 crane 1 closed"
      ∷ codes "zone z4 watch 1 closed" ∷ []
  pub no_blank : spaced [] ≡ []
  pub one_word : spaced (codes "ab" ∷ []) ≡ codes "ab"
  pub three_words : spaced (codes "ab" ∷ codes "c" ∷ codes "de" ∷ []) ≡ codes "ab c de"
  pub no_axis : axes_line [] ≡ codes "axes"
  pub two_axes : axes_line (negsuc 0 ∷ pos 7 ∷ []) ≡ codes "axes press -1 arm1 7"
  pub idle_machine : machine_line Watch (counts 0 0 0 0 0) Fine
      ≡ codes "watch turns 0 done 0 read 0 refused 0 busy 0 ok"
  pub no_machine : machine_lines [] [] ≡ []
  pub stopped : stamp_line (model_state (everywhere free_zone) empty 7 true) ≡ codes "stamp 7 plates 0 stopped 1"
  pub no_place : places_line (model_state (everywhere free_zone) empty 7 true) ≡ codes "places 0000000000"
  pub unknown : where_known None (λ s. stamp_line s ∷ []) ≡ []
  pub no_line : text_of_lines [] ≡ []
  pub two_lines : text_of_lines (codes "a b" ∷ [] ∷ []) ≡ codes "a b\n\n"
  pub with_end_and_fault : (journals : Journals) → report_text (run (Some (last false)) journals) (Some (Differs 3))
      ≡ start_and_machines ++ zones_and_places ++ axes
      ++ codes "stamp 1048575 plates 6 stopped 0\n" ++ codes "audit differs 3\n"
  pub without_end_or_fault : (journals : Journals)
      → report_text (run None journals) None ≡ start_and_machines ++ axes ++ codes "audit ok\n"
  pub last_gap : audit_line (Some (Gap 1048575)) ≡ codes "audit gap 1048575"
  pub first_twice : audit_line (Some (Twice 1)) ≡ codes "audit twice 1"
  pub differs_at_nought : audit_line (Some (Differs 0)) ≡ codes "audit differs 0"
  pub with_end : (journals : Journals) → report_text (run (Some (last false)) journals) None
      ≡ start_and_machines ++ zones_and_places ++ axes
      ++ codes "stamp 1048575 plates 6 stopped 0\n" ++ codes "audit ok\n"
  pub with_stopped_end : (journals : Journals) → report_text (run (Some (last true)) journals) None
      ≡ start_and_machines ++ zones_and_places ++ axes
      ++ codes "stamp 1048575 plates 6 stopped 1\n" ++ codes "audit ok\n"
  pub without_end : (journals : Journals)
      → report_text (run None journals) (Some (Gap 17)) ≡ start_and_machines ++ axes ++ codes "audit gap 17\n"
  pub ok : audit_line None ≡ codes "audit ok"
  pub gap : audit_line (Some (Gap 0)) ≡ codes "audit gap 0"
  pub twice : audit_line (Some (Twice 1048575)) ≡ codes "audit twice 1048575"
  pub differs : audit_line (Some (Differs 12)) ≡ codes "audit differs 12"
  pub end : audit_line (Some End) ≡ codes "audit end"
  pub memory : audit_line (Some Memory) ≡ codes "audit memory"
