-- The report of a run.
use Rattle.std.specs.Prelude.{ℕ, ℤ, List, [], ◌∷◌, ◌++◌, codes, map, Option, Some, None}
use Rattle.std.specs.Fmt.{decimal, signed_decimal}
use Rattle.std.specs.List.{concat, flat_map, join_with_byte, zip}
use Rattle.cell_rules.specs.Types.{Machine, Zone, machine_word, zone_word, posture_word, owner_word, flag_word}
use Rattle.cell_rules.specs.Types.{all_machines, all_zones, all_places}
use Rattle.cell_rules.specs.ModelState.{ModelState, zone_at, is_full, plates_of}
use Rattle.cell_notes.specs.declared.counts.Counts.{Counts}
use Rattle.cell_notes.specs.declared.status.Status.{Status}
use Rattle.cell_notes.specs.declared.run_record.RunRecord.{RunRecord}
use Rattle.cell_notes.specs.Statuses.{status_word}
use Rattle.cell_report.specs.declared.audit_faults.AuditFault.{AuditFault}
use Rattle.cell_report.specs.declared.audit_faults.AuditFault.TheVariants.{Twice, Gap, Differs, End, Memory}

-- words with a blank between any two
abbrev pub spaced : List (List ℕ) → List ℕ
spaced words = join_with_byte 32 words

-- for each place, whether it is full
abbrev pub places_word : ModelState → List ℕ
places_word s = concat (map (λ p. flag_word (is_full s p)) all_places)

abbrev pub version_line : List ℕ
version_line = codes "version 2"

abbrev pub start_line : ModelState → List ℕ
start_line s = spaced (codes "start" ∷ places_word s ∷ decimal s.stamp ∷ [])

-- what a machine did, and its status
abbrev pub machine_line : Machine → Counts → Status → List ℕ
machine_line m n s =
    spaced (machine_word m ∷ codes "turns" ∷ decimal n.turns ∷ codes "done" ∷ decimal n.done
    ∷ codes "read" ∷ decimal n.read ∷ codes "refused" ∷ decimal n.refused
    ∷ codes "busy" ∷ decimal n.busy ∷ status_word s ∷ [])

-- each machine
abbrev pub machine_lines : List Counts → List Status → List (List ℕ)
machine_lines counts status =
    map (λ (m, row). machine_line m row.0 row.1) (zip all_machines (zip counts status))

-- the state of a zone
abbrev pub zone_line : ModelState → Zone → List ℕ
zone_line s z =
    spaced (codes "zone" ∷ zone_word z ∷ owner_word (zone_at s z).owner ∷ flag_word (zone_at s z).flag
    ∷ posture_word (zone_at s z).posture ∷ [])

abbrev pub places_line : ModelState → List ℕ
places_line s = spaced (codes "places" ∷ places_word s ∷ [])

-- the position of each axis
abbrev pub axis_names : List (List ℕ)
axis_names =
    codes "press" ∷ codes "arm1" ∷ codes "arm2" ∷ codes "rotation" ∷ codes "lift" ∷ codes "turn"
    ∷ codes "crane" ∷ codes "gripper" ∷ []

abbrev pub axis_words : List ℕ × ℤ → List (List ℕ)
axis_words (name, position) = name ∷ signed_decimal position ∷ []

abbrev pub axes_line : List ℤ → List ℕ
axes_line axes = spaced (codes "axes" ∷ flat_map axis_words (zip axis_names axes))

-- the stamp, how many plates there are, and whether the cell is stopped
abbrev pub stamp_line : ModelState → List ℕ
stamp_line s =
    spaced (codes "stamp" ∷ decimal s.stamp ∷ codes "plates" ∷ decimal (plates_of s)
    ∷ codes "stopped" ∷ flag_word s.stopped ∷ [])

-- the fault that the audit found
abbrev pub audit_fault_text : AuditFault → List ℕ
audit_fault_text (Gap stamp) = spaced (codes "gap" ∷ decimal stamp ∷ [])
audit_fault_text (Twice stamp) = spaced (codes "twice" ∷ decimal stamp ∷ [])
audit_fault_text (Differs stamp) = spaced (codes "differs" ∷ decimal stamp ∷ [])
audit_fault_text End = codes "end"
audit_fault_text Memory = codes "memory"

abbrev pub audit_line : Option AuditFault → List ℕ
audit_line None = spaced (codes "audit" ∷ codes "ok" ∷ [])
audit_line (Some fault) = spaced (codes "audit" ∷ audit_fault_text fault ∷ [])

-- lines that are written only if the end of the run is known
abbrev pub where_known : Option ModelState → (ModelState → List (List ℕ)) → List (List ℕ)
where_known None lines = []
where_known (Some end) lines = lines end

abbrev pub end_lines : ModelState → List (List ℕ)
end_lines s = map (zone_line s) all_zones ++ places_line s ∷ []

abbrev pub report_lines : RunRecord → Option AuditFault → List (List ℕ)
report_lines r audit =
    version_line ∷ start_line r.start ∷ []
    ++ machine_lines r.counts r.status
    ++ where_known r.end end_lines
    ++ axes_line r.axes ∷ []
    ++ where_known r.end (λ s. stamp_line s ∷ [])
    ++ audit_line audit ∷ []

-- lines as they are written, each ended by a line feed
abbrev pub text_of_lines : List (List ℕ) → List ℕ
text_of_lines lines = concat (map (λ line. line ++ codes "\n") lines)

unfoldable pub report_text : RunRecord → Option AuditFault → List ℕ
report_text r audit = text_of_lines (report_lines r audit)
