-- The lines of a report, whatever their numbers, words and machines are.
use Rattle.std.specs.Prelude.{◌≡◌, ℕ, ℤ, List, [], ◌∷◌, ◌++◌, codes, map, Option, Some, None}
use Rattle.std.specs.Fmt.{decimal, signed_decimal}
use Rattle.std.specs.List.{concat}
use Rattle.cell_rules.specs.Types.{Machine, Feed, Table, Robot, Press, Deposit, Crane, Watch, Zone, machine_word}
use Rattle.cell_rules.specs.Types.{Z1, Z2, Z3, Z4, Z5, Z6, all_machines}
use Rattle.cell_rules.specs.Types.{zone_word, posture_word, owner_word, flag_word, all_places}
use Rattle.cell_rules.specs.ModelState.{ModelState, zone_at, is_full, plates_of}
use Rattle.cell_notes.specs.declared.counts.Counts.{Counts}
use Rattle.cell_notes.specs.declared.status.Status.{Status}
use Rattle.cell_notes.specs.declared.run_record.RunRecord.{RunRecord}
use Rattle.cell_notes.specs.Statuses.{status_word}
use Rattle.cell_report.specs.declared.audit_faults.AuditFault.{AuditFault}
use Rattle.cell_report.specs.declared.audit_faults.AuditFault.TheVariants.{Twice, Gap, Differs}
use Rattle.cell_report.specs.Report.{audit_line, axes_line, machine_line, machine_lines, places_line, report_text}
use Rattle.cell_report.specs.Report.{stamp_line, start_line, text_of_lines, zone_line}

-- a digit for each place
abbrev pub digits_of : ModelState → List ℕ
digits_of s = concat (map (λ p. flag_word (is_full s p)) all_places)

-- a record with what each machine did, how it ended, and this end
abbrev pub with_machines : RunRecord → (Machine → Counts) → (Machine → Status) → Option ModelState → RunRecord
with_machines r did ended end = record r { counts = map did all_machines; status = map ended all_machines; end = end }

pub record LinesByNumber : Type 0 where
  pub machine : (m : Machine) (c : Counts) (s : Status) → machine_line m c s
      ≡ machine_word m ++ (codes " turns " ++ (decimal c.turns ++ (codes " done " ++ (decimal c.done
      ++ (codes " read " ++ (decimal c.read ++ (codes " refused " ++ (decimal c.refused
      ++ (codes " busy " ++ (decimal c.busy ++ (codes " " ++ status_word s)))))))))))
  pub machines : (a b c d e f g : Counts) (s t u v w x y : Status)
      → machine_lines (a ∷ b ∷ c ∷ d ∷ e ∷ f ∷ g ∷ []) (s ∷ t ∷ u ∷ v ∷ w ∷ x ∷ y ∷ [])
      ≡ machine_line Feed a s ∷ machine_line Table b t ∷ machine_line Robot c u ∷ machine_line Press d v
      ∷ machine_line Deposit e w ∷ machine_line Crane f x ∷ machine_line Watch g y ∷ []
  pub start : (s : ModelState) → start_line s
      ≡ codes "start " ++ (digits_of s ++ (codes " " ++ decimal s.stamp))
  pub places : (s : ModelState) → places_line s ≡ codes "places " ++ digits_of s
  pub zone : (s : ModelState) (z : Zone) → zone_line s z
      ≡ codes "zone " ++ (zone_word z ++ (codes " " ++ (owner_word (zone_at s z).owner ++ (codes " "
      ++ (flag_word (zone_at s z).flag ++ (codes " " ++ posture_word (zone_at s z).posture))))))
  pub axes : (press arm1 arm2 rotation lift turn crane gripper : ℤ)
      → axes_line (press ∷ arm1 ∷ arm2 ∷ rotation ∷ lift ∷ turn ∷ crane ∷ gripper ∷ [])
      ≡ codes "axes press " ++ (signed_decimal press ++ (codes " arm1 " ++ (signed_decimal arm1
      ++ (codes " arm2 " ++ (signed_decimal arm2 ++ (codes " rotation " ++ (signed_decimal rotation
      ++ (codes " lift " ++ (signed_decimal lift ++ (codes " turn " ++ (signed_decimal turn
      ++ (codes " crane " ++ (signed_decimal crane ++ (codes " gripper " ++ signed_decimal gripper))))))))))))))
  pub stamp : (s : ModelState) → stamp_line s
      ≡ codes "stamp " ++ (decimal s.stamp ++ (codes " plates " ++ (decimal (plates_of s)
      ++ (codes " stopped " ++ flag_word s.stopped))))
  pub gap : (stamp : ℕ) → audit_line (Some (Gap stamp)) ≡ codes "audit gap " ++ decimal stamp
  pub twice : (stamp : ℕ) → audit_line (Some (Twice stamp)) ≡ codes "audit twice " ++ decimal stamp
  pub differs : (stamp : ℕ) → audit_line (Some (Differs stamp)) ≡ codes "audit differs " ++ decimal stamp
  -- a report has these lines, in this order; without an end it has no zones, places and stamp
  pub without_end : (r : RunRecord) (did : Machine → Counts) (ended : Machine → Status) (audit : Option AuditFault)
      → report_text (with_machines r did ended None) audit
      ≡ text_of_lines (codes "version 2" ∷ start_line r.start ∷ machine_line Feed (did Feed) (ended Feed)
      ∷ machine_line Table (did Table) (ended Table) ∷ machine_line Robot (did Robot) (ended Robot)
      ∷ machine_line Press (did Press) (ended Press) ∷ machine_line Deposit (did Deposit) (ended Deposit)
      ∷ machine_line Crane (did Crane) (ended Crane) ∷ machine_line Watch (did Watch) (ended Watch)
      ∷ axes_line r.axes ∷ audit_line audit ∷ [])
  pub with_end : (r : RunRecord) (did : Machine → Counts) (ended : Machine → Status) (audit : Option AuditFault)
      (s : ModelState) → report_text (with_machines r did ended (Some s)) audit
      ≡ text_of_lines (codes "version 2" ∷ start_line r.start ∷ machine_line Feed (did Feed) (ended Feed)
      ∷ machine_line Table (did Table) (ended Table) ∷ machine_line Robot (did Robot) (ended Robot)
      ∷ machine_line Press (did Press) (ended Press) ∷ machine_line Deposit (did Deposit) (ended Deposit)
      ∷ machine_line Crane (did Crane) (ended Crane) ∷ machine_line Watch (did Watch) (ended Watch)
      ∷ zone_line s Z1 ∷ zone_line s Z2 ∷ zone_line s Z3 ∷ zone_line s Z4 ∷ zone_line s Z5 ∷ zone_line s Z6
      ∷ places_line s ∷ axes_line r.axes ∷ stamp_line s ∷ audit_line audit ∷ [])
  pub lines : (line : List ℕ) (later : List (List ℕ)) → text_of_lines (line ∷ later)
      ≡ (line ++ codes "\n") ++ text_of_lines later
