-- What exit statuses say.
use Rattle.std.proofs.Common.{◌≡◌, ◌≢◌, ◌≤◌, ◌∙◌, inl, inr, ℕ, List, [], ◌∷◌, ◌++◌, length, Option, Some, None, refl, sym, ap, subst, arith, rules, ⊎_elim}
use Rattle.std.proofs.lemmas.List.Elements.{All-head, All-tail}
use Rattle.cell_plant.specs.Machines.{on_curves}
use Rattle.cell_notes.specs.declared.status.Status.TheVariants.{Fine, Worn, Sensor, GateLimit}
use Rattle.cell_report.specs.declared.audit_faults.AuditFault.TheVariants.{Gap}
use Rattle.std.proofs.lemmas.List.{length-append}
use Rattle.text_io.specs.Input.{TakesAtMost}
use Rattle.cell_notes.specs.declared.run_record.RunRecord.{RunRecord}
use Rattle.cell_report.specs.declared.audit_faults.AuditFault.{AuditFault}
use Rattle.cell_app.specs.Reported.{AreFine, IsAmiss}
use Rattle.cell_app.specs.Served.{IsAuditOf}
use Rattle.cell_app.proofs.LawLemmas.{had_turns, well}
use Rattle.cell_app.specs.Statuses.{FineExamples, HadMemoryOrNot, ReplaysTell, ReportsTell, RunsTell, SimulationsTell, StatusesTell}

all_taken : (most : ℕ) (bytes : List ℕ) → TakesAtMost (Some bytes) (Some []) most → length bytes ≤ most
all_taken most bytes k = let h = k.1 in let all : length bytes ≡ length (k.0 ++ []) = ap length k.2 in omega (arith, h, all, length-append k.0 [])

replays : (bytes : List ℕ) → ReplaysTell bytes
replays bytes = record {
  well = λ text rest k. k.well refl;
  appended = λ rest old new k. k.well refl;
  takes = λ exit rest old new k. (k.status, k.taken);
  failed = λ rest old new k refused part read memory.
      ⊎_elim (λ c. refused c.1.0 c.1.1 c.0)
      (λ d. ⊎_elim (λ c. part c) (λ c. ⊎_elim (λ w. read c.0 c.1.0 w) (λ w. memory c.0 c.1.0 w) c.1.1) d) (k.failed refl);
  took = λ exit old new k. all_taken 4194305 bytes k.taken;
}

simulations : (bytes : List ℕ) → SimulationsTell bytes
simulations bytes = record {
  run = λ r k. (k.settings, k.said, k.scales, k.points, k.run);
  well = λ text rest k. let w = k.well refl in (w.0, w.1.0.0, w.1.1.0, w.1.1.1);
  appended = λ rest old new k. let w = k.well refl in (w.0, w.1.0.0, w.1.1.0, w.1.1.1);
  only_text = λ text rest k s l fine. let w = k.well refl in w.1.1.1 ∙ sym (w.1.0.1 w.1.1.0 s None l fine);
  one_report = λ r s audit k fine l other. k.1 fine s audit l other;
  of_one = λ r k. k.0;
  takes = λ exit rest old new k. (k.status, k.taken);
  failed = λ rest old new k refused memory report.
      ⊎_elim (λ c. refused c.0 c.1.0 c.1.1) (λ d. ⊎_elim (λ c. memory c) (λ c. report c.0 c.1.0.0 c.1.1) d) (k.failed refl);
  took = λ exit old new k. all_taken 2097153 bytes k.taken;
}

runs : (turns tries : ℕ) (bytes : List ℕ) → RunsTell turns tries bytes
runs turns tries bytes = record {
  run = λ r k. (k.settings, k.said, k.scales, k.points, k.run);
  well = λ text rest k. let w = k.well refl in (w.0, w.1.0, w.1.1.0, w.1.1.1);
  appended = λ rest old new k. let w = k.well refl in (w.0, w.1.0, w.1.1.0, w.1.1.1);
  no_gate = λ r did statuses k counts status m e.
      had_turns k.scales (on_curves k.settings.curves) k.settings.start tries turns r did statuses k.run counts status m e;
  takes = λ exit rest old new k. (k.status, k.taken);
  each_had_its_turns = λ text rest k.
      let w = well.ran turns tries bytes text (k.well refl) in
      (w.0, w.2, w.3.1, w.4);
  failed = λ rest old new k refused memory spawn report.
      ⊎_elim (λ c. refused c.0 c.1.0 c.1.1)
      (λ d. ⊎_elim (λ c. memory c) (λ e. ⊎_elim (λ c. spawn c) (λ c. report c.0 c.1.0 c.1.1) e) d) (k.failed refl);
  took = λ exit old new k. all_taken 2097153 bytes k.taken;
}

had : (audit : Option AuditFault) → IsAuditOf audit → HadMemoryOrNot audit
had None k = inl refl
had (Some fault) k = inr (ap Some k)

amiss : (r : RunRecord) (audit : Option AuditFault) → IsAmiss r audit → AreFine r.status → audit ≢ None
amiss r audit (inl stopped) fine e = stopped fine
amiss r audit (inr k) fine e = let is = k.1 in cc

reports : (r : RunRecord) (old new : Option (List ℕ)) → ReportsTell r old new
reports r old new = record {
  fails = λ k whole part.
      ⊎_elim (λ c. whole k.0 (had k.0 k.1.0) c.0 c.1) (λ w. part k.0 (had k.0 k.1.0) w) k.1.1;
  well = λ k. (k.0, k.1.0, k.1.1);
  failed = λ k whole part. ⊎_elim (λ c. whole k.0 k.1.0 c.1 c.0) (λ w. part k.0 k.1.0 w) k.1.1;
  refused = λ k. k;
  amiss = amiss r;
  written_whole = λ audit finds is whole. (audit, (finds, inl (whole, is)));
  written_in_part = λ audit finds part. (audit, (finds, inr part));
  found = λ fault k. k;
}

-- ---- the examples

fines : FineExamples
fines = record {
  none = search rules;
  three = search rules;
  first_worn = λ k. let e = All-head (λ s. s ≡ Fine) Worn (Fine ∷ []) k in cc;
  last_stopped = λ k.
      let rest = All-tail (λ s. s ≡ Fine) Fine (Fine ∷ Sensor ∷ []) k in
      let last = All-tail (λ s. s ≡ Fine) Fine (Sensor ∷ []) rest in
      let e = All-head (λ s. s ≡ Fine) Sensor [] last in cc;
  each_of_two = λ r e. rw e (search rules);
  not_each = λ r e k. let is = k (Fine ∷ Fine ∷ []) [] Worn e in cc;
  not_each_first = λ r e k. let is = k [] (Fine ∷ []) GateLimit e in cc;
  stopped = λ r e. inl (λ k. worn_second (subst AreFine e k));
  rejected = λ r. inr (Gap 7, refl);
  no_memory = refl;
  no_audit = tt;
  gap = λ e. cc;
  end = λ e. cc;
}
  where
    worn_second : AreFine (Fine ∷ Worn ∷ []) → ⊥
    worn_second k = let e = All-head (λ s. s ≡ Fine) Worn [] (All-tail (λ s. s ≡ Fine) Fine (Worn ∷ []) k) in cc

pub statuses-tell : StatusesTell
statuses-tell = record { fine = fines; replays = replays; simulations = simulations; runs = runs; reports = reports }
