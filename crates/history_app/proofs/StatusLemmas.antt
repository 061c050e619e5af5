-- What exit statuses say, and which words ask for a recording.
use Rattle.std.proofs.Common.{◌≡◌, ◌≤◌, inl, inr, ℕ, zero, suc, List, [], ◌∷◌, ◌++◌, length, take, Option, Some, refl, ap, arith, ⊎_elim}
use Rattle.std.proofs.lemmas.List.{length-append}
use Rattle.clap.proofs.OnLiterals.{clap_on_literals}
use Rattle.cell_words.specs.declared.words.RunFlags.{RunFlags}
use Rattle.text_io.specs.Input.{TakesAtMost}
use Rattle.cell_rules.specs.Types.{Event}
use Rattle.cell_rules.specs.ModelState.{ModelState}
use Rattle.cell_notes.specs.declared.run_record.RunRecord.{RunRecord}
use Rattle.history_app.proofs.LawLemmas.{recordings_answered}
use Rattle.history_app.proofs.lemmas.Answering.{histories_answered}
use Rattle.history_app.specs.Statuses.{HistoriesTell, RecordingsTell, StatusesTell, TellingsTell, WordsAreMet, WritingsAreMet}

all_taken : (most : ℕ) (bytes : List ℕ) → TakesAtMost (Some bytes) (Some []) most → length bytes ≤ most
all_taken most bytes k = let h = k.1 in let all : length bytes ≡ length (k.0 ++ []) = ap length k.2 in omega (arith, h, all, length-append k.0 [])

recordings : (turns tries : ℕ) (bytes : List ℕ) → RecordingsTell turns tries bytes
recordings turns tries bytes = record {
  run = λ r k. (k.run, k.start);
  well = λ text rest k. let w = k.well refl in (w.0, w.1.0, w.1.1.0, (w.1.1.1.history, w.1.1.1.is, w.1.1.1.fits, w.1.1.1.written));
  appended = λ rest old new k. let w = k.well refl in (w.0, w.1.0, w.1.1.0, (w.1.1.1.history, w.1.1.1.is, w.1.1.1.fits, w.1.1.1.written));
  takes = λ exit rest old new k. (k.status, k.taken);
  replayed = λ script rest k.
      let a = recordings_answered turns tries bytes script (k.well refl) in
      (a.0, a.1.0, a.1.1.clean, a.1.1.history, a.1.1.journals, a.1.1.text);
  failed = λ rest old new k refused memory spawn telling.
      ⊎_elim (λ c. refused c.0 c.1.0 c.1.1)
      (λ d. ⊎_elim (λ c. memory c) (λ e. ⊎_elim (λ c. spawn c) (λ c. telling c.0 c.1.0 c.1.1) e) d) (k.failed refl);
  took = λ exit old new k. all_taken 2097153 bytes k.taken;
}

histories : (opening : ModelState) (history : List Event) → HistoriesTell opening history
histories opening history = record {
  answered = λ start legal fits. let a = histories_answered opening history start legal fits in (a.start, a.events, a.clean, a.text);
}

tellings : (r : RunRecord) (old new : Option (List ℕ)) → TellingsTell r old new
tellings r old new = record {
  whole = λ k. (k.history, k.is, k.fits, k.written);
  fails = λ k stopped part long memory.
      ⊎_elim (λ c. stopped c.0 c.1)
      (λ d. ⊎_elim (λ c. part c.0 c.1.0 c.1.1) (λ e. ⊎_elim (λ c. long c.0 c.1.0 c.1.1.0 c.1.1.1) (λ c. memory c) e) d) k;
  stopped = λ stopped k. inl (stopped, k);
  long = λ history is long part. inr (inr (inl (history, (is, (long, part)))));
  no_memory = λ part. inr (inr (inr part));
  well = λ k. k;
  failed = λ k. k;
  refused = λ k. k;
}

abbrev script : List ℕ
script = 1 ∷ 2 ∷ []

abbrev second : List ℕ
second = 2 ∷ []

not_second : (n : ℕ) → second ≡ take n script → ⊥
not_second zero e = cc
not_second (suc n) e = cc

writings : WritingsAreMet
writings = record {
  whole = (refl, refl);
  part_as_whole = λ k. let e = k.1 in cc;
  stopped_as_fine = λ k. let e = k.0 in cc;
  of_stopped = inl (refl, refl);
  part = inr (1, refl);
  other = λ k. ⊎_elim (λ c. let e = c.1 in cc) (λ w. not_second w.0 w.1) k;
  nothing_written = inr (0, refl);
  after_other = (refl, refl);
  other_lost = λ k. let e = k.1 in cc;
  stopped_after_other = inl (refl, refl);
  part_after_other = inr (1, refl);
  refused_of_stopped = λ k. k;
  refused = λ k. k;
}

words : WordsAreMet
unfolding clap_on_literals
words = record {
  nothing = (refl, refl);
  both = (refl, refl);
  turns = (refl, refl);
  most = (refl, refl);
  turn_more = λ k. let e = k.0 in cc;
  no_try = λ k. let e = k.0 in cc;
  other_turns = λ k. let e = ap (λ (f : RunFlags). f.turns) k.1 in omega (arith, e);
  other_word = λ k. let e = k.0 in cc;
}

pub statuses-tell : StatusesTell
statuses-tell = record { recordings = recordings; histories = histories; tellings = tellings; writings = writings; words = words }
