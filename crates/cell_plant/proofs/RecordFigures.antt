-- The figures of the records of literal runs, and records that are wrong in one thing.
use Rattle.cell_plant.proofs.Names.{◌≡◌, ◌≢◌, ℕ, ℤ, pos, List, [], ◌∷◌, length, get_or, Some, None, refl, sym, ap, ◌∙◌, Machine, Feed, Watch, Done, Refused, Shut, Closed, Entry, Journals, ModelState, noted, no_counts, Counts, RunRecord, Status, Fine, IsRecordOf, events_in, end_of, opening, at_first, steps, IsOfLiteralRun, IsOfOneStop, counts_of, IsOfApart, WrongRecords, IsRecord, AreJournals, journal_by, done_entry, refused_entry}
use Rattle.cell_plant.proofs.Names.{stop_entry, first_stop, steps_apart, last_apart, journals_apart, with_feed_counts}
use Rattle.cell_notes.specs.declared.status.Status.TheVariants.{Memory}
use Rattle.cell_plant.proofs.Deciding.{not_so, equals, same_number}
use Rattle.cell_plant.proofs.ExampleTurns.{one_stop}

-- ---- one thing is wrong

-- the counts of one machine, by its place in the list
abbrev pub turns_at : ℕ → List Counts → ℕ
turns_at n counts = (get_or counts n no_counts).turns

ends_apart : (a b : ModelState) → a.stamp ≢ b.stamp → Some a ≢ Some b
ends_apart a b apart e = let same : a ≡ b = cc in apart (ap (λ (s : ModelState). s.stamp) same)

no_end : (a : ModelState) → None ≢ Some a
no_end a e = cc

fine_memory : Fine ≢ Memory
fine_memory e = cc

refused_done : Refused (Shut Closed) ≢ Done
refused_done e = cc

module _ (r : RunRecord) where
  feed_count : (f : Counts → ℕ) (feed : Counts) → IsRecord (with_feed_counts r feed) → f feed ≡ f (counts_of 2 1 0 1 0)
  feed_count f feed k = ap (λ (counts : List Counts). f (get_or counts 0 no_counts)) k.counts

  feed_journal : (journals : Journals) (feed : List Entry) → AreJournals journals feed → IsRecord (record r { journals = journals }) → feed ≡ done_entry ∷ refused_entry ∷ []
  feed_journal journals feed are k = sym (are Feed) ∙ k.journals Feed

  pub wrong_records : WrongRecords r
  wrong_records = record {
    start = λ k. not_so (same_number _ _) refl (ap (λ (s : ModelState). s.stamp) k.start);
    turns = λ k. not_so (same_number _ _) refl (feed_count (λ c. c.turns) _ k);
    done = λ k. not_so (same_number _ _) refl (feed_count (λ c. c.done) _ k);
    read = λ k. not_so (same_number _ _) refl (feed_count (λ c. c.read) _ k);
    refused = λ k. not_so (same_number _ _) refl (feed_count (λ c. c.refused) _ k);
    busy = λ k. not_so (same_number _ _) refl (feed_count (λ c. c.busy) _ k);
    counts_of_others = λ k. not_so (same_number _ _) refl (ap (λ (counts : List Counts). (get_or counts 0 no_counts).done) k.counts);
    watch_uncounted = λ k. not_so (same_number _ _) refl (ap (turns_at 6) k.counts);
    status = λ k. fine_memory (ap (λ (status : List Status). get_or status 3 Fine) k.status);
    status_of_another = λ k. fine_memory (ap (λ (status : List Status). get_or status 3 Fine) k.status);
    end = λ k. ends_apart _ _ (not_so (same_number _ _) refl) k.end;
    no_end = λ k. no_end _ k.end;
    axis = λ k. not_so (equals _ _) refl (ap (λ (axes : List ℤ). get_or axes 7 (pos 0)) k.axes);
    axes_swapped = λ k. not_so (equals _ _) refl (ap (λ (axes : List ℤ). get_or axes 0 (pos 0)) k.axes);
    entry_left_out = λ j are k. not_so (same_number _ _) refl (ap (λ (es : List Entry). length es) (feed_journal j _ are k));
    entry_twice = λ j are k. not_so (same_number _ _) refl (ap (λ (es : List Entry). length es) (feed_journal j _ are k));
    entries_swapped = λ j are k. refused_done (ap (λ (es : List Entry). (get_or es 0 done_entry).answer) (feed_journal j _ are k));
    another_stamp = λ j are k. not_so (same_number _ _) refl (ap (λ (es : List Entry). (get_or es 1 done_entry).stamp) (feed_journal j _ are k));
  }

  -- ---- the record of the literal run

  noted_is : (m : Machine) → noted opening (events_in steps) m ≡ journal_by (done_entry ∷ refused_entry ∷ []) (stop_entry ∷ []) m
  noted_is Feed = refl
  noted_is _ = refl

  pub figures : IsRecord r → IsOfLiteralRun r
  figures k = assumption (λ (m : Machine). k.journals m ∙ noted_is m)

  apart_is : (m : Machine) → noted opening (events_in steps_apart) m ≡ journals_apart m
  apart_is Feed = refl
  apart_is _ = refl

  pub apart : IsRecordOf opening steps_apart last_apart r → IsOfApart r
  apart k = assumption (λ (m : Machine). k.journals m ∙ apart_is m)

  pub recorded : IsOfLiteralRun r → IsRecord r
  recorded f = assumption (λ (m : Machine). f.journals m ∙ sym (noted_is m))

  -- ---- the record of the run in which the watch stops the cell
  first_stop_is : (m : Machine) → noted opening (events_in one_stop) m ≡ first_stop m
  first_stop_is Watch = refl
  first_stop_is _ = refl

  pub one_stop_recorded : IsOfOneStop r → IsRecordOf opening one_stop (end_of at_first one_stop) r
  one_stop_recorded n = assumption (λ (m : Machine). n.journals m ∙ sym (first_stop_is m))
