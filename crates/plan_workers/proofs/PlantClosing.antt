-- The journals of a plant's words are kept, and explained, as those of a plan are.
use Rattle.std.proofs.Common.{◌≡◌, ℕ, suc, ◌+◌, ◌<◌, List, [], ◌∷◌, length, map, get_or, Option, Some, None, refl, sym, ap, ◌∙◌, subst, arith}
use Rattle.std.specs.Prelude.{option_copied}
use Rattle.std.proofs.lemmas.List.{get_or-map, length-map}
use Rattle.plan_types.specs.declared.answer.Event.{Event}
use Rattle.plan_types.specs.Table.{PlanTable}
use Rattle.plan_rules.specs.declared.state.State.{State}
use Rattle.plan_interlock.specs.Plant.{PlantPassView, RightView, WordView}
use Rattle.plan_interlock.specs.PlantMake.{new_pass, new_right}
use Rattle.plan_workers.specs.declared.plant_audit.WordJournals.{WordJournals}
use Rattle.plan_workers.specs.declared.plant_record.PlantRecorded.{PlantRecorded}
use Rattle.plan_workers.specs.declared.plant_run.PlantJob.{PlantJob}
use Rattle.plan_workers.specs.Audited.{EndsIn, IsAudited, Journals, journals_in}
use Rattle.plan_workers.specs.Closing.{AreKept}
use Rattle.plan_workers.specs.Jobs.{IsJobOf}
use Rattle.plan_workers.specs.Journals.{IsJournal}
use Rattle.plan_workers.specs.PlantAudits.{ExplainsWord}
use Rattle.plan_workers.specs.PlantClosing.{EndedWordsAreAccepted, EndedWordsAreExplained, IsEndedWord, PlantJournalsAreKept, journals_on, rights_on}
use Rattle.plan_workers.specs.PlantJobs.{IsPlantJobOf}
use Rattle.plan_workers.specs.PlantRecording.{HasPlantRecorded, HavePlantRecorded, journal_on, noted_on}
use Rattle.plan_workers.specs.Turning.{GateOf}
use Rattle.plan_workers.proofs.Closing.{explained}

-- ---- new passes

right_at : (words : List WordView) (m w : ℕ) (i : WordView) (v : RightView) → w < length words → get_or (new_pass words m).rights w v ≡ new_right m (get_or words w i)
right_at words m w i v low = get_or-map (new_right m) words w i v low

tables_are : (m : ℕ) (words : List WordView) → map (λ v. v.table) (map (new_right m) words) ≡ map (λ i. i.table) words
tables_are m [] = refl
tables_are m (i ∷ later) = ap (λ ts. i.table ∷ ts) (tables_are m later)

pub new_is_of_plant : (words : List WordView) (m : ℕ) → IsPlantJobOf words (new_pass words m)
new_is_of_plant words m = record {
  plant = tables_are m words;
  on_words = λ w i v low. subst (λ r. IsJobOf (get_or words w i) r) (sym (right_at words m w i v low)) (record { table = refl; plan = refl });
}

-- ---- the journals that came back

module _ {D : Type 0} (reads : D → Option ℕ → D → Type 0) (drives : D → ℕ → D → Type 0) (gate : ℕ → GateOf) (words : List WordView) (turns w : ℕ) (i : WordView) (none : RightView) (low : w < length words) where
  -- the journals of machines from a number on
  abbrev Fits : Journals → ℕ → List (PlantRecorded D) → Type 0
  Fits journals m backs = (k : ℕ) → journals (m + k) ≡ get_or (noted_on w backs) k []

  -- the jobs of machines from a number on, each by a new pass
  abbrev AreNew : ℕ → List (PlantJob D) → Type 0
  AreNew m jobs = (k : ℕ) (job : PlantJob D) → k < length jobs → (get_or jobs k job).pass ≡ new_pass words (m + k)

  own_journal : (m : ℕ) (job : PlantJob D) (back : PlantRecorded D) → job.pass ≡ new_pass words m → HasPlantRecorded reads drives words gate turns job back
      → IsJournal (get_or words w i).opening.stamp m [] (get_or back.worked.pass.rights w none).seen (journal_on w back.journals.items) × ((get_or back.worked.pass.rights w none).actor ≡ m)
  own_journal m job back new k =
      let right : get_or job.pass.rights w none ≡ new_right m (get_or words w i) = ap (λ (p : PlantPassView). get_or p.rights w none) new ∙ right_at words m w i none low in
      let many : length job.pass.rights ≡ length words = ap (λ (p : PlantPassView). length p.rights) new ∙ length-map words (new_right m) in
      let here : w < length job.pass.rights = subst (λ n. w < n) (sym many) low in
      let seen = (get_or back.worked.pass.rights w none).seen in
      let journal = subst (λ (v : RightView). IsJournal v.opening.stamp v.actor v.seen seen (journal_on w back.journals.items)) right (k.journals.on_words w none here) in
      (journal, (k.same_rights w none here).actor ∙ ap (λ (v : RightView). v.actor) right)

  keeps : (m : ℕ) (jobs : List (PlantJob D)) (backs : List (PlantRecorded D)) (journals : Journals) → length backs ≡ length jobs → AreNew m jobs → HavePlantRecorded reads drives words gate turns jobs backs → Fits journals m backs
      → AreKept (get_or words w i).opening.stamp (rights_on w none backs) journals
  keeps m jobs [] journals many new k fit = tt
  keeps m [] (back ∷ backs) journals many new k fit = absurd (omega (arith, many))
  keeps m (job ∷ later) (back ∷ backs) journals many new k fit =
      let here : m + 0 ≡ m = omega arith in
      let opening = (get_or words w i).opening.stamp in
      let right = get_or back.worked.pass.rights w none in
      let one = own_journal m job back (new 0 job (omega arith) ∙ ap (new_pass words) here) (k 0 job back (omega arith)) in
      let is : journals m ≡ journal_on w back.journals.items = ap journals (sym here) ∙ fit 0 in
      let by_number = subst (λ j. IsJournal opening m [] right.seen j) (sym is) one.0 in (
        subst (λ n. IsJournal opening n [] right.seen (journals n)) (sym one.1) by_number,
        keeps (m + 1) later backs journals (omega (arith, many))
            (λ n j below. let on : m + suc n ≡ m + 1 + n = omega arith in new (suc n) j (omega (arith, below)) ∙ ap (new_pass words) on)
            (λ n j b below. k (suc n) j b (omega (arith, below)))
            (λ n. let on : m + 1 + n ≡ m + suc n = omega arith in ap journals on ∙ fit (suc n)),
      )

pub journals_kept : {D : Type 0} (reads : D → Option ℕ → D → Type 0) (drives : D → ℕ → D → Type 0) (gate : ℕ → GateOf) → PlantJournalsAreKept reads drives gate
journals_kept reads drives gate words turns jobs backs new many k w i none low =
    keeps reads drives gate words turns w i none low 0 jobs backs (journals_on w backs) many
    (λ m job below. let same : m ≡ 0 + m = omega arith in new m job below ∙ ap (new_pass words) same)
    k (λ m. let same : 0 + m ≡ m = omega arith in ap (journals_on w backs) same)

-- ---- what explains them

at_end : (t : PlanTable) (start left : State) (journals : Journals) (end : Option State) (h : List Event) → EndsIn left end → IsAudited t start journals (Some left) h → IsAudited t start journals end h
at_end t start left journals None h e k = record { legal = k.legal; callers = k.callers; own = k.own; ends = tt }
at_end t start left journals (Some end) h e k = record { legal = k.legal; callers = k.callers; own = k.own; ends = k.ends ∙ e }

explains : (w : WordJournals) (k : IsEndedWord w) → ExplainsWord w k.ended.history
explains w k =
    at_end w.plan.now w.start.now k.left (journals_in w.journals.now) (option_copied w.end) k.ended.history k.end (explained w.plan.now w.start.now k.left k.rights (journals_in w.journals.now) k.ended k.kept k.nobody)

pub words_explained : EndedWordsAreExplained
words_explained words all k w below = explains (get_or words k w) (all k w below)

-- some word of a list that has one
some_word : (words : List WordJournals) (k : ℕ) → k < length words → WordJournals
some_word [] k below = absurd (omega (arith, below))
some_word (w ∷ later) k below = w

pub words_accepted : EndedWordsAreAccepted
words_accepted words all k refused =
    let w = some_word words k refused.below in
    refused.none w (all k w refused.below).ended.history (words_explained words all k w refused.below)
