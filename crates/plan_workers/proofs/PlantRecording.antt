-- A machine's work over the lines of all words, by its rights there.
use Rattle.std.proofs.Common.{◌≡◌, ℕ, ◌+◌, ◌<◌, List, [], ◌∷◌, ◌++◌, All, length, map, get_or, Option, refl, sym, ap, ◌∙◌, subst, arith, below_more}
use Rattle.std.specs.Global.{Vec}
use Rattle.std.specs.Prelude.{IfOk, Ok, Result}
use Rattle.std.proofs.lemmas.List.Elements.{All-map}
use Rattle.std.proofs.lemmas.List.{get_or_append_left, get_or_default, get_or_push, get_or-map, length-map, length_push, map_push, same_lists}
use Rattle.plan_types.specs.declared.answer.Event.{Event}
use Rattle.plan_types.specs.Table.{PlanTable}
use Rattle.plan_rules.specs.declared.state.State.{State}
use Rattle.plan_drives.specs.Course.{IsAt}
use Rattle.plan_controller.specs.Turns.{Control, program_in}
use Rattle.plan_interlock.specs.Book.{plan_of}
use Rattle.plan_interlock.specs.Plant.{IsOfPlant, IsSamePlantPass, PlantPassView, RightView, WordView}
use Rattle.word_interlock.specs.Seen.{IsSamePass}
use Rattle.plan_workers.specs.declared.journal.PlanEntry.{PlanEntry}
use Rattle.plan_workers.specs.declared.plant_run.PlantJob.{PlantJob}
use Rattle.plan_workers.specs.Jobs.{IsInPlace, IsJobOf}
use Rattle.plan_workers.specs.Journals.{IsJournal}
use Rattle.plan_workers.specs.PlantJobs.{IsPlantInPlace, IsPlantJobOf}
use Rattle.plan_workers.specs.PlantRecording.{AreNewLines, AreWordJournals, IsNewLine, journal_on}
use Rattle.plan_workers.specs.PlantTurning.{HasWorkedOnWords}
use Rattle.plan_workers.specs.PlantTurns.{IsSameProgram, OnEachWord, PlantControl, control_on}
use Rattle.plan_workers.specs.PlantWorks.{AtPlantWork, IsPlantWired, at_plant_work}
use Rattle.plan_workers.specs.Recording.{IsKept, JournalLineView, by_journal}
use Rattle.plan_workers.specs.Turning.{GateOf}
use Rattle.plan_workers.proofs.PlantTurning.{work_keeps}
use Rattle.plan_workers.proofs.Recording.{Stays, asked_stays, stays_again, stays_on}

-- ---- words, one after another

-- the words below one have theirs: this holds of each, with the word's interlock and the right there
pub record HaveTheirs {A : Type 0} (holds : WordView → RightView → A → Type 0) (words : List WordView) (rights : List RightView) (made : List A) (n : ℕ) : Type 0 where
  pub many : length made ≡ n
  pub each : (k : ℕ) → k < n → (i : WordView) (v : RightView) (x : A) → holds (get_or words k i) (get_or rights k v) (get_or made k x)

module _ {A : Type 0} (holds : WordView → RightView → A → Type 0) (words : List WordView) (rights : List RightView) where
  pub none_yet : HaveTheirs holds words rights [] 0
  none_yet = record { many = refl; each = λ k low. absurd (omega (arith, low)) }

  pub one_more : (made now : List A) (n : ℕ) (i : WordView) (v : RightView) (new : A) → n < length rights → HaveTheirs holds words rights made n → ((j : WordView) → i ≡ get_or words n j) → v ≡ get_or rights n v → now ≡ made ++ new ∷ [] → holds i v new
      → HaveTheirs holds words rights now (n + 1)
  one_more made now n i v new low so word right pushed is = record {
    many = ap length pushed ∙ (length_push made new ∙ ap (λ x. x + 1) so.many);
    each = below_more (λ k. (j : WordView) (u : RightView) (x : A) → holds (get_or words k j) (get_or rights k u) (get_or now k x)) n
        (λ k below j u x.
        let many = so.many in
        let same : get_or now k x ≡ get_or made k x = ap (λ xs. get_or xs k x) pushed ∙ get_or_append_left made (new ∷ []) x k (omega (arith, below, many)) in
        subst (λ y. holds (get_or words k j) (get_or rights k u) y) (sym same) (so.each k below j u x))
        (λ j u x.
        let here : get_or now n x ≡ new = ap (λ xs. get_or xs n x) pushed ∙ get_or_push made new x n so.many in
        let own : get_or rights n u ≡ v = get_or_default rights n u v low ∙ sym right in
        subst (λ y. holds (get_or words n j) (get_or rights n u) y) (sym here) (subst (λ y. holds (get_or words n j) y new) (sym own) (subst (λ y. holds y v new) (word j) is)));
  }

-- ---- what a job's pass is

pub as_many : (words : List WordView) (pass : PlantPassView) → IsOfPlant words pass → length pass.rights ≡ length words
as_many words pass of = sym (length-map pass.rights (λ v. v.table)) ∙ (ap length of ∙ length-map words (λ i. i.table))

-- a pass that was made with a plant's interlock may be the line of each word
pub of_word : (words : List WordView) (pass : PlantPassView) (n : ℕ) (i : WordView) (v : RightView) → IsPlantJobOf words pass → n < length words → ((j : WordView) → i ≡ get_or words n j) → v ≡ get_or pass.rights n v → IsJobOf i v
of_word words pass n i v of low word right =
    subst (λ x. IsJobOf i x) (sym right) (subst (λ x. IsJobOf x (get_or pass.rights n v)) (sym (word i)) (of.on_words n i v low))

-- the right that comes next is that of the next word
pub record NextRight (words : List WordView) (pass : PlantPassView) (n : ℕ) (v : RightView) : Type 0 where
  pub low : n < length words
  pub low_right : n < length pass.rights
  pub is : v ≡ get_or pass.rights n v

pub next_right : (words : List WordView) (pass : PlantPassView) (items : List RightView) (n k : ℕ) (v : RightView) → IsPlantJobOf words pass → items ≡ pass.rights → n ≡ k → k < length items → v ≡ get_or items k v → NextRight words pass n v
next_right words pass items n k v of all here low is =
    let there : n < length pass.rights = subst (λ (vs : List RightView). n < length vs) all (subst (λ m. m < length items) (sym here) low) in record {
      low = subst (λ m. n < m) (as_many words pass of.plant) there;
      low_right = there;
      is = is ∙ (ap (λ m. get_or items m v) (sym here) ∙ ap (λ vs. get_or vs n v) all);
    }

pub all_words : (words : List WordView) (pass : PlantPassView) (n : ℕ) → IsPlantJobOf words pass → n ≡ length pass.rights → n ≡ length words
all_words words pass n of all = all ∙ as_many words pass of.plant

-- at the beginning of its program a machine is in place on each word
pub begins_in_place : (words : List WordView) (pass : PlantPassView) (c : PlantControl) → ((t : PlanTable) (opening : State) (seen : List Event) (k : Control) → k.place ≡ 0 → IsAt t opening seen k.machine (program_in k) k.place)
    → ((w : ℕ) → (control_on w c).place ≡ 0) → All (λ v. v.actor ≡ pass.actor) pass.rights → c.machine ≡ pass.actor → c.words ≡ length pass.rights → IsOfPlant words pass → IsPlantInPlace words pass c
begins_in_place words pass c anywhere first all own many of = record {
  own = own;
  each_word = many ∙ as_many words pass of;
  on_words = λ w i v low.
      record {
        own = own ∙ sym (all w v (subst (λ n. w < n) (sym (as_many words pass of)) low));
        at = anywhere (plan_of (get_or words w i).rules) (get_or pass.rights w v).opening (get_or pass.rights w v).seen (control_on w c) (first w);
      };
}

-- ---- lines taken apart, one after another

pub more_of : {A B : Type 0} (f : A → B) (xs : List A) (x : A) (ys more : List B) (y : B) → ys ≡ map f xs → more ≡ ys ++ y ∷ [] → y ≡ f x → more ≡ map f (xs ++ x ∷ [])
more_of f xs x ys more y all pushed is = pushed ∙ (ap (λ zs. zs ++ y ∷ []) all ∙ (ap (λ z. map f xs ++ z ∷ []) is ∙ sym (map_push f xs x)))

pub more_items : (xs : List JournalLineView) (x : JournalLineView) (journals more : List (Vec PlanEntry)) (journal : Vec PlanEntry) → map (λ j. j.items) journals ≡ map (λ l. l.journal) xs → more ≡ journals ++ journal ∷ [] → journal.items ≡ x.journal
    → map (λ j. j.items) more ≡ map (λ l. l.journal) (xs ++ x ∷ [])
more_items xs x journals more journal all pushed is =
    more_of (λ (l : JournalLineView). l.journal) xs x (map (λ j. j.items) journals) (map (λ j. j.items) more) journal.items all (ap (map (λ (j : Vec PlanEntry). j.items)) pushed ∙ map_push (λ (j : Vec PlanEntry). j.items) journals journal) is

pub kept_by : (l : JournalLineView) (v : RightView) (journal : List PlanEntry) → v ≡ l.line.pass → journal ≡ l.journal → IsJournal v.opening.stamp v.actor l.before v.seen journal → IsKept l
kept_by l v journal pass noted k =
    subst (λ (x : RightView). IsJournal x.opening.stamp x.actor l.before x.seen l.journal) pass (subst (λ j. IsJournal v.opening.stamp v.actor l.before v.seen j) noted k)

-- ---- a machine's work

-- some element of a list that has one
some : {A : Type 0} (xs : List A) (n : ℕ) → n < length xs → A
some [] n low = absurd (omega (arith, low))
some (x ∷ xs) n low = x

-- a word whose interlock a line is of
word_of_line : JournalLineView → WordView
word_of_line l = record { table = l.line.pass.table; rules = l.line.pass.rules; opening = l.line.pass.opening; tries = l.line.tries }

abbrev Wired : PlantControl → List JournalLineView → Type 0
Wired c lines = IsPlantWired (λ l. l.line.plan) (λ l. l.line.pass.actor) (λ l. l.line.pass.opening) (λ l. l.line.pass.seen) c lines

-- at the beginning of its work
module _ (words : List WordView) (pass : PlantPassView) (c : PlantControl) (lines : List JournalLineView) (here : IsPlantInPlace words pass c) (new : AreNewLines words pass lines) where
  low_word : (w : ℕ) → w < length lines → w < length words
  low_word w low = subst (λ n. w < n) new.each_word low

  new_at : (w : ℕ) (l : JournalLineView) → w < length lines → IsNewLine (get_or words w (word_of_line l)) (get_or pass.rights w l.line.pass) (get_or lines w l)
  new_at w l low = new.on_words w (word_of_line l) l.line.pass l (low_word w low)

  place_at : (w : ℕ) (l : JournalLineView) → w < length lines → IsInPlace (plan_of (get_or words w (word_of_line l)).rules) (get_or pass.rights w l.line.pass) (control_on w c)
  place_at w l low = here.on_words w (word_of_line l) l.line.pass (low_word w low)

  pub wired : Wired c lines
  wired = record {
    each_word = new.each_word ∙ sym here.each_word;
    own = λ w l low. ap (λ (v : RightView). v.actor) (new_at w l low).pass ∙ sym (place_at w l low).own;
    at = λ w l low.
        let k = control_on w c in
        let by_plan = subst (λ t. IsAt t (get_or pass.rights w l.line.pass).opening (get_or pass.rights w l.line.pass).seen k.machine (program_in k) k.place) (sym (new_at w l low).plan) (place_at w l low).at in
        subst (λ (v : RightView). IsAt (get_or lines w l).line.plan v.opening v.seen k.machine (program_in k) k.place) (sym (new_at w l low).pass) by_plan;
  }

-- and at its end
module _ (words : List WordView) (pass back : PlantPassView) (c d : PlantControl) (lines last : List JournalLineView) (of : IsPlantJobOf words pass) (here : IsPlantInPlace words pass c) (new : AreNewLines words pass lines) (many : length last ≡ length lines)
    (stay : OnEachWord lines last (λ _ l m. Stays l m)) (plans : OnEachWord lines last (λ _ l m. m.line.plan ≡ l.line.plan)) (program : IsSameProgram c d) (at_end : Wired d last) (actor : back.actor ≡ pass.actor) (rights : back.rights ≡ map (λ l. l.line.pass) last) where
  low_line : (w : ℕ) → w < length words → w < length lines
  low_line w low = subst (λ n. w < n) (sym new.each_word) low

  low_last : (w : ℕ) → w < length words → w < length last
  low_last w low = subst (λ n. w < n) (sym many) (low_line w low)

  low_right : (w : ℕ) → w < length pass.rights → w < length words
  low_right w low = subst (λ n. w < n) (as_many words pass of.plant) low

  right_is : (w : ℕ) (v : RightView) (l : JournalLineView) → w < length words → get_or back.rights w v ≡ (get_or last w l).line.pass
  right_is w v l low = ap (λ vs. get_or vs w v) rights ∙ get_or-map (λ (l : JournalLineView). l.line.pass) last w l v (low_last w low)

  -- what a word's line was, and what it is
  record OfWord (i : WordView) (v r : RightView) (l m : JournalLineView) : Type 0 where
    begun : IsNewLine i v l
    still : Stays l m
    plan : m.line.plan ≡ plan_of i.rules
    is : r ≡ m.line.pass

  line_of : (w : ℕ) (low : w < length words) → JournalLineView
  line_of w low = some lines w (low_line w low)

  of_line : (w : ℕ) (i : WordView) (v : RightView) (l : JournalLineView) → w < length words → OfWord (get_or words w i) (get_or pass.rights w v) (get_or back.rights w v) (get_or lines w l) (get_or last w l)
  of_line w i v l low =
      let new_line = new.on_words w i v l low in record {
        begun = new_line;
        still = stay w l (low_line w low);
        plan = plans w l (low_line w low) ∙ new_line.plan;
        is = right_is w v l low;
      }

  same_pass : (i : WordView) (v r : RightView) (l m : JournalLineView) → OfWord i v r l m → IsSamePass v r
  same_pass i v r l m k = subst (λ x. IsSamePass v x) (sym k.is) (subst (λ x. IsSamePass x m.line.pass) k.begun.pass k.still.same)

  pub same_rights : OnEachWord pass.rights back.rights (λ _ v r. IsSamePass v r)
  same_rights w v low =
      let l = line_of w (low_right w low) in
      same_pass (get_or words w (word_of_line l)) (get_or pass.rights w v) (get_or back.rights w v) (get_or lines w l) (get_or last w l) (of_line w (word_of_line l) v l (low_right w low))

  many_rights : length back.rights ≡ length pass.rights
  many_rights = ap length rights ∙ (length-map last (λ l. l.line.pass) ∙ (many ∙ (new.each_word ∙ sym (as_many words pass of.plant))))

  low_back : (w : ℕ) → w < length back.rights → w < length pass.rights
  low_back w low = subst (λ n. w < n) many_rights low

  same_tables : map (λ v. v.table) back.rights ≡ map (λ v. v.table) pass.rights
  same_tables =
      same_lists (map (λ v. v.table) back.rights) (map (λ v. v.table) pass.rights) (length-map back.rights (λ v. v.table) ∙ (many_rights ∙ sym (length-map pass.rights (λ v. v.table))))
      (λ w t low.
      let here : w < length back.rights = subst (λ n. w < n) (length-map back.rights (λ v. v.table)) low in
      let v = some back.rights w here in
      get_or-map (λ (v : RightView). v.table) back.rights w v t here ∙ ((same_rights w v (low_back w here)).table ∙ sym (get_or-map (λ (v : RightView). v.table) pass.rights w v t (low_back w here))))

  pub same_plant : IsSamePlantPass words pass back
  same_plant = record { actor = actor; plant = same_tables ∙ of.plant }

  in_place_on : (w : ℕ) (i : WordView) (v r : RightView) (l m : JournalLineView) → OfWord i v r l m → m.line.pass.actor ≡ d.machine → IsAt m.line.plan m.line.pass.opening m.line.pass.seen (control_on w d).machine (program_in (control_on w d)) (control_on w d).place
      → IsInPlace (plan_of i.rules) r (control_on w d)
  in_place_on w i v r l m k own at =
      let x = control_on w d in
      let by_plan = subst (λ t. IsAt t m.line.pass.opening m.line.pass.seen x.machine (program_in x) x.place) k.plan at in
      let at_line : IsInPlace (plan_of i.rules) m.line.pass x = record { own = sym own; at = by_plan } in
      subst (λ y. IsInPlace (plan_of i.rules) y x) (sym k.is) at_line

  pub in_place : IsPlantInPlace words back d
  in_place = record {
    own = program.machine ∙ (here.own ∙ sym actor);
    each_word = program.words ∙ here.each_word;
    on_words = λ w i v low.
        let l = line_of w low in
        in_place_on w (get_or words w i) (get_or pass.rights w v) (get_or back.rights w v) (get_or lines w l) (get_or last w l) (of_line w i v l low) (at_end.own w l (low_last w low)) (at_end.at w l (low_last w low));
  }

  -- ---- the journals

  module _ (journals : List (Vec PlanEntry)) (noted : map (λ j. j.items) journals ≡ map (λ l. l.journal) last) (kept : All IsKept last) where
    journal_of_word : (i : WordView) (v r : RightView) (l m : JournalLineView) (journal : List PlanEntry) → OfWord i v r l m → IsKept m → journal ≡ m.journal → IsJournal v.opening.stamp v.actor v.seen r.seen journal
    journal_of_word i v r l m journal k keeps is =
        let same = same_pass i v r l m k in
        let own = subst (λ (x : RightView). IsJournal x.opening.stamp x.actor m.before x.seen m.journal) (sym k.is) keeps in
        let since : m.before ≡ v.seen = k.still.before ∙ k.begun.before in
        let P : ℕ → ℕ → List Event → Type 0 = λ n a before. IsJournal n a before r.seen m.journal in
        let from = subst (λ n. P n v.actor v.seen) (ap (λ (o : State). o.stamp) same.opening) (subst (λ a. P r.opening.stamp a v.seen) same.actor (subst (λ before. P r.opening.stamp r.actor before) since own)) in
        subst (λ j. IsJournal v.opening.stamp v.actor v.seen r.seen j) (sym is) from

    many_journals : length journals ≡ length words
    many_journals = sym (length-map journals (λ j. j.items)) ∙ (ap length noted ∙ (length-map last (λ l. l.journal) ∙ (many ∙ new.each_word)))

    pub word_journals : AreWordJournals pass back journals
    word_journals = record {
      each_word = many_journals ∙ sym (as_many words pass of.plant);
      on_words = λ w v low.
          let there = low_right w low in
          let l = line_of w there in
          let is : journal_on w journals ≡ (get_or last w l).journal = ap (λ js. get_or js w []) noted ∙ get_or-map (λ (l : JournalLineView). l.journal) last w l [] (low_last w there) in
          journal_of_word (get_or words w (word_of_line l)) (get_or pass.rights w v) (get_or back.rights w v) (get_or lines w l) (get_or last w l) (journal_on w journals) (of_line w (word_of_line l) v l there) (kept w l (low_last w there)) is;
    }

-- ---- the record of a machine's work

pub plant_work_is : {L D : Type 0} (x : AtPlantWork L D) (c : PlantControl) (lines : List L) (devices : D) → x.control ≡ c → x.lines ≡ lines → x.devices ≡ devices → x ≡ at_plant_work c lines devices
plant_work_is x c lines devices e f h i = record { control = e i; lines = f i; devices = h i }

module _ {D : Type 0} (reads : D → Option ℕ → D → Type 0) (drives : D → ℕ → D → Type 0) where
  pub from_where_it_was : (gate : ℕ → GateOf) (limit took : ℕ) (job : PlantJob D) (lines : List JournalLineView) (x last : AtPlantWork JournalLineView D) → job.controller.machine ≡ job.pass.actor
      → x.control ≡ job.controller → x.lines ≡ lines → x.devices ≡ job.devices
      → HasWorkedOnWords (by_journal reads drives) (gate x.control.machine) limit x last took
      → HasWorkedOnWords (by_journal reads drives) (gate job.pass.actor) limit (at_plant_work job.controller lines job.devices) last took
  from_where_it_was gate limit took job lines x last own begins on with worked =
      let is = plant_work_is x job.controller lines job.devices begins on with in
      let here = subst (λ (y : AtPlantWork JournalLineView D). HasWorkedOnWords (by_journal reads drives) (gate y.control.machine) limit y last took) is worked in
      subst (λ (m : ℕ). HasWorkedOnWords (by_journal reads drives) (gate m) limit (at_plant_work job.controller lines job.devices) last took) own here

  pub lines_stay : (gate : GateOf) (limit took : ℕ) (first last : AtPlantWork JournalLineView D) → HasWorkedOnWords (by_journal reads drives) gate limit first last took → OnEachWord first.lines last.lines (λ _ l m. Stays l m)
  lines_stay gate limit took first last k = work_keeps (by_journal reads drives) Stays stays_again stays_on asked_stays gate limit took first last k

-- ---- where a work begins and ends, by other names

pub between : {L : Type 0} (holds : ℕ → L → L → Type 0) (first end lines last : List L) → first ≡ lines → last ≡ end → OnEachWord first end holds → OnEachWord lines last holds
between holds first end lines last from to k = subst (λ xs. OnEachWord lines xs holds) (sym to) (subst (λ xs. OnEachWord xs end holds) from k)

pub same_program_between : (first end c d : PlantControl) → first ≡ c → d ≡ end → IsSameProgram first end → IsSameProgram c d
same_program_between first end c d from to k = subst (λ x. IsSameProgram c x) (sym to) (subst (λ x. IsSameProgram x end) from k)

pub own_rights : (d : PlantControl) (last : List JournalLineView) (rights : List RightView) (m : ℕ) → rights ≡ map (λ l. l.line.pass) last → Wired d last → d.machine ≡ m → All (λ v. v.actor ≡ m) rights
own_rights d last rights m are at_end is =
    subst (All (λ v. v.actor ≡ m)) (sym are) (All-map (λ v. v.actor ≡ m) (λ (l : JournalLineView). l.line.pass) last (λ w l low. at_end.own w l low ∙ is))

-- ---- what comes back of several

pub many_found : {A E : Type 0} (found : List (Result A E)) (backs : List A) → found ≡ map (λ back. Ok back) backs → length backs ≡ length found
many_found found backs all = sym (ap length all ∙ length-map backs (λ back. Ok back))

pub each_found : {A E : Type 0} (P : A → Type 0) (found : List (Result A E)) (backs : List A) (k : ℕ) (back : A) → found ≡ map (λ back. Ok back) backs → k < length found → IfOk (get_or found k (Ok back)) P → P (get_or backs k back)
each_found {A} {E} P found backs k back all low done =
    let few : k < length backs = subst (λ n. k < n) (sym (many_found found backs all)) low in
    let ok : A → Result A E = λ x. Ok x in
    let is : get_or found k (Ok back) ≡ Ok (get_or backs k back) = ap (λ rs. get_or rs k (Ok back)) all ∙ get_or-map ok backs k back (Ok back) few in
    subst (λ r. IfOk r P) is done
