-- A call lasts from its load to the step that answers it.
use Rattle.std.proofs.Common.{◌≡◌, ◌≢◌, ℕ, Bool, true, false, if◌then◌else◌, List, [], ◌∷◌, ◌++◌, ◌⊎◌, inl, inr, ⊎_elim, refl, sym, ap, ◌∙◌, subst, append-nil, append_assoc}
use Rattle.word_interlock.specs.RuleBook.{RuleBook, IsRuleBook}
use Rattle.word_interlock.specs.History.{after, BeginsWith}
use Rattle.word_interlock.specs.declared.views.HistoryView.{HistoryView}
use Rattle.word_interlock.specs.declared.views.Moment.{Moment}
use Rattle.word_interlock.specs.declared.views.Moment.TheVariants.{Begins, Answered}
use Rattle.word_interlock.specs.Views.{PassView, view_of}
use Rattle.word_interlock.specs.Moments.{events_of, own_moments}
use Rattle.word_interlock.specs.Rule.{WordMoment, AllTell, AllShow, with_answer, moments_at, with_begin}
use Rattle.word_interlock.specs.Steps.{Loaded, Exchanged}
use Rattle.word_interlock.specs.Going.{IsUnderWay}
use Rattle.word_interlock.specs.Timing.{Lasts}
use Rattle.word_interlock.proofs.lemmas.Moments.{events-append, own-append, between-foreign}
use Rattle.word_interlock.proofs.Answered.{Says, answer_at, seen_refused, seen_done, moments_done, won_at, lost_at}

joined : {X : Type 0} (f k more last : List X) (x : X) → (((f ++ x ∷ k) ++ []) ++ more) ++ last ≡ (f ++ x ∷ (k ++ more)) ++ last
joined {X} f k more last x =
    ap (λ (l : List X). (l ++ more) ++ last) (append-nil (f ++ x ∷ k)) ∙ ap (λ (l : List X). l ++ last) (append_assoc f (x ∷ k) more)

events_begun : {M E : Type 0} (ms : List (Moment M E)) (m : M) → events_of (ms ++ Begins m ∷ []) ≡ events_of ms
events_begun ms m = events-append ms (Begins m ∷ []) ∙ append-nil (events_of ms)

module _ {R S M C A E : Type 0} (b : RuleBook S M C A E) (law : IsRuleBook b) (rules : R) where
  -- a call began by a load at this moment
  began_as : (heard : List (HistoryView S M E)) (v w : PassView R S M E) (word : ℕ) (h : List E) (at : WordMoment b rules (view_of v) word h) (last : List (Moment M E)) → AllTell v.opening h heard → AllShow at.moments heard
      → w.moments ≡ (at.moments ++ Begins v.actor ∷ []) ++ last → w.seen ≡ h ++ events_of last → (w.since ≡ events_of at.moments) ⊎ (w.since ≡ w.seen) → Lasts b heard v last w
  began_as heard v w word h at last told shown is seen load = record {
    first = at.moments;
    between = [];
    is = is;
    begins = at.since;
    had_seen = subst (λ (x : List E). BeginsWith x v.seen) (sym at.events) at.begins;
    told = subst (λ (x : List E). AllTell v.opening x heard) (sym at.events) told;
    shown = shown;
    own_first = at.own_since;
    own_between = refl;
    seen = seen ∙ sym (ap events_of is ∙ (events-append (at.moments ++ Begins v.actor ∷ []) last ∙ ap (λ (x : List E). x ++ events_of last) (events_begun at.moments v.actor ∙ at.events)));
    load = ⊎_elim (λ (e : w.since ≡ events_of at.moments). inl e) (λ (e : w.since ≡ w.seen). inr (refl, e)) load;
  }

  -- the load of a call that is under way showed the events before its beginning
  by_load : (heard : List (HistoryView S M E)) (v u : PassView R S M E) → (k : Lasts b heard v [] u) → u.since ≡ events_of k.first
  by_load heard v u k =
      ⊎_elim (λ (e : u.since ≡ events_of k.first). e)
      (λ (t : (k.between ≡ []) × (u.since ≡ u.seen)).
      let whole : u.moments ≡ k.first ++ Begins v.actor ∷ [] = k.is ∙ (append-nil (k.first ++ Begins v.actor ∷ k.between) ∙ ap (λ (l : List (Moment M E)). k.first ++ Begins v.actor ∷ l) t.0) in
      t.1 ∙ (k.seen ∙ (ap events_of whole ∙ events_begun k.first v.actor)))
      k.load

  -- it goes on by an exchange at this moment
  goes_on : (heard : List (HistoryView S M E)) (v u w : PassView R S M E) (word : ℕ) (h : List E) (at : WordMoment b rules (view_of u) word h) (last : List (Moment M E)) → u.actor ≡ v.actor → Lasts b heard v [] u → w.moments ≡ at.moments ++ last → w.seen ≡ h ++ events_of last → w.since ≡ u.since → Lasts b heard v last w
  goes_on heard v u w word h at last who k is seen since =
      let more : List (Moment M E) = at.since.0 in
      let quiet : own_moments b more v.actor ≡ [] = subst (λ (m : M). own_moments b more m ≡ []) who (between-foreign b u.actor u.moments at.moments more at.since.1 at.own_since) in record {
        first = k.first;
        between = k.between ++ more;
        is = is ∙ (ap (λ (l : List (Moment M E)). l ++ last) (at.since.1 ∙ ap (λ (l : List (Moment M E)). l ++ more) k.is) ∙ joined k.first k.between more last (Begins v.actor));
        begins = k.begins;
        had_seen = k.had_seen;
        told = k.told;
        shown = k.shown;
        own_first = k.own_first;
        own_between = own-append b k.between more v.actor ∙ (ap (λ (l : List (Moment M E)). l ++ own_moments b more v.actor) k.own_between ∙ quiet);
        seen = seen ∙ sym (ap events_of is ∙ (events-append at.moments last ∙ ap (λ (x : List E). x ++ events_of last) at.events));
        load = inl (since ∙ by_load heard v u k);
      }

  moments_refused : (v : PassView R S M E) (c : C) (h : List E) (ms : List (Moment M E)) (a : A) → a ≡ b.reply (after b v.opening h) v.actor c → b.is_done a ≡ false → moments_at b c (view_of v) h ms ≡ ms ++ Answered (b.event v.actor c a) ∷ []
  moments_refused v c h ms a right isnt =
      ap (λ (d : Bool). if d then ms else with_answer b c (view_of v) h ms) (ap b.is_done (sym right) ∙ isnt) ∙ ap (λ (y : A). ms ++ Answered (b.event v.actor c y) ∷ []) (sym right)

  -- ---- the first step

  pub lasts_refused : (heard : List (HistoryView S M E)) (v w : PassView R S M E) (word : ℕ) (c : C) (a : A) (new : ℕ) (m : M) → Loaded b rules c heard v word w → m ≡ w.actor → Says b word m c a new → b.is_done a ≡ false → Lasts b heard v (Answered (b.event v.actor c a) ∷ []) w
  lasts_refused heard v w word c a new m told who says isnt =
      let h : List E = told.0 in let at = told.1 in
      let right = (answer_at b law rules v w word h _ _ _ _ _ c a new m at told.2 who says).0 in
      began_as heard v w word h at (Answered (b.event v.actor c a) ∷ []) told.3 told.4 (ap (λ (y : PassView R S M E). y.moments) told.2 ∙ moments_refused v c h (with_begin b (view_of v) at.moments) a right isnt)
      (ap (λ (y : PassView R S M E). y.seen) told.2 ∙ seen_refused b law rules v c h a right isnt)
      (inr (ap (λ (y : PassView R S M E). y.since) told.2 ∙ sym (ap (λ (y : PassView R S M E). y.seen) told.2)))

  pub lasts_pending : (heard : List (HistoryView S M E)) (v w : PassView R S M E) (word : ℕ) (c : C) (a : A) (new : ℕ) (m : M) → Loaded b rules c heard v word w → m ≡ w.actor → Says b word m c a new → b.is_done a ≡ true → Lasts b heard v [] w
  lasts_pending heard v w word c a new m told who says isit =
      let h : List E = told.0 in let at = told.1 in let ms : List (Moment M E) = with_begin b (view_of v) at.moments in
      let right = (answer_at b law rules v w word h _ _ _ _ _ c a new m at told.2 who says).0 in
      began_as heard v w word h at [] told.3 told.4 (ap (λ (y : PassView R S M E). y.moments) told.2 ∙ (moments_done b law rules v c h ms a right isit ∙ sym (append-nil ms)))
      (ap (λ (y : PassView R S M E). y.seen) told.2 ∙ (seen_done b law rules v c h a right isit ∙ sym (append-nil h)))
      (inl (ap (λ (y : PassView R S M E). y.since) told.2 ∙ (seen_done b law rules v c h a right isit ∙ sym at.events)))

  -- ---- further steps

  named : (heard : List (HistoryView S M E)) (v u w : PassView R S M E) (c : C) (a : A) → u.actor ≡ v.actor → Lasts b heard v (Answered (b.event u.actor c a) ∷ []) w → Lasts b heard v (Answered (b.event v.actor c a) ∷ []) w
  named heard v u w c a who k = subst (λ (m : M). Lasts b heard v (Answered (b.event m c a) ∷ []) w) who k

  pub lasts_won : (heard : List (HistoryView S M E)) (v u w : PassView R S M E) (c : C) (a : A) (old new lost word : ℕ) → u.actor ≡ v.actor → Lasts b heard v [] u → IsUnderWay b u c a old new lost → Exchanged b rules c u old word w → word ≡ old → Lasts b heard v (Answered (b.event v.actor c a) ∷ []) w
  lasts_won heard v u w c a old new lost word who k t told hit =
      let h : List E = told.0 in let at = told.1 in let f = t.ready.leads (after b u.opening h) at.sound (at.found ∙ hit) in
      let is = won_at b law rules u w c old word told hit in
      named heard v u w c a who
      (goes_on heard v u w word h at (Answered (b.event u.actor c a) ∷ []) who k (ap (λ (y : PassView R S M E). y.moments) is ∙ ap (λ (y : A). at.moments ++ Answered (b.event u.actor c y) ∷ []) f.0)
      (ap (λ (y : PassView R S M E). y.seen) is ∙ ap (λ (y : A). h ++ b.event u.actor c y ∷ []) f.0) (ap (λ (y : PassView R S M E). y.since) is))

  pub lasts_answered : (heard : List (HistoryView S M E)) (v u w : PassView R S M E) (c : C) (old word new : ℕ) (a : A) (m : M) → u.actor ≡ v.actor → Lasts b heard v [] u → Exchanged b rules c u old word w → word ≢ old → m ≡ w.actor → Says b word m c a new → b.is_done a ≡ false → Lasts b heard v (Answered (b.event v.actor c a) ∷ []) w
  lasts_answered heard v u w c old word new a m who k told miss by says isnt =
      let h : List E = told.0 in let at = told.1 in let is = lost_at b law rules u w c old word told miss in
      let right = (answer_at b law rules u w word h _ _ _ _ _ c a new m at is by says).0 in
      named heard v u w c a who
      (goes_on heard v u w word h at (Answered (b.event u.actor c a) ∷ []) who k (ap (λ (y : PassView R S M E). y.moments) is ∙ moments_refused u c h at.moments a right isnt)
      (ap (λ (y : PassView R S M E). y.seen) is ∙ seen_refused b law rules u c h a right isnt) (ap (λ (y : PassView R S M E). y.since) is))

  pub lasts_lost : (heard : List (HistoryView S M E)) (v u w : PassView R S M E) (c : C) (old word new : ℕ) (a : A) (m : M) → u.actor ≡ v.actor → Lasts b heard v [] u → Exchanged b rules c u old word w → word ≢ old → m ≡ w.actor → Says b word m c a new → b.is_done a ≡ true → Lasts b heard v [] w
  lasts_lost heard v u w c old word new a m who k told miss by says isit =
      let h : List E = told.0 in let at = told.1 in let is = lost_at b law rules u w c old word told miss in let ms = at.moments in
      let right = (answer_at b law rules u w word h _ _ _ _ _ c a new m at is by says).0 in
      goes_on heard v u w word h at [] who k (ap (λ (y : PassView R S M E). y.moments) is ∙ (moments_done b law rules u c h ms a right isit ∙ sym (append-nil ms)))
      (ap (λ (y : PassView R S M E). y.seen) is ∙ (seen_done b law rules u c h a right isit ∙ sym (append-nil h)))
      (ap (λ (y : PassView R S M E). y.since) is)
