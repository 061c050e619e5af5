-- The steps of a call imply the clauses of its contract.
use Rattle.std.proofs.Common.{◌≡◌, ◌≢◌, ℕ, ◌+◌, Bool, true, false, if◌then◌else◌, List, [], ◌∷◌, ◌++◌, refl, sym, ap, ◌∙◌, subst, arith, append-nil, eq-eqb, ne_eqb}
use Rattle.std.proofs.lemmas.List.{append_cancel_right}
use Rattle.word_interlock.specs.RuleBook.{RuleBook, IsRuleBook}
use Rattle.word_interlock.specs.History.{after, IsLegal, IsLawful, own_events, BeginsWith, Settles, Waits}
use Rattle.word_interlock.specs.Views.{PassView, view_of}
use Rattle.word_interlock.specs.declared.views.HistoryView.{HistoryView}
use Rattle.word_interlock.specs.declared.views.Moment.{Moment}
use Rattle.word_interlock.specs.Rule.{WordMoment, seen_at, with_event, with_answer, moments_at, with_begin}
use Rattle.word_interlock.specs.Steps.{with_load, with_exchange, at_moments, Loaded, IsReady, Exchanged}
use Rattle.word_interlock.specs.Seen.{IsSamePass, IsSettled, IsUnmade, HasChanges, IsOvertaken}
use Rattle.word_interlock.specs.Going.{IsUnderWay}
use Rattle.word_interlock.proofs.lemmas.Histories.{waits-after, after-push, legal-append, legal-event, legal-left, own-push, sound-after}
use Rattle.word_interlock.proofs.lemmas.Moments.{begun, begun-as}
use Rattle.word_interlock.proofs.Overtaken.{changes-trans, changes-before, overtaken}

pub same_after : {R S M E : Type 0} (v u w : PassView R S M E) → IsSamePass v u → IsSamePass u w → IsSamePass v w
same_after v u w f g =
    record { table = g.table ∙ f.table; rules = g.rules ∙ f.rules; opening = g.opening ∙ f.opening; actor = g.actor ∙ f.actor }

module _ {S M C A E : Type 0} (b : RuleBook S M C A E) where
  -- what one word says of a call and its stamp
  abbrev pub Says : ℕ → M → C → A → ℕ → Type 0
  Says word m c a new = (s : S) → b.is_sound s → b.packed s ≡ word → (a ≡ b.reply s m c) × (new ≡ b.packed (b.next s m c))

  abbrev pub Stamps : ℕ → ℕ → Type 0
  Stamps word stamp = (s : S) → b.is_sound s → b.packed s ≡ word → stamp ≡ b.stamp s

  -- the word found, and the word after the call
  pub ready_for : (m n : M) (c : C) (a : A) (word new : ℕ) → m ≡ n → Says word m c a new → b.is_done a ≡ true → IsReady b n c a word new
  ready_for m n c a word new who says isit =
      subst (λ (x : M). IsReady b x c a word new) who record { done = isit; leads = λ s k is. let f = says s k is in (sym f.0, sym f.1) }

-- a history has one point before its last event
one_point : {E : Type 0} (h point : List E) (e : E) (now : List E) → now ≡ h ++ e ∷ [] → now ≡ point ++ e ∷ [] → h ≡ point
one_point h point e now f g = append_cancel_right h point (e ∷ []) (sym f ∙ g)

module _ {S M C A E : Type 0} (b : RuleBook S M C A E) (law : IsRuleBook b) where
  -- at the point of its call the actor has made only the events that it had made before
  point_waits : (m : M) (c : C) (a : A) (before now : List E) (t : Settles b m c a before now) → Waits b m before t.point
  point_waits m c a before now t =
      let own : own_events b t.point m ++ b.event m c a ∷ [] ≡ own_events b before m ++ b.event m c a ∷ [] = sym (own-push b law t.point m c a) ∙ ap (λ (h : List E). own_events b h m) (sym t.ends) ∙ t.own in
      record { begins = t.begins; own = append_cancel_right (own_events b t.point m) (own_events b before m) (b.event m c a ∷ []) own }

module _ {R S M C A E : Type 0} (b : RuleBook S M C A E) (law : IsRuleBook b) where
  -- a call that was answered after a history
  pub settled : (v w : PassView R S M E) (c : C) (a : A) (stamp : ℕ) (h : List E) → b.is_sound v.opening → IsLegal b v.opening h → Waits b v.actor v.seen h → IsSamePass v w → w.seen ≡ h ++ b.event v.actor c a ∷ []
      → a ≡ b.reply (after b v.opening h) v.actor c → stamp ≡ b.stamp (after b v.opening w.seen) → IsSettled b v c a stamp w
  settled v w c a stamp h k l waits same ends right stamped =
      let e : List E = b.event v.actor c a ∷ [] in
      let here : (point : List E) → w.seen ≡ point ++ b.event v.actor c a ∷ [] → h ≡ point = λ point f. one_point h point (b.event v.actor c a) w.seen ends f in record {
        pass = same;
        lawful = record { opened = k; legal = subst (IsLegal b v.opening) (sym ends) (legal-append b v.opening h e l (legal-event b law (after b v.opening h) v.actor c a right)) };
        seen = record {
          point = h;
          begins = waits.begins;
          ends = ends;
          own = ap (λ (x : List E). own_events b x v.actor) ends ∙ own-push b law h v.actor c a ∙ ap (λ (x : List E). x ++ e) waits.own;
        };
        stamped = stamped;
        answer = λ point f. subst (λ (x : List E). a ≡ b.reply (after b v.opening x) v.actor c) (here point f) right;
        right = λ point f. subst (Waits b v.actor v.seen) (here point f) waits;
      }

  pub settled-after : (v u w : PassView R S M E) (c : C) (a : A) (stamp : ℕ) → IsUnmade b v c u → IsSettled b u c a stamp w → IsSettled b v c a stamp w
  settled-after v u w c a stamp f g =
      let o = f.more.pass.opening in let m = f.more.pass.actor in let h : List E = g.seen.point in
      settled v w c a stamp h
      f.more.lawful.opened
      (subst (λ (x : S). IsLegal b x h) o (legal-left b u.opening h (b.event u.actor c a ∷ []) (subst (IsLegal b u.opening) g.seen.ends g.lawful.legal)))
      (waits-after b v.actor v.seen u.seen h f.more.seen (subst (λ (x : M). Waits b x u.seen h) m (point_waits b law u.actor c a u.seen w.seen g.seen)))
      (same_after v u w f.more.pass g.pass)
      (subst (λ (x : M). w.seen ≡ h ++ b.event x c a ∷ []) m g.seen.ends)
      (subst (λ (x : S × M). a ≡ b.reply (after b x.0 h) x.1 c) (λ i. (o i, m i)) (g.answer h g.seen.ends))
      (subst (λ (x : S). stamp ≡ b.stamp (after b x w.seen)) o g.stamped)

  -- the same pass after a step
  abbrev sees : PassView R S M E → List E → List E → ℕ → ℕ → List (Moment M E) → PassView R S M E
  sees v seen since loads exchanges moments = record v { seen = seen; since = since; loads = loads; exchanges = exchanges; moments = moments }

  same_pass : (v w : PassView R S M E) (seen since : List E) (l x : ℕ) (ms : List (Moment M E)) → w ≡ sees v seen since l x ms → IsSamePass v w
  same_pass v w seen since l x ms is =
      record { table = ap (λ (y : PassView R S M E). y.table) is; rules = ap (λ (y : PassView R S M E). y.rules) is; opening = ap (λ (y : PassView R S M E). y.opening) is; actor = ap (λ (y : PassView R S M E). y.actor) is }

  -- the changes since the load, stated for the pass at the call's beginning
  pub changes_since : (v w : PassView R S M E) (c : C) (a : A) (old new lost n : ℕ) → IsUnmade b v c w → IsUnderWay b w c a old new lost → n ≡ lost → HasChanges b v.actor w.since w.seen n
  changes_since v w c a old new lost n f t is = subst (λ (x : M × ℕ). HasChanges b x.0 w.since w.seen x.1) (λ i. (f.more.pass.actor i, sym is i)) t.evidence

  -- the call has lost as many exchanges as it may
  pub busy : (v w : PassView R S M E) (c : C) (a : A) (old new lost tries : ℕ) → IsUnmade b v c w → IsUnderWay b w c a old new lost → BeginsWith w.since v.seen → lost ≡ tries → IsOvertaken b v v.seen c tries lost w
  busy v w c a old new lost tries f t begins is =
      let m = f.more.pass.actor in record {
        all_lost = is;
        ready = f.ready;
        changed = changes-before b v.actor v.seen w.since w.seen tries begins (subst (λ (x : M × ℕ). HasChanges b x.0 w.since w.seen x.1) (λ i. (m i, is i)) t.evidence);
      }

  pub unmade-after : (v u w : PassView R S M E) (c : C) → IsUnmade b v c u → IsUnmade b u c w → IsUnmade b v c w
  unmade-after v u w c f g =
      let o = f.more.pass.opening in let m = f.more.pass.actor in record {
        more = record {
          pass = same_after v u w f.more.pass g.more.pass;
          lawful = subst (λ (x : S). IsLawful b x w.seen) o g.more.lawful;
          seen = waits-after b v.actor v.seen u.seen w.seen f.more.seen (subst (λ (x : M). Waits b x u.seen w.seen) m g.more.seen);
        };
        ready = subst (λ (x : S × M). b.is_done (b.reply (after b x.0 w.seen) x.1 c) ≡ true) (λ i. (o i, m i)) g.ready;
      }

  -- the effect of a lost exchange
  pub record Loses (v w : PassView R S M E) (c : C) (a : A) (word new lost : ℕ) : Type 0 where
    pub unmade : IsUnmade b v c w
    pub since : w.since ≡ v.since
    pub changed : HasChanges b v.actor v.seen w.seen 1
    pub under_way : IsUnderWay b w c a word new (lost + 1)

  -- likewise for an attempt, whose pass has looked before
  pub busy_attempt : (v w : PassView R S M E) (c : C) (a : A) (word new lost tries : ℕ) → Loses v w c a word new lost → lost + 1 ≡ tries → IsOvertaken b v v.since c tries (lost + 1) w
  busy_attempt v w c a word new lost tries l is =
      let m = l.unmade.more.pass.actor in record {
        all_lost = is;
        ready = l.unmade.ready;
        changed = subst (λ (x : M × List E × ℕ). HasChanges b x.0 x.1 w.seen x.2) (λ i. (m i, l.since i, is i)) l.under_way.evidence;
      }

  -- the stamp, stated for the pass at the call's beginning
  pub stamp_at : (v w : PassView R S M E) (c : C) (a : A) (word new lost stamp : ℕ) → IsUnmade b v c w → IsUnderWay b w c a word new lost → Stamps b word stamp → stamp ≡ b.stamp (after b v.opening w.seen)
  stamp_at v w c a word new lost stamp f t stamps =
      subst (λ (o : S). stamp ≡ b.stamp (after b o w.seen)) f.more.pass.opening (stamps (after b w.opening w.seen) (sound-after b law w.opening w.seen t.lawful.opened) t.found)

module _ {R S M C A E : Type 0} (b : RuleBook S M C A E) (law : IsRuleBook b) (rules : R) where
  waits_at : (v : PassView R S M E) (word : ℕ) (h : List E) → WordMoment b rules (view_of v) word h → Waits b v.actor v.seen h
  waits_at v word h at = record { begins = at.begins; own = at.own }

  settled_at : (v w : PassView R S M E) (word : ℕ) (h since : List E) (l x : ℕ) (ms : List (Moment M E)) (c : C) (a : A) (stamp : ℕ) → WordMoment b rules (view_of v) word h → w ≡ sees b law v (h ++ b.event v.actor c a ∷ []) since l x ms
      → a ≡ b.reply (after b v.opening h) v.actor c → stamp ≡ b.stamp (b.next (after b v.opening h) v.actor c) → IsSettled b v c a stamp w
  settled_at v w word h since l x ms c a stamp at is right stamped =
      let f : w.seen ≡ h ++ b.event v.actor c a ∷ [] = ap (λ (y : PassView R S M E). y.seen) is in
      settled b law v w c a stamp h at.opened at.legal (waits_at v word h at) (same_pass b law v w (h ++ b.event v.actor c a ∷ []) since l x ms is) f right
      (stamped ∙ sym (ap (λ (y : List E). b.stamp (after b v.opening y)) f ∙ ap b.stamp (after-push b law v.opening h v.actor c a)))

  unmade_at : (v w : PassView R S M E) (word : ℕ) (h since : List E) (l x : ℕ) (ms : List (Moment M E)) (c : C) → WordMoment b rules (view_of v) word h → w ≡ sees b law v h since l x ms → b.is_done (b.reply (after b v.opening h) v.actor c) ≡ true → IsUnmade b v c w
  unmade_at v w word h since l x ms c at is ready = subst (IsUnmade b v c) (sym is) record {
    more = record { pass = record { table = refl; rules = refl; opening = refl; actor = refl }; lawful = record { opened = at.opened; legal = at.legal }; seen = waits_at v word h at };
    ready = ready;
  }

  -- the answer at the moment of a step
  pub answer_at : (v w : PassView R S M E) (word : ℕ) (h seen since : List E) (l x : ℕ) (ms : List (Moment M E)) (c : C) (a : A) (new : ℕ) (m : M) → WordMoment b rules (view_of v) word h → w ≡ sees b law v seen since l x ms → m ≡ w.actor → Says b word m c a new
      → (a ≡ b.reply (after b v.opening h) v.actor c) × (new ≡ b.packed (b.next (after b v.opening h) v.actor c))
  answer_at v w word h seen since l x ms c a new m at is who says = let f : m ≡ v.actor = who ∙ ap (λ (y : PassView R S M E). y.actor) is in
      subst (λ (y : M). (a ≡ b.reply (after b v.opening h) y c) × (new ≡ b.packed (b.next (after b v.opening h) y c))) f (says (after b v.opening h) at.sound at.found)

  -- what is seen at that moment, by the answer
  pub seen_refused : (v : PassView R S M E) (c : C) (h : List E) (a : A) → a ≡ b.reply (after b v.opening h) v.actor c → b.is_done a ≡ false → seen_at b c (view_of v) h ≡ h ++ b.event v.actor c a ∷ []
  seen_refused v c h a right isnt =
      let r : A = b.reply (after b v.opening h) v.actor c in
      ap (λ (d : Bool). if d then h else h ++ b.event v.actor c r ∷ []) (ap b.is_done (sym right) ∙ isnt) ∙ ap (λ (y : A). h ++ b.event v.actor c y ∷ []) (sym right)

  pub seen_done : (v : PassView R S M E) (c : C) (h : List E) (a : A) → a ≡ b.reply (after b v.opening h) v.actor c → b.is_done a ≡ true → seen_at b c (view_of v) h ≡ h
  seen_done v c h a right isit = ap (λ (d : Bool). if d then h else h ++ b.event v.actor c (b.reply (after b v.opening h) v.actor c) ∷ []) (ap b.is_done (sym right) ∙ isit)

  pub moments_done : (v : PassView R S M E) (c : C) (h : List E) (ms : List (Moment M E)) (a : A) → a ≡ b.reply (after b v.opening h) v.actor c → b.is_done a ≡ true → moments_at b c (view_of v) h ms ≡ ms
  moments_done v c h ms a right isit = ap (λ (d : Bool). if d then ms else with_answer b c (view_of v) h ms) (ap b.is_done (sym right) ∙ isit)

  refused_at : (v w : PassView R S M E) (word : ℕ) (h since : List E) (l x : ℕ) (ms : List (Moment M E)) (c : C) (a : A) (new stamp : ℕ) (m : M) → WordMoment b rules (view_of v) word h → w ≡ sees b law v (seen_at b c (view_of v) h) since l x ms → m ≡ w.actor
      → Says b word m c a new → Stamps b word stamp → b.is_done a ≡ false → IsSettled b v c a stamp w
  refused_at v w word h since l x ms c a new stamp m at is who says stamps isnt =
      let s : S = after b v.opening h in
      let right = (answer_at v w word h (seen_at b c (view_of v) h) since l x ms c a new m at is who says).0 in
      settled_at v w word h since l x ms c a stamp at (is ∙ ap (λ (z : List E). sees b law v z since l x ms) (seen_refused v c h a right isnt)) right
      (stamps s at.sound at.found ∙ ap b.stamp (sym (law.quiet s v.actor c (ap b.is_done (sym right) ∙ isnt))))

  -- ---- what a load shows

  pub look_refused : (heard : List (HistoryView S M E)) (v w : PassView R S M E) (word : ℕ) (c : C) (a : A) (new stamp : ℕ) (m : M) → Loaded b rules c heard v word w → m ≡ w.actor → Says b word m c a new → Stamps b word stamp → b.is_done a ≡ false → IsSettled b v c a stamp w
  look_refused heard v w word c a new stamp m told who says stamps isnt = refused_at v w word told.0 _ _ _ _ c a new stamp m told.1 told.2 who says stamps isnt

  -- a load counts as one load, an exchange as one exchange
  pub one_load : (heard : List (HistoryView S M E)) (v w : PassView R S M E) (c : C) (word : ℕ) → Loaded b rules c heard v word w → (w.loads ≡ v.loads + 1) × (w.exchanges ≡ v.exchanges)
  one_load heard v w c word told = (ap (λ (k : PassView R S M E). k.loads) told.2, ap (λ (k : PassView R S M E). k.exchanges) told.2)

  pub one_exchange : (v w : PassView R S M E) (c : C) (old word : ℕ) → Exchanged b rules c v old word w → (w.loads ≡ v.loads) × (w.exchanges ≡ v.exchanges + 1)
  one_exchange v w c old word told = (ap (λ (k : PassView R S M E). k.loads) told.2, ap (λ (k : PassView R S M E). k.exchanges) told.2)

  pub look_ready : (heard : List (HistoryView S M E)) (v w : PassView R S M E) (word : ℕ) (c : C) (a : A) (new : ℕ) (m : M) → Loaded b rules c heard v word w → m ≡ w.actor → Says b word m c a new → b.is_done a ≡ true → IsUnmade b v c w × IsUnderWay b w c a word new 0 × (w.since ≡ w.seen)
  look_ready heard v w word c a new m told who says isit =
      let h : List E = told.0 in let at = told.1 in let ms : List (Moment M E) = with_begin b (view_of v) at.moments in
      let right = (answer_at v w word h (seen_at b c (view_of v) h) _ _ _ _ c a new m at told.2 who says).0 in
      let is : w ≡ at_moments (with_load v h) ms = told.2 ∙ ((λ i. at_moments (with_load v (seen_done v c h a right isit i)) (moments_at b c (view_of v) h ms)) ∙ ap (at_moments (with_load v h)) (moments_done v c h ms a right isit)) in
      let machine : m ≡ v.actor = who ∙ ap (λ (y : PassView R S M E). y.actor) is in (
        unmade_at v w word h _ _ _ _ c at is (ap b.is_done (sym right) ∙ isit),
        subst (λ (k : PassView R S M E). IsUnderWay b k c a word new 0) (sym is) record {
          lawful = record { opened = at.opened; legal = at.legal };
          found = at.found;
          ready = ready_for b m v.actor c a word new machine says isit;
          evidence = record { more = []; is = sym (append-nil h); many = omega arith };
          begun = begun b law at.moments v.actor;
        },
        ap (λ (k : PassView R S M E). k.since) is ∙ ap (λ (k : PassView R S M E). k.seen) (sym is),
      )

  -- ---- what an exchange shows

  pub won_at : (v w : PassView R S M E) (c : C) (old word : ℕ) → (told : Exchanged b rules c v old word w) → word ≡ old → w ≡ at_moments (with_exchange v (with_event b c (view_of v) told.0)) (with_answer b c (view_of v) told.0 told.1.moments)
  won_at v w c old word told hit =
      let ms = told.1.moments in
      told.2 ∙ ap (λ (d : Bool). at_moments (with_exchange v (if d then with_event b c (view_of v) told.0 else seen_at b c (view_of v) told.0)) (if d then with_answer b c (view_of v) told.0 ms else moments_at b c (view_of v) told.0 ms)) (eq-eqb word old hit)

  pub lost_at : (v w : PassView R S M E) (c : C) (old word : ℕ) → (told : Exchanged b rules c v old word w) → word ≢ old → w ≡ at_moments (with_exchange v (seen_at b c (view_of v) told.0)) (moments_at b c (view_of v) told.0 told.1.moments)
  lost_at v w c old word told miss =
      let ms = told.1.moments in
      told.2 ∙ ap (λ (d : Bool). at_moments (with_exchange v (if d then with_event b c (view_of v) told.0 else seen_at b c (view_of v) told.0)) (if d then with_answer b c (view_of v) told.0 ms else moments_at b c (view_of v) told.0 ms)) (ne_eqb word old miss)

  pub attempt_won : (v w : PassView R S M E) (c : C) (a : A) (old new lost word stamp : ℕ) → IsUnderWay b v c a old new lost → Exchanged b rules c v old word w → word ≡ old → Stamps b new stamp → IsSettled b v c a stamp w
  attempt_won v w c a old new lost word stamp t told hit stamps =
      let h : List E = told.0 in let s : S = after b v.opening h in let f = t.ready.leads s told.1.sound (told.1.found ∙ hit) in
      settled_at v w word h _ _ _ _ c a stamp told.1 (won_at v w c old word told hit ∙ ap (λ (y : A). at_moments (with_exchange v (h ++ b.event v.actor c y ∷ [])) (with_answer b c (view_of v) h told.1.moments)) f.0) (sym f.0) (stamps (b.next s v.actor c) (law.keeps s v.actor c told.1.sound) f.1)

  pub attempt_refused : (v w : PassView R S M E) (c : C) (old word new stamp : ℕ) (a : A) (m : M) → Exchanged b rules c v old word w → word ≢ old → m ≡ w.actor → Says b word m c a new → Stamps b word stamp → b.is_done a ≡ false → IsSettled b v c a stamp w
  attempt_refused v w c old word new stamp a m told miss who says stamps isnt = refused_at v w word told.0 _ _ _ _ c a new stamp m told.1 (lost_at v w c old word told miss) who says stamps isnt

  loses_sees : (v w : PassView R S M E) (c : C) (first a : A) (old before lost word new : ℕ) (h : List E) → IsUnderWay b v c first old before lost → word ≢ old → (t : WordMoment b rules (view_of v) word h) → w ≡ at_moments (with_exchange v h) t.moments → b.is_done (b.reply (after b v.opening h) v.actor c) ≡ true
      → IsReady b v.actor c a word new → Loses b law v w c a word new lost
  loses_sees v w c first a old before lost word new h t miss at is ready next_word =
      let one = overtaken b law rules v word h old at t.found miss in
      subst (λ (x : PassView R S M E). Loses b law v x c a word new lost) (sym is) record {
        unmade = unmade_at v (at_moments (with_exchange v h) at.moments) word h _ _ _ _ c at refl ready;
        since = refl;
        changed = one;
        under_way = record {
          lawful = record { opened = at.opened; legal = at.legal };
          found = at.found;
          ready = next_word;
          evidence = changes-trans b v.actor v.since v.seen h lost 1 t.evidence one;
          begun = begun-as b v.actor at.moments v.moments at.own_since t.begun;
        };
      }

  pub attempt_lost : (v w : PassView R S M E) (c : C) (first : A) (old before lost word new : ℕ) (a : A) (m : M) → IsUnderWay b v c first old before lost → Exchanged b rules c v old word w → word ≢ old → m ≡ w.actor → Says b word m c a new → b.is_done a ≡ true
      → Loses b law v w c a word new lost
  attempt_lost v w c first old before lost word new a m t told miss who says isit =
      let h : List E = told.0 in let at = told.1 in
      let is = lost_at v w c old word told miss in
      let right = (answer_at v w word h (seen_at b c (view_of v) h) _ _ _ _ c a new m at is who says).0 in
      let ms = at.moments in
      loses_sees v w c first a old before lost word new h t miss at (is ∙ ((λ i. at_moments (with_exchange v (seen_done v c h a right isit i)) (moments_at b c (view_of v) h ms)) ∙ ap (at_moments (with_exchange v h)) (moments_done v c h ms a right isit))) (ap b.is_done (sym right) ∙ isit)
      (ready_for b m v.actor c a word new (who ∙ ap (λ (y : PassView R S M E). y.actor) is) says isit)
