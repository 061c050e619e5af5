-- Several passes in one, and the end of an interlock.
use Rattle.std.proofs.Common.{◌≡◌, ℕ, List, [], ◌∷◌, map, get_or, refl, sym, ap, ◌∙◌, subst}
use mathlib.Core.Option.{some, some-ne-none, some-injective}
use lib.ListN.{get_elem?}
use Rattle.atomic_table.specs.Table.{Me, Seen, Final}
use Rattle.word_interlock.specs.RuleBook.{RuleBook, IsRuleBook}
use Rattle.word_interlock.specs.History.{after, IsLawful}
use Rattle.word_interlock.specs.declared.views.ActorView.{ActorView}
use Rattle.word_interlock.specs.declared.views.SeatView.{SeatView}
use Rattle.word_interlock.specs.Rule.{new_view, all_views, first_off, others_of, but_first, AllFit, WordTellsHistory, IsSeat}
use Rattle.word_interlock.specs.declared.views.Moment.{Moment}
use Rattle.word_interlock.specs.Moments.{events_of, AreCalls, AreInTime}
use Rattle.word_interlock.specs.Run.{IsRun}
use Rattle.word_interlock.specs.Bunches.{IsNext, bunch, AllLawful, IsBunch, AllHavePart, IsEnd}
use Rattle.word_interlock.proofs.lemmas.Histories.{sound-after}

module _ {R S M C A E : Type 0} (book : R → RuleBook S M C A E) where
  -- the first of several, on its own seat; and the others
  module _ {T : Type 0} (m : M) (me old new : Me T (SeatView R S M E)) (is : IsBunch book old) (right : new ≡ (first_off old.0, [])) (left : me ≡ (others_of old.0, old.1)) where
    taken : (ps : List (ActorView R S M E)) → IsNext m ps → AllLawful book ps → old ≡ (bunch ps, []) → (p : ActorView R S M E) × (IsSeat (book p.rules) p.rules m p new × (old.0.actors ≡ p ∷ me.0.actors))
    taken [] next lawful e = absurd next
    taken (p ∷ ps) next lawful e = (
      p,
      (
        record { alone = right ∙ ap (λ (x : Me T (SeatView R S M E)). (first_off x.0, [])) e; actor = next; lawful = lawful.0 },
        ap (λ x. x.0.actors) e ∙ ap (λ (x : Me T (SeatView R S M E)). p ∷ x.0.actors) (sym (left ∙ ap (λ (x : Me T (SeatView R S M E)). (others_of x.0, x.1)) e)),
      ),
    )

    pub take_first : IsNext m old.0.actors → (p : ActorView R S M E) × (IsSeat (book p.rules) p.rules m p new × (old.0.actors ≡ p ∷ me.0.actors))
    take_first next = taken old.0.actors next is.lawful is.alone

    rest_lawful : (ps : List (ActorView R S M E)) → AllLawful book ps → AllLawful book (but_first ps)
    rest_lawful [] l = tt
    rest_lawful (p ∷ ps) l = l.1

    pub rest_bunch : IsBunch book me
    rest_bunch =
        let e : me ≡ (bunch (but_first old.0.actors), []) = left ∙ ap (λ (x : Me T (SeatView R S M E)). (others_of x.0, x.1)) is.alone in
        subst (IsBunch book) (sym e) record { alone = refl; lawful = rest_lawful old.0.actors is.lawful }

  all_new : (rules : R) (o : S) (ms : List M) → (book rules).is_sound o → AllLawful book (map (new_view rules o) ms)
  all_new rules o [] k = tt
  all_new rules o (m ∷ ms) k = (record { opened = k; legal = tt }, all_new rules o ms k)

  pub fresh_bunch : {T : Type 0} (rules : R) (o : S) (ms : List M) (me : Me T (SeatView R S M E)) → (book rules).is_sound o → me ≡ (all_views rules o ms, []) → IsBunch book me
  fresh_bunch rules o ms me k e = subst (IsBunch book) (sym e) record { alone = refl; lawful = all_new rules o ms k }

first_word : (ws : List ℕ) (n : ℕ) → get_elem? ws 0 ≡ some n → get_or ws 0 0 ≡ n
first_word [] n e = absurd (some-ne-none n (sym e))
first_word (x ∷ xs) n e = some-injective x n e

module _ {R S M C A E : Type 0} (b : RuleBook S M C A E) (law : IsRuleBook b) (rules : R) where
  parts_of : (o : S) (h : List E) (ps : List (ActorView R S M E)) → AllFit b rules o h ps → AllHavePart b o h ps
  parts_of o h [] t = tt
  parts_of o h (p ∷ ps) t = (record { opened = t.0.opening_is; seen = record { begins = t.0.begins; own = t.0.own } }, parts_of o h ps t.1)

  -- what is known at the end
  pub record End (o : S) (word : ℕ) (actors : List (ActorView R S M E)) : Type 0 where
    pub history : List E
    pub lawful : IsLawful b o history
    pub sound : b.is_sound (after b o history)
    pub found : b.packed (after b o history) ≡ word
    pub parts : AllHavePart b o history actors
    pub moments : List (Moment M E)
    pub events : events_of moments ≡ history
    pub calls : AreCalls b moments
    pub in_time : AreInTime b moments actors

  pub ended : {T : Type 0} (o : S) (id n : ℕ) (v : SeatView R S M E) (ws : List ℕ) (xs : List T) → Final (Seen (WordTellsHistory b rules o) id v) ws xs → get_elem? ws 0 ≡ some n → End o n v.actors
  ended o id n v ws xs f word =
      let r = f.1.0 in record {
        history = r.history;
        lawful = record { opened = r.sound; legal = r.legal };
        sound = sound-after b law o r.history r.sound;
        found = sym r.word ∙ (ap (λ (l : List ℕ). get_or l 0 0) f.2 ∙ first_word ws n word);
        parts = parts_of o r.history v.actors (r.views id v f.1.1).0;
        moments = r.moments;
        events = r.events;
        calls = r.calls;
        in_time = (r.in_time id v f.1.1).0;
      }

  pub end_state : (o : S) (word : ℕ) (ps : List (ActorView R S M E)) (s : S) → (e : End o word ps) → s ≡ after b o e.history → IsEnd b o ps s
  end_state o word ps s e is = record { history = e.history; lawful = e.lawful; reached = is; parts = e.parts }

  pub end_run : (o : S) (word : ℕ) (ps : List (ActorView R S M E)) (s : S) → (e : End o word ps) → s ≡ after b o e.history → IsRun b o ps s
  end_run o word ps s e is = record {
    moments = e.moments;
    calls = e.calls;
    lawful = subst (IsLawful b o) (sym e.events) e.lawful;
    reached = is ∙ ap (after b o) (sym e.events);
    in_time = e.in_time;
    parts = subst (λ (h : List E). AllHavePart b o h ps) (sym e.events) e.parts;
  }
