-- The rule of the word: it holds the state after one growing legal history. And what each step on the word shows its
-- actor.
use Rattle.std.specs.Prelude.{◌≡◌, ℕ, ◌+◌, ◌<◌, ◌==◌, if◌then◌else◌, List, [], ◌∷◌, ◌++◌, length, slice_index, ⊤}
use Rattle.std.specs.Prelude.{map}
use mathlib.Core.Option.{some}
use lib.ListN.{get_elem?}
use Rattle.atomic_table.specs.Table.{State, Me}
use Rattle.word_interlock.specs.RuleBook.{RuleBook, times}
use Rattle.word_interlock.specs.History.{after, IsLegal, IsLawful, own_events, BeginsWith}
use Rattle.word_interlock.specs.declared.views.ActorView.{ActorView}
use Rattle.word_interlock.specs.declared.views.HistoryView.{HistoryView}
use Rattle.word_interlock.specs.declared.views.SeatView.{SeatView}
use Rattle.word_interlock.specs.declared.views.Moment.{Moment}
use Rattle.word_interlock.specs.declared.views.Moment.TheVariants.{Begins, Answered}
use Rattle.word_interlock.specs.Moments.{events_of, own_moments, AreCalls, AreOfPasses, AreInTime}

-- ---- views

module _ {R S M E : Type 0} where
  -- The view of a seat has a view for each of its actors and each of its receipts. This is the view of an actor that
  -- has seen nothing and made no step.
  abbrev pub new_view : R → S → M → ActorView R S M E
  new_view rules opening m =
      record {
        rules = rules;
        opening = opening;
        actor = m;
        seen = [];
        since = [];
        loads = 0;
        exchanges = 0;
        moments = [];
      }

  -- the view of a seat without actors and receipts; with one actor alone; and with one receipt alone
  abbrev pub spent : SeatView R S M E
  spent = record { actors = []; receipts = [] }

  abbrev pub actor_alone : ActorView R S M E → SeatView R S M E
  actor_alone p = record { actors = p ∷ []; receipts = [] }

  abbrev pub receipt_alone : HistoryView S M E → SeatView R S M E
  receipt_alone told = record { actors = []; receipts = told ∷ [] }

  -- likewise with one actor and some receipts
  abbrev pub actor_with : ActorView R S M E → List (HistoryView S M E) → SeatView R S M E
  actor_with p heard = record { actors = p ∷ []; receipts = heard }

  -- a seat's first actor alone; and all else that the seat has
  abbrev pub first_only : List (ActorView R S M E) → List (ActorView R S M E)
  first_only [] = []
  first_only (p ∷ rest) = p ∷ []

  abbrev pub but_first : List (ActorView R S M E) → List (ActorView R S M E)
  but_first [] = []
  but_first (p ∷ rest) = rest

  abbrev pub first_off : SeatView R S M E → SeatView R S M E
  first_off v = record { actors = first_only v.actors; receipts = [] }

  abbrev pub others_of : SeatView R S M E → SeatView R S M E
  others_of v = record v { actors = but_first v.actors }

  -- receipts of all that the actors of a seat have seen, and of all that its receipts tell; and no actor
  abbrev pub seen_by_actor : ActorView R S M E → HistoryView S M E
  seen_by_actor p = record { opening = p.opening; seen = p.seen; moments = p.moments }

  abbrev pub seen_in : List (ActorView R S M E) → List (HistoryView S M E)
  seen_in [] = []
  seen_in (p ∷ rest) = seen_by_actor p ∷ seen_in rest

  abbrev pub receipts_of : SeatView R S M E → SeatView R S M E
  receipts_of v = record { actors = []; receipts = seen_in v.actors ++ v.receipts }

  -- two seats in one, the other's actors and receipts first
  abbrev pub together : SeatView R S M E → SeatView R S M E → SeatView R S M E
  together mine other =
      record { actors = other.actors ++ mine.actors; receipts = other.receipts ++ mine.receipts }

  -- the view of the first seat, which has every actor; none has seen anything
  abbrev pub all_views : R → S → List M → SeatView R S M E
  all_views rules opening actors = record { actors = map (new_view rules opening) actors; receipts = [] }

  -- the view of an actor that has seen this, after one more load; and after one more exchange
  abbrev pub after_load : ActorView R S M E → List E → ActorView R S M E
  after_load p seen = record p { seen = seen; since = seen; loads = p.loads + 1 }

  abbrev pub after_exchange : ActorView R S M E → List E → ActorView R S M E
  after_exchange p seen = record p { seen = seen; exchanges = p.exchanges + 1 }

  -- the view of an actor at whose step these were the moments so far
  abbrev pub with_moments : ActorView R S M E → List (Moment M E) → ActorView R S M E
  with_moments p moments = record p { moments = moments }

  -- each actor of a seat has seen this history, after one more load
  abbrev pub all_see : List E → List (ActorView R S M E) → List (ActorView R S M E)
  all_see history [] = []
  all_see history (p ∷ rest) = after_load p history ∷ all_see history rest

  abbrev pub after_gathering : List E → SeatView R S M E → SeatView R S M E
  after_gathering history v = record { actors = all_see history v.actors; receipts = [] }

-- ---- receipts

-- a receipt tells a prefix of the history
pub record Tells {S M E : Type 0} (opening : S) (history : List E) (told : HistoryView S M E) : Type 0 where
  pub opening_is : told.opening ≡ opening
  pub begins : BeginsWith history told.seen

abbrev pub AllTell : {S M E : Type 0} → S → List E → List (HistoryView S M E) → Type 0
AllTell opening history [] = ⊤
AllTell opening history (told ∷ rest) = Tells opening history told × AllTell opening history rest

-- the moments that receipts tell are prefixes of these
abbrev pub AllShow : {S M E : Type 0} → List (Moment M E) → List (HistoryView S M E) → Type 0
AllShow moments [] = ⊤
AllShow moments (told ∷ rest) = BeginsWith moments told.moments × AllShow moments rest

-- what the receipts of a seat tell its first actor
abbrev pub TellFirst : {R S M E : Type 0} → List (ActorView R S M E) → List E → List (HistoryView S M E) → Type 0
TellFirst [] history receipts = ⊤
TellFirst (p ∷ rest) history receipts = AllTell p.opening history receipts

module _ {R S M C A E : Type 0} (b : RuleBook S M C A E) where
  -- how often an actor is in a seat, and in all seats
  abbrev pub times_in : M → List (ActorView R S M E) → ℕ
  times_in m [] = 0
  times_in m (p ∷ rest) = (if b.same p.actor m then 1 else 0) + times_in m rest

  abbrev pub times_in_all : M → List (SeatView R S M E) → ℕ
  times_in_all m [] = 0
  times_in_all m (view ∷ views) = times_in m view.actors + times_in_all m views

  -- the steps of each actor of a seat, and its receipts, have shown a prefix of these moments; an actor's all its own
  abbrev pub SeatIsInTime : List (Moment M E) → SeatView R S M E → Type 0
  SeatIsInTime moments v = AreInTime b moments v.actors × AllShow moments v.receipts

  -- the history so far with a call's event
  abbrev pub with_event : C → ActorView R S M E → List E → List E
  with_event c p history =
      history ++ b.event p.actor c (b.reply (after b p.opening history) p.actor c) ∷ []

  -- what an actor sees when it finds the word for a call: the history so far, and then the call's event if the call
  -- changes nothing
  abbrev pub seen_at : C → ActorView R S M E → List E → List E
  seen_at c p history =
      if b.is_done (b.reply (after b p.opening history) p.actor c) then history else with_event c p history

  -- what an actor sees by an exchange of the old word for a call: if it is won, the history so far and then the call's
  -- event; if it is lost, what a load shows
  abbrev pub seen_by : C → ActorView R S M E → ℕ → ℕ → List E → List E
  seen_by c p old word history = if word == old then with_event c p history else seen_at c p history

  -- the moments so far with a call's answer
  abbrev pub with_answer : C → ActorView R S M E → List E → List (Moment M E) → List (Moment M E)
  with_answer c p history moments =
      moments ++ Answered (b.event p.actor c (b.reply (after b p.opening history) p.actor c)) ∷ []

  -- likewise the moments when an actor finds the word for a call, and when it exchanges it
  abbrev pub moments_at : C → ActorView R S M E → List E → List (Moment M E) → List (Moment M E)
  moments_at c p history moments =
      if b.is_done (b.reply (after b p.opening history) p.actor c) then moments else with_answer c p history moments

  abbrev pub moments_by : C → ActorView R S M E → ℕ → ℕ → List E → List (Moment M E) → List (Moment M E)
  moments_by c p old word history moments =
      if word == old then with_answer c p history moments else moments_at c p history moments

  -- the moments so far with the beginning of an actor's call
  abbrev pub with_begin : ActorView R S M E → List (Moment M E) → List (Moment M E)
  with_begin p moments = moments ++ Begins p.actor ∷ []

module _ {R S M C A E : Type 0} (b : RuleBook S M C A E) (rules : R) where
  -- ---- the rule

  -- an actor has seen a prefix of the history, with all its own events
  pub record Fits (opening : S) (history : List E) (p : ActorView R S M E) : Type 0 where
    pub rules_are : p.rules ≡ rules
    pub opening_is : p.opening ≡ opening
    pub begins : BeginsWith history p.seen
    pub own : own_events b history p.actor ≡ own_events b p.seen p.actor

  abbrev pub AllFit : S → List E → List (ActorView R S M E) → Type 0
  AllFit opening history [] = ⊤
  AllFit opening history (p ∷ rest) = Fits opening history p × AllFit opening history rest

  abbrev pub SeatFits : S → List E → SeatView R S M E → Type 0
  SeatFits opening history v = AllFit opening history v.actors × AllTell opening history v.receipts

  -- the word is that of the state after one legal history; each actor has seen a prefix of it, with all its own events,
  -- and each receipt tells a prefix of it; who has a pass is in one seat, and stays so if that is dropped. It is the
  -- events of one list of moments, in which each comes after the beginning of its call, all of actors who have a pass;
  -- each actor's steps have shown it a prefix of these, with all its own, and each receipt tells a prefix of them
  pub record WordTellsHistory {T : Type 0} (opening : S) (table : State T (SeatView R S M E)) : Type 0 where
    pub history : List E
    pub has_word : 0 < length table.words
    pub sound : b.is_sound opening
    pub legal : IsLegal b opening history
    pub word : slice_index table.words 0 ≡ b.packed (after b opening history)
    pub views : (i : ℕ) (view : SeatView R S M E) → get_elem? table.views i ≡ some view
        → SeatFits opening history view
    pub apart : (m : M) → times_in_all b m table.views ≡ times b.same m b.actors
    pub moments : List (Moment M E)
    pub events : events_of moments ≡ history
    pub calls : AreCalls b moments
    pub callers : AreOfPasses b moments
    pub in_time : (i : ℕ) (view : SeatView R S M E) → get_elem? table.views i ≡ some view
        → SeatIsInTime b moments view

  -- ---- the steps

  -- an actor's step finds a word: at this moment the history is this one, and the actor had seen a prefix of it, with
  -- all its own events
  pub record WordMoment (p : ActorView R S M E) (word : ℕ) (history : List E) : Type 0 where
    pub rules_are : p.rules ≡ rules
    pub opened : b.is_sound p.opening
    pub sound : b.is_sound (after b p.opening history)
    pub legal : IsLegal b p.opening history
    pub begins : BeginsWith history p.seen
    pub own : own_events b history p.actor ≡ own_events b p.seen p.actor
    pub found : b.packed (after b p.opening history) ≡ word
    pub moments : List (Moment M E)
    pub events : events_of moments ≡ history
    pub since : BeginsWith moments p.moments
    pub own_since : own_moments b moments p.actor ≡ own_moments b p.moments p.actor

  -- the same moment for each actor of a seat
  abbrev pub WordMomentOfAll : List (ActorView R S M E) → ℕ → List E → Type 0
  WordMomentOfAll [] word history = ⊤
  WordMomentOfAll (p ∷ rest) word history = WordMoment p word history × WordMomentOfAll rest word history

  -- a load for a call shows an actor this word; and the seat after it. All that these receipts of the seat tell stands
  -- before the beginning of the call; they are then used up
  abbrev pub looked : {T : Type 0} → C → List (HistoryView S M E) → ActorView R S M E → ℕ → Me T (SeatView R S M E)
      → Type 0
  looked c heard p word me' =
      (history : List E) × (at : WordMoment p word history)
      × (me' ≡ (
        actor_alone (with_moments (after_load p (seen_at b c p history))
            (moments_at b c p history (with_begin b p at.moments))),
        [],
      ))
      × AllTell p.opening history heard × AllShow at.moments heard

  -- likewise an exchange of the old word for a call, won or lost
  abbrev pub exchanged : {T : Type 0} → C → ℕ → ActorView R S M E → ℕ → Me T (SeatView R S M E) → Type 0
  exchanged c old p word me' =
      (history : List E) × (at : WordMoment p word history)
      × (me' ≡ (
        actor_alone (with_moments (after_exchange p (seen_by b c p old word history))
            (moments_by b c p old word history at.moments)),
        [],
      ))

  -- a load for no call: each actor of the seat sees the history so far, which begins with all that the seat's receipts
  -- tell; these are then used up
  abbrev pub gathered : {T : Type 0} → Me T (SeatView R S M E) → ℕ → Me T (SeatView R S M E) → Type 0
  gathered me word me' =
      (history : List E) × WordMomentOfAll me.0.actors word history
      × TellFirst me.0.actors history me.0.receipts × (me' ≡ (after_gathering history me.0, me.1))

  -- the seat of one actor, which has seen a legal history from a sound opening
  pub record IsSeat {T : Type 0} (m : M) (p : ActorView R S M E) (me : Me T (SeatView R S M E)) : Type 0 where
    pub alone : me ≡ (actor_alone p, [])
    pub actor : p.actor ≡ m
    pub lawful : IsLawful b p.opening p.seen
