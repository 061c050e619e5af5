-- What is said of several is said of each.
use Rattle.std.proofs.Common.{◌≡◌, ℕ, List, [], ◌∷◌, ◌++◌, refl, sym, ap, subst, append-nil}
use Rattle.atomic_table.specs.Table.{Me}
use Rattle.word_interlock.specs.RuleBook.{RuleBook}
use Rattle.word_interlock.specs.History.{IsLawful, BeginsWith, Waits}
use Rattle.word_interlock.specs.declared.reply.Reply.{Reply}
use Rattle.word_interlock.specs.declared.reply.Reply.TheVariants.{Settled, Busy}
use Rattle.word_interlock.specs.declared.views.ActorView.{ActorView}
use Rattle.word_interlock.specs.declared.views.HistoryView.{HistoryView}
use Rattle.word_interlock.specs.declared.views.SeatView.{SeatView}
use Rattle.word_interlock.specs.declared.views.Moment.{Moment}
use Rattle.word_interlock.specs.Views.{PassView}
use Rattle.word_interlock.specs.Moments.{own_moments, AreInTime}
use Rattle.word_interlock.specs.Rule.{AllFit, AllShow, AllTell, WordMoment, WordMomentOfAll}
use Rattle.word_interlock.specs.Bunches.{AllHavePart, AllLawful}
use Rattle.word_interlock.specs.Calls.{SeenAfter}
use Rattle.word_interlock.specs.Seen.{IsSamePass}
use Rattle.word_interlock.specs.Settling.{IsLater, MadeCall, MakesCalls}
use Rattle.word_interlock.specs.EachLaws.{OfEach, EachPass, EachReceipt, BunchesAreAlone, CallsAddUp, EachLaws}
use Rattle.word_interlock.proofs.lemmas.Histories.{begins-trans, begins-more}
use Rattle.word_interlock.proofs.lemmas.Moments.{head_or, rest_of, no_end}
use Rattle.word_interlock.proofs.Answered.{same_after}

-- what holds of a list's first element and of the rest of it holds of each
module _ {X : Type 0} (holds : X → Type 0) where
  first_of : (x : X) (xs : List X) → OfEach (x ∷ xs) holds → holds x
  first_of x xs each = each [] x xs refl

  others_of : (x : X) (xs : List X) → OfEach (x ∷ xs) holds → OfEach xs holds
  others_of x xs each before y rest is = each (x ∷ before) y rest (ap (λ (l : List X). x ∷ l) is)

  of_none : OfEach [] holds
  of_none before x rest is = absurd (no_end before x rest is)

  of_more : (x : X) (xs : List X) → holds x → OfEach xs holds → OfEach (x ∷ xs) holds
  of_more x xs here there [] y rest is = subst holds (ap (head_or x) is) here
  of_more x xs here there (z ∷ before) y rest is = there before y rest (ap rest_of is)

module _ {R S M C A E : Type 0} (b : RuleBook S M C A E) (rules : R) where
  module _ (opening : S) (history : List E) where
    abbrev HasSeenPart : ActorView R S M E → Type 0
    HasSeenPart p = (p.opening ≡ opening) × Waits b p.actor p.seen history

    parts : (ps : List (ActorView R S M E)) → AllHavePart b opening history ps → OfEach ps HasSeenPart
    parts [] all = of_none HasSeenPart
    parts (p ∷ ps) all = of_more HasSeenPart p ps (all.0.opened, all.0.seen) (parts ps all.1)

    parts_back : (ps : List (ActorView R S M E)) → OfEach ps HasSeenPart → AllHavePart b opening history ps
    parts_back [] each = tt
    parts_back (p ∷ ps) each =
        let here = first_of HasSeenPart p ps each in
        (record { opened = here.0; seen = here.1 }, parts_back ps (others_of HasSeenPart p ps each))

    abbrev FitsHere : ActorView R S M E → Type 0
    FitsHere p = (p.rules ≡ rules) × (p.opening ≡ opening) × Waits b p.actor p.seen history

    fits : (ps : List (ActorView R S M E)) → AllFit b rules opening history ps → OfEach ps FitsHere
    fits [] all = of_none FitsHere
    fits (p ∷ ps) all = of_more FitsHere p ps (all.0.rules_are, all.0.opening_is, record { begins = all.0.begins; own = all.0.own }) (fits ps all.1)

    fits_back : (ps : List (ActorView R S M E)) → OfEach ps FitsHere → AllFit b rules opening history ps
    fits_back [] each = tt
    fits_back (p ∷ ps) each =
        let here = first_of FitsHere p ps each in
        (record { rules_are = here.0; opening_is = here.1; begins = here.2.begins; own = here.2.own }, fits_back ps (others_of FitsHere p ps each))

  module _ (moments : List (Moment M E)) where
    abbrev WasShown : ActorView R S M E → Type 0
    WasShown p = BeginsWith moments p.moments × (own_moments b moments p.actor ≡ own_moments b p.moments p.actor)

    in_time : (ps : List (ActorView R S M E)) → AreInTime b moments ps → OfEach ps WasShown
    in_time [] all = of_none WasShown
    in_time (p ∷ ps) all = of_more WasShown p ps (all.0.begins, all.0.own) (in_time ps all.1)

    in_time_back : (ps : List (ActorView R S M E)) → OfEach ps WasShown → AreInTime b moments ps
    in_time_back [] each = tt
    in_time_back (p ∷ ps) each =
        let here = first_of WasShown p ps each in
        (record { begins = here.0; own = here.1 }, in_time_back ps (others_of WasShown p ps each))

  module _ (word : ℕ) (history : List E) where
    abbrev FindsIt : ActorView R S M E → Type 0
    FindsIt p = WordMoment b rules p word history

    found : (ps : List (ActorView R S M E)) → WordMomentOfAll b rules ps word history → OfEach ps FindsIt
    found [] all = of_none FindsIt
    found (p ∷ ps) all = of_more FindsIt p ps all.0 (found ps all.1)

  each_pass : (ps : List (ActorView R S M E)) → EachPass b rules ps
  each_pass ps = record {
    part = λ o h. (parts o h ps, parts_back o h ps);
    fit = λ o h. (fits o h ps, fits_back o h ps);
    in_time = λ moments. (in_time moments ps, in_time_back moments ps);
    found = λ word h. found word h ps;
    no_other_end = λ o s none end. none end.history end.reached;
  }

module _ {S M E : Type 0} where
  module _ (opening : S) (history : List E) where
    abbrev TellsThis : HistoryView S M E → Type 0
    TellsThis told = (told.opening ≡ opening) × BeginsWith history told.seen

    tells : (rs : List (HistoryView S M E)) → AllTell opening history rs → OfEach rs TellsThis
    tells [] all = of_none TellsThis
    tells (r ∷ rs) all = of_more TellsThis r rs (all.0.opening_is, all.0.begins) (tells rs all.1)

    tells_back : (rs : List (HistoryView S M E)) → OfEach rs TellsThis → AllTell opening history rs
    tells_back [] each = tt
    tells_back (r ∷ rs) each =
        let here = first_of TellsThis r rs each in
        (record { opening_is = here.0; begins = here.1 }, tells_back rs (others_of TellsThis r rs each))

  module _ (moments : List (Moment M E)) where
    abbrev ShowsThese : HistoryView S M E → Type 0
    ShowsThese told = BeginsWith moments told.moments

    shows : (rs : List (HistoryView S M E)) → AllShow moments rs → OfEach rs ShowsThese
    shows [] all = of_none ShowsThese
    shows (r ∷ rs) all = of_more ShowsThese r rs all.0 (shows rs all.1)

    shows_back : (rs : List (HistoryView S M E)) → OfEach rs ShowsThese → AllShow moments rs
    shows_back [] each = tt
    shows_back (r ∷ rs) each = (first_of ShowsThese r rs each, shows_back rs (others_of ShowsThese r rs each))

  each_receipt : (R : Type 0) (rs : List (HistoryView S M E)) → EachReceipt R rs
  each_receipt R rs = record {
    tell = λ o h. (tells o h rs, tells_back o h rs);
    show = λ moments. (shows moments rs, shows_back moments rs);
    tell_first = λ p others h. (tells p.opening h rs, tells_back p.opening h rs);
  }

module _ {R S M C A E : Type 0} (book : R → RuleBook S M C A E) where
  abbrev SawLawful : ActorView R S M E → Type 0
  SawLawful p = IsLawful (book p.rules) p.opening p.seen

  lawful : (ps : List (ActorView R S M E)) → AllLawful book ps → OfEach ps SawLawful
  lawful [] all = of_none SawLawful
  lawful (p ∷ ps) all = of_more SawLawful p ps all.0 (lawful ps all.1)

  lawful_back : (ps : List (ActorView R S M E)) → OfEach ps SawLawful → AllLawful book ps
  lawful_back [] each = tt
  lawful_back (p ∷ ps) each = (first_of SawLawful p ps each, lawful_back ps (others_of SawLawful p ps each))

  bunches : BunchesAreAlone book
  bunches me = (
    λ k. (ap (λ (x : Me (Unit {0}) (SeatView R S M E)). x.0.receipts) k.alone, ap (λ (x : Me (Unit {0}) (SeatView R S M E)). x.1) k.alone, lawful me.0.actors k.lawful),
    λ k. record { alone = λ i. (record { actors = me.0.actors; receipts = k.0 i }, k.1 i); lawful = lawful_back me.0.actors k.2 },
  )

module _ {R S M C A E : Type 0} (b : RuleBook S M C A E) (tries : ℕ) where
  same_pass : (v : PassView R S M E) → IsSamePass v v
  same_pass v = record { table = refl; rules = refl; opening = refl; actor = refl }

  later_itself : (v : PassView R S M E) → IsLater b tries v v
  later_itself v = record { pass = same_pass v; seen = ([], sym (append-nil v.seen)) }

  later_on : (v u w : PassView R S M E) → IsLater b tries v u → IsLater b tries u w → IsLater b tries v w
  later_on v u w f g = record { pass = same_after v u w f.pass g.pass; seen = begins-trans v.seen u.seen w.seen f.seen g.seen }

  joined : (v u w : PassView R S M E) (xs ys : List (MadeCall R S M C A E)) → MakesCalls b tries v xs u → MakesCalls b tries u ys w → MakesCalls b tries v (xs ++ ys) w
  joined v u w [] [] f g = later_on v u w f g
  joined v u w [] (y ∷ ys) f g = (later_on v u y.before f g.0, g.1, g.2)
  joined v u w (x ∷ xs) ys f g = (f.0, f.1, joined x.after u w xs ys f.2 g)

  -- a call that was made leaves its pass later
  call_of : (v w : PassView R S M E) (c : C) (reply : Reply A) → IsSamePass v w → SeenAfter b v.actor c reply v.opening v.seen w.seen → IsLater b tries v w
  call_of v w c (Settled a stamp) pass seen =
      let e : List E = b.event v.actor c a ∷ [] in
      record { pass = pass; seen = subst (λ (l : List E). BeginsWith l v.seen) (sym seen.0.ends) (begins-more seen.0.point e v.seen seen.0.begins) }
  call_of v w c (Busy lost stamp) pass seen = record { pass = pass; seen = seen.0.begins }

  calls_of : (v w : PassView R S M E) (calls : List (MadeCall R S M C A E)) → MakesCalls b tries v calls w → IsLater b tries v w
  calls_of v w [] k = k
  calls_of v w (x ∷ rest) k = later_on v x.before w k.0 (later_on x.before x.after w (call_of x.before x.after x.call x.reply k.1.pass k.1.seen) (calls_of x.after w rest k.2))

  calls : CallsAddUp R b tries
  calls = record {
    asked = λ heard v w c reply k. (later_itself v, record { pass = k.pass; seen = k.seen; busy = k.busy }, later_itself w);
    saw_more = λ v w k. record { pass = k.pass; seen = k.seen.begins };
    joined = joined;
    forgets_nothing = λ v w made k. let later = calls_of v w made k in (later.seen, later.pass.actor);
  }

pub each_laws : {R S M C A E : Type 0} (book : R → RuleBook S M C A E) (rules : R) → EachLaws book rules
each_laws {R} book rules = record {
  passes = each_pass (book rules) rules;
  receipts = each_receipt R;
  bunches = bunches book;
  calls = calls (book rules);
}
