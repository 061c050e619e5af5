-- Literal cases of seats, of passes and receipts, of what replies tell and of what steps show.
use Rattle.std.proofs.Common.{Bool, if◌then◌else◌, List, [], ◌∷◌, ◌++◌, inl, inr, ⊎_elim, refl, ap}
use Rattle.word_interlock.specs.RuleBook.{RuleBook}
use Rattle.word_interlock.specs.declared.views.ActorView.{ActorView}
use Rattle.word_interlock.specs.declared.views.HistoryView.{HistoryView}
use Rattle.word_interlock.specs.declared.views.Moment.{Moment}
use Rattle.word_interlock.specs.declared.views.Moment.TheVariants.{Begins, Answered}
use Rattle.word_interlock.specs.Views.{PassView}
use Rattle.word_interlock.specs.SeatExamples.{SeatCases, ViewCases, FreshCases, ToldCases, ReplyCases, StepCases, FoundCases, its_event}
use Rattle.word_interlock.specs.OrderExamples.{SeatExamples}

module _ {R S M E : Type 0} (p q : ActorView R S M E) (told other : HistoryView S M E) (e f : E) where
  seats : SeatCases p q told other e f
  seats = record {
    first_alone = refl;
    all_others = refl;
    receipts_first_of_actors = refl;
    the_others_first = refl;
    gathered = refl;
    exchanged = refl;
    in_one = refl;
    receipt = refl;
    first_is_next = refl;
    none_is_next = λ no_one. no_one;
  }

  views : (v : PassView R S M E) → ViewCases p q told other e f v
  views v = record { pass = refl; receipt = refl }

fresh : (E : Type 0) {R S M : Type 0} (rules : R) (opening : S) (m n : M) → FreshCases E rules opening m n
fresh E rules opening m n = record { passes = λ table tries. refl; views = refl }

told_cases : {S M E : Type 0} (opening : S) (m n : M) (e f : E) → ToldCases opening m n e f
told_cases opening m n e f = record {
  tell = (record { opening_is = refl; begins = (f ∷ [], refl) }, (record { opening_is = refl; begins = ([], refl) }, tt));
  second_tells_more = λ all. let has = all.1.0.begins.1 in cc;
  show = ((Begins n ∷ [], refl), (([], refl), tt));
  second_shows_more = λ all. let has = all.1.0.1 in cc;
  events = refl;
}

replies : (A : Type 0) → ReplyCases A
replies A = record {
  settled = λ a stamp test. (λ is. is, λ is. is);
  settled_is_not_busy = λ a stamp. tt;
  busy = λ lost stamp test. (λ is. is, λ is. is);
  busy_is_not_settled = λ lost stamp. tt;
  stamp_of_settled = λ a stamp. refl;
  stamp_of_busy = λ lost stamp. refl;
  once = λ lost stamp. refl;
  not_once = λ a stamp. refl;
}

module _ {R S M C A E : Type 0} (b : RuleBook S M C A E) (c : C) (p : ActorView R S M E) (moments : List (Moment M E)) where
  abbrev x : E
  x = its_event b c p moments

  steps : StepCases b c p moments
  steps = record {
    load_answers = λ no_change. (ap (λ (d : Bool). if d then [] else x ∷ []) no_change, ap (λ (d : Bool). if d then [] else Answered x ∷ []) no_change);
    load_leaves_open = λ done. (ap (λ (d : Bool). if d then [] else x ∷ []) done, ap (λ (d : Bool). if d then moments else moments ++ Answered x ∷ []) done);
    won = (refl, refl);
    lost_answers = λ no_change. (ap (λ (d : Bool). if d then [] else x ∷ []) no_change, ap (λ (d : Bool). if d then [] else Answered x ∷ []) no_change);
    lost_leaves_open = λ done. (ap (λ (d : Bool). if d then [] else x ∷ []) done, ap (λ (d : Bool). if d then moments else moments ++ Answered x ∷ []) done);
    begins = refl;
  }

found : {R S M E : Type 0} (p q : ActorView R S M E) (e : E) → FoundCases p q e
found p q e = record {
  seen = inr (inl (inr (inl (refl, refl))));
  shown = inr (inl (inr (inl (refl, refl))));
  none_has_seen = λ k. ⊎_elim (λ g. g) (λ g. ⊎_elim (λ h. h) (λ h. h) g) k;
  none_was_shown = λ k. ⊎_elim (λ g. g) (λ g. ⊎_elim (λ h. h) (λ h. h) g) k;
}

pub seat_cases : {S M C A E : Type 0} (b : RuleBook S M C A E) (R : Type 0) → SeatExamples R b
seat_cases {A = A} {E = E} b R = record {
  seats = seats;
  views = views;
  fresh = fresh E;
  told = told_cases;
  replies = replies A;
  steps = steps b;
  found = found;
}
