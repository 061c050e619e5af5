-- Passes and their seats, before and after a step.
use Rattle.std.proofs.Common.{◌≡◌, ℕ, eqb, Bool, true, false, if◌then◌else◌, List, [], ◌∷◌, refl, sym, ap, ◌∙◌, subst}
use prog.Atomic.{either}
use Rattle.atomic_table.specs.Table.{Me, Allows}
use Rattle.atomic_table.specs.Seated.{TableId}
use Rattle.word_interlock.specs.RuleBook.{RuleBook, IsRuleBook}
use Rattle.word_interlock.specs.History.{after, IsLegal, IsLawful}
use Rattle.word_interlock.specs.Only.{HasOne, only_of}
use Rattle.word_interlock.specs.declared.views.ActorView.{ActorView}
use Rattle.word_interlock.specs.declared.views.HistoryView.{HistoryView}
use Rattle.word_interlock.specs.declared.views.SeatView.{SeatView}
use Rattle.word_interlock.specs.Views.{PassView, ReceiptView, pass_of, view_of, receipt_with, told_by}
use Rattle.word_interlock.specs.Rule.{actor_alone, receipt_alone, together, actor_with, WordTellsHistory, with_event, seen_at, seen_by, moments_at, moments_by, with_begin, with_moments, after_load, after_exchange, looked, exchanged, gathered, IsSeat}
use Rattle.word_interlock.specs.Steps.{IsReady}
use Rattle.word_interlock.specs.Moments.{HasBegun}
use Rattle.word_interlock.proofs.lemmas.Histories.{legal-append, legal-event}
use Rattle.word_interlock.proofs.Keeps.{allows_more, looks_as, exchanges_as, gathers_as}

abbrev head_or : {T : Type 0} → T → List T → T
head_or d [] = d
head_or d (x ∷ rest) = x

pub only_is : {T : Type 0} (xs : List T) (x : T) → xs ≡ x ∷ [] → (one : HasOne xs) → only_of xs one ≡ x
only_is [] x e one = absurd one
only_is (y ∷ rest) x e one = ap (head_or y) e

module _ {R S M E : Type 0} where
  pub has_one : {T : Type 0} (me : Me T (SeatView R S M E)) (p : ActorView R S M E) → me ≡ (actor_alone p, []) → HasOne me.0.actors
  has_one {T} me p e = subst (λ (z : Me T (SeatView R S M E)). HasOne z.0.actors) (sym e) tt

  -- the seat of a pass, by what contracts see of it
  pub alone_as : {T : Type 0} (me : Me T (SeatView R S M E)) (p : ActorView R S M E) (t : TableId) (v : PassView R S M E) → me ≡ (actor_alone p, []) → pass_of t p ≡ v → me ≡ (actor_alone (view_of v), [])
  alone_as {T} me p t v e is = subst (λ (w : PassView R S M E). me ≡ (actor_alone (view_of w), [])) is e

  -- a pass, by its seat
  pub pass_now : {T : Type 0} (u t : TableId) (me : Me T (SeatView R S M E)) (q : ActorView R S M E) (one : HasOne me.0.actors) → me ≡ (actor_alone q, []) → u ≡ t → pass_of u (only_of me.0.actors one) ≡ pass_of t q
  pass_now u t me q one e same = λ i. pass_of (same i) (only_is me.0.actors q (ap (λ x. x.0.actors) e) one i)

  -- the seat of a pass to which that of a receipt was joined
  pub joined_as : {T : Type 0} (me r j : Me T (SeatView R S M E)) (p : ActorView R S M E) (told : HistoryView S M E) → me ≡ (actor_alone p, []) → r ≡ (receipt_alone told, []) → j ≡ (together me.0 r.0, me.1) → j ≡ (actor_with p (told ∷ []), [])
  joined_as me r j p told is_me is_r joined = joined ∙ (λ i. (together (is_me i).0 (is_r i).0, (is_me i).1))

  -- the seat of a receipt, by what contracts see of it
  pub receipt_as : {T : Type 0} (me : Me T (SeatView R S M E)) (h : HistoryView S M E) (t : TableId) (v : ReceiptView S M E) → me ≡ (receipt_alone h, []) → receipt_with t h ≡ v → me ≡ (receipt_alone (told_by v), [])
  receipt_as {T} me h t v e is = subst (λ (w : ReceiptView S M E). me ≡ (receipt_alone (told_by w), [])) is e

module _ {R S M C A E : Type 0} (book : R → RuleBook S M C A E) where
  pub seat_of : {T : Type 0} (m : M) (p : ActorView R S M E) (me : Me T (SeatView R S M E)) (one : HasOne me.0.actors) → me ≡ (actor_alone p, []) → p.actor ≡ m → IsLawful (book p.rules) p.opening p.seen
      → IsSeat (book (only_of me.0.actors one).rules) (only_of me.0.actors one).rules m (only_of me.0.actors one) me
  seat_of m p me one e named lawful =
      subst (λ (v : ActorView R S M E). IsSeat (book v.rules) v.rules m v me) (sym (only_is me.0.actors p (ap (λ x. x.0.actors) e) one)) record { alone = e; actor = named; lawful = lawful }

  pub lawful_at : (r s : R) (o : S) (h : List E) → r ≡ s → IsLawful (book s) o h → IsLawful (book r) o h
  lawful_at r s o h e l = subst (λ (x : R). IsLawful (book x) o h) (sym e) l

module _ {R S M C A E : Type 0} (book : R → RuleBook S M C A E) (law : (r : R) → IsRuleBook (book r)) where
  -- what was seen stays legal
  legal_with : (r : R) (c : C) (p : ActorView R S M E) (h : List E) → IsLegal (book r) p.opening h → IsLegal (book r) p.opening (with_event (book r) c p h)
  legal_with r c p h l =
      let b = book r in
      legal-append b p.opening h (b.event p.actor c (b.reply (after b p.opening h) p.actor c) ∷ []) l (legal-event b (law r) (after b p.opening h) p.actor c (b.reply (after b p.opening h) p.actor c) refl)

  legal_at : (r : R) (c : C) (p : ActorView R S M E) (h : List E) → IsLegal (book r) p.opening h → IsLegal (book r) p.opening (seen_at (book r) c p h)
  legal_at r c p h l = go ((book r).is_done ((book r).reply (after (book r) p.opening h) p.actor c))
    where
      go : (d : Bool) → IsLegal (book r) p.opening (if d then h else with_event (book r) c p h)
      go true = l
      go false = legal_with r c p h l

  legal_by : (r : R) (c : C) (p : ActorView R S M E) (old word : ℕ) (h : List E) → IsLegal (book r) p.opening h → IsLegal (book r) p.opening (seen_by (book r) c p old word h)
  legal_by r c p old word h l = go (eqb word old)
    where
      go : (d : Bool) → IsLegal (book r) p.opening (if d then with_event (book r) c p h else seen_at (book r) c p h)
      go true = legal_with r c p h l
      go false = legal_at r c p h l

  -- the seat after a load, and after an exchange
  pub looked-seat : {T : Type 0} (r : R) (c : C) (heard : List (HistoryView S M E)) (m : M) (p : ActorView R S M E) (word : ℕ) (me' : Me T (SeatView R S M E)) (one : HasOne me'.0.actors) → p.actor ≡ m → looked (book r) r c heard p word me'
      → IsSeat (book (only_of me'.0.actors one).rules) (only_of me'.0.actors one).rules m (only_of me'.0.actors one) me'
  looked-seat r c heard m p word me' one named told =
      let h = told.0 in let at = told.1 in
      seat_of book m (with_moments (after_load p (seen_at (book r) c p h)) (moments_at (book r) c p h (with_begin (book r) p at.moments))) me' one told.2 named
      (lawful_at book p.rules r p.opening (seen_at (book r) c p h) at.rules_are record { opened = at.opened; legal = legal_at r c p h at.legal })

  pub exchanged-seat : {T : Type 0} (r : R) (c : C) (m : M) (p : ActorView R S M E) (old word : ℕ) (me' : Me T (SeatView R S M E)) (one : HasOne me'.0.actors) → p.actor ≡ m → exchanged (book r) r c old p word me'
      → IsSeat (book (only_of me'.0.actors one).rules) (only_of me'.0.actors one).rules m (only_of me'.0.actors one) me'
  exchanged-seat r c m p old word me' one named told =
      let h = told.0 in let at = told.1 in
      seat_of book m (with_moments (after_exchange p (seen_by (book r) c p old word h)) (moments_by (book r) c p old word h at.moments)) me' one told.2 named
      (lawful_at book p.rules r p.opening (seen_by (book r) c p old word h) at.rules_are record { opened = at.opened; legal = legal_by r c p old word h at.legal })

  -- the steps are allowed by the rules that the table was told
  pub load_allowed : {T : Type 0} (key r : R) (o : S) (slots id : ℕ) (me : Me T (SeatView R S M E)) (p : ActorView R S M E) (heard : List (HistoryView S M E)) (c : C) (tells : ℕ → Me T (SeatView R S M E) → Type 0) → key ≡ r → me ≡ (actor_with p heard, [])
      → ((word : ℕ) (me' : Me T (SeatView R S M E)) → looked (book r) r c heard p word me' → tells word me') → Allows (WordTellsHistory (book key) key o) slots id me 0 (λ n. n) tells
  load_allowed {T} key r o slots id me p heard c tells e alone more =
      subst (λ (x : R). Allows (WordTellsHistory (book x) x o) slots id me 0 (λ n. n) tells) (sym e)
      (allows_more (WordTellsHistory (book r) r o) slots id me 0 (λ n. n) (looked (book r) r {T = T} c heard p) tells more (looks_as (book r) (law r) r o slots id me p heard c alone))

  pub exchange_allowed : {T : Type 0} (key r : R) (o : S) (slots id : ℕ) (me : Me T (SeatView R S M E)) (p : ActorView R S M E) (c : C) (a : A) (old new : ℕ) (tells : ℕ → Me T (SeatView R S M E) → Type 0) → key ≡ r → me ≡ (actor_alone p, [])
      → (p.rules ≡ r → IsReady (book r) p.actor c a old new) → (p.rules ≡ r → HasBegun (book r) p.moments p.actor)
      → ((word : ℕ) (me' : Me T (SeatView R S M E)) → exchanged (book r) r c old p word me' → tells word me') → Allows (WordTellsHistory (book key) key o) slots id me 0 (λ n. either (eqb n old) new n) tells
  exchange_allowed {T} key r o slots id me p c a old new tells e alone ready has more =
      subst (λ (x : R). Allows (WordTellsHistory (book x) x o) slots id me 0 (λ n. either (eqb n old) new n) tells) (sym e)
      (allows_more (WordTellsHistory (book r) r o) slots id me 0 (λ n. either (eqb n old) new n) (exchanged (book r) r {T = T} c old p) tells more (exchanges_as (book r) (law r) r o slots id me p c a old new alone ready has))

  pub sync_allowed : {T : Type 0} (key r : R) (o : S) (slots id : ℕ) (me : Me T (SeatView R S M E)) (tells : ℕ → Me T (SeatView R S M E) → Type 0) → key ≡ r → me.1 ≡ []
      → ((word : ℕ) (me' : Me T (SeatView R S M E)) → gathered (book r) r me word me' → tells word me') → Allows (WordTellsHistory (book key) key o) slots id me 0 (λ n. n) tells
  sync_allowed {T} key r o slots id me tells e none_out more =
      subst (λ (x : R). Allows (WordTellsHistory (book x) x o) slots id me 0 (λ n. n) tells) (sym e)
      (allows_more (WordTellsHistory (book r) r o) slots id me 0 (λ n. n) (gathered (book r) r {T = T} me) tells more (gathers_as (book r) (law r) r o slots id me none_out))
