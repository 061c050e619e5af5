-- What a reached step knows of the state, if nobody hands over an empty zone.
use Rattle.cell_team.proofs.Names.{◌≡◌, ℕ, zero, suc, Bool, true, false, cond, if◌then◌else◌, inl, inr, List, [], ◌∷◌, Option, Some, None, Ok, Err, refl, sym, ap, ◌∙◌, subst, ⊤, Machine, Watch, Zone, Z1, Posture, Call, Yield, Answer, Done, Shown, Refused, Event, same_machine, one_machine, ModelState, IsSound, is_party, yield_refusal, reply, next, next_by, changed, after, IsLegal, own_events, is_done_answer, Program, MovesIn, Reached, yield_done, and_left, same_machine-self, done_none}
use Rattle.cell_team.proofs.Names.{next_keeps, fault_of, Steps, waits_out, after_answer, CtlFault, LeadsOrStays, program_with_stops}
use Rattle.cell_control.proofs.lemmas.StepLemmas.{Knowing}
use Rattle.cell_team.proofs.lemmas.Shares.{yields, IsYieldless, no_both}

-- in no state of a history an empty zone is handed over
abbrev pub AreYieldless : ModelState → List Event → Type 0
AreYieldless z [] = ⊤
AreYieldless z (e ∷ h) = IsYieldless z e.machine e.call × AreYieldless (next z e.machine e.call) h

-- ---- a program that never yields, and a history of such

abbrev pub asks_no_yield : Option Call → Bool
asks_no_yield (Some (Yield _)) = false
asks_no_yield _ = true

abbrev pub YieldsNot : Event → Type 0
YieldsNot e = yields e.call ≡ false

abbrev pub NeverYield : List Event → Type 0
NeverYield [] = ⊤
NeverYield (e ∷ events) = YieldsNot e × NeverYield events

asked_no_yield : (o : Option Call) (c : Call) → asks_no_yield o ≡ true → o ≡ Some c → yields c ≡ false
asked_no_yield o (Yield y) e f = let g : asks_no_yield o ≡ false = ap asks_no_yield f in cc
asked_no_yield o _ e f = refl

pub own_yieldless : {S : Type 0} → (p : Program S) (s t : S) (events : List Event) → ((x : S) → asks_no_yield (p.call x) ≡ true) → Reached p s events t → NeverYield events
own_yieldless p s t [] never r = tt
own_yieldless p s t (e ∷ events) never r = (asked_no_yield (p.call r.0) e.call (never r.0) r.3, own_yieldless p r.1 t events never r.5)

-- the watch is no party of a zone
watch_apart : (y : Zone) → is_party Watch y ≡ false
watch_apart Z1 = refl
watch_apart _ = refl

watch_yieldless : (z : ModelState) (c : Call) → IsYieldless z Watch c
watch_yieldless z (Yield y) e = no_both (is_party Watch y) _ (and_left _ _ (yield_done z Watch y (done_none (yield_refusal z Watch y) e)).0) (watch_apart y)
watch_yieldless z _ e = refl

head_own : (b : Bool) (e : Event) (own : List Event) → b ≡ true → NeverYield (cond b (e ∷ own) own) → YieldsNot e
head_own true e own k a = a.0
head_own false e own k a = cc

tail_own : (b : Bool) (e : Event) (own : List Event) → NeverYield (cond b (e ∷ own) own) → NeverYield own
tail_own true e own a = a.1
tail_own false e own a = a

abbrev pub OwnYieldless : List Event → Type 0
OwnYieldless h = (m : Machine) → same_machine m Watch ≡ false → NeverYield (own_events h m)

one_yieldless : (b : Bool) (z : ModelState) (e : Event) (h : List Event) → same_machine e.machine Watch ≡ b → OwnYieldless (e ∷ h) → IsYieldless z e.machine e.call
one_yieldless true z e h same own = subst (λ m. IsYieldless z m e.call) (sym (one_machine e.machine Watch same)) (watch_yieldless z e.call)
one_yieldless false z e h same own = λ d. head_own (same_machine e.machine e.machine) e (own_events h e.machine) (same_machine-self e.machine) (own e.machine same)

pub yieldless : (z : ModelState) (h : List Event) → OwnYieldless h → AreYieldless z h
yieldless z [] own = tt
yieldless z (e ∷ h) own =
    (one_yieldless (same_machine e.machine Watch) z e h refl own, yieldless (next z e.machine e.call) h (λ m apart. tail_own (same_machine e.machine m) e (own_events h m) (own m apart)))

-- ---- more that each step knows, beside what it knows whatever others do

pub record KnowingMore {S Sense Reading Act : Type 0} (t : Steps S Sense Reading Act) (Knows More : S → ModelState → Type 0) : Type 0 where
  pub foreign : (p : S) (z : ModelState) (n : Machine) (c : Call) → same_machine n t.machine ≡ false → IsSound z → IsYieldless z n c → More p z → More p (next z n c)
  pub after_drive : (p : S) (reading : _) (act : _) (z : ModelState) → (t.row p).call ≡ None → t.drives p reading act → More p z → More (t.after_drive p reading act) z
  pub after_done : (p : S) (z : ModelState) (c : Call) → (t.row p).call ≡ Some c → reply z t.machine c ≡ Done → IsSound z → Knows p z → More p z → More (t.row p).next (changed z t.machine c)
  pub after_inquiry : (p : S) (z : ModelState) (c : Call) (owner : Option Machine) (flag : Bool) (posture : Posture) → (t.row p).call ≡ Some c → reply z t.machine c ≡ Shown owner flag posture → IsSound z → Knows p z → More p z → More (t.after_inquiry p owner flag posture) z

ok_same : {S : Type 0} → (b : Bool) (p q : S) (f : CtlFault) → (if b then Ok p else Err f) ≡ Ok q → p ≡ q
ok_same true p q f e = cc
ok_same false p q f e = cc

module _ {S Sense Reading Act : Type 0} (t : Steps S Sense Reading Act) (Knows More : S → ModelState → Type 0) (knowing : Knowing t Knows) (more : KnowingMore t Knows More) where
  abbrev Both : S → ModelState → Type 0
  Both p z = Knows p z × More p z

  moves_both : (n : ℕ) (p q : S) (z : ModelState) → MovesIn (program_with_stops t) n p q → Both p z → Both q z
  moves_both zero p q z e k = subst (λ x. Both x z) e k
  moves_both (suc n) p q z r k =
      let d = r.1 in
      moves_both n r.0 q z r.2
      (subst (λ x. Both x z) (sym d.is) (knowing.after_drive p d.reading d.act z d.asks_nothing d.drives k.0, more.after_drive p d.reading d.act z d.asks_nothing d.drives k.1))

  answer_both : (a : Answer) (p q : S) (z : ModelState) (c : Call) → (t.row p).call ≡ Some c → after_answer t p a ≡ Ok q → reply z t.machine c ≡ a → IsSound z → Both p z → Both q (next_by a z t.machine c)
  answer_both Done p q z c e l d sound k =
      let same : (t.row p).next ≡ q = cc in
      subst (λ x. Both x (changed z t.machine c)) same (knowing.after_done p z c e d sound k.0, more.after_done p z c e d sound k.0 k.1)
  answer_both (Refused r) p q z c e l d sound k = subst (λ x. Both x z) (ok_same (waits_out t p r) p q (fault_of r) l) k
  answer_both (Shown o f x) p q z c e l d sound k =
      let same : t.after_inquiry p o f x ≡ q = cc in
      subst (λ y. Both y z) same (knowing.after_inquiry p z c o f x e d sound k.0, more.after_inquiry p z c o f x e d sound k.0 k.1)

  -- a call that isn't done leaves the state as it is
  same_both : (a : Answer) (p q : S) (z : ModelState) (c : Call) → is_done_answer a ≡ false → q ≡ p → Both p z → Both q (next_by a z t.machine c)
  same_both Done p q z c e same k = cc
  same_both (Refused r) p q z c e same k = subst (λ x. Both x z) (sym same) k
  same_both (Shown o f x) p q z c e same k = subst (λ y. Both y z) (sym same) k

  led_both : (a : Answer) (p q : S) (z : ModelState) (c : Call) → (t.row p).call ≡ Some c → LeadsOrStays t p a q → reply z t.machine c ≡ a → IsSound z → Both p z → Both q (next_by a z t.machine c)
  led_both a p q z c e (inl l) d sound k = answer_both a p q z c e l d sound k
  led_both a p q z c e (inr stays) d sound k = same_both a p q z c stays.0 stays.1 k

  event_both : (b : Bool) (p q : S) (z : ModelState) (e : Event) (own : List Event) (P : Type 0)
      → same_machine e.machine t.machine ≡ b → IsSound z → e.answer ≡ reply z e.machine e.call → IsYieldless z e.machine e.call → Both p z → Reached (program_with_stops t) p (cond b (e ∷ own) own) q
      → ((u : S) → Both u (next z e.machine e.call) → Reached (program_with_stops t) u own q → P) → P
  event_both false p q z e own P same sound a polite k r go = go p (knowing.foreign p z e.machine e.call same sound k.0, more.foreign p z e.machine e.call same sound polite k.1) r
  event_both true p q z e own P same sound a polite k r go =
      let is : e.machine ≡ t.machine = one_machine e.machine t.machine same in
      let known : Both r.0 z = moves_both r.2.0 p r.0 z r.2.1 k in
      let leads : LeadsOrStays t r.0 (reply z t.machine e.call) r.1 = subst (λ x. LeadsOrStays t r.0 x r.1) (a ∙ ap (λ m. reply z m e.call) is) r.4 in
      go r.1 (subst (λ m. Both r.1 (next z m e.call)) (sym is) (led_both (reply z t.machine e.call) r.0 r.1 z e.call r.3 leads refl sound known)) r.5

  pub reached_both : (p q : S) (z : ModelState) (h : List Event) → IsSound z → IsLegal z h → AreYieldless z h → Knows p z × More p z → Reached (program_with_stops t) p (own_events h t.machine) q → Knows q (after z h) × More q (after z h)
  reached_both p q z [] sound legal polite k r = moves_both r.0 p q z r.1 k
  reached_both p q z (e ∷ h) sound legal polite k r =
      event_both (same_machine e.machine t.machine) p q z e (own_events h t.machine) (Both q (after (next z e.machine e.call) h)) refl sound legal.0 polite.0 k r
      (λ u kn re. reached_both u q (next z e.machine e.call) h (next_keeps z e.machine e.call sound) legal.1 polite.1 kn re)
