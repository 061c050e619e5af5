-- How a turn goes on from a reached step, and what such a step knows.
use Rattle.cell_rules.proofs.Names.{◌≡◌, ℕ, zero, suc, Bool, true, false, cond, List, [], ◌∷◌, ◌++◌, Some, refl, sym, ap, ◌∙◌, subst, Machine, Call, Answer, Event, same_machine, one_machine, ModelState, IsSound, reply, next, after, IsLegal, own_events, event, Settles, Waits, Program, MovesIn, Reached}
use Rattle.cell_rules.proofs.lemmas.Soundness.{next_keeps}

moves-more : {S : Type 0} → (p : Program S) (n : ℕ) (s t u : S) → MovesIn p n s t → p.moves t u → MovesIn p (suc n) s u
moves-more p zero s t u e m = (u, subst (λ x. p.moves x u) (sym e) m, refl)
moves-more p (suc n) s t u r m = (r.0, r.1, moves-more p n r.0 t u r.2 m)

-- a turn without a call
pub reached-moves : {S : Type 0} → (p : Program S) (s t u : S) (events : List Event) → Reached p s events t → p.moves t u → Reached p s events u
reached-moves p s t u [] r m = (suc r.0, moves-more p r.0 s t u r.1 m)
reached-moves p s t u (e ∷ events) r m = (r.0, r.1, r.2, r.3, r.4, reached-moves p r.1 t u events r.5 m)

-- a turn with an answered call
pub reached-push : {S : Type 0} → (p : Program S) (s t u : S) (events : List Event) (m : Machine) (c : Call) (a : Answer)
    → Reached p s events t → p.call t ≡ Some c → p.leads t a u → Reached p s (events ++ event m c a ∷ []) u
reached-push p s t u [] m c a r e l = (t, u, r, e, l, (0, refl))
reached-push p s t u (x ∷ events) m c a r e l = (r.0, r.1, r.2, r.3, r.4, reached-push p r.1 t u events m c a r.5 e l)

pub reached-settles : {S : Type 0} → (p : Program S) (s t u : S) (m : Machine) (c : Call) (a : Answer) (before now : List Event)
    → Settles m c a before now → Reached p s (own_events before m) t → p.call t ≡ Some c → p.leads t a u → Reached p s (own_events now m) u
reached-settles p s t u m c a before now w r e l = subst (λ h. Reached p s h u) (sym w.own) (reached-push p s t u (own_events before m) m c a r e l)

pub reached-waits : {S : Type 0} → (p : Program S) (s t : S) (m : Machine) (before now : List Event) → Waits m before now → Reached p s (own_events before m) t → Reached p s (own_events now m) t
reached-waits p s t m before now w r = subst (λ h. Reached p s h t) (sym w.own) r

-- what each step knows of the state stays known while others act, through turns without a call, and through the
-- program's own answers
pub record Keeps {S : Type 0} (p : Program S) (Knows : S → ModelState → Type 0) : Type 0 where
  pub foreign : (s : S) (z : ModelState) (n : Machine) (c : Call) → same_machine n p.machine ≡ false → IsSound z → Knows s z → Knows s (next z n c)
  pub moved : (s t : S) (z : ModelState) → p.moves s t → Knows s z → Knows t z
  pub own : (s t : S) (z : ModelState) (c : Call) → p.call s ≡ Some c → p.leads s (reply z p.machine c) t → IsSound z → Knows s z → Knows t (next z p.machine c)

knows-moves : {S : Type 0} → (p : Program S) (Knows : S → ModelState → Type 0) → Keeps p Knows → (n : ℕ) (s t : S) (z : ModelState) → MovesIn p n s t → Knows s z → Knows t z
knows-moves p Knows k zero s t z e h = subst (λ x. Knows x z) e h
knows-moves p Knows k (suc n) s t z r h = knows-moves p Knows k n r.0 t z r.2 (k.moved s r.0 z r.1 h)

-- one event: if it is the program's own, it is the next of those that led to its step
one_event : {S : Type 0} → (p : Program S) (Knows : S → ModelState → Type 0) → Keeps p Knows → (b : Bool) (s t : S) (z : ModelState) (e : Event) (own : List Event) (P : Type 0)
    → same_machine e.machine p.machine ≡ b → IsSound z → e.answer ≡ reply z e.machine e.call → Knows s z → Reached p s (cond b (e ∷ own) own) t
    → ((u : S) → Knows u (next z e.machine e.call) → Reached p u own t → P) → P
one_event p Knows k false s t z e own P same sound a h r go = go s (k.foreign s z e.machine e.call same sound h) r
one_event p Knows k true s t z e own P same sound a h r go =
    let is : e.machine ≡ p.machine = one_machine e.machine p.machine same in
    let at = r.0 in
    let u = r.1 in
    let known : Knows at z = knows-moves p Knows k r.2.0 s at z r.2.1 h in
    let leads : p.leads at (reply z p.machine e.call) u = subst (λ x. p.leads at x u) (a ∙ ap (λ m. reply z m e.call) is) r.4 in
    go u (subst (λ m. Knows u (next z m e.call)) (sym is) (k.own at u z e.call r.3 leads sound known)) r.5

-- what a reached step knows of the state after the seen history
pub reached-knows : {S : Type 0} → (p : Program S) (Knows : S → ModelState → Type 0) → Keeps p Knows → (s t : S) (z : ModelState) (h : List Event)
    → IsSound z → IsLegal z h → Knows s z → Reached p s (own_events h p.machine) t → Knows t (after z h)
reached-knows p Knows k s t z [] sound l known r = knows-moves p Knows k r.0 s t z r.1 known
reached-knows p Knows k s t z (e ∷ h) sound l known r =
    one_event p Knows k (same_machine e.machine p.machine) s t z e (own_events h p.machine) (Knows t (after (next z e.machine e.call) h)) refl sound l.0 known r
    (λ u kn re. reached-knows p Knows k u t (next z e.machine e.call) h (next_keeps z e.machine e.call sound) l.1 kn re)
