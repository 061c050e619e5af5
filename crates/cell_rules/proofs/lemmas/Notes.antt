-- What a machine notes of a history are its own events, in order.
use Rattle.cell_rules.proofs.Names.{◌≡◌, Bool, true, false, cond, List, [], ◌∷◌, ◌++◌, map, refl, sym, ap, ◌∙◌, Machine, Event, Entry, same_machine, one_machine, ModelState, after, own_events, state_left, entry_of, noted, event_by}
use Rattle.cell_rules.proofs.lemmas.Lasting.{own_head}

own_by : (b : Bool) (s : ModelState) (f : Event) (m : Machine) (es : List Entry) (h : List Event) → same_machine f.machine m ≡ b → map (event_by m) es ≡ h → map (event_by m) (cond b (entry_of s f ∷ es) es) ≡ cond b (f ∷ h) h
own_by true s f m es h e q =
    let g : Machine → Event = λ n. record { machine = n; call = f.call; answer = f.answer } in
    let same : event_by m (entry_of s f) ≡ f = ap g (sym (one_machine f.machine m e)) in
    cc
own_by false s f m es h e q = q

pub events_of_noted : (s : ModelState) (h : List Event) (m : Machine) → map (event_by m) (noted s h m) ≡ own_events h m
events_of_noted s [] m = refl
events_of_noted s (f ∷ h) m = own_by (same_machine f.machine m) s f m (noted (state_left s f) h m) (own_events h m) refl (events_of_noted (state_left s f) h m)

-- what a machine notes of a history and of what follows it
noted_by : (b : Bool) (s : ModelState) (e : Event) (xs ys zs : List Entry) → xs ≡ ys ++ zs → cond b (entry_of s e ∷ xs) xs ≡ cond b (entry_of s e ∷ ys) ys ++ zs
noted_by true s e xs ys zs k = ap (λ l. entry_of s e ∷ l) k
noted_by false s e xs ys zs k = k

pub noted-append : (s : ModelState) (h k : List Event) (m : Machine) → noted s (h ++ k) m ≡ noted s h m ++ noted (after s h) k m
noted-append s [] k m = refl
noted-append s (e ∷ h) k m = noted_by (same_machine e.machine m) s e (noted (state_left s e) (h ++ k) m) (noted (state_left s e) h m) (noted (after s (e ∷ h)) k m) (noted-append (state_left s e) h k m)

skipped_by : (b : Bool) (x : Entry) (xs : List Entry) → b ≡ false → cond b (x ∷ xs) xs ≡ xs
skipped_by true x xs e = cc
skipped_by false x xs e = refl

-- it notes nothing of others' events
pub noted-foreign : (s : ModelState) (h : List Event) (m : Machine) → own_events h m ≡ [] → noted s h m ≡ []
noted-foreign s [] m q = refl
noted-foreign s (e ∷ h) m q =
    let others = own_head (same_machine e.machine m) e (own_events h m) q in
    skipped_by (same_machine e.machine m) (entry_of s e) (noted (state_left s e) h m) others.0 ∙ noted-foreign (state_left s e) h m others.1
