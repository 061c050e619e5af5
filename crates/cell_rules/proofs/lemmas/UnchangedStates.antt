-- What is the same if nothing changes: the state after a call that isn't Done, and after events of others without a
-- change.
use Rattle.cell_rules.proofs.Names.{◌≡◌, ℕ, ◌+◌, Bool, true, false, ◌&&◌, not, cond, List, [], ◌∷◌, ◌++◌, refl, sym, ap, ◌∙◌, subst, arith, sum_by-cons, sum_by-append, Machine, Call, Answer, Done, Event, same_machine, ModelState, reply, next, next_by, after, IsLegal, own_events, is_done, is_done_answer, changes_by_others}
use Rattle.cell_rules.proofs.lemmas.Lasting.{own_head}

same_by : (a : Answer) (s : ModelState) (m : Machine) (c : Call) → is_done_answer a ≡ false → next_by a s m c ≡ s
same_by Done s m c e = cc
same_by _ s m c e = refl

pub next-same : (s : ModelState) (m : Machine) (c : Call) → is_done_answer (reply s m c) ≡ false → next s m c ≡ s
next-same s m c e = same_by (reply s m c) s m c e

abbrev counts : Machine → Event → ℕ
counts m e = cond (is_done e && not (same_machine e.machine m)) 1 0

pub changes-append : (m : Machine) (h k : List Event) → changes_by_others (h ++ k) m ≡ changes_by_others h m + changes_by_others k m
changes-append m h k = sum_by-append (counts m) h k

-- if the first event is another machine's and there are no changes, it isn't Done
quiet_head : (d own : Bool) (n k : ℕ) → own ≡ false → k ≡ cond (d && not own) 1 0 + n → k ≡ 0 → (d ≡ false) × (n ≡ 0)
quiet_head d true n k e f z = cc
quiet_head true false n k e f z = absurd (grind (arith, f, z))
quiet_head false false n k e f z = (refl, omega (arith, f, z))

-- if a machine did nothing and no other changed the state, it is the same
pub unchanged : (m : Machine) (s : ModelState) (h : List Event) → IsLegal s h → own_events h m ≡ [] → changes_by_others h m ≡ 0 → after s h ≡ s
unchanged m s [] l q z = refl
unchanged m s (e ∷ h) l q z =
    let others = own_head (same_machine e.machine m) e (own_events h m) q in
    let quiet = quiet_head (is_done e) (same_machine e.machine m) (changes_by_others h m) (changes_by_others (e ∷ h) m) others.0 (sum_by-cons (counts m) e h) z in
    let still = next-same s e.machine e.call (ap is_done_answer (sym l.0) ∙ quiet.0) in
    ap (λ (t : ModelState). after t h) still ∙ unchanged m s h (subst (λ (t : ModelState). IsLegal t h) still l.1) others.1 quiet.1
