-- What a call adds to a history, and to what its caller has seen.
use Rattle.cell_rules.proofs.Names.{arith, ◌≡◌, cond, true, ◌-◌, List, [], ◌∷◌, ◌++◌, length, Some, refl, sym, ap, ◌∙◌, append-nil, slice_get, props, ∥∥₁_elim, append_cancel_left, length-append, filter-append, Machine, Call, Answer, Event, same_machine, ModelState, reply, next, after, IsLegal, own_events, event, Settles, Waits, last_event, IsHistory}
use Rattle.cell_rules.proofs.lemmas.Tables.{from_machines}
use Rattle.cell_rules.proofs.lemmas.Histories.{after-append}

pub after-push : (s : ModelState) (h : List Event) (e : Event) → after s (h ++ e ∷ []) ≡ next (after s h) e.machine e.call
after-push s h e = after-append s h (e ∷ [])

pub legal-append : (s : ModelState) (a b : List Event) → IsLegal s a → IsLegal (after s a) b → IsLegal s (a ++ b)
legal-append s [] b l r = r
legal-append s (e ∷ a) b l r = (l.0, legal-append (next s e.machine e.call) a b l.1 r)

pub legal-right : (s : ModelState) (a b : List Event) → IsLegal s (a ++ b) → IsLegal (after s a) b
legal-right s [] b l = l
legal-right s (e ∷ a) b l = legal-right (next s e.machine e.call) a b l.1

pub own-append : (a b : List Event) (m : Machine) → own_events (a ++ b) m ≡ own_events a m ++ own_events b m
own-append a b m = filter-append (λ e. same_machine e.machine m) a b

pub same_as_itself : (m : Machine) → same_machine m m ≡ true
same_as_itself = from_machines (λ m. same_machine m m) refl

-- an event of the machine itself
pub own-event : (m : Machine) (c : Call) (a : Answer) → own_events (event m c a ∷ []) m ≡ event m c a ∷ []
own-event m c a = ap (λ t. cond t (event m c a ∷ []) []) (same_as_itself m)

pub own-push : (h : List Event) (m : Machine) (c : Call) (a : Answer) → own_events (h ++ event m c a ∷ []) m ≡ own_events h m ++ event m c a ∷ []
own-push h m c a = own-append h (event m c a ∷ []) m ∙ ap (λ own. own_events h m ++ own) (own-event m c a)

-- a stored history with another call
pub history-push : (o s t : ModelState) (h : List Event) (m : Machine) (c : Call) (a : Answer) → IsHistory o s h → a ≡ reply s m c → t ≡ next s m c → IsHistory o t (h ++ event m c a ∷ [])
history-push o s t h m c a k e n =
    record {
      sound = k.sound;
      legal = legal-append o h (event m c a ∷ []) k.legal (e ∙ ap (λ x. reply x m c) k.reached, tt);
      reached = n ∙ ap (λ x. next x m c) k.reached ∙ sym (after-push o h (event m c a));
    }

pub settles-push : (m : Machine) (c : Call) (a : Answer) (h : List Event) → Settles m c a h (h ++ event m c a ∷ [])
settles-push m c a h = record { point = h; begins = ([], sym (append-nil h)); ends = refl; own = own-push h m c a }

state_prop : (a b : ModelState) → IsProp (a ≡ b)
state_prop a b = hlevel props

pub state_reached : (o s : ModelState) (h : List Event) → ∥ IsHistory o s h ∥₁ → s ≡ after o h
state_reached o s h t = ∥∥₁_elim t (state_prop s (after o h)) (λ k. k.reached)

-- the events between what was seen before and the machine's next event are of others
foreign_between : (m : Machine) (before more : List Event) → own_events (before ++ more) m ≡ own_events before m → own_events more m ≡ []
foreign_between m before more e =
    append_cancel_left (own_events before m) (own_events more m) [] (sym (own-append before more m) ∙ e ∙ sym (append-nil (own_events before m)))

pub waits-foreign : (m : Machine) (before now : List Event) (w : Waits m before now) → own_events w.begins.0 m ≡ []
waits-foreign m before now w = foreign_between m before w.begins.0 (ap (λ h. own_events h m) (sym w.begins.1) ∙ w.own)

-- a history's last event is the one that was added last
at_end : (h : List Event) (e : Event) → slice_get (h ++ e ∷ []) (length h) ≡ Some e
at_end [] e = refl
at_end (x ∷ h) e = at_end h e

length-push : (h : List Event) (e : Event) → length (h ++ e ∷ []) - 1 ≡ length h
length-push h e = rw (length-append h (e ∷ [])) (grind (arith))

pub last-push : (h : List Event) (e : Event) → last_event (h ++ e ∷ []) ≡ Some e
last-push h e = ap (slice_get (h ++ e ∷ [])) (length-push h e) ∙ at_end h e
