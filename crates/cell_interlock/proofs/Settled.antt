-- A call that was answered after a legal history.
use Rattle.cell_interlock.proofs.Names.{◌≡◌, ◌≤◌, ◌+◌, ℕ, List, [], ◌∷◌, ◌++◌, sym, ap, ◌∙◌, subst, append_cancel_right, Machine, Call, Answer, Event, Settled, ModelState, IsSound, reply, after, IsLegal, own_events, Lawful, LawfulThroughout, event, Settles, Waits, KeepsItsOwn, throughout, legal-append, own-push, waits-foreign, PassView, IsSamePass, IsSettled, Told, IsTimed, Replied}
use Rattle.cell_rules.specs.Laws.{RightLasts}
use Rattle.cell_rules.proofs.lemmas.Assembly.{lawful}
use Rattle.cell_rules.proofs.lemmas.Keepers.{right_lasts}
use Rattle.cell_rules.proofs.lemmas.Owners.{never_disowned}

pub lawful_history : (o : ModelState) (h : List Event) → IsSound o → IsLegal o h → LawfulThroughout o h
lawful_history o h k l = throughout o (Lawful o) (lawful o k) h l

-- events of others leave a machine its zones
keeps_own : (o : ModelState) (m : Machine) (before point : List Event) → IsSound o → IsLegal o point → Waits m before point → KeepsItsOwn o m before point
keeps_own o m before point k l w =
    let more : List Event = w.begins.0 in
    let foreign = waits-foreign m before point w in
    let r : RightLasts o before more = right_lasts o before more k (subst (IsLegal o) w.begins.1 l) in
    subst (KeepsItsOwn o m before) (sym w.begins.1) record {
      held = λ z held. r.held m z foreign held;
      zone = λ z held. r.zone m z foreign held;
      places = λ p keeper. r.places p (ap (λ (x : Machine). own_events more x) keeper ∙ foreign);
      postures = λ z host. r.posture z (ap (λ (x : Machine). own_events more x) host ∙ foreign);
    }

-- a history has one point before its last event
one_point : (h point : List Event) (e : Event) (now : List Event) → now ≡ h ++ e ∷ [] → now ≡ point ++ e ∷ [] → h ≡ point
one_point h point e now f g = append_cancel_right h point (e ∷ []) (sym f ∙ g)

-- a call that was answered after a history
pub settled : (v w : PassView) (c : Call) (a : Answer) (stamp : ℕ) (h : List Event) → IsSound v.opening → IsLegal v.opening h → Waits v.machine v.seen h → IsSamePass v w → w.seen ≡ h ++ event v.machine c a ∷ []
    → a ≡ reply (after v.opening h) v.machine c → stamp ≡ (after v.opening w.seen).stamp → IsSettled v c a stamp w
settled v w c a stamp h k l waits same ends right stamped =
    let e : List Event = event v.machine c a ∷ [] in
    let keeps = keeps_own v.opening v.machine v.seen h k l waits in
    let here : (point : List Event) → w.seen ≡ point ++ event v.machine c a ∷ [] → h ≡ point = λ point f. one_point h point (event v.machine c a) w.seen ends f in record {
      pass = same;
      lawful = lawful_history v.opening w.seen k (subst (IsLegal v.opening) (sym ends) (legal-append v.opening h e l (right, tt)));
      seen = record {
        point = h;
        begins = waits.begins;
        ends = ends;
        own = ap (λ (x : List Event). own_events x v.machine) ends ∙ own-push h v.machine c a ∙ ap (λ (x : List Event). x ++ e) waits.own;
      };
      stamped = stamped;
      answer = λ point f. subst (λ (x : List Event). a ≡ reply (after v.opening x) v.machine c) (here point f) right;
      right = record {
        keeps = λ point f. subst (KeepsItsOwn v.opening v.machine v.seen) (here point f) keeps;
        never_disowned = never_disowned v.opening v.machine c a v.seen h k l keeps right;
      };
    }

-- it is a whole call, if it took one load and few exchanges
pub replied : (heard : Told) (v w : PassView) (c : Call) (tries : ℕ) (a : Answer) (stamp : ℕ) → IsSettled v c a stamp w → w.loads ≡ v.loads + 1 → w.exchanges ≤ v.exchanges + tries → IsTimed heard v c (Settled a stamp) w → Replied heard v c tries (Settled a stamp) w
replied heard v w c tries a stamp s load few time =
    record { pass = s.pass; lawful = s.lawful; seen = (s.seen, s.stamped); answer = s.answer; right = s.right; busy = tt; one_load = load; few_exchanges = few; all_lost = tt; since = tt; real_time = time }

-- at the point of its call the machine has made only the events that it had made before
pub point_waits : (m : Machine) (c : Call) (a : Answer) (before now : List Event) (t : Settles m c a before now) → Waits m before t.point
point_waits m c a before now t =
    let own : own_events t.point m ++ event m c a ∷ [] ≡ own_events before m ++ event m c a ∷ [] = sym (own-push t.point m c a) ∙ ap (λ (h : List Event). own_events h m) (sym t.ends) ∙ t.own in
    record { begins = t.begins; own = append_cancel_right (own_events t.point m) (own_events before m) (event m c a ∷ []) own }
