-- The end of a record.
use Rattle.cell_workers.proofs.Names.{◌≡◌, ◌≢◌, ℕ, Bool, true, false, inl, inr, ⊎_elim, ◌⊎◌, List, [], ◌∷◌, ◌++◌, cond, get_or, map, Option, Some, None, refl, sym, ap, subst, ◌∙◌, Machine, Feed, Table, Robot, Press, Deposit, Crane, Watch, Z3, Release, Done, Refused, NotOwner, Event, Entry, journal_of, same_machine, ModelState, empty, start_state, after, own_events, event_by, reply, IsAudited, BeginsWith, RunRecord, CellScales, GateOf, TellsAnyWork, EndsAreReached, by_rule, press_released}
use Rattle.cell_rules.proofs.lemmas.Lasting.{own_head}

same_itself : (m : Machine) → same_machine m m ≡ true
same_itself Feed = refl
same_itself Table = refl
same_itself Robot = refl
same_itself Press = refl
same_itself Deposit = refl
same_itself Crane = refl
same_itself Watch = refl

-- an event is its machine's own
is_own : (e : Event) (h : List Event) → own_events (e ∷ h) e.machine ≢ []
is_own e h none =
    let other = (own_head (same_machine e.machine e.machine) e (own_events h e.machine) none).0 in
    let lie : true ≡ false = sym (same_itself e.machine) ∙ other in
    cc

no_events : (h : List Event) → ((m : Machine) → own_events h m ≡ []) → h ≡ []
no_events [] k = refl
no_events (e ∷ h) k = absurd (is_own e h (k e.machine))

-- without notes there is no history, and the end is the opening
pub ended_at_opening : (c : CellScales) (opening : ModelState) (tries limit : ℕ) (gate : Machine → GateOf) (r : RunRecord) → TellsAnyWork c opening tries limit gate r → ((m : Machine) → journal_of r.journals m ≡ []) → r.end ≡ Some opening
ended_at_opening c opening tries limit gate r k none =
    let nothing = no_events k.history (λ m. k.audited.own m ∙ ap (map (event_by m)) (none m)) in
    k.end ∙ ap (λ h. Some (after opening h)) nothing

-- of two prefixes of one history one is a prefix of the other
of_one : (a b h : List Event) → BeginsWith h a → BeginsWith h b → BeginsWith a b ⊎ BeginsWith b a
of_one [] b h k l = inr (b, refl)
of_one (x ∷ a) [] h k l = inl (x ∷ a, refl)
of_one (x ∷ a) (y ∷ b) h k l =
    let same : x ∷ (a ++ k.0) ≡ y ∷ (b ++ l.0) = sym k.1 ∙ l.1 in
    let first : x ≡ y = cc in
    let rest : a ++ k.0 ≡ b ++ l.0 = cc in
    ⊎_elim (λ more. inl (more.0, λ i. first i ∷ more.1 i)) (λ more. inr (more.0, λ i. sym first i ∷ more.1 i)) (of_one a b (a ++ k.0) (k.0, refl) (l.0, rest))

-- ---- the press can't have released what it never held: the first event of such a history would be that release, but it
-- is refused

abbrev released : Event
released = record { machine = Press; call = Release Z3; answer = Done }

not_by : (e : Event) (h : List Event) (m : Machine) → own_events (e ∷ h) m ≡ [] → e.machine ≡ m → ⊥
not_by e h m none is = is_own e h (subst (λ n. own_events (e ∷ h) n ≡ []) (sym is) none)

first_is : (b : Bool) (e first : Event) (own : List Event) → b ≡ true → cond b (e ∷ own) own ≡ first ∷ [] → e ≡ first
first_is true e first own is k = ap (λ es. get_or es 0 e) k
first_is false e first own is k = cc

differs_at : (end : Option ModelState) (e : Event) (h : List Event) (m : Machine) → e.machine ≡ m → IsAudited (start_state empty 0) press_released end (e ∷ h) → ⊥
differs_at end e h Feed is k = not_by e h Feed (k.own Feed) is
differs_at end e h Table is k = not_by e h Table (k.own Table) is
differs_at end e h Robot is k = not_by e h Robot (k.own Robot) is
differs_at end e h Press is k =
    let same : e ≡ released = first_is (same_machine e.machine Press) e released (own_events h Press) (ap (λ n. same_machine n Press) is) (k.own Press) in
    let lie : Done ≡ Refused (NotOwner None) = subst (λ (x : Event). x.answer ≡ reply (start_state empty 0) x.machine x.call) same k.legal.0 in
    cc
differs_at end e h Deposit is k = not_by e h Deposit (k.own Deposit) is
differs_at end e h Crane is k = not_by e h Crane (k.own Crane) is
differs_at end e h Watch is k = not_by e h Watch (k.own Watch) is

differs : (end : Option ModelState) (h : List Event) → IsAudited (start_state empty 0) press_released end h → ⊥
differs end [] k = let lie : [] ≡ released ∷ [] = k.own Press in cc
differs end (e ∷ h) k = differs_at end e h e.machine refl k

-- an audit of journals is one of equal journals
of_equal : (start : ModelState) (a b : Machine → List Entry) (end : Option ModelState) (h : List Event) → ((m : Machine) → a m ≡ b m) → IsAudited start a end h → IsAudited start b end h
of_equal start a b end h same k = record { legal = k.legal; own = λ m. k.own m ∙ ap (map (event_by m)) (same m); noted = λ m. k.noted m ∙ same m; ends = k.ends }

pub ends_reached : EndsAreReached
ends_reached =
    record {
      one_history = λ c opening tries limit lets r k m n. of_one (k.last m).line.seen (k.last n).line.seen k.history (k.seen m).begins (k.seen n).begins;
      nothing = λ c opening tries limit lets r. ended_at_opening c opening tries limit (by_rule lets) r;
      accepted = λ c opening tries limit lets r k none. none k.history (subst (λ s. IsAudited s (journal_of r.journals) r.end k.history) (sym k.start) k.audited);
      never_held = λ c tries limit lets r k same. differs r.end k.history (of_equal (start_state empty 0) (journal_of r.journals) press_released r.end k.history same k.audited);
    }
