-- The next run of several journals.
use Rattle.cell_report.proofs.Names.{MatchOption, cases_lt, ◌+◌, ◌-◌, Bool, true, Option, None, Some, append-nil, ◌≡◌, ℕ, zero, suc, ◌<◌, ◌≤◌, inl, inr, List, [], ◌∷◌, ◌++◌, length, replicate, map, get_or, set, refl, sym, ap, ◌∙◌, subst, arith, append_assoc, length-append, IsNonDecreasingBy, Machine, Feed, Table, Robot, Press, Deposit, Crane, Watch, Entry, Noted, Rest, key_of, key_at, in_order, noted_after, noted_from, all_noted, noted_in_turn, all_in_turn, first_key, last_key, IsFirstLeast}
use Rattle.cell_report.proofs.Names.{left_of, left_of_all, AllRise, IsRun, IsMerged, get_or-map, length-map, nil_from_length, IsNonDecreasingBy-short, In, in_append_right, in_append_cases, in_append_all}
use Rattle.cell_report.specs.declared.rests.Run.{Run}
use Rattle.cell_report.proofs.Rising.{RisesBy, Rises, rises_from, from_rises, in_map}
use Rattle.cell_report.proofs.Runs.{in_from}
use Rattle.cell_report.proofs.Turns.{in_turn_from_rises}
use Rattle.cell_report.proofs.Puts.{first_in_order}

first_low : (es : List Entry) (z : Entry) → RisesBy key_of es → In z es → first_key es ≤ key_of z
first_low [] z up i = absurd i
first_low (e ∷ es) z up (inl q) = let k = ap key_of q in omega (arith, k)
first_low (e ∷ es) z up (inr i) = up.0 z i

low : (m : Machine) (es : List Entry) (z : Noted) → IsNonDecreasingBy key_of es → In z (all_in_turn m es) → first_key es ≤ key_at z
low m es z up i =
    let e = in_map (noted_in_turn m) es z i in
    let k = ap key_at e.2 in
    omega (arith, k, first_low es e.0 (rises_from key_of es up) e.1)

first_is : (m : Machine) (es : List Entry) (x : Noted) (more : List Noted) → all_in_turn m es ≡ x ∷ more → first_key es ≡ key_at x
first_is m [] x more e = cc
first_is m (d ∷ es) x more e = let same : noted_in_turn m d ≡ x = cc in ap key_at same

rise_at : (rs : List Rest) (i : ℕ) (d : Rest) → AllRise rs → i < length rs → IsNonDecreasingBy key_of (get_or rs i d).entries.now
rise_at [] i d up h = absurd (omega (arith, h))
rise_at (r ∷ rs) zero d up h = up.0
rise_at (r ∷ rs) (suc i) d up h = rise_at rs i d up.1 (omega (arith, h))

rise_set : (rs : List Rest) (i : ℕ) (new : Rest) → AllRise rs → IsNonDecreasingBy key_of new.entries.now → AllRise (set rs i new)
rise_set [] i new up own = tt
rise_set (r ∷ rs) zero new up own = (own, up.1)
rise_set (r ∷ rs) (suc i) new up own = (up.0, rise_set rs i new up.1 own)

rise_back : (rs : List Rest) (i : ℕ) (d new : Rest) → AllRise (set rs i new) → (IsNonDecreasingBy key_of new.entries.now → IsNonDecreasingBy key_of (get_or rs i d).entries.now) → AllRise rs
rise_back [] i d new up f = tt
rise_back (r ∷ rs) zero d new up f = (f up.0, up.1)
rise_back (r ∷ rs) (suc i) d new up f = (up.0, rise_back rs i d new up.1 f)

-- x is the first of the least entries, comes n times, and goes
record Goes (n : ℕ) (x : Noted) (old new : List Noted) : Type 0 where
  before : List Noted
  after : List Noted
  old_is : old ≡ before ++ (replicate n x ++ after)
  new_is : new ≡ before ++ after
  below : (z : Noted) → In z before → key_at x < key_at z
  above : (z : Noted) → In z after → key_at x ≤ key_at z

others : (rs : List Rest) (n : ℕ) (z : Noted) → AllRise rs → ((j : ℕ) → j < length rs → (d : Rest) → n ≤ (get_or rs j d).key) → In z (left_of_all rs) → n ≤ key_at z
others [] n z up f i = absurd i
others (r ∷ rs) n z up f i = elim (in_append_cases (left_of r) (left_of_all rs) z i) [
  | inl k ↦ omega (arith, f 0 (omega arith) r, low r.machine r.entries.now z up.0 k, r.first)
  | inr k ↦ others rs n z up.1 (λ j h d. f (suc j) (omega (arith, h)) d) k
]

goes : (rs : List Rest) (i : ℕ) (d new : Rest) (n : ℕ) (x : Noted) → AllRise rs → i < length rs → left_of (get_or rs i d) ≡ replicate n x ++ left_of new
    → ((j : ℕ) → j < length rs → (e : Rest) → key_at x ≤ (get_or rs j e).key) → ((j : ℕ) → j < i → (e : Rest) → key_at x < (get_or rs j e).key)
    → ((z : Noted) → In z (left_of new) → key_at x ≤ key_at z)
    → Goes n x (left_of_all rs) (left_of_all (set rs i new))
goes [] i d new n x up h is all below own = absurd (omega (arith, h))
goes (r ∷ rs) zero d new n x up h is all below own = record {
  before = [];
  after = left_of new ++ left_of_all rs;
  old_is = ap (λ l. l ++ left_of_all rs) is ∙ append_assoc (replicate n x) (left_of new) (left_of_all rs);
  new_is = refl;
  below = λ z i. absurd i;
  above = in_append_all (λ z. key_at x ≤ key_at z) (left_of new) (left_of_all rs) own (λ z k. others rs (key_at x) z up.1 (λ j l e. all (suc j) (omega (arith, l)) e) k);
}
goes (r ∷ rs) (suc i) d new n x up h is all below own =
    let g : Goes n x (left_of_all rs) (left_of_all (set rs i new)) =
    goes rs i d new n x up.1 (omega (arith, h)) is (λ j l e. all (suc j) (omega (arith, l)) e) (λ j l e. below (suc j) (omega (arith, l)) e) own in
    record {
      before = left_of r ++ g.before;
      after = g.after;
      old_is = ap (λ l. left_of r ++ l) g.old_is ∙ sym (append_assoc (left_of r) g.before (replicate n x ++ g.after));
      new_is = ap (λ l. left_of r ++ l) g.new_is ∙ sym (append_assoc (left_of r) g.before g.after);
      below = in_append_all (λ z. key_at x < key_at z) (left_of r) g.before (λ z l. omega (arith, below 0 (omega arith) r, low r.machine r.entries.now z up.0 l, r.first)) g.below;
      above = g.above;
    }

tail_low : (m : Machine) (es : List Entry) (x : Noted) (more : List Noted) (z : Noted) → IsNonDecreasingBy key_of es → all_in_turn m es ≡ x ∷ more → In z more → key_at x ≤ key_at z
tail_low m es x more z up e i = subst (λ k. k ≤ key_at z) (first_is m es x more e) (low m es z up (subst (In z) (sym e) (inr i)))

abbrev pub keys_of : List Rest → List ℕ
keys_of rs = map (λ (r : Rest). r.key) rs

key_at_place : (rs : List Rest) (i : ℕ) (d : Rest) → i < length rs → get_or (keys_of rs) i 0 ≡ (get_or rs i d).key
key_at_place rs i d h = get_or-map (λ (r : Rest). r.key) rs i d 0 h

in_replicate : {X : Type 0} (n : ℕ) (x z : X) → In z (replicate n x) → x ≡ z
in_replicate zero x z i = absurd i
in_replicate (suc n) x z (inl q) = q
in_replicate (suc n) x z (inr i) = in_replicate n x z i

run_first : (n : ℕ) (x : Noted) (before after : List Noted) → ((z : Noted) → In z before → key_at x < key_at z) → ((z : Noted) → In z after → key_at x ≤ key_at z)
    → in_order (before ++ (replicate n x ++ after)) ≡ replicate n x ++ in_order (before ++ after)
run_first zero x before after f g = refl
run_first (suc n) x before after f g =
    first_in_order before (replicate n x ++ after) x f
    (in_append_all (λ z. key_at x ≤ key_at z) (replicate n x) after (λ z k. let e = ap key_at (in_replicate n x z k) in omega (arith, e)) g)
    ∙ ap (λ l. x ∷ l) (run_first n x before after f g)

-- the run at the beginning of the rest with the least key is the next in the order
next_is : (rs : List Rest) (i : ℕ) (d new : Rest) (n : ℕ) (x : Noted) → AllRise rs → i < length rs → IsFirstLeast (keys_of rs) i → left_of (get_or rs i d) ≡ replicate (suc n) x ++ left_of new
    → in_order (left_of_all rs) ≡ replicate (suc n) x ++ in_order (left_of_all (set rs i new))
next_is rs i d new n x up h least is =
    let r : Rest = get_or rs i d in
    let k : r.key ≡ key_at x = r.first ∙ first_is r.machine r.entries.now x (replicate n x ++ left_of new) is in
    let same : (j : ℕ) → j < length rs → (e : Rest) → get_or (keys_of rs) j 0 ≡ (get_or rs j e).key = λ j l e. key_at_place rs j e l in
    let g : Goes (suc n) x (left_of_all rs) (left_of_all (set rs i new)) =
    goes rs i d new (suc n) x up h is
    (λ j l e. omega (arith, least.least j (omega (arith, l, length-map rs (λ (r : Rest). r.key))), same j l e, same i h d, k))
    (λ j l e. omega (arith, least.first j l, same j (omega (arith, l, h)) e, same i h d, k))
    (λ z m. tail_low r.machine r.entries.now x (replicate n x ++ left_of new) z (rise_at rs i d up h) is (in_append_right (replicate n x) (left_of new) z m)) in
    ap in_order g.old_is ∙ (run_first (suc n) x g.before g.after g.below g.above ∙ ap (λ l. replicate (suc n) x ++ in_order l) (sym g.new_is))

all_gone : (rs : List Rest) → ((j : ℕ) → j < length rs → (e : Rest) → last_key ≤ (get_or rs j e).key) → left_of_all rs ≡ []
all_gone [] f = refl
all_gone (r ∷ rs) f =
    ap (λ es. all_in_turn r.machine es ++ left_of_all rs) (nil_from_length r.entries.now (r.none (f 0 (omega arith) r)))
    ∙ all_gone rs (λ j h e. f (suc j) (omega (arith, h)) e)

-- if the rest with the least key is at its end, all are
pub none_left : (rs : List Rest) (i : ℕ) (d : Rest) → i < length rs → IsFirstLeast (keys_of rs) i → left_of (get_or rs i d) ≡ [] → left_of_all rs ≡ []
none_left rs i d h least is =
    let r : Rest = get_or rs i d in
    let k : r.key ≡ last_key = r.first ∙ ap first_key (nil_from_length r.entries.now (sym (length-map r.entries.now (noted_in_turn r.machine)) ∙ ap length is)) in
    all_gone rs (λ j l e. omega (arith, least.least j (omega (arith, l, length-map rs (λ (r : Rest). r.key))), key_at_place rs j e l, key_at_place rs i d h, k))

fewer : (rs : List Rest) (i : ℕ) (d new : Rest) (x : Noted) (more : List Noted) → i < length rs → left_of (get_or rs i d) ≡ x ∷ more ++ left_of new → length (left_of_all (set rs i new)) < length (left_of_all rs)
fewer [] i d new x more h is = absurd (omega (arith, h))
fewer (r ∷ rs) zero d new x more h is =
    let e = ap length is in
    omega (arith, e, length-append more (left_of new), length-append (left_of r) (left_of_all rs), length-append (left_of new) (left_of_all rs))
fewer (r ∷ rs) (suc i) d new x more h is =
    omega (arith, fewer rs i d new x more (omega (arith, h)) is, length-append (left_of r) (left_of_all rs), length-append (left_of r) (left_of_all (set rs i new)))

run_left : (m : Machine) (n : ℕ) (e : Entry) (es : List Entry) → all_in_turn m (replicate n e ++ es) ≡ replicate n (noted_in_turn m e) ++ all_in_turn m es
run_left m zero e es = refl
run_left m (suc n) e es = ap (λ l. noted_in_turn m e ∷ l) (run_left m n e es)

run_falls : (n : ℕ) (e : Entry) (es : List Entry) → RisesBy key_of (replicate n e ++ es) → RisesBy key_of es
run_falls zero e es up = up
run_falls (suc n) e es up = run_falls n e es up.1

run_rises : (n : ℕ) (e : Entry) (es : List Entry) → key_of e ≤ first_key es → RisesBy key_of es → RisesBy key_of (replicate n e ++ es)
run_rises zero e es h up = up
run_rises (suc n) e es h up = (
  in_append_all (λ z. key_of e ≤ key_of z) (replicate n e) es (λ z k. let q = ap key_of (in_replicate n e z k) in omega (arith, q)) (λ z k. omega (arith, h, first_low es z up k)),
  run_rises n e es h up,
)

merged_at : (rs : List Rest) (i : ℕ) (d new : Rest) (run : Run) (n : ℕ) → run.count ≡ suc n → i < length rs → IsFirstLeast (keys_of rs) i → IsRun (get_or rs i d) new run → IsMerged rs (set rs i new) run
merged_at rs i d new run n count h least is =
    let old : Rest = get_or rs i d in
    let x : Noted = noted_in_turn run.machine run.entry.now in
    let split : old.entries.now ≡ replicate (suc n) run.entry.now ++ new.entries.now = is.split ∙ ap (λ k. replicate k run.entry.now ++ new.entries.now) count in
    let left : left_of old ≡ replicate (suc n) x ++ left_of new =
    ap (all_in_turn old.machine) split
    ∙ (run_left old.machine (suc n) run.entry.now new.entries.now
    ∙ (ap (λ m. replicate (suc n) (noted_in_turn m run.entry.now) ++ all_in_turn old.machine new.entries.now) (sym is.machine)
    ∙ ap (λ m. replicate (suc n) x ++ all_in_turn m new.entries.now) (sym is.stays))) in
    record {
      in_order = λ up. next_is rs i d new n x up h least left ∙ ap (λ k. replicate k x ++ in_order (left_of_all (set rs i new))) (sym count);
      falls = λ up. rise_set rs i new up (from_rises key_of new.entries.now (run_falls (suc n) run.entry.now new.entries.now (rises_from key_of (replicate (suc n) run.entry.now ++ new.entries.now) (subst (IsNonDecreasingBy key_of) split (rise_at rs i d up h)))));
      rises = λ turn up. rise_back rs i d new up
          (λ own. subst (IsNonDecreasingBy key_of) (sym split)
          (from_rises key_of (replicate (suc n) run.entry.now ++ new.entries.now) (run_rises (suc n) run.entry.now new.entries.now (subst (λ k. key_of run.entry.now ≤ k) new.first (is.in_turn turn)) (rises_from key_of new.entries.now own))));
      shorter = fewer rs i d new x (replicate n x) h left;
    }

next_told : (rs : List Rest) (i : ℕ) (d new : Rest) (o : Option Run) → i < length rs → IsFirstLeast (keys_of rs) i → MatchOption o ((get_or rs i d).entries.now ≡ []) (λ run. IsRun (get_or rs i d) new run)
    → MatchOption o (left_of_all rs ≡ []) (λ run. IsMerged rs (set rs i new) run)
next_told rs i d new None h least is = none_left rs i d h least (ap (all_in_turn (get_or rs i d).machine) is)
next_told rs i d new (Some run) h least is = merged_at rs i d new run (run.count - 1) (omega (arith, is.some)) h least is

-- the next run, where the rest was copied
pub next_of_copy : (rs : List Rest) (i : ℕ) (old new : Rest) (o : Option Run) → IsFirstLeast (keys_of rs) i → old ≡ get_or rs i old → MatchOption o (old.entries.now ≡ []) (λ run. IsRun old new run)
    → MatchOption o (left_of_all rs ≡ []) (λ run. IsMerged rs (set rs i new) run)
next_of_copy rs i old new o least is told =
    next_told rs i old new o (omega (arith, least.within, length-map rs (λ (r : Rest). r.key))) least (subst (λ r. MatchOption o (r.entries.now ≡ []) (λ run. IsRun r new run)) is told)

-- if nothing is left, it is in turn
pub none_rise : (rs : List Rest) → left_of_all rs ≡ [] → AllRise rs
none_rise [] e = tt
none_rise (r ∷ rs) e =
    let none : length r.entries.now + length (left_of_all rs) ≡ 0 = simp (length-append, length-map) at (ap length e) in
    (IsNonDecreasingBy-short key_of r.entries.now (omega (arith, none)), none_rise rs (nil_from_length (left_of_all rs) (omega (arith, none))))

-- a key that stays leaves all keys as they were
keys_stay : (rs : List Rest) (i : ℕ) (d new : Rest) → new.key ≡ (get_or rs i d).key → keys_of (set rs i new) ≡ keys_of rs
keys_stay [] i d new e = refl
keys_stay (r ∷ rs) zero d new e = ap (λ k. k ∷ keys_of rs) e
keys_stay (r ∷ rs) (suc i) d new e = ap (λ l. r.key ∷ l) (keys_stay rs i d new e)

-- and so the same rest has the least key
pub still_first : (rs : List Rest) (i : ℕ) (d new : Rest) → IsFirstLeast (keys_of rs) i → new.key ≡ (get_or rs i d).key → IsFirstLeast (keys_of (set rs i new)) i
still_first rs i d new least e = subst (λ ks. IsFirstLeast ks i) (sym (keys_stay rs i d new e)) least

-- the least of the first ones
pub record IsLeastUpTo (ns : List ℕ) (n place : ℕ) : Type 0 where
  pub within : place < length ns
  pub least : (i : ℕ) → i < n → get_or ns place 0 ≤ get_or ns i 0
  pub first : (i : ℕ) → i < place → get_or ns place 0 < get_or ns i 0
  pub before : place < n

same_or_before : (ns : List ℕ) (n i m : ℕ) → ((j : ℕ) → j < n → m ≤ get_or ns j 0) → m ≤ get_or ns n 0 → i < n + 1 → m ≤ get_or ns i 0
same_or_before ns n i m f last h = elim (cases_lt i n) [ inl l ↦ f i l | inr l ↦ let e : n ≡ i = omega (arith, h, l) in subst (λ k. m ≤ get_or ns k 0) e last ]

pub least_moves : (rs : List Rest) (n place : ℕ) (d e : Rest) → IsLeastUpTo (keys_of rs) n place → n < length rs → (get_or rs n d).key < (get_or rs place e).key → IsLeastUpTo (keys_of rs) (n + 1) n
least_moves rs n place d e old h below =
    let a = key_at_place rs n d h in
    let b = key_at_place rs place e (omega (arith, old.within, length-map rs (λ (r : Rest). r.key))) in
    record {
      within = omega (arith, h, length-map rs (λ (r : Rest). r.key));
      least = λ i l. same_or_before (keys_of rs) n i (get_or (keys_of rs) n 0) (λ j k. omega (arith, old.least j k, a, b, below)) (omega arith) l;
      first = λ i l. omega (arith, old.least i l, a, b, below);
      before = omega arith;
    }

pub least_stays : (rs : List Rest) (n place : ℕ) (d e : Rest) → IsLeastUpTo (keys_of rs) n place → n < length rs → (get_or rs place e).key ≤ (get_or rs n d).key → IsLeastUpTo (keys_of rs) (n + 1) place
least_stays rs n place d e old h low =
    let a = key_at_place rs n d h in
    let b = key_at_place rs place e (omega (arith, old.within, length-map rs (λ (r : Rest). r.key))) in
    record {
      within = old.within;
      least = λ i l. same_or_before (keys_of rs) n i (get_or (keys_of rs) place 0) old.least (omega (arith, a, b, low)) l;
      first = old.first;
      before = omega (arith, old.before);
    }

noted_rise : (m : Machine) (earlier es : List Entry) → RisesBy key_of es → Rises (noted_from m earlier es)
noted_rise m earlier [] r = tt
noted_rise m earlier (e ∷ es) r = (λ z i. r.0 z.entry (in_from m (earlier ++ e ∷ []) es z i).1, noted_rise m (earlier ++ e ∷ []) es r.1)

plain : (m : Machine) (earlier es : List Entry) → ((z : Noted) → In z (noted_from m earlier es) → z.in_turn ≡ true) → all_in_turn m es ≡ noted_from m earlier es
plain m earlier [] f = refl
plain m earlier (e ∷ es) f =
    let t : (noted_after m earlier e).in_turn ≡ true = f (noted_after m earlier e) (inl refl) in
    let make : Bool → Noted = λ b. record { machine = m; entry = e; in_turn = b } in
    ap (λ b. make b ∷ all_in_turn m es) (sym t) ∙ ap (λ l. noted_after m earlier e ∷ l) (plain m (earlier ++ e ∷ []) es (λ z i. f z (inr i)))

left_is : (r : Rest) (m : Machine) (es : List Entry) → IsNonDecreasingBy key_of r.entries.now → r.machine ≡ m → r.entries.now ≡ es → left_of r ≡ noted_from m [] es
left_is r m es up p q =
    ap (λ n. all_in_turn n r.entries.now) p
    ∙ (plain m [] r.entries.now (in_turn_from_rises m r.entries.now (noted_rise m [] r.entries.now (rises_from key_of r.entries.now up))) ∙ ap (noted_from m []) q)

seven : (a b c d e f g : List Noted) → a ++ (b ++ (c ++ (d ++ (e ++ (f ++ (g ++ [])))))) ≡ a ++ b ++ c ++ d ++ e ++ f ++ g
seven a b c d e f g = simp (append_assoc, append-nil)

pub all_left : (j : Machine → List Entry) (a b c d e f g : Rest) → AllRise (a ∷ b ∷ c ∷ d ∷ e ∷ f ∷ g ∷ []) → a.machine ≡ Feed → a.entries.now ≡ j Feed → b.machine ≡ Table → b.entries.now ≡ j Table → c.machine ≡ Robot → c.entries.now ≡ j Robot → d.machine ≡ Press → d.entries.now ≡ j Press → e.machine ≡ Deposit → e.entries.now ≡ j Deposit
    → f.machine ≡ Crane → f.entries.now ≡ j Crane → g.machine ≡ Watch → g.entries.now ≡ j Watch → left_of_all (a ∷ b ∷ c ∷ d ∷ e ∷ f ∷ g ∷ []) ≡ all_noted j
all_left j a b c d e f g up am ae bm be cm ce dm de em ee fm fe gm ge =
    seven (left_of a) (left_of b) (left_of c) (left_of d) (left_of e) (left_of f) (left_of g)
    ∙ same_seven (left_is a Feed (j Feed) up.0 am ae) (left_is b Table (j Table) up.1.0 bm be) (left_is c Robot (j Robot) up.1.1.0 cm ce) (left_is d Press (j Press) up.1.1.1.0 dm de) (left_is e Deposit (j Deposit) up.1.1.1.1.0 em ee) (left_is f Crane (j Crane) up.1.1.1.1.1.0 fm fe)
    (left_is g Watch (j Watch) up.1.1.1.1.1.1.0 gm ge)
  where
    same_seven : {a b c d e f g k l m n o p q : List Noted} → a ≡ k → b ≡ l → c ≡ m → d ≡ n → e ≡ o → f ≡ p → g ≡ q → a ++ b ++ c ++ d ++ e ++ f ++ g ≡ k ++ l ++ m ++ n ++ o ++ p ++ q
    same_seven r s t u v w x = cc
