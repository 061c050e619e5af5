-- Groups that share words: each group is on one word, and each word has groups that fit it together.
use Rattle.std.proofs.Common.{◌≡◌, ◌≢◌, ℕ, zero, suc, ◌+◌, ◌-◌, ◌<◌, ◌≤◌, ◌⊎◌, inl, inr, Bool, true, false, ◌||◌, nat_eq, nat_lt, List, [], ◌∷◌, ◌++◌, length, get_or, set, drop, refl, sym, subst, ap, ◌∙◌, arith, if◌then◌else◌, eq-eqb}
use Rattle.std.specs.List.{list_any}
use Rattle.std.proofs.lemmas.Bool.{eqb-true, ltb-true, lt-ltb, cases_lt, or_cases, or_left, or_right, false_from_ne_true}
use Rattle.std.proofs.lemmas.List.{length-set, length-append, get_or-set_same, get_or-set_other, get_or_append_left, get_or-append_right, get_or_past, at_drop_more, at_drop_all}
use Rattle.plan_rules.proofs.lemmas.Puts.{nat_eq-self, same_or_not}
use Rattle.plan_types.specs.Table.{PlanTable}
use Rattle.plan_words.specs.Group.{past}
use Rattle.plan_words.specs.Plant.{together, fits, first_room, put_on, all_put_on}
use Rattle.plan_words.proofs.CutLoops.{any_append}

-- a group is on a word
abbrev pub On : List (List ℕ) → ℕ → ℕ → Type 0
On words n k = list_any (nat_eq n) (get_or words k []) ≡ true

pub on_within : (words : List (List ℕ)) (n k : ℕ) → On words n k → k < length words
on_within words n k on = elim (cases_lt k (length words)) [
  | inl l ↦ l
  | inr m ↦ let none : false ≡ true = ap (list_any (nat_eq n)) (sym (get_or_past words k [] m)) ∙ on in cc
]

-- ---- one group more on a word

put_true : (n k : ℕ) (words : List (List ℕ)) → k < length words → put_on n k words ≡ set words k (get_or words k [] ++ n ∷ [])
put_true n k words l = ap (λ b. if b then set words k (get_or words k [] ++ n ∷ []) else words ++ (n ∷ []) ∷ []) (lt-ltb k (length words) l)

put_false : (n k : ℕ) (words : List (List ℕ)) → k ≡ length words → put_on n k words ≡ words ++ (n ∷ []) ∷ []
put_false n k words e =
    ap (λ b. if b then set words k (get_or words k [] ++ n ∷ []) else words ++ (n ∷ []) ∷ [])
    (false_from_ne_true (nat_lt k (length words)) (λ t. let h = ltb-true k (length words) t in omega (arith, h, e)))

pub put_here : (n k : ℕ) (words : List (List ℕ)) → k ≤ length words → get_or (put_on n k words) k [] ≡ get_or words k [] ++ n ∷ []
put_here n k words m = elim (cases_lt k (length words)) [
  | inl l ↦ ap (λ ws. get_or ws k []) (put_true n k words l) ∙ get_or-set_same words k (get_or words k [] ++ n ∷ []) [] l
  | inr o ↦
      let e : k ≡ length words = omega (arith, m, o) in
      let first : k - length words ≡ 0 = omega (arith, e) in
      ap (λ ws. get_or ws k []) (put_false n k words e)
      ∙ (get_or-append_right words ((n ∷ []) ∷ []) (length words) k [] refl o
      ∙ (ap (λ i. get_or ((n ∷ []) ∷ []) i []) first ∙ sym (ap (λ w. w ++ n ∷ []) (get_or_past words k [] o))))
]

pub put_other : (n k : ℕ) (words : List (List ℕ)) → k ≤ length words → (i : ℕ) → i ≢ k → get_or (put_on n k words) i [] ≡ get_or words i []
put_other n k words m i ne = elim (cases_lt k (length words)) [
  | inl l ↦ ap (λ ws. get_or ws i []) (put_true n k words l) ∙ get_or-set_other words k i (get_or words k [] ++ n ∷ []) [] ne
  | inr o ↦
      let e : k ≡ length words = omega (arith, m, o) in
      ap (λ ws. get_or ws i []) (put_false n k words e) ∙ elim (cases_lt i (length words)) [
        | inl h ↦ get_or_append_left words ((n ∷ []) ∷ []) [] i h
        | inr h ↦
            let long = length-append words ((n ∷ []) ∷ []) in
            get_or_past (words ++ (n ∷ []) ∷ []) i [] (omega (arith, long, h, e, ne)) ∙ sym (get_or_past words i [] h)
      ]
]

pub put_within : (n k : ℕ) (words : List (List ℕ)) → k ≤ length words → (i : ℕ) → i ≢ k → i < length (put_on n k words) → i < length words
put_within n k words m i ne l = elim (cases_lt k (length words)) [
  | inl h ↦
      let same = ap (λ ws. length ws) (put_true n k words h) ∙ length-set words k (get_or words k [] ++ n ∷ []) in
      omega (arith, same, l)
  | inr o ↦
      let e : k ≡ length words = omega (arith, m, o) in
      let same = ap (λ ws. length ws) (put_false n k words e) ∙ length-append words ((n ∷ []) ∷ []) in
      omega (arith, same, l, e, ne)
]

pub placed : (n k : ℕ) (words : List (List ℕ)) → k ≤ length words → On (put_on n k words) n k
placed n k words m =
    ap (list_any (nat_eq n)) (put_here n k words m)
    ∙ (any_append (nat_eq n) (get_or words k []) (n ∷ [])
    ∙ or_right (list_any (nat_eq n) (get_or words k [])) (nat_eq n n || false) (or_left (nat_eq n n) false (nat_eq-self n)))

pub stays : (n k : ℕ) (words : List (List ℕ)) → k ≤ length words → (x i : ℕ) → On words x i → On (put_on n k words) x i
stays n k words m x i on = elim (same_or_not i k) [
  | inl e ↦
      let here : On words x k = subst (On words x) e on in
      subst (On (put_on n k words) x) (sym e)
      (ap (list_any (nat_eq x)) (put_here n k words m)
      ∙ (any_append (nat_eq x) (get_or words k []) (n ∷ []) ∙ or_left (list_any (nat_eq x) (get_or words k [])) (nat_eq x n || false) here))
  | inr ne ↦ ap (list_any (nat_eq x)) (put_other n k words m i ne) ∙ on
]

alone : (x n : ℕ) → (nat_eq x n || false) ≡ true → x ≡ n
alone x n e = elim (or_cases (nat_eq x n) false e) [ inl h ↦ eqb-true x n h | inr h ↦ cc ]

pub came : (n k : ℕ) (words : List (List ℕ)) → k ≤ length words → (x i : ℕ) → On (put_on n k words) x i → On words x i ⊎ ((x ≡ n) × (i ≡ k))
came n k words m x i on = elim (same_or_not i k) [
  | inl e ↦
      let here : On (put_on n k words) x k = subst (On (put_on n k words) x) e on in
      let both = sym (any_append (nat_eq x) (get_or words k []) (n ∷ [])) ∙ (ap (list_any (nat_eq x)) (sym (put_here n k words m)) ∙ here) in
      elim (or_cases (list_any (nat_eq x) (get_or words k [])) (nat_eq x n || false) both) [
        | inl h ↦ inl (subst (On words x) (sym e) h)
        | inr h ↦ inr (alone x n h, e)
      ]
  | inr ne ↦ inl (ap (list_any (nat_eq x)) (sym (put_other n k words m i ne)) ∙ on)
]

-- ---- the first word that has room

pub room_within : (t : PlanTable) (n : ℕ) (words : List (List ℕ)) → first_room t n words ≤ length words
room_within t n [] = omega arith
room_within t n (word ∷ words) = by (fits t (together t (word ++ n ∷ []))) (first_room t n words) (length words) (room_within t n words)
  where
    by : (b : Bool) (k m : ℕ) → k ≤ m → (if b then 0 else 1 + k) ≤ suc m
    by true k m l = omega arith
    by false k m l = omega (arith, l)

-- together with one group more
abbrev pub RoomAt : PlanTable → ℕ → List (List ℕ) → ℕ → Bool → Type 0
RoomAt t n words k b = fits t (together t (get_or words k [] ++ n ∷ [])) ≡ b

next_word : (t : PlanTable) (n : ℕ) (word : List ℕ) (words : List (List ℕ)) (k : ℕ) (b : Bool) → RoomAt t n words k b → RoomAt t n (word ∷ words) (1 + k) b
next_word t n word words k b r = let next : 1 + k ≡ suc k = omega arith in subst (λ i. RoomAt t n (word ∷ words) i b) (sym next) r

pub room_fits : (t : PlanTable) (n : ℕ) (words : List (List ℕ)) → first_room t n words < length words → RoomAt t n words (first_room t n words) true
room_fits t n [] l = absurd (omega (arith, l))
room_fits t n (word ∷ words) l = by (fits t (together t (word ++ n ∷ []))) refl l (room_fits t n words)
  where
    by : (b : Bool) → fits t (together t (word ++ n ∷ [])) ≡ b → (if b then 0 else 1 + first_room t n words) < suc (length words)
        → (first_room t n words < length words → RoomAt t n words (first_room t n words) true) → RoomAt t n (word ∷ words) (if b then 0 else 1 + first_room t n words) true
    by true e m rest = e
    by false e m rest = next_word t n word words (first_room t n words) true (rest (omega (arith, m)))

pub none_before : (t : PlanTable) (n : ℕ) (words : List (List ℕ)) (k : ℕ) → k < first_room t n words → RoomAt t n words k false
none_before t n [] k l = absurd (omega (arith, l))
none_before t n (word ∷ words) k l = by (fits t (together t (word ++ n ∷ []))) refl k l (none_before t n words)
  where
    by : (b : Bool) → fits t (together t (word ++ n ∷ [])) ≡ b → (i : ℕ) → i < (if b then 0 else 1 + first_room t n words)
        → ((j : ℕ) → j < first_room t n words → RoomAt t n words j false) → RoomAt t n (word ∷ words) i false
    by true e i m rest = absurd (omega (arith, m))
    by false e zero m rest = e
    by false e (suc i) m rest = rest i (omega (arith, m))

-- ---- all groups

abbrev pub Listed : List ℕ → ℕ → Type 0
Listed labels x = (j : ℕ) × (j < length labels) × (get_or labels j past ≡ x)

pub somewhere : (t : PlanTable) (labels : List ℕ) (words : List (List ℕ)) (x : ℕ) → Listed labels x ⊎ ((k : ℕ) × On words x k) → (k : ℕ) × On (all_put_on t labels words) x k
somewhere t [] words x (inl (j, l, e)) = absurd (omega (arith, l))
somewhere t [] words x (inr on) = on
somewhere t (n ∷ labels) words x (inl (zero, l, e)) =
    let k = first_room t n words in
    somewhere t labels (put_on n k words) x (inr (k, subst (λ y. On (put_on n k words) y k) e (placed n k words (room_within t n words))))
somewhere t (n ∷ labels) words x (inl (suc j, l, e)) =
    somewhere t labels (put_on n (first_room t n words) words) x (inl (j, omega (arith, l), e))
somewhere t (n ∷ labels) words x (inr (i, on)) =
    let k = first_room t n words in
    somewhere t labels (put_on n k words) x (inr (i, stays n k words (room_within t n words) x i on))

-- each group is on one word, as long as no group comes twice
abbrev pub Unique : List (List ℕ) → Type 0
Unique words = (x i j : ℕ) → On words x i → On words x j → i ≡ j

abbrev pub Fresh : List ℕ → List (List ℕ) → Type 0
Fresh labels words = (j : ℕ) → j < length labels → (i : ℕ) → ¬ On words (get_or labels j past) i

abbrev pub Distinct : List ℕ → Type 0
Distinct labels = (i j : ℕ) → i < length labels → j < length labels → get_or labels i past ≡ get_or labels j past → i ≡ j

put_unique : (n k : ℕ) (words : List (List ℕ)) → k ≤ length words → ((i : ℕ) → ¬ On words n i) → Unique words → Unique (put_on n k words)
put_unique n k words m fresh one x i j a b = elim (came n k words m x i a) [
  | inl p ↦ elim (came n k words m x j b) [
    | inl q ↦ one x i j p q
    | inr q ↦ absurd (fresh i (subst (λ y. On words y i) q.0 p))
  ]
  | inr p ↦ elim (came n k words m x j b) [
    | inl q ↦ absurd (fresh j (subst (λ y. On words y j) p.0 q))
    | inr q ↦ p.1 ∙ sym q.1
  ]
]

put_fresh : (n k : ℕ) (labels : List ℕ) (words : List (List ℕ)) → k ≤ length words → Distinct (n ∷ labels) → Fresh (n ∷ labels) words → Fresh labels (put_on n k words)
put_fresh n k labels words m apart fresh j l i on = elim (came n k words m (get_or labels j past) i on) [
  | inl p ↦ fresh (suc j) (omega (arith, l)) i p
  | inr p ↦ let same = apart (suc j) 0 (omega (arith, l)) (omega arith) p.0 in omega (arith, same)
]

pub unique : (t : PlanTable) (labels : List ℕ) (words : List (List ℕ)) → Distinct labels → Fresh labels words → Unique words → Unique (all_put_on t labels words)
unique t [] words apart fresh one = one
unique t (n ∷ labels) words apart fresh one =
    let k = first_room t n words in
    let m = room_within t n words in
    let rest : Distinct labels = λ i j l h e. let s = apart (suc i) (suc j) (omega (arith, l)) (omega (arith, h)) e in omega (arith, s) in
    unique t labels (put_on n k words) rest (put_fresh n k labels words m apart fresh) (put_unique n k words m (λ i. fresh 0 (omega arith) i) one)

pub no_words_unique : Unique []
no_words_unique x i j a b = cc

pub no_words_fresh : (labels : List ℕ) → Fresh labels []
no_words_fresh labels j l i on = cc

-- each word's groups fit it together, as long as each group fits a word alone
abbrev pub AllFit : PlanTable → List (List ℕ) → Type 0
AllFit t words = (i : ℕ) → i < length words → fits t (together t (get_or words i [])) ≡ true

put_fits : (t : PlanTable) (n : ℕ) (words : List (List ℕ)) → fits t (together t (n ∷ [])) ≡ true → AllFit t words → AllFit t (put_on n (first_room t n words) words)
put_fits t n words own all i l = elim (same_or_not i (first_room t n words)) [
  | inl e ↦ subst (λ k. fits t (together t (get_or (put_on n (first_room t n words) words) k [])) ≡ true) (sym e)
      (ap (λ w. fits t (together t w)) (put_here n (first_room t n words) words (room_within t n words)) ∙ here)
  | inr ne ↦ ap (λ w. fits t (together t w)) (put_other n (first_room t n words) words (room_within t n words) i ne)
      ∙ all i (put_within n (first_room t n words) words (room_within t n words) i ne l)
]
  where
    here : RoomAt t n words (first_room t n words) true
    here = elim (cases_lt (first_room t n words) (length words)) [
      | inl h ↦ room_fits t n words h
      | inr h ↦ ap (λ w. fits t (together t (w ++ n ∷ []))) (get_or_past words (first_room t n words) [] h) ∙ own
    ]

pub all_fit : (t : PlanTable) (labels : List ℕ) (words : List (List ℕ)) → ((j : ℕ) → j < length labels → fits t (together t (get_or labels j past ∷ [])) ≡ true) → AllFit t words → AllFit t (all_put_on t labels words)
all_fit t [] words own all = all
all_fit t (n ∷ labels) words own all =
    all_fit t labels (put_on n (first_room t n words) words) (λ j l. own (suc j) (omega (arith, l))) (put_fits t n words (own 0 (omega arith)) all)

-- ---- steps of loops

room_here : (t : PlanTable) (n : ℕ) (word : List ℕ) (words : List (List ℕ)) (b : Bool) → fits t (together t (word ++ n ∷ [])) ≡ b → first_room t n (word ∷ words) ≡ (if b then 0 else 1 + first_room t n words)
room_here t n word words b e = ap (λ c. if c then 0 else 1 + first_room t n words) e

pub room_found_at : (t : PlanTable) (n : ℕ) (words : List (List ℕ)) (i : ℕ) (d : List ℕ) → i < length words → fits t (together t (get_or words i d ++ n ∷ [])) ≡ true → first_room t n (drop i words) ≡ 0
room_found_at t n words i d l e = at_drop_more (λ ws. first_room t n ws) words i d l ∙ room_here t n (get_or words i d) (drop (i + 1) words) true e

pub room_not_at : (t : PlanTable) (n : ℕ) (words : List (List ℕ)) (i : ℕ) (d : List ℕ) → i < length words → fits t (together t (get_or words i d ++ n ∷ [])) ≡ false
    → first_room t n (drop i words) ≡ 1 + first_room t n (drop (i + 1) words)
room_not_at t n words i d l e = at_drop_more (λ ws. first_room t n ws) words i d l ∙ room_here t n (get_or words i d) (drop (i + 1) words) false e

pub room_past : (t : PlanTable) (n : ℕ) (words : List (List ℕ)) (i : ℕ) → length words ≤ i → first_room t n (drop i words) ≡ 0
room_past t n words i l = at_drop_all (λ ws. first_room t n ws) words i l

pub put_more : (t : PlanTable) (labels : List ℕ) (words : List (List ℕ)) (i d : ℕ) → i < length labels
    → all_put_on t (drop i labels) words ≡ all_put_on t (drop (i + 1) labels) (put_on (get_or labels i d) (first_room t (get_or labels i d) words) words)
put_more t labels words i d l = at_drop_more (λ ys. all_put_on t ys words) labels i d l

pub put_end : (t : PlanTable) (labels : List ℕ) (words : List (List ℕ)) (i : ℕ) → length labels ≤ i → all_put_on t (drop i labels) words ≡ words
put_end t labels words i l = at_drop_all (λ ys. all_put_on t ys words) labels i l

pub room_by : (t : PlanTable) (n : ℕ) (words : List (List ℕ)) (i : ℕ) (word : List ℕ) {b : Bool} → word ≡ get_or words i word → fits t (together t (word ++ n ∷ [])) ≡ b → fits t (together t (get_or words i word ++ n ∷ [])) ≡ b
room_by t n words i word is e = ap (λ w. fits t (together t (w ++ n ∷ []))) (sym is) ∙ e
