-- The entries of a journal, read one by one.
use Rattle.cell_report.proofs.Names.{◌≡◌, ℕ, ◌+◌, ◌<◌, nat_le, max, Bool, ◌&&◌, List, [], ◌∷◌, ◌++◌, length, take, get_or, sym, ap, ◌∙◌, arith, append-nil, append_assoc, list_all, nat_tests, take_more, Machine, Entry, Noted, key_of, noted_after, noted_from}
use Rattle.std.proofs.lemmas.List.Folds.{list_all_more}

noted_from-push : (m : Machine) (earlier es : List Entry) (e : Entry) → noted_from m earlier (es ++ e ∷ []) ≡ noted_from m earlier es ++ noted_after m (earlier ++ es) e ∷ []
noted_from-push m earlier [] e = ap (λ l. noted_after m l e ∷ []) (sym (append-nil earlier))
noted_from-push m earlier (f ∷ es) e =
    ap (λ l. noted_after m earlier f ∷ l) (noted_from-push m (earlier ++ f ∷ []) es e ∙ ap (λ l. noted_from m (earlier ++ f ∷ []) es ++ noted_after m l e ∷ []) (append_assoc earlier (f ∷ []) es))

-- the greatest key of the earlier entries: what is not below it is not below any of theirs
abbrev pub IsLatest : ℕ → List Entry → Type 0
IsLatest latest earlier = (k : ℕ) → nat_le latest k ≡ list_all (λ d. nat_le (key_of d) k) earlier

le-max : (a b k : ℕ) → nat_le (max a b) k ≡ (nat_le a k && nat_le b k)
le-max a b k = grind (arith, nat_tests)

pub latest_more : (es : List Entry) (i : ℕ) (d : Entry) (latest key : ℕ) → IsLatest latest (take i es) → i < length es → key ≡ key_of (get_or es i d) → IsLatest (max latest key) (take (i + 1) es)
latest_more es i d latest key is h e = λ k.
    le-max latest key k
    ∙ (ap (λ b. b && nat_le key k) (is k) ∙ (ap (λ n. list_all (λ f. nat_le (key_of f) k) (take i es) && nat_le n k) e ∙ sym (list_all_more (λ f. nat_le (key_of f) k) es i d h)))

pub noted_more : (m : Machine) (es : List Entry) (i : ℕ) (d : Entry) (latest key : ℕ) (all new : List Noted) (before : List Noted) → IsLatest latest (take i es) → i < length es → key ≡ key_of (get_or es i d) → all ≡ before ++ noted_from m [] (take i es)
    → new ≡ all ++ record { machine = m; entry = get_or es i d; in_turn = nat_le latest key } ∷ []
    → new ≡ before ++ noted_from m [] (take (i + 1) es)
noted_more m es i d latest key all new before is h e all_is new_is =
    let x : Entry = get_or es i d in
    let turn : nat_le latest key ≡ list_all (λ f. nat_le (key_of f) (key_of x)) (take i es) = is key ∙ ap (λ n. list_all (λ f. nat_le (key_of f) n) (take i es)) e in
    let made : Bool → Noted = λ b. record { machine = m; entry = x; in_turn = b } in
    let more : noted_from m [] (take (i + 1) es) ≡ noted_from m [] (take i es) ++ noted_after m (take i es) x ∷ [] = ap (noted_from m []) (take_more es i d h) ∙ noted_from-push m [] (take i es) x in
    new_is ∙ (ap (λ l. l ++ made (nat_le latest key) ∷ []) all_is ∙ (append_assoc before (noted_from m [] (take i es)) (made (nat_le latest key) ∷ []) ∙ ap (λ l. before ++ l) (ap (λ b. noted_from m [] (take i es) ++ made b ∷ []) turn ∙ sym more)))
