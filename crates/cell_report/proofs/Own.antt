-- The entries of one machine among all.
use Rattle.cell_report.proofs.Names.{◌≡◌, ◌+◌, length, Bool, true, false, cond, List, [], ◌∷◌, ◌++◌, map, filter, refl, sym, ap, ◌∙◌, subst, append-nil, cond_both, length-append, length-map, filter-append, Machine, Feed, Table, Robot, Press, Deposit, Crane, Watch, Entry, same_machine, one_machine, Noted, noted_after, noted_from, all_noted}

abbrev pub is_of : Machine → Noted → Bool
is_of m x = same_machine x.machine m

abbrev pub entry_in : Noted → Entry
entry_in x = x.entry

pub same_itself : (m : Machine) → same_machine m m ≡ true
same_itself Feed = refl
same_itself Table = refl
same_itself Robot = refl
same_itself Press = refl
same_itself Deposit = refl
same_itself Crane = refl
same_itself Watch = refl

pub entries_of : (m : Machine) (earlier es : List Entry) → map entry_in (noted_from m earlier es) ≡ es
entries_of m earlier [] = refl
entries_of m earlier (e ∷ es) = ap (λ l. e ∷ l) (entries_of m (earlier ++ e ∷ []) es)

own_kept : (m : Machine) (earlier es : List Entry) → filter (is_of m) (noted_from m earlier es) ≡ noted_from m earlier es
own_kept m earlier [] = refl
own_kept m earlier (e ∷ es) = rw (same_itself m) (ap (λ l. noted_after m earlier e ∷ l) (own_kept m (earlier ++ e ∷ []) es))

other_dropped : (m n : Machine) (earlier es : List Entry) → same_machine n m ≡ false → filter (is_of m) (noted_from n earlier es) ≡ []
other_dropped m n earlier [] e = refl
other_dropped m n earlier (f ∷ es) e = rw e (other_dropped m n (earlier ++ f ∷ []) es e)

part : (m n : Machine) (es : List Entry) → filter (is_of m) (noted_from n [] es) ≡ cond (same_machine n m) (noted_from n [] es) []
part m n es =
    cond_both (same_machine n m) (noted_from n [] es) [] (λ l. filter (is_of m) (noted_from n [] es) ≡ l)
    (λ e. subst (λ k. filter (is_of m) (noted_from k [] es) ≡ noted_from k [] es) (sym (one_machine n m e)) (own_kept m [] es)) (other_dropped m n [] es)

abbrev kept_of : (Machine → List Entry) → Machine → Machine → List Noted
kept_of j m n = cond (same_machine n m) (noted_from n [] (j n)) []

collapse : (j : Machine → List Entry) (m : Machine) → kept_of j m Feed ++ kept_of j m Table ++ kept_of j m Robot ++ kept_of j m Press ++ kept_of j m Deposit ++ kept_of j m Crane ++ kept_of j m Watch ≡ noted_from m [] (j m)
collapse j Feed = simp append-nil
collapse j Table = simp append-nil
collapse j Robot = simp append-nil
collapse j Press = simp append-nil
collapse j Deposit = simp append-nil
collapse j Crane = simp append-nil
collapse j Watch = refl

pub own_entries : (j : Machine → List Entry) (m : Machine) → filter (is_of m) (all_noted j) ≡ noted_from m [] (j m)
own_entries j m = simp (filter-append, part) (collapse j m)

noted_length : (m : Machine) (earlier es : List Entry) → length (noted_from m earlier es) ≡ length es
noted_length m earlier es = sym (length-map (noted_from m earlier es) entry_in) ∙ ap length (entries_of m earlier es)

-- as many as in the seven journals
pub all_length : (j : Machine → List Entry) → length (all_noted j) ≡ length (j Feed) + length (j Table) + length (j Robot) + length (j Press) + length (j Deposit) + length (j Crane) + length (j Watch)
all_length j = simp (length-append, noted_length)
