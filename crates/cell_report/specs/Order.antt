-- The entries of all journals, and the order in which an audit looks at them.
use Rattle.std.specs.Prelude.{◌≡◌, ℕ, ◌+◌, ◌*◌, Bool, ◌&&◌, nat_eq, nat_le, if◌then◌else◌, max, fold, count_by, List}
use Rattle.std.specs.Prelude.{[], ◌∷◌, ◌++◌}
use Rattle.std.specs.Prelude.{map, filter}
use Rattle.std.specs.List.{list_all}
use Rattle.std.specs.List.Sorted.{IsNonDecreasingBy, IsStableByKey, IsPermutation}
use Rattle.std.specs.Ordering.{nat_cmp}
use Rattle.cell_rules.specs.Types.{Machine, Feed, Table, Robot, Press, Deposit, Crane, Watch, Answer, Done, Shown}
use Rattle.cell_rules.specs.Types.{Refused, Event, Entry}
use Rattle.cell_rules.specs.Names.{is_done_answer, event_by}
use Rattle.cell_report.specs.declared.ordered.Noted.{Noted}

-- the order is by stamp, and at one stamp Done is before the other answers
abbrev pub rank : Answer → ℕ
rank Done = 0
rank (Shown _ _ _) = 1
rank (Refused _) = 1

abbrev pub key_of : Entry → ℕ
key_of e = 2 * e.stamp + rank e.answer

-- an entry after the earlier ones of its journal: it is in turn if none of them is later in the order
abbrev pub noted_after : Machine → List Entry → Entry → Noted
noted_after m earlier e =
    record { machine = m; entry = e; in_turn = list_all (λ d. nat_le (key_of d) (key_of e)) earlier }

-- the entries of a journal, after earlier ones
abbrev pub noted_from : Machine → List Entry → List Entry → List Noted
noted_from m earlier [] = []
noted_from m earlier (e ∷ es) = noted_after m earlier e ∷ noted_from m (earlier ++ e ∷ []) es

-- all entries, by machine, and then as in the journal
abbrev pub all_noted : (Machine → List Entry) → List Noted
all_noted journals =
    noted_from Feed [] (journals Feed)
    ++ noted_from Table [] (journals Table)
    ++ noted_from Robot [] (journals Robot)
    ++ noted_from Press [] (journals Press)
    ++ noted_from Deposit [] (journals Deposit)
    ++ noted_from Crane [] (journals Crane)
    ++ noted_from Watch [] (journals Watch)

-- the entries in the order: by key, and those with one key by machine, and then as in the journal
abbrev pub key_at : Noted → ℕ
key_at x = key_of x.entry

pub record InOrder (all ordered : List Noted) : Type 0 where
  pub same : IsPermutation all ordered
  pub rising : IsNonDecreasingBy key_at ordered
  pub stable : IsStableByKey key_at nat_cmp all ordered

abbrev pub event_of : Noted → Event
event_of x = event_by x.machine x.entry

-- the events are those of all entries in the order
abbrev pub AreInOrder : (Machine → List Entry) → List Event → Type 0
AreInOrder journals history =
    (ordered : List Noted) × InOrder (all_noted journals) ordered × (history ≡ map event_of ordered)

abbrev pub is_done_noted : Noted → Bool
is_done_noted x = is_done_answer x.entry.answer

abbrev pub stamp_of : Noted → ℕ
stamp_of x = x.entry.stamp

-- the stamps of the Done entries
abbrev pub done_stamps : List Noted → List ℕ
done_stamps xs = map stamp_of (filter is_done_noted xs)

-- how many Done entries have a stamp
abbrev pub done_at : List Noted → ℕ → ℕ
done_at xs s = count_by (λ x. is_done_noted x && nat_eq (stamp_of x) s) xs

-- the greatest of a stamp and those of the entries
abbrev pub greatest : ℕ → List Noted → ℕ
greatest least xs = fold (λ t x. max t (stamp_of x)) least xs

-- an entry before the first one in the list that it isn't after
abbrev pub put : Noted → List Noted → List Noted
put x [] = x ∷ []
put x (y ∷ ys) = if nat_le (key_at x) (key_at y) then x ∷ y ∷ ys else y ∷ put x ys

-- the entries in the order
abbrev pub in_order : List Noted → List Noted
in_order [] = []
in_order (x ∷ xs) = put x (in_order xs)
