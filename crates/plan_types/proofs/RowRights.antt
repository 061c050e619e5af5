-- Who hosts a zone, is its party, keeps a place or has a pose, by its row.
use Rattle.std.proofs.Common.{◌≡◌, ◌⊎◌, inl, inr, ⊎_elim, ℕ, ◌<◌, Bool, true, false, ◌&&◌, ◌||◌, nat_eq, nat_lt, length, get_or, refl, arith, ltb-true, eq-eqb}
use Rattle.std.proofs.lemmas.Bool.{eqb-true, lt-ltb}
use Rattle.std.specs.Cmp.{first_so, second_so}
use Rattle.plan_types.specs.Table.{PlanTable, no_zone, no_pose, place_row, is_place_of, is_source, is_sink, has_end}
use Rattle.plan_types.specs.TableLaws.{Keeps, IsEnd, RightsByRow}
use Rattle.plan_types.proofs.Rules.{keeps, is_kept}

either : (a b : Bool) → (a || b) ≡ true → (a ≡ true) ⊎ (b ≡ true)
either true b e = inl refl
either false b e = inr e

first : (a b : Bool) → a ≡ true → (a || b) ≡ true
first true b e = refl
first false b e = cc

second : (a b : Bool) → b ≡ true → (a || b) ≡ true
second true b e = refl
second false b e = e

-- a number below a length, and the same number
abbrev IsRow : ℕ → ℕ → ℕ → ℕ → Type 0
IsRow k n a b = (k < n) × (a ≡ b)

row_of : (k n a b : ℕ) → (nat_lt k n && nat_eq a b) ≡ true → IsRow k n a b
row_of k n a b e = (ltb-true k n (first_so (nat_lt k n) (nat_eq a b) e), eqb-true a b (second_so (nat_lt k n) (nat_eq a b) e))

by_row : (k n a b : ℕ) → IsRow k n a b → (nat_lt k n && nat_eq a b) ≡ true
by_row k n a b f = rw (lt-ltb k n f.0, eq-eqb a b f.1) refl

abbrev OneOf : ℕ → ℕ → ℕ → Type 0
OneOf m a b = (m ≡ a) ⊎ (m ≡ b)

party_of : (k n m a b : ℕ) → (nat_lt k n && (nat_eq m a || nat_eq m b)) ≡ true → (k < n) × OneOf m a b
party_of k n m a b e =
    let parties = nat_eq m a || nat_eq m b in
    (ltb-true k n (first_so (nat_lt k n) parties e), ⊎_elim (λ h. inl (eqb-true m a h)) (λ g. inr (eqb-true m b g)) (either (nat_eq m a) (nat_eq m b) (second_so (nat_lt k n) parties e)))

by_party : (k n m a b : ℕ) → (k < n) × OneOf m a b → (nat_lt k n && (nat_eq m a || nat_eq m b)) ≡ true
by_party k n m a b f =
    rw (lt-ltb k n f.0) (⊎_elim (λ h. first (nat_eq m a) (nat_eq m b) (eq-eqb m a h)) (λ g. second (nat_eq m a) (nat_eq m b) (eq-eqb m b g)) f.1)

end_of : (t : PlanTable) (m p : ℕ) → has_end t m p ≡ true → Keeps t m p × IsEnd (place_row t p)
end_of t m p e =
    let end = is_source t p || is_sink t p in
    (keeps t m p (first_so (is_place_of t p m) end e), either (is_source t p) (is_sink t p) (second_so (is_place_of t p m) end e))

by_end : (t : PlanTable) (m p : ℕ) → Keeps t m p × IsEnd (place_row t p) → has_end t m p ≡ true
by_end t m p f =
    rw (is_kept t m p f.0)
    (⊎_elim (λ h. first (is_source t p) (is_sink t p) h) (λ g. second (is_source t p) (is_sink t p) g) f.1)

pub rights_by_row : (t : PlanTable) (m : ℕ) → RightsByRow t m
rights_by_row t m = record {
  hosts = λ z. let host = (get_or t.zones z no_zone).host in (row_of z (length t.zones) host m, by_row z (length t.zones) host m);
  party = λ z. let row = get_or t.zones z no_zone in (party_of z (length t.zones) m row.host row.guest, by_party z (length t.zones) m row.host row.guest);
  keeps = λ p. (keeps t m p, is_kept t m p);
  poses = λ p. let owner = (get_or t.poses p no_pose).machine in (row_of p (length t.poses) owner m, by_row p (length t.poses) owner m);
  ends = λ p. (end_of t m p, by_end t m p);
  width = omega arith;
}
