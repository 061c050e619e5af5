-- Which entries of a journal are in turn.
use Rattle.cell_report.proofs.Names.{◌≡◌, ℕ, ◌≤◌, get_or, nat_le, true, inl, inr, List, [], ◌∷◌, ◌++◌, refl, sym, ap, ◌∙◌, arith, list_all, leb-true, le-leb, Machine, Entry, Noted, key_of, key_at, noted_after, noted_from, All-contains, AllPass-from_list_all, list_all-from_AllPass, In, in_at, contains_from_in, in_append_left, in_append_right, in_append_all}
use Rattle.cell_report.proofs.Rising.{Rises}

low_of : (d : Entry) (earlier : List Entry) (k : ℕ) → In d earlier → list_all (λ e. nat_le (key_of e) k) earlier ≡ true → key_of d ≤ k
low_of d earlier k h t = leb-true _ _ (All-contains (λ e. nat_le (key_of e) k ≡ true) earlier d (AllPass-from_list_all (λ e. nat_le (key_of e) k) earlier t) (contains_from_in earlier d h))

all_low : (earlier : List Entry) (k : ℕ) → ((d : Entry) → In d earlier → key_of d ≤ k) → list_all (λ e. nat_le (key_of e) k) earlier ≡ true
all_low earlier k f = list_all-from_AllPass (λ e. nat_le (key_of e) k) earlier (λ i d h. le-leb _ _ (f (get_or earlier i d) (in_at earlier i d h)))

later_than : (m : Machine) (earlier es : List Entry) (z : Noted) (d : Entry) → In z (noted_from m earlier es) → In d earlier → z.in_turn ≡ true → key_of d ≤ key_at z
later_than m earlier [] z d h i t = absurd h
later_than m earlier (e ∷ es) z d (inl q) i t =
    let k = ap key_at q in
    omega (arith, low_of d earlier (key_of e) i (ap (λ (w : Noted). w.in_turn) q ∙ t), k)
later_than m earlier (e ∷ es) z d (inr h) i t = later_than m (earlier ++ e ∷ []) es z d h (in_append_left earlier (e ∷ []) d i) t

-- if all are in turn, the journal rises
pub rises_in_turn : (m : Machine) (earlier es : List Entry) → ((z : Noted) → In z (noted_from m earlier es) → z.in_turn ≡ true) → Rises (noted_from m earlier es)
rises_in_turn m earlier [] f = tt
rises_in_turn m earlier (e ∷ es) f = (
  λ z h. later_than m (earlier ++ e ∷ []) es z e h (in_append_right earlier (e ∷ []) e (inl refl)) (f z (inr h)),
  rises_in_turn m (earlier ++ e ∷ []) es (λ z h. f z (inr h)),
)

in_turn_after : (m : Machine) (earlier es : List Entry) → ((d : Entry) → In d earlier → (z : Noted) → In z (noted_from m earlier es) → key_of d ≤ key_at z) → Rises (noted_from m earlier es) → (z : Noted) → In z (noted_from m earlier es) → z.in_turn ≡ true
in_turn_after m earlier [] f r z h = absurd h
in_turn_after m earlier (e ∷ es) f r z (inl q) =
    ap (λ (w : Noted). w.in_turn) (sym q) ∙ all_low earlier (key_of e) (λ d i. f d i (noted_after m earlier e) (inl refl))
in_turn_after m earlier (e ∷ es) f r z (inr h) =
    in_turn_after m (earlier ++ e ∷ []) es
    (in_append_all (λ d. (w : Noted) → In w (noted_from m (earlier ++ e ∷ []) es) → key_of d ≤ key_at w) earlier (e ∷ []) (λ d b w k. f d b w (inr k))
    (λ d b w k. elim b [ inl q ↦ let p = ap key_of q in omega (arith, r.0 w k, p) | inr n ↦ absurd n ]))
    r.1 z h

-- and the converse
pub in_turn_from_rises : (m : Machine) (es : List Entry) → Rises (noted_from m [] es) → (z : Noted) → In z (noted_from m [] es) → z.in_turn ≡ true
in_turn_from_rises m es r z h = in_turn_after m [] es (λ d i. absurd i) r z h
