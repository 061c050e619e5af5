-- The start in record 0, from its length and its first fields.
use Rattle.std.proofs.Common.{ℕ, ◌≡◌, ◌<◌, ◌≤◌, List, [], ◌∷◌, length, drop, Some, None, Err, refl, arith}
use Rattle.std.proofs.lemmas.Option.{same_Some}
use Rattle.csv.specs.Records.{field_at}
use Rattle.cell_rules.specs.StartDigits.{places_in}
use Rattle.csv_rows.specs.Numbers.{number_in}
use Rattle.csv_rows.specs.declared.script_end.ScriptFault.TheVariants.{NoStart, BadStart}
use Rattle.cell_replay.specs.Versions.{version_of}
use Rattle.cell_replay.specs.Script.{start_by, start_fields, start_in, start_of}

pub start_in-none : (fs : List (List ℕ)) → field_at fs 0 ≡ None → start_in fs ≡ Err NoStart
unfolding field_at start_in
start_in-none [] e = refl
start_in-none (f ∷ fs) e = absurd (cc)

pub start_in-word : (fs : List (List ℕ)) (w : List ℕ) → field_at fs 0 ≡ Some w → start_in fs ≡ start_by (version_of w) (drop 1 fs)
unfolding field_at start_in
start_in-word [] w e = absurd (cc)
start_in-word (f ∷ fs) w e = let same : f ≡ w = same_Some f w e in rw same refl

-- The fields after the first.

pub state-bare : (fs : List (List ℕ)) → field_at fs 1 ≡ None → start_fields (drop 1 fs) ≡ Err BadStart
unfolding field_at
state-bare [] n = refl
state-bare (f ∷ []) n = refl
state-bare (f ∷ g ∷ fs) n = absurd (cc)

pub state-plain : (fs : List (List ℕ)) (p : List ℕ) → field_at fs 1 ≡ Some p → field_at fs 2 ≡ None → start_fields (drop 1 fs) ≡ start_of (places_in p) (Some 0)
unfolding field_at
state-plain [] p m n = absurd (cc)
state-plain (f ∷ []) p m n = absurd (cc)
state-plain (f ∷ g ∷ []) p m n = let here : g ≡ p = same_Some g p m in rw here refl
state-plain (f ∷ g ∷ h ∷ fs) p m n = absurd (cc)

pub state-long : (fs : List (List ℕ)) → 3 < length fs → start_fields (drop 1 fs) ≡ Err BadStart
state-long [] n = absurd (omega arith)
state-long (f ∷ []) n = absurd (omega arith)
state-long (f ∷ g ∷ []) n = absurd (omega arith)
state-long (f ∷ g ∷ h ∷ []) n = absurd (omega arith)
state-long (f ∷ g ∷ h ∷ i ∷ fs) n = refl

pub state-stamped : (fs : List (List ℕ)) (p s : List ℕ) → length fs ≤ 3 → field_at fs 1 ≡ Some p → field_at fs 2 ≡ Some s → start_fields (drop 1 fs) ≡ start_of (places_in p) (number_in s)
unfolding field_at
state-stamped [] p s n m k = absurd (cc)
state-stamped (f ∷ []) p s n m k = absurd (cc)
state-stamped (f ∷ g ∷ []) p s n m k = absurd (cc)
state-stamped (f ∷ g ∷ h ∷ []) p s n m k =
    let here : g ≡ p = same_Some g p m in
    let there : h ≡ s = same_Some h s k in
    rw (here, there) refl
state-stamped (f ∷ g ∷ h ∷ i ∷ fs) p s n m k = absurd (omega arith)

pub ruleset start_shapes = (start_in-none, start_in-word, state-bare, state-plain, state-long, state-stamped)
