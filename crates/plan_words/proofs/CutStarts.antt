-- Each start of the plan is one of the cut plan, with all exits empty, and no entry open but the places themselves.
use Rattle.std.proofs.Common.{◌≡◌, ℕ, ◌+◌, ◌-◌, ◌<◌, ◌≤◌, inl, inr, Bool, true, false, List, ◌++◌, length, get_or, replicate, refl, sym, ap, ◌∙◌, arith}
use Rattle.std.proofs.lemmas.List.{length-append, length-replicate, get_or_append_left, get_or-append_right, get_or-replicate}
use Rattle.plan_types.specs.Table.{place_count}
use Rattle.plan_rules.specs.State.{free_zone}
use Rattle.plan_words.specs.Cut.{Cut, exits_end, IsExit, IsEntry, IsCut}
use Rattle.plan_words.specs.CutRun.{StartsStand}
use Rattle.plan_words.proofs.CutAnswers.{counts, itself}

abbrev pub started : Cut → List Bool → List Bool
started c full = full ++ (replicate (length c.exits) false ++ replicate (length c.entries) true)

at_place : (c : Cut) (full : List Bool) (p : ℕ) → length full ≡ place_count c.plan → p < place_count c.plan → get_or (started c full) p false ≡ get_or full p false
at_place c full p long l = get_or_append_left full (replicate (length c.exits) false ++ replicate (length c.entries) true) false p (omega (arith, l, long))

at_exit : (c : Cut) (full : List Bool) (q p : ℕ) → length full ≡ place_count c.plan → IsExit c q p → get_or (started c full) q false ≡ false
at_exit c full q p long exit =
    let above = exit.0 in
    let below = exit.1 in
    let exits = length-replicate (length c.exits) false in
    get_or-append_right full (replicate (length c.exits) false ++ replicate (length c.entries) true) (length full) q false refl (omega (arith, above, long))
    ∙ (get_or_append_left (replicate (length c.exits) false) (replicate (length c.entries) true) false (q - length full) (omega (arith, above, below, long, exits))
    ∙ get_or-replicate (length c.exits) (q - length full) false false (omega (arith, above, below, long)))

at_entry : (c : Cut) (full : List Bool) (q : ℕ) → length full ≡ place_count c.plan → exits_end c ≤ q → q < exits_end c + length c.entries → get_or (started c full) q false ≡ true
at_entry c full q long above below =
    let exits = length-replicate (length c.exits) false in
    get_or-append_right full (replicate (length c.exits) false ++ replicate (length c.entries) true) (length full) q false refl (omega (arith, above, long))
    ∙ (get_or-append_right (replicate (length c.exits) false) (replicate (length c.entries) true) (length c.exits) (q - length full) false exits (omega (arith, above, long))
    ∙ get_or-replicate (length c.entries) (q - length full - length c.exits) true false (omega (arith, above, below, long)))

pub starts_stand : (c : Cut) → IsCut c → StartsStand c
starts_stand c k full long =
    let both = length-append (replicate (length c.exits) false) (replicate (length c.entries) true) in
    let more = length-append full (replicate (length c.exits) false ++ replicate (length c.entries) true) in
    let exits = length-replicate (length c.exits) false in
    let entries = length-replicate (length c.entries) true in
    let none : (q p : ℕ) → IsExit c q p → get_or (started c full) q false ≡ true → ⊥ = λ q p exit e. let h = sym (at_exit c full q p long exit) ∙ e in cc in
    -- an entry that is empty is the place itself
    let own : (e p : ℕ) → IsEntry c e p → get_or (started c full) e false ≡ false → e ≡ p = λ e p entry empty. elim entry.0 [
      | inl l ↦ sym (itself c e l) ∙ entry.2
      | inr m ↦ let h = sym (at_entry c full e long m entry.1) ∙ empty in cc
    ] in
    record {
      zones = ap (λ n. replicate n free_zone) (counts c k);
      there_long = omega (arith, more, both, exits, entries, long);
      whole_long = long;
      uncut = λ p l e. at_place c full p long l;
      full = λ e p entry f. elim entry.0 [
        | inl l ↦ at_place c full e long l ∙ (ap (λ y. get_or full y false) (sym (itself c e l) ∙ entry.2) ∙ f)
        | inr m ↦ at_entry c full e long m entry.1
      ];
      one_open = λ e f p cut one two x y. own e p one x ∙ sym (own f p two y);
      lent = λ q p exit e. absurd (none q p exit e);
      one_lent = λ q r p one two e f. absurd (none q p one e);
    }
