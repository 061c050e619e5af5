-- What a record takes of a text.
use Rattle.std.proofs.Common.{ℕ, ◌≡◌, ◌+◌, ◌-◌, ◌≤◌, Bool, true, false, cond, List, [], ◌∷◌, length, Some, None, refl, sym, ◌∙◌, arith, ◌==◌, ◌&&◌, ◌⊎◌, inl, inr}
use Rattle.std.proofs.lemmas.Bool.{cond_both, false≢true}
use Rattle.std.proofs.lemmas.Option.{same_Some}
use Rattle.csv.specs.Machine.{Read, after_end, ends_at_end, ends_with, fields_after, field_after, in_field, is_byte, is_end, next_record, start_field, start_record, step}
use Rattle.csv.specs.declared.parser.Config.{Config}
use Rattle.csv.specs.declared.parser.Terminator.{Terminator}
use Rattle.csv.specs.declared.parser.Terminator.TheVariants as term
use Rattle.csv.specs.declared.parser.State.{State}
use Rattle.csv.specs.declared.parser.State.TheVariants as st
use Rattle.csv.specs.declared.parser.Action.{Action}
use Rattle.csv.specs.declared.parser.Action.TheVariants as act

-- a step that ends a record leaves the machine between records
abbrev EndsBetween : State × Action → Type 0
EndsBetween p = is_end p.1 ≡ true → ends_at_end p.0 ≡ false

either : (b : Bool) (x y : State × Action) → EndsBetween x → EndsBetween y → EndsBetween (cond b x y)
either b x y hx hy = cond_both b x y EndsBetween (λ _. hx) (λ _. hy)

no_end : (s : State) (a : Action) → is_end a ≡ false → EndsBetween (s, a)
no_end s a goes ends = let bad : false ≡ true = sym goes ∙ ends in absurd (false≢true bad)

after_end-between : (t : Terminator) (c : ℕ) → ends_at_end (after_end t c) ≡ false
after_end-between term.CRLF c = cond_both (c == 13) st.AfterCr st.StartRecord (λ s. ends_at_end s ≡ false) (λ _. refl) (λ _. refl)
after_end-between (term.Any t) c = refl

in_field-between : (cfg : Config) (c : ℕ) → EndsBetween (in_field cfg c)
in_field-between cfg c =
    either (c == cfg.delimiter) _ _ (no_end st.StartField act.EndField refl)
    (either (ends_with cfg.terminator c) _ _ (λ e. after_end-between cfg.terminator c) (no_end st.InField act.Copy refl))

start_field-between : (cfg : Config) (c : ℕ) → EndsBetween (start_field cfg c)
start_field-between cfg c = either (cfg.quoting && (c == cfg.quote)) _ _ (no_end st.InQuoted act.Skip refl) (in_field-between cfg c)

start_record-between : (cfg : Config) (c : ℕ) → EndsBetween (start_record cfg c)
start_record-between cfg c =
    either (ends_with cfg.terminator c) _ _ (no_end st.StartRecord act.Skip refl)
    (either (is_byte cfg.comment c) _ _ (no_end st.InComment act.Skip refl) (start_field-between cfg c))

step-between : (cfg : Config) (s : State) (c : ℕ) → EndsBetween (step cfg s c)
step-between cfg st.StartRecord c = start_record-between cfg c
step-between cfg st.StartField c = start_field-between cfg c
step-between cfg st.InField c = in_field-between cfg c
step-between cfg st.InQuoted c =
    either (cfg.quoting && (c == cfg.quote)) _ _ (no_end st.AfterQuote act.Skip refl)
    (either (cfg.quoting && is_byte cfg.escape c) _ _ (no_end st.InEscape act.Skip refl) (no_end st.InQuoted act.Copy refl))
step-between cfg st.InEscape c = no_end st.InQuoted act.Copy refl
step-between cfg st.AfterQuote c = either ((cfg.quoting && cfg.double_quote) && (c == cfg.quote)) _ _ (no_end st.InQuoted act.Copy refl) (in_field-between cfg c)
step-between cfg st.InComment c = either (c == 10) _ _ (no_end st.StartRecord act.Skip refl) (no_end st.InComment act.Skip refl)
step-between cfg st.AfterCr c = either (c == 10) _ _ (no_end st.StartRecord act.Skip refl) (start_record-between cfg c)

-- which way a test went, if the result is known
chosen : {A : Type 0} (b : Bool) (x y z : A) → cond b x y ≡ z → ((b ≡ true) × (x ≡ z)) ⊎ ((b ≡ false) × (y ≡ z))
chosen true x y z e = inl (refl, e)
chosen false x y z e = inr (refl, e)

-- a record leaves the machine between records, and takes a byte if there is one
pub next_record-takes : (cfg : Config) (s : State) (fields : List (List ℕ)) (field xs : List ℕ) (p : Read) → next_record cfg s fields field xs ≡ Some p
    → (length p.2 ≤ length xs - 1) × (ends_at_end p.1 ≡ false)
unfolding next_record
next_record-takes cfg s fields field [] p e =
    elim (chosen (ends_at_end s) _ _ _ e) [
      | inl h ↦ let same = same_Some _ p h.1 in (rw (← same) (omega arith), rw (← same) refl)
      | inr h ↦ absurd (cc)
    ]
next_record-takes cfg s fields field (c ∷ rest) p e =
    elim (chosen (is_end (step cfg s c).1) _ _ _ e) [
      | inl h ↦ let same = same_Some _ p h.1 in (rw (← same) (omega arith), rw (← same) (step-between cfg s c h.0))
      | inr h ↦
          let more = next_record-takes cfg (step cfg s c).0 (fields_after (step cfg s c).1 fields field) (field_after (step cfg s c).1 c field) rest p h.1 in
          (omega (arith, more.0), more.1)
    ]

-- a record that is found between records takes a byte
pub next_record-shorter : (cfg : Config) (s : State) (xs : List ℕ) (p : Read) → ends_at_end s ≡ false → next_record cfg s [] [] xs ≡ Some p → length p.2 + 1 ≤ length xs
unfolding next_record
next_record-shorter cfg s [] p between e = let none : None ≡ Some p = rw between at e in absurd (cc)
next_record-shorter cfg s (c ∷ rest) p between e = let takes = next_record-takes cfg s [] [] (c ∷ rest) p e in omega (arith, takes.0)
