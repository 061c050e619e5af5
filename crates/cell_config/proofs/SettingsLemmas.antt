-- The settings in some bytes, by the number of bytes and what TOML makes of them.
use Rattle.cell_config.proofs.Names.{ℕ, ◌≡◌, ◌≢◌, ◌<◌, ◌≤◌, ◌∙◌, ◌+◌, List, [], ◌∷◌, length, map, take, Bool, true, false, Some, None, Result, Ok, Err, MatchResult, IsUtf8, sym, ap, refl, arith, le-leb, inl, inr, cases_lt, lt-leb, ok_or, is_utf8, length-take, take_all, IsUtf8-from_is_utf8, is_utf8-from_IsUtf8, Members, parse_document, ◌>>=◌, demand, ModelState, Scale, Curved, Pair, pairs_of, Turn, is_known, Section, Settings, byte_limit, schedule_at, sections_at, settings_in, settings_of}
use Rattle.cell_config.proofs.Names.{start_at, ConfigFault, Read, Long, Text, Memory}
use Rattle.cell_config.specs.Configured.{Refuses, Says, shown}
use Rattle.cell_config.specs.declared.configuration.Config.{Config}

pub settings_of-long : (bytes : List ℕ) → byte_limit < length bytes → settings_of bytes ≡ Err Long
unfolding settings_of
settings_of-long bytes long = rw (lt-leb (length bytes) byte_limit long) refl

pub settings_of-table : (bytes : List ℕ) (ms : Members) → length bytes ≤ byte_limit → IsUtf8 bytes → parse_document bytes ≡ Some ms → settings_of bytes ≡ settings_in ms
unfolding settings_of
settings_of-table bytes ms short text parsed = rw (le-leb (length bytes) byte_limit short, is_utf8-from_IsUtf8 bytes text, parsed) refl

pub settings_of-no_text : (bytes : List ℕ) → length bytes ≤ byte_limit → (IsUtf8 bytes → parse_document bytes ≡ None) → settings_of bytes ≡ Err Text
unfolding settings_of
settings_of-no_text bytes short refused = rw (le-leb (length bytes) byte_limit short) (by_text (is_utf8 bytes) refl)
  where
    by_text : (b : Bool) → is_utf8 bytes ≡ b → (demand b Text >>= (λ _. ok_or (parse_document bytes) Text >>= settings_in)) ≡ Err Text
    by_text true e = rw (refused (IsUtf8-from_is_utf8 bytes e)) refl
    by_text false e = refl

-- one byte more than the limit shows whether there are more
pub settings_of-prefix : (bytes : List ℕ) → settings_of (take (byte_limit + 1) bytes) ≡ settings_of bytes
settings_of-prefix bytes =
    elim (cases_lt byte_limit (length bytes)) [
      | inl long ↦ settings_of-long (take (byte_limit + 1) bytes) (omega (arith, length-take (byte_limit + 1) bytes)) ∙ sym (settings_of-long bytes long)
      | inr short ↦ ap settings_of (take_all (byte_limit + 1) bytes (omega arith))
    ]

-- an answer by cases says what the bytes say
pub says_from : (bytes : List ℕ) (given : Result Settings ConfigFault) (r : Result Config ConfigFault) → given ≡ settings_of bytes
    → MatchResult r (λ config. given ≡ Ok (shown config)) (λ fault. fault ≢ Memory → given ≡ Err fault) → Says bytes r
says_from bytes given (Ok config) same h = sym same ∙ h
says_from bytes given (Err fault) same h = refusal fault (λ other. sym same ∙ h other)
  where
    refusal : (fault : ConfigFault) → (fault ≢ Memory → settings_of bytes ≡ Err fault) → Refuses bytes fault
    refusal Read h = tt
    refusal Memory h = tt
    refusal other h = h (λ e. absurd (cc))

-- the settings of a table whose parts were read
map_first : (curves : List Curved) → map (λ (section : Section). section.0) (map (λ (c : Curved). (c.scale, pairs_of c)) curves) ≡ map (λ (c : Curved). c.scale) curves
map_first [] = refl
map_first (c ∷ more) = ap (λ (rest : List Scale). c.scale ∷ rest) (map_first more)

map_second : (curves : List Curved) → map (λ (section : Section). section.1) (map (λ (c : Curved). (c.scale, pairs_of c)) curves) ≡ map pairs_of curves
map_second [] = refl
map_second (c ∷ more) = ap (λ (rest : List (List Pair)). pairs_of c ∷ rest) (map_second more)

pub settings_made : (ms : Members) (start : ModelState) (turns : List Turn) (curves : List Curved) (scales : List Scale) → is_known ms ≡ true → start_at ms ≡ Ok start → schedule_at ms ≡ Ok turns
    → sections_at ms ≡ Ok (map (λ c. (c.scale, pairs_of c)) curves) → scales ≡ map (λ c. c.scale) curves
    → settings_in ms ≡ Ok (record { start = start; schedule = turns; points = scales; curves = map pairs_of curves })
settings_made ms start turns curves scales known s t c same =
    rw (known, s, t, c, map_first curves, map_second curves, same) refl
