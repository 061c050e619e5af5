-- The flags of `run` have their numbers if `clap` accepts the words: going over the words keeps that, and so do the
-- defaults.
use Rattle.std.proofs.Common.{◌≡◌, ◌∷◌, [], ◌++◌, cond, ℕ, zero, suc, Bool, true, false, List, Option, Some, None, codes, refl, sym, ap, subst, fold, length, arith, is_some}
use Rattle.std.specs.List.{AllByRecursion, find}
use Rattle.std.specs.Option.{option_map_or}
use Rattle.std.specs.Prelude.{slice_get, ◌==◌, ◌||◌, ◌&&◌, option_map}
use Rattle.std.specs.Str.{bytes_eq, chars}
use Rattle.std.proofs.lemmas.Bool.{eqb-true}
use Rattle.clap.specs.Lexer.{long_of, short_of}
use Rattle.clap.specs.Values.{IsUnsignedIn}
use Rattle.clap.specs.ValueTests.{accepts}
use Rattle.clap.specs.Kinds.{Kinds, or_else, range_kinds}
use Rattle.clap.specs.Faults.{bundle_fault, bundle_step_fault, default_fault, defaults_fault, entered_fault, fault_of, flag_word_fault, flags_fault, level_fault, long_fault, option_fault, other_fault, positional_fault, react_fault, settle_fault, short_fault, step_fault, stray_fault, turn_fault, use_fault, values_fault, walk_fault, word_fault}
use Rattle.clap.specs.Walk.{Held, Names, Outcome, Row, Rule, Step, Text, Waiting, Walk, after_flag, after_step, answers_to, arg_by_id, arg_by_index, arg_by_long, arg_by_short, at_row, bundle_met, bundle_step, done, flag_met, has_row, long_met, long_or_other, more_values, nothing_held, one_of, option, option_met, option_word, plain, plain_word, reacted, rows_after, settled, settled_rows, stop_after, short_met, short_or_plain, stronger, subcommand_or_other, takes_values, to_positional, trailing, used, used_by_id, value, waits, walk, walk_from, walked, walked_from, with_default, with_values, word_met}
use Rattle.clap.specs.Simple.{Shape, argument_words, built, built_leaf, entered, filled, help_rule, inherited, label_of, matches_of, names_of, rows_at, subcommand_of}
use Rattle.clap.proofs.ValueTestLemmas.{accepts-Accepts}
use Rattle.clap.specs.declared.builder.value_parser.Reading.TheVariants.{AsWritten}
use Rattle.clap.specs.declared.builder.value_parser.ValueParser.TheVariants.{Unsigned}
use Rattle.clap.specs.declared.error.kind.ErrorKind.{ErrorKind}
use Rattle.clap.specs.declared.error.kind.ErrorKind.TheVariants.{ArgumentConflict, InvalidValue, TooManyValues, WrongNumberOfValues}
use Rattle.clap.specs.declared.parser.matches.ValueSource.{ValueSource}
use Rattle.clap.specs.declared.parser.matches.ValueSource.TheVariants.{CommandLine, DefaultValue}
use Rattle.cell_words.specs.Words.{HasNumber, HasNumbers, HaveNumbers, max_tries, max_turns, number_flag, program, run_command}

-- neither of two steps fails
neither : (a b : Kinds) → or_else a b ≡ [] → (a ≡ []) × (b ≡ [])
neither [] b e = (refl, e)
neither (k ∷ ks) b e = cc

found_step : {X : Type 0} (P : X → Type 0) (test : X → Bool) (y x : X) (rest : Option X) (b : Bool) → test y ≡ b → P y → (rest ≡ Some x → P x × (test x ≡ true)) → cond b (Some y) rest ≡ Some x
    → P x × (test x ≡ true)
found_step P test y x rest true t p later e =
    let is : y ≡ x = cc in
    (subst P is p, subst (λ z. test z ≡ true) is t)
found_step P test y x rest false t p later e = later e

-- what is found has what all have
found_one : {X : Type 0} (P : X → Type 0) (test : X → Bool) (xs : List X) (x : X) → AllByRecursion P xs → find test xs ≡ Some x → P x × (test x ≡ true)
found_one P test [] x all e = cc
found_one P test (y ∷ ys) x all e = found_step P test y x (find test ys) (test y) refl all.0 (found_one P test ys x all.1) e

-- ---- rows

-- the first value is a number within the bounds of the row's flag, and is read as it is written
pub record HasNumberFirst (r : Row) : Type 0 where
  pub text : Text
  pub others : List Text
  pub values : r.values ≡ text ∷ others
  pub reading : r.reading ≡ AsWritten
  pub turns : bytes_eq r.id (codes "turns") ≡ true → IsUnsignedIn 1 max_turns text
  pub tries : bytes_eq r.id (codes "tries") ≡ true → IsUnsignedIn 1 max_tries text

abbrev AreNumbers : List Row → Type 0
AreNumbers = AllByRecursion HasNumberFirst

both_lists : (xs ys : List Row) → AreNumbers xs → AreNumbers ys → AreNumbers (xs ++ ys)
both_lists [] ys a b = b
both_lists (x ∷ xs) ys a b = (a.0, both_lists xs ys a.1 b)

row_step : (b : Bool) (r : Row) (changed rs later : List Row) → HasNumberFirst r → AreNumbers changed → AreNumbers rs → AreNumbers later → AreNumbers (cond b (changed ++ rs) (r ∷ later))
row_step true r changed rs later one c a l = both_lists changed rs c a
row_step false r changed rs later one c a l = (one, l)

row_changed : (id : Text) (change : Row → List Row) (missing rows : List Row) → AreNumbers missing → ((r : Row) → HasNumberFirst r → AreNumbers (change r)) → AreNumbers rows
    → AreNumbers (at_row id change missing rows)
row_changed id change missing [] m f a = m
row_changed id change missing (r ∷ rs) m f a = row_step (bytes_eq r.id id) r (change r) rs (at_row id change missing rs) a.0 (f r a.0) a.1 (row_changed id change missing rs m f a.1)

-- ---- going over the words keeps them, if each argument does

abbrev UsesWell : Bool → Rule → Type 0
UsesWell again a = (values : List Text) (rows : List Row) → use_fault again a values rows ≡ [] → AreNumbers rows → AreNumbers (used a values rows)

abbrev DefaultsWell : Rule → Type 0
DefaultsWell a = (rows : List Row) → default_fault rows a ≡ [] → AreNumbers rows → AreNumbers (with_default rows a)

module _ (s : Shape) (uses : AllByRecursion (UsesWell s.args_override_self) s.rules) where
  abbrev c : List Rule
  c = s.rules

  abbrev again : Bool
  again = s.args_override_self

  abbrev Uses : Option Rule → Type 0
  Uses o = (a : Rule) → o ≡ Some a → UsesWell again a

  found_uses : (test : Rule → Bool) → Uses (find test c)
  found_uses test a e = (found_one (UsesWell again) test c a uses e).0

  uses_by_id : (o : Option Rule) (values : List Text) (rows : List Row) → Uses o → option_map_or (λ a. use_fault again a values rows) o [] ≡ [] → AreNumbers rows → AreNumbers (used_by_id o values rows)
  uses_by_id None values rows u e n = n
  uses_by_id (Some a) values rows u e n = u a refl values rows e n

  settles_by : (o : Option (Text × List Text)) (rows : List Row) → option_map_or (λ p. option_map_or (λ a. use_fault again a p.1 rows) (arg_by_id c p.0) []) o [] ≡ [] → AreNumbers rows
      → AreNumbers (settled_rows c o rows)
  settles_by None rows e n = n
  settles_by (Some p) rows e n = uses_by_id (arg_by_id c p.0) p.1 rows (found_uses (λ a. bytes_eq a.id p.0)) e n

  settles : (h : Held) → settle_fault c again h ≡ [] → AreNumbers h.rows → AreNumbers (settled c h).rows
  settles h e n = settles_by h.pending h.rows e n

  reacts : (a : Rule) (values : List Text) (h : Held) → UsesWell again a → react_fault c again a values h ≡ [] → AreNumbers h.rows → AreNumbers (reacted c a values h).rows
  reacts a values h u e n =
      let both = neither _ _ e in
      u values (settled c h).rows both.1 (settles h both.0 n)

  options : (a : Rule) (v : Option Text) (h : Held) → UsesWell again a → option_fault c again a v h ≡ [] → AreNumbers h.rows → AreNumbers (option_met c a v h).0.rows
  options a None h u e n = settles h e n
  options a (Some v) h u e n = reacts a (v ∷ []) h u e n

  flags : (a : Rule) (v : Option Text) (h : Held) → UsesWell again a → cond (is_some v) (TooManyValues ∷ []) (react_fault c again a [] h) ≡ [] → AreNumbers h.rows → AreNumbers (flag_met c a v h).0.rows
  flags a None h u e n = reacts a [] h u e n
  flags a (Some v) h u e n = n

  longs_as : (b : Bool) (a : Rule) (v : Option Text) (h : Held) → UsesWell again a
      → cond b (option_fault c again a v h) (cond (is_some v) (TooManyValues ∷ []) (react_fault c again a [] h)) ≡ [] → AreNumbers h.rows
      → AreNumbers (cond b (option_met c a v h) (flag_met c a v h)).0.rows
  longs_as true a v h u e n = options a v h u e n
  longs_as false a v h u e n = flags a v h u e n

  longs : (o : Option Rule) (v : Option Text) (h : Held) → Uses o → long_fault c again o v h ≡ [] → AreNumbers h.rows → AreNumbers (long_met c o v h).0.rows
  longs None v h u e n = n
  longs (Some a) v h u e n = longs_as (takes_values a) a v h (u a refl) e n

  -- what follows keeps them
  abbrev GoesOn : (Held → Kinds) → (Held → Held × Outcome) → Type 0
  GoesOn fault later = (h : Held) → fault h ≡ [] → AreNumbers h.rows → AreNumbers (later h).0.rows

  shorts_as : (b : Bool) (a : Rule) (v : Option Text) (h : Held) (fault : Held → Kinds) (later : Held → Held × Outcome) → GoesOn fault later → UsesWell again a
      → cond b (option_fault c again a v h) (or_else (react_fault c again a [] h) (fault (reacted c a [] h))) ≡ [] → AreNumbers h.rows
      → AreNumbers (cond b (option_met c a v h) (later (reacted c a [] h))).0.rows
  shorts_as true a v h fault later f u e n = options a v h u e n
  shorts_as false a v h fault later f u e n =
      let both = neither (react_fault c again a [] h) _ e in
      f (reacted c a [] h) both.1 (reacts a [] h u both.0 n)

  shorts : (o : Option Rule) (rest : Text) (h : Held) (fault : Held → Kinds) (later : Held → Held × Outcome) → GoesOn fault later → Uses o → short_fault c again o rest h fault ≡ [] → AreNumbers h.rows
      → AreNumbers (short_met c o rest h later).0.rows
  shorts None rest h fault later f u e n = n
  shorts (Some a) rest h fault later f u e n = shorts_as (takes_values a) a _ h fault later f (u a refl) e n

  bundle_goes : (o : Option ℕ) (text : Text) (skip : ℕ) (so_far : Outcome) (h : Held) (fault : Text → ℕ → Held → Kinds) (later : Text → ℕ → Outcome → Held → Held × Outcome)
      → ((t : Text) (k : ℕ) (x : Outcome) → GoesOn (fault t k) (later t k x)) → bundle_step_fault c again o text skip h fault ≡ [] → AreNumbers h.rows
      → AreNumbers (bundle_step c o text skip so_far h later).0.rows
  bundle_goes None text skip so_far h fault later f e n = n
  bundle_goes (Some x) text zero so_far h fault later f e n = shorts (arg_by_short c x) _ h (fault _ 0) (later _ 0 done) (f _ 0 done) (found_uses _) e n
  bundle_goes (Some x) text (suc skip) so_far h fault later f e n = f _ skip so_far h e n

  bundles : (k : ℕ) (text : Text) (skip : ℕ) (so_far : Outcome) (h : Held) → flags_fault c again k text skip h ≡ [] → AreNumbers h.rows → AreNumbers (bundle_met c k text skip so_far h).0.rows
  unfolding flags_fault bundle_met
  bundles zero text skip so_far h e n = n
  bundles (suc k) text skip so_far h e n =
      bundle_goes (slice_get (chars text) 0) text skip so_far h (flags_fault c again k) (bundle_met c k) (λ t j x. bundles k t j x) e n

  option_rows : (o : Option Rule) (id word : Text) (h : Held) → (option_word o id word h).0.rows ≡ h.rows
  option_rows None id word h = refl
  option_rows (Some a) id word h = refl

  plain_rows : (waiting : Waiting) (word : Text) (h : Held) → (plain_word c waiting word h).0.rows ≡ h.rows
  plain_rows (option id) word h = option_rows (arg_by_id c id) id word h
  plain_rows other word h = refl

  flag_rows : (waiting : Waiting) (word : Text) (h : Held) (x : Outcome) → (after_flag c waiting word h x).0.rows ≡ h.rows
  flag_rows waiting word h done = refl
  flag_rows waiting word h (waits id) = refl
  flag_rows waiting word h other = plain_rows waiting word h

  short_words : (o : Option Text) (waiting : Waiting) (word : Text) (h : Held) → option_map_or (λ t. bundle_fault c again t h) o [] ≡ [] → AreNumbers h.rows → AreNumbers (short_or_plain c waiting word o h).0.rows
  short_words None waiting word h e n = subst AreNumbers (sym (plain_rows waiting word h)) n
  short_words (Some t) waiting word h e n =
      let met = bundle_met c (length t) t h.skip plain (record h { skip = 0 }) in
      subst AreNumbers (sym (flag_rows waiting word met.0 met.1)) (bundles (length t) t h.skip plain (record h { skip = 0 }) e n)

  flag_words : (o : Option (Text × Option Text)) (waiting : Waiting) (word : Text) (h : Held) → flag_word_fault c again o word h ≡ [] → AreNumbers h.rows → AreNumbers (long_or_other c waiting word o h).0.rows
  flag_words (Some p) waiting word h e n =
      let met = long_met c (arg_by_long c p.0) p.1 h in
      subst AreNumbers (sym (flag_rows waiting word met.0 met.1)) (longs (arg_by_long c p.0) p.1 h (found_uses _) e n)
  flag_words None waiting word h e n = short_words (short_of word) waiting word h e n

  other_as : (b : Bool) (waiting : Waiting) (position : ℕ) (word : Text) (h : Held) → cond b [] (flag_word_fault c again (long_of word) word h) ≡ [] → AreNumbers h.rows
      → AreNumbers (cond b (h, trailing position) (long_or_other c waiting word (long_of word) h)).0.rows
  other_as true waiting position word h e n = n
  other_as false waiting position word h e n = flag_words (long_of word) waiting word h e n

  others : (o : Option Text) (waiting : Waiting) (position : ℕ) (word : Text) (h : Held) → other_fault s o word h ≡ [] → AreNumbers h.rows → AreNumbers (subcommand_or_other c o waiting position word h).0.rows
  others (Some name) waiting position word h e n = n
  others None waiting position word h e n = other_as (bytes_eq word (45 ∷ 45 ∷ [])) waiting position word h e n

  words_met : (names : Names) (is_trailing : Bool) (waiting : Waiting) (position : ℕ) (word : Text) (h : Held) → word_fault s names is_trailing waiting word h ≡ [] → AreNumbers h.rows
      → AreNumbers (word_met c names is_trailing waiting position word h).0.rows
  words_met names true waiting position word h e n = n
  words_met names false waiting position word h e n = others _ waiting position word h e n

  positional_as : (b : Bool) (h : Held) → cond b [] (settle_fault c again h) ≡ [] → AreNumbers h.rows → AreNumbers (cond b h (settled c h)).rows
  positional_as true h e n = n
  positional_as false h e n = settles h e n

  positionals : (o : Option Rule) (word : Text) (w : Walk) (h : Held) → option_map_or (λ a. positional_fault c again a h) o (stray_fault s) ≡ [] → AreNumbers h.rows → AreNumbers (to_positional c o word w h).held.rows
  positionals None word w h e n = n
  positionals (Some a) word w h e n = positional_as _ h e n

  steps : (w : Walk) (word : Text) (h : Held) (x : Step) → step_fault s w.position h x ≡ [] → AreNumbers h.rows → AreNumbers (after_step c word w h x).held.rows
  steps w word h value e n = positionals (arg_by_index c w.position) word w h e n
  steps w word h other e n = n

  turns_from : (names : Names) (o : Option (Text × List Text)) (w : Walk) (word : Text)
      → (let met = word_met c names w.is_trailing w.waiting w.position word w.held in
      cond (is_some o) [] (or_else (word_fault s names w.is_trailing w.waiting word w.held) (step_fault s w.position met.0 met.1)) ≡ [])
      → AreNumbers w.held.rows → AreNumbers (walked_from c names o w word).held.rows
  turns_from names (Some p) w word e n = n
  turns_from names None w word e n =
      let met = word_met c names w.is_trailing w.waiting w.position word w.held in
      let both = neither (word_fault s names w.is_trailing w.waiting word w.held) _ e in
      steps w word met.0 met.1 both.1 (words_met names w.is_trailing w.waiting w.position word w.held both.0 n)

  turns : (names : Names) (w : Walk) (word : Text) → turn_fault s names w word ≡ [] → AreNumbers w.held.rows → AreNumbers (walked c names w word).held.rows
  unfolding walked
  turns names w word e n = turns_from names w.stopped w word e n

  walks : (names : Names) (w : Walk) (words : List Text) → walk_fault s names w words ≡ [] → AreNumbers w.held.rows → AreNumbers (fold (walked c names) w words).held.rows
  unfolding walk_fault
  walks names w [] e n = n
  walks names w (word ∷ rest) e n =
      let both = neither (turn_fault s names w word) _ e in
      walks names (walked c names w word) rest both.1 (turns names w word both.0 n)

-- ---- defaults

defaults_kept : (rules : List Rule) (rows : List Row) → AllByRecursion DefaultsWell rules → defaults_fault rows rules ≡ [] → AreNumbers rows → AreNumbers (fold with_default rows rules)
unfolding defaults_fault
defaults_kept [] rows d e n = n
defaults_kept (a ∷ rules) rows d e n =
    let both = neither (default_fault rows a) _ e in
    defaults_kept rules (with_default rows a) d.1 both.1 (d.0 rows both.0 n)

-- ---- which rows are there

or_later : (a b c : Bool) → (b ≡ true → c ≡ true) → (a || b) ≡ true → (a || c) ≡ true
or_later true b c f h = refl
or_later false b c f h = f h

has_step : (b : Bool) (id : Text) (r r' : Row) (rs later : List Row) → r'.id ≡ r.id → (has_row id rs ≡ true → has_row id later ≡ true) → has_row id (r ∷ rs) ≡ true
    → has_row id (cond b ((r' ∷ []) ++ rs) (r ∷ later)) ≡ true
has_step true id r r' rs later same f e = rw same e
has_step false id r r' rs later same f e = or_later (bytes_eq r.id id) _ _ f e

-- a row that is there stays
has_kept : (id other : Text) (r0 : Row) (change : Row → Row) (rows : List Row) → ((r : Row) → (change r).id ≡ r.id) → has_row id rows ≡ true
    → has_row id (at_row other (λ r. change r ∷ []) (r0 ∷ []) rows) ≡ true
has_kept id other r0 change [] same e = cc
has_kept id other r0 change (r ∷ rs) same e =
    has_step (bytes_eq r.id other) id r (change r) rs (at_row other (λ x. change x ∷ []) (r0 ∷ []) rs) (same r) (has_kept id other r0 change rs same) e

-- the row that is changed or made is there
has_step_made : (b : Bool) (id : Text) (r r' : Row) (rs later : List Row) → bytes_eq r.id id ≡ b → r'.id ≡ r.id → has_row id later ≡ true → has_row id (cond b ((r' ∷ []) ++ rs) (r ∷ later)) ≡ true
has_step_made true id r r' rs later is same e = rw (same, is) refl
has_step_made false id r r' rs later is same e = rw (is, e) refl

has_made : (id : Text) (r0 : Row) (change : Row → Row) (rows : List Row) → bytes_eq r0.id id ≡ true → ((r : Row) → (change r).id ≡ r.id) → has_row id (at_row id (λ r. change r ∷ []) (r0 ∷ []) rows) ≡ true
has_made id r0 change [] own same = rw own refl
has_made id r0 change (r ∷ rs) own same =
    has_step_made (bytes_eq r.id id) id r (change r) rs (at_row id (λ x. change x ∷ []) (r0 ∷ []) rs) refl (same r) (has_made id r0 change rs own same)

has_found : (id : Text) (rows : List Row) → has_row id rows ≡ true → (r : Row) × (find (λ x. bytes_eq x.id id) rows ≡ Some r)
has_found id [] e = cc
has_found id (r ∷ rs) e = go (bytes_eq r.id id) (has_found id rs) e
  where
    go : (b : Bool) → (has_row id rs ≡ true → (x : Row) × (find (λ y. bytes_eq y.id id) rs ≡ Some x)) → (b || has_row id rs) ≡ true
        → (x : Row) × (cond b (Some r) (find (λ y. bytes_eq y.id id) rs) ≡ Some x)
    go true f h = (r, refl)
    go false f h = f h

-- ---- the flags of `run`

-- what a flag's number has to be, by the flag's name
abbrev IsFor : Text → ℕ → Type 0
IsFor name most =
    (text : Text) → IsUnsignedIn 1 most text → (bytes_eq name (codes "turns") ≡ true → IsUnsignedIn 1 max_turns text) × (bytes_eq name (codes "tries") ≡ true → IsUnsignedIn 1 max_tries text)

passed : (b : Bool) (k : ErrorKind) → cond b [] (k ∷ []) ≡ [] → b ≡ true
passed true k e = refl
passed false k e = cc

-- a row that a use or a default made
made_row : (name text : Text) (most : ℕ) (source : ValueSource) → IsFor name most → IsUnsignedIn 1 most text → AreNumbers (record { id = name; values = text ∷ []; count = None; source = Some source; reading = AsWritten } ∷ [])
made_row name text most source is n =
    (record { text = text; others = []; values = refl; reading = refl; turns = (is text n).0; tries = (is text n).1 }, tt)

-- more values leave the first one
more_row : (source : ValueSource) (values : List Text) (r : Row) → HasNumberFirst r → AreNumbers (more_values source values r)
more_row source values r n =
    (record { text = n.text; others = n.others ++ values; values = ap (λ vs. vs ++ values) n.values; reading = n.reading; turns = n.turns; tries = n.tries }, tt)

without_row : (id : Text) (rows : List Row) → AreNumbers rows → AreNumbers (at_row id (λ r. []) [] rows)
without_row id rows n = row_changed id (λ r. []) [] rows tt (λ r h. tt) n

given_row : (name text : Text) (most : ℕ) (source : ValueSource) (rows : List Row) → IsFor name most → accepts false (Unsigned 1 most) text ≡ true → AreNumbers rows
    → AreNumbers (with_values name AsWritten source (text ∷ []) rows)
given_row name text most source rows is a n =
    row_changed name (more_values source (text ∷ [])) _ rows (made_row name text most source is (accepts-Accepts false (Unsigned 1 most) text a)) (more_row source (text ∷ [])) n

one_value : (n : ℕ) → range_kinds 1 1 n ≡ [] → 1 ≡ n
one_value n e = eqb-true 1 n (go (n == 0) (1 == n) e)
  where
    go : (a b : Bool) → cond a (InvalidValue ∷ []) (cond b [] (WrongNumberOfValues ∷ [])) ≡ [] → b ≡ true
    go true b h = cc
    go false b h = passed b WrongNumberOfValues h

flag_uses : (name default : Text) (most : ℕ) → IsFor name most → UsesWell false (filled (number_flag name most default))
flag_uses name default most is [] rows e n = cc
flag_uses name default most is (v ∷ []) rows e n =
    let values = (neither (cond (has_row name rows && true) (ArgumentConflict ∷ []) []) _ e).1 in
    given_row name v most CommandLine (at_row name (λ r. []) [] rows) is (passed _ _ (neither _ [] values).0) (without_row name rows n)
flag_uses name default most is (v ∷ w ∷ vs) rows e n =
    let one = one_value (length (v ∷ w ∷ vs)) (neither (range_kinds 1 1 (length (v ∷ w ∷ vs))) _ e).0 in
    absurd (omega arith)

flag_defaults : (name default : Text) (most : ℕ) → IsFor name most → DefaultsWell (filled (number_flag name most default))
flag_defaults name default most is rows e n = go (has_row name rows) e
  where
    go : (b : Bool) → cond (b || false) [] (values_fault (filled (number_flag name most default)) (default ∷ [])) ≡ []
        → AreNumbers (cond b rows (with_values name AsWritten DefaultValue (default ∷ []) rows))
    go true h = n
    go false h = given_row name default most DefaultValue rows is (passed _ _ (neither _ [] h).0) n

-- help is asked for, so it isn't used
help_uses : UsesWell false (filled help_rule)
help_uses [] rows e n = cc
help_uses (v ∷ vs) rows e n = n

help_same : (rows : List Row) → with_default rows (filled help_rule) ≡ rows
help_same rows = go (has_row (codes "help") rows)
  where
    go : (b : Bool) → cond b rows rows ≡ rows
    go true = refl
    go false = refl

help_defaults : DefaultsWell (filled help_rule)
help_defaults rows e n = rw help_same n

-- ---- the numbers at the end

both_rows : (rows : List Row) → AreNumbers rows → has_row (codes "turns") rows ≡ true → has_row (codes "tries") rows ≡ true
    → HasNumber (codes "turns") max_turns rows × HasNumber (codes "tries") max_tries rows
both_rows rows n a b =
    let turns = has_found (codes "turns") rows a in
    let tries = has_found (codes "tries") rows b in
    let first = found_one HasNumberFirst (λ r. bytes_eq r.id (codes "turns")) rows turns.0 n turns.1 in
    let second = found_one HasNumberFirst (λ r. bytes_eq r.id (codes "tries")) rows tries.0 n tries.1 in
    ((first.0.text, number_read (codes "turns") rows turns.0 first.0 turns.1, first.0.turns first.1), (second.0.text, number_read (codes "tries") rows tries.0 second.0 tries.1, second.0.tries second.1))
  where
    number_read : (flag : Text) (rows : List Row) (r : Row) (n : HasNumberFirst r) → find (λ x. bytes_eq x.id flag) rows ≡ Some r → one_of flag rows ≡ Some n.text
    number_read flag rows r n e = rw (e, n.values, n.reading) refl

-- a row with another value, by default
abbrev longer : Text → Row → Row
longer text r = record r { values = r.values ++ text ∷ []; source = Some (stronger r.source DefaultValue) }

abbrev by_default : Text → Text → Row
by_default name text = record { id = name; values = text ∷ []; count = None; source = Some DefaultValue; reading = AsWritten }

default_made : (name default : Text) (most : ℕ) (rows : List Row) → bytes_eq name name ≡ true → has_row name (with_default rows (filled (number_flag name most default))) ≡ true
default_made name default most rows same = go (has_row name rows) refl
  where
    go : (b : Bool) → has_row name rows ≡ b → has_row name (cond b rows (at_row name (λ r. longer default r ∷ []) (by_default name default ∷ []) rows)) ≡ true
    go true e = e
    go false e = has_made name (by_default name default) (longer default) rows same (λ r. refl)

default_keeps : (id name default : Text) (most : ℕ) (rows : List Row) → has_row id rows ≡ true → has_row id (with_default rows (filled (number_flag name most default))) ≡ true
default_keeps id name default most rows e = go (has_row name rows)
  where
    go : (b : Bool) → has_row id (cond b rows (at_row name (λ r. longer default r ∷ []) (by_default name default ∷ []) rows)) ≡ true
    go true = e
    go false = has_kept id name (by_default name default) (longer default) rows (λ r. refl) e

abbrev turns_flag : Rule
turns_flag = filled (number_flag (codes "turns") max_turns (codes "1000"))

abbrev tries_flag : Rule
tries_flag = filled (number_flag (codes "tries") max_tries (codes "8"))

abbrev run_rules : List Rule
run_rules = turns_flag ∷ tries_flag ∷ filled help_rule ∷ []

turns_there : (rows : List Row) → has_row (codes "turns") (fold with_default rows run_rules) ≡ true
turns_there rows = rw help_same (default_keeps (codes "turns") (codes "tries") (codes "8") max_tries (with_default rows turns_flag) (default_made (codes "turns") (codes "1000") max_turns rows refl))

tries_there : (rows : List Row) → has_row (codes "tries") (fold with_default rows run_rules) ≡ true
tries_there rows = rw help_same (default_made (codes "tries") (codes "8") max_tries (with_default rows turns_flag) refl)

for_turns : IsFor (codes "turns") max_turns
for_turns text n = (λ e. n, λ e. cc)

for_tries : IsFor (codes "tries") max_tries
for_tries text n = (λ e. cc, λ e. n)

-- the word `run` as it is built
abbrev run_shape : Shape
run_shape = built_leaf (inherited (built program).top run_command.top)

uses_by_rules : AllByRecursion (UsesWell false) run_rules
uses_by_rules = (flag_uses (codes "turns") (codes "1000") max_turns for_turns, (flag_uses (codes "tries") (codes "8") max_tries for_tries, (help_uses, tt)))

defaults_by_rules : AllByRecursion DefaultsWell run_rules
defaults_by_rules = (flag_defaults (codes "turns") (codes "1000") max_turns for_turns, (flag_defaults (codes "tries") (codes "8") max_tries for_tries, (help_defaults, tt)))

-- a command with the flags of `run`, whatever its subcommands
module _ (s : Shape) (names : Names) (has_rules : s.rules ≡ run_rules) (no_override : s.args_override_self ≡ false) where
  run_uses : AllByRecursion (UsesWell s.args_override_self) s.rules
  run_uses = rw (no_override, has_rules) uses_by_rules

  run_numbers : (words : List Text) (is_entered : Bool) (below : Kinds) → level_fault s names nothing_held words is_entered below ≡ [] → HaveNumbers (rows_after s.rules names words)
  run_numbers words is_entered below e =
      let held = (walk s.rules names nothing_held words).held in
      let steps = neither (walk_fault s names (walk_from nothing_held) words) _ e in
      let inner = neither below _ steps.1 in
      let ends = neither (settle_fault s.rules s.args_override_self held) _ inner.1 in
      let defaults = neither (defaults_fault (settled s.rules held).rows s.rules) _ ends.1 in
      let walked = walks s run_uses names (walk_from nothing_held) words steps.0 tt in
      let settled_well = settles s run_uses held ends.0 walked in
      let given : AllByRecursion DefaultsWell s.rules = rw has_rules defaults_by_rules in
      let rows = (settled s.rules held).rows in
      both_rows _ (defaults_kept s.rules rows given defaults.0 settled_well)
      (subst (λ rules. has_row (codes "turns") (fold with_default rows rules) ≡ true) (sym has_rules) (turns_there rows))
      (subst (λ rules. has_row (codes "tries") (fold with_default rows rules) ≡ true) (sym has_rules) (tries_there rows))

-- ---- of all words

abbrev IsReadWell : Shape → Type 0
IsReadWell s = (words : List Text) → level_fault s [] nothing_held words false [] ≡ [] → HasNumbers (Some (rows_at s words))

all_read_well : AllByRecursion IsReadWell (built program).subs
all_read_well = (λ words e is. cc, (λ words e is. cc, (λ words e is. run_numbers run_shape [] refl refl words false [] e, (λ words e is. cc, tt))))

found_well : (test : Shape → Bool) (words : List Text) (o : Option Shape) → find test (built program).subs ≡ o → option_map_or (λ s. level_fault s [] nothing_held words false []) o [] ≡ []
    → HasNumbers (option_map (λ s. rows_at s words) o)
found_well test words None is e = tt
found_well test words (Some s) is e = (found_one IsReadWell test (built program).subs s all_read_well is).0 words e

entered_well : (stop : Option (Text × List Text)) → entered_fault (built program) stop ≡ [] → HasNumbers (entered (built program) stop)
entered_well None e = tt
entered_well (Some p) e = found_well (λ s. answers_to p.0 (label_of s)) p.1 _ refl e

-- if `clap` accepts flags of `run` after a program's name, they have their numbers
pub flags_have_numbers : (words : List Text) → fault_of run_command words ≡ [] → HaveNumbers (matches_of run_command words)
flags_have_numbers words e =
    let a = built run_command in
    run_numbers a.top (names_of a) refl refl (argument_words a words) _ _ e

-- if `clap` accepts the words and finds the word `run`, its flags have their numbers
pub run_has_numbers : (words : List Text) → fault_of program words ≡ [] → HasNumbers (subcommand_of program words)
run_has_numbers words e =
    let a = built program in
    let given = argument_words a words in
    let stop = stop_after a.top.rules (names_of a) given in
    let steps = neither (walk_fault a.top (names_of a) (walk_from nothing_held) given) _ e in
    entered_well stop (neither (entered_fault a stop) _ steps.1).0
