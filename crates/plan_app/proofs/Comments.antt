-- The script in what a run prints comes after its comments.
use Rattle.std.proofs.Common.{◌≡◌, ◌<◌, ◌≤◌, ◌+◌, ◌-◌, ◌/◌, ◌%◌, ◌∙◌, ◌⊎◌, ◌&&◌, ◌==◌, ℕ, zero, suc, Bool, true, false, not, nat_eq, List, [], ◌∷◌, ◌++◌, codes, Option, Some, None, count_by, flat_map, get_or, inl, inr, length, ap, sym, refl, arith}
use Rattle.std.specs.Prelude.{nat_lt, if◌then◌else◌}
use Rattle.std.specs.Fmt.{decimal, digit_glyph, digits, digits_onto}
use Rattle.std.specs.List.{list_all, range_with_len}
use Rattle.std.proofs.lemmas.Bool.{and_from, and_parts, cases_lt, eqb-true, ne_eqb}
use Rattle.std.proofs.lemmas.Bool.Decides.{nat_tests}
use Rattle.std.proofs.lemmas.List.{get_or_append_left, get_or-append-add, length-append}
use Rattle.plan_types.specs.declared.answer.Event.{Event}
use Rattle.plan_types.specs.declared.answer.Refusal.{Refusal}
use Rattle.plan_types.specs.declared.answer.Refusal.TheVariants as refusal
use Rattle.plan_types.specs.declared.posture.Posture.{Posture}
use Rattle.plan_types.specs.declared.posture.Posture.TheVariants as posture
use Rattle.plan_text.specs.Answers.{owner_word, posture_word, refusal_text}
use Rattle.plan_text.specs.HistoryLaws.{AreToldApart}
use Rattle.plan_text.specs.Named.{Named}
use Rattle.plan_text.specs.Names.{Text, is_name, is_name_byte, name_in}
use Rattle.plan_app.specs.RunTexts.{comments_of, head_line, history_line, is_done_by, is_refused_to, machine_line, machine_lines, stop_line, word_words}
use Rattle.plan_app.specs.Words.{counted, ending}

-- ---- texts without line feeds

abbrev pub has_no_feed : Text → Bool
has_no_feed text = list_all (λ b. not (nat_eq b 10)) text

both : (a b : Text) → has_no_feed a ≡ true → has_no_feed b ≡ true → has_no_feed (a ++ b) ≡ true
both [] b e f = f
both (x ∷ a) b e f =
    let h = and_parts (not (nat_eq x 10)) (has_no_feed a) e in
    and_from (not (nat_eq x 10)) (has_no_feed (a ++ b)) h.0 (both a b h.1 f)

name_byte : (byte : ℕ) → is_name_byte byte ≡ true → not (nat_eq byte 10) ≡ true
name_byte byte is = by (nat_eq byte 10) refl
  where
    by : (b : Bool) → nat_eq byte 10 ≡ b → not (nat_eq byte 10) ≡ true
    by false e = rw e refl
    by true e =
        let same : byte ≡ 10 = eqb-true byte 10 e in
        let lie : true ≡ false = sym is ∙ ap is_name_byte same in
        absurd (cc)

name_bytes : (text : Text) → list_all is_name_byte text ≡ true → has_no_feed text ≡ true
name_bytes [] all = refl
name_bytes (b ∷ text) all =
    let h = and_parts (is_name_byte b) (list_all is_name_byte text) all in
    and_from (not (nat_eq b 10)) (has_no_feed text) (name_byte b h.0) (name_bytes text h.1)

name_feedless : (names : List Text) (number : ℕ) → list_all is_name names ≡ true → has_no_feed (name_in names number) ≡ true
name_feedless [] number all = refl
name_feedless (name ∷ names) zero all = name_bytes name (and_parts _ (list_all is_name_byte name) (and_parts (is_name name) (list_all is_name names) all).0).1
name_feedless (name ∷ names) (suc number) all = name_feedless names number (and_parts (is_name name) (list_all is_name names) all).1

glyph_feedless : (d : ℕ) → d < 10 → not (nat_eq (digit_glyph false d) 10) ≡ true
glyph_feedless d few =
    let small : nat_lt d 10 ≡ true = grind (arith, nat_tests) in
    let other : nat_eq (48 + d) 10 ≡ false = ne_eqb (48 + d) 10 (λ e. omega (arith, e)) in
    rw (small, other) refl

onto_feedless : (k n : ℕ) (acc : Text) → has_no_feed acc ≡ true → has_no_feed (digits_onto k 10 false n acc) ≡ true
onto_feedless zero n acc e = e
onto_feedless (suc k) n acc e = by (n / 10 == 0) refl (onto_feedless k (n / 10) (digit_glyph false (n % 10) ∷ acc) more)
  where
    more : has_no_feed (digit_glyph false (n % 10) ∷ acc) ≡ true
    more = and_from (not (nat_eq (digit_glyph false (n % 10)) 10)) (has_no_feed acc) (glyph_feedless (n % 10) (omega arith)) e

    by : (b : Bool) → (n / 10 == 0) ≡ b → has_no_feed (digits_onto k 10 false (n / 10) (digit_glyph false (n % 10) ∷ acc)) ≡ true
        → has_no_feed (digits_onto (suc k) 10 false n acc) ≡ true
    by true is rest = rw is more
    by false is rest = rw is rest

decimal_feedless : (n : ℕ) → has_no_feed (decimal n) ≡ true
unfolding digits
decimal_feedless n = onto_feedless 64 n [] refl

-- a text without a line feed
pub record Feedless (text : Text) : Type 0 where
  pub is : has_no_feed text ≡ true

word : (text : Text) → has_no_feed text ≡ true → Feedless text
word text e = record { is = e }

joins : {a b : Text} → Feedless a → Feedless b → Feedless (a ++ b)
joins {a} {b} x y = record { is = both a b x.is y.is }

ending_feedless : (n : ℕ) → Feedless (ending n)
ending_feedless n = by (nat_eq n 1)
  where
    by : (b : Bool) → Feedless (if b then [] else codes "s")
    by true = word [] refl
    by false = word (codes "s") refl

number : (n : ℕ) → Feedless (decimal n)
number n = word (decimal n) (decimal_feedless n)

counted_feedless : (n : ℕ) (kind : Text) → Feedless kind → Feedless (counted n kind)
counted_feedless n kind e = joins (number n) (joins (word (codes " ") refl) (joins e (ending_feedless n)))

posture_feedless : (p : Posture) → Feedless (posture_word p)
posture_feedless posture.Closed = word (codes "closed") refl
posture_feedless posture.Moving = word (codes "moving") refl
posture_feedless posture.OpenIn = word (codes "openin") refl
posture_feedless posture.OpenOut = word (codes "openout") refl

machine_feedless : (n : Named) (m : ℕ) → AreToldApart n → Feedless (name_in n.machines m)
machine_feedless n m k = word (name_in n.machines m) (name_feedless n.machines m k.spelled_machines)

owner_feedless : (n : Named) (o : Option ℕ) → AreToldApart n → Feedless (owner_word n o)
owner_feedless n None k = word (codes "free") refl
owner_feedless n (Some m) k = machine_feedless n m k

refusal_feedless : (n : Named) (r : Refusal) → AreToldApart n → Feedless (refusal_text n r)
refusal_feedless n refusal.NotParty k = word (codes "notparty") refl
refusal_feedless n (refusal.Held m) k = joins (word (codes "held ") refl) (machine_feedless n m k)
refusal_feedless n refusal.AlreadyMine k = word (codes "already") refl
refusal_feedless n (refusal.Shut p) k = joins (word (codes "shut ") refl) (posture_feedless p)
refusal_feedless n (refusal.NotOwner o) k = joins (word (codes "notowner ") refl) (owner_feedless n o k)
refusal_feedless n (refusal.PlateInZone z) k = joins (word (codes "platein ") refl) (word (name_in n.zones z) (name_feedless n.zones z k.spelled_zones))
refusal_feedless n refusal.NoPlate k = word (codes "noplate") refl
refusal_feedless n refusal.PlaceFull k = word (codes "placefull") refl
refusal_feedless n refusal.WrongWay k = word (codes "wrongway") refl
refusal_feedless n refusal.Jump k = word (codes "jump") refl
refusal_feedless n refusal.NoPose k = word (codes "nopose") refl
refusal_feedless n refusal.Worn k = word (codes "worn") refl
refusal_feedless n refusal.Stopped k = word (codes "stopped") refl
refusal_feedless n refusal.NotStopped k = word (codes "notstopped") refl

-- ---- lines

-- a text has a line feed at its end, and no other
abbrev pub is_line : Text → Bool
is_line [] = false
is_line (b ∷ []) = nat_eq b 10
is_line (b ∷ c ∷ rest) = not (nat_eq b 10) && is_line (c ∷ rest)

before_line : (a b : Text) → has_no_feed a ≡ true → is_line b ≡ true → is_line (a ++ b) ≡ true
before_line [] b e f = f
before_line (x ∷ []) [] e f = absurd (cc)
before_line (x ∷ []) (y ∷ b) e f =
    let h = and_parts (not (nat_eq x 10)) true e in
    and_from (not (nat_eq x 10)) (is_line (y ∷ b)) h.0 f
before_line (x ∷ y ∷ a) b e f =
    let h = and_parts (not (nat_eq x 10)) (has_no_feed (y ∷ a)) e in
    and_from (not (nat_eq x 10)) (is_line (y ∷ a ++ b)) h.0 (before_line (y ∷ a) b h.1 f)

pub record Line (text : Text) : Type 0 where
  pub is : is_line text ≡ true

last : (text : Text) → is_line text ≡ true → Line text
last text e = record { is = e }

after : {a b : Text} → Feedless a → Line b → Line (a ++ b)
after {a} {b} x y = record { is = before_line a b x.is y.is }

-- its only line feed is its last byte
last_feed : (line : Text) (i : ℕ) → is_line line ≡ true → i < length line → get_or line i 0 ≡ 10 → suc i ≡ length line
last_feed [] i e few at = absurd (omega arith)
last_feed (b ∷ []) zero e few at = refl
last_feed (b ∷ []) (suc i) e few at = absurd (omega arith)
last_feed (b ∷ c ∷ rest) zero e few at =
    let h = and_parts (not (nat_eq b 10)) (is_line (c ∷ rest)) e in
    let is : nat_eq b 10 ≡ true = ap (λ x. nat_eq x 10) at in
    let lie : false ≡ true = sym (ap not is) ∙ h.0 in
    absurd (cc)
last_feed (b ∷ c ∷ rest) (suc i) e few at =
    let h = and_parts (not (nat_eq b 10)) (is_line (c ∷ rest)) e in
    ap suc (last_feed (c ∷ rest) i h.1 (omega arith) at)

-- it has one
ends_so : (line : Text) → is_line line ≡ true → get_or line (length line - 1) 0 ≡ 10
ends_so [] e = absurd (cc)
ends_so (b ∷ []) e = eqb-true b 10 e
ends_so (b ∷ c ∷ rest) e =
    let h = and_parts (not (nat_eq b 10)) (is_line (c ∷ rest)) e in
    let at : length (b ∷ c ∷ rest) - 1 ≡ suc (length (c ∷ rest) - 1) = omega arith in
    ap (λ k. get_or (b ∷ c ∷ rest) k 0) at ∙ ends_so (c ∷ rest) h.1

-- ---- comments

-- each line of a text begins with a hash
abbrev pub BeginsWithHash : Text → ℕ → Type 0
BeginsWithHash text i = i < length text → (i ≡ 0) ⊎ (get_or text (i - 1) 0 ≡ 10) → get_or text i 0 ≡ 35

pub record AreComments (text : Text) : Type 0 where
  pub each : (i : ℕ) → BeginsWithHash text i

hash_first : (rest : Text) → is_line rest ≡ true → (i : ℕ) → BeginsWithHash (35 ∷ rest) i
hash_first rest e zero few at = refl
hash_first rest e (suc i) few (inl at) = absurd (omega arith)
hash_first rest e (suc zero) few (inr at) = (let lie : 35 ≡ 10 = at in absurd (omega (arith, lie)))
hash_first rest e (suc (suc i)) few (inr at) =
    let same : suc (suc i) - 1 ≡ suc i = omega arith in
    let there : get_or rest i 0 ≡ 10 = ap (λ k. get_or (35 ∷ rest) k 0) (sym same) ∙ at in
    let l = last_feed rest i e (omega (arith, few)) there in
    absurd (omega (arith, few, l))

one_comment : {rest : Text} → Line rest → AreComments (35 ∷ rest)
one_comment {rest} l = record { each = hash_first rest l.is }

hash_later : (a b : Text) → ((i : ℕ) → BeginsWithHash a i) → ((i : ℕ) → BeginsWithHash b i) → (i : ℕ) → BeginsWithHash (a ++ b) i
hash_later a b first second i few at = elim (cases_lt i (length a)) [
  | inl l ↦ get_or_append_left a b 0 i l ∙ first i l (earlier l at)
  | inr past ↦
      (let j : i ≡ length a + (i - length a) = omega arith in
      ap (λ k. get_or (a ++ b) k 0) j ∙ get_or-append-add a b (i - length a) 0
      ∙ second (i - length a) (omega (arith, few, past, length-append a b)) (later past at))
]
  where
    earlier : i < length a → (i ≡ 0) ⊎ (get_or (a ++ b) (i - 1) 0 ≡ 10) → (i ≡ 0) ⊎ (get_or a (i - 1) 0 ≡ 10)
    earlier l (inl e) = inl e
    earlier l (inr e) = inr (sym (get_or_append_left a b 0 (i - 1) (omega arith)) ∙ e)

    later : length a ≤ i → (i ≡ 0) ⊎ (get_or (a ++ b) (i - 1) 0 ≡ 10) → (i - length a ≡ 0) ⊎ (get_or b (i - length a - 1) 0 ≡ 10)
    later past (inl e) = inl (omega arith)
    later past (inr e) = elim (cases_lt (length a) i) [
      | inl more ↦
          (let before : i - 1 ≡ length a + (i - length a - 1) = omega arith in
          inr (sym (get_or-append-add a b (i - length a - 1) 0) ∙ ap (λ k. get_or (a ++ b) k 0) (sym before) ∙ e))
      | inr at_end ↦ inl (omega arith)
    ]

more_comments : {a b : Text} → AreComments a → AreComments b → AreComments (a ++ b)
more_comments {a} {b} x y = record { each = hash_later a b x.each y.each }

no_comments : AreComments []
no_comments = record { each = λ i few at. absurd (omega arith) }

head_comment : (turns machines : ℕ) → AreComments (head_line turns machines)
head_comment turns machines =
    one_comment (after (word (codes " ") refl) (after (counted_feedless machines (codes "machine") (word (codes "machine") refl))
    (after (word (codes " took ") refl) (after (counted_feedless turns (codes "turn") (word (codes "turn") refl)) (last (codes " each, in threads of their own, at one pace\n") refl)))))

machine_comment : (n : Named) (history : List Event) (m : ℕ) → AreToldApart n → AreComments (machine_line n history m)
machine_comment n history m k =
    one_comment (after (word (codes " ") refl) (after (machine_feedless n m k) (after (word (codes ": ") refl)
    (after (counted_feedless (count_by (is_done_by m) history) (codes "call") (word (codes "call") refl))
    (after (word (codes " done, ") refl) (after (number (count_by (is_refused_to m) history)) (last (codes " refused\n") refl)))))))

stop_comment : (n : Named) (stop : Option Refusal) (m : ℕ) → AreToldApart n → AreComments (stop_line n stop m)
stop_comment n None m k = no_comments
stop_comment n (Some r) m k =
    one_comment (after (joins (word (codes " ") refl) (joins (machine_feedless n m k) (word (codes ": stopped by ") refl)))
    (after (refusal_feedless n r k) (last (codes "\n") refl)))

on_feedless : (on : Option ℕ) → Feedless (word_words on)
on_feedless None = word [] refl
on_feedless (Some k) = joins (word (codes "word ") refl) (joins (number k) (word (codes ": ") refl))

calls_line : (on : Option ℕ) (calls : ℕ)
    → Line (codes " " ++ (word_words on ++ (codes "journals: one legal history of " ++ (counted calls (codes "call") ++ codes "\n"))))
calls_line on calls =
    after (word (codes " ") refl) (after (on_feedless on) (after (word (codes "journals: one legal history of ") refl)
    (after (counted_feedless calls (codes "call") (word (codes "call") refl)) (last (codes "\n") refl))))

pub history_comment : (on : Option ℕ) (calls : ℕ) → AreComments (history_line on calls)
history_comment on calls = one_comment (calls_line on calls)

each_comment : (f : ℕ → Text) (first count : ℕ) → ((m : ℕ) → AreComments (f m)) → AreComments (flat_map f (range_with_len first count))
each_comment f first zero all = no_comments
each_comment f first (suc count) all = more_comments (all first) (each_comment f (first + 1) count all)

pub all_comments : (n : Named) (turns : ℕ) (history : List Event) (stops : List (Option Refusal)) → AreToldApart n → AreComments (comments_of n turns history stops)
all_comments n turns history stops k =
    more_comments (head_comment turns n.plan.machines)
    (more_comments
    (each_comment (machine_lines n history stops) 0 n.plan.machines
    (λ m. more_comments (machine_comment n history m k) (stop_comment n (get_or stops m None) m k)))
    (history_comment None (length history)))

-- they end a line
last_of : (a b : Text) → 0 < length b → get_or b (length b - 1) 0 ≡ 10 → get_or (a ++ b) (length (a ++ b) - 1) 0 ≡ 10
last_of a b some e =
    let at : length (a ++ b) - 1 ≡ length a + (length b - 1) = omega (arith, some, length-append a b) in
    ap (λ k. get_or (a ++ b) k 0) at ∙ get_or-append-add a b (length b - 1) 0 ∙ e

count_ends : (on : Option ℕ) (calls : ℕ) → get_or (history_line on calls) (length (history_line on calls) - 1) 0 ≡ 10
count_ends on calls = ends_so (history_line on calls) (calls_line on calls).is

pub record End (text : Text) : Type 0 where
  pub some : 0 < length text
  pub feed : get_or text (length text - 1) 0 ≡ 10

pub history_end : (on : Option ℕ) (calls : ℕ) → End (history_line on calls)
history_end on calls = record { some = omega arith; feed = count_ends on calls }

pub comments_end : (n : Named) (turns : ℕ) (history : List Event) (stops : List (Option Refusal)) → End (comments_of n turns history stops)
comments_end n turns history stops =
    let a = head_line turns n.plan.machines in
    let b = flat_map (machine_lines n history stops) (range_with_len 0 n.plan.machines) in
    let l = history_line None (length history) in
    let some : 0 < length l = omega arith in
    record { some = omega arith; feed = last_of a (b ++ l) (omega (arith, some, length-append b l)) (last_of b l some (count_ends None (length history))) }
