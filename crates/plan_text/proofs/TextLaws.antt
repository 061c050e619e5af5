-- Which texts are names and words, of all.
use Rattle.std.proofs.Common.{◌≡◌, ◌≢◌, ◌∙◌, inl, inr, ℕ, Bool, true, false, ◌&&◌, ◌||◌, cond, List, [], ◌∷◌, ◌++◌, codes, length, nat_eq, nat_le, Some, None, option_map, refl, sym, ap, arith}
use Rattle.std.specs.Prelude.{slice_index}
use Rattle.std.specs.Bool.{then_some}
use Rattle.std.specs.Char.{is_ascii_digit, is_ascii_lowercase}
use Rattle.std.specs.List.{find, list_all}
use Rattle.std.specs.Option.{option_or}
use Rattle.std.specs.Str.{bytes_eq}
use Rattle.std.proofs.lemmas.Bool.{and_from, and_parts, and_right, cases_Bool, eq-eqb, eqb-true, false_from_ne_true, le-leb, leb-true, lt-leb, or_cases, or_left, or_right}
use Rattle.std.proofs.lemmas.List.Elements.{All-weaker}
use Rattle.std.proofs.lemmas.List.Folds.{list_all-append}
use Rattle.std.proofs.lemmas.List.Sums.{list_all-from_AllPass}
use Rattle.std.proofs.lemmas.Option.{same_Some}
use Rattle.std.proofs.lemmas.Slice.Eq.{bytes_eq-Decides}
use Rattle.plan_types.specs.Table.{machine_of}
use Rattle.plan_types.specs.declared.call.Call.TheVariants as call
use Rattle.plan_types.specs.declared.posture.Posture.{Posture}
use Rattle.plan_types.specs.declared.posture.Posture.TheVariants as posture
use Rattle.plan_types.proofs.lemmas.Below.{first_of}
use Rattle.plan_text.specs.Answers.{all_postures, posture_of, posture_word}
use Rattle.plan_text.specs.Calls.{all_verbs, call_of, pose_if, verb_of, verb_word}
use Rattle.plan_text.specs.Named.{Named}
use Rattle.plan_text.specs.Names.{Text, is_name_byte, is_reserved, name_in, number_if, number_in}
use Rattle.plan_text.specs.TextLaws.{FirstOwnPosesCount, FirstsHaveNumbers, IsLetter, IsOfNames, IsTaken, TextsAreNames, TextsAreTaken, UnknownNamesCallNothing, WordsAreOfOne}
use Rattle.plan_text.specs.declared.calls.Verb.{Verb}
use Rattle.plan_text.specs.declared.calls.Verb.TheVariants.{Claim, Give, Yield, Take, Release, Inquire, Pose, Advance}
use Rattle.plan_text.proofs.CallTexts.{passed}

-- ---- names

first_false : (a b c : Bool) → a ≡ false → (a && b && c) ≡ false
first_false a b c e = rw e refl

middle_false : (a b c : Bool) → b ≡ false → (a && b && c) ≡ false
middle_false true b c e = rw e refl
middle_false false b c e = refl

last_false : (a b c : Bool) → c ≡ false → (a && b && c) ≡ false
last_false true true c e = e
last_false true false c e = refl
last_false false b c e = refl

all_true : (a b c : Bool) → a ≡ true → b ≡ true → c ≡ true → (a && b && c) ≡ true
all_true a b c e f g = rw (e, f, g) refl

letter : (byte : ℕ) → is_ascii_lowercase byte ≡ true → IsLetter byte
letter byte e =
    let h = and_parts (nat_le 97 byte) (nat_le byte 122) e in
    (leb-true 97 byte h.0, leb-true byte 122 h.1)

is_letter : (byte : ℕ) → IsLetter byte → is_ascii_lowercase byte ≡ true
is_letter byte h = and_from (nat_le 97 byte) (nat_le byte 122) (le-leb 97 byte h.0) (le-leb byte 122 h.1)

of_names : (byte : ℕ) → is_name_byte byte ≡ true → IsOfNames byte
of_names byte e = elim (or_cases (is_ascii_lowercase byte || is_ascii_digit byte) (nat_eq byte 95) e) [
  | inl h ↦ elim (or_cases (is_ascii_lowercase byte) (is_ascii_digit byte) h) [
    | inl k ↦ inl (letter byte k)
    | inr k ↦ (let d = and_parts (nat_le 48 byte) (nat_le byte 57) k in inr (inl (leb-true 48 byte d.0, leb-true byte 57 d.1)))
  ]
  | inr h ↦ inr (inr (eqb-true byte 95 h))
]

is_of_names : (byte : ℕ) → IsOfNames byte → is_name_byte byte ≡ true
is_of_names byte (inl h) = or_left (is_ascii_lowercase byte || is_ascii_digit byte) (nat_eq byte 95) (or_left (is_ascii_lowercase byte) (is_ascii_digit byte) (is_letter byte h))
is_of_names byte (inr (inl h)) =
    or_left (is_ascii_lowercase byte || is_ascii_digit byte) (nat_eq byte 95)
    (or_right (is_ascii_lowercase byte) (is_ascii_digit byte) (and_from (nat_le 48 byte) (nat_le byte 57) (le-leb 48 byte h.0) (le-leb byte 57 h.1)))
is_of_names byte (inr (inr h)) = or_right (is_ascii_lowercase byte || is_ascii_digit byte) (nat_eq byte 95) (eq-eqb byte 95 h)

other_in : (before : Text) (byte : ℕ) (after : Text) → ¬ IsOfNames byte → list_all is_name_byte (before ++ byte ∷ after) ≡ false
other_in before byte after other =
    let no : is_name_byte byte ≡ false = false_from_ne_true (is_name_byte byte) (λ e. other (of_names byte e)) in
    list_all-append is_name_byte before (byte ∷ after)
    ∙ and_right (list_all is_name_byte before) (is_name_byte byte && list_all is_name_byte after) (rw no refl)

pub texts_are_names : (first : ℕ) (rest : Text) → TextsAreNames first rest
texts_are_names first rest = record {
  longer = λ l. middle_false _ _ _ (lt-leb (length (first ∷ rest)) 32 l);
  other_first = λ other. first_false _ _ _ (false_from_ne_true (is_ascii_lowercase first) (λ e. other (letter first e)));
  other_byte = λ before byte after other. last_false (is_ascii_lowercase (slice_index (before ++ byte ∷ after) 0)) (nat_le (length (before ++ byte ∷ after)) 32) _ (other_in before byte after other);
  others = λ h all few.
      all_true _ _ _ (is_letter first h) (le-leb (length (first ∷ rest)) 32 few)
      (and_from (is_name_byte first) (list_all is_name_byte rest) (is_of_names first (inl h))
      (list_all-from_AllPass is_name_byte rest (All-weaker IsOfNames (λ byte. is_name_byte byte ≡ true) is_of_names rest all)));
}

-- ---- taken texts

one_of : (word name : Text) (others : Bool) (P : Type 0) → (bytes_eq word name || others) ≡ true → (name ≡ word → P) → (others ≡ true → P) → P
one_of word name others P e is isnt = elim (or_cases (bytes_eq word name) others e) [
  | inl h ↦ is (sym ((bytes_eq-Decides word name).0 h))
  | inr h ↦ isnt h
]

pub texts_are_taken : (name : Text) (verb : Verb) → TextsAreTaken name verb
texts_are_taken name verb = record {
  taken = λ e. one_of (codes "watch") name _ (IsTaken name) e (λ is. inr (0, omega arith, sym is)) (λ e.
      one_of (codes "free") name _ (IsTaken name) e (λ is. inr (1, omega arith, sym is)) (λ e.
      one_of (codes "start") name _ (IsTaken name) e (λ is. inr (2, omega arith, sym is)) (λ e.
      one_of (codes "claim") name _ (IsTaken name) e (λ is. inl (Claim, is)) (λ e.
      one_of (codes "give") name _ (IsTaken name) e (λ is. inl (Give, is)) (λ e.
      one_of (codes "yield") name _ (IsTaken name) e (λ is. inl (Yield, is)) (λ e.
      one_of (codes "take") name _ (IsTaken name) e (λ is. inl (Take, is)) (λ e.
      one_of (codes "release") name _ (IsTaken name) e (λ is. inl (Release, is)) (λ e.
      one_of (codes "inquire") name _ (IsTaken name) e (λ is. inl (Inquire, is)) (λ e.
      one_of (codes "pose") name _ (IsTaken name) e (λ is. inl (Pose, is)) (λ e.
      one_of (codes "advance") name _ (IsTaken name) e (λ is. inl (Advance, is)) (λ e.
      one_of (codes "stop") name _ (IsTaken name) e (λ is. inr (3, omega arith, sym is)) (λ e.
      one_of (codes "resume") name _ (IsTaken name) e (λ is. inr (4, omega arith, sym is)) (λ e.
      absurd (let lie : false ≡ true = e in cc))))))))))))));
  verbs = by verb;
}
  where
    by : (v : Verb) → is_reserved (verb_word v) ≡ true
    by Claim = refl
    by Give = refl
    by Yield = refl
    by Take = refl
    by Release = refl
    by Inquire = refl
    by Pose = refl
    by Advance = refl

-- ---- words

-- what is found passes the test
found_passes : {X : Type 0} (test : X → Bool) (xs : List X) (x : X) → find test xs ≡ Some x → test x ≡ true
found_passes test [] x e = absurd (cc)
found_passes test (y ∷ ys) x e = elim (cases_Bool (test y)) [
  | inl h ↦ (let is : Some y ≡ Some x = sym (ap (λ b. cond b (Some y) (find test ys)) h) ∙ e in ap test (sym (same_Some y x is)) ∙ h)
  | inr h ↦ found_passes test ys x (sym (ap (λ b. cond b (Some y) (find test ys)) h) ∙ e)
]

pub of_verb : (word : Text) (verb : Verb) → verb_of word ≡ Some verb → word ≡ verb_word verb
of_verb word verb e = (bytes_eq-Decides word (verb_word verb)).0 (found_passes (λ v. bytes_eq word (verb_word v)) all_verbs verb e)

of_posture : (word : Text) (posture : Posture) → posture_of word ≡ Some posture → word ≡ posture_word posture
of_posture word posture e = (bytes_eq-Decides word (posture_word posture)).0 (found_passes (λ p. bytes_eq word (posture_word p)) all_postures posture e)

verb_told : (verb : Verb) → verb_of (verb_word verb) ≡ Some verb
verb_told Claim = refl
verb_told Give = refl
verb_told Yield = refl
verb_told Take = refl
verb_told Release = refl
verb_told Inquire = refl
verb_told Pose = refl
verb_told Advance = refl

posture_told : (p : Posture) → posture_of (posture_word p) ≡ Some p
posture_told posture.Closed = refl
posture_told posture.Moving = refl
posture_told posture.OpenIn = refl
posture_told posture.OpenOut = refl

pub words_are_of_one : (word : Text) (verb : Verb) (posture : Posture) → WordsAreOfOne word verb posture
words_are_of_one word verb posture = record {
  of_verb = of_verb word verb;
  verb_told = verb_told verb;
  of_posture = of_posture word posture;
  posture_told = posture_told posture;
}

-- ---- numbers

failed : (test : Bool) (k : ℕ) → then_some test k ≡ None → test ≡ false
failed true k e = absurd (cc)
failed false k e = refl

pub firsts_have_numbers : (names : List Text) (name : Text) (number : ℕ) → FirstsHaveNumbers names name number
firsts_have_numbers names name number = record {
  within = λ e.
      let h = first_of (number_if names name) (length names) number e in
      let l = h.below in
      let is = (passed _ h.at number h.has).1 in
      omega arith;
  first = λ earlier e l same.
      let h = first_of (number_if names name) (length names) number e in
      let is = (passed _ h.at number h.has).1 in
      let no = failed _ earlier (h.none earlier (omega arith)) in
      let yes : bytes_eq (name_in names earlier) name ≡ true = (bytes_eq-Decides (name_in names earlier) name).1 same in
      let lie : true ≡ false = sym yes ∙ no in
      cc;
}

pub first_own_poses_count : (n : Named) (machine pose : ℕ) (name : Text) → FirstOwnPosesCount n machine pose name
first_own_poses_count n machine pose name = record {
  within = λ e.
      let h = first_of (pose_if n machine name) (length n.poses) pose e in
      let l = h.below in
      let is = (passed _ h.at pose h.has).1 in
      omega arith;
  named = λ e.
      let h = first_of (pose_if n machine name) (length n.poses) pose e in
      let p = passed _ h.at pose h.has in
      let same = (and_parts (nat_eq (machine_of n.plan h.at) machine) (bytes_eq (name_in n.poses h.at) name) p.0).1 in
      ap (name_in n.poses) (sym p.1) ∙ (bytes_eq-Decides (name_in n.poses h.at) name).0 same;
  first = λ earlier e l own same.
      let h = first_of (pose_if n machine name) (length n.poses) pose e in
      let is = (passed _ h.at pose h.has).1 in
      let no = failed _ earlier (h.none earlier (omega arith)) in
      let yes : (nat_eq (machine_of n.plan earlier) machine && bytes_eq (name_in n.poses earlier) name) ≡ true
      = and_from _ _ (eq-eqb (machine_of n.plan earlier) machine own) ((bytes_eq-Decides (name_in n.poses earlier) name).1 same) in
      let lie : true ≡ false = sym yes ∙ no in
      cc;
}

no_zone : (n : Named) (machine : ℕ) (verb : Verb) (name : Text) → verb ≢ Pose → verb ≢ Advance → number_in n.zones name ≡ None → call_of n machine verb name ≡ None
no_zone n machine Claim name other end none = ap (option_map call.Claim) none
no_zone n machine Give name other end none = ap (option_map call.Give) none
no_zone n machine Yield name other end none = ap (option_map call.Yield) none
no_zone n machine Take name other end none = ap (option_map call.Take) none
no_zone n machine Release name other end none = ap (option_map call.Release) none
no_zone n machine Inquire name other end none = ap (option_map call.Inquire) none
no_zone n machine Pose name other end none = absurd (other refl)
no_zone n machine Advance name other end none = absurd (end refl)

pub unknown_names_call_nothing : (n : Named) (machine : ℕ) (verb : Verb) (name : Text) → UnknownNamesCallNothing n machine verb name
unknown_names_call_nothing n machine verb name = record {
  no_zone = no_zone n machine verb name;
  no_place = λ none. ap (option_map call.Advance) none;
  no_pose = λ own none. ap (λ o. option_map call.SetPose (option_or o (number_in n.poses name))) own ∙ ap (option_map call.SetPose) none;
}
