-- What is read of TOML, one value after another.
use Rattle.std.proofs.Common.{◌≡◌, ◌∙◌, ◌+◌, ◌<◌, ◌≤◌, ◌++◌, ◌∷◌, [], ℕ, Bool, true, List, length, map, take, get_or, refl, sym, ap, subst, arith, take_all, string_bytes}
use Rattle.std.proofs.Common.{Some}
use Rattle.std.specs.Prelude.{String}
use Rattle.std.specs.declared.alloc.Global.{Global}
use Rattle.std.proofs.lemmas.List.{map_more, map_push}
use Rattle.std.proofs.Common.{find, inl, inr, length-take, Result, Ok, Err, IfOk, IsOk}
use Rattle.std.proofs.lemmas.Bool.{cases_Bool}
use Rattle.std.proofs.lemmas.Slice.Eq.{bytes_eq-Decides}
use Rattle.std.specs.Str.{bytes_eq}
use Rattle.plan_text.specs.Calls.{all_verbs, verb_of, verb_word}
use Rattle.plan_text.specs.declared.calls.Verb.{Verb}
use Rattle.toml.specs.Data.{Data, Items, Members, array, boolean, member, no_members, string, table, integer, float, datetime, as_array, as_bool, as_str, as_table}
use Rattle.toml.specs.View.{items_of, view}
use Rattle.toml.specs.declared.value.Value.{Value}
use Rattle.plan_document.specs.Reading.{gives_written, list_of, written}
use Rattle.plan_document.specs.declared.document.PostureRow.{PostureRow}

-- ---- kinds of values

pub string_is : (d : Data) (text : List ℕ) → as_str d ≡ Some text → d ≡ string text
string_is (string s) text e = (cc)
string_is (integer z) text e = (cc)
string_is (float x) text e = (cc)
string_is (boolean b) text e = (cc)
string_is (datetime t) text e = (cc)
string_is (array ds) text e = (cc)
string_is (table ms) text e = (cc)

pub table_is : (d : Data) (ms : Members) → as_table d ≡ Some ms → d ≡ table ms
table_is (string s) all e = (cc)
table_is (integer z) all e = (cc)
table_is (float x) all e = (cc)
table_is (boolean b) all e = (cc)
table_is (datetime t) all e = (cc)
table_is (array ds) all e = (cc)
table_is (table ms) all e = (cc)

pub array_is : (d : Data) (items : Items) → as_array d ≡ Some items → d ≡ array items
array_is (string s) items e = (cc)
array_is (integer z) items e = (cc)
array_is (float x) items e = (cc)
array_is (boolean b) items e = (cc)
array_is (datetime t) items e = (cc)
array_is (array ds) items e = (cc)
array_is (table ms) items e = (cc)

pub boolean_is : (d : Data) (truth : Bool) → as_bool d ≡ Some truth → d ≡ boolean truth
boolean_is (string s) truth e = (cc)
boolean_is (integer z) truth e = (cc)
boolean_is (float x) truth e = (cc)
boolean_is (boolean b) truth e = (cc)
boolean_is (datetime t) truth e = (cc)
boolean_is (array ds) truth e = (cc)
boolean_is (table ms) truth e = (cc)

-- ---- lists of values

pub list_of-items_of : (ds : List Data) → list_of (items_of ds) ≡ ds
list_of-items_of [] = refl
list_of-items_of (d ∷ ds) = ap (λ es. d ∷ es) (list_of-items_of ds)

views_more : (values : List Value) (i : ℕ) (value : Value) → i < length values → value ≡ get_or values i value → map view (take (i + 1) values) ≡ map view (take i values) ++ view value ∷ []
views_more values i value h is = map_more view values i value h ∙ ap (λ v. map view (take i values) ++ view v ∷ []) (sym is)

-- one more value is a text
pub texts_read_more : (values : List Value) (i : ℕ) (value : Value) (texts after : List (String Global)) (text : String Global) → i < length values → value ≡ get_or values i value
    → map view (take i values) ≡ map written texts → view value ≡ written text → after ≡ texts ++ text ∷ [] → map view (take (i + 1) values) ≡ map written after
texts_read_more values i value texts after text h is before one pushed =
    views_more values i value h is
    ∙ ap (λ ds. ds ++ view value ∷ []) before
    ∙ ap (λ d. map written texts ++ d ∷ []) one
    ∙ sym (ap (map written) pushed ∙ map_push written texts text)

-- ---- tables

-- members before others
abbrev pub joined : Members → Members → Members
joined no_members others = others
joined (member key value members) others = member key value (joined members others)

pub joined-none : (members : Members) → joined members no_members ≡ members
joined-none no_members = refl
joined-none (member key value members) = ap (member key value) (joined-none members)

pub gives_more : (rows : List PostureRow) (row : PostureRow) (others : Members) → joined (gives_written (rows ++ row ∷ [])) others ≡ joined (gives_written rows) (member (string_bytes row.zone) (written row.posture) others)
gives_more [] row others = refl
gives_more (first ∷ rows) row others = ap (member (string_bytes first.zone) (written first.posture)) (gives_more rows row others)

-- ---- verbs

pub first_passes : {X : Type 0} (p : X → Bool) (xs : List X) (x : X) → find p xs ≡ Some x → p x ≡ true
first_passes p [] x e = absurd (cc)
first_passes p (y ∷ ys) x e = elim (cases_Bool (p y)) [
  | inl holds ↦ passed holds
  | inr fails ↦ first_passes p ys x (rw fails at e)
]
  where
    passed : p y ≡ true → p x ≡ true
    passed holds =
        let found : Some y ≡ Some x = rw holds at e in
        let is : y ≡ x = cc in
        ap p (sym is) ∙ holds

-- the word of a verb that is read of it
pub word_of_verb : (word : List ℕ) (verb : Verb) → verb_of word ≡ Some verb → word ≡ verb_word verb
word_of_verb word verb e =
    (bytes_eq-Decides word (verb_word verb)).0 (first_passes (λ (v : Verb). bytes_eq word (verb_word v)) all_verbs verb e)

-- ---- results

pub if_ok_more : {A E : Type 0} (r : Result A E) (P Q : A → Type 0) → ((x : A) → P x → Q x) → IfOk r P → IfOk r Q
if_ok_more (Ok x) P Q step h = step x h
if_ok_more (Err e) P Q step h = h

-- what was read is whole if it is no longer than a document may be
pub read_whole : {A E : Type 0} (r : Result A E) (P : List ℕ → A → Type 0) (bytes read : List ℕ) → bytes ≡ take 65537 read → (IsOk r → length bytes ≤ 65536) → IfOk r (P bytes) → IfOk r (P read)
read_whole (Ok x) P bytes read is short h =
    let few : length read ≤ 65537 = omega (arith, length-take 65537 read, ap length is, short refl) in
    subst (λ bs. P bs x) (is ∙ take_all 65537 read few) h
read_whole (Err e) P bytes read is short h = tt
