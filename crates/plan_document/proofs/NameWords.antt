-- Each name is one word.
use Rattle.std.proofs.Common.{◌≡◌, ◌∙◌, ℕ, Bool, true, false, ◌&&◌, not, nat_eq, List, [], ◌∷◌, refl, ap}
use Rattle.std.proofs.lemmas.Bool.{eqb-true}
use Rattle.std.specs.Char.{is_ascii_lowercase}
use Rattle.std.specs.List.{list_all}
use Rattle.std.specs.Prelude.{length, nat_le, slice_index}
use Rattle.plan_text.specs.Names.{Text, is_name, is_name_byte}
use Rattle.plan_document.specs.Names.{AreNames}
use Rattle.plan_document.specs.NameLaws.{AreWords, NamedPlansHaveWords, is_one_word, parts_words}

pub both : (a b : Bool) → (a && b) ≡ true → (a ≡ true) × (b ≡ true)
both true b e = (refl, e)
both false b e = absurd (cc)

joined : (a b : Bool) → a ≡ true → b ≡ true → (a && b) ≡ true
joined true b e f = f
joined false b e f = absurd (cc)

-- a list of which each passes one test passes another
all-more : {X : Type 0} (p q : X → Bool) → ((x : X) → p x ≡ true → q x ≡ true) → (xs : List X) → list_all p xs ≡ true → list_all q xs ≡ true
all-more p q more [] all = refl
all-more p q more (x ∷ xs) all =
    let parts = both (p x) (list_all p xs) all in
    joined (q x) (list_all q xs) (more x parts.0) (all-more p q more xs parts.1)

-- a byte of a name is none that isn't
pub is-other : (byte other : ℕ) → is_name_byte other ≡ false → is_name_byte byte ≡ true → nat_eq byte other ≡ false
is-other byte other none is = by (nat_eq byte other) refl
  where
    by : (b : Bool) → nat_eq byte other ≡ b → nat_eq byte other ≡ false
    by false e = e
    by true e =
        let same : byte ≡ other = eqb-true byte other e in
        let not_one : is_name_byte byte ≡ false = ap is_name_byte same ∙ none in
        absurd (cc)

byte-is-plain : (byte : ℕ) → is_name_byte byte ≡ true → not (parts_words byte) ≡ true
byte-is-plain byte e =
    rw (is-other byte 32 refl e, is-other byte 34 refl e, is-other byte 44 refl e, is-other byte 10 refl e, is-other byte 13 refl e) refl

name-is-word : (text : Text) → is_name text ≡ true → is_one_word text ≡ true
name-is-word text e =
    let bytes = both (is_ascii_lowercase (slice_index text 0) && nat_le (length text) 32) (list_all is_name_byte text) e in
    all-more is_name_byte (λ byte. not (parts_words byte)) byte-is-plain text bytes.1

are-words : (names : List Text) → AreNames names → AreWords names
are-words names are = all-more is_name is_one_word name-is-word names are

pub names-are-words : NamedPlansHaveWords
names-are-words d n is = record {
  machines = are-words n.machines is.spelled_machines;
  zones = are-words n.zones is.spelled_zones;
  places = are-words n.places is.spelled_places;
  poses = are-words n.poses is.spelled_poses;
}
