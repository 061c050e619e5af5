-- A record has a request of a version exactly if its fields write that request, and the version has its call.
use Rattle.std.proofs.Common.{ℕ, ◌≡◌, ◌<◌, ◌≤◌, Bool, true, List, [], ◌∷◌, length, Option, Some, None, MatchOption, refl, inl, inr, sym, ◌∙◌, ap, ap₂, ◌↔◌, arith, subst}
use Rattle.std.specs.Bool.{then_some}
use Rattle.std.specs.List.{find, list_all}
use Rattle.std.specs.Str.{bytes_eq}
use Rattle.std.specs.Cmp.Lexicographic.{pointwise}
use Rattle.std.proofs.lemmas.Bool.{and_parts, cases_Bool}
use Rattle.std.proofs.lemmas.Option.{same_Some}
use Rattle.std.proofs.lemmas.Slice.Eq.{bytes_eq-Decides, slice_eq-Decides}
use Rattle.csv.specs.Records.{field_at}
use Rattle.cell_rules.specs.Types.{Machine, Feed, Table, Robot, Press, Deposit, Crane, Watch, Zone, Z1, Z2, Z3, Z4, Z5, Z6, Pose, Turning, Loading, Unloading, Travelling, Middle, Low, Top, Running, Landing, Halted, Offering, Standing, Call, Claim, Give, Yield, Take, Release, SetPose, Advance, Inquire, Stop, Resume, machine_word, call_fields, verb_of, all_machines}
use Rattle.cell_types.specs.CallWords.{object_of, with_object}
use Rattle.cell_replay.specs.Versions.{has_call}
use Rattle.csv_rows.specs.Rows.{Row}
use Rattle.cell_replay.specs.Requests.{calls_of, call_of, machine_of, request, request_by, request_fields, request_of}
use Rattle.cell_replay.specs.declared.request.Request.{Request}
use Rattle.cell_replay.specs.declared.version.Version.{Version}
use Rattle.cell_replay.specs.declared.version.Version.TheVariants.{First, Second}

-- What is found.

-- it passes the test
found_passes : {A : Type 0} (test : A → Bool) (xs : List A) (x : A) → find test xs ≡ Some x → test x ≡ true
found_passes test [] x e = absurd (cc)
found_passes test (y ∷ ys) x e = elim (cases_Bool (test y)) [ inl t ↦ rw (← same_Some y x (rw t at e)) t | inr f ↦ found_passes test ys x (rw f at e) ]

-- it has what each element has
found_has : {A : Type 0} (test has : A → Bool) (xs : List A) (x : A) → list_all has xs ≡ true → find test xs ≡ Some x → has x ≡ true
found_has test has [] x all e = absurd (cc)
found_has test has (y ∷ ys) x all e =
    let parts = and_parts (has y) (list_all has ys) all in
    elim (cases_Bool (test y)) [ inl t ↦ rw (← same_Some y x (rw t at e)) parts.0 | inr f ↦ found_has test has ys x parts.1 (rw f at e) ]

-- Machines.

machine_of-word : (machine : Machine) → machine_of (machine_word machine) ≡ Some machine
unfolding machine_of
machine_of-word Feed = refl
machine_of-word Table = refl
machine_of-word Robot = refl
machine_of-word Press = refl
machine_of-word Deposit = refl
machine_of-word Crane = refl
machine_of-word Watch = refl

machine_of-is : (word : List ℕ) (machine : Machine) → machine_of word ≡ Some machine → word ≡ machine_word machine
unfolding machine_of
machine_of-is word machine e = sym ((bytes_eq-Decides (machine_word machine) word).0 (found_passes (λ m. bytes_eq (machine_word m) word) all_machines machine e))

-- Calls.

call_of-zone : (version : Version) (make : Zone → Call) → call_of version (call_fields (make Z1)) ≡ Some (make Z1) → call_of version (call_fields (make Z2)) ≡ Some (make Z2) → call_of version (call_fields (make Z3)) ≡ Some (make Z3)
    → call_of version (call_fields (make Z4)) ≡ Some (make Z4) → call_of version (call_fields (make Z5)) ≡ Some (make Z5) → call_of version (call_fields (make Z6)) ≡ Some (make Z6) → (z : Zone) → call_of version (call_fields (make z)) ≡ Some (make z)
call_of-zone version make a b c d e f Z1 = a
call_of-zone version make a b c d e f Z2 = b
call_of-zone version make a b c d e f Z3 = c
call_of-zone version make a b c d e f Z4 = d
call_of-zone version make a b c d e f Z5 = e
call_of-zone version make a b c d e f Z6 = f

call_of-pose : (version : Version) (pose : Pose) → call_of version (call_fields (SetPose pose)) ≡ Some (SetPose pose)
unfolding call_of
call_of-pose version Turning = refl
call_of-pose version Loading = refl
call_of-pose version Unloading = refl
call_of-pose version Travelling = refl
call_of-pose version Middle = refl
call_of-pose version Low = refl
call_of-pose version Top = refl
call_of-pose version Running = refl
call_of-pose version Landing = refl
call_of-pose version Halted = refl
call_of-pose version Offering = refl
call_of-pose version Standing = refl

call_of-fields : (version : Version) (call : Call) → has_call version call ≡ true → call_of version (call_fields call) ≡ Some call
unfolding call_of
call_of-fields version (Claim z) h = call_of-zone version Claim refl refl refl refl refl refl z
call_of-fields version (Give z) h = call_of-zone version Give refl refl refl refl refl refl z
call_of-fields version (Yield z) h = call_of-zone version Yield refl refl refl refl refl refl z
call_of-fields version (Take z) h = call_of-zone version Take refl refl refl refl refl refl z
call_of-fields version (Release z) h = call_of-zone version Release refl refl refl refl refl refl z
call_of-fields version (SetPose pose) h = call_of-pose version pose
call_of-fields version Advance h = refl
call_of-fields version (Inquire z) h = call_of-zone version Inquire refl refl refl refl refl refl z
call_of-fields First Stop h = absurd (cc)
call_of-fields Second Stop h = refl
call_of-fields First Resume h = absurd (cc)
call_of-fields Second Resume h = refl

call_of-is : (version : Version) (fields : Row) (call : Call) → call_of version fields ≡ Some call → fields ≡ call_fields call
unfolding call_of
call_of-is version fields call e = sym ((slice_eq-Decides bytes_eq-Decides (call_fields call) fields _ refl).0 (found_passes (λ c. pointwise bytes_eq (call_fields c) fields) (calls_of version) call e))

pub call_of-has : (version : Version) (fields : Row) (call : Call) → call_of version fields ≡ Some call → has_call version call ≡ true
unfolding call_of
call_of-has First fields call e = found_has (λ c. pointwise bytes_eq (call_fields c) fields) (has_call First) (calls_of First) call refl e
call_of-has Second fields call e = found_has (λ c. pointwise bytes_eq (call_fields c) fields) (has_call Second) (calls_of Second) call refl e

-- Requests.

request_by-is : (o : Option Machine) (p : Option Call) (r : Request) → request_by o p ≡ Some r → (o ≡ Some r.machine) × (p ≡ Some r.call)
request_by-is None p r e = absurd (cc)
request_by-is (Some machine) None r e = absurd (cc)
request_by-is (Some machine) (Some call) r e = let same = same_Some (request machine call) r e in (ap (λ (x : Request). Some x.machine) same, ap (λ (x : Request). Some x.call) same)

pub request_of-written : (version : Version) (fields : Row) (r : Request) → (request_of version fields ≡ Some r) ↔ ((fields ≡ request_fields r) × (has_call version r.call ≡ true))
unfolding request_of
request_of-written version [] r = (λ e. absurd (cc), λ w. let e = w.0 in absurd (cc))
request_of-written version (word ∷ fields) r = (
  λ e.
      let is = request_by-is (machine_of word) (call_of version fields) r e in
      (ap₂ (λ w fs. w ∷ fs) (machine_of-is word r.machine is.0) (call_of-is version fields r.call is.1), call_of-has version fields r.call is.1),
  λ w.
      let e = w.0 in
      let machine : machine_of word ≡ Some r.machine = (let same : word ≡ machine_word r.machine = cc in ap machine_of same ∙ machine_of-word r.machine) in
      let call : call_of version fields ≡ Some r.call = (let same : fields ≡ call_fields r.call = cc in ap (call_of version) same ∙ call_of-fields version r.call w.1) in
      rw (machine, call) refl,
)

-- two options are the same if they have the same values
same_answer : {A : Type 0} (o p : Option A) → ((x : A) → (o ≡ Some x) ↔ (p ≡ Some x)) → o ≡ p
same_answer None None h = refl
same_answer None (Some y) h = (h y).1 refl
same_answer (Some x) p h = sym ((h x).0 refl)

-- The requests of a version.

abbrev pub of_version : Version → Option Request → Option Request
of_version version None = None
of_version version (Some r) = then_some (has_call version r.call) r

kept : (version : Version) (o : Option Request) (r : Request) → (of_version version o ≡ Some r) ↔ ((o ≡ Some r) × (has_call version r.call ≡ true))
kept version None r = (λ e. absurd (cc), λ w. let e = w.0 in absurd (cc))
kept version (Some x) r = (
  λ e. elim (cases_Bool (has_call version x.call)) [
    | inl has ↦ let same = same_Some x r (rw has at e) in (ap Some same, subst (λ (y : Request). has_call version y.call ≡ true) same has)
    | inr not ↦ let bad : None ≡ Some r = rw not at e in absurd (cc)
  ],
  λ w. let same = same_Some x r w.0 in rw (same, w.1) refl,
)

-- a test keeps the requests of the version
kept_by : (version : Version) (Says : Request → Bool → Type 0) (o p : Option Request) → ((x : Request) (b : Bool) → Says x b → b ≡ has_call version x.call) → MatchOption o (p ≡ None) (λ x. (b : Bool) × Says x b × (p ≡ then_some b x)) → p ≡ of_version version o
kept_by version Says None p tells none = none
kept_by version Says (Some x) p tells some = some.2 ∙ ap (λ b. then_some b x) (tells x some.0 some.1)

pub version-same : (version : Version) (Says : Request → Bool → Type 0) (fields : Row) (o p : Option Request) → ((r : Request) → (o ≡ Some r) ↔ (fields ≡ request_fields r)) → ((x : Request) (b : Bool) → Says x b → b ≡ has_call version x.call)
    → MatchOption o (p ≡ None) (λ x. (b : Bool) × Says x b × (p ≡ then_some b x)) → p ≡ request_of version fields
version-same version Says fields o p read tells is = kept_by version Says o p tells is ∙ same_answer (of_version version o) (request_of version fields) (λ r. (
  λ e. let both = (kept version o r).0 e in (request_of-written version fields r).1 ((read r).0 both.0, both.1),
  λ e. let both = (request_of-written version fields r).0 e in (kept version o r).1 ((read r).1 both.0, both.1),
))

-- the requests of a version are those whose fields write them, of the calls that it has
pub version-written : (version : Version) (fields : Row) (o : Option Request) (r : Request) → o ≡ request_of version fields → has_call version r.call ≡ true → (o ≡ Some r) ↔ (fields ≡ request_fields r)
version-written version fields o r same has = (
  λ e. ((request_of-written version fields r).0 (sym same ∙ e)).0,
  λ e. same ∙ (request_of-written version fields r).1 (e, has),
)

-- What the code has read of a record.

-- a record of two or three fields
fields_are : (fields : Row) (word verb : List ℕ) (object : Option (List ℕ)) → length fields ≤ 3 → field_at fields 0 ≡ Some word → field_at fields 1 ≡ Some verb → object ≡ field_at fields 2 → fields ≡ word ∷ with_object verb object
unfolding field_at
fields_are [] word verb object short e f g = absurd (cc)
fields_are (a ∷ []) word verb object short e f g = absurd (cc)
fields_are (a ∷ b ∷ []) word verb object short e f g = rw g (ap₂ (λ x y. x ∷ y ∷ []) (same_Some a word e) (same_Some b verb f))
fields_are (a ∷ b ∷ c ∷ []) word verb object short e f g = rw g (ap₂ (λ x y. x ∷ y ∷ c ∷ []) (same_Some a word e) (same_Some b verb f))
fields_are (a ∷ b ∷ c ∷ d ∷ fields) word verb object short e f g = absurd (omega arith)

-- a word and a call that were read, or not
pub read_whole : (fields : Row) (word verb : List ℕ) (object : Option (List ℕ)) (m : Machine) (p : Option Call) → length fields ≤ 3 → field_at fields 0 ≡ Some word → field_at fields 1 ≡ Some verb
    → object ≡ field_at fields 2 → ((n : Machine) → (Some m ≡ Some n) ↔ (word ≡ machine_word n)) → ((c : Call) → (p ≡ Some c) ↔ (with_object verb object ≡ call_fields c))
    → (r : Request) → (request_by (Some m) p ≡ Some r) ↔ (fields ≡ request_fields r)
read_whole fields word verb object m p short e f g machine call r =
    let is = fields_are fields word verb object short e f g in (
      λ e. let found = request_by-is (Some m) p r e in is ∙ ap₂ (λ w fs. w ∷ fs) ((machine r.machine).0 found.0) ((call r.call).0 found.1),
      λ e.
          let both : word ∷ with_object verb object ≡ machine_word r.machine ∷ call_fields r.call = sym is ∙ e in
          let first : word ≡ machine_word r.machine = cc in
          let rest : with_object verb object ≡ call_fields r.call = cc in
          rw ((machine r.machine).1 first, (call r.call).1 rest) refl,
    )

refused : (fields : Row) → ((r : Request) → fields ≡ request_fields r → ⊥) → (r : Request) → (None ≡ Some r) ↔ (fields ≡ request_fields r)
refused fields never r = (λ e. absurd (cc), λ e. absurd (never r e))

short_request : (word verb : List ℕ) (object : Option (List ℕ)) → length (word ∷ with_object verb object) ≤ 3
short_request word verb None = omega arith
short_request word verb (Some object) = omega arith

pub read_long : (fields : Row) → 3 < length fields → (r : Request) → (None ≡ Some r) ↔ (fields ≡ request_fields r)
read_long fields long = refused fields (λ r e. let short = short_request (machine_word r.machine) (verb_of r.call) (object_of r.call) in omega (arith, ap length e, short))

pub read_empty : (fields : Row) → field_at fields 0 ≡ None → (r : Request) → (None ≡ Some r) ↔ (fields ≡ request_fields r)
unfolding field_at
read_empty fields none = refused fields (λ r e. let bad : Some (machine_word r.machine) ≡ None = rw e at none in absurd (cc))

verb_there : (word verb : List ℕ) (object : Option (List ℕ)) → field_at (word ∷ with_object verb object) 1 ≡ Some verb
unfolding field_at
verb_there word verb None = refl
verb_there word verb (Some object) = refl

pub read_alone : (fields : Row) → field_at fields 1 ≡ None → (r : Request) → (None ≡ Some r) ↔ (fields ≡ request_fields r)
read_alone fields none = refused fields (λ r e. let bad : Some (verb_of r.call) ≡ None = sym (verb_there (machine_word r.machine) (verb_of r.call) (object_of r.call)) ∙ rw e at none in absurd (cc))

pub read_other : (fields : Row) (word : List ℕ) → field_at fields 0 ≡ Some word → ((m : Machine) → (None ≡ Some m) ↔ (word ≡ machine_word m)) → (r : Request) → (None ≡ Some r) ↔ (fields ≡ request_fields r)
unfolding field_at
read_other fields word there machine = refused fields (λ r e.
    let same : Some (machine_word r.machine) ≡ Some word = rw e at there in
    let bad : None ≡ Some r.machine = (machine r.machine).1 (sym (same_Some _ _ same)) in
    absurd (cc))

-- which requests a record has that isn't read as one
pub ruleset unread_rows = (read_long, read_empty, read_other, read_alone)
