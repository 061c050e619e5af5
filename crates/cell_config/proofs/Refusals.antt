-- Of a table whose sections are refused one thing alone may be said.
use Rattle.cell_config.proofs.Names.{◌≡◌, ◌∙◌, ◌≤◌, ◌∷◌, [], ℕ, ℤ, true, false, Bool, List, length, Option, Some, None, Result, Ok, Err, IsOk, refl, sym, ap, subst, arith, inl, inr, cases_lt, filter_map, list_all, Data, Members, Pair, Scale, IsCurve, passes_as_curve, curve_of_pass, HasCurveFault, ConfigFault, IsFirstRefusal, axis_scale, is_measured, measured_of, pairs_at, raw_at, section_by_key, tol_at}
use Rattle.std.specs.Prelude.{MatchOption, find, is_err}
use Rattle.cell_sensors.specs.CurveFaults.{IsFirstFault as IsFirstCurveFault}
use Rattle.cell_sensors.specs.declared.curve.CurveFault.{CurveFault}
use Rattle.cell_sensors.specs.declared.curve.CurveFault.TheVariants.{Count, Ends, Order, OffLine}
use Rattle.cell_config.specs.RefusalLaws.{IsTaken, OneCurveFault, OneRefusal, PairsAreJudged, RefusalsAreFirst, ValuesAreJudged}
use Rattle.cell_config.specs.RefusedSections.{IsCurveFault, IsFirstFault, IsFirstKey, end_of, key_of, pairs_given, table_given}
use Rattle.cell_config.specs.declared.refused_sections.SectionFault.{SectionFault}
use Rattle.cell_config.specs.declared.refused_sections.SectionFault.TheVariants.{NoTable, Raw, Tol, Points}
use Rattle.cell_config.specs.declared.refused_sections.SectionKey.{SectionKey}
use Rattle.cell_config.specs.declared.refused_sections.SectionKey.TheVariants.{Arm1, Arm2, Rotation, Turn, Gripper}

-- ---- curves

abbrev OneFirst : Type 0
OneFirst = (s : Scale) (pairs : List Pair) (f g : CurveFault) → IsFirstCurveFault s pairs f → IsFirstCurveFault s pairs g → g ≡ f

-- a curve has no fault
no_fault : (line : Scale) (pairs : List Pair) (fault : CurveFault) → IsCurve line pairs → IsFirstCurveFault line pairs fault → ⊥
no_fault line pairs Count curve k = k curve.number
no_fault line pairs Ends curve k = k.1 curve.ends
no_fault line pairs Order curve k = k.2 curve.rising
no_fault line pairs OffLine curve k = k.3 curve.near

one_of_pairs : OneFirst → (line : Scale) (pairs : List Pair) (a b : Option CurveFault) → HasCurveFault line pairs a → HasCurveFault line pairs b → a ≡ b
one_of_pairs one line pairs None None j k = refl
one_of_pairs one line pairs None (Some g) j k = absurd (no_fault line pairs g j k)
one_of_pairs one line pairs (Some f) None j k = absurd (no_fault line pairs f k j)
one_of_pairs one line pairs (Some f) (Some g) j k = ap (λ (x : CurveFault). Some x) (one line pairs g f k j)

pub one_curve_fault : OneFirst → OneCurveFault
one_curve_fault one line values a b j k =
    elim (cases_lt 32 (length values)) [
      | inl long ↦ j.many long ∙ sym (k.many long)
      | inr short ↦ by (omega (arith, short)) (list_all is_measured values) refl
    ]
  where
    by : length values ≤ 32 → (fit : Bool) → list_all is_measured values ≡ fit → a ≡ b
    by short true is = one_of_pairs one line (filter_map measured_of values) a b (j.fits is) (k.fits is)
    by short false is = j.unfit short is ∙ sym (k.unfit short is)

pub pairs_are_judged : (line : Scale) (pairs : List Pair) (fault : CurveFault) → PairsAreJudged line pairs fault
pairs_are_judged line pairs fault = record {
  curve = passes_as_curve line pairs;
  no_curve = λ k. k;
  is_curve = curve_of_pass line pairs;
  is_no_curve = λ k. k;
}

same_fault : (f g : CurveFault) → Some f ≡ Some g → f ≡ g
same_fault f g e = cc

no_some : {A : Type 0} (x : A) → None ≡ Some x → ⊥
no_some x e = cc

pub values_are_judged : (line : Scale) (values : List Data) (fault : CurveFault) → ValuesAreJudged line values fault
values_are_judged line values fault = record {
  many = λ long k. same_fault fault Count (k.many long);
  many_have = λ long k. no_some Count (k.many long);
  unfit = λ short not_all k. no_some fault (sym (k.unfit short not_all));
  first = λ short all k. k.fits all;
}

-- ---- sections

not_both : {A : Type 0} (r : Result A ConfigFault) (fault : ConfigFault) → IsOk r → r ≡ Err fault → ⊥
not_both (Ok x) fault ok e = cc
not_both (Err f) fault ok e = absurd (cc)

ok_is : {A : Type 0} (r : Result A ConfigFault) (x : A) → r ≡ Ok x → IsOk r
ok_is r x e = rw e refl

both_err : {A : Type 0} (f g : ConfigFault) → ◌≡◌ {A = Result A ConfigFault} (Err f) (Err g) → f ≡ g
both_err f g e = cc

both_ok : {A : Type 0} (x y : A) → ◌≡◌ {A = Result A ConfigFault} (Ok x) (Ok y) → x ≡ y
both_ok x y e = cc

same_err : {A : Type 0} (r : Result A ConfigFault) (f g : ConfigFault) → r ≡ Err f → r ≡ Err g → f ≡ g
same_err r f g a b = both_err f g (sym a ∙ b)

same_ok : {A : Type 0} (r : Result A ConfigFault) (x y : A) → r ≡ Ok x → r ≡ Ok y → x ≡ y
same_ok r x y a b = both_ok x y (sym a ∙ b)

one_of_points : OneFirst → (line : Scale) (given : Option (List Data)) (a b : Option CurveFault) → MatchOption given (a ≡ None) (λ values. IsCurveFault line values a) → MatchOption given (b ≡ None) (λ values. IsCurveFault line values b) → a ≡ b
one_of_points one line None a b j k = j ∙ sym k
one_of_points one line (Some values) a b j k = one_curve_fault one line values a b j k

one_key : OneFirst → (end : ℤ) (section : Members) (f g : SectionFault) → IsFirstKey end section f → IsFirstKey end section g → f ≡ g
one_key one end section NoTable g j k = absurd j
one_key one end section (Raw f) NoTable j k = absurd k
one_key one end section (Raw f) (Raw g) j k = ap (λ (x : ConfigFault). Raw x) (same_err (raw_at end section) f g j k)
one_key one end section (Raw f) (Tol g) j k = absurd (not_both (raw_at end section) f k.0 j)
one_key one end section (Raw f) (Points g l c) j k = absurd (not_both (raw_at end section) f (ok_is (raw_at end section) k.0 k.2) j)
one_key one end section (Tol f) NoTable j k = absurd k
one_key one end section (Tol f) (Raw g) j k = absurd (not_both (raw_at end section) g j.0 k)
one_key one end section (Tol f) (Tol g) j k = ap (λ (x : ConfigFault). Tol x) (same_err (tol_at section) f g j.1 k.1)
one_key one end section (Tol f) (Points g l c) j k = absurd (not_both (tol_at section) f (ok_is (tol_at section) k.1 k.3) j.1)
one_key one end section (Points f l c) NoTable j k = absurd k
one_key one end section (Points f l c) (Raw g) j k = absurd (not_both (raw_at end section) g (ok_is (raw_at end section) j.0 j.2) k)
one_key one end section (Points f l c) (Tol g) j k = absurd (not_both (tol_at section) g (ok_is (tol_at section) j.1 j.3) k.1)
one_key one end section (Points f l c) (Points g m d) j k =
    let raw : j.0 ≡ k.0 = same_ok (raw_at end section) j.0 k.0 j.2 k.2 in
    let tol : j.1 ≡ k.1 = same_ok (tol_at section) j.1 k.1 j.3 k.3 in
    let line : l ≡ m = j.4 ∙ ap (λ (r : ℕ × ℕ). axis_scale end r j.1) raw ∙ ap (λ (t : ℕ). axis_scale end k.0 t) tol ∙ sym k.4 in
    let fault : f ≡ g = same_err (pairs_at m section) f g (subst (λ (s : Scale). pairs_at s section ≡ Err f) line j.5) k.5 in
    let curve : c ≡ d = one_of_points one m (pairs_given section) c d (subst (λ (s : Scale). MatchOption (pairs_given section) (c ≡ None) (λ values. IsCurveFault s values c)) line j.6) k.6 in
    λ i. Points (fault i) (line i) (curve i)

one_first : OneFirst → (end : ℤ) (section : Option Members) (f g : SectionFault) → IsFirstFault end section f → IsFirstFault end section g → f ≡ g
one_first one end None f g j k = j ∙ sym k
one_first one end (Some section) f g j k = one_key one end section f g j k

same_key : (k l : SectionKey) → Some k ≡ Some l → k ≡ l
same_key k l e = cc

pub one_refusal : OneFirst → OneRefusal
one_refusal one table key other fault another j k =
    let same : key ≡ other = same_key key other (sym j.section ∙ k.section) in (
      same,
      one_first one (end_of other) (table_given (key_of other) table) fault another
          (subst (λ (x : SectionKey). IsFirstFault (end_of x) (table_given (key_of x) table) fault) same j.why.first) k.why.first,
    )

-- the sections before the first that is refused
taken : {A : Type 0} (r : Result A ConfigFault) → is_err r ≡ false → IsOk r
taken (Ok x) e = refl
taken (Err f) e = absurd (cc)

-- what isn't the first that passes a test doesn't pass it
passed_over : (test : SectionKey → Bool) (first : SectionKey) (rest : List SectionKey) (key : SectionKey) → find test (first ∷ rest) ≡ Some key → (first ≡ key → ⊥) → (test first ≡ false) × (find test rest ≡ Some key)
passed_over test first rest key e other = by (test first) refl
  where
    by : (b : Bool) → test first ≡ b → (test first ≡ false) × (find test rest ≡ Some key)
    by true is = let found : Some first ≡ Some key = rw is at e in absurd (other (same_key first key found))
    by false is = (is, rw is at e)

module _ (table : Members) (fault : SectionFault) where
  abbrev refuses : SectionKey → Bool
  refuses key = is_err (section_by_key key table)

  after_arm1 : (key : SectionKey) → IsFirstRefusal table key fault → (Arm1 ≡ key → ⊥) → IsTaken table Arm1 × (find refuses (Arm2 ∷ Rotation ∷ Turn ∷ Gripper ∷ []) ≡ Some key)
  after_arm1 key k other =
      let h = passed_over refuses Arm1 (Arm2 ∷ Rotation ∷ Turn ∷ Gripper ∷ []) key k.section other in
      (taken (section_by_key Arm1 table) h.0, h.1)

  after_arm2 : (key : SectionKey) → IsFirstRefusal table key fault → (Arm1 ≡ key → ⊥) → (Arm2 ≡ key → ⊥) → IsTaken table Arm2 × (find refuses (Rotation ∷ Turn ∷ Gripper ∷ []) ≡ Some key)
  after_arm2 key k other another =
      let h = passed_over refuses Arm2 (Rotation ∷ Turn ∷ Gripper ∷ []) key (after_arm1 key k other).1 another in
      (taken (section_by_key Arm2 table) h.0, h.1)

  after_rotation : (key : SectionKey) → find refuses (Rotation ∷ Turn ∷ Gripper ∷ []) ≡ Some key → (Rotation ≡ key → ⊥) → IsTaken table Rotation × (find refuses (Turn ∷ Gripper ∷ []) ≡ Some key)
  after_rotation key e other =
      let h = passed_over refuses Rotation (Turn ∷ Gripper ∷ []) key e other in
      (taken (section_by_key Rotation table) h.0, h.1)

  after_turn : (key : SectionKey) → find refuses (Turn ∷ Gripper ∷ []) ≡ Some key → (Turn ≡ key → ⊥) → IsTaken table Turn
  after_turn key e other =
      let h = passed_over refuses Turn (Gripper ∷ []) key e other in
      taken (section_by_key Turn table) h.0

  pub refusals_are_first : RefusalsAreFirst table fault
  refusals_are_first = record {
    arm2 = λ k. (after_arm1 Arm2 k (λ e. cc)).0;
    rotation = λ k. ((after_arm1 Rotation k (λ e. cc)).0, (after_arm2 Rotation k (λ e. cc) (λ e. cc)).0);
    turn = λ k.
        let two = after_arm2 Turn k (λ e. cc) (λ e. cc) in
        ((after_arm1 Turn k (λ e. cc)).0, two.0, (after_rotation Turn two.1 (λ e. cc)).0);
    gripper = λ k.
        let two = after_arm2 Gripper k (λ e. cc) (λ e. cc) in
        let three = after_rotation Gripper two.1 (λ e. cc) in
        ((after_arm1 Gripper k (λ e. cc)).0, two.0, three.0, after_turn Gripper three.1 (λ e. cc));
    refused = λ key k. (k.why.refused, k.config_fault);
  }
