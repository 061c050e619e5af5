use Rattle.std.proofs.Common.{rules, ◌≡◌, ◌∙◌, ◌++◌, ◌∷◌, [], ℕ, Bool, true, false, List, codes, filter, flat_map, refl, sym, ap, Result, Ok, Err, IfOk}
use Rattle.std.proofs.lemmas.List.{append_assoc, append_cancel_left}
use Rattle.plan_controller.specs.declared.faults.Faults.{Faults}
use Rattle.plan_controller.specs.declared.faults.Mendable.{Mendable}
use Rattle.plan_controller.specs.Faults.{all_mendable, has}
use Rattle.plan_header.specs.Turns as spec
use Rattle.plan_header.proofs.turns.faults_word.Goals as goal

-- with a bar before each fault
abbrev barred : List Mendable → List ℕ
barred faults = flat_map (λ fault. codes " | " ++ spec.fault_bit fault) faults

all_barred : (f : Faults) (kinds : List Mendable) → flat_map (spec.barred_bit f) kinds ≡ barred (filter (has f) kinds)
all_barred f [] = refl
all_barred f (kind ∷ kinds) = by (all_barred f kinds) (has f kind) refl
  where
    by : flat_map (spec.barred_bit f) kinds ≡ barred (filter (has f) kinds) → (b : Bool) → has f kind ≡ b → flat_map (spec.barred_bit f) (kind ∷ kinds) ≡ barred (filter (has f) (kind ∷ kinds))
    by rest true e = rw e (ap (λ t. (codes " | " ++ spec.fault_bit kind) ++ t) rest)
    by rest false e = rw e rest

-- without the first bar
first_bare : (faults : List Mendable) (text : List ℕ) → barred faults ≡ codes " | " ++ text → text ≡ spec.fault_bits faults
first_bare [] text e = absurd (cc)
first_bare (fault ∷ faults) text e =
    sym
    (append_cancel_left (codes " | ") (spec.fault_bit fault ++ barred faults) text
    (sym (append_assoc (codes " | ") (spec.fault_bit fault) (barred faults)) ∙ e))

ok_more : {A E : Type 0} (r : Result A E) (P Q : A → Type 0) → ((x : A) → P x → Q x) → IfOk r P → IfOk r Q
ok_more (Ok x) P Q step h = step x h
ok_more (Err e) P Q step h = h

pub returns-in-Some : goal.returns-in-Some
returns-in-Some c =
    let f = c.args.faults in
    let text = c.in-Some.bits.now in
    let whole : flat_map (spec.barred_bit f) all_mendable ≡ codes " | " ++ text = search rules in
    let bare : text ≡ spec.faults_word f = first_bare (filter (has f) all_mendable) text (sym (all_barred f all_mendable) ∙ whole) in
    ok_more c.from_str.result _ _ (λ word same. same ∙ bare) c.from_str.ensures.ok
