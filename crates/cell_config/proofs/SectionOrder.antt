-- The first section that is refused: those before it are taken.
use Rattle.cell_config.proofs.Names.{◌≡◌, Result, Ok, Err, IsOk, MatchResult, refl, Members, sections_at, IsFirstRefusal, IsRefusal, section_by_key}
use Rattle.cell_config.specs.declared.refused_sections.SectionFault.{SectionFault}
use Rattle.cell_config.specs.declared.refused_sections.SectionKey.{SectionKey}
use Rattle.cell_config.specs.declared.refused_sections.SectionKey.TheVariants.{Arm1, Arm2, Rotation, Turn, Gripper}

given : {A E : Type 0} → (r : Result A E) → IsOk r → (x : A) × (r ≡ Ok x)
given (Ok x) h = (x, refl)
given (Err e) h = absurd (cc)

pub third : (ms : Members) (fault : SectionFault) → IsOk (section_by_key Arm1 ms) → IsOk (section_by_key Arm2 ms)
    → IsRefusal ms Rotation fault → IsFirstRefusal ms Rotation fault
third ms fault one two why =
    let a = given (section_by_key Arm1 ms) one in
    let b = given (section_by_key Arm2 ms) two in
    record { section = rw (a.1, b.1, why.refused) refl; config_fault = rw (a.1, b.1, why.refused) refl; why = why }

pub fourth : (ms : Members) (fault : SectionFault) → IsOk (section_by_key Arm1 ms) → IsOk (section_by_key Arm2 ms)
    → IsOk (section_by_key Rotation ms) → IsRefusal ms Turn fault → IsFirstRefusal ms Turn fault
fourth ms fault one two three why =
    let a = given (section_by_key Arm1 ms) one in
    let b = given (section_by_key Arm2 ms) two in
    let c = given (section_by_key Rotation ms) three in
    record { section = rw (a.1, b.1, c.1, why.refused) refl; config_fault = rw (a.1, b.1, c.1, why.refused) refl; why = why }

fifth : (ms : Members) (fault : SectionFault) → IsOk (section_by_key Arm1 ms) → IsOk (section_by_key Arm2 ms)
    → IsOk (section_by_key Rotation ms) → IsOk (section_by_key Turn ms) → IsRefusal ms Gripper fault → IsFirstRefusal ms Gripper fault
fifth ms fault one two three four why =
    let a = given (section_by_key Arm1 ms) one in
    let b = given (section_by_key Arm2 ms) two in
    let c = given (section_by_key Rotation ms) three in
    let d = given (section_by_key Turn ms) four in
    record {
      section = rw (a.1, b.1, c.1, d.1, why.refused) refl;
      config_fault = rw (a.1, b.1, c.1, d.1, why.refused) refl;
      why = why;
    }

all : (ms : Members) → IsOk (section_by_key Arm1 ms) → IsOk (section_by_key Arm2 ms) → IsOk (section_by_key Rotation ms)
    → IsOk (section_by_key Turn ms) → IsOk (section_by_key Gripper ms) → IsOk (sections_at ms)
all ms one two three four five =
    let a = given (section_by_key Arm1 ms) one in
    let b = given (section_by_key Arm2 ms) two in
    let c = given (section_by_key Rotation ms) three in
    let d = given (section_by_key Turn ms) four in
    let e = given (section_by_key Gripper ms) five in
    rw (a.1, b.1, c.1, d.1, e.1) refl

-- what is said of a refusal
named : (ms : Members) (key : SectionKey) (refused : SectionKey × SectionFault) → refused.0 ≡ key → IsFirstRefusal ms key refused.1
    → IsFirstRefusal ms refused.0 refused.1
named ms key refused same first = rw same first

pub told : {U : Type 0} → (ms : Members) (key : SectionKey) (r : Result U (SectionKey × SectionFault)) (refused : SectionKey × SectionFault)
    → r ≡ Err refused → refused.0 ≡ key → IsFirstRefusal ms key refused.1
    → MatchResult r (λ _. IsOk (sections_at ms)) (λ found. IsFirstRefusal ms found.0 found.1)
told ms key r refused is same first = rw is (named ms key refused same first)

-- after the first four are taken the last one decides
pub last_checked : {U : Type 0} → (ms : Members) (r : Result U (SectionKey × SectionFault)) → IsOk (section_by_key Arm1 ms)
    → IsOk (section_by_key Arm2 ms) → IsOk (section_by_key Rotation ms) → IsOk (section_by_key Turn ms)
    → MatchResult r (λ _. IsOk (section_by_key Gripper ms)) (λ found. (found.0 ≡ Gripper) × IsRefusal ms Gripper found.1)
    → MatchResult r (λ _. IsOk (sections_at ms)) (λ found. IsFirstRefusal ms found.0 found.1)
last_checked ms (Ok u) one two three four five = all ms one two three four five
last_checked ms (Err found) one two three four h = named ms Gripper found h.0 (fifth ms found.1 one two three four h.1)
