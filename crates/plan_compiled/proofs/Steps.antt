-- A call by a row.
use Rattle.std.proofs.Common.{IsTrue, List, get_or, ◌≡◌, ℕ, ◌+◌, ◌*◌, ◌/◌, ◌%◌, ◌<◌, ◌≤◌, ◌^◌, true, refl, sym, ap, ap₂, ◌∙◌, subst, arith, mod-eq_of_lt}
use Rattle.std.proofs.Math.Nat.{pow-le-pow_right}
use Rattle.std.proofs.lemmas.Nat.{one_shl}
use Rattle.std.proofs.lemmas.List.{get_or_read}
use Rattle.std.specs.List.{All}
use Rattle.plan_types.specs.declared.call.Call.{Call}
use Rattle.plan_types.specs.declared.answer.Answer.TheVariants.{Done}
use Rattle.plan_types.specs.Table.{PlanTable, zone_count}
use Rattle.plan_types.specs.Plan.{IsPlan}
use Rattle.plan_rules.specs.declared.state.State.{State}
use Rattle.plan_rules.specs.Reply.{reply, next}
use Rattle.plan_word.specs.declared.layout.Field.TheVariants.{Stamp}
use Rattle.plan_word.specs.Layout.{counts_of, start_of, width_of}
use Rattle.plan_word.specs.OfPlan.{IsOfPlan}
use Rattle.plan_word.specs.Packed.{packed}
use Rattle.plan_word.proofs.lemmas.LaidOut.{held_back, laid_out}
use Rattle.plan_word.proofs.lemmas.Shapes.{ends_are}
use Rattle.plan_word.proofs.lemmas.Staying.{next_stays}
use Rattle.plan_compiled.specs.Row.{Row, no_row}
use Rattle.plan_compiled.specs.Complete.{row_at, IsRowOf}
use Rattle.plan_compiled.specs.Rows.{matches, written, IsRight}

fits_word : (t : PlanTable) (s : State) → IsPlan t → IsOfPlan t s → packed t s < 2 ^ 64
fits_word t s k o =
    let within = (laid_out t s o).bound in
    let ends = ends_are t (zone_count t) in
    let wide : width_of (counts_of t) ≤ 64 = omega (arith, ends, k.fits_a_word) in
    let more : 2 ^ width_of (counts_of t) ≤ 2 ^ 64 = pow-le-pow_right (omega arith) wide in
    omega (arith, within, more)

-- the stamp, read by its lowest bit
pub stamp_told : (t : PlanTable) (s : State) (bit w : ℕ) → IsOfPlan t s → packed t s ≡ w → bit ≡ start_of (counts_of t) Stamp → w / 2 ^ bit % 2 ^ 20 ≡ s.stamp
stamp_told t s bit w o is bit_is = ap₂ (λ v b. v / 2 ^ b % 2 ^ 20) (sym is) bit_is ∙ held_back t s o.sound.stamp_in_range Stamp refl

abbrev pub Stepped : PlanTable → State → ℕ → Call → ℕ → Type 0
Stepped t s m c n = (reply t s m c ≡ Done) × (n ≡ packed t (next t s m c))

pub stepped : (t : PlanTable) (r : Row) (m : ℕ) (c : Call) (bit w x : ℕ) (s : State) → IsPlan t → IsRight t r → r.machine ≡ m → r.call ≡ c → IsOfPlan t s → packed t s ≡ w
    → matches r.part w ≡ true → bit ≡ start_of (counts_of t) Stamp → bit + 20 ≤ 64 → w / 2 ^ bit % 2 ^ 20 < 1048575 → x ≡ written r.part w
    → Stepped t s m c ((x + (1 * 2 ^ bit) % 2 ^ 64) % 2 ^ 64)
stepped t r m c bit w x s k right own_machine own_call o is match bit_is within fresh x_is =
    let match_s : matches r.part (packed t s) ≡ true = ap (matches r.part) is ∙ match in
    let stamp = stamp_told t s bit w o is bit_is in
    let left : s.stamp < 1048575 = omega (arith, stamp, fresh) in
    let done = right.done s o match_s left in
    let after = right.next s o match_s left in
    let unit : (1 * 2 ^ bit) % 2 ^ 64 ≡ 2 ^ start_of (counts_of t) Stamp = one_shl bit 64 (omega arith) ∙ ap (λ b. 2 ^ b) bit_is in
    let same_x : x ≡ written r.part (packed t s) = x_is ∙ ap (written r.part) (sym is) in
    let sum : x + (1 * 2 ^ bit) % 2 ^ 64 ≡ packed t (next t s r.machine r.call) = ap₂ (λ a b. a + b) same_x unit ∙ sym after in
    let fits = fits_word t (next t s r.machine r.call) k (next_stays t s r.machine r.call k o) in
    let whole : (x + (1 * 2 ^ bit) % 2 ^ 64) % 2 ^ 64 ≡ packed t (next t s r.machine r.call) = ap (λ n. n % 2 ^ 64) sum ∙ mod-eq_of_lt fits in
    subst (λ y. Stepped t s m y ((x + (1 * 2 ^ bit) % 2 ^ 64) % 2 ^ 64)) own_call
    (subst (λ y. Stepped t s y r.call ((x + (1 * 2 ^ bit) % 2 ^ 64) % 2 ^ 64)) own_machine (done, whole))

-- the row that is found for a call
pub record RowIs (t : PlanTable) (row : Row) (m : ℕ) (c : Call) (w : ℕ) : Type 0 where
  pub right : IsRight t row
  pub machine : row.machine ≡ m
  pub call_is : row.call ≡ c
  pub is_met : matches row.part w ≡ true

pub row_found : (t : PlanTable) (xs : List Row) (i m : ℕ) (c : Call) (w : ℕ) (row : Row) → All (IsRight t) xs → IsRowOf xs m c i → IsTrue (matches (row_at xs i).part w) → row ≡ get_or xs i row
    → RowIs t row m c w
row_found t xs i m c w row all own met is =
    let back : row_at xs i ≡ row = sym (get_or_read xs i row own.there is no_row) in
    record {
      right = subst (IsRight t) back (all i no_row own.there);
      machine = ap (λ (r : Row). r.machine) (sym back) ∙ own.machine;
      call_is = ap (λ (r : Row). r.call) (sym back) ∙ own.call_is;
      is_met = subst (λ (r : Row). IsTrue (matches r.part w)) back met;
    }
