-- The word after a call is that of the next state, by what the call's guards give.
use Rattle.cell_word.proofs.Names.{◌≡◌, ◌≢◌, ℕ, ◌+◌, ◌<◌, ◌^◌, arith, Option, Some, None, Result, ◌∙◌, ap, sym, refl, subst, Machine, Zone, Call, Inquire, Refusal, Answer, Done, Shown, Refused, ModelState, IsSound, reply, refusal, done_unless, next, next_by, packed, with_written, written, first_refusal, unless, guards_of, Pattern, next_keeps}
use Rattle.std.specs.Prelude.{IfOk}
use Rattle.cell_word.specs.Changes.{word_after}
use Rattle.cell_word.proofs.lemmas.RoundTrip.{laid_out}
use Rattle.cell_word.proofs.Changing.{done_written}
use Rattle.cell_word.proofs.GuardsHold.{guards_hold}

abbrev pub IsNoInquiry : Call → Type 0
IsNoInquiry c = (z : Zone) → c ≡ Inquire z → ⊥

-- the answer to a call that is no inquiry
reply_by : (s : ModelState) (m : Machine) (c : Call) → IsNoInquiry c → reply s m c ≡ done_unless (refusal s m c)
reply_by s m (Inquire z) other = absurd (other z refl)
reply_by s m _ other = refl

pub reply_found : (s : ModelState) → IsSound s → (m : Machine) (c : Call) → IsNoInquiry c → (w : ℕ) → packed s ≡ w → (found : Option Refusal) → first_refusal w (guards_of m c) ≡ found
    → reply s m c ≡ done_unless found
reply_found s sound m c other w e found is =
    reply_by s m c other ∙ ap done_unless (sym (guards_hold s sound m c) ∙ ap (λ n. first_refusal n (guards_of m c)) e ∙ is)

-- what the guards give leads to the next state's word, which has 64 bits
abbrev LeadsTo : ModelState → Machine → Call → ℕ → Result Pattern Refusal → Type 0
LeadsTo s m c w r = (word_after w r ≡ packed (next s m c)) × IfOk r (λ p. with_written w p.mask p.wanted + 2 ^ 40 < 2 ^ 64)

leads : (s : ModelState) → IsSound s → (m : Machine) (c : Call) (w : ℕ) → packed s ≡ w → (found : Option Refusal) → reply s m c ≡ done_unless found → LeadsTo s m c w (unless found (written m c))
leads s sound m c w e None is =
    let same : with_written w (written m c).mask (written m c).wanted + 2 ^ 40 ≡ packed (next s m c) = ap (λ n. with_written n (written m c).mask (written m c).wanted + 2 ^ 40) (sym e) ∙ sym (done_written s sound m c is) in
    let bound = (laid_out (next s m c) (next_keeps s m c sound)).bound in
    (same, omega arith)
leads s sound m c w e (Some r) is = (sym e ∙ ap (λ a. packed (next_by a s m c)) (sym is), tt)

leads_by : {r : Result Pattern Refusal} (s : ModelState) → IsSound s → (m : Machine) (c : Call) → IsNoInquiry c → (w : ℕ) → packed s ≡ w → r ≡ unless (first_refusal w (guards_of m c)) (written m c) → LeadsTo s m c w r
leads_by s sound m c other w e is =
    let found = first_refusal w (guards_of m c) in
    subst (LeadsTo s m c w) (sym is) (leads s sound m c w e found (reply_found s sound m c other w e found refl))

pub room_of : {r : Result Pattern Refusal} (w : ℕ) → (s : ModelState) × IsSound s × (packed s ≡ w) → (m : Machine) (c : Call) → IsNoInquiry c → r ≡ unless (first_refusal w (guards_of m c)) (written m c) → IfOk r (λ p. with_written w p.mask p.wanted + 2 ^ 40 < 2 ^ 64)
room_of w known m c other is = (leads_by known.0 known.1 m c other w known.2 is).1

pub after_of : {x : ℕ} {r : Result Pattern Refusal} {call : Call} (w : ℕ) (m : Machine) (c : Call) → call ≡ c → IsNoInquiry c → r ≡ unless (first_refusal w (guards_of m c)) (written m c) → x ≡ word_after w r
    → (s : ModelState) → IsSound s → packed s ≡ w → x ≡ packed (next s m call)
after_of w m c call other is after s sound e = after ∙ (leads_by s sound m c other w e is).0 ∙ ap (λ k. packed (next s m k)) (sym call)

-- a call that changes the word is Done
done_by : (a : Answer) (s : ModelState) (m : Machine) (c : Call) (w : ℕ) → packed s ≡ w → packed (next_by a s m c) ≢ w → Done ≡ a
done_by Done s m c w e changed = refl
done_by (Shown o f q) s m c w e changed = absurd (changed e)
done_by (Refused r) s m c w e changed = absurd (changed e)

pub done_if_changed : {x : ℕ} (s : ModelState) (m : Machine) (c : Call) (w : ℕ) → packed s ≡ w → x ≢ w → x ≡ packed (next s m c) → Done ≡ reply s m c
done_if_changed s m c w e changed is = done_by (reply s m c) s m c w e (λ same. changed (is ∙ same))
