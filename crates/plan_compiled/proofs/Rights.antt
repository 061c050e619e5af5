-- A row that passes all tests is right.
use Rattle.std.proofs.Common.{◌≡◌, ℕ, ◌+◌, ◌-◌, ◌%◌, ◌<◌, ◌^◌, Bool, true, IsTrue, refl, sym, ap, ap₂, ◌∙◌, subst, ltb-true, arith}
use Rattle.std.specs.Prelude.{bit_and, bit_or}
use Rattle.std.proofs.lemmas.Bool.{eqb-true, lt-ltb}
use Rattle.std.proofs.lemmas.Nat.{and_le_l, and_mask, or_comm, or_lt}
use Rattle.std.proofs.Common.{mod-eq_of_lt}
use Rattle.plan_types.specs.declared.answer.Answer.{Answer}
use Rattle.plan_types.specs.Table.{PlanTable, zone_count, place_count}
use Rattle.plan_types.specs.Plan.{IsPlan}
use Rattle.plan_rules.specs.declared.state.State.{State}
use Rattle.plan_rules.specs.State.{zone_at, is_full, one_if, last_stamp}
use Rattle.plan_rules.specs.Sound.{IsLawfulZone}
use Rattle.plan_rules.specs.Reply.{next_by, changed}
use Rattle.plan_rules.specs.PlainLaws.{IsPlain, PlainPlansStay}
use Rattle.plan_word.specs.declared.layout.Field.{Field}
use Rattle.plan_word.specs.declared.layout.Field.TheVariants.{Zone, Place, Stamp, Stop}
use Rattle.plan_word.specs.Layout.{counts_of, has, start_of, width_of}
use Rattle.plan_word.specs.OfPlan.{IsOfPlan}
use Rattle.plan_word.specs.Packed.{zone_code, held, packed}
use Rattle.plan_word.specs.Reading.{told}
use Rattle.plan_word.proofs.lemmas.LaidOut.{held_back, laid_out}
use Rattle.plan_compiled.specs.declared.part.Part.{Part}
use Rattle.plan_compiled.specs.declared.right.Asked.{Asked}
use Rattle.plan_compiled.specs.Row.{Row, no_row}
use Rattle.plan_compiled.specs.Alone.{zone_alone}
use Rattle.plan_compiled.specs.Needs as needs
use Rattle.plan_compiled.specs.Needs.{Fits}
use Rattle.plan_compiled.specs.Rows.{matches, written, part_in, IsRight}
use Rattle.plan_compiled.specs.Right.{AreRightZones, AreRightPlaces, IsRightStop, KeepsStamp}
use Rattle.plan_compiled.proofs.PlainPlans.{AreAlone, alone_back, code_below}
use Rattle.plan_compiled.proofs.Words.{told_written, told_matches, whole, stamp_up}
use Rattle.plan_compiled.proofs.Fitting.{fits_done}
use Rattle.plan_compiled.proofs.After.{zone_changed, place_changed, stop_changed}

-- what the tests find of a row
pub record Passed (t : PlanTable) (a : Asked) (p : Part) : Type 0 where
  pub may : needs.may_ask t a.machine a.call ≡ true
  pub stamp : KeepsStamp (counts_of t) p
  pub stop : (stopped : Bool) → IsRightStop t a (part_in (counts_of t) p Stop) stopped
  pub places : AreRightPlaces t a p (place_count t)
  pub zones : AreRightZones t a p (zone_count t)

-- what they find at the word of a state
record Seen (t : PlanTable) (a : Asked) (p : Part) (s : State) : Type 0 where
  zone : (z : ℕ) → z < zone_count t → IsTrue (needs.zone_fits t a.machine a.call a.room z (zone_at s z))
      × (told (counts_of t) (written p (packed t s)) (Zone z) ≡ zone_code t z (needs.zone_after t a.machine a.call z (zone_at s z)))
  place : (q : ℕ) → q < place_count t → IsTrue (needs.place_fits t a.machine a.call a.room q (is_full s q))
      × (told (counts_of t) (written p (packed t s)) (Place q) ≡ one_if (needs.place_after t a.machine a.call q (is_full s q)))
  stop : IsTrue (needs.stop_fits t a.call s.stopped)
      × (told (counts_of t) (written p (packed t s)) Stop ≡ one_if (needs.stop_after a.call s.stopped))
  stamp : told (counts_of t) (written p (packed t s)) Stamp ≡ s.stamp

kept : (n k : ℕ) → n < 2 ^ k → bit_or (bit_and n (2 ^ k - 1)) 0 ≡ n
kept n k small = or_comm (bit_and n (2 ^ k - 1)) 0 ∙ and_mask n k ∙ mod-eq_of_lt small

-- a field's number is that of the state, and is as the row wants it
wanted : (t : PlanTable) (p : Part) (s : State) → IsOfPlan t s → matches p (packed t s) ≡ true → (f : Field) → IsTrue (has (counts_of t) f) → matches (part_in (counts_of t) p f) (held t s f) ≡ true
wanted t p s k e f h =
    subst (λ n. matches (part_in (counts_of t) p f) n ≡ true) (held_back t s k.sound.stamp_in_range f h) (told_matches (counts_of t) p (packed t s) f e)

becomes : (t : PlanTable) (p : Part) (s : State) → IsOfPlan t s → (f : Field) → IsTrue (has (counts_of t) f) → told (counts_of t) (written p (packed t s)) f ≡ written (part_in (counts_of t) p f) (held t s f)
becomes t p s k f h = told_written (counts_of t) p (packed t s) f ∙ ap (written (part_in (counts_of t) p f)) (held_back t s k.sound.stamp_in_range f h)

seen : (t : PlanTable) (a : Asked) (p : Part) → IsPlain t → Passed t a p → (s : State) → IsOfPlan t s → matches p (packed t s) ≡ true → Seen t a p s
seen t a p plain r s k e = record {
  zone = λ z l.
      let v = zone_at s z in
      let h = lt-ltb z (zone_count t) l in
      let lawful = k.sound.zone_is_lawful z l in
      let back : zone_alone t z (zone_code t z v) ≡ v = alone_back t s z plain k l in
      let own = part_in (counts_of t) p (Zone z) in
      let found = r.zones z l (zone_code t z v) (code_below t z v plain) (subst (IsLawfulZone t z) (sym back) lawful) (ap (zone_code t z) back) (wanted t p s k e (Zone z) h) in (
        subst (λ x. IsTrue (needs.zone_fits t a.machine a.call a.room z x)) back found.0,
        becomes t p s k (Zone z) h ∙ found.1 ∙ ap (λ x. zone_code t z (needs.zone_after t a.machine a.call z x)) back,
      );
  place = λ q l.
      let h = lt-ltb q (place_count t) l in
      let found = r.places q l (is_full s q) (wanted t p s k e (Place q) h) in
      (found.0, becomes t p s k (Place q) h ∙ found.1);
  stop = let found = r.stop s.stopped (wanted t p s k e Stop refl) in (found.0, becomes t p s k Stop refl ∙ found.1);
  stamp =
      let small = k.sound.stamp_in_range in
      let fits : s.stamp < 2 ^ 20 = omega arith in
      becomes t p s k Stamp refl ∙ ap₂ (λ a b. bit_or (bit_and s.stamp a) b) r.stamp.kept r.stamp.unset ∙ kept s.stamp 20 fits;
}

fits : (t : PlanTable) (a : Asked) (p : Part) → Passed t a p → (s : State) → Seen t a p s → s.stamp < last_stamp → Fits t a.machine a.call a.room s
fits t a p r s h l = record {
  may = r.may;
  zones = λ z l. (h.zone z l).0;
  places = λ q l. (h.place q l).0;
  stop = h.stop.0;
  fresh = l;
}

-- the state after the call, but for its stamp
abbrev unstamped : PlanTable → State → Asked → State
unstamped t s a = record (changed t s a.machine a.call) { stamp = s.stamp }

each : (t : PlanTable) (a : Asked) (p : Part) (s : State) → IsPlan t → AreAlone t s → IsOfPlan t s → Seen t a p s → Fits t a.machine a.call a.room s → (f : Field) → IsTrue (has (counts_of t) f)
    → told (counts_of t) (written p (packed t s)) f ≡ held t (unstamped t s a) f
each t a p s k alone o h f (Zone z) i =
    let l = ltb-true z (zone_count t) i in
    (h.zone z l).1 ∙ ap (zone_code t z) (sym (zone_changed t s a.machine a.call k alone o.sound z l))
each t a p s k alone o h f (Place q) i =
    let l = ltb-true q (place_count t) i in
    (h.place q l).1 ∙ ap one_if (sym (place_changed t s a.machine a.call a.room k o.sound f q l))
each t a p s k alone o h f Stamp i = h.stamp
each t a p s k alone o h f Stop i = h.stop.1 ∙ ap one_if (sym (stop_changed t s a.machine a.call))

pub rights : PlainPlansStay → (t : PlanTable) (a : Asked) (p : Part) (r : Row) → IsPlan t → IsPlain t → Passed t a p → r ≡ record { machine = a.machine; call = a.call; part = p } → IsRight t r
rights stay t a p r k plain q is = subst (IsRight t) (sym is) (record {
  done = λ s o e l. let h = seen t a p plain q s o e in fits_done t s a.machine a.call a.room k (λ z. stay t s z plain) (fits t a p q s h l);
  next = λ s o e l.
      let alone : AreAlone t s = λ z. stay t s z plain in
      let h = seen t a p plain q s o e in
      let f = fits t a p q s h l in
      let done = fits_done t s a.machine a.call a.room k alone f in
      let w = packed t s in
      let within = (laid_out t s o).bound in
      let below : written p w < 2 ^ width_of (counts_of t) = or_lt (width_of (counts_of t)) (bit_and w p.keep) p.set (let small = and_le_l w p.keep in omega (arith, small, within)) q.stamp.within in
      let same : packed t (unstamped t s a) ≡ written p w = whole t (unstamped t s a) (written p w) below (each t a p s k alone o h f) in
      ap (λ (x : Answer). packed t (next_by x t s a.machine a.call)) done
      ∙ stamp_up t (changed t s a.machine a.call) s.stamp
      ∙ ap (λ n. n + 2 ^ start_of (counts_of t) Stamp) same;
})

-- ---- a row that no word matches
no_match : (n : ℕ) → matches no_row.part n ≡ true → ⊥
no_match n e =
    let is : bit_and n 0 ≡ 1 = eqb-true (bit_and n 0) 1 e in
    let none : bit_and n 0 ≡ n % 1 = and_mask n 0 in
    omega (arith, is, none)

pub no_row_right : (t : PlanTable) → IsRight t no_row
no_row_right t = record {
  done = λ s o e l. absurd (no_match (packed t s) e);
  next = λ s o e l. absurd (no_match (packed t s) e);
}
