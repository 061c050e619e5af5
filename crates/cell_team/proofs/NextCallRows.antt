-- Each machine's next call is heeded, by its name; and how a machine comes on.
use Rattle.cell_team.proofs.Names.{◌≡◌, Bool, true, false, List, ◌∷◌, ◌++◌, Some, Err, inl, inr, refl, ap, same_machine-self, after, Call, Event, Refusal, Refused, Worn, event, fault_of, is_worn, waits_out, ModelState, Steps, CellScales, AreUnstopped, HasCome, programs_of, program_with_stops}
use Rattle.cell_rules.specs.Names.{own_events}
use Rattle.cell_team.proofs.WrongRows.{driven}
use Rattle.cell_team.proofs.lemmas.NextCalls.{next-calls, only_worn}
use Rattle.cell_team.proofs.lemmas.Renewed.{none_refused_renewed}
use Rattle.cell_team.proofs.lemmas.Stopping.{none-stopped}
use Rattle.cell_team.proofs.lemmas.Together.{none-refused}
use Rattle.cell_team.specs.NextCalls.{ComesOn, NextCallsAreHeeded, PastCalls, WasRefusedAtMost}
use Rattle.cell_team.specs.Heeded.{IsUnstopped}
use Rattle.cell_control.specs.declared.fault.CtlFault.TheVariants as fault
use Rattle.std.specs.Prelude.{◌⊎◌}

comes-on : {S Sense Reading Act : Type 0} (t : Steps S Sense Reading Act) → ComesOn t
comes-on t = record {
  leads = λ p q a e. inl e;
  stays = λ p r. inr (refl, refl);
  drives = λ p reading act none drives. record { asks_nothing = none; reading = reading; act = act; drives = drives; is = refl };
  at_its_start = λ opening. (0, refl);
  asks = λ p q r call a later asked leads k. rw (same_machine-self t.machine) (p, q, (0, refl), asked, leads, k);
  goes_on = λ p q r later d k. driven (program_with_stops t) p q r (own_events later t.machine) d k;
  others = λ p r e later apart k. rw apart k;
}

-- a refusal that wasn't awaited, and isn't worn, would have stopped its machine
refused-fault : (r : Refusal) → is_worn r ≡ false → fault_of r ≡ fault.Refused r
refused-fault Worn e = absurd (cc)
refused-fault _ e = refl

at-most : {S Sense Reading Act : Type 0} (t : Steps S Sense Reading Act) (opening : ModelState) (history before rest : List Event) (call : Call) (r : Refusal) (p : S) (waits worn : Bool)
    → waits_out t p r ≡ waits → is_worn r ≡ worn → IsUnstopped t opening history
    → history ≡ before ++ event t.machine call (Refused r) ∷ rest → HasCome t opening before p → (t.row p).call ≡ Some call → (r ≡ Worn) ⊎ (waits_out t p r ≡ true)
at-most t opening history before rest call r p true worn w e free split come asks = inr w
at-most t opening history before rest call r p false true w e free split come asks = inl (only_worn r e)
at-most t opening history before rest call r p false false w e free split come asks =
    absurd (free p r (record { before = before; rest = rest; call = call; refusal = r; split = split; come = come; asks = asks; stops = rw w (ap (λ f. Err f) (refused-fault r e)) }))

past-calls : {S Sense Reading Act : Type 0} (t : Steps S Sense Reading Act) (opening : ModelState) (history : List Event) → IsUnstopped t opening history → WasRefusedAtMost t t.machine opening history
past-calls t opening history free before rest call r p split come asks = at-most t opening history before rest call r p (waits_out t p r) (is_worn r) refl refl free split come asks

past : (c : CellScales) (opening : ModelState) (history : List Event) → AreUnstopped (programs_of c) opening history → PastCalls c opening history
past c opening history k = record {
  feed = past-calls (programs_of c).feed opening history k.feed;
  table = past-calls (programs_of c).table opening history k.table;
  robot = past-calls (programs_of c).robot opening history k.robot;
  press = past-calls (programs_of c).press opening history k.press;
  deposit = past-calls (programs_of c).deposit opening history k.deposit;
  crane = past-calls (programs_of c).crane opening history k.crane;
}

pub next-calls-heeded : (c : CellScales) → NextCallsAreHeeded c
next-calls-heeded c = record {
  from_a_start = λ opening history team start legal feed table robot press deposit crane.
      next-calls c (after opening history) team
      (none-refused c opening history team start legal (record { feed = feed; table = table; robot = robot; press = press; deposit = deposit; crane = crane }));
  past = λ opening history team start legal feed table robot press deposit crane.
      past c opening history
      (none-stopped c opening history team start legal (record { feed = feed; table = table; robot = robot; press = press; deposit = deposit; crane = crane }));
  renewed = λ renewals opening history first team stood legal feed table robot press deposit crane.
      next-calls c (after opening history) team
      (none_refused_renewed c renewals opening history first team stood legal (record { feed = feed; table = table; robot = robot; press = press; deposit = deposit; crane = crane }));
  feed = comes-on (programs_of c).feed;
  table = comes-on (programs_of c).table;
  robot = comes-on (programs_of c).robot;
  press = comes-on (programs_of c).press;
  deposit = comes-on (programs_of c).deposit;
  crane = comes-on (programs_of c).crane;
}
