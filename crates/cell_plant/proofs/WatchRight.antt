-- The watch's note is the mark in every state of a run, so the watch is refused only as worn.
use Rattle.cell_plant.proofs.Names.{◌≡◌, ℕ, Bool, true, false, if◌then◌else◌, List, [], ◌∷◌, Option, Some, None, Result, Ok, Err, refl, sym, ap, ◌∙◌, subst, arith, ⊤, nat_lt, then_some, Machine, Watch, Call, Stop, Resume, Refused, Answer, Refusal, Worn, Stopped, NotStopped, Reply, Settled, SensorFault, ModelState, last_stamp, reply, done_unless, IsStartState, LineFault, ◌or◌, Rig, Steps, Performed, PerformsCall, PerformsSensed, Turned}
use Rattle.cell_plant.proofs.Names.{Turns, CtlFault, TurnCall, Turn, Keeping, CellScales, ProgressOf, PartOf, steps_of, rig_of, CellState, cell_at_start, Step, IsRun, goes_on, watch_steps, IsRefusedAsWorn, AreRefusedAsWorn, NotesTheMark, NotesThroughout, WatchNotesTheMark, sound_start}
use Rattle.std.specs.Prelude.{not}
use Rattle.cell_unit.specs.UnitTurns.{Answers}
use Rattle.cell_plant.proofs.lemmas.KeptRuns.{CellInv, LeadsIf, step_keeps}
use Rattle.cell_plant.proofs.SafeRuns.{clear_start}
use Rattle.cell_plant.proofs.WatchKeeps.{WatchInv, watch-keeping}

-- of the other machines nothing need be known
abbrev InvOf : (m : Machine) → ModelState → ProgressOf m → PartOf m → Type 0
InvOf Watch = WatchInv
InvOf m = λ z p b. ⊤

keeps_nothing : {S Sense Reading Act State : Type 0} → (t : Steps S Sense Reading Act) (rig : Rig State Sense Act) → Keeping t rig (λ z p b. ⊤) (λ z p b. ⊤)
keeps_nothing t rig = assumption

keeping_of : (c : CellScales) (m : Machine) → Keeping (steps_of c m) (rig_of c m) (InvOf m) (InvOf m)
keeping_of c Watch = watch-keeping
keeping_of c _ = keeps_nothing _ _

starts : (s : ModelState) → IsStartState s → (m : Machine) → InvOf m s ((cell_at_start s).side m).progress ((cell_at_start s).side m).part
starts s k Watch = sym (ap (λ (z : ModelState). z.stopped) k.same)
starts s k _ = tt

-- a call that nothing bars is refused only as worn
abbrev answer_by : Bool → Bool → Refusal → Answer
answer_by barred fresh why = done_unless (then_some barred why or then_some (not fresh) Worn)

refused_by : (barred fresh : Bool) (why r : Refusal) → barred ≡ false → Refused r ≡ answer_by barred fresh why → r ≡ Worn
refused_by barred fresh why r e k = grind arith

abbrev refused_with : Refusal → ℕ → Result Reply LineFault
refused_with r stamp = Ok (Settled (Refused r) stamp)

pub none_some : {A : Type 0} (a : A) (P : Type 0) → None ≡ Some a → P
none_some a P e = cc

-- a turn asks one call and gets one answer
abbrev AskedAnswer : Type 0
AskedAnswer = Call × Result Reply LineFault

same_of : (asked : TurnCall) (a b : AskedAnswer) → asked ≡ Some a → asked ≡ Some b → a ≡ b
same_of asked a b e f = cc

pub one_call : (asked : TurnCall) (q call : Call) (x y : Result Reply LineFault) → asked ≡ Some (q, x) → asked ≡ Some (call, y) → q ≡ call
one_call asked q call x y e f = ap (λ (a : AskedAnswer). a.0) (same_of asked (q, x) (call, y) e f)

pub one_answer : (asked : TurnCall) (q call : Call) (x y : Result Reply LineFault) → asked ≡ Some (q, x) → asked ≡ Some (call, y) → x ≡ y
one_answer asked q call x y e f = ap (λ (a : AskedAnswer). a.1) (same_of asked (q, x) (call, y) e f)

-- what a turn asks is what its step asks
module _ {S Sense Reading Act : Type 0} (t : Steps S Sense Reading Act) (same : Type 0) (asks : Call → Result Reply LineFault → Type 0) (p : S) (P : Type 0) (f : same → P) (g : (c : Call) (r : Result Reply LineFault) → (t.row p).call ≡ Some c → asks c r → P) where
  call_own : (o : Option Call) (reading : Reading) (r : Performed S Act) → (t.row p).call ≡ o → PerformsCall t o same asks p reading r → P
  call_own None reading r e h = f h.0
  call_own (Some c) reading r e h = g c h.0 e h.1

  sensed_own : (sensed : Result Reading SensorFault) (r : Performed S Act) → PerformsSensed t sensed same asks p r → P
  sensed_own (Err fault) r h = f h.0
  sensed_own (Ok reading) r h = call_own (t.row p).call reading r refl h

  pub turn_own : (stopped : Option CtlFault) (s : Sense) (w : Turned S Act) → Turns t same asks stopped p s w → P
  turn_own (Some fault) s w h = f h.0
  turn_own None s w h = sensed_own h.1.sensed h.0 h.1.performs

module _ (c : CellScales) where
  abbrev Kept : CellState → Type 0
  Kept w = CellInv c InvOf InvOf (keeping_of c) w

  -- a state with its note refuses its call only as worn
  refused_at : (b : Bool) (z : ModelState) (call : Call) (r : Refusal) → b ≡ z.stopped → Some (if b then Resume else Stop) ≡ Some call → Refused r ≡ reply z Watch call → r ≡ Worn
  refused_at true z Resume r e own k = refused_by (not z.stopped) (nat_lt z.stamp last_stamp) NotStopped r (sym (ap not e)) k
  refused_at false z Stop r e own k = refused_by z.stopped (nat_lt z.stamp last_stamp) Stopped r (sym e) k
  refused_at b z call r e own k = cc

  refused_if : (b busy : Bool) (w : CellState) (s : Step) → LeadsIf b c Watch busy w s → NotesTheMark w → (call : Call) (r : Refusal) (stamp : ℕ) → s.asked ≡ Some (call, refused_with r stamp) → r ≡ Worn
  refused_if false busy w s k notes call r stamp e = none_some _ _ (sym k.asked ∙ e)
  refused_if true busy w s k notes call r stamp e =
      let z = w.interlock in
      let y = s.set.interlock in
      let p = (w.side Watch).progress in
      turn_own watch_steps ((y ≡ z) × (s.asked ≡ None)) (λ q x. Answers z Watch busy q x y × (s.asked ≡ Some (q, x))) p (r ≡ Worn)
      (λ h. none_some _ _ (sym h.1 ∙ e))
      (λ q x own h.
      let same : x ≡ refused_with r stamp = one_answer s.asked q call x _ h.1 e in
      refused_at p.has_stopped z q r notes own (subst (λ a. Answers z Watch busy q a y) same h.0).1)
      (w.side Watch).stopped k.takes.sense k.takes.turned k.takes.row

  module _ (w : CellState) (t : Turn) (s : Step) (i : Kept w) (own : s.machine ≡ t.machine) (leads : LeadsIf (goes_on w t.machine) c t.machine t.busy w s) where
    kept : Kept s.set × Kept s.moved
    kept = step_keeps c InvOf InvOf (keeping_of c) (goes_on w t.machine) t.machine t.busy w s refl leads i

    worn_only : IsRefusedAsWorn s
    worn_only call r stamp e asked =
        refused_if (goes_on w Watch) t.busy w s (subst (λ m. LeadsIf (goes_on w m) c m t.busy w s) (sym own ∙ e) leads) (i.each Watch) call r stamp asked

  notes_throughout : (w : CellState) (turns : List Turn) (steps : List Step) → Kept w → IsRun c w turns steps → NotesThroughout w steps
  notes_throughout w [] [] i r = i.each Watch
  notes_throughout w (t ∷ ts) (s ∷ ss) i r =
      let on = kept w t s i r.0 r.1.0 in
      (i.each Watch, (on.0.each Watch, notes_throughout s.moved ts ss on.1 r.1.1))
  notes_throughout w _ _ i r = absurd r

  refused_as_worn : (w : CellState) (turns : List Turn) (steps : List Step) → Kept w → IsRun c w turns steps → AreRefusedAsWorn steps
  refused_as_worn w [] [] i r = tt
  refused_as_worn w (t ∷ ts) (s ∷ ss) i r = (worn_only w t s i r.0 r.1.0, refused_as_worn s.moved ts ss (kept w t s i r.0 r.1.0).1 r.1.1)
  refused_as_worn w _ _ i r = absurd r

  at_start : (s : ModelState) → IsStartState s → Kept (cell_at_start s)
  at_start s k = record { sound = sound_start s k; clear = clear_start s k; each = starts s k }

pub watch_notes : WatchNotesTheMark
watch_notes = record {
  noted = λ c opening turns steps start run. notes_throughout c (cell_at_start opening) turns steps (at_start c opening start) run;
  refused = λ c opening turns steps start run. refused_as_worn c (cell_at_start opening) turns steps (at_start c opening start) run;
}
