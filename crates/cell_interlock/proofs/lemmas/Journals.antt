-- The journal of a line grows by the calls that its pass settles.
use Rattle.cell_interlock.proofs.Names.{◌≡◌, ℕ, Bool, if◌then◌else◌, Result, Ok, Err, List, [], ◌∷◌, ◌++◌, sym, ap, ◌∙◌, subst, append-nil, Machine, Call, Answer, Event, Entry, Reply, Settled, Busy, ModelState, IsSound, next, after, IsLegal, own_events, entry_of, noted, event, Waits, SeenAfter, same_as_itself, after-push, noted-waits, PassView, IsSamePass, HasSeenMore, IsLine, Replied, PassAsks}
use Rattle.std.proofs.Props.{props}
use Rattle.std.proofs.Math.Logic.{∥∥₁_elim, ∥∥₁_map}
use Rattle.cell_rules.specs.declared.heard.LineFault.{LineFault}
use Rattle.cell_rules.proofs.lemmas.Notes.{noted-append, noted-foreign}
use Rattle.cell_interlock.proofs.Settled.{point_waits}

-- the journal of a pass
abbrev pub journal_by : PassView → List Entry
journal_by v = noted v.opening v.seen v.machine

same_journal : (v w : PassView) → IsSamePass v w → journal_by w ≡ noted v.opening w.seen v.machine
same_journal v w same i = noted (same.opening i) w.seen (same.machine i)

last_entry : (s : ModelState) (m : Machine) (c : Call) (a : Answer) (stamp : ℕ) → stamp ≡ (next s m c).stamp → noted s (event m c a ∷ []) m ≡ record { call = c; answer = a; stamp = stamp } ∷ []
last_entry s m c a stamp e =
    ap (λ (b : Bool). if b then entry_of s (event m c a) ∷ [] else []) (same_as_itself m) ∙ ap (λ (n : ℕ). record { call = c; answer = a; stamp = n } ∷ []) (sym e)

-- after a settled call: one more entry, the call's
pub entry-settled : (v w : PassView) (c : Call) (a : Answer) (stamp : ℕ) → IsSamePass v w → SeenAfter v.machine c (Ok (Settled a stamp)) v.opening v.seen w.seen → journal_by w ≡ journal_by v ++ record { call = c; answer = a; stamp = stamp } ∷ []
entry-settled v w c a stamp same seen =
    let t = seen.0 in let h : List Event = t.point in let e : Event = event v.machine c a in
    let at : stamp ≡ (next (after v.opening h) v.machine c).stamp = seen.1 ∙ ap (λ (x : List Event). (after v.opening x).stamp) t.ends ∙ ap (λ (s : ModelState). s.stamp) (after-push v.opening h e) in
    same_journal v w same ∙ ap (λ (x : List Event). noted v.opening x v.machine) t.ends ∙ noted-append v.opening h (e ∷ []) v.machine
    ∙ (λ i. noted-waits v.opening v.machine v.seen h (point_waits v.machine c a v.seen w.seen t) i ++ last_entry (after v.opening h) v.machine c a stamp at i)

-- after a Busy call: nothing new
pub entry-busy : (v w : PassView) → IsSamePass v w → Waits v.machine v.seen w.seen → journal_by w ≡ journal_by v
entry-busy v w same waits = same_journal v w same ∙ noted-waits v.opening v.machine v.seen w.seen waits

-- likewise for a line's call
pub journal-settled : (v w : PassView) (c : Call) (tries : ℕ) (a : Answer) (stamp : ℕ) → Replied [] v c tries (Settled a stamp) w → journal_by w ≡ journal_by v ++ record { call = c; answer = a; stamp = stamp } ∷ []
journal-settled v w c tries a stamp f = entry-settled v w c a stamp f.pass f.seen

pub journal-busy : (v w : PassView) (c : Call) (tries lost stamp : ℕ) → Replied [] v c tries (Busy lost stamp) w → journal_by w ≡ journal_by v
journal-busy v w c tries lost stamp f = entry-busy v w f.pass f.seen.0

-- ---- the invariant of a line

entries_prop : (a b : List Entry) → IsProp (a ≡ b)
entries_prop a b = hlevel props

pub line_journal : (v : PassView) (j : List Entry) → ∥ IsLine v j ∥₁ → j ≡ journal_by v
line_journal v j k = ∥∥₁_elim k (entries_prop j (journal_by v)) (λ l. l.noted_all)

line_after : (tries : ℕ) (v w : PassView) (j k : List Entry) (c : Call) (r : Result Reply LineFault) → IsLine v j → PassAsks tries v c r w → k ≡ journal_by w → IsLine w k
line_after tries v w j k c (Ok reply) l f e = record {
  sound = subst IsSound (sym f.pass.opening) l.sound;
  legal = subst (λ (o : ModelState). IsLegal o w.seen) (sym f.pass.opening) (f.lawful w.seen [] (sym (append-nil w.seen))).legal;
  noted_all = e;
}
line_after tries v w j k c (Err fault) l f e = record {
  sound = subst (λ (x : PassView). IsSound x.opening) (sym f) l.sound;
  legal = subst (λ (x : PassView). IsLegal x.opening x.seen) (sym f) l.legal;
  noted_all = e;
}

-- after a call a pass belongs to the same interlock
pub asks-table : (tries : ℕ) (v w : PassView) (c : Call) (r : Result Reply LineFault) → PassAsks tries v c r w → w.table ≡ v.table
asks-table tries v w c (Ok reply) f = f.pass.table
asks-table tries v w c (Err fault) f = ap (λ (x : PassView). x.table) f

-- a line remains a line after a call
pub line_kept : (tries : ℕ) (v w : PassView) (j k : List Entry) (c : Call) (r : Result Reply LineFault) → ∥ IsLine v j ∥₁ → PassAsks tries v c r w → k ≡ journal_by w → ∥ IsLine w k ∥₁
line_kept tries v w j k c r l f e = ∥∥₁_map l (λ x. line_after tries v w j k c r x f e)

-- nor does it cease to be one when its pass has seen more
line_seen : (v w : PassView) (j : List Entry) → HasSeenMore v w → IsLine v j → IsLine w j
line_seen v w j more l = record {
  sound = subst IsSound (sym more.pass.opening) l.sound;
  legal = subst (λ (o : ModelState). IsLegal o w.seen) (sym more.pass.opening) (more.lawful w.seen [] (sym (append-nil w.seen))).legal;
  noted_all = l.noted_all ∙ sym (entry-busy v w more.pass more.seen);
}

pub line_surveys : (v w : PassView) (j : List Entry) → HasSeenMore v w → ∥ IsLine v j ∥₁ → ∥ IsLine w j ∥₁
line_surveys v w j more l = ∥∥₁_map l (λ x. line_seen v w j more x)

-- a pass that has settled nothing makes a line with an empty journal
pub line_new : (v u : PassView) (j : List Entry) → u ≡ v → own_events v.seen v.machine ≡ [] → IsSound u.opening → IsLegal u.opening u.seen → j ≡ [] → ∥ IsLine v j ∥₁
line_new v u j e none_of k l f = ∣ record {
  sound = subst (λ (x : PassView). IsSound x.opening) e k;
  legal = subst (λ (x : PassView). IsLegal x.opening x.seen) e l;
  noted_all = f ∙ sym (noted-foreign v.opening v.seen v.machine none_of);
} ∣₁
