-- Which gauges give one position, which calls have memory, and what two records don't say alike.
use Rattle.cell_plant.proofs.Names.{◌≡◌, ◌≢◌, ◌∙◌, ◌<◌, pos, refl, sym, subst, arith, [], ◌∷◌, Some, Ok, Err, Result, ap, Call, Reply, LineFault, TurnCall, RunRecord, Status, GivesOne, GiveOne, HadMemory, NoneRefused}
use Rattle.cell_notes.specs.declared.status.Status.TheVariants.{Fine, Worn, Refused as WasRefused}
use Rattle.std.specs.Prelude.{All}
use Rattle.std.proofs.Common.{List}
use Rattle.std.proofs.lemmas.List.Elements.{All-cons, All-nil, All-head, All-tail}
use Rattle.cell_rules.specs.declared.heard.LineFault.TheVariants.{Memory as NoRoom}
use Rattle.cell_rules.specs.Types.{Press, Z3, Claim}
use Rattle.cell_plant.specs.RunExamples.{claims_entry, finds_busy, finds_no_room, is_refused}
use Rattle.cell_plant.specs.GaugeExamples.{OneRunIsTold, any, by_raw}

gives_one : GivesOne by_raw
gives_one raw v w a b = b ∙ sym a

gives_any : GivesOne any → ⊥
gives_any k = let lie : pos 1 ≡ pos 0 = k 0 (pos 0) (pos 1) tt tt in cc

abbrev Asked : Type 0
Asked = Call × Result Reply LineFault

no_fault : (call c : Call) (reply : Reply) (fault : LineFault) → ◌≡◌ {A = TurnCall} (Some (call, Ok reply)) (Some (c, Err fault)) → ⊥
no_fault call c reply fault e =
    let pair : ◌≡◌ {A = Asked} (call, Ok reply) (c, Err fault) = cc in
    let lie : ◌≡◌ {A = Result Reply LineFault} (Ok reply) (Err fault) = ap (λ (x : Asked). x.1) pair in
    cc

had_memory : HadMemory (claims_entry ∷ finds_busy ∷ is_refused ∷ [])
had_memory = (λ c f e. no_fault _ c _ f e, (λ c f e. no_fault _ c _ f e, (λ c f e. no_fault _ c _ f e, tt)))

had_none : HadMemory (claims_entry ∷ finds_no_room ∷ []) → ⊥
had_none k = k.1.0 (Claim Z3) NoRoom refl

abbrev Unrefused : Status → Type 0
Unrefused s = s ≢ WasRefused

none : All Unrefused (Fine ∷ Worn ∷ [])
none = All-cons Unrefused Fine (Worn ∷ []) (λ e. cc) (All-cons Unrefused Worn [] (λ e. cc) (All-nil Unrefused))

none_refused : (r : RunRecord) → r.status ≡ Fine ∷ Worn ∷ [] → NoneRefused r
none_refused r e = subst (λ (x : List Status). All Unrefused x) (sym e) none

one : ¬ All Unrefused (Fine ∷ Worn ∷ WasRefused ∷ [])
one k = All-head Unrefused WasRefused [] (All-tail Unrefused Worn (WasRefused ∷ []) (All-tail Unrefused Fine (Worn ∷ WasRefused ∷ []) k)) refl

one_refused : (r : RunRecord) → r.status ≡ Fine ∷ Worn ∷ WasRefused ∷ [] → NoneRefused r → ⊥
one_refused r e k = one (subst (λ (x : List Status). All Unrefused x) e k)

pub one_run_is_told : OneRunIsTold
one_run_is_told = record {
  gives_one = gives_one;
  gives_any = gives_any;
  give_one = record { arm1 = gives_one; arm2 = gives_one; rotation = gives_one; turn = gives_one; gripper = gives_one };
  had_memory = had_memory;
  had_none = had_none;
  start = λ r s apart k. apart k.start;
  counts = λ r s apart k. apart k.counts;
  status = λ r s apart k. apart k.status;
  journals = λ r s m apart k. apart (k.journals m);
  end = λ r s apart k. apart k.end;
  axes = λ r s apart k. apart k.axes;
  none_refused = none_refused;
  one_refused = one_refused;
}
