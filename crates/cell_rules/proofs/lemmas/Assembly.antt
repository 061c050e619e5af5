-- All laws of a legal history from a sound opening.
use Rattle.cell_rules.proofs.Names.{◌≡◌, List, ◌++◌, sym, subst, ModelState, IsSound, IsLegal, RunsClear, BeltsRunClear, PostureByEvents, EventsFit, HandoverByHolder, Lawful}
use Rattle.cell_types.specs.declared.answer.Event.{Event}
use Rattle.cell_rules.proofs.lemmas.Histories.{throughout, legal-left, sound-after}
use Rattle.cell_rules.proofs.lemmas.HoldsLemmas.{holds_iff_owns}
use Rattle.cell_rules.proofs.HolderLaws.{one_holder, mover_is_host, guest_only_while_open}
use Rattle.cell_rules.proofs.lemmas.Postures.{posture-after}
use Rattle.cell_rules.proofs.lemmas.Keepers.{right_lasts}
use Rattle.cell_rules.proofs.lemmas.Conserved.{plates-kept}
use Rattle.cell_rules.proofs.lemmas.Stamps.{stamp-after}
use Rattle.cell_rules.proofs.lemmas.ClearBelts.{clear-after, belts_by_events}
use Rattle.cell_rules.proofs.Fitting.{OwnersHold, fits}
use Rattle.cell_rules.proofs.lemmas.Stopping.{stopped_along}
use Rattle.cell_rules.proofs.Handing.{no_jump_along, handover_along, refusals_along, changes_counted}

pub posture_by_events : (s : ModelState) (h : List Event) → IsLegal s h → PostureByEvents s h
posture_by_events s h l z = sym (posture-after s h z l)

pub belts_run_clear : (s : ModelState) → IsSound s → RunsClear s → (h : List Event) → IsLegal s h → BeltsRunClear s h
belts_run_clear s k r h l = belts_by_events s h (posture_by_events s h l) (plates-kept s h k l) (one_holder s k h l) (clear-after s h r)

pub events_fit : (s : ModelState) (h : List Event) → IsLegal s h → EventsFit s h
events_fit s h l = fits s h (throughout s (OwnersHold s) (λ before legal m z. (holds_iff_owns s before m z legal).1) h l) l

pub handover_by_holder : (s : ModelState) (h : List Event) → IsLegal s h → HandoverByHolder s h
handover_by_holder s h l = handover_along s h (throughout s (OwnersHold s) (λ before legal m z. (holds_iff_owns s before m z legal).1) h l) l

pub lawful : (s : ModelState) → IsSound s → (h : List Event) → IsLegal s h → Lawful s h
lawful s k h l = record {
  legal = l;
  one_holder = one_holder s k h l;
  mover_is_host = mover_is_host s k h l;
  guest_only_while_open = guest_only_while_open s k h l;
  plates_are_kept = plates-kept s h k l;
  stamp_counts_changes = stamp-after s h l;
  belts_run_clear = λ r. belts_run_clear s k r h l;
  right_lasts = λ before more split. right_lasts s before more k (subst (IsLegal s) split l);
  posture_by_events = posture_by_events s h l;
  stays_sound = sound-after s h k;
  events_fit = events_fit s h l;
  no_jump = no_jump_along s h l;
  handover_by_holder = handover_by_holder s h l;
  stopped_until_resumed = stopped_along s h l;
  changes_are_counted = changes_counted h;
  refusals_tell = refusals_along s h k l;
}

-- and of each prefix of one
pub lawful_at : (s : ModelState) (h before more : List Event) → IsSound s → IsLegal s h → h ≡ before ++ more → Lawful s before
lawful_at s h before more k l e = lawful s k before (legal-left s before more (subst (IsLegal s) e l))
