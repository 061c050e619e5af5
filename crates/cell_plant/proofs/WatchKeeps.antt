-- What the watch keeps: its note is the mark of the interlock.
use Rattle.cell_plant.proofs.Names.{◌≡◌, Bool, true, false, not, if◌then◌else◌, Some, refl, sym, ◌∙◌, Machine, Watch, Call, Stop, Resume, Answer, Done, same_machine, ModelState, stop_refusal, resume_refusal, reply, next, next_by, stopped_after, stop_done, resume_done, done_none, Keeping, watch_steps, watch_rig, WatchProgress}

abbrev pub WatchInv : ModelState → WatchProgress → Unit {0} → Type 0
WatchInv z p b = p.has_stopped ≡ z.stopped

no_watch : (b : Bool) (P : Type 0) → b ≡ true → b ≡ false → P
no_watch b P e apart = cc

-- no other machine changes the mark
mark_by : (a : Answer) (z : ModelState) (n : Machine) (c : Call) → reply z n c ≡ a → same_machine n Watch ≡ false → (next_by a z n c).stopped ≡ z.stopped
mark_by Done z n Stop e apart = no_watch (same_machine n Watch) _ (stop_done z n (done_none (stop_refusal z n) e)).0 apart
mark_by Done z n Resume e apart = no_watch (same_machine n Watch) _ (resume_done z n (done_none (resume_refusal z n) e)).0 apart
mark_by _ z n c e apart = refl

pub mark_stays : (z : ModelState) (n : Machine) (c : Call) → same_machine n Watch ≡ false → (next z n c).stopped ≡ z.stopped
mark_stays z n c apart = mark_by (reply z n c) z n c refl apart

-- its own call turns both
turns_both : (b : Bool) (c : Call) (z : ModelState) → Some (if b then Resume else Stop) ≡ Some c → not b ≡ stopped_after z c
turns_both true Resume z e = refl
turns_both false Stop z e = refl
turns_both b c z e = cc

pub watch-keeping : Keeping watch_steps watch_rig WatchInv WatchInv
watch-keeping = record {
  foreign = λ z p b n c apart sound i. i ∙ sym (mark_stays z n c apart);
  rests = λ z p b i. i;
  after_done = λ z p b c e d sound i. turns_both p.has_stopped c z e;
  after_inquiry = λ z p b c owner flag posture e d sound i. i;
  after_drive = λ z p b s reading act e shows senses drives i. i;
  told = λ z p b i. i;
  moves = λ z p b i. i;
}
