-- The clause says only that the fact has a proof. An entailment is a proposition, so that proof may be opened first.
use seplogic.Bi.Basic.{Entails-prop}
use mathlib.Core.Logic.{∥∥₁_elim}
use base.Logic.{via, mono_r, guard_i, guard_e, emp}
use denote.Triple.Entry.{on_entry}
use borrow.Fn.Kinds.{sig_of}
use Rattle.cell_sensors.specs.Line.{KeepsCalibration}
use Rattle.cell_sensors.specs.contracts.gauge.reveal.F-Fn as fn
use Rattle.cell_sensors.proofs.gauge.reveal.Statement.{statement}
use Rattle.cell_sensors.proofs.gauge.reveal.Lts as lts
use Rattle.cell_sensors.proofs.gauge.reveal.Reads as reads
use Rattle.cell_sensors.proofs.gauge.reveal.Tie as tie

pub reveal_spec : {M : Type 1} → statement M
reveal_spec {M} =
    tie.close (λ F L g d d1 d2 dd w met met1 met2 dropped 𝓤 𝓛 𝓣 y.
    let near = KeepsCalibration ((fn.words F g).pre y.0.3.0.now) ((fn.words F g).post y.0.3.0.now) y.0.3.1.0 in
    via 𝓤 _ (mono_r 𝓤 (on_entry 𝓛 (sig_of 2 (lts.ps F L d d1 d2 dd) (lts.r F L d d1 d2 dd)) y.0.0 y.0.1 y.0.3 y.0.4)
    (guard_e 𝓤 _ (emp 𝓤) (λ p. ∥∥₁_elim (reads.pre-apart F L g d d1 d2 dd y.0.0 y.0.3 p) (Entails-prop 𝓤.op _ _) (λ it. guard_i 𝓤 near (emp 𝓤) it))))
    (lts.spec F L d d1 d2 dd (λ κs a. KeepsCalibration ((fn.words F g).pre a.0.now) ((fn.words F g).post a.0.now) a.1.0) (reads.Post F L g d d1 d2 dd)
    (λ c. c.requires) 𝓤 𝓛 𝓣 y))
