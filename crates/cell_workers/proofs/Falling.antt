-- A turn of a press that drives.
use Rattle.cell_workers.proofs.Names.{◌≡◌, ℕ, pos, ◌≤ℤ◌, ◌+◌, false, ◌&&◌, ◌||◌, if◌then◌else◌, Some, None, Ok, Err, refl, ap, subst, ◌∙◌, arith, Press, PassAsks, Turns, turned, Off, Minus, press_steps, checked, press_rig, PressShows, counts_with, Counts, Acts, side_set, side_moved, SideOf, passes, answers_in, GateOf, TakesTurn, MomentOf, press_at}
use Rattle.std.proofs.lemmas.Bool.{false_from_ne_true}
use Rattle.std.proofs.lemmas.Int.{ints}
use Rattle.cell_sensors.specs.declared.sense.PressSense.{PressSense}
use Rattle.cell_sensors.specs.declared.sense.SensorFault.TheVariants.{Clash}
use Rattle.cell_control.proofs.lemmas.TurnsByAnswers.{drive_own}
use Rattle.cell_devices.specs.declared.act.PressAct.{PressAct}
use Rattle.cell_table_press.specs.declared.press.PressStep.TheVariants.{MoveToBottom}

abbrev falling : SideOf Press
falling = press_at MoveToBottom 1000 Off

module _ (s : PressSense) (shows : PressShows falling.part s) where
  no_bottom : s.bottom ≡ false
  no_bottom = false_from_ne_true s.bottom (λ on. let low : pos 1000 ≤ℤ pos 10 = shows.bottom.0 on in omega (arith, ints))

  no_middle : s.middle ≡ false
  no_middle = false_from_ne_true s.middle (λ on. let low : pos 1000 ≤ℤ pos 510 = (shows.middle.0 on).1 in omega (arith, ints))

  fine : checked s ≡ Ok s
  fine = λ i. if (no_bottom i && no_middle i) || (no_bottom i && s.top) || (no_middle i && s.top) then Err Clash else Ok s

  drives_down : (act : PressAct) → press_steps.drives falling.progress s act → act ≡ record { press = Minus }
  drives_down act is = is ∙ (λ i. record { press = if no_bottom i then Off else Minus })

module _ (tries : ℕ) (gate : GateOf) (before now : MomentOf Press) (turn : TakesTurn (passes tries) press_steps press_rig gate before now) (e : before.side ≡ falling) where
  abbrev turned_so : Acts press_steps press_rig (now.line ≡ before.line) (λ c a. PassAsks tries before.line c a now.line) before.side turn.asked turn.row.set
  turned_so = turn.row.acts

  shown : PressShows falling.part turned_so.sense
  shown = subst (λ (s : SideOf Press). PressShows s.part turned_so.sense) e turned_so.shows

  abbrev Left : Type 0
  Left = (now.line ≡ before.line) × (turn.asked ≡ None)

  driven : Left × (turned_so.turned ≡ turned falling.progress (Ok (falling.progress, record { press = Minus })))
  driven =
      drive_own press_steps falling.progress turned_so.sense Left (λ c a. PassAsks tries before.line c a now.line × (turn.asked ≡ Some (c, a))) turned_so.sense (record { press = Minus }) turned_so.turned refl
      (λ other is. is ∙ fine turned_so.sense shown) (drives_down turned_so.sense shown)
      (subst (λ (s : SideOf Press). Turns press_steps Left (λ c a. PassAsks tries before.line c a now.line × (turn.asked ≡ Some (c, a))) s.stopped s.progress turned_so.sense turned_so.turned) e turned_so.row)

  pub falls : (now.side ≡ press_at MoveToBottom 980 Minus) × (now.line ≡ before.line) × (now.counts.turns ≡ before.counts.turns + 1) × (answers_in now.counts ≡ answers_in before.counts)
  falls = (
    turn.row.moved ∙ ap (side_moved press_rig) (turned_so.is ∙ (λ i. side_set press_steps press_rig (e i) (driven.0.1 i) (driven.1 i))),
    driven.0.0,
    ap (λ (c : Counts). c.turns) turn.counted,
    ap answers_in turn.counted ∙ ap (λ a. answers_in (counts_with before.counts a)) driven.0.1 ∙ omega arith,
  )
