-- By gauges that give one position, a schedule has one run from a state.
use Rattle.cell_plant.proofs.Names.{◌≡◌, Bool, true, false, List, [], ◌∷◌, refl, sym, ap, ◌∙◌, subst, Machine, same_machine, one_machine, Turn, CellScales, CellState, CellGauges, steps_by, rig_of, GiveOne, HadMemory, Step, TakesTurnBy, LeadsIfBy, goes_on, IsRunBy, HasOneRun}
use Rattle.cell_unit.specs.Sides.{side_moved}
use Rattle.cell_parts.specs.Axes.{AreCellScales}
use Rattle.cell_plant.proofs.OneTurn.{GotMemory, SameAsk, one_take}
use Rattle.cell_plant.proofs.OneSense.{one_way}
use Rattle.cell_plant.proofs.Stepping.{same_state}

module _ (c : CellScales) (gives : CellGauges) (scales : AreCellScales c) (one : GiveOne gives) where
  module _ (m : Machine) (busy : Bool) (w : CellState) (s s' : Step) (own : s.machine ≡ m) (own' : s'.machine ≡ m) where
    module _ (k : TakesTurnBy c gives m busy w s) (k' : TakesTurnBy c gives m busy w s') (got : GotMemory s.asked) (got' : GotMemory s'.asked) where
      taken_same : SameAsk s.asked s'.asked s.set.interlock s'.set.interlock × (s'.set.side m ≡ s.set.side m)
      taken_same = one_take (steps_by c gives m) (rig_of c m) (one_way c gives scales one m) busy w.interlock s.asked s'.asked s.set.interlock s'.set.interlock got got' (w.side m) (s.set.side m) (s'.set.side m) k.takes k'.takes

      set_side : (b : Bool) (n : Machine) → same_machine m n ≡ b → s'.set.side n ≡ s.set.side n
      set_side true n e = subst (λ x. s'.set.side x ≡ s.set.side x) (one_machine m n e) taken_same.1
      set_side false n e = k'.others_set n e ∙ sym (k.others_set n e)

      set_same : s'.set ≡ s.set
      set_same = same_state s'.set s.set taken_same.0.state_is (λ n. set_side (same_machine m n) n refl)

      moved_side : (b : Bool) (n : Machine) → same_machine m n ≡ b → s'.moved.side n ≡ s.moved.side n
      moved_side true n e = subst (λ x. s'.moved.side x ≡ s.moved.side x) (one_machine m n e) (k'.moved ∙ ap (side_moved (rig_of c m)) taken_same.1 ∙ sym k.moved)
      moved_side false n e = k'.others_moved n e ∙ set_side false n e ∙ sym (k.others_moved n e)

      moved_same : s'.moved ≡ s.moved
      moved_same = same_state s'.moved s.moved (k'.interlock ∙ taken_same.0.state_is ∙ sym k.interlock) (λ n. moved_side (same_machine m n) n refl)

      taken_step : s' ≡ s
      taken_step =
          let machine = own' ∙ sym own in
          let taken = k'.taken ∙ sym k.taken in
          let asked = taken_same.0.asked_is in
          λ i. record { machine = machine i; taken = taken i; asked = asked i; set = set_same i; moved = moved_same i }

    one_step : (b : Bool) → LeadsIfBy b c gives m busy w s → LeadsIfBy b c gives m busy w s' → GotMemory s.asked → GotMemory s'.asked → s' ≡ s
    one_step true k k' got got' = taken_step k k' got got'
    one_step false k k' got got' =
        let machine = own' ∙ sym own in
        let taken = k'.not_taken ∙ sym k.not_taken in
        let asked = k'.asked ∙ sym k.asked in
        let set = k'.set ∙ sym k.set in
        let moved = k'.moved ∙ sym k.moved in
        λ i. record { machine = machine i; taken = taken i; asked = asked i; set = set i; moved = moved i }

  pub one_run : (w : CellState) (turns : List Turn) (steps others : List Step) → IsRunBy c gives w turns steps → IsRunBy c gives w turns others → HadMemory steps → HadMemory others → others ≡ steps
  one_run w [] [] [] r r' got got' = refl
  one_run w (t ∷ ts) (s ∷ ss) (s' ∷ ss') r r' got got' =
      let step = one_step t.machine t.busy w s s' r.0 r'.0 (goes_on w t.machine) r.1.0 r'.1.0 got.0 got'.0 in
      let rest = one_run s.moved ts ss ss' r.1.1 (subst (λ (x : Step). IsRunBy c gives x.moved ts ss') step r'.1.1) got.1 got'.1 in
      λ i. step i ∷ rest i
  one_run w _ _ _ r r' got got' = search

pub has_one_run : (c : CellScales) (gives : CellGauges) → HasOneRun c gives
has_one_run c gives w turns steps others scales one r r' got got' = one_run c gives scales one w turns steps others r r' got got'
