-- The progress of a simulation that an observer sees.
use Rattle.cell_plant.proofs.Names.{◌≡◌, ◌≢◌, ◌∙◌, ◌-◌, ◌<◌, ℕ, List, [], ◌∷◌, ◌++◌, drop, length, Some, None, Result, Ok, refl, sym, ap, subst, arith, length-drop, ModelState, IsStartState, TurnCall, RunRecord, Turn, CellScales, CellState, cell_at_start, SeesRun, SeesBeginning, IsShown, frame_of, frames_of, frames_after, RunMoment, StepsOn, IsRecordSoFar, first_moment, state_at, CellGauges, Step, IsRunBy, Frame, SeenFault, IsCut, result_of}
use Rattle.cell_parts.specs.Axes.{AreCellScales}
use Rattle.cell_plant.specs.declared.observer.SeenFault.TheVariants.{Memory}
use Rattle.cell_plant.proofs.lemmas.RunSoFar.{RunSoFar, at_start, next_by, next_steps, tells, told_steps}

-- some turns are left
left_none : (n i : ℕ) → i < n → n - i ≢ 0
left_none n i l e = omega arith

pub some_left : (i : ℕ) (ts : List Turn) → i < length ts → drop i ts ≢ []
some_left i ts l e = left_none (length ts) i l (sym (length-drop i ts) ∙ ap (λ (xs : List Turn). length xs) e)

no_rest : (taken rest : List Turn) → [] ≡ taken ++ rest → rest ≡ []
no_rest [] rest e = sym e
no_rest (t ∷ ts) rest e = cc

-- the frames of a run with one more turn
pub frames_push : (c : CellScales) (gives : CellGauges) (w : CellState) (ts : List Turn) (ss : List Step) (t : Turn) (s : Step) → IsRunBy c gives w ts ss → frames_after (ts ++ t ∷ []) (ss ++ s ∷ []) ≡ frames_after ts ss ++ frame_of (Some t) s.asked s.moved ∷ []
frames_push c gives w [] [] t s r = refl
frames_push c gives w (u ∷ ts) (x ∷ ss) t s r = ap (λ fs. frame_of (Some u) x.asked x.moved ∷ fs) (frames_push c gives x.moved ts ss t s r.1.1)
frames_push c gives w _ _ t s r = absurd r

module _ {W E G : Type 0} (sees : W → Frame → Result (Unit {0}) E → W → Type 0) (gives : G → CellGauges) where
  -- one more frame is shown
  shown_next : (w u v : W) (f g : Frame) (fs : List Frame) (result : Result (Unit {0}) E) → IsShown sees w (f ∷ fs) (Ok tt) u → sees u g result v → IsShown sees w (f ∷ fs ++ g ∷ []) result v
  shown_next w u v f g [] result k next = (u, (k, next))
  shown_next w u v f g (h ∷ fs) result k next = (k.0, (k.1.0, shown_next k.0 u v h g fs result k.1.1 next))

  -- what an observer has seen of the run so far
  pub record Watched (w v : W) (turns : List Turn) (result : Result (Unit {0}) E) (m : RunMoment G) : Type 0 where
    pub run : RunSoFar gives turns m
    pub seen : IsShown sees w (frames_of m.opening turns run.steps) result v

  pub starts_watched : (opening : ModelState) (m : RunMoment G) (w v : W) (result : Result (Unit {0}) E) → m ≡ first_moment m.scales m.gauges opening → sees w (frame_of None None (state_at m)) result v → Watched w v [] result m
  starts_watched opening m w v result begins k =
      subst (Watched w v [] result) (sym begins)
      (record { run = at_start gives m.scales m.gauges opening; seen = subst (λ (x : RunMoment G). sees w (frame_of None None (state_at x)) result v) begins k })

  module _ (turns : List Turn) (t : Turn) (before now : RunMoment G) (asked : TurnCall) (w u v : W) (result : Result (Unit {0}) E) (g : Watched w u turns (Ok tt) before) (o : StepsOn gives t before now asked)
      (k : sees u (frame_of (Some t) asked (state_at now)) result v) where
    abbrev by : CellScales → G → ModelState → RunMoment G
    by c five z = record now { scales = c; gauges = five; opening = z }

    shown : sees u (frame_of (Some t) o.step.asked o.step.moved) result v
    shown = subst (λ w'. sees u (frame_of (Some t) o.step.asked w') result v) o.state (subst (λ a. sees u (frame_of (Some t) a (state_at now)) result v) (sym o.is_asked) k)

    next_watched : Watched w v (turns ++ t ∷ []) result (by before.scales before.gauges before.opening)
    next_watched =
        record {
          run = next_by gives turns t before now asked g.run o;
          seen = rw (next_steps gives turns t before now asked g.run o, frames_push before.scales (gives before.gauges) (cell_at_start before.opening) turns g.run.steps t o.step g.run.run)
              (shown_next w u v (frame_of None None (cell_at_start before.opening)) (frame_of (Some t) o.step.asked o.step.moved) (frames_after turns g.run.steps) result g.seen shown);
        }

    pub goes_on_watched : (more : List Turn) → more ≡ turns ++ t ∷ [] → Watched w v more result now
    goes_on_watched more e =
        subst (λ ts. Watched w v ts result now) (sym e)
        (subst (λ z. Watched w v (turns ++ t ∷ []) result (by now.scales now.gauges z)) (sym o.opening)
        (subst (λ five. Watched w v (turns ++ t ∷ []) result (by now.scales five before.opening)) (sym o.gauges)
        (subst (λ c. Watched w v (turns ++ t ∷ []) result (by c before.gauges before.opening)) (sym o.scales) next_watched)))

  -- the whole run, and a run that is cut
  sees_whole : (turns : List Turn) (m : RunMoment G) (w v : W) (r : RunRecord) → AreCellScales m.scales → IsStartState m.opening → Watched w v turns (Ok tt) m → IsRecordSoFar m m.opening r → SeesRun sees m.scales (gives m.gauges) m.opening turns w v r
  sees_whole turns m w v r scales start g k =
      record { tells = tells gives turns m r scales start g.run k; seen = rw (told_steps gives turns m r scales start g.run k) g.seen }

  pub sees_all : (c : CellScales) (five : G) (opening : ModelState) (turns all : List Turn) (m : RunMoment G) (w v : W) (r : RunRecord) → turns ≡ all → m.scales ≡ c → m.gauges ≡ five → m.opening ≡ opening → AreCellScales c → IsStartState opening
      → Watched w v turns (Ok tt) m → IsRecordSoFar m opening r → SeesRun sees c (gives five) opening all w v r
  sees_all c five opening turns all m w v r e f fits o scales start g k =
      subst (λ ts. SeesRun sees c (gives five) opening ts w v r) e
      (subst (λ z. SeesRun sees c (gives five) z turns w v r) o
      (subst (λ x. SeesRun sees c (gives x) m.opening turns w v r) fits
      (subst (λ x. SeesRun sees x (gives m.gauges) m.opening turns w v r) f
      (sees_whole turns m w v r (subst AreCellScales (sym f) scales) (subst IsStartState (sym o) start) g (subst (λ z. IsRecordSoFar m z r) (sym o) k)))))

  pub sees_some : (c : CellScales) (five : G) (opening : ModelState) (turns rest all : List Turn) (m : RunMoment G) (w v : W) (fault : SeenFault E) → all ≡ turns ++ rest → IsCut fault rest → m.scales ≡ c → m.gauges ≡ five → m.opening ≡ opening
      → Watched w v turns (result_of fault) m → SeesBeginning sees c (gives five) opening all w v fault
  sees_some c five opening turns rest all m w v fault e cut f fits o g =
      subst (λ z. SeesBeginning sees c (gives five) z all w v fault) o
      (subst (λ x. SeesBeginning sees c (gives x) m.opening all w v fault) fits
      (subst (λ x. SeesBeginning sees x (gives m.gauges) m.opening all w v fault) f
      (record { taken = turns; rest = rest; begins = e; cut = cut; steps = g.run.steps; run = g.run.run; seen = g.seen })))

  -- memory doesn't run out in a run of no turn
  pub none_cut : (c : CellScales) (given : CellGauges) (opening : ModelState) (turns : List Turn) (w v : W) → turns ≡ [] → SeesBeginning sees c given opening turns w v Memory → ⊥
  none_cut c given opening turns w v none k = k.cut (no_rest k.taken k.rest (sym none ∙ k.begins))
