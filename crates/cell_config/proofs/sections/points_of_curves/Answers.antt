use Rattle.cell_config.proofs.Names.{◌≡◌, List, [], ◌∷◌, length, map, get_or, refl, arith, Curved, Scale}
use Rattle.cell_config.proofs.sections.points_of_curves.Goals as goal

-- the scales of five curves, one by one
five_scales : (cs : List Curved) (v w x y z : Curved) → length cs ≡ 5
    → ◌≡◌ {A = List Scale} ((get_or cs 0 v).scale ∷ (get_or cs 1 w).scale ∷ (get_or cs 2 x).scale ∷ (get_or cs 3 y).scale ∷ (get_or cs 4 z).scale ∷ []) (map (λ curve. curve.scale) cs)
five_scales (a ∷ b ∷ c ∷ d ∷ e ∷ []) v w x y z five = refl
five_scales other v w x y z five = absurd (omega arith)

pub returns : goal.returns
returns c =
    rw (c.points.ensures, c.points-2.ensures, c.points-3.ensures, c.points-4.ensures, c.points-5.ensures)
    (five_scales c.args.curves.now c.index-curves-0.result c.index-curves-1.result c.index-curves-2.result c.index-curves-3.result c.index-curves-4.result c.type_inv.curves)
