-- The last frame with a plate just taken, of one frame more.
use Rattle.std.proofs.Common.{◌≡◌, ℕ, zero, suc, ◌+◌, ◌<◌, Bool, true, false, List, [], ◌∷◌, ◌++◌, length, take, get_or, Option, Some, None, IfSome, if◌then◌else◌, refl, ap, ◌∙◌, add-one, arith}
use Rattle.std.proofs.lemmas.List.{take_more, length-take-le}
use Rattle.cell_plant.specs.declared.frame.Frame.{Frame}
use Rattle.cell_picture.specs.Parts.{last_take, one_on, takes_plate}

pub no_take : last_take [] ≡ None
unfolding last_take
no_take = refl

-- one place further from a beginning
moved_on : (here : Bool) (t : Bool) (n : ℕ) (o : Option ℕ) → one_on (if here then Some n else o) t ≡ (if here then Some (n + 1) else one_on o t)
moved_on true t n o = refl
moved_on false t n o = refl

pub last_then : (some : List Frame) (f : Frame) → last_take (some ++ (f ∷ [])) ≡ (if takes_plate f then Some (length some) else last_take some)
unfolding last_take
last_then [] f = refl
last_then (g ∷ some) f =
    ap (λ o. one_on o (takes_plate g)) (last_then some f) ∙ moved_on (takes_plate f) (takes_plate g) (length some) (last_take some)
    ∙ ap (λ n. if takes_plate f then Some n else one_on (last_take some) (takes_plate g)) (add-one (length some))

pub one_frame_more : (frames : List Frame) (i : ℕ) (d : Frame) → i < length frames
    → last_take (take (i + 1) frames) ≡ (if takes_plate (get_or frames i d) then Some i else last_take (take i frames))
one_frame_more frames i d h =
    ap last_take (take_more frames i d h) ∙ last_then (take i frames) (get_or frames i d)
    ∙ ap (λ n. if takes_plate (get_or frames i d) then Some n else last_take (take i frames)) (length-take-le i frames (omega arith))

module _ (frames : List Frame) (i : ℕ) (d : Frame) (h : i < length frames) where
  pub taken : takes_plate (get_or frames i d) ≡ true → last_take (take (i + 1) frames) ≡ Some i
  taken t = one_frame_more frames i d h ∙ ap (λ b. if b then Some i else last_take (take i frames)) t

  pub not_taken : takes_plate (get_or frames i d) ≡ false → last_take (take (i + 1) frames) ≡ last_take (take i frames)
  not_taken t = one_frame_more frames i d h ∙ ap (λ b. if b then Some i else last_take (take i frames)) t

pub within_more : (o : Option ℕ) (n : ℕ) → IfSome o (λ place. place < n) → IfSome o (λ place. place < n + 1)
within_more None n h = tt
within_more (Some place) n h = omega arith
