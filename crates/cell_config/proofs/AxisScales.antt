-- The scales of axes: raw values that are wide enough, and a tolerance within its limits, make one.
use Rattle.cell_config.proofs.Names.{◌≡◌, ◌<◌, ◌≤◌, ℕ, ℤ, pos, ◌-ℤ◌, ◌≤ℤ◌, Result, Ok, Err, IfOk, MatchResult, refl, arith, ints, Members, Curved, Scale, pairs_of, IsAxisScale, IsAxisEnd, axis_scale, pairs_at, raw_at, section_of, tol_at, ConfigFault}

pub record IsRaw (end : ℤ) (raw : ℕ × ℕ) : Type 0 where
  pub fits : raw.1 < 65536
  pub wide : end ≤ℤ (pos raw.1 -ℤ pos raw.0)

abbrev pub IsTol : ℕ → Type 0
IsTol tol = (1 ≤ tol) × (tol ≤ 10)

pub default_raw : (end : ℤ) → IsAxisEnd end → IsRaw end (0, 4000)
default_raw end k = let within : end ≤ℤ pos 4000 = k.1 in record { fits = omega arith; wide = omega (arith, ints) }

pub axis_made : (end : ℤ) (raw : ℕ × ℕ) (tol : ℕ) → IsAxisEnd end → IsRaw end raw → IsTol tol → IsAxisScale end (axis_scale end raw tol)
axis_made end raw tol k r t =
    record {
      scale = record {
        raws_rise = omega (arith, ints);
        raws_fit = r.fits;
        ats_rise = k.0;
        lowest = omega (arith, ints);
        highest = omega (arith, ints);
        finest = omega (arith, ints);
        coarsest = omega (arith, ints);
      };
      from = refl;
      to = refl;
      wide = r.wide;
    }

-- a curve on the line of an axis, and the section that it is read from
pub axis_kept : {E : Type 0} (end : ℤ) (line : Scale) (r : Result Curved E) → IsAxisScale end line → IfOk r (λ c. c.scale ≡ line) → IfOk r (λ c. IsAxisScale end c.scale)
axis_kept end line (Ok c) axis same = rw same axis
axis_kept end line (Err e) axis same = tt

pub section_told : (end : ℤ) (ms : Members) (raw : ℕ × ℕ) (tol : ℕ) (line : Scale) (r : Result Curved ConfigFault) → raw_at end ms ≡ Ok raw → tol_at ms ≡ Ok tol → line ≡ axis_scale end raw tol
    → MatchResult r (λ c. pairs_at line ms ≡ Ok (pairs_of c)) (λ fault. pairs_at line ms ≡ Err fault) → IfOk r (λ c. c.scale ≡ line)
    → MatchResult r (λ c. section_of end ms ≡ Ok (c.scale, pairs_of c)) (λ fault. section_of end ms ≡ Err fault)
section_told end ms raw tol line (Ok c) is_raw is_tol same pairs scale = simp (is_raw, is_tol, rw same at pairs, rw same at scale)
section_told end ms raw tol line (Err fault) is_raw is_tol same pairs scale = simp (is_raw, is_tol, rw same at pairs)
