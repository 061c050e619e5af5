-- Exits by their statuses.
use Rattle.std.proofs.Common.{◌≡◌, ◌≢◌, ◌<◌, ◌≤◌, ℕ, refl, sym, ◌∙◌, arith}
use Rattle.program_shell.specs.Exits.{exit_status}
use Rattle.program_shell.specs.declared.exit.Exit.{Exit}
use Rattle.program_shell.specs.declared.exit.Exit.TheVariants.{Well, Failed, Refused}

pub is_well : (e : Exit) (n : ℕ) → n ≡ exit_status e → n ≡ 0 → e ≡ Well
is_well Well n is k = refl
is_well Failed n is k = let lie : exit_status Failed ≡ 0 = sym is ∙ k in cc
is_well Refused n is k = let lie : exit_status Refused ≡ 0 = sym is ∙ k in cc

pub is_failed : (e : Exit) (n : ℕ) → n ≡ exit_status e → n ≡ 1 → e ≡ Failed
is_failed Well n is k = let lie : exit_status Well ≡ 1 = sym is ∙ k in cc
is_failed Failed n is k = refl
is_failed Refused n is k = let lie : exit_status Refused ≡ 1 = sym is ∙ k in cc

pub is_below : (e : Exit) (n : ℕ) → n ≡ exit_status e → e ≢ Refused → n < 2
is_below Well n is other = let same : n ≡ 0 = is in omega (arith, same)
is_below Failed n is other = let same : n ≡ 1 = is in omega (arith, same)
is_below Refused n is other = absurd (other refl)

pub not_refused : (e : Exit) → e ≡ Failed → e ≢ Refused
not_refused Well k r = cc
not_refused Failed k r = cc
not_refused Refused k r = cc

pub never_well : {P : Type 0} → (e : Exit) → e ≡ Failed → e ≡ Well → P
never_well e k w = let lie : Failed ≡ Well = sym k ∙ w in cc

pub is_at_most_two : (e : Exit) (n : ℕ) → n ≡ exit_status e → n ≤ 2
is_at_most_two Well n is = let same : n ≡ 0 = is in omega (arith, same)
is_at_most_two Failed n is = let same : n ≡ 1 = is in omega (arith, same)
is_at_most_two Refused n is = let same : n ≡ 2 = is in omega (arith, same)
