-- A limited number of bytes is enough to know whether an input is refused.
use Rattle.std.proofs.Common.{ℕ, ◌≡◌, ◌≢◌, ◌<◌, ◌∙◌, List, length, take, true, Err, refl, sym, ap, arith, inl, inr, nat_lt}
use Rattle.std.proofs.Math.Seq.{take-take}
use Rattle.std.proofs.lemmas.Bool.{cases_lt}
use Rattle.std.proofs.lemmas.Bool.Decides.{nat_tests}
use Rattle.std.proofs.lemmas.List.{length-take, take_all}
use Rattle.cell_replay.specs.Script.{byte_limit, max_bytes_read, is_cut_of, script_outcome}
use Rattle.cell_config.specs.Settings.{settings_of, max_bytes_read as config_bytes_read}
use Rattle.cell_config.specs.Configured.{Refuses}
use Rattle.cell_config.specs.declared.fault.ConfigFault.{ConfigFault}
use Rattle.cell_config.specs.declared.fault.ConfigFault.TheVariants.{Read, Long, Text, Unknown, Missing, Kind, Start, Range, Letter, Memory}
use Rattle.cell_config.proofs.lemmas.LimitLaws.{text_limits}

is_cut : (bytes : List ℕ) → byte_limit < length bytes → is_cut_of bytes ≡ true
is_cut bytes long = let is : nat_lt byte_limit (length bytes) ≡ true = grind (arith, nat_tests) in is

pub script_outcome-prefix : (bytes : List ℕ) → script_outcome (take max_bytes_read bytes) ≡ script_outcome bytes
unfolding script_outcome
script_outcome-prefix bytes =
    elim (cases_lt byte_limit (length bytes)) [
      | inl long ↦ rw (is_cut bytes long, is_cut (take max_bytes_read bytes) (omega (arith, length-take max_bytes_read bytes)), take-take byte_limit max_bytes_read bytes (omega arith)) refl
      | inr short ↦ ap script_outcome (take_all max_bytes_read bytes (omega arith))
    ]

pub settings_of-prefix : (bytes : List ℕ) → settings_of (take config_bytes_read bytes) ≡ settings_of bytes
settings_of-prefix bytes =
    elim (cases_lt 2097152 (length bytes)) [
      | inl long ↦ (text_limits (take config_bytes_read bytes)).too_long (omega (arith, length-take config_bytes_read bytes)) ∙ sym ((text_limits bytes).too_long long)
      | inr short ↦ ap settings_of (take_all config_bytes_read bytes (omega arith))
    ]
