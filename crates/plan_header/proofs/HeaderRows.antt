-- The examples of `header_lines_are_met`, `party_lines_are_met`, `readings_are_met`, `masks_are_printed` and
-- `headers_are_whole`.
use Rattle.std.proofs.Common.{refl}
use Rattle.std.specs.Fmt.{digits}
use Rattle.plan_motors.specs.Mask.{mask_of, pattern_of}
use Rattle.plan_header.specs.Headers.{motors_part}
use Rattle.plan_header.specs.Printed.{header_text}
use Rattle.plan_header.specs.HeaderExamples.{CapitalsAreMade, HeaderLines, MaskLines, PartyLines, WholeHeaders}
use Rattle.plan_header.specs.HeaderExamples.{ReadingLines}

pub header-lines : HeaderLines
unfolding digits
header-lines = record {
  zones = refl;
  pose = refl;
  parties = refl;
  keeper = refl;
  lower = refl;
  upper = refl;
  no_zone = refl;
  loft = refl;
  last = refl;
  width = refl;
  first_byte = refl;
  next_byte = refl;
}

pub party-lines : PartyLines
unfolding digits
party-lines = record {
  hosts = refl;
  right_pose = refl;
  poses = refl;
  parties = refl;
  bits = refl;
}

pub reading-lines : ReadingLines
unfolding digits
reading-lines = record {
  flag_and_two = refl;
  flag_and_one = refl;
  one = refl;
  owner_alone = refl;
  second_guest = refl;
}

pub whole-headers : WholeHeaders
unfolding digits header_text motors_part
whole-headers = record {
  names = refl;
  poses = refl;
  word = refl;
  bytes = refl;
  with_motors = refl;
  header = refl;
}

pub mask-lines : MaskLines
unfolding digits mask_of pattern_of motors_part
mask-lines = record { first = refl; second = refl; whole = refl; no_motor = refl }

pub capitals-made : CapitalsAreMade
capitals-made = record { alphabet = refl; others = refl; neighbours = refl }
