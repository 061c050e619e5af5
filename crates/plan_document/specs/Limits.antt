-- How many bytes are read of a plan.
use Rattle.std.specs.Prelude.{ℕ, ◌+◌}

-- the most bytes of a document
abbrev pub byte_limit : ℕ
byte_limit = 65536

-- one byte more shows whether there are more
abbrev pub max_bytes_read : ℕ
max_bytes_read = byte_limit + 1
