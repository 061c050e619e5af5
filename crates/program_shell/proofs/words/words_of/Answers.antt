use Rattle.std.proofs.Common.{map, string_bytes}
use Rattle.program_shell.proofs.words.words_of.Goals as goal

pub returns : goal.returns
returns g c = (map string_bytes c.in_ok-rest.rest.items, c.in_ok-words_with.ensures)
