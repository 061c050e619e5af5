use Rattle.std.proofs.Common.{◌≡◌, map, string_bytes, take}
use Rattle.program_shell.specs.Words.{texts_of}
use Rattle.program_shell.proofs.words.texts_of.Given as goal

abbrev pub invariant-words : goal.invariant-words
invariant-words l = texts_of l.texts.items ≡ map string_bytes (take l.word-index l.words)
