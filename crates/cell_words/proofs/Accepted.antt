-- What `clap` accepts by a command, and its error without room for one.
use Rattle.std.proofs.Common.{◌≡◌, inl, List, [], Result, Ok, Err, IfErr, subst}
use Rattle.clap.specs.Words.{App, HasKind, Kinds, Text, fault_of, kind_of}
use Rattle.clap.specs.declared.error.Error.{Error}
use Rattle.clap.specs.declared.error.kind.ErrorKind.TheVariants as ErrorKind

-- words that a command accepts are accepted by an equal command
pub clean_alike : (a b : App) (words : List Text) → a ≡ b → fault_of a words ≡ [] → fault_of b words ≡ []
clean_alike a b words same h = subst (λ x. fault_of x words ≡ []) same h

pub has_kind : {T : Type 0} (r : Result T Error) (kinds : Kinds) → IfErr r (λ e. kind_of e ≡ ErrorKind.OutOfMemory) → IfErr r (HasKind kinds)
has_kind (Ok x) kinds h = tt
has_kind (Err e) kinds h = inl h
