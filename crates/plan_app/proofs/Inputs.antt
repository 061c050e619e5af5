-- An input that was read up to a number of bytes, and ended before it.
use Rattle.std.proofs.Common.{ℕ, ◌≡◌, ◌≤◌, ◌+◌, List, take, length, Option, Some, None, Result, Ok, Err, IfOk, IfErr, IfSome, ◌∙◌, arith}
use Rattle.std.proofs.lemmas.List.{take_all, length-take}

whole : (most : ℕ) (read bytes : List ℕ) → read ≡ take (most + 1) bytes → length read ≤ most → read ≡ bytes
whole most read bytes is few =
    let count : length (take (most + 1) bytes) ≤ most = rw (← is) few in
    let all : length bytes ≤ most + 1 = omega (arith, count, length-take (most + 1) bytes) in
    is ∙ take_all (most + 1) bytes all

pub whole_if : (most : ℕ) (read : List ℕ) (input : Option (List ℕ)) → IfSome input (λ bytes. read ≡ take (most + 1) bytes)
    → length read ≤ most → IfSome input (λ bytes. read ≡ bytes)
whole_if most read None h few = h
whole_if most read (Some bytes) h few = whole most read bytes h few

pub ok_more : {A E : Type 0} (r : Result A E) (P Q : A → Type 0) → IfOk r P → ((a : A) → P a → Q a) → IfOk r Q
ok_more (Ok a) P Q p more = more a p
ok_more (Err e) P Q p more = tt

pub err_more : {A E : Type 0} (r : Result A E) (P Q : E → Type 0) → IfErr r P → ((e : E) → P e → Q e) → IfErr r Q
err_more (Ok a) P Q p more = tt
err_more (Err e) P Q p more = more e p
