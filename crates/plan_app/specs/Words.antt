-- Words that several texts have.
use Rattle.std.specs.Prelude.{ℕ, nat_eq, [], ◌++◌, codes, if◌then◌else◌}
use Rattle.std.specs.Fmt.{decimal}
use Rattle.plan_text.specs.Names.{Text}

-- `1 zone`, `2 zones`
abbrev pub ending : ℕ → Text
ending count = if nat_eq count 1 then [] else codes "s"

abbrev pub counted : ℕ → Text → Text
counted count kind = decimal count ++ (codes " " ++ (kind ++ ending count))
