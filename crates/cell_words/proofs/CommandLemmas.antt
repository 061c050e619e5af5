-- A command to which others are added.
use Rattle.std.proofs.Common.{◌≡◌, [], ◌∷◌, false, sym, ap, ◌∙◌}
use Rattle.clap.specs.Words.{AddsInTurn, AddsSubcommand, app_of, with_subcommand}
use Rattle.clap.specs.declared.builder.command.Command.{Command}
use Rattle.clap.specs.declared.builder.command.Command.TheViews.{out-Command as fields_of}

pub three_added : (old a b c new : Command) → AddsInTurn AddsSubcommand old (a ∷ b ∷ c ∷ []) new
    → (fields_of a).has_globals ≡ false → (fields_of b).has_globals ≡ false → (fields_of c).has_globals ≡ false
    → app_of new ≡ with_subcommand (with_subcommand (with_subcommand (app_of old) (app_of a).top) (app_of b).top) (app_of c).top
three_added old a b c new (m, one, (n, two, (o, three, is))) ka kb kc =
    ap app_of (sym is) ∙ (three.shape kc ∙ ap (λ x. with_subcommand x (app_of c).top) (two.shape kb ∙ ap (λ x. with_subcommand x (app_of b).top) (one.shape ka)))
