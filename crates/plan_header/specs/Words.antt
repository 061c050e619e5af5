-- Words of what is printed for other languages.
use Rattle.std.specs.Prelude.{ℕ, map}
use Rattle.std.specs.Char.{to_ascii_uppercase}
use Rattle.plan_text.specs.Names.{Text, name_in}
use Rattle.plan_text.specs.Named.{Named}

abbrev pub capitals : Text → Text
capitals text = map to_ascii_uppercase text

abbrev pub machine_name : Named → ℕ → Text
machine_name n machine = name_in n.machines machine

abbrev pub zone_name : Named → ℕ → Text
zone_name n zone = name_in n.zones zone
