-- The text of a configuration's fault.
use Rattle.std.specs.Prelude.{ℕ, List, codes}
use Rattle.cell_config.specs.declared.fault.ConfigFault.{ConfigFault}
use Rattle.cell_config.specs.declared.fault.ConfigFault.TheVariants.{Read, Long, Text, Unknown, Missing, Kind, Start}
use Rattle.cell_config.specs.declared.fault.ConfigFault.TheVariants.{Range, Letter, Memory}

abbrev pub config_fault_text : ConfigFault → List ℕ
config_fault_text Read = codes "read"
config_fault_text Long = codes "config long"
config_fault_text Text = codes "config text"
config_fault_text Unknown = codes "config unknown"
config_fault_text Missing = codes "config missing"
config_fault_text Kind = codes "config kind"
config_fault_text Start = codes "config start"
config_fault_text Range = codes "config range"
config_fault_text Letter = codes "config letter"
config_fault_text Memory = codes "memory"
