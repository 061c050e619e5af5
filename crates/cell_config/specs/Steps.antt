-- A configuration is read step by step, and its first fault is the answer.
use Rattle.std.specs.Prelude.{ℕ, List, Bool, true, false, Option, Some, None, Result, Ok, Err}
use Rattle.toml.specs.Data.{Data, Members, get_member}
use Rattle.cell_config.specs.declared.fault.ConfigFault.{ConfigFault}
use Rattle.cell_config.specs.declared.fault.ConfigFault.TheVariants.{Kind}

-- the next step, unless a fault was found
infixl 10 ◌>>=◌
abbrev pub ◌>>=◌ : {A B : Type 0} → Result A ConfigFault → (A → Result B ConfigFault) → Result B ConfigFault
(Ok x) >>= f = f x
(Err fault) >>= f = Err fault

-- a fault, unless a condition holds
abbrev pub demand : Bool → ConfigFault → Result (Unit {0}) ConfigFault
demand true fault = Ok tt
demand false fault = Err fault

-- a value of the kind that is needed
abbrev pub of_kind : {A B : Type 0} → Option A → (A → Result B ConfigFault) → Result B ConfigFault
of_kind None read = Err Kind
of_kind (Some x) read = read x

-- a value that must be there, and one that may be absent
abbrev pub required : {A : Type 0} → Option Data → ConfigFault → (Data → Result A ConfigFault) → Result A ConfigFault
required None fault read = Err fault
required (Some value) fault read = read value

abbrev pub optional : {A : Type 0} → Option Data → A → (Data → Result A ConfigFault) → Result A ConfigFault
optional None default read = Ok default
optional (Some value) default read = read value

-- what is read at a key whose value has a kind, or a default if the key is absent
abbrev pub at_key : {A B : Type 0} → List ℕ → (Data → Option A) → B → (A → Result B ConfigFault) → Members
    → Result B ConfigFault
at_key key kind default read members = optional (get_member key members) default (λ value. of_kind (kind value) read)
