-- Another check of the sensors leads a program to the same steps.
use Rattle.cell_team.proofs.Names.{ℕ, zero, suc, List, [], ◌∷◌, Option, Result, Answer, Done, Shown, Refused, Event, SensorFault, ModelState, own_events, MovesIn, Reached, Steps, with_senses, CtlFault, DrivesOn, LeadsOrStays, HasCome, program_with_stops, IsStoppedBy}
use Rattle.cell_control.specs.declared.fault.CtlFault.TheVariants as fault
use Rattle.cell_team.proofs.lemmas.Turned.{Stands}

module _ {S Sense Reading Act : Type 0} (t : Steps S Sense Reading Act) (senses : Sense → Result Reading SensorFault → Type 0) where
  abbrev u : Steps S Sense Reading Act
  u = with_senses t senses

  drives_still : (p q : S) → DrivesOn t p q → DrivesOn u p q
  drives_still p q d = record { asks_nothing = d.asks_nothing; reading = d.reading; act = d.act; drives = d.drives; is = d.is }

  leads_still : (a : Answer) (p q : S) → LeadsOrStays t p a q → LeadsOrStays u p a q
  leads_still Done p q k = k
  leads_still (Refused r) p q k = k
  leads_still (Shown owner flag posture) p q k = k

  moves_still : (n : ℕ) (p q : S) → MovesIn (program_with_stops t) n p q → MovesIn (program_with_stops u) n p q
  moves_still zero p q k = k
  moves_still (suc n) p q k = (k.0, drives_still p k.0 k.1, moves_still n k.0 q k.2)

  reached_still : (events : List Event) (p q : S) → Reached (program_with_stops t) p events q → Reached (program_with_stops u) p events q
  reached_still [] p q k = (k.0, moves_still k.0 p q k.1)
  reached_still (e ∷ events) p q k = (k.0, k.1, (k.2.0, moves_still k.2.0 p k.0 k.2.1), k.3, leads_still e.answer k.0 k.1 k.4, reached_still events k.1 q k.5)

  come_still : (opening : ModelState) (history : List Event) (p : S) → HasCome t opening history p → HasCome u opening history p
  come_still opening history p k = reached_still (own_events history t.machine) (t.start opening) p k

  stopped_still : (opening : ModelState) (history : List Event) (p : S) (f : CtlFault) → IsStoppedBy t opening history p f → IsStoppedBy u opening history p f
  stopped_still opening history p f s =
      record { before = s.before; rest = s.rest; call = s.call; refusal = s.refusal; split = s.split; come = come_still opening s.before p s.come; asks = s.asks; stops = s.stops }

  pub stands_still : (opening : ModelState) (history : List Event) (stopped : Option CtlFault) (p : S) → Stands t opening history stopped p → Stands u opening history stopped p
  stands_still opening history stopped p k =
      record { come = come_still opening history p k.come; stopped_by = λ r e. stopped_still opening history p (fault.Refused r) (k.stopped_by r e); not_again = k.not_again }
