use Rattle.std.proofs.Common.{◌≡◌, ◌≤◌, All, map, vec_capacity, vec_len}
use Rattle.plan_workers.specs.Recording.{IsKept}
use Rattle.plan_workers.proofs.plant_record.take_lines_apart.Given as goal

abbrev pub invariant-lines : goal.invariant-lines
invariant-lines l = record {
  rights : l.rights.items ≡ map (λ l. l.line.pass) l.yielded;
  journals : map (λ j. j.items) l.journals.items ≡ map (λ l. l.journal) l.yielded;
  kept : All IsKept l.yielded;
  rights_room : vec_len l.fn.lines ≤ vec_capacity l.rights;
  journals_room : vec_len l.fn.lines ≤ vec_capacity l.journals;
}
