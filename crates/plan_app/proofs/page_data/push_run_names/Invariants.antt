use Rattle.std.proofs.Common.{◌≡◌, ◌++◌, string_bytes, flat_map}
use Rattle.std.specs.List.{range_with_len}
use Rattle.plan_app.specs.PageData as spec
use Rattle.plan_app.proofs.page_data.push_run_names.Given as goal

abbrev pub invariant-motors : goal.invariant-motors
invariant-motors l =
    string_bytes l.text
    ≡ string_bytes l.initial.text
    ++ flat_map (spec.run_name l.names l.motors) (range_with_len 0 l.motor)
