use Rattle.std.proofs.Common.{◌≡◌, ◌++◌, ◌<◌, length, take, flat_map, sym, ◌∙◌, ap, arith, rules, length-append}
use Rattle.std.proofs.lemmas.List.{length-take}
use Rattle.plan_types.specs.Bytes.{zone_bytes}
use Rattle.plan_types.proofs.Reading.{no_reading}
use Rattle.plan_types.proofs.Same.{same_zone, zone_width, no_some}
use Rattle.plan_types.proofs.Whole.{zones_length}
use Rattle.plan_types.proofs.read.read_zones.Goals as goal

pub returns-in_default-zone_with-clause-none : goal.returns-in_default-zone_with-clause-none
returns-in_default-zone_with-clause-none c = λ _ zones e.
    let rest = c.loop-row.rest.now in
    let cases = c.in-Some.ensures.cases in
    let some : 0 < length rest = omega (arith, cases.2) in
    no_reading zone_bytes (λ _. Unit {0}) 7 zone_width (λ x y _ _ e. same_zone x y e) c.loop-row.sheet.zones zones
    c.args.bytes.now rest (λ k d below. tt) (λ k d below. tt) c.loop-row.invariant.0 some
    (λ zone _ told.
    no_some c.zone_with.result zone (search rules) ((c.zone_with.ensures zone).1 (told ∙ sym cases.0)))
    e

pub returns-else-is_empty-clause-none : goal.returns-else-is_empty-clause-none
returns-else-is_empty-clause-none c = λ _ zones e.
    let rest = c.loop-row.rest.now in
    let short : length rest < 8 = c.in_default.ensures.cases in
    let some : 0 < length rest = search rules in
    no_reading zone_bytes (λ _. Unit {0}) 7 zone_width (λ x y _ _ e. same_zone x y e) c.loop-row.sheet.zones zones
    c.args.bytes.now rest (λ k d below. tt) (λ k d below. tt) c.loop-row.invariant.0 some
    (λ zone is told.
    let long : length (zone_bytes zone) ≡ length (take 8 rest) = ap length told in
    omega (arith, short, long, zone_width zone is, length-take 8 rest))
    e

pub push_zone-requires : goal.push_zone-requires
push_zone-requires c =
    let zones = c.loop-row.sheet.zones in
    let rest = c.loop-row.rest.now in
    let all : length c.args.bytes.now ≡ length (flat_map zone_bytes zones ++ rest) = ap length c.loop-row.invariant.0 in
    omega (arith, c.requires.few, all, length-append (flat_map zone_bytes zones) rest, zones_length zones, c.in-Some.ensures.cases.2)
