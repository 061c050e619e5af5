use Rattle.std.proofs.Common.{◌≡◌, ◌+◌, ◌-◌, ◌*◌, ◌∷◌, take, drop, get_or, sym, ◌∙◌, ap, arith}
use Rattle.std.proofs.lemmas.List.{take_rest}
use Rattle.plan_types.proofs.Whole.{cut, uncut, header}
use Rattle.plan_types.proofs.read.parts_of.Goals as goal

pub returns-then-rows-pose_end-clause-none : goal.returns-then-rows-pose_end-clause-none
returns-then-rows-pose_end-clause-none c = λ _ tables whole told.
    let cases = c.in_ok-counts.ensures.cases in
    let counts = c.in_ok-counts.counts.now in
    let rows = c.in_ok-counts.rows.now in
    let is = cut tables (get_or counts 0 0) (get_or counts 1 0) (get_or counts 2 0) (get_or counts 3 0) rows whole
    (told ∙ header c.args.bytes.now counts rows cases.0 cases.1 cases.2) in
    c.if-rows-pose_end.true
    (omega (arith, is.long, c.from-zone_end.ensures, c.from.ensures, c.from-2.ensures))

pub returns-clause-some : goal.returns-clause-some
returns-clause-some c = λ tables whole.
    let cases = c.in_ok-counts.ensures.cases in
    let counts = c.in_ok-counts.counts.now in
    let rows = c.in_ok-counts.rows.now in
    let machines = get_or counts 0 0 in
    let zones = c.from-zone_end.result in
    let poses = c.from.result in
    let places = c.from-2.result in
    let bytes_are : c.args.bytes.now ≡ machines ∷ zones ∷ poses ∷ places ∷ rows =
    rw (c.from-zone_end.ensures, c.from.ensures, c.from-2.ensures)
    (header c.args.bytes.now counts rows cases.0 cases.1 cases.2) in
    let rest = drop (8 * zones) rows in
    let width : 12 * poses ≡ 8 * zones + 12 * poses - 8 * zones = omega arith in
    let pose_part : take (12 * poses) rest ≡ take (8 * zones + 12 * poses - 8 * zones) rest =
    ap (λ n. take n rest) width in
    let place_part = take_rest rows (8 * zones + 12 * poses) in (
      λ told.
          let is = cut tables machines zones poses places rows whole (told ∙ bytes_are) in
          record {
            machines = is.machine_count;
            zones = is.zone_rows;
            poses = is.pose_rows ∙ pose_part;
            places = is.place_rows ∙ sym place_part;
          },
      λ is. uncut tables machines zones poses places rows whole (record {
        machine_count = is.machines;
        zone_rows = is.zones;
        pose_rows = is.poses ∙ sym pose_part;
        place_rows = is.places ∙ place_part;
        long = c.if-rows-pose_end.false;
      }) ∙ sym bytes_are,
    )
