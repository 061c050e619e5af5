use Rattle.cell_config.proofs.Names.{◌≡◌, Ok, pos, of_z, to_z, w32, refl, rules, axis_scale}
use Rattle.cell_config.proofs.AxisScales.{axis_made}
use Rattle.cell_config.proofs.sections.points_of.Goals as goal

pub unwrap-requires : goal.unwrap-requires
unwrap-requires c =
    let end : to_z w32 (of_z w32 c.args.end) ≡ c.args.end = search rules in
    let tol : to_z w32 c.args.tol ≡ pos c.args.tol = search rules in
    let axis = axis_made c.args.end c.args.raw c.args.tol c.requires.end (record { fits = search rules; wide = c.requires.wide }) c.requires.tol in
    rw ((rw (end, tol) at c.new.ensures.ok).1 axis.scale) refl

pub returns-clause-value : goal.returns-clause-value
returns-clause-value c =
    let end : to_z w32 (of_z w32 c.args.end) ≡ c.args.end = search rules in
    let tol : to_z w32 c.args.tol ≡ pos c.args.tol = search rules in
    let axis = axis_made c.args.end c.args.raw c.args.tol c.requires.end (record { fits = search rules; wide = c.requires.wide }) c.requires.tol in
    let made : c.new.result ≡ Ok (axis_scale c.args.end c.args.raw c.args.tol) = (rw (end, tol) at c.new.ensures.ok).1 axis.scale in
    let is : c.new.result ≡ Ok c.unwrap.result = c.unwrap.ensures in
    cc

pub returns-clause-axis : goal.returns-clause-axis
returns-clause-axis c =
    let end : to_z w32 (of_z w32 c.args.end) ≡ c.args.end = search rules in
    let tol : to_z w32 c.args.tol ≡ pos c.args.tol = search rules in
    let axis = axis_made c.args.end c.args.raw c.args.tol c.requires.end (record { fits = search rules; wide = c.requires.wide }) c.requires.tol in
    let made : c.new.result ≡ Ok (axis_scale c.args.end c.args.raw c.args.tol) = (rw (end, tol) at c.new.ensures.ok).1 axis.scale in
    let is : c.new.result ≡ Ok c.unwrap.result = c.unwrap.ensures in
    let value : c.unwrap.result ≡ axis_scale c.args.end c.args.raw c.args.tol = cc in
    rw value axis
