use Rattle.std.proofs.Common.{◌≡◌, rules, tests}
use Rattle.cell_types.specs.CallWords.{verb_of}
use Rattle.cell_types.specs.Words.{named, zone_word}
use Rattle.cell_types.proofs.CallLemmas.{zone_call_read, zone_calls}
use Rattle.cell_types.proofs.call.read_with.Goals as goal

pub returns : goal.returns
returns c =
    let zone : c.args.object.now ≡ zone_word c.in_ok-zone.zone = search rules in
    let found : c.find_by_word.result ≡ named verb_of (zone_calls c.in_ok-zone.zone) c.args.verb.now = c.find_by_word.ensures in
    λ call. rw found (rw zone (zone_call_read c.in_ok-zone.zone c.args.verb.now (search (rules, tests)) call))
