use Rattle.std.proofs.Common.{◌≡◌, ◌∙◌, ◌∷◌, ap, sym, rules, string_bytes}
use Rattle.toml.specs.Data.{member, string}
use Rattle.toml.specs.View.{members_view, view}
use Rattle.plan_document.specs.Reading.{gives_written, written}
use Rattle.plan_document.proofs.Written.{gives_more, joined, joined-none, string_is}
use Rattle.plan_document.proofs.values.gives_in.Goals as goal

pub entries-preserved : goal.entries-preserved
entries-preserved c =
    let row = c.in_ok-posture_row.field-0 in
    let left = members_view c.next.new.self in
    let step : c.entries.zone-iterator ≡ (c.in-Some.zone.now, c.in-Some.posture.now) ∷ c.next.new.self = search rules in
    let key : string_bytes row.zone ≡ string_bytes c.in-Some.zone.now = c.in_ok-posture_row.ensures.zone ∙ c.as_str-in-entries.ensures.value in
    let value : written row.posture ≡ view c.in-Some.posture.now = ap string c.in_ok-posture_row.ensures.posture ∙ sym (string_is (view c.in-Some.posture.now) c.in-Some-as_str.posture.now (sym c.in-Some-as_str.ensures)) in (
      tt,
      tt,
      ap (λ rs. joined (gives_written rs) left) c.in_ok-push.ensures.items
          ∙ gives_more c.entries.rows.items row left
          ∙ ap (λ k. joined (gives_written c.entries.rows.items) (member k (written row.posture) left)) key
          ∙ ap (λ d. joined (gives_written c.entries.rows.items) (member (string_bytes c.in-Some.zone.now) d left)) value
          ∙ sym (ap (λ it. joined (gives_written c.entries.rows.items) (members_view it)) step)
          ∙ c.entries.invariant.2,
    )

pub returns : goal.returns
returns c =
    sym c.entries.invariant.2
    ∙ ap (λ it. joined (gives_written c.entries.rows.items) (members_view it)) c.in-None.ensures.steps.0
    ∙ joined-none (gives_written c.entries.rows.items)
