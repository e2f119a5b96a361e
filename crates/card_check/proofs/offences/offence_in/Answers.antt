-- `card_check::offences::offence_in` meets its contract.
use native.Mathlib.Omega.{arith}
use mathlib.Core.Path.{sym, ap, ◌∙◌}
use mathlib.Core.Bool.{true, false}
use lib.ListN.{length}
use Rattle.base_value.specs.Reading.{offence_of}
use Rattle.value_number.specs.number.Reading.{number_of}
use Rattle.value_number.specs.packed.Shapes.{size_of}
use Rattle.value_text.specs.text.Texts.{text_of}
use Rattle.value_field.proofs.spelling.Standing.{stretch_le}
use Rattle.card_check.proofs.offences.Sizes.{few}
use Rattle.card_check.proofs.offences.Offences.{as_text, as_comment, as_whole, as_decimal, as_date, as_latitude, as_longitude}
use Rattle.format_layout.specs.packed.Rows.{unpack}
use Rattle.card_check.proofs.offences.offence_in.Goals as goal

pub decimal_shape-requires : goal.decimal_shape-requires
decimal_shape-requires c =
    let w = few (unpack c.args.row).kind _ (sym c.kind_of.ensures ∙ c.in-Decimal.is) c.requires.1 in
    omega (arith, w, stretch_le c.args.s.now, ap length c.number_in-in-Decimal.ensures)

pub returns-in-Text : goal.returns-in-Text
returns-in-Text c =
    c.text_offence.ensures ∙ as_text (unpack c.args.row) _ c.args.s.now (sym c.kind_of.ensures ∙ c.in-Text.is)

pub returns-in-Comment : goal.returns-in-Comment
returns-in-Comment c =
    c.text_offence-in-Comment.ensures ∙ as_comment (unpack c.args.row) _ c.args.s.now (sym c.kind_of.ensures ∙ c.in-Comment.is)

pub returns-in-Whole : goal.returns-in-Whole
returns-in-Whole c =
    let a = c.args in
    c.whole_offence.ensures (text_of a.s.now) (c.whole_size.ensures.size ∙ ap (λ u. size_of (number_of false u)) c.number_in.ensures)
    ∙ as_whole (unpack a.row) _ a.s.now (sym c.kind_of.ensures ∙ c.in-Whole.is)

pub returns-in-Decimal : goal.returns-in-Decimal
returns-in-Decimal c =
    let a = c.args in
    c.decimal_shape.ensures ∙ ap (λ u. offence_of (number_of true u)) c.number_in-in-Decimal.ensures
    ∙ as_decimal (unpack a.row) _ a.s.now (sym c.kind_of.ensures ∙ c.in-Decimal.is)

pub returns-in-Date : goal.returns-in-Date
returns-in-Date c =
    c.read_offence.ensures ∙ as_date (unpack c.args.row) _ c.args.s.now (sym c.kind_of.ensures ∙ c.in-Date.is) _ c.read_date.ensures

pub returns-in-Latitude : goal.returns-in-Latitude
returns-in-Latitude c =
    c.coordinate_offence.ensures ∙ as_latitude (unpack c.args.row) _ c.args.s.now (sym c.kind_of.ensures ∙ c.in-Latitude.is)

pub returns-in-Longitude : goal.returns-in-Longitude
returns-in-Longitude c =
    c.coordinate_offence-in-Longitude.ensures ∙ as_longitude (unpack c.args.row) _ c.args.s.now (sym c.kind_of.ensures ∙ c.in-Longitude.is)
