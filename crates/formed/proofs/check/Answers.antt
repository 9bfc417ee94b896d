-- `formed::check` meets its contract. Assumes nothing.
use mathlib.Core.Path.{sym, ◌∙◌}
use Rattle.formed.proofs.Whole.{formed_is, header_whole_lem, all_laid}
use Rattle.formed.proofs.check.Goals as goal

pub returns-then-not-header_right : goal.returns-then-not-header_right
returns-then-not-header_right c = rw (formed_is c.args.image.now c.type_inv.image, sym c.header_right.ensures ∙ c.if-not-header_right.true)

pub regions_right-requires : goal.regions_right-requires
regions_right-requires c = header_whole_lem _ (sym c.header_right.ensures ∙ c.if-not-header_right.false)

pub returns-then-not-regions_right : goal.returns-then-not-regions_right
returns-then-not-regions_right c =
    rw (
      formed_is c.args.image.now c.type_inv.image,
      sym c.header_right.ensures ∙ c.if-not-header_right.false,
      sym c.regions_right.ensures ∙ c.if-not-regions_right.true,
    )

pub rests_zero-requires : goal.rests_zero-requires
rests_zero-requires c =
    all_laid _
    (header_whole_lem _ (sym c.header_right.ensures ∙ c.if-not-header_right.false))
    (sym c.regions_right.ensures ∙ c.if-not-regions_right.false)

pub records_right-requires : goal.records_right-requires
records_right-requires c =
    all_laid _
    (header_whole_lem _ (sym c.header_right.ensures ∙ c.if-not-header_right.false))
    (sym c.regions_right.ensures ∙ c.if-not-regions_right.false)

pub returns : goal.returns
returns c =
    rw (
      formed_is c.args.image.now c.type_inv.image,
      sym c.header_right.ensures ∙ c.if-not-header_right.false,
      sym c.regions_right.ensures ∙ c.if-not-regions_right.false,
      c.rests_zero.ensures,
      c.records_right.ensures,
    )
