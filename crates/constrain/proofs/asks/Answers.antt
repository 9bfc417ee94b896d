-- By what the search for the name finds.
use mathlib.Core.Path.{sym, ap, ◌∙◌}
use Rattle.disjoint.proofs.Finding.{named_there}
use Rattle.constrain.specs.declared.FieldAsk.TheVariants.{Under}
use Rattle.constrain.proofs.Gathering.{named_by, ask_found, ask_nothing}
use Rattle.constrain.proofs.asks.Goals as goal

pub word-requires-clause-i_in_bounds : goal.word-requires-clause-i_in_bounds
word-requires-clause-i_in_bounds c = named_there _ _ _ _ c.requires.inside (sym c.field_named-found.ensures ∙ c.in-Some.is)

pub returns-in-Some : goal.returns-in-Some
returns-in-Some c =
    ap Under c.word.ensures
    ∙ ask_found _ c.args.a c.requires.inside _
    (named_by _ c.args.a c.word-name.ensures c.field_named-found.ensures c.in-Some.is)

pub returns-in-None : goal.returns-in-None
returns-in-None c =
    c.asks_dynamic.ensures
    ∙ ask_nothing _ c.args.a c.requires.inside _
    (named_by _ c.args.a c.word-name.ensures c.field_named-found.ensures c.in-None.is)
