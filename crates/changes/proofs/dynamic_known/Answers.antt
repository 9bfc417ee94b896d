-- `dynamic_known`: whether a dynamic type, where there is one, is an entry.
use Rattle.model.specs.Formed.{is_entry}
use Rattle.model.specs.Calls.{dynamic_known}
use Rattle.image.proofs.Laying.{formed_laid}
use Rattle.changes.proofs.dynamic_known.Goals as goal

pub records-requires : goal.records-requires
records-requires c = formed_laid _ c.requires

pub returns-in-None : goal.returns-in-None
unfolding dynamic_known
returns-in-None c = rw c.in-None.is

pub returns-in-Some : goal.returns-in-Some
unfolding dynamic_known is_entry
returns-in-Some c = rw (c.in-Some.is, c.records.ensures)
