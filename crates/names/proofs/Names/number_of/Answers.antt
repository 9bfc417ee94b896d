-- `names::Names::number_of` meets its contract. The loop's invariant: none of the first i names has the bytes. Assumes nothing.
use mathlib.Core.Path.{◌≡◌, sym, ◌∙◌}
use mathlib.Core.Bool.{true, false}
use Rattle.names.specs.Names.{name_count, has_bytes}
use Rattle.names.proofs.All.{first_none, first_more, first_hit}
use Rattle.names.proofs.Comparing.{bytes_tell}
use borrow.Author.Rules.{rules}
use Rattle.names.proofs.Names.number_of.Goals as goal

pub loop-i-init : goal.loop-i-init
loop-i-init c = first_none _

pub returns-then-eq : goal.returns-then-eq
returns-then-eq c =
    let bs = c.args.self.now.header.list.now in
    let bytes = c.args.bytes.now in
    let hit : has_bytes bs bytes c.loop-i.i ≡ true = sym (bytes_tell bs _ bytes c.loop-i.i c.name.ensures.bytes) ∙ search rules in
    rw (first_hit (has_bytes bs bytes) c.loop-i.i (name_count bs) (search rules) c.loop-i.invariant hit)

pub loop-i-preserved : goal.loop-i-preserved
loop-i-preserved c =
    let bs = c.args.self.now.header.list.now in
    let bytes = c.args.bytes.now in
    let miss : has_bytes bs bytes c.loop-i.i ≡ false = sym (bytes_tell bs _ bytes c.loop-i.i c.name.ensures.bytes) ∙ search rules in
    first_more (has_bytes bs bytes) c.loop-i.i c.loop-i.invariant miss
