-- `names::Header::offsets_right` meets its contract. The loop's invariant: no offset has fallen up to offset i, and none of the first i
-- names is too long. Assumes nothing.
use Prim.Native.Nat.{◌+◌, ◌-◌}
use mathlib.Core.Path.{refl, sym}
use mathlib.Core.Bool.{and-false}
use borrow.Author.Tests.{lt-leb, le-leb}
use Rattle.names.specs.Names.{name_count, name_offset, rises_at, short_at, name_most, none_falls}
use Rattle.names.proofs.All.{all_none, all_more, all_miss}
use borrow.Author.Rules.{rules}
use Rattle.names.proofs.Header.offsets_right.Goals as goal

pub loop-i-init : goal.loop-i-init
loop-i-init c = (all_none _, all_none _)

pub returns-then-offset : goal.returns-then-offset
returns-then-offset c =
    let bs = c.args.self.now.list.now in
    let i = c.loop-i.i in
    rw (all_miss (rises_at bs) i (name_count bs) (search rules) (lt-leb (name_offset bs i) (name_offset bs (i + 1)) (search rules))) refl

pub returns-then-offset-2 : goal.returns-then-offset-2
returns-then-offset-2 c =
    let bs = c.args.self.now.list.now in
    let i = c.loop-i.i in
    rw (all_miss (short_at bs) i (name_count bs) (search rules) (lt-leb (name_offset bs (i + 1) - name_offset bs i) name_most (search rules))) (sym (and-false (none_falls bs)))

pub loop-i-preserved : goal.loop-i-preserved
loop-i-preserved c =
    let bs = c.args.self.now.list.now in
    let i = c.loop-i.i in (
      all_more (rises_at bs) i c.loop-i.invariant.0 (le-leb (name_offset bs i) (name_offset bs (i + 1)) (search rules)),
      all_more (short_at bs) i c.loop-i.invariant.1 (le-leb (name_offset bs (i + 1) - name_offset bs i) name_most (search rules)),
    )
