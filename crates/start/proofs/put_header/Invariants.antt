-- What the loops of `put_header` keep.
use Prim.Native.Nat.{◌+◌, ◌-◌, ◌≤◌}
use mathlib.Core.Path.{◌≡◌}
use lib.ListN.{length}
use Rattle.model.specs.Format.{header_words}
use Rattle.image.proofs.Listed.{regions_many}
use Rattle.start.proofs.Sizes.{size_from, size_all, head_from}
use Rattle.start.proofs.put_header.Given as goal

abbrev pub invariant-loop-k : goal.invariant-loop-k
invariant-loop-k l = (l.k ≤ regions_many) × (l.at + size_from l.k l.sizes ≡ size_all l.sizes) × (length l.image ≡ length l.initial.image) × (head_from l.k l.at l.sizes l.image ≡ head_from 0 header_words l.sizes l.initial.image)
