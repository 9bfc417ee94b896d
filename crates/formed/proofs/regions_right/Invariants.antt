-- What the loops of `regions_right` keep.
use Prim.Native.Nat.{◌≤◌, ◌+◌, ◌*◌}
use mathlib.Core.Path.{◌≡◌}
use Rattle.model.specs.Format.{regions, newest, header_words, entry_width, word_end}
use Rattle.model.specs.Parts.{regions_right}
use Rattle.image.proofs.Listed.{regions_many}
use Rattle.formed.proofs.Lying.{tests_from}
use Rattle.formed.proofs.regions_right.Given as goal

abbrev pub invariant-loop-k : goal.invariant-loop-k
invariant-loop-k l = (l.k ≤ regions_many) × (l.at ≤ header_words + entry_width * word_end * l.k) × (tests_from l.image l.k l.at ≡ regions_right (regions newest) 1 header_words l.image)
