-- The code's two tables, WIDTHS and MOSTS, are the format's list. Assumes nothing.
use Prim.Native.Nat.{ℕ, ◌≤◌, ◌<◌}
use mathlib.Core.Path.{◌≡◌}
use mathlib.Core.List.{List, map}
use lib.ListN.{length, get_or, get_or-map}
use lib.Dec.{leb}
use Rattle.model.specs.Lists.{all}
use Rattle.model.specs.Format.{no_region, rows, regions, newest, entry_width}
use Rattle.laws.proofs.Tests.{all_at, le_of}

abbrev pub widths : List ℕ
widths = map (λ r. r.width) (regions newest)

abbrev pub mosts : List ℕ
mosts = map (λ r. r.most) (regions newest)

-- how many regions there are, and how many of them have their records in a row
abbrev pub regions_many : ℕ
regions_many = length (regions newest)

abbrev pub rows_many : ℕ
rows_many = length (rows newest)

pub width_at : (k : ℕ) → get_or widths k 0 ≡ (get_or (regions newest) k no_region).width
width_at k = get_or-map (λ r. r.width) (regions newest) k no_region

pub most_at : (k : ℕ) → get_or mosts k 0 ≡ (get_or (regions newest) k no_region).most
most_at k = get_or-map (λ r. r.most) (regions newest) k no_region

-- no record is wider than an entry
pub narrow : (k : ℕ) → k < regions_many → get_or widths k 0 ≤ entry_width
unfolding all
narrow k h = le_of (get_or widths k 0) entry_width (all_at (λ n. leb n entry_width) 0 widths tt k h)
