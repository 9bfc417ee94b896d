-- The number of each kind of answer. Assumes nothing.
use Rattle.std.specs.Prelude.{ℕ}
use Rattle.capi.specs.declared.answers.Kind.{Kind}
use Rattle.capi.specs.declared.answers.Kind.TheVariants as K

abbrev pub kind_number : Kind → ℕ
kind_number K.Done = 0
kind_number K.Yes = 1
kind_number K.More = 2
kind_number K.Failed = 3
kind_number K.Refused = 4
kind_number K.Unopened = 5
