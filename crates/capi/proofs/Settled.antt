-- Any two outcomes that a public function's contract allows are equal, result and every word lent: for each public function of the
-- project, in one file. First those for C; then those that they wrap, from their own crates. `Post` is the contract itself, what the
-- function ensures of its arguments, its result and the image at exit. The one exception, `show`, settles place and bytes
-- (docs/DECISIONS.md). Assumes nothing.
use mathlib.Core.Path.{sym, ◌∙◌}
use Rattle.capi.proofs.sheafwinch_start.Reads as c-start
use Rattle.capi.proofs.sheafwinch_make_variable.Reads as c-make-variable
use Rattle.capi.proofs.sheafwinch_make_primitive.Reads as c-make-primitive
use Rattle.capi.proofs.sheafwinch_make_list.Reads as c-make-list
use Rattle.capi.proofs.sheafwinch_make_lambda.Reads as c-make-lambda
use Rattle.capi.proofs.sheafwinch_make_attrset.Reads as c-make-attrset
use Rattle.capi.proofs.sheafwinch_make_named.Reads as c-make-named
use Rattle.capi.proofs.sheafwinch_make_neg.Reads as c-make-neg
use Rattle.capi.proofs.sheafwinch_make_inter.Reads as c-make-inter
use Rattle.capi.proofs.sheafwinch_make_union.Reads as c-make-union
use Rattle.capi.proofs.sheafwinch_mark.Reads as c-mark
use Rattle.capi.proofs.sheafwinch_put_bound.Reads as c-put-bound
use Rattle.capi.proofs.sheafwinch_enter.Reads as c_enter
use Rattle.capi.proofs.sheafwinch_exit.Reads as c-exit
use Rattle.capi.proofs.sheafwinch_set_level.Reads as c-set-level
use Rattle.capi.proofs.sheafwinch_open.Reads as c-open
use Rattle.capi.proofs.sheafwinch_open_equal.Reads as c-open-equal
use Rattle.capi.proofs.sheafwinch_work.Reads as c-work
use Rattle.capi.proofs.sheafwinch_abandon.Reads as c-abandon
use Rattle.capi.proofs.sheafwinch_entry.Reads as c-entry
use Rattle.capi.proofs.sheafwinch_record.Reads as c-record
use Rattle.capi.proofs.sheafwinch_disjoint.Reads as c-disjoint
use Rattle.capi.proofs.sheafwinch_check.Reads as c-check
use Rattle.capi.proofs.sheafwinch_check_names.Reads as c-check-names
use Rattle.capi.proofs.sheafwinch_check_name.Reads as c-check-name
use Rattle.capi.proofs.sheafwinch_count_names.Reads as c-count-names
use Rattle.capi.proofs.sheafwinch_show_name.Reads as c-show-name
use Rattle.capi.proofs.sheafwinch_compare_names.Reads as c-compare-names
use Rattle.capi.proofs.sheafwinch_find_name.Reads as c-find-name
use Rattle.capi.proofs.sheafwinch_resolve.Reads as c-resolve
use Rattle.capi.proofs.sheafwinch_from_left.Reads as c-from-left
use Rattle.capi.proofs.sheafwinch_at_once.Reads as c-at-once
use Rattle.sheafwinch.proofs.Settled.{Settles, SettlesAll}
pub use Rattle.sheafwinch.proofs.Settled.{start_settled, make_variable_settled, make_primitive_settled, make_list_settled, make_lambda_settled, make_attrset_settled, make_named_settled, make_neg_settled, make_inter_settled, make_union_settled, mark_settled, put_bound_settled, enter_settled, exit_settled, set_level_settled, open_settled, open_equal_settled, work_settled, abandon_settled, entry_settled, record_settled, disjoint_settled}
pub use Rattle.names.proofs.Settled.{check_settled, check_name_settled, count_settled, compare_settled, compare_parts_settled, find_settled, place_settled, show_settled}
pub use Rattle.operators.proofs.Settled.{resolve_settled, from_left_settled, at_once_settled}

pub c_start_settled : SettlesAll c-start.Post
c_start_settled κs a x y e f p q = (p.0 ∙ sym q.0, p.1 ∙ sym q.1)

pub c_make_variable_settled : SettlesAll c-make-variable.Post
c_make_variable_settled κs a x y e f p q = (p.0 ∙ sym q.0, p.1 ∙ sym q.1)

pub c_make_primitive_settled : SettlesAll c-make-primitive.Post
c_make_primitive_settled κs a x y e f p q = (p.0 ∙ sym q.0, p.1 ∙ sym q.1)

pub c_make_list_settled : SettlesAll c-make-list.Post
c_make_list_settled κs a x y e f p q = (p.0 ∙ sym q.0, p.1 ∙ sym q.1)

pub c_make_lambda_settled : SettlesAll c-make-lambda.Post
c_make_lambda_settled κs a x y e f p q = (p.0 ∙ sym q.0, p.1 ∙ sym q.1)

pub c_make_attrset_settled : SettlesAll c-make-attrset.Post
c_make_attrset_settled κs a x y e f p q = (p.0 ∙ sym q.0, p.1 ∙ sym q.1)

pub c_make_named_settled : SettlesAll c-make-named.Post
c_make_named_settled κs a x y e f p q = (p.0 ∙ sym q.0, p.1 ∙ sym q.1)

pub c_make_neg_settled : SettlesAll c-make-neg.Post
c_make_neg_settled κs a x y e f p q = (p.0 ∙ sym q.0, p.1 ∙ sym q.1)

pub c_make_inter_settled : SettlesAll c-make-inter.Post
c_make_inter_settled κs a x y e f p q = (p.0 ∙ sym q.0, p.1 ∙ sym q.1)

pub c_make_union_settled : SettlesAll c-make-union.Post
c_make_union_settled κs a x y e f p q = (p.0 ∙ sym q.0, p.1 ∙ sym q.1)

pub c_mark_settled : SettlesAll c-mark.Post
c_mark_settled κs a x y e f p q = (p.0 ∙ sym q.0, p.1 ∙ sym q.1)

pub c_put_bound_settled : SettlesAll c-put-bound.Post
c_put_bound_settled κs a x y e f p q = (p.0 ∙ sym q.0, p.1 ∙ sym q.1)

pub c_enter_settled : SettlesAll c_enter.Post
c_enter_settled κs a x y e f p q = (p.0 ∙ sym q.0, p.1 ∙ sym q.1)

pub c_exit_settled : SettlesAll c-exit.Post
c_exit_settled κs a x y e f p q = (p.0 ∙ sym q.0, p.1 ∙ sym q.1)

pub c_set_level_settled : SettlesAll c-set-level.Post
c_set_level_settled κs a x y e f p q = (p.0 ∙ sym q.0, p.1 ∙ sym q.1)

pub c_open_settled : SettlesAll c-open.Post
c_open_settled κs a x y e f p q = (p.0 ∙ sym q.0, p.1 ∙ sym q.1)

pub c_open_equal_settled : SettlesAll c-open-equal.Post
c_open_equal_settled κs a x y e f p q = (p.0 ∙ sym q.0, p.1 ∙ sym q.1)

pub c_work_settled : SettlesAll c-work.Post
c_work_settled κs a x y e f p q = (p.0 ∙ sym q.0, p.1 ∙ sym q.1)

pub c_abandon_settled : SettlesAll c-abandon.Post
c_abandon_settled κs a x y e f p q = (p.0 ∙ sym q.0, p.1 ∙ sym q.1)

pub c_entry_settled : Settles c-entry.Post
c_entry_settled κs a x y e f p q = p ∙ sym q

pub c_record_settled : Settles c-record.Post
c_record_settled κs a x y e f p q = p ∙ sym q

pub c_disjoint_settled : Settles c-disjoint.Post
c_disjoint_settled κs a x y e f p q = p ∙ sym q

pub c_check_settled : Settles c-check.Post
c_check_settled κs a x y e f p q = p ∙ sym q

pub c_check_names_settled : Settles c-check-names.Post
c_check_names_settled κs a x y e f p q = p ∙ sym q

pub c_check_name_settled : Settles c-check-name.Post
c_check_name_settled κs a x y e f p q = p ∙ sym q

pub c_count_names_settled : Settles c-count-names.Post
c_count_names_settled κs a x y e f p q = p ∙ sym q

pub c_show_name_settled : Settles c-show-name.Post
c_show_name_settled κs a x y e f p q = p ∙ sym q

pub c_compare_names_settled : Settles c-compare-names.Post
c_compare_names_settled κs a x y e f p q = p ∙ sym q

pub c_find_name_settled : Settles c-find-name.Post
c_find_name_settled κs a x y e f p q = p ∙ sym q

pub c_resolve_settled : Settles c-resolve.Post
c_resolve_settled κs a x y e f p q = p ∙ sym q

pub c_from_left_settled : Settles c-from-left.Post
c_from_left_settled κs a x y e f p q = p ∙ sym q

pub c_at_once_settled : Settles c-at-once.Post
c_at_once_settled κs a x y e f p q = p ∙ sym q
