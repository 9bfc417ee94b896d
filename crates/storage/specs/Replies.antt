-- What putting a bound, entering and leaving a level reply where the numbers are right and the table is idle. Assumes nothing.
use Rattle.std.specs.Prelude.{ℕ, suc, ◌-◌, List, [], not, ltb}
use Rattle.model.specs.Lists.{is_zero}
use Rattle.model.specs.Format.{word_end}
use Rattle.model.specs.Image.{table}
use Rattle.model.specs.Making.{add_bound}
use Rattle.model.specs.Calls.{Response, response_of, leave_if_room, when_level, at_level}
use Rattle.model.specs.Told.{done}
use Rattle.image.specs.Shown.{store_of, bounds_all, bounds_to}

-- done, or NO ROOM with every word as found
abbrev pub bound_response : List ℕ → ℕ → ℕ → ℕ → Response
bound_response w v side b = response_of w (leave_if_room (done []) (bounds_to w (add_bound v side b (bounds_all w))))

-- done, or LEVEL with every word as found
abbrev pub enter_response : List ℕ → Response
enter_response w = response_of w (when_level (ltb (suc (store_of w).level) word_end) (at_level (suc (store_of w).level) (table w)))

abbrev pub exit_response : List ℕ → Response
exit_response w = response_of w (when_level (not (is_zero (store_of w).level)) (at_level ((store_of w).level - 1) (table w)))
