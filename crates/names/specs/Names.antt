-- Name lists: document 01's section "Names", sentence by sentence, and each name call as a function from the bytes of any
-- list, and the call's numbers, to its answer. proofs/Laws.antt shows what follows. Assumes nothing.
use Rattle.std.specs.Prelude.{ℕ, zero, suc, ◌+◌, ◌-◌, ◌*◌, List, [], ◌∷◌, map, Bool, true, false, cond, ◌&&◌, length, get_or, take, drop, eqb, leb, ltb}
use Rattle.model.specs.Lists.{all_of}
use Rattle.model.specs.Format.{names_most}
use Rattle.model.specs.Told.{Told, done, yes, more, failed, refused, unopened, told_refusal}
use Rattle.model.specs.declared.Refusal.TheVariants.{BadNumber, BadNames}

-- "A name list is bytes: count (u16, little endian), count+1 offsets (u16) into the name bytes, then the bytes."
-- the u16, little endian, at a byte
unfoldable pub u16_at : List ℕ → ℕ → ℕ
u16_at bs at = get_or bs at 0 + 256 * get_or bs (at + 1) 0

abbrev pub name_count : List ℕ → ℕ
name_count bs = u16_at bs 0

abbrev pub name_offset : List ℕ → ℕ → ℕ
name_offset bs i = u16_at bs (2 + 2 * i)

-- where the name bytes start: past the count and count+1 offsets
abbrev pub bytes_at : List ℕ → ℕ
bytes_at bs = 4 + 2 * name_count bs

-- where name i starts, and name i - 1 ends
abbrev pub name_at : List ℕ → ℕ → ℕ
name_at bs i = bytes_at bs + name_offset bs i

-- name i: the bytes from there to where the next starts
unfoldable pub name_of : List ℕ → ℕ → List ℕ
name_of bs i = take (name_at bs (i + 1) - name_at bs i) (drop (name_at bs i) bs)

-- a test that passes at each number below n
unfoldable pub all_below : (ℕ → Bool) → ℕ → Bool
all_below p zero = true
all_below p (suc n) = all_below p n && p n

-- the count and the offsets are all there: at least 4 bytes
abbrev pub header_whole : List ℕ → Bool
header_whole bs = leb (bytes_at bs) (length bs)

-- "The first offset is 0, none falls, the last is the number of bytes left."
abbrev pub first_zero : List ℕ → Bool
first_zero bs = eqb (name_offset bs 0) 0

abbrev pub rises_at : List ℕ → ℕ → Bool
rises_at bs i = leb (name_offset bs i) (name_offset bs (i + 1))

abbrev pub none_falls : List ℕ → Bool
none_falls bs = all_below (rises_at bs) (name_count bs)

abbrev pub last_right : List ℕ → Bool
last_right bs = eqb (name_offset bs (name_count bs)) (length bs - bytes_at bs)

-- "At most 4,096 names, each 0 to 255 bytes, strictly ascending."
abbrev pub few_names : List ℕ → Bool
few_names bs = leb (name_count bs) names_most

abbrev pub name_most : ℕ
name_most = 255

abbrev pub short_at : List ℕ → ℕ → Bool
short_at bs i = leb (name_offset bs (i + 1) - name_offset bs i) name_most

abbrev pub none_long : List ℕ → Bool
none_long bs = all_below (short_at bs) (name_count bs)

-- "Two names compare as −1, 0 or 1 by unsigned bytes, a proper prefix first." Each is told one higher: 0, 1, 2
abbrev pub before : ℕ
before = 0

abbrev pub same : ℕ
same = 1

abbrev pub after : ℕ
after = 2

unfoldable pub compare_names : List ℕ → List ℕ → ℕ
compare_names [] [] = same
compare_names [] (y ∷ ys) = before
compare_names (x ∷ xs) [] = after
compare_names (x ∷ xs) (y ∷ ys) = cond (ltb x y) before (cond (ltb y x) after (compare_names xs ys))

abbrev pub ascends_at : List ℕ → ℕ → Bool
ascends_at bs i = eqb (compare_names (name_of bs i) (name_of bs (i + 1))) before

abbrev pub ascending : List ℕ → Bool
ascending bs = all_below (ascends_at bs) (name_count bs - 1)

-- a list that is not malformed passes each of these
abbrev pub tests : List ℕ → List Bool
tests bs = header_whole bs ∷ first_zero bs ∷ none_falls bs ∷ last_right bs ∷ few_names bs ∷ none_long bs ∷ ascending bs ∷ []

unfoldable pub names_right : List ℕ → Bool
names_right bs = all_of (tests bs)

-- "a name call tests 12 before 2": BAD NAMES, the name list malformed; BAD NUMBER, one of the call's name numbers at or
-- above the count; else the call's own answer
unfoldable pub name_call : List ℕ → List ℕ → Told → Told
name_call bs numbers answer =
    cond (names_right bs)
    (cond (all_of (map (λ n. ltb n (name_count bs)) numbers)) answer (told_refusal BadNumber))
    (told_refusal BadNames)

unfoldable pub check_names : List ℕ → Told
check_names bs = name_call bs [] (done [])

unfoldable pub check_name : List ℕ → ℕ → Told
check_name bs n = name_call bs (n ∷ []) (done [])

unfoldable pub count_names : List ℕ → Told
count_names bs = name_call bs [] (done (name_count bs ∷ []))

unfoldable pub compare_at : List ℕ → ℕ → ℕ → Told
compare_at bs i j = name_call bs (i ∷ j ∷ []) (done (compare_names (name_of bs i) (name_of bs j) ∷ []))

-- the first number below n at which a test passes, if there is one
abbrev pub or_else : List ℕ → List ℕ → List ℕ
or_else [] next = next
or_else (i ∷ is) next = i ∷ is

unfoldable pub first_below : (ℕ → Bool) → ℕ → List ℕ
first_below p zero = []
first_below p (suc n) = or_else (first_below p n) (cond (p n) (n ∷ []) [])

abbrev pub has_bytes : List ℕ → List ℕ → ℕ → Bool
has_bytes bs name i = eqb (compare_names (name_of bs i) name) same

-- the number of the name that has these bytes
abbrev pub name_number : List ℕ → List ℕ → List ℕ
name_number bs name = first_below (has_bytes bs name) (name_count bs)

unfoldable pub find_name : List ℕ → List ℕ → Told
find_name bs name = name_call bs [] (done (name_number bs name))

-- "A name is shown as the part of the lent list that holds it; if refused, as the empty part, and a check call tells why."
abbrev pub accepted : Told → Bool
accepted (done vs) = true
accepted yes = false
accepted more = false
accepted (failed n vs) = false
accepted (refused n vs) = false
accepted (unopened n vs) = false

unfoldable pub show_name : List ℕ → ℕ → List ℕ
show_name bs n = cond (accepted (check_name bs n)) (name_of bs n) []

-- where in the lent list the part shown starts
unfoldable pub shown_at : List ℕ → ℕ → ℕ
shown_at bs n = cond (accepted (check_name bs n)) (name_at bs n) 0

-- the same for a caller who gets two numbers: where the name starts, and how many bytes it has
unfoldable pub place_name : List ℕ → ℕ → Told
place_name bs n = name_call bs (n ∷ []) (done (name_at bs n ∷ length (name_of bs n) ∷ []))

-- to compute: unfolds the calls
unfoldable pub calling : Unit {0}
unfolding all_of name_call check_names check_name count_names compare_at find_name show_name shown_at place_name
calling = tt
