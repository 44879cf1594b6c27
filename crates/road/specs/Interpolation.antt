-- Straight lines over a row of a table. The row's entries are `step` tenths of a foot apart, and x is counted
-- in tenths from the first of them.
use Rattle.std.specs.Prelude.{ℕ, ◌+◌, ◌*◌, ◌-◌, ◌/◌, ◌%◌, List, get_or}
use Rattle.numbers.specs.Division.{div_up}

-- FFS-9: the last entry up to x
unfoldable pub entry_before : List ℕ → ℕ → ℕ → ℕ
entry_before row step x = get_or row (x / step) 0

-- FFS-9: the first entry from x on
unfoldable pub entry_after : List ℕ → ℕ → ℕ → ℕ
entry_after row step x = get_or row (div_up x step) 0

-- FFS-9: step times the height at x of the straight line through the entries before and after x
-- Through y0 at x0 and y1 at x0 + step, the straight line has at x the y with step × y = y0 × (x0 + step − x)
-- + y1 × (x − x0).
unfoldable pub weighted_sum : List ℕ → ℕ → ℕ → ℕ
weighted_sum row step x =
    let past = x % step in entry_before row step x * (step - past) + entry_after row step x * past

-- FFS-9: the height at x of the straight line through the entries before and after x; on the rows of the
-- tables the division leaves no rest (specs/Laws)
unfoldable pub interpolated : List ℕ → ℕ → ℕ → ℕ
interpolated row step x = weighted_sum row step x / step
