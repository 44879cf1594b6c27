-- Division rounded up.
use Rattle.std.specs.Prelude.{ℕ, ◌+◌, ◌-◌, ◌/◌}

-- UNIT-3: a / b rounded up to a whole number, for b above 0
unfoldable pub div_up : ℕ → ℕ → ℕ
div_up a b = (a + (b - 1)) / b
