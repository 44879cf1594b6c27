-- The ramp term, in thousandths of mi/h, by whole powers.
use Rattle.std.specs.Prelude.{ℕ, zero, suc, ◌+◌, ◌*◌, ◌-◌, ◌^◌, Bool, ◌&&◌, nat_le, nat_lt, ◌==◌}
use Rattle.numbers.specs.Search.{greatest}

-- FFS-8: t is the manual's 3.22 × (ramps per mile)^0.84 to the nearest thousandth, with k ramps in six miles
unfoldable pub is_ramp_term : ℕ → ℕ → Bool
is_ramp_term zero t = t == 0
is_ramp_term (suc k) t =
    nat_le ((2 * t - 1) ^ 25 * 6 ^ 21) (6440 ^ 25 * suc k ^ 21)
    && nat_lt (6440 ^ 25 * suc k ^ 21) ((2 * t + 1) ^ 25 * 6 ^ 21)

-- FFS-8: the ramp term of k ramps in six miles: to k = 48 exactly one t fits (specs/Laws), and none of these
-- is above 19,000
unfoldable pub ramp_term : ℕ → ℕ
ramp_term k = greatest (is_ramp_term k) 19000
